-- `beginning` meets its contract.
use mathlib.Core.Path.{ap}
use mathlib.Core.Bool.{true}
use Prim.Native.Nat.{ℕ, ◌+◌}
use native.Mathlib.Omega.{arith}
use lib.ListN.{drop}
use Rattle.byte_regex.specs.Joined.{joined}
use Rattle.byte_regex.specs.Meaning.{still}
use Rattle.patterns.specs.Candidates.{CanBegin}
use Rattle.patterns.proofs.CandidateLaws.{none_begins, near_mask, far_mask, both_begin}
use Rattle.patterns.proofs.beginning.Goals.{After-pair-near}
use Rattle.patterns.proofs.beginning.Goals as goal

-- by the two bytes at the place
near : (d : After-pair-near) → CanBegin (still true d.args.at) (drop d.args.at (joined d.args.class.now d.args.id.now)) d.pair-near.result
near d =
    let a = d.args in
    let g = d.group_at-group in
    near_mask (joined a.class.now a.id.now) a.at g.result d.byte.result d.byte-2.result d.pair-near.result d.pair-near.ensures
    g.ensures.0 d.byte.ensures d.byte-2.ensures (omega (arith, d.requires.1, d.if-n-at-lt2.false))

pub returns-then-n-at-lt2 : goal.returns-then-n-at-lt2
returns-then-n-at-lt2 c =
    let a = c.args in
    none_begins (joined a.class.now a.id.now) a.at 0 (omega (arith, c.requires.1, c.if-n-at-lt2.true))

pub returns-then-near-eq0 : goal.returns-then-near-eq0
returns-then-near-eq0 c = near (goal.at.returns-then-near-eq0 c).After-pair-near

pub returns : goal.returns
returns c =
    let a = c.args in
    let g = c.group_at-group in
    both_begin (still true a.at) (drop a.at (joined a.class.now a.id.now)) c.pair-near.result c.pair.result
    (near (goal.at.returns c).After-pair-near)
    (far_mask (joined a.class.now a.id.now) a.at (g.result + 1) c.byte-3.result c.byte-4.result c.pair.result c.pair.ensures
    (ap (λ (n : ℕ). n + 1) g.ensures.0) c.byte-3.ensures c.byte-4.ensures (omega (arith, c.requires.1, c.if-near-eq0.false)))
