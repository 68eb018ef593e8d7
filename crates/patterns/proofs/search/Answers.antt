-- `search` meets its contract.
use mathlib.Core.Path.{ap, ◌∙◌}
use Prim.Native.Nat.{ℕ}
use native.Mathlib.Omega.{arith}
use Rattle.byte_regex.specs.Joined.{joined}
use Rattle.byte_regex.specs.Meaning.{holds}
use Rattle.patterns.specs.Steps.{all_steps}
use Rattle.patterns.specs.Numbers.{number_of}
use Rattle.patterns.proofs.NumberLaws.{number_lt}
use Rattle.patterns.proofs.SearchLaws.{search_start, search_yes, search_more, search_end}
use Rattle.patterns.proofs.search.Goals as goal

pub loop-at-init : goal.loop-at-init
loop-at-init c =
    let a = c.args in
    search_start (number_of a.pattern) (number_lt a.pattern) (joined a.class.now a.id.now)

pub begins-requires : goal.begins-requires
begins-requires c = (c.from-first.ensures ∙ c.start.ensures, c.loop-at-test.true, c.requires)

pub returns-then-begins : goal.returns-then-begins
returns-then-begins c =
    let a = c.args in
    let l = c.loop-at in
    search_yes (number_of a.pattern) (number_lt a.pattern) (joined a.class.now a.id.now) l.at l.invariant c.begins.result (c.begins.ensures ∙ ap (λ (i : ℕ). holds all_steps i (joined a.class.now a.id.now) l.at) (c.from-first.ensures ∙ c.start.ensures)) c.if-begins.true

pub loop-at-preserved : goal.loop-at-preserved
loop-at-preserved c =
    let a = c.args in
    let l = c.loop-at in
    search_more (number_of a.pattern) (number_lt a.pattern) (joined a.class.now a.id.now) l.at l.invariant c.begins.result (c.begins.ensures ∙ ap (λ (i : ℕ). holds all_steps i (joined a.class.now a.id.now) l.at) (c.from-first.ensures ∙ c.start.ensures)) (omega (arith, c.loop-at-test.true, c.requires)) c.if-begins.false

pub returns : goal.returns
returns c =
    let a = c.args in
    let l = c.loop-at in
    search_end (number_of a.pattern) (number_lt a.pattern) (joined a.class.now a.id.now) l.at l.invariant (omega (arith, c.loop-at-test.false, c.requires))
