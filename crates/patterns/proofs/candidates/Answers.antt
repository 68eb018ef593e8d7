-- `candidates` meets its contract.
use native.Mathlib.Omega.{arith}
use Rattle.byte_regex.specs.Joined.{joined}
use Rattle.patterns.proofs.SearchLaws.{collect_start, collect_more, collect_end}
use Rattle.patterns.proofs.candidates.Goals as goal

pub loop-at-init : goal.loop-at-init
loop-at-init c =
    let a = c.args in
    collect_start (joined a.class.now a.id.now)

pub beginning-set-requires : goal.beginning-set-requires
beginning-set-requires c = (c.loop-at-test.true, c.size-n.ensures)

pub loop-at-preserved : goal.loop-at-preserved
loop-at-preserved c =
    let a = c.args in
    let l = c.loop-at in
    collect_more (joined a.class.now a.id.now) l.set l.at c.beginning-set.result l.invariant (omega (arith, c.loop-at-test.true, c.size-n.ensures)) c.beginning-set.ensures

pub returns : goal.returns
returns c =
    let a = c.args in
    let l = c.loop-at in
    collect_end (joined a.class.now a.id.now) l.set l.at l.invariant (omega (arith, c.loop-at-test.false, c.size-n.ensures))
