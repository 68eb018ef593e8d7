-- `decide_tree` meets its contract.
use mathlib.Core.Path.{◌∙◌}
use native.Mathlib.Omega.{arith}
use Rattle.left_out.specs.LeftOut.{left_out_at}
use Rattle.left_out.proofs.DecidingLaws.{next_later, deciding_root, deciding_more, deciding_end}
use Rattle.left_out.proofs.LeftOutLaws.{rows_are, column_well_formed, column_fits, undecided, left_as_decided}
use Rattle.left_out.proofs.StackLaws.{entered_root, entered_next}
use Rattle.left_out.proofs.decide_tree.Goals as goal

pub bounds-depths-root : goal.bounds-depths-root
bounds-depths-root c = let n = c.requires.noted.0 in omega (arith, rows_are n, n.accepted.sized.root)

pub overflow_cast-top : goal.overflow_cast-top
overflow_cast-top c = omega (arith, c.type_inv.depths c.args.l.root)

pub enter-requires : goal.enter-requires
enter-requires c =
    let p = c.requires.noted in
    (column_well_formed p.0, omega (arith, rows_are p.0, p.0.accepted.sized.root), column_fits p.0 _ p.2)

pub decide_row-k-requires : goal.decide_row-k-requires
decide_row-k-requires c =
    let p = c.requires in
    let n = c.requires.noted.0 in
    let m = c.requires.noted.1 in
    let rows = rows_are n in
    undecided n p.main_content_value.0 p.main_content_value.1 (omega (arith, n.accepted.sized.root)) (omega arith) (omega (arith, m.long)) (m.noted _ n.accepted.sized.root)
    (column_fits n _ (omega (arith, c.stack-1.given, p.noted.2))) c.enter.ensures

pub loop-k-init : goal.loop-k-init
loop-k-init c =
    let a = c.args in
    let p = c.requires in
    let n = c.requires.noted.0 in
    let m = c.requires.noted.1 in
    let rows = rows_are n in
    let root = c.requires.noted.0.accepted.sized.root in
    let r = c.decide_row-k.ensures in (
      deciding_root _ _ _ _ c.args.left.now (omega arith) (omega (arith, m.long)) (λ j h. m.noted j (omega arith)) r.0 r.1,
      entered_root _ (column_well_formed n) (column_fits n _ (omega (arith, c.stack-1.given, p.noted.2))) c.enter.ensures (omega arith) r.2 (left_out_at a.s.now a.l a.o a.l.root) r.1,
    )

pub offset_bounds-depths-k : goal.offset_bounds-depths-k
offset_bounds-depths-k c = let n = c.requires.noted.0 in omega (arith, rows_are n, n.accepted.sized.nodes, c.loop-k-test.true)

pub bounds-depths-k : goal.bounds-depths-k
bounds-depths-k c = c.loop-k-test.true

pub overflow_cast-depths : goal.overflow_cast-depths
overflow_cast-depths c = omega (arith, c.type_inv.depths c.loop-k.k)

pub shape_of-left-then-depths-k : goal.shape_of-left-then-depths-k
shape_of-left-then-depths-k c = c.loop-k.invariant.0.same ∙ c.left-1.given

pub shape_of-stack-then-depths-k : goal.shape_of-stack-then-depths-k
shape_of-stack-then-depths-k c = c.loop-k.invariant.1.same ∙ c.stack-2-1.given ∙ c.stack-1.given

pub returns-then-depths-k : goal.returns-then-depths-k
returns-then-depths-k c = left_as_decided c.requires.noted.0 c.args.o c.loop-k.left (deciding_end _ _ _ _ c.loop-k.invariant.0 (λ h. c.if-depths-k.true))

pub decide_row-k-requires-in-loop-k : goal.decide_row-k-requires-in-loop-k
decide_row-k-requires-in-loop-k c =
    let p = c.requires in
    let g = c.loop-k.invariant.0 in
    let e = c.loop-k.invariant.1 in
    undecided p.noted.0 p.main_content_value.0 p.main_content_value.1 c.loop-k-test.true (omega (arith, c.if-depths-k.false)) g.long (g.ahead _ (omega arith) c.loop-k-test.true) e.fits e.above

pub loop-k-smaller : goal.loop-k-smaller
loop-k-smaller c =
    let a = c.args in
    omega (arith, next_later a.depths.now (left_out_at a.s.now a.l a.o c.loop-k.k) c.loop-k.k c.decide_row-k-in-loop-k.ensures.1)

pub loop-k-preserved : goal.loop-k-preserved
loop-k-preserved c =
    let a = c.args in
    let r = c.decide_row-k-in-loop-k.ensures in (
      deciding_more _ _ _ _ c.loop-k.invariant.0 c.loop-k-test.true c.if-depths-k.false r.0 r.1,
      entered_next _ (column_well_formed c.requires.noted.0) c.loop-k.invariant.1 c.loop-k-test.true r.2 (left_out_at a.s.now a.l a.o c.loop-k.k) r.1,
    )

pub shape_of-left : goal.shape_of-left
shape_of-left c = c.loop-k.invariant.0.same ∙ c.left-1.given

pub shape_of-stack : goal.shape_of-stack
shape_of-stack c = c.loop-k.invariant.1.same ∙ c.stack-2-1.given ∙ c.stack-1.given

pub returns : goal.returns
returns c = left_as_decided c.requires.noted.0 c.args.o c.loop-k.left (deciding_end _ _ _ _ c.loop-k.invariant.0 (λ h. absurd (omega (arith, c.loop-k-test.false))))
