-- `pass` meets its contract.
use Rattle.std.specs.Prelude.{Option, Some}
use mathlib.Core.Path.{◌≡◌, sym, ap, ◌∙◌}
use native.Mathlib.Omega.{arith}
use Rattle.collect.specs.declared.Visit.{Visit}
use Rattle.serializer.specs.Serializing.{lent}
use Rattle.walk.specs.declared.cursor.Walk.{Walk}
use Rattle.visits.proofs.Walking.{passed_few}
use Rattle.writing.proofs.PassLaws.{Opened, passing_start, visit_less, visit_line, refused_levels, refused_rows, visit_ready, opened_none, passing_visit, left_out_less, passing_left_out, passing_end}
use Rattle.writing.proofs.SayLaws.{visit_add, visit_added, visit_read}
use Rattle.writing.proofs.pass.Goals.{Joined-opens, then-opens+else-passes_levels+else-passes_rows, else-opens}
use Rattle.writing.proofs.pass.Goals as goal

-- what was seen
saw_visit : {r : Option (Option Visit × Walk)} {q q' : Option Visit} {x : Walk} → r ≡ Some (q, x) → q ≡ q' → r ≡ Some (q', x)
saw_visit {x = x} e f = e ∙ ap (λ (y : Option Visit). Some (y, x)) f

-- whether or not the visit opened an entry
opened : (d : Joined-opens)
    → Opened d.args.o d.args.write d.in-Some-seen.v d.loop-seen.p (lent d.loop-seen.numbering d.loop-seen.cells d.loop-seen.out) d.if-opens.p (lent d.if-opens.numbering d.if-opens.cells d.if-opens.out)
opened d =
    elim d.if-opens.branch [
      | then-opens+else-passes_levels+else-passes_rows w ↦
          record {
            levels = sym w.passes_levels.ensures ∙ w.if-passes_levels.false;
            rows = sym w.passes_rows.ensures ∙ w.if-passes_rows.false;
            opens = rw (w.numbering-is, w.cells-is, w.out-is, w.p-is) w.open-p.ensures;
            levelled = record { numbering = d.if-opens.auto.numbering ∙ d.loop-seen.invariant.levelled.numbering; cells = d.if-opens.auto.cells ∙ d.loop-seen.invariant.levelled.cells };
          }
      | else-opens w ↦
          rw (w.numbering-is, w.cells-is, w.out-is, w.p-is)
          (opened_none d.loop-seen.invariant d.see.new.stack d.see.ensures (saw_visit d.in-Some.is d.in-Some-seen.is) (sym d.opens.ensures ∙ w.if-opens.false))
    ]

pub loop-seen-init : goal.loop-seen-init
loop-seen-init c = let q = c.requires.walked in passing_start _ _ _ _ c.requires.noted.accepted q.0 q.1 q.2 q.3 c.start-p.ensures

pub see-requires : goal.see-requires
see-requires c = record { noted = c.requires.noted; nodes_in_bounds = (c.requires.walked.0.long, c.loop-seen.invariant.walking.stands) }

pub overflow_add-result : goal.overflow_add-result
overflow_add-result c = omega (arith, visit_line c.loop-seen.invariant c.see.new.stack c.see.ensures (saw_visit c.in-Some.is c.in-Some-seen.is))

pub shape_of-stack-then-passes_levels : goal.shape_of-stack-then-passes_levels
shape_of-stack-then-passes_levels c = (omega arith) ∙ c.loop-seen.invariant.walking.same

pub shape_of-numbering-then-passes_levels : goal.shape_of-numbering-then-passes_levels
shape_of-numbering-then-passes_levels c = c.loop-seen.invariant.levelled.numbering ∙ sym c.requires.walked.2

pub shape_of-cells-then-passes_levels : goal.shape_of-cells-then-passes_levels
shape_of-cells-then-passes_levels c = c.loop-seen.invariant.levelled.cells ∙ sym c.requires.walked.3

pub shape_of-out-then-passes_levels : goal.shape_of-out-then-passes_levels
shape_of-out-then-passes_levels c = c.loop-seen.invariant.passes.stands.held.long

pub returns-then-passes_levels : goal.returns-then-passes_levels
returns-then-passes_levels c = record { outcome = refused_levels c.loop-seen.invariant c.see.new.stack c.see.ensures (saw_visit c.in-Some.is c.in-Some-seen.is) (sym c.passes_levels.ensures ∙ c.if-passes_levels.true) }

pub overflow_add-result-then-passes_rows : goal.overflow_add-result-then-passes_rows
overflow_add-result-then-passes_rows c = omega (arith, visit_line c.loop-seen.invariant c.see.new.stack c.see.ensures (saw_visit c.in-Some.is c.in-Some-seen.is))

pub shape_of-stack-then-passes_rows : goal.shape_of-stack-then-passes_rows
shape_of-stack-then-passes_rows c = (omega arith) ∙ c.loop-seen.invariant.walking.same

pub shape_of-numbering-then-passes_rows : goal.shape_of-numbering-then-passes_rows
shape_of-numbering-then-passes_rows c = c.loop-seen.invariant.levelled.numbering ∙ sym c.requires.walked.2

pub shape_of-cells-then-passes_rows : goal.shape_of-cells-then-passes_rows
shape_of-cells-then-passes_rows c = c.loop-seen.invariant.levelled.cells ∙ sym c.requires.walked.3

pub shape_of-out-then-passes_rows : goal.shape_of-out-then-passes_rows
shape_of-out-then-passes_rows c = c.loop-seen.invariant.passes.stands.held.long

pub returns-then-passes_rows : goal.returns-then-passes_rows
returns-then-passes_rows c = record { outcome = refused_rows c.loop-seen.invariant c.see.new.stack c.see.ensures (saw_visit c.in-Some.is c.in-Some-seen.is) (sym c.passes_levels.ensures ∙ c.if-passes_levels.false) (sym c.passes_rows.ensures ∙ c.if-passes_rows.true) }

pub open-p-requires : goal.open-p-requires
open-p-requires c = ((visit_ready c.loop-seen.invariant c.see.new.stack c.see.ensures (saw_visit c.in-Some.is c.in-Some-seen.is) (sym c.passes_levels.ensures ∙ c.if-passes_levels.false) (sym c.passes_rows.ensures ∙ c.if-passes_rows.false) c.requires.write_ready).1.opens, sym c.opens.ensures ∙ c.if-opens.true)

pub add-progress-requires : goal.add-progress-requires
add-progress-requires c =
    let j = opened (goal.at.add-progress-requires c).Joined-opens in
    let r = visit_ready c.loop-seen.invariant c.see.new.stack c.see.ensures (saw_visit c.in-Some.is c.in-Some-seen.is) j.levels j.rows c.requires.write_ready in
    record { visits = r.0; show_ready = visit_add _ r.0 j.opens r.1 }

pub overflow_add-visits : goal.overflow_add-visits
overflow_add-visits c = omega (arith, passed_few c.loop-seen.invariant.walking c.requires.noted.accepted)

pub loop-seen-smaller : goal.loop-seen-smaller
loop-seen-smaller c = visit_less c.loop-seen.invariant c.see.new.stack c.see.ensures (saw_visit c.in-Some.is c.in-Some-seen.is)

pub loop-seen-preserved : goal.loop-seen-preserved
loop-seen-preserved c =
    let i = c.loop-seen.invariant in
    let j = opened (goal.at.loop-seen-preserved c).Joined-opens in
    let v = (visit_ready i c.see.new.stack c.see.ensures (saw_visit c.in-Some.is c.in-Some-seen.is) j.levels j.rows c.requires.write_ready).0 in
    passing_visit i c.see.new.stack c.see.ensures (saw_visit c.in-Some.is c.in-Some-seen.is) (omega arith) (visit_added _ v j.opens c.add-progress.ensures)
    (visit_read _ v j.opens c.add-progress.ensures i.passes) (record { numbering = j.levelled.numbering; cells = j.levelled.cells })

pub loop-seen-smaller-in_default-seen : goal.loop-seen-smaller-in_default-seen
loop-seen-smaller-in_default-seen c = left_out_less c.loop-seen.invariant c.see.new.stack c.see.ensures (saw_visit c.in-Some.is c.in_default-seen.is)

pub loop-seen-preserved-in_default-seen : goal.loop-seen-preserved-in_default-seen
loop-seen-preserved-in_default-seen c = passing_left_out c.loop-seen.invariant c.see.new.stack c.see.ensures (saw_visit c.in-Some.is c.in_default-seen.is) (omega arith)

pub returns : goal.returns
returns c = record { outcome = passing_end c.loop-seen.invariant c.see.new.stack c.see.ensures c.in_default.is }
