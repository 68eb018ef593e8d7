-- `put_name` meets its contract.
use mathlib.Core.List.{[], ◌∷◌}
use native.Mathlib.Omega.{arith}
use Rattle.common.specs.Bytes.{codes}
use Rattle.writer.proofs.DoesLaws.{ready_same, does_same, does_append, ready_left, ready_right}
use Rattle.serializer.proofs.HtmlLaws.{name_ul, name_ol, name_p, name_heading, heading_between}
use Rattle.serializer.proofs.html.put_name.Goals as goal

pub put-requires : goal.put-requires
unfolding codes
put-requires c = ready_same (name_ul _ c.if-tag-eq-UL.true) c.requires.ready

pub returns-then-tag-eq-UL : goal.returns-then-tag-eq-UL
unfolding codes
returns-then-tag-eq-UL c = does_same (name_ul _ c.if-tag-eq-UL.true) c.put.ensures

pub put-requires-then-tag-eq-OL : goal.put-requires-then-tag-eq-OL
unfolding codes
put-requires-then-tag-eq-OL c = ready_same (name_ol _ c.if-tag-eq-OL.true) c.requires.ready

pub returns-then-tag-eq-OL : goal.returns-then-tag-eq-OL
unfolding codes
returns-then-tag-eq-OL c = does_same (name_ol _ c.if-tag-eq-OL.true) c.put-then-tag-eq-OL.ensures

pub put-requires-then-tag-eq-P : goal.put-requires-then-tag-eq-P
unfolding codes
put-requires-then-tag-eq-P c = ready_same (name_p _ c.if-tag-eq-P.true) c.requires.ready

pub returns-then-tag-eq-P : goal.returns-then-tag-eq-P
unfolding codes
returns-then-tag-eq-P c = does_same (name_p _ c.if-tag-eq-P.true) c.put-then-tag-eq-P.ensures

pub push-q-requires : goal.push-q-requires
push-q-requires c = ready_left (104 ∷ []) _ (ready_same (name_heading _ c.requires.tag_value c.if-tag-eq-UL.false c.if-tag-eq-OL.false c.if-tag-eq-P.false) c.requires.ready)

pub overflow_sub-tag : goal.overflow_sub-tag
overflow_sub-tag c = omega (arith, heading_between _ c.requires.tag_value c.if-tag-eq-UL.false c.if-tag-eq-OL.false)

pub overflow_add-tag : goal.overflow_add-tag
overflow_add-tag c = omega (arith, heading_between _ c.requires.tag_value c.if-tag-eq-UL.false c.if-tag-eq-OL.false)

pub push-requires : goal.push-requires
push-requires c = ready_right (104 ∷ []) _ c.push-q.ensures (ready_same (name_heading _ c.requires.tag_value c.if-tag-eq-UL.false c.if-tag-eq-OL.false c.if-tag-eq-P.false) c.requires.ready)

pub returns : goal.returns
returns c = does_same (name_heading _ c.requires.tag_value c.if-tag-eq-UL.false c.if-tag-eq-OL.false c.if-tag-eq-P.false) (does_append (104 ∷ []) _ c.push-q.ensures c.push.ensures)
