-- `push_bytes` meets its contract.
use mathlib.Core.Path.{refl}
use Rattle.writer.proofs.DoesLaws.{grows_push_all}
use Rattle.visible_text.proofs.CollapsedLaws.{rest_then, rest_none}
use Rattle.visible_text.proofs.LeftLaws.{left_start, left_more, left_part, left_done, left_length}
use Rattle.visible_text.proofs.texts.push_bytes.Goals as goal

pub loop-b-init : goal.loop-b-init
loop-b-init c = left_start _ (λ o. refl)

pub push_squeezed-q-requires : goal.push_squeezed-q-requires
push_squeezed-q-requires c =
    left_part c.loop-b.invariant _ _
    (rest_then _ _ _ c.loop-b-test.true c.is_blank-blank.ensures)
    (grows_push_all _) c.requires

pub loop-b-preserved : goal.loop-b-preserved
loop-b-preserved c = left_more c.loop-b.invariant _ c.push_squeezed-q.ensures (rest_then _ _ _ c.loop-b-test.true c.is_blank-blank.ensures)

pub shape_of-out : goal.shape_of-out
shape_of-out c = left_length c.loop-b.invariant c.requires

pub returns : goal.returns
returns c = left_done c.loop-b.invariant (rest_none _ _ _ c.loop-b-test.false)
