-- `push_collapsed` meets its contract.
use mathlib.Core.Path.{refl, sym, ap}
use native.Mathlib.Omega.{arith}
use Rattle.common.proofs.Parts.{part_from}
use Rattle.text.specs.Text.{is_ascii_whitespace, collapse_from, collapse_by}
use Rattle.writer.proofs.DoesLaws.{grows_push_all, ready_same, does_same}
use Rattle.visible_text.proofs.CollapsedLaws.{rest_eight}
use Rattle.visible_text.proofs.LeftLaws.{left_start, left_more, left_ready, left_part, left_end, left_length}
use Rattle.visible_text.proofs.texts.push_collapsed.Goals as goal

pub loop-i-init : goal.loop-i-init
loop-i-init c = (omega arith, left_start _ (λ o. refl))

pub push_eight-q-requires : goal.push_eight-q-requires
unfolding collapse_by
push_eight-q-requires c =
    record {
      at_in_bounds = omega arith;
      ready_by = left_part c.loop-i.invariant.1 _ _ (rest_eight c.loop-i.space c.args.s.now c.loop-i.i (omega arith) refl)
          (grows_push_all _) c.requires;
    }

pub loop-i-preserved : goal.loop-i-preserved
loop-i-preserved c = (
  omega arith,
  left_more c.loop-i.invariant.1 _ c.push_eight-q.ensures
      (rest_eight c.loop-i.space c.args.s.now c.loop-i.i (omega arith) c.is_blank-space.ensures),
)

pub push_bytes-requires : goal.push_bytes-requires
unfolding collapse_by
push_bytes-requires c =
    ready_same (ap (collapse_from is_ascii_whitespace c.loop-i.space) (sym (part_from c.args.s.now c.loop-i.i)))
    (left_ready c.loop-i.invariant.1 c.requires)

pub shape_of-out : goal.shape_of-out
unfolding collapse_by
shape_of-out c = omega (arith, left_length c.loop-i.invariant.1 c.requires)

pub returns : goal.returns
unfolding collapse_by
returns c =
    left_end c.loop-i.invariant.1
    (does_same (ap (collapse_from is_ascii_whitespace c.loop-i.space) (sym (part_from c.args.s.now c.loop-i.i)))
    c.push_bytes.ensures)
