-- `push_bytes` meets its contract.
use Rattle.text.specs.Text.{is_ascii_whitespace}
use Rattle.visible_text.proofs.CollapsedLaws.{rest}
use Rattle.visible_text.proofs.LeftLaws.{Left}
use Rattle.visible_text.proofs.texts.push_bytes.Given as goal

abbrev pub invariant-loop-b : goal.invariant-loop-b
invariant-loop-b l =
    Left is_ascii_whitespace l.write l.initial.q l.initial.out (rest l.space l.s 0) l.q l.out (rest l.last l.s l.b-index)
