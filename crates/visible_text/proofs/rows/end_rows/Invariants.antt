-- `end_rows` meets its contract.
use Prim.Native.Nat.{◌-◌}
use Rattle.text.specs.Text.{is_ascii_whitespace}
use Rattle.visible_text.specs.Inner.{ends_of}
use Rattle.visible_text.proofs.LeftLaws.{Left}
use Rattle.visible_text.proofs.rows.end_rows.Given as goal

abbrev pub invariant-loop-n : goal.invariant-loop-n
invariant-loop-n l =
    Left is_ascii_whitespace l.write l.initial.q l.initial.out (ends_of l.steps l.count (l.count - l.left)) l.q l.out (ends_of l.steps l.n (l.n - l.left))
