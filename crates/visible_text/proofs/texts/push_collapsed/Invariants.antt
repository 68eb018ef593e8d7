-- `push_collapsed` meets its contract.
use mathlib.Core.Bool.{false}
use Prim.Native.Nat.{◌-◌, ◌≤◌}
use lib.ListN.{length}
use Rattle.text.specs.Text.{is_ascii_whitespace}
use Rattle.visible_text.proofs.CollapsedLaws.{rest}
use Rattle.visible_text.proofs.LeftLaws.{Left}
use Rattle.visible_text.proofs.texts.push_collapsed.Given as goal

abbrev pub invariant-loop-i : goal.invariant-loop-i
invariant-loop-i l =
    (l.i ≤ length l.s) × Left is_ascii_whitespace l.write l.initial.q l.initial.out (rest false l.s 0) l.q l.out (rest l.space l.s l.i)

abbrev pub decreases-loop-i : goal.decreases-loop-i
decreases-loop-i l = length l.s - l.i
