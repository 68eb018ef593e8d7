-- `collapsed_from` meets its contract.
use Prim.Native.Nat.{◌+◌}
use mathlib.Core.Path.{◌≡◌}
use lib.ListN.{length, drop}
use Rattle.text.specs.Text.{is_space, collapse_from, space_after}
use Rattle.text.proofs.collapsed_from.Given as goal

abbrev pub invariant-loop-b : goal.invariant-loop-b
invariant-loop-b l = (l.n + length (collapse_from is_space l.before (drop l.b-index l.s)) ≡ length (collapse_from is_space l.space l.s)) × (space_after is_space l.before (drop l.b-index l.s) ≡ space_after is_space l.space l.s)
