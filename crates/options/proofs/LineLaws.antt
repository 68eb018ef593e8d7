-- The option line's flags, one after the other.
use mathlib.Core.Path.{◌≡◌, refl, ap, ◌∙◌}
use mathlib.Core.Bool.{Bool, true, false, ◌&&◌}
use mathlib.Core.List.{[], ◌∷◌}
use Prim.Native.Nat.{◌≤◌}
use lib.ListN.{length}
use borrow.Author.Tests.{leb-true}
use Rattle.std.specs.List.{list_all}
use Rattle.common.specs.Bytes.{Bytes}
use Rattle.common.proofs.Choice.{and_parts}
use Rattle.common.proofs.TestLaws.{and_no}
use Rattle.options.specs.Line.{line_length, is_flag, flags_right, line_right}

pub flags_all : (s : Bytes) → list_all is_flag s ≡ flags_right s
unfolding flags_right
flags_all [] = refl
flags_all (b ∷ s) = ap (λ r. is_flag b && r) (flags_all s)

-- a line that is right is there whole
pub line_long : (s : Bytes) → line_right s ≡ true → line_length ≤ length s
unfolding line_right
line_long s e = leb-true line_length (length s) (and_parts _ _ e).0

-- ---- tests that are joined from the left

pub so_far : {v a : Bool} (b : Bool) → v ≡ a → a ≡ false → v ≡ (a && b)
so_far b p e = p ∙ e ∙ and_no b e

shifted : (a b c d : Bool) → (((a && b) && c) && d) ≡ (a && (b && (c && d)))
shifted false b c d = refl
shifted true false c d = refl
shifted true true c d = refl

pub joined : (a b c d : Bool) {v w r : Bool} → v ≡ (a && b) → w ≡ (v && c) → r ≡ (w && d) → r ≡ (a && (b && (c && d)))
joined a b c d p q t = rw (t, q, p) (shifted a b c d)
