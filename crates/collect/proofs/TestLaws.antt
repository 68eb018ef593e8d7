-- Tests on options and tags that fail.
use mathlib.Core.Path.{◌≡◌, refl}
use mathlib.Core.Bool.{Bool, true, false, ◌&&◌}
use Prim.Native.Nat.{ℕ, ◌<◌}
use native.Mathlib.Omega.{arith}
use borrow.Author.Tests.{ne_eqb}
use Rattle.common.proofs.Choice.{absurd_test}
use Rattle.tags.specs.Tags.{is_a, is_textarea, is_image, is_button, is_input}

pub and_less : (a b c : Bool) → (a && b) ≡ false → (a && (b && c)) ≡ false
and_less true true c e = absurd_test refl e
and_less true false c e = refl
and_less false b c e = refl

-- ---- a name before those that add something

module _ {t : ℕ} (h : t < 37) where
  pub early_a : is_a t ≡ false
  early_a = ne_eqb t 37 (omega arith)

  pub early_textarea : is_textarea t ≡ false
  early_textarea = ne_eqb t 38 (omega arith)

  pub early_image : is_image t ≡ false
  early_image = rw (ne_eqb t 39 (omega arith), ne_eqb t 40 (omega arith))

  pub early_button : is_button t ≡ false
  early_button = ne_eqb t 41 (omega arith)

  pub early_input : is_input t ≡ false
  early_input = ne_eqb t 42 (omega arith)
