-- A name's number among those that the steps tell apart.
use mathlib.Core.Path.{◌≡◌, refl, sym, ap, ◌∙◌}
use mathlib.Core.Bool.{Bool, true, false}
use mathlib.Core.List.{List, [], ◌∷◌}
use Prim.Native.Nat.{ℕ, ◌≤◌}
use lib.Dec.{leb}
use lib.ListN.{length}
use borrow.Author.Tests.{le-leb}
use Rattle.common.specs.Bytes.{Bytes, codes, same}
use Rattle.common.proofs.Choice.{by_test, absurd_test}
use Rattle.common.proofs.Equality.{same_true}
use Rattle.tags.specs.Packed.{pack_of, packed}
use Rattle.tags.specs.Words.{words, first_word, other_words, one_of}
use Rattle.tags.proofs.PackLaws.{AllBytes, listed, no_other, packed_name}
use Rattle.tags.proofs.WordLaws.{each, each_at, one_word}
use Rattle.visible_text.specs.Inner.{step_of}
use Rattle.visible_text.specs.VisibleText.{is_block_element, is_silent}

-- all names that are told apart
abbrev pub known : List Bytes
known = words "script style noscript br address article aside blockquote canvas dd div dl dt fieldset figcaption figure footer form h1 h2 h3 h4 h5 h6 header hr li main nav ol p pre section table tfoot ul video"

module _ (s : Bytes) (h : one_of s known ≡ false) where
  none_of_them : (ws : List Bytes) → each (λ w. one_of w known) ws ≡ true → one_of s ws ≡ false
  none_of_them ws t = by_test (one_of s ws) (λ e. absurd_test (each_at (λ w. one_of w known) ws t s e) h) (λ e. e)

  not_it : (w : Bytes) → each (λ v. one_of v known) (w ∷ []) ≡ true → same s w ≡ false
  not_it w t = sym (one_word s w) ∙ none_of_them (w ∷ []) t

  pub unlisted : step_of s ≡ 0
  unfolding step_of is_silent is_block_element one_of words first_word other_words codes same
  unlisted =
      rw (
        none_of_them (words "script style noscript") refl,
        not_it (codes "pre") refl,
        not_it (codes "br") refl,
        none_of_them (words "address article aside blockquote canvas dd div dl dt fieldset figcaption figure footer form h1 h2 h3 h4 h5 h6 header hr li main nav ol p pre section table tfoot ul video") refl,
      )

pub packed_step : (range : ℕ → Bool) (ws : List Bytes) → listed known range ws ≡ true
    → (s : Bytes) → AllBytes s → range (length s) ≡ true → {v step : ℕ} → step ≡ packed step_of 0 ws v → v ≡ pack_of s → step ≡ step_of s
packed_step = packed_name step_of 0 known unlisted

-- ---- names of 8 bytes and more

abbrev long_names : List Bytes
long_names = codes "noscript" ∷ codes "fieldset" ∷ codes "blockquote" ∷ codes "figcaption" ∷ []

pub step_at : (s w : Bytes) {n : ℕ} → same s w ≡ true → n ≡ step_of w → n ≡ step_of s
step_at s w e p = p ∙ ap step_of (sym (same_true s w e))

pub long_none : (s : Bytes) → 8 ≤ length s → one_of s long_names ≡ false → 0 ≡ step_of s
unfolding one_of words codes first_word other_words same
long_none s h e = sym (no_other step_of 0 known unlisted (leb 8) long_names refl s (le-leb 8 (length s) h) e)
