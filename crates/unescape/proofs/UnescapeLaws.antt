-- Reading back goes part by part: an ampersand's name, and every other byte by itself.
use Rattle.std.specs.Prelude.{None, Some}
use mathlib.Core.Path.{◌≡◌, refl, ap, ◌∙◌}
use mathlib.Core.Bool.{false}
use mathlib.Core.List.{[], ◌∷◌, ◌++◌}
use Prim.Native.Nat.{ℕ, suc, ◌+◌, ◌<◌}
use native.Mathlib.Nat.{add-zero, add-suc, suc-add}
use native.Mathlib.Omega.{arith}
use lib.ListN.{length, get_or}
use borrow.Author.Tests.{ne_eqb}
use Rattle.common.specs.Bytes.{Bytes, codes}
use Rattle.text.specs.Text.{escaped}
use Rattle.text.proofs.EscapeLaws.{escaped_sorts}
use Rattle.unescape.specs.Unescape.{ampersand, starts_with, entity_among, entity, no_entity_from, unescaped_from, unescaped}

module _ (c : ℕ) (n : c ≡ ampersand → ⊥) (s : Bytes) where
  starts_other : (word : Bytes) → starts_with (ampersand ∷ word) (c ∷ s) ≡ false
  unfolding starts_with
  starts_other word = rw (ne_eqb c ampersand n, starts_with)

  -- a byte that is no ampersand starts no name
  entity_other : entity (c ∷ s) ≡ None
  unfolding entity_among escaped codes
  entity_other =
      rw (starts_other (codes "amp;"), starts_other (codes "quot;"), starts_other (codes "lt;"), starts_other (codes "gt;"), entity_among)

  pub unescaped_other : unescaped (c ∷ s) ≡ c ∷ unescaped s
  unfolding unescaped_from
  unescaped_other = rw (entity_other, unescaped_from)

  pub none_other : (at : ℕ) → no_entity_from at (c ∷ s) ≡ no_entity_from (suc at) s
  unfolding no_entity_from
  none_other at = rw (ne_eqb c ampersand n, no_entity_from)

-- ---- a character as `escape` has it

pub unescaped_escaped : (c : ℕ) (s : Bytes) → unescaped (escaped c ++ s) ≡ c ∷ unescaped s
unfolding unescaped_from entity_among starts_with escaped codes
unescaped_escaped =
    escaped_sorts (λ c word. (s : Bytes) → unescaped (word ++ s) ≡ c ∷ unescaped s)
    (λ s. refl) (λ s. refl) (λ s. refl) (λ s. refl) unescaped_other

pub none_escaped : (c at : ℕ) (s : Bytes) → no_entity_from at (escaped c ++ s) ≡ no_entity_from (at + length (escaped c)) s
unfolding no_entity_from entity_among starts_with escaped codes
none_escaped =
    escaped_sorts (λ c word. (at : ℕ) (s : Bytes) → no_entity_from at (word ++ s) ≡ no_entity_from (at + length word) s)
    (λ at s. moved s (omega arith)) (λ at s. moved s (omega arith)) (λ at s. moved s (omega arith)) (λ at s. moved s (omega arith))
    (λ c n at s. none_other c n s at ∙ moved s (omega arith))
  where
    moved : {at then : ℕ} (s : Bytes) → at ≡ then → no_entity_from at s ≡ no_entity_from then s
    moved s e = ap (λ (i : ℕ). no_entity_from i s) e

-- ---- a run of bytes without an ampersand

abbrev pub Free : Bytes → Type 0
Free s = (k : ℕ) → k < length s → get_or s k 0 ≡ ampersand → ⊥

free_rest : (c : ℕ) (r : Bytes) → Free (c ∷ r) → Free r
free_rest c r f k h = f (suc k) (omega arith)

pub unescaped_run : (r s : Bytes) → Free r → unescaped (r ++ s) ≡ r ++ unescaped s
unescaped_run [] s f = refl
unescaped_run (c ∷ r) s f = unescaped_other c (f 0 (omega arith)) (r ++ s) ∙ ap (λ (t : Bytes). c ∷ t) (unescaped_run r s (free_rest c r f))

pub none_run : (r s : Bytes) (at : ℕ) → Free r → no_entity_from at (r ++ s) ≡ no_entity_from (at + length r) s
none_run [] s at f = rw add-zero
none_run (c ∷ r) s at f = none_other c (f 0 (omega arith)) (r ++ s) at ∙ none_run r s (suc at) (free_rest c r f) ∙ rw (suc-add, ← add-suc)

-- ---- an ampersand that starts no name

module _ (s : Bytes) (n : entity (ampersand ∷ s) ≡ None) where
  pub unescaped_none : unescaped (ampersand ∷ s) ≡ ampersand ∷ unescaped s
  unfolding unescaped_from
  unescaped_none = rw (n, unescaped_from)

  pub none_none : (at : ℕ) → no_entity_from at (ampersand ∷ s) ≡ Some at
  unfolding no_entity_from
  none_none at = rw (n, no_entity_from)
