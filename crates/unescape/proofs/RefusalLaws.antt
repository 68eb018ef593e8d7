-- The first ampersand that starts none of the names is the one that is found.
use Rattle.std.proofs.lemmas.Option.{none-some, same_Some}
use Rattle.std.specs.Prelude.{Option, None, Some}
use mathlib.Core.Path.{◌≡◌, refl, sym, ap, ◌∙◌}
use mathlib.Core.List.{[], ◌∷◌}
use Prim.Native.Nat.{ℕ, zero, suc, ◌+◌, ◌<◌}
use native.Mathlib.Nat.{add-zero}
use native.Mathlib.Omega.{arith}
use lib.Dec.{eqb}
use lib.ListN.{get_or, drop}
use borrow.Author.Tests.{eqb-true, eqb-false}
use Rattle.common.specs.Bytes.{Bytes}
use Rattle.common.proofs.Choice.{by_test}
use Rattle.unescape.specs.Theorems.{FirstNoEntity}
use Rattle.unescape.specs.Unescape.{ampersand, no_entity, entity, no_entity_from, unescaped, unescape}
use Rattle.unescape.proofs.InverseLaws.{offset_is}
use Rattle.unescape.proofs.UnescapeLaws.{none_other, none_none}

-- ---- a byte more in front

-- an ampersand that starts a name
none_name : (s : Bytes) (c at : ℕ) → entity (ampersand ∷ s) ≡ Some c → no_entity_from at (ampersand ∷ s) ≡ no_entity_from (suc at) s
unfolding no_entity_from
none_name s c at e = rw (e, no_entity_from)

-- c is no ampersand, or starts a name
abbrev Passed : ℕ → Bytes → Type 0
Passed c s = c ≡ ampersand → entity (c ∷ s) ≡ None → ⊥

module _ {c : ℕ} {s : Bytes} where
  first_later : {i : ℕ} → Passed c s → FirstNoEntity s i → FirstNoEntity (c ∷ s) (suc i)
  first_later {i} p f =
      record { there = omega (arith, f.there); is_ampersand = f.is_ampersand; starts_none = f.starts_none; earlier = earlier }
    where
      earlier : (k : ℕ) → k < suc i → get_or (c ∷ s) k 0 ≡ ampersand → entity (drop k (c ∷ s)) ≡ None → ⊥
      earlier zero h = p
      earlier (suc k) h = f.earlier k (omega arith)

  first_behind : {i : ℕ} → FirstNoEntity (c ∷ s) (suc i) → FirstNoEntity s i
  first_behind f =
      record {
        there = omega (arith, f.there);
        is_ampersand = f.is_ampersand;
        starts_none = f.starts_none;
        earlier = λ k h. f.earlier (suc k) (omega arith);
      }

-- what stands in front, by the three ways of reading it
module _ {ℓ} (c : ℕ) (s : Bytes) {A : Type ℓ} (at : ℕ) where
  by_front : (c ≡ ampersand → entity (c ∷ s) ≡ None → no_entity_from at (c ∷ s) ≡ Some at → A)
      → (Passed c s → no_entity_from at (c ∷ s) ≡ no_entity_from (suc at) s → A) → A
  by_front here later =
      by_test (eqb c ampersand) (λ t. by_entity (eqb-true c ampersand t) (entity (c ∷ s)) refl)
      (λ t. let n = eqb-false c ampersand t in later (λ e x. n e) (none_other c n s at))
    where
      by_entity : c ≡ ampersand → (o : Option ℕ) → entity (c ∷ s) ≡ o → A
      by_entity e None o = here e o (rw e (none_none s (rw e at o) at))
      by_entity e (Some d) o = later (λ x n. none-some d (sym (sym o ∙ n))) (rw e (none_name s d at (rw e at o)))

-- ---- found, and only it

-- at `at` the text starts
found : (s : Bytes) (at i : ℕ) → no_entity_from at s ≡ Some i → (k : ℕ) × (i ≡ at + k) × FirstNoEntity s k
unfolding no_entity_from
found [] at i e = absurd (none-some i e)
found (c ∷ s) at i e =
    by_front c s at
    (λ a n f. (
      0,
      sym (same_Some at i (sym f ∙ e)) ∙ sym (add-zero at),
      record { there = omega arith; is_ampersand = a; starts_none = n; earlier = λ k h. absurd (omega arith) },
    ))
    (λ p f.
    let q = found s (suc at) i (sym f ∙ e) in
    (suc q.0, omega (arith, q.1), first_later p q.2))

finds : (s : Bytes) (at i : ℕ) → FirstNoEntity s i → no_entity_from at s ≡ Some (at + i)
finds [] at i f = absurd (omega (arith, f.there))
finds (c ∷ s) at zero f = by_front c s at (λ a n e. e ∙ rw add-zero) (λ p e. absurd (p f.is_ampersand f.starts_none))
finds (c ∷ s) at (suc i) f =
    by_front c s at (λ a n e. absurd (f.earlier 0 (omega arith) a n))
    (λ p e. e ∙ finds s (suc at) i (first_behind f) ∙ ap (λ (k : ℕ). Some k) (moved at i))
  where
    moved : (at i : ℕ) → suc at + i ≡ at + suc i
    moved at i = omega arith

pub refused_first : (s : Bytes) (i : ℕ) → FirstNoEntity s i → unescape s ≡ no_entity i
unfolding unescape
refused_first s i f = rw (finds s 0 i f ∙ ap (λ (k : ℕ). Some k) (whole i))
  where
    whole : (i : ℕ) → 0 + i ≡ i
    whole i = omega arith

pub refused_only : (s : Bytes) (i : ℕ) → unescape s ≡ no_entity i → FirstNoEntity s i
unfolding unescape
refused_only s i e =
    let p = found s 0 i (offset_is (no_entity_from 0 s) (unescaped s) i e) in
    let same : i ≡ p.0 = omega (arith, p.1) in
    rw same p.2
