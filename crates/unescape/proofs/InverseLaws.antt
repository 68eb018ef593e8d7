-- `unescape` undoes `escape`, and is undone by it where no quote and no angle bracket is bare.
use Rattle.std.proofs.lemmas.Option.{none-some}
use mathlib.Core.Path.{◌≡◌, refl, sym, ap, ◌∙◌, subst}
use mathlib.Core.Bool.{true, false, ◌||◌}
use mathlib.Core.List.{[], ◌∷◌, ◌++◌}
use Prim.Native.Nat.{ℕ, zero, suc, ◌+◌, ◌≤◌, ◌<◌}
use native.Mathlib.Omega.{arith}
use lib.Dec.{eqb}
use lib.ListN.{length, get_or, drop, length-append, length-drop, get_or-append}
use lib.Seq.{drop-append_seam}
use borrow.Author.Tests.{eqb-true, eqb-false, le-ltb}
use Rattle.common.specs.Bytes.{Bytes, codes, padded}
use Rattle.common.proofs.Choice.{by_test, absurd_test}
use Rattle.common.proofs.TestLaws.{or_cases, or_neither}
use Rattle.text.specs.Text.{escape, escaped}
use Rattle.text.proofs.EscapeLaws.{escaped_cases, escaped_other, escaped_length}
use Rattle.unescape.specs.Answers.{unescaped_in, unescaped_out}
use Rattle.unescape.specs.Theorems.{is_bare, holds_bare}
use Rattle.unescape.specs.Unescape.{ampersand, Reading, text, no_entity, entity}
use Rattle.unescape.specs.Unescape.{no_entity_from, unescaped_from, unescaped, reading_by, unescape}
use Rattle.std.specs.Prelude.{Ok, Option, None, Some}
use Rattle.unescape.proofs.StartsLaws.{entity_split}
use Rattle.unescape.proofs.UnescapeLaws.{unescaped_other, none_other, unescaped_escaped, none_escaped, unescaped_none, none_none}

-- ---- undoing after escaping

unescaped_escape : (t : Bytes) → unescaped (escape t) ≡ t
unfolding escape unescaped_from
unescaped_escape [] = refl
unescaped_escape (c ∷ t) = unescaped_escaped c (escape t) ∙ ap (λ (r : Bytes). c ∷ r) (unescaped_escape t)

none_escape : (t : Bytes) (at : ℕ) → no_entity_from at (escape t) ≡ None
unfolding escape no_entity_from
none_escape [] at = refl
none_escape (c ∷ t) at = none_escaped c at (escape t) ∙ none_escape t (at + length (escaped c))

pub undoes : (t : Bytes) → unescape (escape t) ≡ text t
unfolding unescape
undoes t = rw (none_escape t 0, unescaped_escape t)

pub undoes_called : (t out : Bytes) → length t ≤ length out
    → (unescaped_in (escape t) (length out) ≡ Ok (length t)) × (unescaped_out (escape t) out ≡ padded t (length out))
undoes_called t out h = rw (undoes t, le-ltb (length out) (length t) h) (refl, refl)

-- ---- every text from left to right: a name, another byte, or an ampersand that starts no name

module _ (P : Bytes → Type 0) (end : P []) (name : (c : ℕ) (s : Bytes) → 1 < length (escaped c) → P s → P (escaped c ++ s))
    (other : (c : ℕ) (s : Bytes) → (c ≡ ampersand → ⊥) → P s → P (c ∷ s))
    (no_name : (s : Bytes) → entity (ampersand ∷ s) ≡ None → P s → P (ampersand ∷ s)) where
  -- an ampersand, where it holds of all shorter texts
  by_entity : (s : Bytes) → ((t : Bytes) → length t ≤ length s → P t) → (o : Option ℕ) → entity (ampersand ∷ s) ≡ o → P (ampersand ∷ s)
  by_entity s shorter None e = no_name s e (shorter s (omega arith))
  by_entity s shorter (Some c) e =
      let p = entity_split (ampersand ∷ s) c e in
      let rest = drop (length (escaped c)) (ampersand ∷ s) in
      subst P (sym p.0) (name c rest p.1 (shorter rest (omega (arith, length-drop (length (escaped c)) (ampersand ∷ s), p.1))))

  longer : (n : ℕ) → ((t : Bytes) → length t ≤ n → P t) → (s : Bytes) → length s ≤ suc n → P s
  longer n shorter [] h = end
  longer n shorter (c ∷ s) h =
      by_test (eqb c ampersand)
      (λ e. subst (λ (d : ℕ). P (d ∷ s)) (sym (eqb-true c ampersand e))
      (by_entity s (λ t l. shorter t (omega arith)) (entity (ampersand ∷ s)) refl))
      (λ e. other c s (eqb-false c ampersand e) (shorter s (omega arith)))

  empty : (s : Bytes) → length s ≤ 0 → P s
  empty [] h = end
  empty (c ∷ s) h = absurd (omega arith)

  up_to : (n : ℕ) (s : Bytes) → length s ≤ n → P s
  up_to zero = empty
  up_to (suc n) = longer n (up_to n)

  pub by_parts : (s : Bytes) → P s
  by_parts s = up_to (length s) s (omega arith)

-- ---- escaping after undoing

-- no name has a quote or an angle bracket
holds_name : (c : ℕ) → 1 < length (escaped c) → (s : Bytes) → holds_bare (escaped c ++ s) ≡ holds_bare s
unfolding holds_bare codes
holds_name =
    escaped_cases (λ c word. 1 < length word → (s : Bytes) → holds_bare (word ++ s) ≡ holds_bare s)
    (λ h s. refl) (λ h s. refl) (λ h s. refl) (λ h s. refl) (λ c h s. absurd (omega arith))

-- one that is bare is escaped to another byte
bare_first : (c : ℕ) → is_bare c ≡ true → get_or (escaped c) 0 0 ≡ ampersand
unfolding escaped codes
bare_first c =
    or_cases (eqb c 0x22 || eqb c 0x3c) (eqb c 0x3e)
    (or_cases (eqb c 0x22) (eqb c 0x3c) (λ e. rw (eqb-true c 0x22 e)) (λ e. rw (eqb-true c 0x3c e)))
    (λ e. rw (eqb-true c 0x3e e))

plain_escaped : (c : ℕ) → (c ≡ ampersand → ⊥) → is_bare c ≡ false → escaped c ≡ c ∷ []
plain_escaped c n e =
    let p = or_neither (eqb c 0x22 || eqb c 0x3c) (eqb c 0x3e) e in
    let q = or_neither (eqb c 0x22) (eqb c 0x3c) p.0 in
    escaped_other c n (eqb-false c 0x22 q.0) (eqb-false c 0x3c q.1) (eqb-false c 0x3e p.1)

-- "exactly when"
abbrev Exactly : Bytes → Type 0
Exactly s = (holds_bare s ≡ false → escape (unescaped s) ≡ s) × (escape (unescaped s) ≡ s → holds_bare s ≡ false)

exactly_name : (c : ℕ) (s : Bytes) → 1 < length (escaped c) → Exactly s → Exactly (escaped c ++ s)
unfolding escape
exactly_name c s h p =
    let u = escape (unescaped s) in
    rw (unescaped_escaped c s, holds_name c h s) (
      (λ b. ap (λ (r : Bytes). escaped c ++ r) (p.0 b)),
      (λ e. p.1 (sym (drop-append_seam (escaped c) u) ∙ ap (drop (length (escaped c))) e ∙ drop-append_seam (escaped c) s)),
    )

exactly_other : (c : ℕ) (s : Bytes) → (c ≡ ampersand → ⊥) → Exactly s → Exactly (c ∷ s)
unfolding escape holds_bare
exactly_other c s n p =
    let u = escape (unescaped s) in
    let first_byte = get_or-append (escaped c) u 0 0 (escaped_length c).0 in
    rw (unescaped_other c n s)
    (by_test (is_bare c)
    (λ t. rw t (
      (λ b. absurd_test refl b),
      (λ e. absurd (n (sym (ap (λ (r : Bytes). get_or r 0 0) e) ∙ first_byte ∙ bare_first c t))),
    ))
    (λ t. rw (t, plain_escaped c n t) ((λ b. ap (λ (r : Bytes). c ∷ r) (p.0 b)), (λ e. p.1 (ap (drop 1) e)))))

exactly : (s : Bytes) → (at : ℕ) → no_entity_from at s ≡ None → Exactly s
unfolding escape unescaped_from no_entity_from holds_bare
exactly =
    by_parts (λ s. (at : ℕ) → no_entity_from at s ≡ None → Exactly s)
    (λ at e. ((λ b. refl), (λ t. refl)))
    (λ c s h p at e. exactly_name c s h (p (at + length (escaped c)) (sym (none_escaped c at s) ∙ e)))
    (λ c s n p at e. exactly_other c s n (p (suc at) (sym (none_other c n s at) ∙ e)))
    (λ s n p at e. absurd (none-some at (sym (sym (none_none s n at) ∙ e))))

-- tells the readings apart
abbrev bytes : Reading → Bytes
bytes (text t) = t
bytes (no_entity at) = []

abbrev offset : Reading → Option ℕ
offset (text t) = None
offset (no_entity at) = Some at

-- a reading by its two parts
text_is : (o : Option ℕ) (u t : Bytes) → reading_by o u ≡ text t → (o ≡ None) × (u ≡ t)
text_is None u t e = (refl, ap bytes e)
text_is (Some at) u t e = absurd (none-some at (sym (ap offset e)))

pub offset_is : (o : Option ℕ) (u : Bytes) (i : ℕ) → reading_by o u ≡ no_entity i → o ≡ Some i
offset_is None u i e = ap offset e
offset_is (Some at) u i e = ap offset e

pub redoes : (s t : Bytes) → unescape s ≡ text t → (holds_bare s ≡ false → escape t ≡ s) × (escape t ≡ s → holds_bare s ≡ false)
unfolding unescape
redoes s t e =
    let p = text_is (no_entity_from 0 s) (unescaped s) t e in
    rw (← p.1) (exactly s 0 p.0)

pub not_longer : (s : Bytes) → length (unescaped s) ≤ length s
unfolding unescaped_from
not_longer =
    by_parts (λ s. length (unescaped s) ≤ length s) (omega arith)
    (λ c s h p. omega (arith, h, p, ap length (unescaped_escaped c s), length-append (escaped c) s))
    (λ c s n p. omega (arith, p, ap length (unescaped_other c n s)))
    (λ s n p. omega (arith, p, ap length (unescaped_none s n)))
