-- `escape`: of a concatenation, and its length.
use mathlib.Core.Path.{◌≡◌, refl, sym, ap, ◌∙◌}
use mathlib.Core.Bool.{true}
use mathlib.Core.List.{[], ◌∷◌, ◌++◌, append_assoc}
use Prim.Native.Nat.{ℕ, ◌+◌, ◌*◌, ◌≤◌, ◌<◌}
use native.Mathlib.Omega.{arith}
use native.Mathlib.Numerals.{add-one}
use lib.Dec.{eqb}
use lib.ListN.{length, get_or, drop, length-append, drop_of_length-le}
use lib.Seq.{drop-cons}
use borrow.Author.Tests.{eqb-true, eqb-false, ne_eqb}
use Rattle.common.specs.Answer.{capped}
use Rattle.common.specs.Bytes.{Bytes, codes}
use Rattle.common.proofs.Choice.{by_cond, by_test, absurd_test}
use Rattle.text.specs.Text.{is_space, is_ascii_whitespace, escaped, escape}

pub escape_append : (s t : Bytes) → escape (s ++ t) ≡ escape s ++ escape t
unfolding escape
escape_append [] t = refl
escape_append (c ∷ s) t = ap (λ (r : Bytes). escaped c ++ r) (escape_append s t) ∙ sym (append_assoc (escaped c) (escape s) (escape t))

pub escaped_other : (c : ℕ) → (c ≡ 38 → ⊥) → (c ≡ 34 → ⊥) → (c ≡ 60 → ⊥) → (c ≡ 62 → ⊥) → escaped c ≡ c ∷ []
unfolding escaped
escaped_other c n m l g = simp (ne_eqb c 38 n, ne_eqb c 34 m, ne_eqb c 60 l, ne_eqb c 62 g)

module _ {ℓ} (P : ℕ → Bytes → Type ℓ)
    (a : P 38 (codes "&amp;")) (q : P 34 (codes "&quot;")) (l : P 60 (codes "&lt;")) (g : P 62 (codes "&gt;")) where
  -- what holds of each entity, and of a byte that has none, which is no ampersand
  pub escaped_sorts : ((c : ℕ) → (c ≡ 38 → ⊥) → P c (c ∷ [])) → (c : ℕ) → P c (escaped c)
  unfolding escaped
  escaped_sorts other c =
      by_test (eqb c 38) (λ e. rw (eqb-true c 38 e) a)
      (λ n. by_test (eqb c 34) (λ e. rw (eqb-true c 34 e) q)
      (λ m. by_test (eqb c 60) (λ e. rw (eqb-true c 60 e) l)
      (λ k. by_test (eqb c 62) (λ e. rw (eqb-true c 62 e) g) (λ j. rw (n, m, k, j) (other c (eqb-false c 38 n))))))

  pub escaped_cases : ((c : ℕ) → P c (c ∷ [])) → (c : ℕ) → P c (escaped c)
  escaped_cases other = escaped_sorts (λ c n. other c)

-- a byte that is one byte as `escape` has it stands for itself
pub escaped_single : (c : ℕ) → length (escaped c) ≡ 1 → escaped c ≡ c ∷ []
unfolding codes
escaped_single = escaped_cases (λ c s. length s ≡ 1 → s ≡ c ∷ []) (λ e. absurd (omega arith)) (λ e. absurd (omega arith)) (λ e. absurd (omega arith)) (λ e. absurd (omega arith)) (λ c e. refl)

pub escaped_blank : (c : ℕ) → is_space c ≡ true → escaped c ≡ c ∷ []
unfolding is_space is_ascii_whitespace
escaped_blank = escaped_cases (λ c s. is_space c ≡ true → s ≡ c ∷ []) (λ e. absurd_test e refl) (λ e. absurd_test e refl) (λ e. absurd_test e refl) (λ e. absurd_test e refl) (λ c e. refl)

-- one to six bytes a character
pub escaped_length : (c : ℕ) → (1 ≤ length (escaped c)) × (length (escaped c) ≤ 6)
unfolding escaped codes
escaped_length c =
    by_cond P (eqb c 38) (λ e. omega arith)
    (λ e. by_cond P (eqb c 34) (λ e. omega arith) (λ e. by_cond P (eqb c 60) (λ e. omega arith) (λ e. by_cond P (eqb c 62) (λ e. omega arith) (λ e. omega arith))))
  where
    P : Bytes → Type 0
    P s = (1 ≤ length s) × (length s ≤ 6)

pub escape_length : (s : Bytes) → (length s ≤ length (escape s)) × (length (escape s) ≤ 6 * length s)
unfolding escape
escape_length [] = omega arith
escape_length (c ∷ s) = let h = escape_length s in omega (arith, escaped_length c, length-append (escaped c) (escape s))

-- one byte more, as a loop has it
pub escape_next : (s : Bytes) (i : ℕ) → i < length s → escape (drop i s) ≡ escaped (get_or s i 0) ++ escape (drop (i + 1) s)
unfolding escape
escape_next s i h = rw (add-one, drop-cons s i 0 h)

pub escape_done : (s : Bytes) (i : ℕ) → length s ≤ i → escape (drop i s) ≡ []
unfolding escape
escape_done s i h = rw (drop_of_length-le s {i = i} h)

-- a loop that counts: n bytes so far, and those of what is left
pub escape_count : (s : Bytes) (i n k r m : ℕ) → i < length s → k ≡ length (escaped (get_or s i 0)) → r ≡ capped (n + k)
    → capped (n + length (escape (drop i s))) ≡ m → capped (r + length (escape (drop (i + 1) s))) ≡ m
escape_count s i n k r m h e q l =
    omega (arith, l, e, q, ap length (escape_next s i h), length-append (escaped (get_or s i 0)) (escape (drop (i + 1) s)))
