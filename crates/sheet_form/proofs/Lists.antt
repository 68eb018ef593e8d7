-- Lists of lines and of what stands on them.
use mathlib.Core.Path.{◌≡◌, refl, sym, ap, ap₂, ◌∙◌}
use mathlib.Core.List.{List, [], ◌∷◌, ◌++◌, append_assoc}
use Prim.Native.Nat.{ℕ, zero, suc, ◌+◌, ◌*◌, ◌≤◌, ◌<◌}
use native.Mathlib.Nat.{add-zero, zero-add, mul-suc}
use native.Mathlib.Omega.{arith}
use lib.ListN.{length, get_or, take, drop, length-append, take-append-drop}
use lib.Seq.{drop_at, drop-drop, drop-append-add, ext_get_or}
use Rattle.common.specs.Bytes.{Bytes}
use Rattle.sheet.specs.Writing.{line}
use Rattle.sheet.proofs.WritingColumns.{line_length}
use Rattle.sheet_form.specs.Encoding.{lines, listed}

-- ---- listed

module _ {A : Type 0} (at : ℕ → A) where
  pub listed_length : (i n : ℕ) → length (listed at i n) ≡ n
  unfolding listed
  listed_length i zero = refl
  listed_length i (suc n) = ap suc (listed_length (suc i) n)

  listed_from : (d : A) (i n j : ℕ) → j < n → get_or (listed at i n) j d ≡ at (i + j)
  unfolding listed
  listed_from d i zero j h = absurd (omega arith)
  listed_from d i (suc n) zero h = ap at (sym (add-zero i))
  listed_from d i (suc n) (suc j) h = let e : suc i + j ≡ i + suc j = omega arith in listed_from d (suc i) n j (omega arith) ∙ ap at e

  pub listed_at : (d : A) (n j : ℕ) → j < n → get_or (listed at 0 n) j d ≡ at j
  listed_at d n j h = listed_from d 0 n j h ∙ ap at (zero-add j)

  -- a list is what its places list
  pub listed_is : (d : A) (l : List A) → ((j : ℕ) → j < length l → at j ≡ get_or l j d) → listed at 0 (length l) ≡ l
  listed_is d l f =
      ext_get_or d (listed at 0 (length l)) l (listed_length 0 (length l))
      (λ j h. let k : j < length l = omega (arith, listed_length 0 (length l)) in listed_at d (length l) j k ∙ f j k)

-- ---- lines

module _ {A : Type 0} (numbers : A → List ℕ) (k w : ℕ) (count : (a : A) → length (numbers a) ≡ k) where
  one_length : (a : A) → length (line w (numbers a)) ≡ k * w + 1
  one_length a = line_length w (numbers a) ∙ ap (λ (m : ℕ). m * w + 1) (count a)

  pub lines_length : (all : List A) → length (lines numbers w all) ≡ (k * w + 1) * length all
  unfolding lines
  lines_length [] = omega arith
  lines_length (a ∷ rest) = length-append (line w (numbers a)) (lines numbers w rest) ∙ rw (one_length a, lines_length rest) (sym (mul-suc (k * w + 1) (length rest) ∙ omega arith))

  -- where line i stands
  pub lines_at : (d : A) (all : List A) (i : ℕ) (behind : Bytes) → i < length all
      → (rest : Bytes) × (drop ((k * w + 1) * i) (lines numbers w all ++ behind) ≡ line w (numbers (get_or all i d)) ++ rest)
  unfolding lines
  lines_at d [] i behind h = absurd (omega arith)
  lines_at d (a ∷ rest) zero behind h =
      let z : (k * w + 1) * 0 ≡ 0 = omega arith in
      (lines numbers w rest ++ behind, rw z (append_assoc (line w (numbers a)) (lines numbers w rest) behind))
  lines_at d (a ∷ rest) (suc i) behind h =
      let next = lines_at d rest i behind (omega arith) in
      let z : (k * w + 1) * suc i ≡ length (line w (numbers a)) + (k * w + 1) * i = mul-suc (k * w + 1) i ∙ omega (arith, one_length a) in
      (next.0, ap₂ drop z (append_assoc (line w (numbers a)) (lines numbers w rest) behind) ∙ drop-append-add (line w (numbers a)) (lines numbers w rest ++ behind) ((k * w + 1) * i) ∙ next.1)

  pub lines_behind : (all : List A) (behind : Bytes) → drop ((k * w + 1) * length all) (lines numbers w all ++ behind) ≡ behind
  lines_behind all behind = drop_at (lines numbers w all) behind _ (lines_length all)

-- lines that each were written so were written so together
module _ {A : Type 0} (numbers : A → List ℕ) (w size : ℕ) (s : Bytes) (at : ℕ → A) (place : ℕ → ℕ) (next : (i : ℕ) → place (suc i) ≡ place i + size) where
  pub lines_form : (i n : ℕ) → ((j : ℕ) → i ≤ j → j < i + n → take size (drop (place j) s) ≡ line w (numbers (at j)))
      → drop (place i) s ≡ lines numbers w (listed at i n) ++ drop (place (i + n)) s
  unfolding lines listed
  lines_form i zero each = ap (λ (p : ℕ). drop (place p) s) (sym (add-zero i))
  lines_form i (suc n) each =
      sym (take-append-drop size (drop (place i) s))
      ∙ ap₂ (λ (a b : Bytes). a ++ b) (each i (omega arith) (omega arith))
      (drop-drop size (place i) s ∙ ap (λ (p : ℕ). drop p s) (sym (next i)) ∙ lines_form (suc i) n (λ j h k. each j (omega arith) (omega arith)))
      ∙ sym (append_assoc (line w (numbers (at i))) _ _)
      ∙ let e : suc i + n ≡ i + suc n = omega arith in ap (λ (p : ℕ). (line w (numbers (at i)) ++ lines numbers w (listed at (suc i) n)) ++ drop (place p) s) e
