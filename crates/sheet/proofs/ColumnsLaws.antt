-- A number in columns reads back as written, and in one form only.
use Rattle.std.specs.Prelude.{Some}
use mathlib.Core.Path.{◌≡◌, refl, sym, ap, ap₂, ◌∙◌}
use mathlib.Core.List.{[], ◌∷◌, ◌++◌}
use Prim.Native.Nat.{ℕ, zero, suc, ◌+◌, ◌-◌, ◌*◌, ◌/◌, ◌%◌, ◌^◌, ◌≤◌, ◌<◌}
use native.Mathlib.Nat.{pow-succ', pow-le-pow_right}
use native.Mathlib.Numerals.{add-one}
use native.Mathlib.Omega.{arith}
use lib.Dec.{ltb, eqb, lit<}
use lib.ListN.{length, get_or, take, replicate, replicate-append-replicate}
use lib.Seq.{take-suc, take_all, length-take-le}
use borrow.Author.Tests.{le-ltb, ne_eqb, ltb-false, eqb-true}
use Rattle.common.specs.Bytes.{Bytes}
use Rattle.common.proofs.Choice.{by_cond}
use Rattle.sheet.specs.Columns.{Columns, Blank, Value, Broken, columns, if_digit, next_column, columns_from, finish, field_of, ReadsBack}
use Rattle.sheet.specs.Writing.{front}
use Rattle.sheet.proofs.ReadingColumns.{ten_positive}

columns_append : (c : Columns) (s t : Bytes) → columns_from c (s ++ t) ≡ columns_from (columns_from c s) t
columns_append c [] t = refl
columns_append c (x ∷ s) t = columns_append (next_column c x) s t

spaces : (w : ℕ) → columns_from Blank (replicate w 32) ≡ Blank
spaces zero = refl
spaces (suc w) = spaces w

-- ---- written, it reads back

digit_read : (d : ℕ) (v : Columns) → d < 10 → if_digit (48 + d) v ≡ v
digit_read d v h = simp (le-ltb (48 + d) 48 (omega arith), le-ltb 57 (48 + d) (omega arith))

first_digit : (d : ℕ) → d < 10 → next_column Blank (48 + d) ≡ Value d
first_digit d h = simp (ne_eqb (48 + d) 32 (omega arith), digit_read d (Value (48 + d - 48)) h) (ap Value (omega arith))

later_digit : (m d : ℕ) → d < 10 → next_column (Value (suc m)) (48 + d) ≡ Value (10 * suc m + d)
later_digit m d h =
    simp (ne_eqb (suc m) 0 (omega arith), digit_read d (Value (10 * suc m + (48 + d - 48))) h) (ap Value (omega arith))

last_digit : (w n q : ℕ) → n / 10 ≡ q → ((m : ℕ) → q ≡ suc m → columns_from Blank (columns w (suc m)) ≡ Value (suc m))
    → next_column (columns_from Blank (front w q)) (48 + n % 10) ≡ Value n
unfolding front
last_digit w n zero e f = rw spaces (first_digit (n % 10) (omega arith) ∙ ap Value (omega arith))
last_digit w n (suc m) e f = rw (f m refl) (later_digit m (n % 10) (omega arith) ∙ ap Value (omega arith))

pub read_columns : (w n : ℕ) → n < 10 ^ suc w → columns_from Blank (columns (suc w) n) ≡ Value n
unfolding columns front
read_columns zero n h = columns_append Blank (front zero (n / 10)) _ ∙ last_digit zero n (n / 10) refl (λ m e. absurd (omega arith))
read_columns (suc w) n h =
    columns_append Blank (front (suc w) (n / 10)) _
    ∙ last_digit (suc w) n (n / 10) refl (λ m e. read_columns w (suc m) (omega (arith, pow-succ' 10 (suc w))))

-- ---- what led to a state

pub broken_value : (n : ℕ) → Broken ≡ Value n → ⊥
broken_value n h = let z : ◌≡◌ {A = ℕ} 0 1 = cc in omega arith

broken_blank : Broken ≡ Blank → ⊥
broken_blank h = let z : ◌≡◌ {A = ℕ} 0 1 = cc in omega arith

value_blank : (n : ℕ) → Value n ≡ Blank → ⊥
value_blank n h = let z : ◌≡◌ {A = ℕ} 0 1 = cc in omega arith

digit_from : (b v n : ℕ) → if_digit b (Value v) ≡ Value n → (48 ≤ b) × (b ≤ 57) × (n ≡ v)
digit_from b v n =
    by_cond P (ltb b 48) (λ d h. absurd (broken_value n h)) (λ d. by_cond P (ltb 57 b) (λ f h. absurd (broken_value n h)) (λ f h. (ltb-false b 48 d, ltb-false 57 b f, (cc))))
  where
    P : Columns → Type 0
    P x = x ≡ Value n → (48 ≤ b) × (b ≤ 57) × (n ≡ v)

digit_not_blank : (b v : ℕ) → if_digit b (Value v) ≡ Blank → ⊥
digit_not_blank b v = by_cond P (ltb b 48) (λ d. broken_blank) (λ d. by_cond P (ltb 57 b) (λ f. broken_blank) (λ f. value_blank v))
  where
    P : Columns → Type 0
    P x = x ≡ Blank → ⊥

-- how a number came about: its first digit, or one digit more
data From (c : Columns) (b n : ℕ) : Type 0 where
  first : c ≡ Blank → 48 ≤ b → b ≤ 57 → n ≡ b - 48 → From c b n
  next : (m : ℕ) → c ≡ Value (suc m) → 48 ≤ b → b ≤ 57 → n ≡ 10 * suc m + (b - 48) → From c b n

value_from : (c : Columns) (b n : ℕ) → next_column c b ≡ Value n → From c b n
value_from Blank b n =
    by_cond (λ (x : Columns). x ≡ Value n → From Blank b n) (eqb b 32) (λ e h. absurd (value_blank n (sym h)))
    (λ e h. let d = digit_from b (b - 48) n h in first refl d.0 d.1 d.2)
value_from (Value zero) b n = λ h. absurd (broken_value n h)
value_from (Value (suc m)) b n =
    by_cond (λ (x : Columns). x ≡ Value n → From (Value (suc m)) b n) (eqb (suc m) 0) (λ e h. absurd (broken_value n h))
    (λ e h. let d = digit_from b (10 * suc m + (b - 48)) n h in next m refl d.0 d.1 d.2)
value_from Broken b n = λ h. absurd (broken_value n h)

blank_from : (c : Columns) (b : ℕ) → next_column c b ≡ Blank → (c ≡ Blank) × (b ≡ 32)
blank_from Blank b =
    by_cond (λ (x : Columns). x ≡ Blank → (Blank ≡ Blank) × (b ≡ 32)) (eqb b 32) (λ e h. (refl, eqb-true b 32 e))
    (λ e h. absurd (digit_not_blank b (b - 48) h))
blank_from (Value n) b =
    by_cond (λ (x : Columns). x ≡ Blank → (Value n ≡ Blank) × (b ≡ 32)) (eqb n 0) (λ e h. absurd (broken_blank h))
    (λ e h. absurd (digit_not_blank b (10 * n + (b - 48)) h))
blank_from Broken b = λ h. absurd (broken_blank h)

-- ---- read, it was written so: take the last byte off

module _ (w : ℕ) (s : Bytes) (long : length s ≡ suc w) where
  snoc : s ≡ take w s ++ get_or s w 0 ∷ []
  snoc = sym (take_all (suc w) s (omega arith)) ∙ take-suc s w 0 (omega arith)

  snoc_read : columns_from Blank s ≡ next_column (columns_from Blank (take w s)) (get_or s w 0)
  snoc_read = ap (columns_from Blank) snoc ∙ columns_append Blank (take w s) _

  front_length : length (take w s) ≡ w
  front_length = length-take-le w s (omega arith)

blank_form : (w : ℕ) (s : Bytes) → length s ≡ w → columns_from Blank s ≡ Blank → s ≡ replicate w 32
blank_form zero [] l h = refl
blank_form zero (x ∷ s) l h = absurd (omega arith)
blank_form (suc w) s l h =
    let f = blank_from (columns_from Blank (take w s)) (get_or s w 0) (sym (snoc_read w s l) ∙ h) in
    snoc w s l ∙ ap₂ (λ (a : Bytes) (b : ℕ). a ++ b ∷ []) (blank_form w (take w s) (front_length w s l) f.0) f.1
    ∙ replicate-append-replicate w 1 32
    ∙ ap (λ (k : ℕ). replicate k 32) (add-one w)

join : (w n : ℕ) (p : Bytes) (b q : ℕ) → n / 10 ≡ q → p ≡ front w q → b ≡ 48 + n % 10 → p ++ b ∷ [] ≡ columns (suc w) n
unfolding columns front
join w n p b q e h d = ap₂ (λ (a : Bytes) (x : ℕ). a ++ x ∷ []) (h ∙ ap (front w) (sym e)) d

longer : (w n : ℕ) (p : Bytes) (b : ℕ) → length p ≡ w → From (columns_from Blank p) b n
    → ((m : ℕ) → columns_from Blank p ≡ Value (suc m) → (p ≡ columns w (suc m)) × (suc m < 10 ^ w))
    → (p ++ b ∷ [] ≡ columns (suc w) n) × (n < 10 ^ suc w)
unfolding front
longer w n p b l (first e lo hi en) ih =
    (join w n p b 0 (omega arith) (blank_form w p l e) (omega arith), omega (arith, pow-succ' 10 w, ten_positive w))
longer w n p b l (next m e lo hi en) ih =
    let f = ih m e in
    (join w n p b (suc m) (omega arith) f.0 (omega arith), omega (arith, pow-succ' 10 w, f.1))

value_form : (w : ℕ) (s : Bytes) (n : ℕ) → length s ≡ w → columns_from Blank s ≡ Value n → (s ≡ columns w n) × (n < 10 ^ w)
value_form zero [] n l h = absurd (value_blank n (sym h))
value_form zero (x ∷ s) n l h = absurd (omega arith)
value_form (suc w) s n l h =
    let from = value_from (columns_from Blank (take w s)) (get_or s w 0) n (sym (snoc_read w s l) ∙ h) in
    let r = longer w n (take w s) (get_or s w 0) (front_length w s l) from (λ m e. value_form w (take w s) (suc m) (front_length w s l) e) in
    (snoc w s l ∙ r.0, r.1)

finish_number : (c : Columns) (n : ℕ) → finish c ≡ Some n → c ≡ Value n
finish_number Blank n h = absurd (let z : ◌≡◌ {A = ℕ} 0 1 = cc in omega arith)
finish_number (Value m) n h = cc
finish_number Broken n h = absurd (let z : ◌≡◌ {A = ℕ} 0 1 = cc in omega arith)

pub reads_back : ReadsBack
unfolding field_of
reads_back s n = (there, λ h. back h.0 h.1 h.2)
  where
    some_byte : (s : Bytes) → columns_from Blank s ≡ Value n → 0 < length s
    some_byte [] e = absurd (value_blank n (sym e))
    some_byte (b ∷ s) e = omega arith

    there : finish (columns_from Blank s) ≡ Some n → (s ≡ columns (length s) n) × (0 < length s) × (n < 10 ^ length s)
    there h =
        let e = finish_number (columns_from Blank s) n h in
        let v = value_form (length s) s n refl e in
        (v.0, some_byte s e, v.1)

    wide : (w : ℕ) → 0 < w → n < 10 ^ w → finish (columns_from Blank (columns w n)) ≡ Some n
    wide zero p h = absurd (omega arith)
    wide (suc w) p h = ap finish (read_columns w n h)

    back : s ≡ columns (length s) n → 0 < length s → n < 10 ^ length s → finish (columns_from Blank s) ≡ Some n
    back e p h = ap (λ (x : Bytes). finish (columns_from Blank x)) e ∙ wide (length s) p h

-- a number in at most w columns is below 10 ^ w
pub field_below : (s : Bytes) (w : ℕ) → length s ≤ w → (n : ℕ) → field_of s ≡ Some n → n < 10 ^ w
field_below s w h n e = omega (arith, ((reads_back s n).0 e).2, pow-le-pow_right {n = 10} (lit< tt) h)
