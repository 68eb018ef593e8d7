-- One line: read, it was written so; written, it reads back.
use Rattle.std.specs.Prelude.{Option, Some, None}
use mathlib.Core.Path.{◌≡◌, refl, sym, ap, ap₂, ◌∙◌, subst}
use mathlib.Core.Bool.{true}
use mathlib.Core.List.{List, [], ◌∷◌, ◌++◌, append_assoc}
use Prim.Native.Nat.{ℕ, zero, suc, ◌+◌, ◌*◌, ◌^◌, ◌≤◌, ◌<◌}
use native.Mathlib.Nat.{add-zero}
use native.Mathlib.Omega.{arith}
use lib.Dec.{eqb}
use lib.ListN.{length, get_or, take, drop}
use lib.Seq.{take-add, take_at, drop_at, drop-drop, drop-cons, get_or-drop}
use borrow.Author.Tests.{eqb-true, eq-eqb}
use Rattle.common.specs.Bytes.{Bytes}
use Rattle.common.proofs.Choice.{absurd_test, and_parts, and_both}
use Rattle.common.proofs.Parts.{part_length}
use Rattle.sheet.specs.Columns.{columns, field_of}
use Rattle.sheet.specs.Lines.{is_number, number_in, field_at, number_at, numbers_right, after, line_right}
use Rattle.sheet.specs.Writing.{line}
use Rattle.sheet.specs.declared.line.Attribute.{Attribute}
use Rattle.sheet.specs.declared.line.Row.{Row}
use Rattle.sheet.proofs.ColumnsLaws.{reads_back}
use Rattle.sheet.proofs.WritingColumns.{columns_length}
use Rattle.sheet_form.specs.Encoding.{Below, none, some}
use Rattle.sheet_form.specs.Decoded.{row_numbers, attribute_numbers, row_of_numbers}

-- the k numbers at `at`
abbrev pub numbers_at : ℕ → Bytes → ℕ → ℕ → List ℕ
numbers_at w s at zero = []
numbers_at w s at (suc k) = number_at w s at ∷ numbers_at w s (at + w) k

-- ---- read, it was written so

field_form : (t : Bytes) (f : Option ℕ) → field_of t ≡ f → is_number f ≡ true → t ≡ columns (length t) (number_in f)
field_form t (Some n) e i = ((reads_back t n).0 e).0
field_form t None e i = absurd_test i refl

module _ (w : ℕ) (s : Bytes) where
  number_form : (at : ℕ) → at + w ≤ length s → is_number (field_at w s at) ≡ true → take w (drop at s) ≡ columns w (number_at w s at)
  unfolding field_at
  number_form at fits e =
      field_form (take w (drop at s)) _ refl e
      ∙ ap (λ (v : ℕ). columns v (number_at w s at)) (part_length s at w fits)

  numbers_form : (k at : ℕ) → at + k * w + 1 ≤ length s → get_or s (after w at k) 0 ≡ 10 → numbers_right w s at k ≡ true → take (k * w + 1) (drop at s) ≡ line w (numbers_at w s at k)
  unfolding line
  numbers_form zero at fits end e =
      let one : 0 * w + 1 ≡ 1 = omega arith in
      let h : at < length s = omega arith in
      rw (one, drop-cons s at 0 h, end)
  numbers_form (suc k) at fits end e =
      let p = and_parts (is_number (field_at w s at)) (numbers_right w s (at + w) k) e in
      let long : suc k * w + 1 ≡ w + (k * w + 1) = omega arith in
      ap (λ (m : ℕ). take m (drop at s)) long
      ∙ take-add w (k * w + 1) (drop at s)
      ∙ ap₂ (λ (a b : Bytes). a ++ b) (number_form at (omega arith) p.0) (ap (take (k * w + 1)) (drop-drop w at s) ∙ numbers_form k (at + w) (omega arith) end p.1)

  pub line_form : (at k : ℕ) → at + k * w + 1 ≤ length s → line_right w s at k ≡ true → take (k * w + 1) (drop at s) ≡ line w (numbers_at w s at k)
  line_form at k fits e =
      let p = and_parts (eqb (get_or s (after w at k) 0) 10) (numbers_right w s at k) e in
      numbers_form k at fits (eqb-true _ 10 p.0) p.1

-- ---- written, it reads back

module _ (w : ℕ) (some_column : 1 ≤ w) (s : Bytes) where
  module _ (n : ℕ) (rest : Bytes) (at : ℕ) (here : drop at s ≡ columns w n ++ rest) where
    number_back : n < 10 ^ w → field_at w s at ≡ Some n
    unfolding field_at
    number_back h =
        let long = columns_length w n in
        ap field_of (ap (take w) here ∙ take_at (columns w n) rest w long)
        ∙ (reads_back (columns w n) n).1 (ap (λ (v : ℕ). columns v n) (sym long), omega (arith, long), subst (λ (v : ℕ). n < 10 ^ v) (sym long) h)

    behind : drop (at + w) s ≡ rest
    behind = sym (drop-drop w at s) ∙ ap (drop w) here ∙ drop_at (columns w n) rest w (columns_length w n)

  pub record Read (at : ℕ) (ns : List ℕ) : Type 0 where
    pub numbers : numbers_at w s at (length ns) ≡ ns
    pub right : numbers_right w s at (length ns) ≡ true
    pub end : get_or s (after w at (length ns)) 0 ≡ 10

  pub line_back : {ns : List ℕ} (rest : Bytes) (at : ℕ) → Below (10 ^ w) ns → drop at s ≡ line w ns ++ rest → Read at ns
  unfolding line
  line_back rest at none here =
      record { numbers = refl; right = refl; end = ap (λ (p : ℕ). get_or s p 0) (sym (add-zero at)) ∙ sym (get_or-drop at s 0 0) ∙ ap (λ (t : Bytes). get_or t 0 0) here }
  line_back rest at (some {n} {ns} h more) here =
      let split = here ∙ append_assoc (columns w n) (line w ns) rest in
      let this = number_back n (line w ns ++ rest) at split h in
      let next = line_back rest (at + w) more (behind n (line w ns ++ rest) at split) in
      record {
        numbers = ap₂ (λ (a : ℕ) (b : List ℕ). a ∷ b) (ap number_in this) next.numbers;
        right = and_both (ap is_number this) next.right;
        end = next.end;
      }

  pub read_right : {ns : List ℕ} {at : ℕ} → Read at ns → line_right w s at (length ns) ≡ true
  read_right {ns} {at} r = and_both (eq-eqb _ 10 r.end) r.right

-- ---- a row and an attribute are their numbers

abbrev attribute_of_numbers : List ℕ → Attribute
attribute_of_numbers ns = record { name_at = get_or ns 0 0; name_len = get_or ns 1 0; value_at = get_or ns 2 0; value_len = get_or ns 3 0 }

pub row_same : (x y : Row) → row_numbers x ≡ row_numbers y → x ≡ y
row_same x y e = ap row_of_numbers e

pub attribute_same : (x y : Attribute) → attribute_numbers x ≡ attribute_numbers y → x ≡ y
attribute_same x y e = ap attribute_of_numbers e
