-- A number of a row is changed in its own columns: the bytes of the sheet with that number.
use mathlib.Core.Path.{◌≡◌, refl, sym, ap, ap₂, ◌∙◌}
use mathlib.Core.List.{List, [], ◌∷◌, ◌++◌, append_assoc}
use Prim.Native.Nat.{ℕ, zero, suc, ◌+◌, ◌*◌, ◌≤◌, ◌<◌}
use native.Mathlib.Nat.{mul-le-mul_right, suc-mul}
use native.Mathlib.Omega.{arith}
use lib.ListN.{length, get_or, set, take, drop, length-append, length-set}
use lib.Seq.{sets, sets-eq, take_at, drop_at, drop-append-add, split_at, set_split, length-take-le}
use Rattle.common.specs.Bytes.{Bytes}
use Rattle.sheet.specs.Columns.{columns}
use Rattle.sheet.specs.Layout.{no_row, node_start, row_at}
use Rattle.sheet.specs.Lines.{number_at}
use Rattle.sheet.specs.Notes.{Lined}
use Rattle.sheet.specs.Writing.{line}
use Rattle.sheet.specs.declared.line.Layout.{Layout}
use Rattle.sheet.specs.declared.line.Row.{Row}
use Rattle.sheet.proofs.LayoutLaws.{row_there}
use Rattle.sheet.proofs.LinedLaws.{node_room}
use Rattle.sheet.proofs.WritingColumns.{columns_length, line_length}
use Rattle.sheet_form.specs.Decoded.{Decoded, row_in, layout_for, header_numbers, row_numbers, attribute_numbers, row_of_numbers, with_number, set_number}
use Rattle.sheet_form.specs.Encoding.{lines, encode, listed, decode}
use Rattle.sheet_form.proofs.EncodeDecode.{of_lined}
use Rattle.sheet_form.proofs.LineBack.{numbers_at}
use Rattle.sheet_form.proofs.Lists.{listed_is, lines_length}

-- a part stored over one of its length
sets_part : (p x y q : Bytes) (n : ℕ) → length p ≡ n → length x ≡ length y → sets (p ++ (x ++ q)) n y ≡ p ++ (y ++ q)
sets_part p x y q n e h =
    let all : length (p ++ (x ++ q)) ≡ length p + (length x + length q) = length-append p (x ++ q) ∙ ap (λ (k : ℕ). length p + k) (length-append x q) in
    let behind : drop (n + length y) (p ++ (x ++ q)) ≡ q =
    ap (λ (k : ℕ). drop (k + length y) (p ++ (x ++ q))) (sym e) ∙ drop-append-add p (x ++ q) (length y) ∙ drop_at x q (length y) h in
    sets-eq y (p ++ (x ++ q)) n (omega arith) ∙ ap₂ (λ (a b : Bytes). (a ++ y) ++ b) (take_at p (x ++ q) n e) behind ∙ append_assoc p y q

lines_append : {A : Type 0} (numbers : A → List ℕ) (w : ℕ) (xs ys : List A) → lines numbers w (xs ++ ys) ≡ lines numbers w xs ++ lines numbers w ys
unfolding lines
lines_append numbers w [] ys = refl
lines_append numbers w (x ∷ xs) ys =
    ap (λ (b : Bytes). line w (numbers x) ++ b) (lines_append numbers w xs ys)
    ∙ sym (append_assoc (line w (numbers x)) (lines numbers w xs) (lines numbers w ys))

-- ---- a line around its number k

record Around (w : ℕ) (ns : List ℕ) (k : ℕ) : Type 0 where
  before : Bytes
  behind : Bytes
  place : length before ≡ k * w
  was : line w ns ≡ before ++ (columns w (get_or ns k 0) ++ behind)
  is : (n : ℕ) → line w (set ns k n) ≡ before ++ (columns w n ++ behind)

around : (w : ℕ) (ns : List ℕ) (k : ℕ) → k < length ns → Around w ns k
unfolding line
around w [] k h = absurd (omega arith)
around w (m ∷ ns) zero h = record { before = []; behind = line w ns; place = omega arith; was = refl; is = λ n. refl }
around w (m ∷ ns) (suc k) h =
    let r = around w ns k (omega arith) in
    record {
      before = columns w m ++ r.before;
      behind = r.behind;
      place = length-append (columns w m) r.before ∙ omega (arith, columns_length w m, r.place);
      was = ap (λ (b : Bytes). columns w m ++ b) r.was ∙ sym (append_assoc (columns w m) r.before _);
      is = λ n. ap (λ (b : Bytes). columns w m ++ b) (r.is n) ∙ sym (append_assoc (columns w m) r.before _);
    }

-- ---- a row is its eight numbers

eight_numbers : (ns : List ℕ) → length ns ≡ 8 → row_numbers (row_of_numbers ns) ≡ ns
unfolding listed
eight_numbers ns h = ap (listed (λ (j : ℕ). get_or ns j 0) 0) (sym h) ∙ listed_is (λ (j : ℕ). get_or ns j 0) 0 ns (λ j b. refl)

with_numbers : (k n : ℕ) (r : Row) → row_numbers (with_number k n r) ≡ set (row_numbers r) k n
with_numbers k n r = eight_numbers (set (row_numbers r) k n) (length-set (row_numbers r) k n)

-- ---- a sheet around number k of its row i

module _ (w : ℕ) (d : Decoded) (i : ℕ) (h : i < length d.rows) (k : ℕ) (small : k < 8) where
  row : Around w (row_numbers (row_in d i)) k
  row = around w (row_numbers (row_in d i)) k small

  abbrev front : Bytes
  front = line w (header_numbers (layout_for w d)) ++ (lines row_numbers w (take i d.rows) ++ row.before)

  abbrev back : Bytes
  back = row.behind ++ (lines row_numbers w (drop (suc i) d.rows) ++ (lines attribute_numbers w d.attributes ++ d.pool))

  sheet_around : (n : ℕ) (r : Row) (rows : List Row) → rows ≡ take i d.rows ++ r ∷ drop (suc i) d.rows → line w (row_numbers r) ≡ row.before ++ (columns w n ++ row.behind)
      → line w (header_numbers (layout_for w d)) ++ (lines row_numbers w rows ++ (lines attribute_numbers w d.attributes ++ d.pool)) ≡ front ++ (columns w n ++ back)
  unfolding lines
  sheet_around n r rows e l = rw (e, lines_append row_numbers w (take i d.rows) (r ∷ drop (suc i) d.rows), l) (simp append_assoc)

  front_length : length front ≡ node_start (layout_for w d) i + k * w
  front_length =
      let first = take i d.rows in
      let skipped : length first ≡ i = length-take-le i d.rows (omega arith) in
      let table : length (lines row_numbers w first) ≡ (8 * w + 1) * i = lines_length row_numbers 8 w (λ r. refl) first ∙ ap (λ (m : ℕ). (8 * w + 1) * m) skipped in
      length-append (line w (header_numbers (layout_for w d))) (lines row_numbers w first ++ row.before)
      ∙ omega (arith, length-append (lines row_numbers w first) row.before, line_length w (header_numbers (layout_for w d)), row.place)

  number_bytes : (n : ℕ) → sets (encode w d) (node_start (layout_for w d) i + k * w) (columns w n) ≡ encode w (set_number i k n d)
  unfolding encode set_number
  number_bytes n =
      let r = with_number k n (row_in d i) in
      let was = sheet_around (get_or (row_numbers (row_in d i)) k 0) (row_in d i) d.rows (split_at d.rows i no_row h) row.was in
      let is = sheet_around n r (set d.rows i r) (set_split d.rows i r h) (ap (line w) (with_numbers k n (row_in d i)) ∙ row.is n) in
      ap (λ (s : Bytes). sets s (node_start (layout_for w d) i + k * w) (columns w n)) was
      ∙ sets_part front (columns w (get_or (row_numbers (row_in d i)) k 0)) (columns w n) back _ front_length (columns_length w (get_or (row_numbers (row_in d i)) k 0) ∙ sym (columns_length w n))
      ∙ sym is
      ∙ rw (length-set d.rows i r)

pub number_place : {s : Bytes} {l : Layout} → Lined s l → (i k : ℕ) → i < l.nodes → k < 8 → node_start l i + k * l.width + l.width ≤ length s
number_place {s} {l} lined i k h small = omega (arith, node_room lined i h, mul-le-mul_right l.width small)

pub number_set : {s : Bytes} {l : Layout} → Lined s l → (i k n : ℕ) → i < l.nodes → k < 8
    → sets s (node_start l i + k * l.width) (columns l.width n) ≡ encode l.width (set_number i k n (decode l s))
number_set {s} {l} lined i k n h small =
    let w = l.width in
    let e = (of_lined lined).layout in
    let b : i < length (decode l s).rows = rw (ap (λ (x : Layout). x.nodes) e) h in
    ap₂ (λ (t : Bytes) (x : Layout). sets t (node_start x i + k * w) (columns w n)) (sym (of_lined lined).bytes) (sym e)
    ∙ number_bytes w (decode l s) i b k small n

-- ---- a number is read from its own columns

numbers_at_law : (w : ℕ) (s : Bytes) (at n k : ℕ) → k < n → get_or (numbers_at w s at n) k 0 ≡ number_at w s (at + k * w)
numbers_at_law w s at zero k h = absurd (omega arith)
numbers_at_law w s at (suc n) zero h = let z : at ≡ at + 0 * w = omega arith in ap (number_at w s) z
numbers_at_law w s at (suc n) (suc k) h =
    let z : at + w + k * w ≡ at + suc k * w = omega (arith, suc-mul k w) in
    numbers_at_law w s (at + w) n k (omega arith) ∙ ap (number_at w s) z

pub number_read : (s : Bytes) (l : Layout) (i k : ℕ) → i < l.nodes → k < 8
    → get_or (row_numbers (row_at s l i)) k 0 ≡ number_at l.width s (node_start l i + k * l.width)
number_read s l i k h small =
    ap (λ (r : Row). get_or (row_numbers r) k 0) (row_there s l i h) ∙ numbers_at_law l.width s (node_start l i) 8 k small
