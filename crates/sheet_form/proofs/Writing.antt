-- A sheet is written line after line.
use mathlib.Core.Path.{◌≡◌, refl, ap, ◌∙◌, subst}
use mathlib.Core.List.{List, [], ◌∷◌, ◌++◌, append_assoc}
use Prim.Native.Nat.{ℕ, suc, ◌+◌, ◌-◌, ◌*◌, ◌≤◌, ◌<◌}
use native.Mathlib.Nat.{add-zero, sub-zero}
use native.Mathlib.Numerals.{add-one}
use native.Mathlib.Omega.{arith}
use lib.ListN.{length, take, drop}
use lib.Seq.{take_all}
use Rattle.common.specs.Bytes.{Bytes}
use Rattle.common.specs.Puts.{Puts}
use Rattle.common.proofs.Puts.{puts_then, puts_length, Putting, putting_start, putting_more, putting_room, putting_end}
use Rattle.sheet.specs.Layout.{pool_start, row_at, attribute_at, pool_of, range}
use Rattle.sheet.specs.Notes.{Lined}
use Rattle.sheet.specs.Writing.{four_columns, line, quad_line}
use Rattle.sheet.specs.declared.line.Attribute.{Attribute}
use Rattle.sheet.specs.declared.line.Layout.{Layout}
use Rattle.sheet.specs.declared.line.Quad.{Quad}
use Rattle.sheet.specs.declared.line.Row.{Row}
use Rattle.sheet.proofs.LinedLaws.{pool_length}
use Rattle.sheet.proofs.WritingColumns.{line_length}
use Rattle.sheet_form.specs.Encoding.{lines, encode, listed, decode}
use Rattle.sheet_form.specs.Decoded.{row_numbers, attribute_numbers, header_numbers, layout_for}
use Rattle.sheet_form.proofs.Lists.{listed_length, lines_length}

-- ---- a row

module _ (w : ℕ) where
  pub row_put : (x y : Quad) {s0 s1 s2 : Bytes} {at middle past : ℕ} → Puts s0 at (four_columns w x) s1 middle → Puts s1 middle (quad_line w y) s2 past
      → Puts s0 at (line w (x.first ∷ x.second ∷ x.third ∷ x.fourth ∷ y.first ∷ y.second ∷ y.third ∷ y.fourth ∷ [])) s2 past
  unfolding four_columns line
  row_put x y p q = simp append_assoc at (puts_then p q)

-- ---- a line for each

module _ {A : Type 0} (numbers : A → List ℕ) (k w : ℕ) (count : (a : A) → length (numbers a) ≡ k) (here : ℕ → A) (n : ℕ) where
  -- the lines from line i on
  abbrev pub left : ℕ → Bytes
  left i = lines numbers w (listed here i (n - i))

  abbrev pub whole : Bytes
  whole = lines numbers w (listed here 0 n)

  left_more : (i : ℕ) → i < n → left i ≡ line w (numbers (here i)) ++ left (i + 1)
  unfolding lines listed
  left_more i h =
      let e : n - i ≡ suc (n - (i + 1)) = omega arith in
      rw (e, add-one)

  left_none : (i : ℕ) → n ≤ i → left i ≡ []
  unfolding lines listed
  left_none i h = let e : n - i ≡ 0 = omega arith in rw e

  pub whole_length : length whole ≡ (k * w + 1) * n
  whole_length = lines_length numbers k w count (listed here 0 n) ∙ ap (λ (m : ℕ). (k * w + 1) * m) (listed_length here 0 n)

  module _ {before : Bytes} {at : ℕ} where
    pub lines_start : Putting before at whole before at (left 0)
    lines_start = rw sub-zero putting_start

    module _ {out : Bytes} {now i : ℕ} (p : Putting before at whole out now (left i)) where
      pub lines_room : at + (k * w + 1) * n ≤ length before → i < n → now + (k * w + 1) ≤ length out
      lines_room fits h =
          let room = putting_room (line w (numbers (here i))) (left (i + 1)) p (left_more i h) (omega (arith, whole_length)) in
          omega (arith, line_length w (numbers (here i)), ap (λ (m : ℕ). m * w) (count (here i)))

      pub lines_more : {next : Bytes} {then : ℕ} {a : A} → i < n → a ≡ here i → Puts out now (line w (numbers a)) next then → Putting before at whole next then (left (i + 1))
      lines_more {next} {then} h e q = putting_more p (left_more i h) (subst (λ (b : A). Puts out now (line w (numbers b)) next then) e q)

      pub lines_end : n ≤ i → Puts before at whole out now
      lines_end h = putting_end p (left_none i h)

-- ---- the whole sheet

puts_past : (text : Bytes) (n : ℕ) {before after : Bytes} {at past : ℕ} → length text ≡ n → Puts before at text after past → (past ≡ at + n) × (length after ≡ length before)
puts_past text n e p = (omega (arith, p.place, e), puts_length p)

module _ (w : ℕ) {before after : Bytes} {at past : ℕ} where
  pub line_past : (ns : List ℕ) → Puts before at (line w ns) after past → (past ≡ at + (length ns * w + 1)) × (length after ≡ length before)
  line_past ns p = puts_past _ _ (line_length w ns) p

  pub rows_past : (here : ℕ → Row) (n : ℕ) → Puts before at (lines row_numbers w (listed here 0 n)) after past → (past ≡ at + (8 * w + 1) * n) × (length after ≡ length before)
  rows_past here n p = puts_past _ _ (whole_length row_numbers 8 w (λ r. refl) here n) p

  pub attributes_past : (here : ℕ → Attribute) (n : ℕ) → Puts before at (lines attribute_numbers w (listed here 0 n)) after past → (past ≡ at + (4 * w + 1) * n) × (length after ≡ length before)
  attributes_past here n p = puts_past _ _ (whole_length attribute_numbers 4 w (λ r. refl) here n) p

module _ {s : Bytes} {l : Layout} (lined : Lined s l) (w : ℕ) where
  pub pool_range : range s l 0 l.pool ≡ pool_of s l
  pool_range = ap (λ (p : ℕ). take l.pool (drop p s)) (add-zero (pool_start l)) ∙ take_all l.pool (pool_of s l) (omega (arith, pool_length lined))

  pub part_length : {pool : Bytes} → pool ≡ range s l 0 l.pool → length pool ≡ l.pool
  part_length e = ap length (e ∙ pool_range) ∙ pool_length lined

  header_is : line w (header_numbers l) ≡ line w (header_numbers (layout_for w (decode l s)))
  unfolding decode
  header_is = rw (listed_length (row_at s l) 0 l.nodes, listed_length (attribute_at s l) 0 l.attributes, pool_length lined)

  pub sheet_put : {s0 s1 s2 s3 s4 : Bytes} {a1 a2 a3 past : ℕ} {pool : Bytes}
      → Puts s0 0 (line w (header_numbers l)) s1 a1
      → Puts s1 a1 (lines row_numbers w (listed (row_at s l) 0 l.nodes)) s2 a2
      → Puts s2 a2 (lines attribute_numbers w (listed (attribute_at s l) 0 l.attributes)) s3 a3
      → Puts s3 a3 pool s4 past
      → pool ≡ range s l 0 l.pool
      → Puts s0 0 (encode w (decode l s)) s4 past
  unfolding encode decode
  sheet_put {s0} {s1} {s2} {s3} {s4} {a1} {a2} {a3} {past} {pool} p1 p2 p3 p4 e =
      puts_then (subst (λ (b : Bytes). Puts s0 0 b s1 a1) header_is p1) (puts_then p2 (puts_then p3 (subst (λ (b : Bytes). Puts s3 a3 b s4 past) (e ∙ pool_range) p4)))
