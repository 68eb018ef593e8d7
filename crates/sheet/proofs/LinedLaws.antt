-- A line that is right has a number in each of its columns.
use Rattle.std.specs.Prelude.{Option, Some, None}
use mathlib.Core.Path.{◌≡◌, refl, sym, ap, ◌∙◌, subst}
use mathlib.Core.Bool.{true}
use Prim.Native.Nat.{ℕ, zero, suc, ◌+◌, ◌-◌, ◌*◌, ◌^◌, ◌≤◌, ◌<◌}
use native.Mathlib.Nat.{mul-le-mul_left, mul-le-mul_right, suc-mul}
use native.Mathlib.Omega.{arith}
use lib.Dec.{eqb}
use lib.ListN.{length, get_or, take, drop, length-drop}
use borrow.Author.Tests.{eqb-true}
use Rattle.common.specs.Bytes.{Bytes}
use Rattle.common.proofs.Choice.{absurd_test, and_parts}
use Rattle.common.proofs.Parts.{part_length}
use Rattle.sheet.specs.Accepted.{Line}
use Rattle.sheet.specs.Columns.{columns}
use Rattle.sheet.specs.Layout.{node_length, attribute_length, node_start, attribute_start, pool_start, pool_of}
use Rattle.sheet.specs.Lines.{is_number, field_at, numbers_right, after, line_right}
use Rattle.sheet.specs.Notes.{Lined}
use Rattle.sheet.specs.Verdict.{node_format, attribute_format}
use Rattle.sheet.specs.declared.line.Layout.{Layout}
use Rattle.sheet.proofs.ColumnsLaws.{reads_back}
use Rattle.sheet.proofs.FirstWrong.{all_right}

number_of : (f : Option ℕ) → is_number f ≡ true → (n : ℕ) × (f ≡ Some n)
number_of (Some n) e = (n, refl)
number_of None e = absurd_test e refl

after_is : (w at k : ℕ) → after w at k ≡ at + k * w
after_is w at zero = omega arith
after_is w at (suc k) = after_is w (at + w) k ∙ omega arith

module _ (w : ℕ) (s : Bytes) where
  numbers : (at k : ℕ) → numbers_right w s at k ≡ true → (i : ℕ) → i < k → is_number (field_at w s (at + i * w)) ≡ true
  numbers at zero e i h = absurd (omega arith)
  numbers at (suc k) e zero h = let z : at + 0 * w ≡ at = omega arith in ap (λ (p : ℕ). is_number (field_at w s p)) z ∙ (and_parts (is_number (field_at w s at)) (numbers_right w s (at + w) k) e).0
  numbers at (suc k) e (suc i) h =
      let z : at + suc i * w ≡ at + w + i * w = omega arith in
      ap (λ (p : ℕ). is_number (field_at w s p)) z ∙ numbers (at + w) k (and_parts (is_number (field_at w s at)) (numbers_right w s (at + w) k) e).1 i (omega arith)

  line : (at k : ℕ) → at + k * w ≤ length s → line_right w s at k ≡ true → Line w s at k
  unfolding field_at
  line at k fits e =
      let p = and_parts (eqb (get_or s (after w at k) 0) 10) (numbers_right w s at k) e in
      record {
        number = λ i h.
            let f = number_of (field_at w s (at + i * w)) (numbers at k p.1 i h) in
            let c = (reads_back (take w (drop (at + i * w) s)) f.0).0 f.1 in
            let long = part_length s (at + i * w) w (omega (arith, mul-le-mul_right w h, suc-mul i w)) in
            record { value = f.0; written = c.0 ∙ ap (λ (v : ℕ). columns v f.0) long; fits = subst (λ (v : ℕ). f.0 < 10 ^ v) long c.2 };
        end = ap (λ (p : ℕ). get_or s p 0) (sym (after_is w at k)) ∙ eqb-true (get_or s (after w at k) 0) 10 p.0;
      }

module _ {s : Bytes} {l : Layout} (lined : Lined s l) where
  pub node_room : (i : ℕ) → i < l.nodes → node_start l i + node_length l.width ≤ length s
  node_room i h = omega (arith, lined.size, mul-le-mul_left (8 * l.width + 1) h)

  pub attribute_room : (j : ℕ) → j < l.attributes → attribute_start l j + attribute_length l.width ≤ length s
  attribute_room j h = omega (arith, lined.size, mul-le-mul_left (4 * l.width + 1) h)

  pub pool_from : length s - l.pool ≡ pool_start l
  pool_from = omega (arith, lined.size)

  pub pool_length : length (pool_of s l) ≡ l.pool
  pool_length = length-drop (pool_start l) s ∙ omega (arith, lined.size)

  pub node_line : (i : ℕ) → i < l.nodes → Line l.width s (node_start l i) 8
  unfolding node_format
  node_line i h = line l.width s (node_start l i) 8 (omega (arith, node_room i h)) (all_right (node_format s l) l.nodes lined.formats.of_nodes i h)

  pub attribute_line : (j : ℕ) → j < l.attributes → Line l.width s (attribute_start l j) 4
  unfolding attribute_format
  attribute_line j h = line l.width s (attribute_start l j) 4 (omega (arith, attribute_room j h)) (all_right (attribute_format s l) l.attributes lined.formats.of_attributes j h)
