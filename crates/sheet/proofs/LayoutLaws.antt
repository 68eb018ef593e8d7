-- Lines and ranges lie in the sheet; the column of depths; numbers are small.
use Rattle.std.specs.Prelude.{Option, Some, None}
use mathlib.Core.Path.{◌≡◌, refl, sym, ap, ◌∙◌}
use mathlib.Core.Bool.{Bool, true}
use Prim.Native.Nat.{ℕ, zero, suc, ◌+◌, ◌-◌, ◌*◌, ◌^◌, ◌≤◌, ◌<◌}
use native.Mathlib.Nat.{mul-le-mul_left, pow-le-pow_right}
use native.Mathlib.Omega.{arith}
use lib.Dec.{lit<}
use lib.ListN.{length, get_or, take, drop, length-take, length-drop}
use lib.Seq.{drop-drop}
use borrow.Author.Tests.{leb-true, lt-ltb}
use Rattle.common.specs.Bytes.{Bytes}
use Rattle.common.proofs.Parts.{part_from}
use Rattle.utf8.specs.Valid.{valid}
use Rattle.sheet.specs.Columns.{field_of}
use Rattle.sheet.specs.Layout.{node_length, attribute_length, node_start, attribute_start, pool_start, part_of, row_at, attribute_at, pool_of, range, depths_from, depths}
use Rattle.sheet.specs.Lines.{field_at, number_in, number_at, row_from, attribute_from}
use Rattle.sheet.specs.Notes.{Sized, WholePool, Whole}
use Rattle.sheet.specs.Verdict.{inside}
use Rattle.sheet.specs.declared.line.Layout.{Layout}
use Rattle.sheet.proofs.ColumnsLaws.{field_below}
use Rattle.sheet.proofs.ReadingColumns.{ten_positive}

module _ {s : Bytes} {l : Layout} (sized : Sized s l) where
  pub node_fits : (i : ℕ) → i < l.nodes → node_start l i + node_length l.width ≤ length s
  node_fits i h = omega (arith, sized.size, mul-le-mul_left (8 * l.width + 1) h)

  pub attribute_fits : (j : ℕ) → j < l.attributes → attribute_start l j + attribute_length l.width ≤ length s
  attribute_fits j h = omega (arith, sized.size, mul-le-mul_left (4 * l.width + 1) h)

  pub pool_start_law : length s - l.pool ≡ pool_start l
  pool_start_law = omega (arith, sized.size)

  -- what lies in the pool lies in the sheet's
  pub in_pool : (at len : ℕ) → inside (pool_of s l) at len ≡ true → at + len ≤ l.pool
  in_pool at len i =
      let long : length (pool_of s l) ≡ l.pool = simp length-drop (omega (arith, sized.size)) in
      omega (arith, leb-true (at + len) (length (pool_of s l)) i)

module _ (s : Bytes) (l : Layout) where
  -- a range of a sheet is one of its pool
  pub range_in_pool : (at len : ℕ) → range s l at len ≡ part_of (pool_of s l) at len
  range_in_pool at len = ap (take len) (sym (drop-drop at (pool_start l) s))

  -- `&s[start..]`
  pub pool_part : {start : ℕ} → start ≡ pool_start l → take (length s - start) (drop start s) ≡ pool_of s l
  pool_part {start} e = part_from s start ∙ ap (λ (k : ℕ). drop k s) e

  pub pool_whole : {whole : Bool} {start : ℕ} → start ≡ pool_start l → Whole s l whole → WholePool (take (length s - start) (drop start s)) whole
  pool_whole e h t = ap valid (pool_part e) ∙ h t

-- the numbers of a row and of an attribute that are there
module _ (s : Bytes) (l : Layout) where
  pub row_there : (i : ℕ) → i < l.nodes → row_at s l i ≡ row_from l.width s (node_start l i)
  unfolding row_at
  row_there i h = rw (lt-ltb i l.nodes h)

  pub attribute_there : (j : ℕ) → j < l.attributes → attribute_at s l j ≡ attribute_from l.width s (attribute_start l j)
  unfolding attribute_at
  attribute_there j h = rw (lt-ltb j l.attributes h)

-- a number in w columns is below 10 ^ w
small_in : (f : Option ℕ) (k : ℕ) → 0 < k → ((n : ℕ) → f ≡ Some n → n < k) → number_in f < k
small_in (Some n) k p h = h n refl
small_in None k p h = p

pub number_small : (w : ℕ) (s : Bytes) (at : ℕ) → number_at w s at < 10 ^ w
unfolding field_at
number_small w s at =
    small_in (field_of (take w (drop at s))) (10 ^ w) (ten_positive w) (field_below (take w (drop at s)) w (simp length-take (omega arith)))

pub number_below : (w : ℕ) (s : Bytes) (at : ℕ) → w ≤ 10 → number_at w s at < 10 ^ 10
number_below w s at h = omega (arith, number_small w s at, pow-le-pow_right {n = 10} (lit< tt) h)

-- ---- the column of depths

module _ (s : Bytes) (l : Layout) where
  pub depths_from_length : (i n : ℕ) → length (depths_from s l i n) ≡ n
  unfolding depths_from
  depths_from_length i zero = refl
  depths_from_length i (suc n) = ap suc (depths_from_length (suc i) n)

  depths_from_at : (i n j : ℕ) → j < n → get_or (depths_from s l i n) j 0 ≡ (row_at s l (i + j)).depth
  unfolding depths_from
  depths_from_at i zero j h = absurd (omega arith)
  depths_from_at i (suc n) zero h = let e : i ≡ i + 0 = omega arith in ap (λ (k : ℕ). (row_at s l k).depth) e
  depths_from_at i (suc n) (suc j) h = let e : suc i + j ≡ i + suc j = omega arith in depths_from_at (suc i) n j (omega arith) ∙ ap (λ (k : ℕ). (row_at s l k).depth) e

  pub depths_at : (j : ℕ) → j < l.nodes → get_or (depths s l) j 0 ≡ (row_at s l j).depth
  depths_at j h = let e : 0 + j ≡ j = omega arith in depths_from_at 0 l.nodes j h ∙ ap (λ (k : ℕ). (row_at s l k).depth) e
