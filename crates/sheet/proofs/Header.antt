-- The header: its counts, and the verdict on it.
use Rattle.std.specs.Prelude.{Ok, Err, Some, None}
use mathlib.Core.Path.{◌≡◌}
use mathlib.Core.Bool.{true, false, ◌&&◌, not, cond}
use Prim.Native.Nat.{ℕ, ◌+◌, ◌*◌, ◌≤◌, ◌<◌}
use native.Mathlib.Nat.{mul-le-mul}
use native.Mathlib.Omega.{arith}
use lib.Dec.{leb, ltb, eqb}
use lib.ListN.{length}
use borrow.Author.Tests.{leb-true, ltb-true, le-leb, lt-leb, lt-ltb, le-ltb, eq-eqb, ne_eqb}
use Rattle.common.specs.Bytes.{Bytes}
use Rattle.common.proofs.Choice.{and_parts}
use Rattle.sheet.specs.Layout.{header_length, size_of, most_rows, most_attributes, pool_limit, layout_of}
use Rattle.sheet.specs.Lines.{short_line_of}
use Rattle.sheet.specs.Verdict.{counts_right, header_of}
use Rattle.sheet.specs.declared.line.Layout.{Layout}
use Rattle.sheet.specs.declared.line.Quad.{Quad}
use Rattle.sheet.specs.declared.verdict.SheetError.TheVariants.{Length, Format, Counts}
use Rattle.sheet.proofs.AttributePass.{short_numbers, short_bad}

-- ---- counts

module _ (l : Layout) where
  pub record Counted : Type 0 where
    pub some_node : 1 ≤ l.nodes
    pub nodes : l.nodes ≤ most_rows
    pub attributes : l.attributes ≤ most_attributes
    pub pool : l.pool ≤ pool_limit l.width
    pub root : l.root < l.nodes

  pub counted : counts_right l ≡ true → Counted
  unfolding counts_right
  counted e =
      let a = and_parts (leb 1 l.nodes) (leb l.nodes most_rows && (leb l.attributes most_attributes && (leb l.pool (pool_limit l.width) && ltb l.root l.nodes))) e in
      let b = and_parts (leb l.nodes most_rows) (leb l.attributes most_attributes && (leb l.pool (pool_limit l.width) && ltb l.root l.nodes)) a.1 in
      let c = and_parts (leb l.attributes most_attributes) (leb l.pool (pool_limit l.width) && ltb l.root l.nodes) b.1 in
      let d = and_parts (leb l.pool (pool_limit l.width)) (ltb l.root l.nodes) c.1 in
      record {
        some_node = leb-true 1 l.nodes a.0;
        nodes = leb-true l.nodes most_rows b.0;
        attributes = leb-true l.attributes most_attributes c.0;
        pool = leb-true l.pool (pool_limit l.width) d.0;
        root = ltb-true l.root l.nodes d.1;
      }

  pub no_node : l.nodes < 1 → false ≡ counts_right l
  unfolding counts_right
  no_node h = simp (lt-leb 1 l.nodes h)

  module _ (a : 1 ≤ l.nodes) where
    pub many_nodes : most_rows < l.nodes → false ≡ counts_right l
    unfolding counts_right
    many_nodes h = simp (le-leb 1 l.nodes a, lt-leb l.nodes most_rows h)

    module _ (b : l.nodes ≤ most_rows) where
      pub many_attributes : most_attributes < l.attributes → false ≡ counts_right l
      unfolding counts_right
      many_attributes h = simp (le-leb 1 l.nodes a, le-leb l.nodes most_rows b, lt-leb l.attributes most_attributes h)

      module _ (c : l.attributes ≤ most_attributes) where
        pub large_pool : pool_limit l.width < l.pool → false ≡ counts_right l
        unfolding counts_right
        large_pool h = simp (le-leb 1 l.nodes a, le-leb l.nodes most_rows b, le-leb l.attributes most_attributes c, lt-leb l.pool (pool_limit l.width) h)

        pub root_test : l.pool ≤ pool_limit l.width → ltb l.root l.nodes ≡ counts_right l
        unfolding counts_right
        root_test h = simp (le-leb 1 l.nodes a, le-leb l.nodes most_rows b, le-leb l.attributes most_attributes c, le-leb l.pool (pool_limit l.width) h)

-- ---- products stay small

pub lines_small : (w n : ℕ) → w ≤ 10 → n ≤ most_attributes → (8 * w + 1) * n ≤ 4860000
lines_small w n h k = let m : 8 * w + 1 ≤ 81 = omega arith in mul-le-mul m k

pub short_lines_small : (w n : ℕ) → w ≤ 10 → n ≤ most_attributes → (4 * w + 1) * n ≤ 2460000
short_lines_small w n h k = let m : 4 * w + 1 ≤ 41 = omega arith in mul-le-mul m k

-- ---- the verdict, up to the lines

module _ (w : ℕ) (s : Bytes) where
  pub header_short : length s < header_length w → Err (Length (header_length w)) ≡ header_of w s
  unfolding header_of
  header_short h = rw (lt-ltb (length s) (header_length w) h)

  module _ (h : header_length w ≤ length s) where
    pub header_bad : short_line_of w s 0 ≡ None → Err (Format 0) ≡ header_of w s
    unfolding header_of
    header_bad e = rw (le-ltb (length s) (header_length w) h, short_bad w s 0 e)

    module _ {q : Quad} (e : short_line_of w s 0 ≡ Some q) where
      after_header : header_of w s ≡ cond (not (counts_right (layout_of w q))) (Err Counts) (cond (not (eqb (length s) (size_of (layout_of w q)))) (Err (Length (size_of (layout_of w q)))) (Ok (layout_of w q)))
      unfolding header_of
      after_header = let x = short_numbers w s 0 e in rw (le-ltb (length s) (header_length w) h, x.0, x.1)

      pub header_counts : counts_right (layout_of w q) ≡ false → Err Counts ≡ header_of w s
      header_counts c = rw (after_header, c)

      module _ (c : counts_right (layout_of w q) ≡ true) where
        pub header_length_law : (length s ≡ size_of (layout_of w q) → ⊥) → Err (Length (size_of (layout_of w q))) ≡ header_of w s
        header_length_law n = rw (after_header, c, ne_eqb (length s) (size_of (layout_of w q)) n)

        pub header_sheet : length s ≡ size_of (layout_of w q) → Ok (layout_of w q) ≡ header_of w s
        header_sheet n = rw (after_header, c, eq-eqb (length s) (size_of (layout_of w q)) n)
