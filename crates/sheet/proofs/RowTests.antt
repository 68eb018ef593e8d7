-- The tests of a row, one return of the code after the other.
use mathlib.Core.Path.{◌≡◌, refl, sym, ap, ◌∙◌}
use mathlib.Core.Bool.{true, false, ◌&&◌, ◌||◌, and-false}
use Prim.Native.Nat.{ℕ, zero, suc, ◌+◌, ◌-◌, ◌≤◌, ◌<◌}
use native.Mathlib.Omega.{arith}
use lib.Dec.{leb, eqb}
use lib.ListN.{length, take, drop}
use borrow.Author.Tests.{leb-true, le-leb, lt-leb, eq-eqb, ne_eqb}
use Rattle.common.specs.Bytes.{Bytes, codes, same}
use Rattle.common.proofs.Choice.{leb_same}
use Rattle.common.proofs.Parts.{part_to}
use Rattle.utf8.specs.Valid.{valid}
use Rattle.sheet.specs.Layout.{most_depth, part_of}
use Rattle.sheet.specs.Notes.{later_right, tree_right, row_right}
use Rattle.sheet.specs.Verdict.{inside, text_right, row_texts, kind_right, body_right}
use Rattle.sheet.specs.declared.line.Row.{Row}

-- ---- ranges

pub inside_apart : (at len pool : ℕ) → at ≤ pool → leb len (pool - at) ≡ leb (at + len) pool
inside_apart at len pool h = leb_same len (pool - at) (at + len) pool (λ k. omega arith) (λ k. omega arith)

pub inside_past : (at len pool : ℕ) → pool < at → false ≡ leb (at + len) pool
inside_past at len pool h = sym (lt-leb (at + len) pool (omega arith))

module _ (pool : Bytes) (at len : ℕ) where
  pub inside_fits : inside pool at len ≡ true → at + len ≤ length pool
  inside_fits i = leb-true (at + len) (length pool) i

  pub text_outside : inside pool at len ≡ false → false ≡ text_right pool at len
  unfolding text_right
  text_outside e = rw e

  pub text_inside : inside pool at len ≡ true → valid (part_of pool at len) ≡ text_right pool at len
  unfolding text_right
  text_inside i = rw i

  pub text_part : inside pool at len ≡ true → valid (take (at + len - at) (drop at pool)) ≡ text_right pool at len
  text_part i = ap valid (part_to pool at len) ∙ text_inside i

-- ---- the kind

module _ (r : Row) where
  pub kind_skip : 1 < r.skip → false ≡ kind_right r
  unfolding kind_right
  kind_skip h = rw (lt-leb r.skip 1 h) (sym (and-false (eqb r.kind 1 || (eqb r.kind 3 || eqb r.kind 8))))

  module _ (skip : r.skip ≤ 1) where
    pub kind_element : r.kind ≡ 1 → eqb r.value_len 0 ≡ kind_right r
    unfolding kind_right
    kind_element e = simp (eq-eqb r.kind 1 e, le-leb r.skip 1 skip)

    module _ (n : r.kind ≡ 1 → ⊥) where
      pub kind_text : r.kind ≡ 3 → (eqb r.name_len 0 && eqb r.attributes 0) ≡ kind_right r
      unfolding kind_right
      kind_text e = simp (ne_eqb r.kind 1 n, eq-eqb r.kind 3 e, le-leb r.skip 1 skip)

      module _ (m : r.kind ≡ 3 → ⊥) where
        pub kind_comment : r.kind ≡ 8 → (eqb r.name_len 0 && eqb r.attributes 0) ≡ kind_right r
        unfolding kind_right
        kind_comment e = simp (ne_eqb r.kind 1 n, ne_eqb r.kind 3 m, eq-eqb r.kind 8 e, le-leb r.skip 1 skip)

        pub kind_other : (r.kind ≡ 8 → ⊥) → false ≡ kind_right r
        unfolding kind_right
        kind_other e = simp (ne_eqb r.kind 1 n, ne_eqb r.kind 3 m, ne_eqb r.kind 8 e)

-- ---- body

module _ (pool : Bytes) (r : Row) where
  pub body_kind : (r.kind ≡ 1 → ⊥) → false ≡ body_right pool r
  unfolding body_right
  body_kind n = simp (ne_eqb r.kind 1 n)

  module _ (e : r.kind ≡ 1) where
    pub body_depth : (r.depth ≡ 0 → ⊥) → false ≡ body_right pool r
    unfolding body_right
    body_depth n = simp (eq-eqb r.kind 1 e, ne_eqb r.depth 0 n)

    module _ (d : r.depth ≡ 0) where
      pub body_outside : inside pool r.name_at r.name_len ≡ false → false ≡ body_right pool r
      unfolding body_right
      body_outside i = simp (eq-eqb r.kind 1 e, eq-eqb r.depth 0 d, i)

      pub body_name : inside pool r.name_at r.name_len ≡ true
          → same (take (r.name_at + r.name_len - r.name_at) (drop r.name_at pool)) (codes "body") ≡ body_right pool r
      unfolding body_right
      body_name i =
          simp (eq-eqb r.kind 1 e, eq-eqb r.depth 0 d, i)
          (ap (λ (t : Bytes). same t (codes "body")) (part_to pool r.name_at r.name_len))

-- ---- a later row

module _ (before r : Row) where
  pub later_zero : r.depth ≡ 0 → false ≡ later_right before r
  unfolding later_right
  later_zero h = simp (lt-leb 1 r.depth (omega arith))

  module _ (p : r.depth ≡ 0 → ⊥) where
    pub later_deep : most_depth < r.depth → false ≡ later_right before r
    unfolding later_right
    later_deep h = simp (le-leb 1 r.depth (omega arith), lt-leb r.depth most_depth h)

    module _ (d : r.depth ≤ most_depth) where
      pub later_jump : before.depth < r.depth - 1 → false ≡ later_right before r
      unfolding later_right
      later_jump h = simp (le-leb 1 r.depth (omega arith), le-leb r.depth most_depth d, lt-leb r.depth (suc before.depth) (omega arith))

      pub later_child : r.depth - 1 ≡ before.depth → eqb before.kind 1 ≡ later_right before r
      unfolding later_right
      later_child h = simp (le-leb 1 r.depth (omega arith), le-leb r.depth most_depth d, le-leb r.depth (suc before.depth) (omega arith), eq-eqb r.depth (suc before.depth) (omega arith))

      pub later_sibling : r.depth - 1 ≤ before.depth → (r.depth - 1 ≡ before.depth → ⊥) → true ≡ later_right before r
      unfolding later_right
      later_sibling h n = simp (le-leb 1 r.depth (omega arith), le-leb r.depth most_depth d, le-leb r.depth (suc before.depth) (omega arith), ne_eqb r.depth (suc before.depth) (omega (arith, n)))

-- ---- the first row, and a later one

module _ (pool : Bytes) (i : ℕ) (before r : Row) where
  pub tree_first : i ≡ 0 → body_right pool r ≡ tree_right pool i before r
  tree_first e = rw e

  pub tree_later : (i ≡ 0 → ⊥) → later_right before r ≡ tree_right pool i before r
  tree_later n = go i n
    where
      go : (j : ℕ) → (j ≡ 0 → ⊥) → later_right before r ≡ tree_right pool j before r
      go zero m = absurd (m refl)
      go (suc j) m = refl

-- ---- together

module _ (pool : Bytes) (i : ℕ) (before r : Row) where
  pub row_kind_wrong : kind_right r ≡ false → false ≡ row_right pool i before r
  unfolding row_right
  row_kind_wrong k = rw k

  module _ (k : kind_right r ≡ true) where
    pub row_tree_wrong : tree_right pool i before r ≡ false → false ≡ row_right pool i before r
    unfolding row_right
    row_tree_wrong t = rw (k, t)

    pub row_texts_law : tree_right pool i before r ≡ true → row_texts pool r ≡ row_right pool i before r
    unfolding row_right
    row_texts_law t = rw (k, t)
