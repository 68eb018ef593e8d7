-- What an accepted sheet is, in document 01's sentences: the facts that its readers may use.
use Rattle.std.specs.Prelude.{◌≡◌, true, ◌⊎◌, ℕ, suc, ◌+◌, ◌*◌, ◌≤◌, ◌<◌, get_or, Some}
use Rattle.common.specs.Bytes.{Bytes, codes}
use Rattle.utf8.specs.Valid.{valid}
use Rattle.sheet.specs.Column.{parent_of}
use Rattle.sheet.specs.Columns.{InColumns}
use Rattle.sheet.specs.Layout.{most_depth, row_at, attribute_at, range, depths}
use Rattle.sheet.specs.Notes.{Sized, Lined}
use Rattle.sheet.specs.Verdict.{counts_from}
use Rattle.sheet.specs.declared.line.Layout.{Layout}
use Rattle.sheet.specs.declared.line.Row.{Row}

-- k numbers in columns of width w from `at` on, and LF behind them
pub record Line (w : ℕ) (s : Bytes) (at k : ℕ) : Type 0 where
  pub number : (i : ℕ) → i < k → InColumns w s (at + i * w)
  pub end : get_or s (at + k * w) 0 ≡ 10

pub record KindOf (r : Row) : Type 0 where
  pub listed : (r.kind ≡ 1) ⊎ ((r.kind ≡ 3) ⊎ (r.kind ≡ 8))
  pub mark : r.skip ≤ 1
  pub element : r.kind ≡ 1 → r.value_len ≡ 0
  pub other : (r.kind ≡ 1 → ⊥) → (r.name_len ≡ 0) × (r.attributes ≡ 0)

module _ (s : Bytes) (l : Layout) where
  -- a range that lies in the pool and is UTF-8
  pub record Text (at len : ℕ) : Type 0 where
    pub inside : at + len ≤ l.pool
    pub utf8 : valid (range s l at len) ≡ true

  -- a row behind row i
  pub record Later (i : ℕ) : Type 0 where
    pub some_depth : 1 ≤ (row_at s l (suc i)).depth
    pub depth_within : (row_at s l (suc i)).depth ≤ most_depth
    pub no_jump : (row_at s l (suc i)).depth ≤ suc (row_at s l i).depth
    pub parent : (j : ℕ) × (parent_of (depths s l) (suc i) ≡ Some j) × ((row_at s l j).kind ≡ 1)

  pub record Accepted : Type 0 where
    pub sized : Sized s l
    pub lined : Lined s l
    pub kind : (i : ℕ) → i < l.nodes → KindOf (row_at s l i)
    pub body_depth : (row_at s l 0).depth ≡ 0
    pub body_element : (row_at s l 0).kind ≡ 1
    pub body_name : range s l (row_at s l 0).name_at (row_at s l 0).name_len ≡ codes "body"
    pub later : (i : ℕ) → suc i < l.nodes → Later i
    pub root : (row_at s l l.root).kind ≡ 1
    pub name : (i : ℕ) → i < l.nodes → Text (row_at s l i).name_at (row_at s l i).name_len
    pub value : (i : ℕ) → i < l.nodes → Text (row_at s l i).value_at (row_at s l i).value_len
    pub attribute_name : (j : ℕ) → j < l.attributes → Text (attribute_at s l j).name_at (attribute_at s l j).name_len
    pub attribute_value : (j : ℕ) → j < l.attributes → Text (attribute_at s l j).value_at (attribute_at s l j).value_len
    pub counts : counts_from s l 0 l.nodes ≡ l.attributes
