-- A sheet as decoded: depths, and rows with the bytes that their ranges show (document 01, "The sheet").
use Rattle.std.specs.Prelude.{◌≡◌, Bool, cond, List, ℕ, ◌<◌, eqb, length}
use Rattle.common.specs.Bytes.{Bytes}
use Rattle.sheet.specs.Layout.{depths, row_at, range}
use Rattle.sheet.specs.Verdict.{counts_from}
use Rattle.sheet.specs.declared.line.Layout.{Layout}
use Rattle.tree.specs.Attributes.{attributes_from}
use Rattle.tree.specs.Node.{Kind, element, text, comment, Node}

pub record Page : Type 0 where
  pub depths : List ℕ
  pub node : ℕ → Node
  pub marked : ℕ → Bool
  pub root : ℕ

-- the longest pool that the bounds on a page allow for: a sheet's is at most `pool_limit w`, which is less today
abbrev pub widest_pool : ℕ
widest_pool = 268435456

-- "kind (1 element, 3 text, 8 comment)"
unfoldable pub kind_of : ℕ → Kind
kind_of k = cond (eqb k 1) element (cond (eqb k 3) text comment)

module _ (s : Bytes) (l : Layout) where
  unfoldable pub node_at : ℕ → Node
  node_at i = record {
    kind = kind_of (row_at s l i).kind;
    name = range s l (row_at s l i).name_at (row_at s l i).name_len;
    value = range s l (row_at s l i).value_at (row_at s l i).value_len;
    attributes = attributes_from s l (counts_from s l 0 i) (row_at s l i).attributes;
  }

  abbrev pub page_of : Page
  page_of = record { depths = depths s l; node = node_at; marked = λ i. eqb (row_at s l i).skip 1; root = l.root }

-- two pages with the same rows: what they say past their last row counts nowhere
pub record SamePage (p₁ p₂ : Page) : Type 0 where
  pub depths : p₁.depths ≡ p₂.depths
  pub root : p₁.root ≡ p₂.root
  pub node : (i : ℕ) → i < length p₁.depths → p₁.node i ≡ p₂.node i
  pub marked : (i : ℕ) → i < length p₁.depths → p₁.marked i ≡ p₂.marked i
