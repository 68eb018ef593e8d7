-- Which rows of a sheet the walk leaves out, and what is noted of the rows before they are decided.
use Rattle.std.specs.Prelude.{◌≡◌, Bool, true, cond, List, ℕ, ◌+◌, ◌≤◌, ◌<◌, length, get_or, drop}
use Rattle.common.specs.Bytes.{Bytes}
use Rattle.filters.specs.Filters.{filtered}
use Rattle.filters.specs.Footer.{Above, body_above}
use Rattle.filters.specs.Sheet.{tag_number}
use Rattle.html2text.specs.Extract.{hidden}
use Rattle.html2text.specs.Walk.{left_out, tree_of}
use Rattle.options.specs.declared.ExtractOptions.{ExtractOptions}
use Rattle.sheet.specs.Accepted.{Accepted}
use Rattle.sheet.specs.Layout.{depths}
use Rattle.sheet.specs.Verdict.{counts_from}
use Rattle.sheet.specs.declared.line.Layout.{Layout}
use Rattle.tree.specs.Page.{node_at, page_of}
use Rattle.tree.specs.Rows.{past_from}
use Rattle.walk.specs.Turns.{Agree, flagged}

-- an array has a place for every depth of a column
pub record Fits (column stack : List ℕ) : Type 0 where
  pub place : (i : ℕ) → i < length column → get_or column i 0 < length stack

module _ (s : Bytes) (l : Layout) where
  -- what is left out without the filters
  abbrev pub comment_or_marked : ℕ → Bool
  comment_or_marked i = left_out (node_at s l) (page_of s l).marked i

  module _ (o : ExtractOptions) where
    -- a comment, a marked row, or one that the filters leave out
    abbrev pub left_out_at : ℕ → Bool
    left_out_at i = left_out (node_at s l) (hidden (filtered (page_of s l) o) (page_of s l) o) i

    -- a list says of every row that is reached whether it is left out
    abbrev pub LeftOutRows : List Bool → Type 0
    LeftOutRows left = Agree (flagged left) left_out_at (tree_of (page_of s l))

  -- the depth of "the nearest row named body at or above the root"
  abbrev pub body_depth : ℕ
  body_depth = get_or (depths s l) (body_above (node_at s l) (depths s l) l.root) 0

  -- the columns of `take_rows`; that of the depths has no row more
  pub record Noted (column tags attributes : List ℕ) : Type 0 where
    pub accepted : Accepted s l
    pub depths_are : column ≡ depths s l
    pub tags_long : l.nodes ≤ length tags
    pub tag_is : (i : ℕ) → i < l.nodes → get_or tags i 0 ≡ tag_number s l i
    pub attributes_long : l.nodes ≤ length attributes
    pub first_is : (i : ℕ) → i < l.nodes → get_or attributes i 0 ≡ counts_from s l 0 i

  pub record MarksNoted (left : List Bool) : Type 0 where
    pub long : l.nodes ≤ length left
    pub noted : (i : ℕ) → i < l.nodes → flagged left i ≡ comment_or_marked i

  -- row k can be decided, with the filters on
  pub record Undecided (o : ExtractOptions) (base : ℕ) (column tags attributes : List ℕ) (left : List Bool) (stack : List ℕ) (k : ℕ) : Type 0 where
    pub noted : Noted column tags attributes
    pub filters_on : o.main_content ≡ true
    pub base_is : base ≡ body_depth
    pub row : k < l.nodes
    pub below : base ≤ get_or column k 0
    pub room : k < length left
    pub marked : flagged left k ≡ comment_or_marked k
    pub fits : Fits column stack
    pub above : Above column k stack

-- the row that is decided behind row k: the first one past it where it is left out
abbrev pub next_row : List ℕ → Bool → ℕ → ℕ
next_row column out k = cond out (past_from (get_or column k 0) (k + 1) (drop (k + 1) column)) (k + 1)
