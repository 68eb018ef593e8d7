-- What holds of every sheet that is marked.
use Rattle.std.specs.Prelude.{◌≡◌, Bool, true, ◌||◌, ◌↔◌, ℕ, ◌+◌, ◌*◌, ◌≤◌, ◌<◌, length, get_or, Ok}
use Rattle.common.specs.Bytes.{Bytes}
use Rattle.options.specs.declared.ExtractOptions.{ExtractOptions}
use Rattle.sheet.specs.Column.{parent_of}
use Rattle.sheet.specs.Layout.{node_start}
use Rattle.sheet.specs.Verdict.{verdict}
use Rattle.sheet.specs.declared.line.Layout.{Layout}
use Rattle.sheet_form.specs.Encoding.{decode}
use Rattle.tags.specs.Words.{one_of}
use Rattle.tree.specs.Forest.{Descendant}
use Rattle.tree.specs.Node.{element}
use Rattle.tree.specs.Page.{Page, page_of}
use Rattle.marking.specs.Answers.{marked_of, sheet_after}
use Rattle.marking.specs.Examples.{ExamplesRight}
use Rattle.marking.specs.Marks.{to_mark, is_new}
use Rattle.marking.specs.Names.{skip_names}

-- place k of the sheet lies in the third column of row i's line: "depth, kind, skip, .."
pub record InSkipOf (l : Layout) (i k : ℕ) : Type 0 where
  pub from : node_start l i + 2 * l.width ≤ k
  pub to : k < node_start l i + 3 * l.width

-- a row of a page that is to be marked, in WHATWG DOM's words: a descendant of the root and an element, of a listed name
pub record Chosen (p : Page) (o : ExtractOptions) (noscript : Bool) (i : ℕ) : Type 0 where
  pub below : Descendant (parent_of p.depths) p.root i
  pub element : (p.node i).kind ≡ element
  pub name : one_of (p.node i).name (skip_names o noscript) ≡ true

module _ (s : Bytes) (l : Layout) (o : ExtractOptions) (noscript : Bool) where
  abbrev pub after : Bytes
  after = sheet_after s o noscript

  abbrev pub chosen : ℕ → Bool
  chosen i = to_mark o noscript (decode l s) i

  pub record SheetMarked : Type 0 where
    pub rows : (i : ℕ) → i < l.nodes → (chosen i ≡ true) ↔ Chosen (page_of s l) o noscript i
    -- the marked sheet is accepted
    pub accepted : verdict after ≡ Ok l
    -- every byte outside the skip fields that it sets is as it was
    pub size : length after ≡ length s
    pub bytes : (k : ℕ) → ((i : ℕ) → i < l.nodes → is_new o noscript (decode l s) i ≡ true → InSkipOf l i k → ⊥)
        → get_or after k 0 ≡ get_or s k 0
    -- marked are then those that are to be marked and those that were marked
    pub marks : (i : ℕ) → i < l.nodes → (page_of after l).marked i ≡ (chosen i || (page_of s l).marked i)
    -- marking again with the same options sets none and changes nothing
    pub none_again : marked_of after o noscript ≡ Ok 0
    pub same_again : sheet_after after o noscript ≡ after

pub record Theorems : Type 0 where
  pub marked : (s : Bytes) (l : Layout) (o : ExtractOptions) (noscript : Bool) → verdict s ≡ Ok l → SheetMarked s l o noscript
  pub examples : ExamplesRight
