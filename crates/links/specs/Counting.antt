-- Text bytes and link bytes in one pass: what one row adds.
-- A link's text collapses as the whole does, but for its own beginning: a blank there counts for it, even behind a blank.
use Rattle.std.specs.Prelude.{◌≡◌, ℕ, suc, ◌+◌, ◌-◌, ◌*◌, ◌^◌, ◌<◌, ◌≤◌, min, Bool, true, false, cond, List, [], ◌∷◌, length, nat_lt, slice_index, slice_index_or, slice_set}
use Rattle.common.specs.Bytes.{Bytes}
use Rattle.sheet.specs.Layout.{most_rows, most_depth}
use Rattle.text.specs.Text.{is_space, collapse_from, space_after, collapse}
use Rattle.tree.specs.Node.{Node}
use Rattle.tree.specs.Page.{widest_pool}
use Rattle.tree.specs.TextContent.{text_data}
use Rattle.links.specs.Links.{is_link, text_bytes, link_bytes}
use Rattle.links.specs.declared.Rule.{Rule}
use Rattle.links.specs.declared.counts.Counting.{Counting}
use Rattle.links.specs.declared.counts.Counts.{Counts}

-- both counts of row i
abbrev pub counts_of : (ℕ → Node) → List ℕ → ℕ → Counts
counts_of node_of depths i = record { text = text_bytes node_of depths i; links = link_bytes node_of depths i }

-- what is counted so far
abbrev pub counts_in : Counting → Counts
counts_in c = record { text = c.text; links = c.links }

-- of the `above` links that a text stands in, `old` have text already and go on behind it; the others begin with this one
abbrev pub with_text : Counting → ℕ → ℕ → ℕ → Bytes → Counting
with_text c depth above old [] = c
with_text c depth above old (b ∷ t) =
    record {
      text = c.text + length (collapse_from is_space c.space (b ∷ t));
      links = c.links + old * length (collapse_from is_space c.space (b ∷ t)) + (above - old) * length (collapse (b ∷ t));
      space = space_after is_space c.space (b ∷ t);
      low = depth;
    }

abbrev pub lowered : Counting → ℕ → Counting
lowered c depth = record { text = c.text; links = c.links; space = c.space; low = min c.low depth }

-- `around` has for each depth how many links stand around a row there
abbrev pub count_row : Node → ℕ → Counting → List ℕ → Counting
count_row n depth c around = with_text (lowered c depth) depth (slice_index around depth) (slice_index around (min c.low depth)) (text_data n)

abbrev pub one_more_if : Bool → ℕ → ℕ
one_more_if true n = suc n
one_more_if false n = n

abbrev pub around_after : Node → ℕ → List ℕ → List ℕ
around_after n depth around = slice_set around (suc depth) (one_more_if (is_link n) (slice_index around depth))

-- what the step asks: the array has a place for each depth from 0 to `most_depth` and one more, and the counts stay small
pub record Room (n : Node) (depth : ℕ) (c : Counting) (around : List ℕ) : Type 0 where
  pub deep : depth ≤ most_depth
  pub size : length around ≡ most_depth + 2
  pub ordered : slice_index_or around (min c.low depth) 0 ≤ slice_index around depth
  pub few : slice_index_or around depth 0 ≤ most_rows
  pub text : (count_row n depth c around).text ≤ most_rows * widest_pool
  pub links : (count_row n depth c around).links ≤ most_depth * (most_rows * widest_pool)

-- a pass that may stop once the text has more than `most` bytes
pub record CountsUpTo (most : ℕ) (node_of : ℕ → Node) (depths : List ℕ) (i : ℕ) (r : Counts) : Type 0 where
  pub within : text_bytes node_of depths i ≤ most → r ≡ counts_of node_of depths i
  pub beyond : most < text_bytes node_of depths i → most < r.text

-- the text bytes beyond which a rule's measure is known: "limit 0 is none", and a length has at most 64 bits
abbrev pub most_of : Rule → ℕ
most_of rule = cond (nat_lt 0 rule.limit) rule.limit (2 ^ 64 - 1)
