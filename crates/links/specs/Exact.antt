-- What is to be shown of the four rules, as types: document 01, module 4, "Prove that this is yes exactly when 5·links > text, or 5·links > 3·text."
use Rattle.std.specs.Prelude.{◌≡◌, ℕ, ◌*◌, ◌<◌, ◌≤◌, Bool, true, ◌↔◌, List, length, slice_index}
use Rattle.common.specs.Bytes.{Bytes}
use Rattle.sheet.specs.Accepted.{Accepted}
use Rattle.sheet.specs.Layout.{most_rows, most_depth, depths}
use Rattle.sheet.specs.declared.line.Layout.{Layout}
use Rattle.tree.specs.Node.{element, Node}
use Rattle.tree.specs.Page.{widest_pool, node_at}
use Rattle.tree.specs.Rows.{WellFormed, children_of}
use Rattle.tree.specs.TextContent.{descendant_text}
use Rattle.links.specs.Links.{text_bytes, link_bytes, measure_of, exceeds, link_cluster, fifth_of_any, fifth_of500, three_fifths_of800, three_fifths_of1500}
use Rattle.links.specs.declared.Rule.{Rule}

-- counts that a sheet can have: it has at most `most_rows` rows, each shows at most the pool, and each text stands in at most `most_depth` links
pub record Possible (total links : ℕ) : Type 0 where
  pub total_most : total ≤ most_rows * widest_pool
  pub links_most : links ≤ most_depth * (most_rows * widest_pool)

-- whether the measure says yes
abbrev pub says_yes : Rule → ℕ → ℕ → Bool
says_yes rule total links = exceeds rule (measure_of rule total links)

pub record RulesAreExact : Type 0 where
  pub a_fifth_of_any : (total links : ℕ) → Possible total links → (says_yes fifth_of_any total links ≡ true) ↔ ((0 < total) × (total < 5 * links))
  pub fifth_of_500 : (total links : ℕ) → Possible total links → (says_yes fifth_of500 total links ≡ true) ↔ ((0 < total) × (total ≤ 500) × (total < 5 * links))
  pub three_fifths_of_800 : (total links : ℕ) → Possible total links → (says_yes three_fifths_of800 total links ≡ true) ↔ ((0 < total) × (total ≤ 800) × (3 * total < 5 * links))
  pub three_fifths_of_1500 : (total links : ℕ) → Possible total links → (says_yes three_fifths_of1500 total links ≡ true) ↔ ((0 < total) × (total ≤ 1500) × (3 * total < 5 * links))

-- link bytes by depth: a text stands in no more links than its row is deep, so that they are at most so many times the text as it stands.
-- Of the collapsed text this does not hold: any number of <a> </a> comes to 1 byte, with a link byte each.
abbrev pub LinksByDepth : Type 0
LinksByDepth =
    (node_of : ℕ → Node) (depths : List ℕ) → WellFormed depths → (most : ℕ) → ((j : ℕ) → j < length depths → slice_index depths j ≤ most)
    → (i : ℕ) → link_bytes node_of depths i ≤ most * length (descendant_text node_of (children_of depths i))

-- both counts by the rows and the pool of a sheet
abbrev pub CountsBounded : Type 0
CountsBounded =
    (s : Bytes) (l : Layout) → Accepted s l → (i : ℕ) → i < l.nodes
    → (text_bytes (node_at s l) (depths s l) i ≤ l.nodes * l.pool) × (link_bytes (node_at s l) (depths s l) i ≤ most_depth * (l.nodes * l.pool))

-- the rules of row i of a tree
pub record ClustersAreExact (node_of : ℕ → Node) (depths : List ℕ) (i : ℕ) : Type 0 where
  pub a_fifth_of_any : (link_cluster node_of depths fifth_of_any i ≡ true) ↔ ((0 < text_bytes node_of depths i) × (text_bytes node_of depths i < 5 * link_bytes node_of depths i))
  pub fifth_of_500 : (link_cluster node_of depths fifth_of500 i ≡ true)
      ↔ ((0 < text_bytes node_of depths i) × (text_bytes node_of depths i ≤ 500) × (text_bytes node_of depths i < 5 * link_bytes node_of depths i))
  pub three_fifths_of_800 : (link_cluster node_of depths three_fifths_of800 i ≡ true)
      ↔ ((0 < text_bytes node_of depths i) × (text_bytes node_of depths i ≤ 800) × (3 * text_bytes node_of depths i < 5 * link_bytes node_of depths i))
  pub three_fifths_of_1500 : (link_cluster node_of depths three_fifths_of1500 i ≡ true)
      ↔ ((0 < text_bytes node_of depths i) × (text_bytes node_of depths i ≤ 1500) × (3 * text_bytes node_of depths i < 5 * link_bytes node_of depths i))

-- of every element of an accepted sheet
abbrev pub ElementsAreExact : Type 0
ElementsAreExact =
    (s : Bytes) (l : Layout) → Accepted s l → (i : ℕ) → i < l.nodes → (node_at s l i).kind ≡ element → ClustersAreExact (node_at s l) (depths s l) i
