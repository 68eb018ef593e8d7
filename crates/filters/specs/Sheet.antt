-- What the filters ask of a row of a sheet.
use Rattle.std.specs.Prelude.{◌≡◌, Bool, ℕ}
use Rattle.common.specs.Bytes.{Bytes}
use Rattle.links.specs.Links.{link_cluster}
use Rattle.links.specs.declared.Rule.{Rule}
use Rattle.sheet.specs.Layout.{depths}
use Rattle.sheet.specs.declared.line.Layout.{Layout}
use Rattle.tags.specs.Tags.{tag_of}
use Rattle.tree.specs.Node.{tag}
use Rattle.tree.specs.Page.{node_at}

-- some name has this number: what is above `input` has none
pub record IsTag (number : ℕ) : Type 0 where
  pub name : Bytes
  pub number_is : number ≡ tag_of name

module _ (s : Bytes) (l : Layout) (i : ℕ) where
  -- the number of its tag
  abbrev pub tag_number : ℕ
  tag_number = tag_of (tag (node_at s l i))

  -- `link_cluster(node, ..)`
  abbrev pub cluster_at : Rule → Bool
  cluster_at rule = link_cluster (node_at s l) (depths s l) rule i
