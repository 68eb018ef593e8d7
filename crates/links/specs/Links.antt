-- The link measure (document 01, module 4): `link_cluster` of filters.rs.
use Rattle.std.specs.Prelude.{ℕ, ◌+◌, Bool, true, false, ◌&&◌, List, [], ◌∷◌, ◌==◌, nat_lt}
use Rattle.std.specs.Float.Ieee.{lt}
use Rattle.common.specs.Bytes.{codes, same}
use Rattle.quotient.specs.Quotient.{quotient, fifth, three_fifths}
use Rattle.tree.specs.Forest.{preorder}
use Rattle.tree.specs.Node.{element, text, comment, Node, tag}
use Rattle.tree.specs.Rows.{children_of}
use Rattle.tree.specs.TextLength.{text_length}
use Rattle.links.specs.declared.Measure.{Measure}
use Rattle.links.specs.declared.Measure.TheVariants.{NoText, TooLong, NoLinks, Share}
use Rattle.links.specs.declared.Rule.{Rule}

-- an element named "a"
unfoldable pub is_link : Node → Bool
unfolding tag
is_link n = same (tag n) (codes "a")

module _ (node_of : ℕ → Node) (depths : List ℕ) where
  -- `collapse(&node.text_content().unwrap_or_default()).len()`
  abbrev pub text_bytes : ℕ → ℕ
  text_bytes i = text_length node_of depths i

  -- "summed per `a`": one that stands in another adds its bytes again
  unfoldable pub links_among : List ℕ → ℕ
  unfolding is_link
  links_among [] = 0
  links_among (j ∷ rows) = elim (is_link (node_of j)) [ true ↦ text_bytes j + links_among rows | false ↦ links_among rows ]

  -- `get_elements_by_tag_name("a")`: the descendants of that name, and not the row itself
  unfoldable pub link_bytes : ℕ → ℕ
  unfolding links_among
  link_bytes i = links_among (preorder (children_of depths i))

-- `max_length > 0 && text.len() > max_length`: "limit 0 is none"
abbrev pub is_too_long : Rule → ℕ → Bool
is_too_long rule total = nat_lt 0 rule.limit && nat_lt rule.limit total

-- by a rule, the text bytes and the link bytes: "The measure's outcome is no text, too long, no links, or a share",
-- "one f64 division of collapsed link bytes .. by collapsed text bytes"
unfoldable pub measure_of : Rule → ℕ → ℕ → Measure
measure_of rule total links =
    elim (is_too_long rule total) [
      | true ↦ TooLong
      | false ↦ elim (total == 0) [ true ↦ NoText | false ↦ elim (links == 0) [ true ↦ NoLinks | false ↦ Share (quotient links total) ] ]
    ]

-- "It must exceed the ratio."
abbrev pub exceeds : Rule → Measure → Bool
exceeds rule NoText = false
exceeds rule TooLong = false
exceeds rule NoLinks = false
exceeds rule (Share share) = lt rule.ratio share

-- `link_cluster`
unfoldable pub link_cluster : (ℕ → Node) → List ℕ → Rule → ℕ → Bool
unfolding measure_of link_bytes
link_cluster node_of depths rule i =
    elim (node_of i).kind [ element ↦ exceeds rule (measure_of rule (text_bytes node_of depths i) (link_bytes node_of depths i)) | text ↦ false | comment ↦ false ]

-- "(0.2, 0), (0.2, 500), (0.6, 800), (0.6, 1500)"
abbrev pub fifth_of_any : Rule
fifth_of_any = record { ratio = fifth; limit = 0 }

abbrev pub fifth_of500 : Rule
fifth_of500 = record { ratio = fifth; limit = 500 }

abbrev pub three_fifths_of800 : Rule
three_fifths_of800 = record { ratio = three_fifths; limit = 800 }

abbrev pub three_fifths_of1500 : Rule
three_fifths_of1500 = record { ratio = three_fifths; limit = 1500 }
