-- A visit to a row of an accepted sheet, and the event that it stands for.
use Rattle.std.specs.Prelude.{◌≡◌, cond, [], ◌++◌, ◌<◌}
use Rattle.common.specs.Bytes.{Bytes, codes, is_empty}
use Rattle.sheet.specs.Accepted.{Accepted}
use Rattle.sheet.specs.Layout.{row_at}
use Rattle.sheet.specs.Verdict.{counts_from}
use Rattle.sheet.specs.declared.line.Layout.{Layout}
use Rattle.text.specs.Text.{trim}
use Rattle.tree.specs.Node.{comment, Node}
use Rattle.tree.specs.Page.{node_at}
use Rattle.html2text.specs.Collect.{Event, tag_number, attr, is_unshown_type, field_value}
use Rattle.collect.specs.declared.Visit.{Visit}

-- the visit's numbers are those of its row, which is no comment
pub record Visits (s : Bytes) (l : Layout) (v : Visit) : Type 0 where
  pub accepted : Accepted s l
  pub inside : v.row < l.nodes
  pub tag_is : v.tag ≡ tag_number (node_at s l v.row)
  pub first_is : v.first ≡ counts_from s l 0 v.row
  pub value_at : v.value_at ≡ (row_at s l v.row).value_at
  pub value_len : v.value_len ≡ (row_at s l v.row).value_len
  pub shown : (node_at s l v.row).kind ≡ comment → ⊥

-- the event of a visit
abbrev pub event_of : Bytes → Layout → Visit → Event
event_of s l v = record { row = v.row; node = node_at s l v.row; children = v.children; depth = v.depth; end = v.end }

-- what an input adds, if it is shown
abbrev pub field_text : Node → Bytes
field_text n = cond (is_empty (trim (field_value n))) [] (codes "[ " ++ (trim (field_value n) ++ codes " ] "))

abbrev pub input_text : Node → Bytes
input_text n = cond (is_unshown_type (trim (attr n (codes "type")))) [] (field_text n)
