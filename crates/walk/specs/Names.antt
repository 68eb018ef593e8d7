-- Class and id of a row, by their lengths (document 01, 31).
use Rattle.std.specs.Prelude.{List, ℕ, ◌+◌, length}
use Rattle.common.specs.Bytes.{Bytes, codes}
use Rattle.tree.specs.Node.{Attribute, attribute_or_empty}

-- the length of a value; "An absent attribute reads as empty."
abbrev pub length_in : List Attribute → Bytes → ℕ
length_in attributes name = length (attribute_or_empty attributes name)

-- "class length + 1 + id length"
abbrev pub class_and_id : List Attribute → ℕ
class_and_id attributes = length_in attributes (codes "class") + 1 + length_in attributes (codes "id")
