-- What a row of a sheet says, with the bytes of its ranges (document 01, "The sheet").
use Rattle.std.specs.Prelude.{◌≡◌, Bool, true, false, List, [], ◌∷◌, ℕ, ◌<◌, Option, None, Some, unwrap_or, slice_get}
use Rattle.common.specs.Bytes.{Bytes, same}

-- "kind (1 element, 3 text, 8 comment)"
pub data Kind : Type 0 where
  element text comment : Kind

pub record Attribute : Type 0 where
  pub name : Bytes
  pub value : Bytes

pub record Node : Type 0 where
  pub kind : Kind
  pub name : Bytes
  pub value : Bytes
  pub attributes : List Attribute

-- `tag` of html2text.rs: "the local tag name of an element, or an empty string for other nodes"
unfoldable pub tag : Node → Bytes
tag n = elim n.kind [ element ↦ n.name | text ↦ [] | comment ↦ [] ]

-- "Names are compared byte for byte. If a row has two attributes of one name, the first counts."
-- DOM standard, "get an attribute by name": "the first attribute in element's attribute list whose qualified name is qualifiedName; otherwise null"
unfoldable pub attribute : List Attribute → Bytes → Option Bytes
attribute [] name = None
attribute (a ∷ attributes) name = elim (same a.name name) [ true ↦ Some a.value | false ↦ attribute attributes name ]

-- an empty attribute is there
abbrev pub is_there : Option Bytes → Bool
is_there None = false
is_there (Some value) = true

-- "An absent attribute reads as empty.": for a caller that does not ask whether it is there
abbrev pub or_empty : Option Bytes → Bytes
or_empty value = unwrap_or value []

abbrev pub attribute_or_empty : List Attribute → Bytes → Bytes
attribute_or_empty attributes name = or_empty (attribute attributes name)

-- attribute number i is a, which has that name, and no earlier one has it
pub record FirstOfName (attributes : List Attribute) (name : Bytes) (i : ℕ) (a : Attribute) : Type 0 where
  pub there : slice_get attributes i ≡ Some a
  pub named : a.name ≡ name
  pub earlier : (k : ℕ) (b : Attribute) → k < i → slice_get attributes k ≡ Some b → b.name ≡ name → ⊥

-- what is to be shown of `attribute`
pub record AttributeByName (attributes : List Attribute) (name : Bytes) : Type 0 where
  pub found : (i : ℕ) (a : Attribute) → FirstOfName attributes name i a → attribute attributes name ≡ Some a.value
  pub absent : ((i : ℕ) (a : Attribute) → slice_get attributes i ≡ Some a → a.name ≡ name → ⊥) → attribute attributes name ≡ None
  pub only : (value : Bytes) → attribute attributes name ≡ Some value → (i : ℕ) × (a : Attribute) × FirstOfName attributes name i a × (a.value ≡ value)
