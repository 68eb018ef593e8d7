-- The inverse of `escape` (document 02, request 5): "the four names become their characters, all else is copied". The names are those of
-- `escaped`, the table of `escape` (text/specs/Text).
use Rattle.std.specs.Prelude.{Bool, true, false, List, [], ◌∷◌, ℕ, zero, suc, ◌-◌, eqb, length, Option, None, Some}
use Rattle.common.specs.Bytes.{Bytes}
use Rattle.text.specs.Text.{escaped}

abbrev pub ampersand : ℕ
ampersand = 0x26

-- the characters that have a name: & " < >
abbrev pub named : List ℕ
named = ampersand ∷ 0x22 ∷ 0x3c ∷ 0x3e ∷ []

-- whether a text starts with a word
unfoldable pub starts_with : Bytes → Bytes → Bool
starts_with [] s = true
starts_with (c ∷ word) [] = false
starts_with (c ∷ word) (d ∷ s) = elim (eqb d c) [ true ↦ starts_with word s | false ↦ false ]

-- the character whose name a text starts with, among some characters
unfoldable pub entity_among : List ℕ → Bytes → Option ℕ
unfolding starts_with
entity_among [] s = None
entity_among (c ∷ characters) s = elim (starts_with (escaped c) s) [ true ↦ Some c | false ↦ entity_among characters s ]

-- among the four
abbrev pub entity : Bytes → Option ℕ
entity s = entity_among named s

-- "the first ampersand that starts none of the four names": where it stands, of a text that starts at `at`
unfoldable pub no_entity_from : ℕ → Bytes → Option ℕ
unfolding entity_among
no_entity_from at [] = None
no_entity_from at (c ∷ s) =
    elim (eqb c ampersand) [
      | true ↦ elim (entity (c ∷ s)) [ None ↦ Some at | Some d ↦ no_entity_from (suc at) s ]
      | false ↦ no_entity_from (suc at) s
    ]

-- from left to right, the first `rest` bytes being the rest of a name that is read already
unfoldable pub unescaped_from : ℕ → Bytes → Bytes
unfolding entity_among
unescaped_from rest [] = []
unescaped_from (suc rest) (c ∷ s) = unescaped_from rest s
unescaped_from zero (c ∷ s) =
    elim (entity (c ∷ s)) [ None ↦ c ∷ unescaped_from 0 s | Some d ↦ d ∷ unescaped_from (length (escaped d) - 1) s ]

-- the four names as their characters, all else as it is
abbrev pub unescaped : Bytes → Bytes
unescaped s = unescaped_from 0 s

-- a text is read back, or an ampersand starts none of the names
pub data Reading : Type 0 where
  text : Bytes → Reading
  no_entity : ℕ → Reading

abbrev pub reading_by : Option ℕ → Bytes → Reading
reading_by None s = text s
reading_by (Some at) s = no_entity at

-- the inverse of `escape`
unfoldable pub unescape : Bytes → Reading
unfolding no_entity_from unescaped_from
unescape s = reading_by (no_entity_from 0 s) (unescaped s)
