-- The attributes that the filters ask for, as one pass over a row's attribute lines finds them.
use Rattle.std.specs.Prelude.{◌≡◌, Bool, List, [], ℕ, suc, ◌<◌, get_or, length, Option, None, is_some}
use Rattle.common.specs.Bytes.{Bytes, codes}
use Rattle.sheet.specs.declared.line.Layout.{Layout}
use Rattle.tags.specs.Words.{words, number_of}
use Rattle.tree.specs.Attributes.{value_in, find_of, RangeInside}
use Rattle.tree.specs.Node.{Attribute, attribute, or_empty}
use Rattle.tree.specs.declared.attributes.Span.{Span}
use Rattle.filters.specs.Numbers as number

-- numbered from 1; any other name is 0
unfoldable pub attribute_names : List Bytes
attribute_names = words "hidden rel itemprop aria-hidden aria-expanded class id style role data-ad data-advertisement data-text-ad"

abbrev pub name_count : ℕ
name_count = 12

-- a slot for each, and slot 0 for all other names
abbrev pub slot_count : ℕ
slot_count = 13

unfoldable pub attribute_number : Bytes → ℕ
unfolding attribute_names
attribute_number name = number_of name attribute_names

-- `has_attr`
abbrev pub slot_is_there : Option Span → Bool
slot_is_there a = is_some a

-- `attr`: "An absent attribute reads as empty."
abbrev pub slot_value : Bytes → Layout → Option Span → Bytes
slot_value s l a = or_empty (value_in s l a)

-- slot k is that of name k, for a row's attribute lines
pub record SlotsOf (s : Bytes) (l : Layout) (from count : ℕ) (slots : List (Option Span)) : Type 0 where
  pub size : length slots ≡ slot_count
  pub found : (k : ℕ) → k < name_count → get_or slots (suc k) None ≡ find_of s l (get_or attribute_names k []) from count
  pub inside : (k : ℕ) → RangeInside l (get_or slots k None)

-- the same, as the tests use it
abbrev pub Holds : Bytes → Layout → List Attribute → List (Option Span) → ℕ → Bytes → Type 0
Holds s l attributes slots k name = value_in s l (get_or slots k None) ≡ attribute attributes name

pub record Gathered (s : Bytes) (l : Layout) (attributes : List Attribute) (slots : List (Option Span)) : Type 0 where
  pub hidden : Holds s l attributes slots number.hidden (codes "hidden")
  pub rel : Holds s l attributes slots number.rel (codes "rel")
  pub itemprop : Holds s l attributes slots number.itemprop (codes "itemprop")
  pub aria_hidden : Holds s l attributes slots number.aria_hidden (codes "aria-hidden")
  pub aria_expanded : Holds s l attributes slots number.aria_expanded (codes "aria-expanded")
  pub class : Holds s l attributes slots number.class (codes "class")
  pub id : Holds s l attributes slots number.id (codes "id")
  pub style : Holds s l attributes slots number.style (codes "style")
  pub role : Holds s l attributes slots number.role (codes "role")
  pub data_ad : Holds s l attributes slots number.data_ad (codes "data-ad")
  pub data_advertisement : Holds s l attributes slots number.data_advertisement (codes "data-advertisement")
  pub data_text_ad : Holds s l attributes slots number.data_text_ad (codes "data-text-ad")

-- each value lies in the pool
abbrev pub Readable : Layout → List (Option Span) → Type 0
Readable l slots = (k : ℕ) → RangeInside l (get_or slots k None)
