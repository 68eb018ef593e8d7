-- RFC 3629, section 4: the grammar of UTF-8, rule by rule.
use Rattle.std.specs.Prelude.{◌≡◌, ◌⊎◌, List, [], ◌∷◌, ◌++◌, ℕ, ◌≤◌}
use Rattle.common.specs.Bytes.{Bytes}

infix 90 %x◌-◌
-- `%xA0-BF`: the octets from the first to the second
pub record Range : Type 0 where
  pub low : ℕ
  pub high : ℕ

abbrev pub %x◌-◌ : ℕ → ℕ → Range
%x◌-◌ a b = record { low = a; high = b }

-- `2( UTF8-tail )`, and a `/` between alternatives is a list of them
abbrev pub UTF8_tail : Range
UTF8_tail = %x 0x80 - 0xBF

abbrev pub UTF8_1 : List (List Range)
UTF8_1 = (%x 0x00 - 0x7F ∷ []) ∷ []

abbrev pub UTF8_2 : List (List Range)
UTF8_2 = (%x 0xC2 - 0xDF ∷ UTF8_tail ∷ []) ∷ []

abbrev pub UTF8_3 : List (List Range)
UTF8_3 =
    (%x 0xE0 - 0xE0 ∷ %x 0xA0 - 0xBF ∷ UTF8_tail ∷ [])
    ∷ (%x 0xE1 - 0xEC ∷ UTF8_tail ∷ UTF8_tail ∷ [])
    ∷ (%x 0xED - 0xED ∷ %x 0x80 - 0x9F ∷ UTF8_tail ∷ [])
    ∷ (%x 0xEE - 0xEF ∷ UTF8_tail ∷ UTF8_tail ∷ [])
    ∷ []

abbrev pub UTF8_4 : List (List Range)
UTF8_4 =
    (%x 0xF0 - 0xF0 ∷ %x 0x90 - 0xBF ∷ UTF8_tail ∷ UTF8_tail ∷ [])
    ∷ (%x 0xF1 - 0xF3 ∷ UTF8_tail ∷ UTF8_tail ∷ UTF8_tail ∷ [])
    ∷ (%x 0xF4 - 0xF4 ∷ %x 0x80 - 0x8F ∷ UTF8_tail ∷ UTF8_tail ∷ [])
    ∷ []

-- `UTF8-char = UTF8-1 / UTF8-2 / UTF8-3 / UTF8-4`
abbrev pub UTF8_char : List (List Range)
UTF8_char = UTF8_1 ++ UTF8_2 ++ UTF8_3 ++ UTF8_4

-- octets that are, one by one, of these ranges
abbrev pub Sequence : List Range → Bytes → Type 0
Sequence [] [] = Unit {0}
Sequence [] (x ∷ s) = ⊥
Sequence (r ∷ rs) [] = ⊥
Sequence (r ∷ rs) (x ∷ s) = (r.low ≤ x) × (x ≤ r.high) × Sequence rs s

-- octets of one of the alternatives
abbrev pub OneOf : List (List Range) → Bytes → Type 0
OneOf [] s = ⊥
OneOf (a ∷ others) s = Sequence a s ⊎ OneOf others s

-- `UTF8-octets = *( UTF8-char )`
pub data UTF8_octets : Bytes → Type 0 where
  none : UTF8_octets []
  more : {s : Bytes} (char rest : Bytes) → OneOf UTF8_char char → UTF8_octets rest → s ≡ char ++ rest → UTF8_octets s
