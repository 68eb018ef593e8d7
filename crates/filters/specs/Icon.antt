-- Which text is an icon, by the option icons (document 01, "Options": "0 as the Rust (standing), 1 private"; document 02, CR 2).
use Rattle.std.specs.Prelude.{◌≡◌, Bool, true, false, ◌||◌, cond, List, [], ◌∷◌, ℕ, ◌+◌, ◌*◌, eqb}
use Rattle.common.specs.Bytes.{Bytes, same}
use Rattle.utf8.specs.Abnf.{Range, %x◌-◌}
use Rattle.utf8.specs.Character.{is_character, OneCharacter}
use Rattle.utf8.specs.Encoding.{Scalar, encode, encode_all}
use Rattle.utf8.specs.Valid.{within}

-- ---- icons 0, as the Rust

-- `text == "¶"`: U+00B6
abbrev pub is_pilcrow : Bytes → Bool
is_pilcrow text = same text (0xc2 ∷ 0xb6 ∷ [])

-- `(0x8080ee..=0xbfa3ef).contains(&u32::from_le_bytes([*a, *b, *c, 0]))`
unfoldable pub in_legacy_range : ℕ → ℕ → ℕ → Bool
in_legacy_range a b c = within (%x 0x8080ee - 0xbfa3ef) (a + 256 * b + 65536 * c)

-- `if let [a, b, c] = text.as_bytes()`
abbrev pub of_three : (ℕ → ℕ → ℕ → Bool) → Bytes → Bool
of_three test [] = false
of_three test (a ∷ []) = false
of_three test (a ∷ b ∷ []) = false
of_three test (a ∷ b ∷ c ∷ []) = test a b c
of_three test (a ∷ b ∷ c ∷ d ∷ s) = false

unfoldable pub is_legacy_icon : Bytes → Bool
unfolding in_legacy_range
is_legacy_icon text = is_pilcrow text || of_three in_legacy_range text

-- ---- icons 1, over character numbers

-- "Unicode has three private-use ranges: U+E000 to U+F8FF, U+F0000 to U+FFFFD and U+100000 to U+10FFFD"
abbrev pub private_use_area : Range
private_use_area = %x 0xE000 - 0xF8FF

abbrev pub supplementary_a : Range
supplementary_a = %x 0xF0000 - 0xFFFFD

abbrev pub supplementary_b : Range
supplementary_b = %x 0x100000 - 0x10FFFD

abbrev pub in_upper_planes : ℕ → Bool
in_upper_planes c = within supplementary_a c || within supplementary_b c

-- "one character of any of the three, or .. "¶"": U+00B6
unfoldable pub is_icon_character : ℕ → Bool
is_icon_character c = within private_use_area c || (in_upper_planes c || eqb c 0xB6)

abbrev pub is_private_icon : Bytes → Bool
is_private_icon text = is_character is_icon_character text

-- ---- a text that is trimmed

unfoldable pub is_icon : Bool → Bytes → Bool
unfolding is_legacy_icon is_icon_character is_character
is_icon icons text = cond icons (is_private_icon text) (is_legacy_icon text)

-- what is to be shown of icons 1: the icons are exactly the encodings of these characters, each by itself
pub record IconsArePrivate : Type 0 where
  pub scalars : (c : ℕ) → is_icon_character c ≡ true → Scalar c
  pub none : is_icon true [] ≡ false
  pub one : (c : ℕ) → Scalar c → is_icon true (encode c) ≡ is_icon_character c
  pub more : (c d : ℕ) (cs : List ℕ) → is_icon true (encode_all (c ∷ d ∷ cs)) ≡ false
  -- of all bytes, be they UTF-8 or not
  pub only : (s : Bytes) → is_icon true s ≡ true → OneCharacter is_icon_character s
