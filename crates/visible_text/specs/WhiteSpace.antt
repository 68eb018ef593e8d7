-- `str::trim_start`: Unicode's White_Space, over code points and over the bytes of UTF-8.
use Rattle.std.specs.Prelude.{◌≡◌, Bool, ◌&&◌, ◌||◌, cond, List, [], ◌∷◌, ℕ, zero, suc, ◌+◌, ◌*◌, eqb, leb}
use Rattle.common.specs.Bytes.{Bytes}
use Rattle.text.specs.Text.{trim_start_by}
use Rattle.utf8.specs.Encoding.{Scalars, encode_all}

-- ---- code points: Unicode's PropList.txt, "White_Space"

-- 0009..000D and 0020, which are encoded in one byte
abbrev pub is_white1 : ℕ → Bool
is_white1 c = (leb 0x09 c && leb c 0x0D) || eqb c 0x20

-- 0085 and 00A0: in two
abbrev pub is_white2 : ℕ → Bool
is_white2 c = eqb c 0x85 || eqb c 0xA0

-- 1680, 2000..200A, 2028, 2029, 202F, 205F and 3000: in three
abbrev pub is_white3 : ℕ → Bool
is_white3 c =
    eqb c 0x1680 || ((leb 0x2000 c && leb c 0x200A) || (eqb c 0x2028 || (eqb c 0x2029 || (eqb c 0x202F || (eqb c 0x205F || eqb c 0x3000)))))

unfoldable pub is_white_space : ℕ → Bool
is_white_space c = is_white1 c || (is_white2 c || is_white3 c)

-- ---- bytes, as one number to base 256

-- C2 85 and C2 A0
abbrev pub white_code2 : ℕ → Bool
white_code2 n = eqb n 0xC285 || eqb n 0xC2A0

unfoldable pub white_two : ℕ → ℕ → Bool
white_two a b = white_code2 (256 * a + b)

-- E1 9A 80, E2 80 80 to E2 80 8A, E2 80 A8, E2 80 A9, E2 80 AF, E2 81 9F, E3 80 80
abbrev pub white_code3 : ℕ → Bool
white_code3 n =
    eqb n 0xE19A80
    || ((leb 0xE28080 n && leb n 0xE2808A) || (eqb n 0xE280A8 || (eqb n 0xE280A9 || (eqb n 0xE280AF || (eqb n 0xE2819F || eqb n 0xE38080)))))

unfoldable pub white_three : ℕ → ℕ → ℕ → Bool
white_three a b c = white_code3 (65536 * a + 256 * b + c)

abbrev pub white_third : ℕ → ℕ → Bytes → ℕ
white_third a b [] = 0
white_third a b (c ∷ s) = cond (white_three a b c) 3 0

abbrev pub white_second : ℕ → Bytes → ℕ
white_second a [] = 0
white_second a (b ∷ s) = cond (white_two a b) 2 (white_third a b s)

-- how many bytes the White_Space character has that a text begins with; 0 where it begins with none
unfoldable pub white_length : Bytes → ℕ
white_length [] = 0
white_length (a ∷ s) = cond (is_white1 a) 1 (white_second a s)

-- `s.trim_start()`, with k bytes of a character still to go
unfoldable pub trim_from : ℕ → Bytes → Bytes
trim_from k [] = []
trim_from (suc k) (c ∷ s) = trim_from k s
trim_from zero (c ∷ s) = elim (white_length (c ∷ s)) [ zero ↦ c ∷ s | suc k ↦ trim_from k s ]

abbrev pub trim_start : Bytes → Bytes
trim_start s = trim_from 0 s

-- what is to be shown of it, over RFC 3629's encodings: of characters, those of White_Space go that stand in front
abbrev pub TrimsWhiteSpace : Type 0
TrimsWhiteSpace = (cs : List ℕ) → Scalars cs → trim_start (encode_all cs) ≡ encode_all (trim_start_by is_white_space cs)
