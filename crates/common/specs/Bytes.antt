-- Byte strings as lists of numbers.
use Rattle.std.specs.Prelude.{Bool, true, false, List, [], ◌∷◌, ◌++◌, ℕ, ◌-◌, eqb, length, replicate}
use Prim.Native.Char.{code}
use Prim.Native.String.{String}
use Prim.Native.String as S

abbrev pub Bytes : Type 0
Bytes = List ℕ

-- 2^62: lengths and counts are kept below it, so that a word holds the sum of four
abbrev pub length_limit : ℕ
length_limit = 4611686018427387904

-- the bytes of a text that is written in ASCII
unfoldable pub codes : String → Bytes
codes S.[] = []
codes (S.◌∷◌ c s) = code c ∷ codes s

-- whether two byte strings are equal, byte for byte
unfoldable pub same : Bytes → Bytes → Bool
same [] [] = true
same [] (d ∷ t) = false
same (c ∷ s) [] = false
same (c ∷ s) (d ∷ t) = elim (eqb c d) [ true ↦ same s t | false ↦ false ]

-- a text and zeros behind it, n bytes in all
abbrev pub padded : Bytes → ℕ → Bytes
padded text n = text ++ replicate (n - length text) 0

-- `s.is_empty()`
abbrev pub is_empty : Bytes → Bool
is_empty [] = true
is_empty (c ∷ s) = false
