-- Lists of words, as the Rust's `matches!(name, "tr" | "td" | ..)` has them.
use Rattle.std.specs.Prelude.{Bool, true, false, List, [], ◌∷◌, ℕ, ◌+◌, eqb}
use Prim.Native.String.{String}
use Rattle.common.specs.Bytes.{Bytes, codes, same}

-- the words of a line, with one space between two: the first, and the others
unfoldable pub first_word : Bytes → Bytes
first_word [] = []
first_word (c ∷ s) = elim (eqb c 0x20) [ true ↦ [] | false ↦ c ∷ first_word s ]

unfoldable pub other_words : Bytes → List Bytes
other_words [] = []
other_words (c ∷ s) = elim (eqb c 0x20) [ true ↦ first_word s ∷ other_words s | false ↦ other_words s ]

abbrev pub words_of : Bytes → List Bytes
words_of s = first_word s ∷ other_words s

-- a list of words as a reader writes it
unfoldable pub words : String → List Bytes
words line = words_of (codes line)

-- `s == "word"`
abbrev pub is : Bytes → String → Bool
is s word = same s (codes word)

-- `matches!(s, "a" | "b" | ..)`
unfoldable pub one_of : Bytes → List Bytes → Bool
one_of s [] = false
one_of s (w ∷ ws) = elim (same s w) [ true ↦ true | false ↦ one_of s ws ]

-- which word of the list s is, counted from n; 0 where it is none of them
unfoldable pub number_from : ℕ → Bytes → List Bytes → ℕ
number_from n s [] = 0
number_from n s (w ∷ ws) = elim (same s w) [ true ↦ n | false ↦ number_from (n + 1) s ws ]

abbrev pub number_of : Bytes → List Bytes → ℕ
number_of s ws = number_from 1 s ws
