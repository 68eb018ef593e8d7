-- A word by its place in a line of words.
use Rattle.std.specs.Prelude.{◌≡◌, List, [], ◌∷◌, ℕ, ◌-◌, ◌≤◌, length, take, drop}
use Rattle.common.specs.Bytes.{Bytes}
use Rattle.tags.specs.Words.{first_word, other_words, words_of}

-- what stands behind a word: nothing, or a space and further words
abbrev pub words_behind : Bytes → List Bytes
words_behind [] = []
words_behind (c ∷ s) = words_of s

-- the word at `from` ends before `to`
pub record WordAt (line : Bytes) (from to : ℕ) : Type 0 where
  pub start : from ≤ to
  pub inside : to ≤ length line
  pub word : take (to - from) (drop from line) ≡ first_word (drop from line)
  pub others : other_words (drop from line) ≡ words_behind (drop to line)
