-- Words by their places in a line: where one ends, and the search from one to the next.
use mathlib.Core.Path.{◌≡◌, refl, sym, ap, ap₂, ◌∙◌}
use mathlib.Core.Bool.{true, false}
use mathlib.Core.List.{[], ◌∷◌, ◌++◌, append-nil}
use Prim.Native.Nat.{ℕ, suc, ◌+◌, ◌-◌, ◌≤◌, ◌<◌}
use native.Mathlib.Omega.{arith}
use native.Mathlib.Numerals.{add-one}
use lib.ListN.{length, take, drop, get_or, length-drop, drop_of_length-le}
use lib.Seq.{drop-cons, take-suc, get_or-drop, append_snoc}
use borrow.Author.Tests.{eq-eqb, ne_eqb}
use Rattle.common.specs.Bytes.{Bytes, same}
use Rattle.tags.specs.Line.{words_behind, WordAt}
use Rattle.tags.specs.Words.{first_word, other_words, words_of, one_of}
use Rattle.tags.proofs.WordLaws.{one_word}

-- the word at `from` goes on at i
pub record Within (line : Bytes) (from i : ℕ) : Type 0 where
  pub start : from ≤ i
  pub inside : i ≤ length line
  pub word : take (i - from) (drop from line) ++ first_word (drop i line) ≡ first_word (drop from line)
  pub others : other_words (drop i line) ≡ other_words (drop from line)

pub within_start : (line : Bytes) (from : ℕ) → from ≤ length line → Within line from from
within_start line from h =
    let z : from - from ≡ 0 = omega arith in
    record { start = omega arith; inside = h; word = rw z; others = refl }

module _ {line : Bytes} {from i : ℕ} (w : Within line from i) where
  module _ (h : i < length line) where
    left_is : drop i line ≡ get_or line i 0 ∷ drop (i + 1) line
    left_is = rw add-one (drop-cons line i 0 h)

    module _ (letter : get_or line i 0 ≡ 0x20 → ⊥) where
      first_is : first_word (drop i line) ≡ get_or line i 0 ∷ first_word (drop (i + 1) line)
      unfolding first_word
      first_is = rw (left_is, ne_eqb (get_or line i 0) 0x20 letter, first_word)

      others_are : other_words (drop i line) ≡ other_words (drop (i + 1) line)
      unfolding other_words
      others_are = rw (left_is, ne_eqb (get_or line i 0) 0x20 letter, other_words)

      taken : take (i + 1 - from) (drop from line) ≡ take (i - from) (drop from line) ++ get_or line i 0 ∷ []
      taken =
          let n : i + 1 - from ≡ suc (i - from) = omega (arith, w.start) in
          let k : from + (i - from) ≡ i = omega (arith, w.start) in
          let m : i - from < length (drop from line) = rw length-drop (omega (arith, w.start)) in
          rw n (take-suc (drop from line) (i - from) 0 m ∙ rw (get_or-drop from line (i - from) 0, k))

      pub within_more : Within line from (i + 1)
      within_more = record {
        start = omega (arith, w.start);
        inside = omega arith;
        word = rw taken (append_snoc (take (i - from) (drop from line)) (get_or line i 0) (first_word (drop (i + 1) line)) ∙ ap (λ (t : Bytes). take (i - from) (drop from line) ++ t) (sym first_is) ∙ w.word);
        others = sym others_are ∙ w.others;
      }

    pub within_space : get_or line i 0 ≡ 0x20 → WordAt line from i
    unfolding first_word other_words
    within_space e =
        let t = eq-eqb (get_or line i 0) 0x20 e in
        let none : first_word (drop i line) ≡ [] = rw (left_is, t, first_word) in
        record {
          start = w.start;
          inside = omega arith;
          word = sym (append-nil _) ∙ ap (λ (t : Bytes). take (i - from) (drop from line) ++ t) (sym none) ∙ w.word;
          others = sym w.others ∙ rw (left_is, t, other_words);
        }

  pub within_end : length line ≤ i → WordAt line from i
  unfolding first_word other_words
  within_end h =
      let z = drop_of_length-le line {i = i} h in
      let none : first_word (drop i line) ≡ [] = rw z in
      record {
        start = w.start;
        inside = w.inside;
        word = sym (append-nil _) ∙ ap (λ (t : Bytes). take (i - from) (drop from line) ++ t) (sym none) ∙ w.word;
        others = sym w.others ∙ rw z;
      }

-- ---- the words from `from` on decide, and the first of them ends before `to`
pub record Seeking (s line : Bytes) (from to : ℕ) : Type 0 where
  pub word : WordAt line from to
  pub left : one_of s (words_of (drop from line)) ≡ one_of s (words_of line)

pub seeking_start : (s line : Bytes) {to : ℕ} → WordAt line 0 to → Seeking s line 0 to
seeking_start s line w = record { word = w; left = refl }

module _ {s line : Bytes} {from to : ℕ} (k : Seeking s line from to) where
  words_are : words_of (drop from line) ≡ take (to - from) (drop from line) ∷ words_behind (drop to line)
  words_are = ap₂ (λ (a : Bytes) b. a ∷ b) (sym k.word.word) k.word.others

  answer : one_of s (words_of line) ≡ one_of s (take (to - from) (drop from line) ∷ words_behind (drop to line))
  answer = sym k.left ∙ ap (one_of s) words_are

  pub seeking_found : same s (take (to - from) (drop from line)) ≡ true → true ≡ one_of s (words_of line)
  unfolding one_of
  seeking_found e = sym (answer ∙ rw (e, one_of))

  pub seeking_more : to < length line → {next : ℕ} → same s (take (to - from) (drop from line)) ≡ false → WordAt line (to + 1) next → Seeking s line (to + 1) next
  unfolding one_of
  seeking_more h e w =
      let d : drop to line ≡ get_or line to 0 ∷ drop (to + 1) line = rw add-one (drop-cons line to 0 h) in
      record { word = w; left = sym (answer ∙ rw (e, one_of) (ap (λ (t : Bytes). one_of s (words_behind t)) d)) }

  -- the last word goes to the end of the line
  pub seeking_last : length line ≤ to → {r : _} → r ≡ same s (take (length line - from) (drop from line)) → r ≡ one_of s (words_of line)
  seeking_last h e =
      let n : to - from ≡ length line - from = omega (arith, k.word.inside) in
      e ∙ sym (answer ∙ rw (n, drop_of_length-le line {i = to} h) (one_word s _))
