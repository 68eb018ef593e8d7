-- The tests on a tag's number say what the Rust's tests on the name say.
use mathlib.Core.Path.{◌≡◌, refl, ap, ◌∙◌}
use mathlib.Core.Bool.{Bool, true, false, ◌&&◌, ◌||◌, not, beq}
use mathlib.Core.List.{List, [], ◌∷◌}
use Prim.Native.Nat.{ℕ}
use borrow.Author.Tests.{not-true}
use Rattle.common.specs.Bytes.{Bytes, codes, same}
use Rattle.common.proofs.Choice.{by_test, absurd_test, and_parts}
use Rattle.common.proofs.Equality.{same_true}
use Rattle.tags.specs.Tags.{tag_names, tag_of, name_of, is_block, is_tr, is_cell, is_ul, is_ol, is_list, is_li, is_pre, is_br, is_heading_or_p, is_big_block, is_block_tag, is_a, is_textarea, is_image, is_button, is_input, is_article, is_div, is_footer, is_a_div_or_li, NumbersOfNames, TagsTellNames}
use Rattle.tags.specs.Words.{words, first_word, other_words, is, one_of, number_from}
use Rattle.tags.proofs.WordLaws.{each, each_at, no_number, one_word, by_words}

-- all names that have a number
abbrev pub known : List Bytes
known = codes "th" ∷ tag_names

pub unknown : (name : Bytes) → one_of name known ≡ false → tag_of name ≡ 0
unfolding tag_of one_of
unknown name h =
    by_test (is name "th")
    (λ e. absurd_test (rw (e, one_of)) h)
    (λ e. rw e (no_number 1 name tag_names (rw (e, one_of) at h)))

-- the test on numbers says which names are among the words: one test that is computed
abbrev pub tells : (ℕ → Bool) → List Bytes → Bool
tells test ws = not (test 0) && (each (λ w. beq (test (tag_of w)) (one_of w ws)) known && each (λ w. one_of w known) ws)

pub told : (test : ℕ → Bool) (ws : List Bytes) → tells test ws ≡ true → (name : Bytes) → test (tag_of name) ≡ one_of name ws
told test ws t =
    let p = and_parts (not (test 0)) (each (λ w. beq (test (tag_of w)) (one_of w ws)) known && each (λ w. one_of w known) ws) t in
    let q = and_parts (each (λ w. beq (test (tag_of w)) (one_of w ws)) known) (each (λ w. one_of w known) ws) p.1 in
    by_words ws known (λ w. test (tag_of w)) q.0 q.1 (λ s h. ap test (unknown s h) ∙ not-true (test 0) p.0)

-- of one name
pub told_one : (test : ℕ → Bool) (w : Bytes) → tells test (w ∷ []) ≡ true → (name : Bytes) → test (tag_of name) ≡ same name w
told_one test w t name = told test (w ∷ []) t name ∙ one_word name w

pub numbers_of_names : NumbersOfNames
unfolding tag_of tag_names number_from words codes same first_word other_words
numbers_of_names = refl

is_written : ℕ → Bool
is_written t = is_heading_or_p t || is_list t

-- the name of the number is the name, where it is written
keeps : Bytes → Bool
keeps w = not (is_written (tag_of w)) || same (name_of (tag_of w)) w

written_name : (name : Bytes) → is_written (tag_of name) ≡ true → name_of (tag_of name) ≡ name
unfolding is_written keeps tag_of name_of tag_names one_of number_from words codes same first_word other_words
written_name name h =
    by_test (one_of name known)
    (λ e. same_true (name_of (tag_of name)) name (rw h at (each_at keeps known refl name e)))
    (λ e. absurd_test h (ap is_written (unknown name e)))

pub tag_tests : TagsTellNames
unfolding is_written tag_of tag_names is_block one_of number_from words codes same first_word other_words
tag_tests name = record {
  tr = told_one is_tr (codes "tr") refl name;
  cell = told is_cell (words "td th") refl name;
  ul = told_one is_ul (codes "ul") refl name;
  ol = told_one is_ol (codes "ol") refl name;
  list = told is_list (words "ul ol") refl name;
  li = told_one is_li (codes "li") refl name;
  pre = told_one is_pre (codes "pre") refl name;
  br = told_one is_br (codes "br") refl name;
  heading_or_p = told is_heading_or_p (words "h1 h2 h3 h4 h5 h6 p") refl name;
  big_block = told is_big_block (words "p h1 h2 h3 h4") refl name;
  block = told is_block_tag (words "address article aside blockquote br center details dd dt div dl fieldset figcaption figure footer form h1 h2 h3 h4 h5 h6 header hgroup hr li main nav ol p pre section table tr ul") refl name;
  a = told_one is_a (codes "a") refl name;
  textarea = told_one is_textarea (codes "textarea") refl name;
  image = told is_image (words "img area") refl name;
  button = told_one is_button (codes "button") refl name;
  input = told_one is_input (codes "input") refl name;
  article = told_one is_article (codes "article") refl name;
  div = told_one is_div (codes "div") refl name;
  footer = told_one is_footer (codes "footer") refl name;
  a_div_or_li = told is_a_div_or_li (words "a div li") refl name;
  written = written_name name;
}
