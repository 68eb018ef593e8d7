-- Tests on a name by its tag's number.
use mathlib.Core.Path.{◌≡◌, refl, sym, ap, ◌∙◌}
use mathlib.Core.Bool.{Bool, true, false, ◌&&◌, ◌||◌, not, beq, or-false, and-false}
use mathlib.Core.List.{List}
use mathlib.Core.Logic.{◌⊎◌, inl, inr}
use Prim.Native.Nat.{ℕ, ◌≤◌, ◌<◌}
use native.Mathlib.Omega.{arith}
use lib.Dec.{eqb, leb, ltb}
use borrow.Author.Tests.{ne_eqb, le-leb, lt-leb, eqb-false, eq-eqb, ltb-true, ltb-false}
use Rattle.common.specs.Bytes.{Bytes, codes, same}
use Rattle.common.proofs.Choice.{by_test}
use Rattle.common.proofs.Equality.{same_not}
use Rattle.patterns.specs.Patterns.{article_cls, skip_link_cls}
use Rattle.byte_regex.specs.Match.{finds}
use Rattle.tags.specs.Tags.{tag_names, tag_of, is_ul, is_article, is_div, is_footer, is_a_div_or_li, is_block_tag}
use Rattle.tags.specs.Words.{words, first_word, other_words, is, one_of, number_from}
use Rattle.tags.proofs.TagLaws.{known, unknown, tag_tests}
use Rattle.tags.proofs.WordLaws.{each, each_at, beq_true, one_of_cons, one_word, none_of, none_of_none}
use Rattle.filters.specs.Filters.{not_block, skip_link, article}
use Rattle.common.proofs.TestLaws.{or_no, or_left, or_right, and_no, and_yes}

-- one of two numbers
one_of_both : (a b k : ℕ) → (k ≡ b) ⊎ (k ≡ a) → (eqb k a || eqb k b) ≡ true
one_of_both a b k (inl e) = or_right (eqb k a) (eqb k b) (eq-eqb k b e)
one_of_both a b k (inr e) = or_left (eqb k a) (eqb k b) (eq-eqb k a e)

module _ (name : Bytes) {tag : ℕ} (tag_is : tag ≡ tag_of name) where
  pub footer_number : is_footer tag ≡ is name "footer"
  footer_number = ap is_footer tag_is ∙ (tag_tests name).footer

  -- what a test on the number answers is what the test on the name does
  module _ {r : Bool} where
    pub skip_link_named : (t : Bytes) → r ≡ (is_a_div_or_li tag && finds skip_link_cls t) → r ≡ skip_link name t
    unfolding skip_link
    skip_link_named t e = e ∙ ap (λ (q : Bool). q && finds skip_link_cls t) (ap is_a_div_or_li tag_is ∙ (tag_tests name).a_div_or_li)

    pub article_named : (t : Bytes) → r ≡ (is_article tag || finds article_cls t) → r ≡ article name t
    unfolding article
    article_named t e = e ∙ ap (λ (q : Bool). q || finds article_cls t) (ap is_article tag_is ∙ (tag_tests name).article)

    pub ul_named : (b : Bool) → r ≡ (is_ul tag && b) → r ≡ (is name "ul" && b)
    ul_named b e = e ∙ ap (λ (q : Bool). q && b) (ap is_ul tag_is ∙ (tag_tests name).ul)

    pub article_cluster_named : (b : Bool) → r ≡ (is_article tag && b) → r ≡ (is name "article" && b)
    article_cluster_named b e = e ∙ ap (λ (q : Bool). q && b) (ap is_article tag_is ∙ (tag_tests name).article)

    pub not_div_named : (b : Bool) → r ≡ (not (is_div tag) || b) → r ≡ (not (is name "div") || b)
    not_div_named b e = e ∙ ap (λ (q : Bool). not q || b) (ap is_div tag_is ∙ (tag_tests name).div)

    pub div_cluster_named : (a b : Bool) → r ≡ (a && (is_div tag && b)) → r ≡ (a && (is name "div" && b))
    div_cluster_named a b e = e ∙ ap (λ (q : Bool). a && (q && b)) (ap is_div tag_is ∙ (tag_tests name).div)

  -- a name with another number is another name
  other : (w : Bytes) {n : ℕ} → n ≡ tag_of w → (tag ≡ n → ⊥) → same name w ≡ false
  other w e h = same_not name w (λ q. h (tag_is ∙ ap tag_of q ∙ sym e))

  -- a number that is not 0 decides, if it does so for each name that has one
  numbered : (test : ℕ → Bool) (ws : List Bytes) → each (λ w. beq (test (tag_of w)) (one_of w ws)) known ≡ true → (tag ≡ 0 → ⊥) → test tag ≡ one_of name ws
  numbered test ws t h =
      ap test tag_is ∙ by_test (one_of name known)
      (λ e. beq_true (test (tag_of name)) (one_of name ws) (each_at (λ w. beq (test (tag_of w)) (one_of w ws)) known t name e))
      (λ e. absurd (h (tag_is ∙ unknown name e)))

  kept_numbered : (tag ≡ 0 → ⊥) → (eqb tag 33 || eqb tag 8) ≡ one_of name (words "body main h1")
  unfolding tag_of tag_names number_from words first_word other_words codes one_of same
  kept_numbered h = numbered (λ t. eqb t 33 || eqb t 8) (words "body main h1") refl h

  pub kept_yes : (tag ≡ 8) ⊎ (tag ≡ 33) → true ≡ one_of name (words "body main h1")
  kept_yes h = sym (one_of_both 33 8 tag h) ∙ kept_numbered (λ z. omega arith)

  pub kept_no : (tag ≡ 0 → ⊥) → (tag ≡ 8 → ⊥) → (tag ≡ 33 → ⊥) → false ≡ one_of name (words "body main h1")
  kept_no z a b = or_no _ (ne_eqb _ _ b) (sym (ne_eqb _ _ a)) ∙ kept_numbered z

  pub kept_other : tag ≡ 0 → same name (codes "body") ≡ one_of name (words "body main h1")
  unfolding tag_of tag_names number_from words first_word other_words codes same
  kept_other z =
      sym (one_of_cons name (codes "body") _
      ∙ ap (λ (q : Bool). same name (codes "body") || q)
      (none_of name (codes "main") _ (other (codes "main") {n = 33} refl (λ q. omega arith))
      (none_of name (codes "h1") _ (other (codes "h1") {n = 8} refl (λ q. omega arith))
      (none_of_none name)))
      ∙ or-false (same name (codes "body")))

  dropped_numbered : (tag ≡ 0 → ⊥) → (eqb tag 34 || eqb tag 17) ≡ one_of name (words "nav aside audio video time")
  unfolding tag_of tag_names number_from words first_word other_words codes one_of same
  dropped_numbered h = numbered (λ t. eqb t 34 || eqb t 17) (words "nav aside audio video time") refl h

  pub dropped_yes : (tag ≡ 17) ⊎ (tag ≡ 34) → true ≡ one_of name (words "nav aside audio video time")
  dropped_yes h = sym (one_of_both 34 17 tag h) ∙ dropped_numbered (λ z. omega arith)

  pub dropped_no : (tag ≡ 0 → ⊥) → (tag ≡ 17 → ⊥) → (tag ≡ 34 → ⊥) → false ≡ one_of name (words "nav aside audio video time")
  dropped_no z a b = or_no _ (ne_eqb _ _ b) (sym (ne_eqb _ _ a)) ∙ dropped_numbered z

  pub dropped_other : tag ≡ 0 → (same name (codes "audio") || (same name (codes "video") || same name (codes "time"))) ≡ one_of name (words "nav aside audio video time")
  unfolding tag_of tag_names number_from words first_word other_words codes same
  dropped_other z =
      sym (one_of_cons name (codes "nav") _
      ∙ sym (or_no _ (other (codes "nav") {n = 34} refl (λ q. omega arith)) refl)
      ∙ one_of_cons name (codes "aside") _
      ∙ sym (or_no _ (other (codes "aside") {n = 17} refl (λ q. omega arith)) refl)
      ∙ one_of_cons name (codes "audio") _
      ∙ ap (λ (q : Bool). same name (codes "audio") || q)
      (one_of_cons name (codes "video") _ ∙ ap (λ (q : Bool). same name (codes "video") || q) (one_word name (codes "time"))))

  -- ---- blocks, and td among the cells
  by_block : {r : Bool} → r ≡ (not (is_block_tag tag) && not (is name "td")) → r ≡ not_block name
  unfolding not_block
  by_block e = e ∙ ap (λ (q : Bool). not q && not (is name "td")) (ap is_block_tag tag_is ∙ (tag_tests name).block)

  pub not_block_cell : tag ≡ 2 → {r : Bool} → r ≡ not (same name (codes "td")) → r ≡ not_block name
  not_block_cell h e = by_block (e ∙ and_yes _ (ap (λ (t : ℕ). not (is_block_tag t)) h) refl)

  pub not_block_outside : is_block_tag tag ≡ false → (tag ≡ 2 → ⊥) → true ≡ not_block name
  unfolding tag_of tag_names number_from words first_word other_words codes same
  not_block_outside e h = by_block (and_yes _ (ap not e) (sym (ap not (other (codes "td") {n = 2} refl h))))

  pub not_block_inside : is_block_tag tag ≡ true → false ≡ not_block name
  not_block_inside e = by_block (and_no _ (ap not e))

-- which numbers are blocks
pub none_block : {tag : ℕ} → tag ≡ 0 → is_block_tag tag ≡ false
none_block z = rw z

pub past_blocks : {tag : ℕ} → 36 < tag → is_block_tag tag ≡ false
past_blocks {tag} h = rw (ne_eqb tag 1 (λ q. omega arith), lt-leb tag 36 h) (and-false (leb 3 tag))

pub block_number : {tag : ℕ} → (tag ≡ 0 → ⊥) → tag ≤ 36 → (tag ≡ 2 → ⊥) → is_block_tag tag ≡ true
block_number {tag} z h t =
    by_test (eqb tag 1)
    (λ e. rw e)
    (λ e. rw (e, le-leb tag 36 h, le-leb 3 tag (omega (arith, eqb-false tag 1 e))))

pub not_block_numbered : (name : Bytes) {tag : ℕ} → tag ≡ tag_of name → (tag ≡ 0 → ⊥) → (tag ≡ 2 → ⊥) → ltb 36 tag ≡ not_block name
not_block_numbered name {tag} tag_is z t =
    by_test (ltb 36 tag)
    (λ e. e ∙ not_block_outside name tag_is (past_blocks (ltb-true 36 tag e)) t)
    (λ e. e ∙ not_block_inside name tag_is (block_number z (ltb-false 36 tag e) t))
