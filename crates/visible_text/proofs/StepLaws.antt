-- The steps by numbers say what the Rust's tests on names and kinds say.
use mathlib.Core.Path.{◌≡◌, refl, sym, ap, ◌∙◌}
use mathlib.Core.Bool.{Bool, true, false, not}
use mathlib.Core.List.{List, [], ◌∷◌}
use Prim.Native.Nat.{ℕ}
use native.Mathlib.Omega.{arith}
use lib.Dec.{leb}
use borrow.Author.Tests.{not-true, ne_eqb}
use Rattle.common.specs.Bytes.{Bytes, codes, same}
use Rattle.common.proofs.Choice.{by_test}
use Rattle.common.proofs.Equality.{same_true}
use Rattle.tags.specs.Words.{words, first_word, other_words, is, one_of}
use Rattle.tags.proofs.WordLaws.{each_at, by_words}
use Rattle.text.specs.Text.{is_ascii_whitespace}
use Rattle.tree.specs.Forest.{Forest}
use Rattle.tree.specs.Node.{element, text, comment, Node, tag}
use Rattle.tree.specs.TextContent.{text_content}
use Rattle.tree.proofs.NodeLaws.{by_kind, tag_of_element}
use Rattle.writer.specs.Out.{Out, push_all, strip_by}
use Rattle.visible_text.specs.Inner.{inline, block, paragraph, pre, br, silent, step_of, step_at, insert_by, begin_by}
use Rattle.visible_text.specs.VisibleText.{is_block_element, line_feeds, insert_block, is_silent, add_text, begin_element, begin, enters, end}
use Rattle.visible_text.proofs.NameLaws.{known, unlisted}

-- ---- a name

abbrev block_names : List Bytes
block_names = words "address article aside blockquote canvas dd div dl dt fieldset figcaption figure footer form h1 h2 h3 h4 h5 h6 header hr li main nav ol p pre section table tfoot ul video"

module _ (name : Bytes) where
  silent_no_block : is_silent name ≡ true → is_block_element name ≡ false
  unfolding is_silent is_block_element one_of words first_word other_words codes same
  silent_no_block e = not-true _ (each_at (λ w. not (one_of w block_names)) (words "script style noscript") refl name e)

  -- what a name is, by its number
  by_step : {P : Type 0} → (is_silent name ≡ true → is_block_element name ≡ false → step_of name ≡ silent → P)
      → (is_silent name ≡ false → name ≡ codes "pre" → step_of name ≡ pre → P)
      → (is_silent name ≡ false → is name "pre" ≡ false → name ≡ codes "br" → step_of name ≡ br → P)
      → (is_silent name ≡ false → is name "pre" ≡ false → is name "br" ≡ false → (is_block_element name ≡ true) × (is name "p" ≡ true)
      → step_of name ≡ paragraph → P)
      → (is_silent name ≡ false → is name "pre" ≡ false → is name "br" ≡ false → (is_block_element name ≡ true) × (is name "p" ≡ false)
      → step_of name ≡ block → P)
      → (is_silent name ≡ false → is name "pre" ≡ false → is name "br" ≡ false → is_block_element name ≡ false → step_of name ≡ inline → P)
      → P
  unfolding step_of
  by_step none whole feed two one inside =
      by_test (is_silent name) (λ e. none e (silent_no_block e) (rw e))
      (λ e. by_test (is name "pre") (λ f. whole e (same_true name (codes "pre") f) (rw (e, f)))
      (λ f. by_test (is name "br") (λ g. feed e f (same_true name (codes "br") g) (rw (e, f, g)))
      (λ g. by_test (is_block_element name)
      (λ h. by_test (is name "p") (λ k. two e f g (h, k) (rw (e, f, g, h, k))) (λ k. one e f g (h, k) (rw (e, f, g, h, k))))
      (λ h. inside e f g h (rw (e, f, g, h))))))

  block_no : is_block_element name ≡ false → (o : Out) → insert_block name o ≡ o
  unfolding insert_block
  block_no e o = rw (e, insert_block)

  block_yes : is_block_element name ≡ true → (o : Out) → insert_block name o ≡ push_all (line_feeds name) (strip_by is_ascii_whitespace o)
  unfolding insert_block
  block_yes e o = rw (e, insert_block)

pub insert_step : (name : Bytes) (o : Out) → insert_block name o ≡ insert_by (step_of name) o
unfolding insert_by is_block_element one_of words first_word other_words codes same
insert_step name o =
    by_step name
    (λ s b e. rw (e, block_no name b o))
    (λ s p e. rw (e, p) (block_yes (codes "pre") refl o))
    (λ s p b e. rw (e, b) (block_no (codes "br") refl o))
    (λ s p b k e. rw (e, block_yes name k.0 o, k.1))
    (λ s p b k e. rw (e, block_yes name k.0 o, k.1))
    (λ s p b k e. rw (e, block_no name k o))

module _ (node_of : ℕ → Node) (i : ℕ) (children : Forest ℕ) where
  element_step : (o : Out) → begin_element node_of i children o ≡ begin_by (step_of (node_of i).name) (text_content node_of i children) o
  unfolding begin_element begin_by insert_by same codes
  element_step o =
      by_step (node_of i).name
      (λ s b e. rw (e, s, begin_element))
      (λ s p e. rw (e, s, begin_element) (rw p))
      (λ s p b e. rw (e, s, begin_element) (rw (p, begin_element) (rw b)))
      (λ s p b k e. rw (e, s, begin_element) (rw (p, b, insert_step (node_of i).name o, e)))
      (λ s p b k e. rw (e, s, begin_element) (rw (p, b, insert_step (node_of i).name o, e)))
      (λ s p b k e. rw (e, s, begin_element) (rw (p, b, insert_step (node_of i).name o, e)))

-- the walk goes below an element exactly where its number is one of the first three
entered : (name : Bytes) → not (one_of name (words "script style noscript pre br")) ≡ leb (step_of name) paragraph
unfolding step_of is_silent is_block_element one_of words first_word other_words codes same
entered name =
    ap not (sym (by_words (words "script style noscript pre br") known (λ w. not (leb (step_of w) paragraph)) refl refl
    (λ s h. rw (unlisted s h)) name))
    ∙ twice (leb (step_of name) paragraph)
  where
    twice : (b : Bool) → not (not b) ≡ b
    twice true = refl
    twice false = refl

no_block : is_block_element [] ≡ false
unfolding is_block_element one_of words first_word other_words codes same
no_block = refl

-- ---- the begin step of a number

module _ (step : ℕ) (content : Bytes) where
  pub begins_pre : step ≡ pre → (o : Out) → begin_by step content o ≡ push_all content o
  unfolding begin_by
  begins_pre e o = rw e

  pub begins_br : step ≡ br → (o : Out) → begin_by step content o ≡ push_all (0x0a ∷ []) o
  unfolding begin_by
  begins_br e o = rw e

  pub begins_other : (step ≡ pre → ⊥) → (step ≡ br → ⊥) → (o : Out) → begin_by step content o ≡ insert_by step o
  unfolding begin_by
  begins_other a b o = rw (ne_eqb step pre a, ne_eqb step br b)

-- ---- a row

module _ (node_of : ℕ → Node) (i : ℕ) where
  pub step_element : (node_of i).kind ≡ element → step_at node_of i ≡ step_of (node_of i).name
  unfolding step_at
  step_element e = rw (e, step_at)

  pub step_text : (node_of i).kind ≡ text → step_at node_of i ≡ inline
  unfolding step_at
  step_text e = rw (e, step_at)

  pub step_comment : (node_of i).kind ≡ comment → step_at node_of i ≡ silent
  unfolding step_at
  step_comment e = rw (e, step_at)

  -- only an element is copied whole
  pub pre_element : step_at node_of i ≡ pre → (node_of i).kind ≡ element
  pre_element e = by_kind (node_of i).kind (λ k. k) (λ k. absurd (omega (arith, step_text k))) (λ k. absurd (omega (arith, step_comment k)))

  pub enters_step : enters node_of i ≡ leb (step_at node_of i) paragraph
  unfolding enters
  enters_step =
      by_kind (node_of i).kind
      (λ k. rw (k, enters, step_element k) (entered (node_of i).name))
      (λ k. rw (k, enters, step_text k))
      (λ k. rw (k, enters, step_comment k))

  pub end_step : (o : Out) → end node_of i o ≡ insert_by (step_at node_of i) o
  unfolding insert_by tag
  end_step o =
      by_kind (node_of i).kind
      (λ k. rw (tag_of_element (node_of i) k, step_element k) (insert_step (node_of i).name o))
      (λ k. rw (k, tag, step_text k) (block_no [] no_block o))
      (λ k. rw (k, tag, step_comment k) (block_no [] no_block o))

  pub element_no_text : (node_of i).kind ≡ element → (node_of i).kind ≡ text → ⊥
  element_no_text k q = let z : ◌≡◌ {A = ℕ} 0 1 = cc in omega arith

  pub comment_no_text : (node_of i).kind ≡ comment → (node_of i).kind ≡ text → ⊥
  comment_no_text k q = let z : ◌≡◌ {A = ℕ} 0 1 = cc in omega arith

  pub begin_text : (children : Forest ℕ) → (node_of i).kind ≡ text → (o : Out) → begin node_of i children o ≡ add_text (node_of i).value o
  unfolding begin
  begin_text children k o = rw (k, begin)

  pub begin_step : (children : Forest ℕ) → ((node_of i).kind ≡ text → ⊥)
      → (o : Out) → begin node_of i children o ≡ begin_by (step_at node_of i) (text_content node_of i children) o
  unfolding begin begin_by insert_by
  begin_step children n o =
      by_kind (node_of i).kind
      (λ k. rw (k, begin, step_element k) (element_step node_of i children o))
      (λ k. absurd (n k))
      (λ k. rw (k, begin, step_comment k))
