-- The length of a collapsed text content, as a loop over the rows counts it, and its bound.
use Rattle.std.specs.Prelude.{Result}
use mathlib.Core.Path.{◌≡◌, refl, sym, ap, ◌∙◌}
use mathlib.Core.Bool.{false}
use mathlib.Core.List.{List, [], ◌∷◌, ◌++◌}
use Prim.Native.Nat.{ℕ, zero, suc, ◌+◌, ◌-◌, ◌*◌, ◌≤◌, ◌<◌}
use native.Mathlib.Nat.{le_trans, mul-le-mul_left, mul-le-mul_right}
use native.Mathlib.Omega.{arith}
use native.Mathlib.Numerals.{add-one}
use lib.Dec.{eqb}
use lib.ListN.{length, get_or, drop, length-append, length-drop}
use borrow.Author.Tests.{eqb-true, eqb-false}
use Rattle.common.specs.Bytes.{Bytes}
use Rattle.common.proofs.Choice.{by_test}
use Rattle.sheet.specs.Accepted.{Accepted}
use Rattle.sheet.specs.Layout.{most_rows, row_at, range, depths}
use Rattle.sheet.specs.declared.line.Layout.{Layout}
use Rattle.sheet.specs.declared.line.Row.{Row}
use Rattle.sheet.proofs.LayoutLaws.{depths_from_length}
use Rattle.text.specs.Text.{is_space, collapse_from, space_after, collapse_by}
use Rattle.text.specs.declared.Squeezed.{Squeezed}
use Rattle.text.proofs.CollapseLaws.{collapse_append, collapse_from_length, collapse_length}
use Rattle.tree.specs.Node.{element, Node}
use Rattle.tree.specs.Page.{widest_pool, node_at}
use Rattle.tree.specs.Rows.{WellFormed, children_of, past_of, rows_from}
use Rattle.tree.specs.TextContent.{text_data, concatenated, descendant_text, text_content, text_of_rows}
use Rattle.tree.specs.declared.questions.QuestionError.{QuestionError}
use Rattle.tree.specs.TextLength.{text_length, squeezed_on, length_to, length_of, numbers, length_numbers}
use Rattle.tree.specs.Questions.{asked_of}
use Rattle.tree.proofs.QuestionsLaws.{asked_by_sheet}
use Rattle.tree.proofs.Column.{below_length}
use Rattle.tree.proofs.Descendants.{descendants}
use Rattle.tree.proofs.PageLaws.{is_element, not_element, data_is, data_none, value_small, data_small}
use Rattle.tree.proofs.PastLaws.{past_of_low, past_of_high}
use Rattle.tree.proofs.SheetColumn.{well_formed}
use Rattle.tree.proofs.TextLaws.{text_of_element, text_of_other, text_below, text_below_done, text_below_stop, text_below_more}

pub pool_small : {s : Bytes} {l : Layout} → Accepted s l → l.pool ≤ widest_pool
pool_small a = omega (arith, a.sized.pool)

-- ---- a text in two parts

pub collapse_two : (p : Squeezed) (s t : Bytes) → let q = squeezed_on p s in q.len + length (collapse_from is_space q.space t) ≡ p.len + length (collapse_from is_space p.space (s ++ t))
collapse_two p s t =
    omega (arith, ap length (collapse_append is_space p.space s t), length-append (collapse_from is_space p.space s) (collapse_from is_space (space_after is_space p.space s) t))

-- with the data of one row more
module _ (s : Bytes) (l : Layout) {r : Row} (j : ℕ) (r_is : r ≡ row_at s l j) (p : Squeezed) where
  pub squeezed_other : (r.kind ≡ 3 → ⊥) → p ≡ squeezed_on p (text_data (node_at s l j))
  unfolding collapse_from
  squeezed_other n = let z : p.len ≡ p.len + 0 = omega arith in rw (data_none s l j r_is n) (ap (λ (k : ℕ). record { len = k; space = p.space }) z)

  pub squeezed_text : {part : Bytes} (q : Squeezed) → r.kind ≡ 3 → part ≡ range s l r.value_at r.value_len
      → (q.len ≡ length (collapse_from is_space p.space part)) × (q.space ≡ space_after is_space p.space part)
      → record { len = p.len + q.len; space = q.space } ≡ squeezed_on p (text_data (node_at s l j))
  squeezed_text q k e c = rw (data_is s l j r_is k, ← e) (rw (c.0, c.1))

  pub squeezed_fits : {part : Bytes} (q : Squeezed) → Accepted s l → j < l.nodes → r.kind ≡ 3 → part ≡ range s l r.value_at r.value_len
      → q.len ≡ length (collapse_from is_space p.space part) → q.len ≤ widest_pool
  squeezed_fits {part} q a h k e c = omega (arith, c, collapse_from_length is_space p.space part, ap length (e ∙ sym (data_is s l j r_is k)), data_small a j h, pool_small a)

module _ (node_of : ℕ → Node) (depths : List ℕ) where
  -- the text below row i
  pub text_below_of : WellFormed depths → (i : ℕ) → (node_of i).kind ≡ element → text_content node_of i (children_of depths i) ≡ text_below node_of depths (get_or depths i 0) (i + 1)
  text_below_of w i e = text_of_element node_of i (children_of depths i) e ∙ ap (concatenated node_of) (descendants depths w i) ∙ simp add-one

  pub length_below_of : WellFormed depths → (i : ℕ) → (node_of i).kind ≡ element → text_length node_of depths i ≡ length (collapse_from is_space false (text_below node_of depths (get_or depths i 0) (i + 1)))
  unfolding text_length collapse_by
  length_below_of w i e = rw (text_below_of w i e)

  pub length_of_other : (i : ℕ) → ((node_of i).kind ≡ element → ⊥) → text_length node_of depths i ≡ length (collapse_by is_space (node_of i).value)
  unfolding text_length
  length_of_other i n = rw (text_of_other node_of i (children_of depths i) n)

  -- a loop: what is counted, and what is left from row j on below depth d; x is the depth of row j
  module _ (d j n : ℕ) (p : Squeezed) (sum : p.len + length (collapse_from is_space p.space (text_below node_of depths d j)) ≡ n) where
    empty_left : text_below node_of depths d j ≡ [] → p.len ≡ n
    unfolding collapse_from
    empty_left e = sym (omega (arith, rw e at sum))

    pub length_done : length depths ≤ j → p.len ≡ n
    length_done h = empty_left (text_below_done node_of depths d j h)

    module _ (x : ℕ) (h : j < length depths) (e : x ≡ get_or depths j 0) where
      pub length_stop : x ≤ d → p.len ≡ n
      length_stop g = empty_left (text_below_stop node_of depths d j x h e g)

      pub length_more : {q : Squeezed} → d < x → q ≡ squeezed_on p (text_data (node_of j)) → q.len + length (collapse_from is_space q.space (text_below node_of depths d (j + 1))) ≡ n
      length_more g q_is = rw q_is (collapse_two p (text_data (node_of j)) (text_below node_of depths d (j + 1)) ∙ rw (text_below_more node_of depths d j x h e g) at sum)

-- ---- the bound

module _ {s : Bytes} {l : Layout} (a : Accepted s l) where
  pub text_rows_small : (i n : ℕ) → i + n ≤ l.nodes → length (text_of_rows (node_at s l) i n) ≤ n * l.pool
  unfolding concatenated rows_from
  text_rows_small i zero h = omega arith
  text_rows_small i (suc n) h =
      omega (arith, length-append (text_data (node_at s l i)) (text_of_rows (node_at s l) (suc i) n), data_small a i (omega arith), text_rows_small (suc i) n (omega arith))

  pub below_small : (i : ℕ) → i < l.nodes → length (descendant_text (node_at s l) (children_of (depths s l) i)) ≤ l.nodes * l.pool
  below_small i h =
      let d = depths s l in
      let rows : length d ≡ l.nodes = depths_from_length s l 0 l.nodes in
      let past : past_of d i ≤ l.nodes = omega (arith, past_of_high d i (below_length s l i h)) in
      let n : past_of d i - suc i ≤ l.nodes = omega arith in
      rw (descendants d (well_formed a) i)
      (le_trans (text_rows_small (suc i) (past_of d i - suc i) (omega (arith, past_of_low d i))) (mul-le-mul_right l.pool n))

  content_small : (i : ℕ) → i < l.nodes → length (text_content (node_at s l) i (children_of (depths s l) i)) ≤ l.nodes * l.pool
  content_small i h =
      by_test (eqb (row_at s l i).kind 1)
      (λ t.
      rw (text_of_element (node_at s l) i (children_of (depths s l) i) (is_element s l i refl (eqb-true (row_at s l i).kind 1 t))) (below_small i h))
      (λ t.
      rw (text_of_other (node_at s l) i (children_of (depths s l) i) (not_element s l i refl (eqb-false (row_at s l i).kind 1 t)))
      (omega (arith, value_small a i h, mul-le-mul_right l.pool a.sized.some_node)))

  pub length_in_pool : (i : ℕ) → i < l.nodes → text_length (node_at s l) (depths s l) i ≤ l.nodes * l.pool
  unfolding text_length
  length_in_pool i h = omega (arith, collapse_length is_space (text_content (node_at s l) i (children_of (depths s l) i)), content_small i h)

  -- all rows, and each with the whole pool
  pub whole_small : l.nodes * l.pool ≤ most_rows * widest_pool
  whole_small = le_trans (mul-le-mul_right l.pool a.sized.nodes) (mul-le-mul_left most_rows (pool_small a))

  pub length_small : (i : ℕ) → i < l.nodes → text_length (node_at s l) (depths s l) i ≤ most_rows * widest_pool
  length_small i h = le_trans (length_in_pool i h) whole_small

-- ---- the answer to a byte string, by what is asked

module _ (s : Bytes) (row : ℕ) where
  numbers_is : numbers (length_of s row) ≡ length_numbers s row
  unfolding length_of length_numbers
  numbers_is = asked_by_sheet s row (λ x. numbers (length_to s row x)) (λ l. refl) refl (λ v. refl)

  pub length_is : {a : Result ℕ QuestionError} {x : Result (Layout × Row) QuestionError} → a ≡ length_to s row x → x ≡ asked_of s row → (a ≡ length_of s row) × (numbers a ≡ length_numbers s row)
  unfolding length_of
  length_is {a} e q = let p : a ≡ length_to s row (asked_of s row) = e ∙ ap (length_to s row) q in (p, ap numbers p ∙ numbers_is)
