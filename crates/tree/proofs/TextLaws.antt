-- Text content as a loop over row numbers gathers it.
use mathlib.Core.Path.{◌≡◌, refl, sym, ap, ◌∙◌}
use mathlib.Core.List.{List, [], ◌∷◌, ◌++◌, append_assoc}
use Prim.Native.Nat.{ℕ, ◌+◌, ◌-◌, ◌≤◌, ◌<◌}
use native.Mathlib.Numerals.{add-one}
use native.Mathlib.Omega.{arith}
use lib.ListN.{length, get_or, drop}
use Rattle.common.specs.Bytes.{Bytes}
use Rattle.tree.specs.Forest.{Forest}
use Rattle.tree.specs.Node.{element, text, Node}
use Rattle.tree.specs.Rows.{past_from}
use Rattle.tree.specs.TextContent.{text_data, concatenated, descendant_text, text_content, text_of_rows}
use Rattle.tree.proofs.Descendants.{rows_done, rows_more}
use Rattle.tree.proofs.NodeLaws.{by_kind}
use Rattle.tree.proofs.PastLaws.{past_low}
use Rattle.tree.proofs.Scans.{past_stop, past_more, past_done}

module _ (n : Node) where
  pub data_of_text : n.kind ≡ text → text_data n ≡ n.value
  unfolding text_data
  data_of_text e = rw (e, text_data)

  pub data_of_other : (n.kind ≡ text → ⊥) → text_data n ≡ []
  unfolding text_data
  data_of_other h = by_kind n.kind (λ e. rw (e, text_data)) (λ e. absurd (h e)) (λ e. rw (e, text_data))

module _ {A : Type 0} (node_of : A → Node) where
  pub concatenated_append : (s t : List A) → concatenated node_of (s ++ t) ≡ concatenated node_of s ++ concatenated node_of t
  unfolding concatenated
  concatenated_append [] t = refl
  concatenated_append (a ∷ s) t =
      ap (λ (r : Bytes). text_data (node_of a) ++ r) (concatenated_append s t) ∙ sym (append_assoc (text_data (node_of a)) (concatenated node_of s) (concatenated node_of t))

  module _ (a : A) (children : Forest A) where
    pub text_of_element : (node_of a).kind ≡ element → text_content node_of a children ≡ descendant_text node_of children
    unfolding text_content
    text_of_element e = rw (e, text_content)

    pub text_of_other : ((node_of a).kind ≡ element → ⊥) → text_content node_of a children ≡ (node_of a).value
    unfolding text_content
    text_of_other h = by_kind (node_of a).kind (λ e. absurd (h e)) (λ e. rw (e, text_content)) (λ e. rw (e, text_content))

-- what the rows from i up to p say: one row more, or none left
module _ (node_of : ℕ → Node) (i p : ℕ) where
  pub text_rows_done : p ≤ i → text_of_rows node_of i (p - i) ≡ []
  unfolding concatenated
  text_rows_done h = ap (concatenated node_of) (rows_done i p h)

  pub text_rows_more : i < p → text_of_rows node_of i (p - i) ≡ text_data (node_of i) ++ text_of_rows node_of (i + 1) (p - (i + 1))
  unfolding concatenated
  text_rows_more h = rw add-one (ap (concatenated node_of) (rows_more i p h))

  -- with `before` gathered already
  pub text_rows_gather : (before : Bytes) → i < p → before ++ text_of_rows node_of i (p - i) ≡ (before ++ text_data (node_of i)) ++ text_of_rows node_of (i + 1) (p - (i + 1))
  text_rows_gather before h =
      ap (λ (t : Bytes). before ++ t) (text_rows_more h) ∙ sym (append_assoc before (text_data (node_of i)) (text_of_rows node_of (i + 1) (p - (i + 1))))

-- ---- where a loop looks for the first row past as it goes: from row i on, below depth d; x is the depth of row i

abbrev pub text_below : (ℕ → Node) → List ℕ → ℕ → ℕ → Bytes
text_below node_of depths d i = text_of_rows node_of i (past_from d i (drop i depths) - i)

module _ (node_of : ℕ → Node) (depths : List ℕ) (d i : ℕ) where
  pub text_below_done : length depths ≤ i → text_below node_of depths d i ≡ []
  text_below_done h = text_rows_done node_of i (past_from d i (drop i depths)) (omega (arith, past_done depths d i h))

  module _ (x : ℕ) (h : i < length depths) (e : x ≡ get_or depths i 0) where
    pub text_below_stop : x ≤ d → text_below node_of depths d i ≡ []
    text_below_stop g = text_rows_done node_of i (past_from d i (drop i depths)) (omega (arith, past_stop depths d i x h e g))

    pub text_below_more : d < x → text_below node_of depths d i ≡ text_data (node_of i) ++ text_below node_of depths d (i + 1)
    text_below_more g = rw (past_more depths d i x h e g) (text_rows_more node_of i (past_from d (i + 1) (drop (i + 1) depths)) (omega (arith, past_low d (i + 1) (drop (i + 1) depths))))
