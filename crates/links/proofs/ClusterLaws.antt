-- The measure of a row by the counts of a pass that may stop early; `link_cluster` by kind; the answer to a byte string.
use Rattle.std.proofs.Common.{◌≡◌, ℕ, ◌*◌, ◌<◌, ◌≤◌, Bool, true, false, eqb, ltb, List, [], sym, refl, ap, ◌∙◌, arith, lt-ltb, eq-eqb, ne_eqb}
use Rattle.std.specs.Prelude.{Result, Ok, Err}
use Rattle.common.specs.Answer.{refused}
use Rattle.common.specs.Bytes.{Bytes}
use Rattle.common.specs.Refusals.{no_row}
use Rattle.common.proofs.Choice.{by_test}
use Rattle.sheet.specs.Layout.{most_rows, row_at}
use Rattle.sheet.specs.declared.line.Layout.{Layout}
use Rattle.sheet.specs.declared.line.Row.{Row}
use Rattle.tree.specs.Node.{element, Node}
use Rattle.tree.specs.Page.{widest_pool}
use Rattle.tree.specs.Questions.{asked_of}
use Rattle.tree.specs.declared.questions.QuestionError.{QuestionError}
use Rattle.tree.proofs.NodeLaws.{by_kind}
use Rattle.tree.proofs.PastLaws.{above_or_not}
use Rattle.tree.proofs.QuestionsLaws.{asked_by_sheet}
use Rattle.links.specs.Counting.{CountsUpTo, most_of}
use Rattle.links.specs.Links.{text_bytes, link_bytes, is_too_long, measure_of, exceeds, link_cluster}
use Rattle.links.specs.Questions.{measure_at, measure_to, measure_answer_of, outcome_numbers, outcome_values, numbers, values, measure_numbers, measure_values}
use Rattle.links.specs.declared.Measure.{Measure}
use Rattle.links.specs.declared.Rule.{Rule}
use Rattle.links.specs.declared.counts.Counts.{Counts}
use Rattle.links.specs.declared.questions.MeasureError.{MeasureError}
use Rattle.links.specs.declared.questions.MeasureError.TheVariants.{NoElement}
use Rattle.links.proofs.MeasureLaws.{measure_too_long}

module _ (rule : Rule) where
  -- a text beyond, though it is small, is beyond a limit
  limit_is : (n : ℕ) → n ≤ most_rows * widest_pool → most_of rule < n → (ltb 0 rule.limit ≡ true) × (most_of rule ≡ rule.limit)
  limit_is n small g =
      by_test (ltb 0 rule.limit)
      (λ t. (t, rw t))
      (λ t. let m = rw t at g in absurd (omega arith))

  too_long : (n : ℕ) → ltb 0 rule.limit ≡ true → rule.limit < n → is_too_long rule n ≡ true
  too_long n t g = rw (t, lt-ltb rule.limit n g)

  pub measure_counts : {node_of : ℕ → Node} {depths : List ℕ} {i : ℕ} {r : Counts} → CountsUpTo (most_of rule) node_of depths i r → text_bytes node_of depths i ≤ most_rows * widest_pool
      → measure_of rule r.text r.links ≡ measure_of rule (text_bytes node_of depths i) (link_bytes node_of depths i)
  measure_counts {node_of} {depths} {i} {r} k small =
      let n = text_bytes node_of depths i in
      above_or_not n (most_of rule)
      (λ g.
      let p = limit_is n small g in
      sym (measure_too_long rule r.text r.links (too_long r.text p.0 (rw p.1 at (k.beyond g))))
      ∙ measure_too_long rule n (link_bytes node_of depths i) (too_long n p.0 (rw p.1 at g)))
      (λ g. rw (k.within g))

  module _ (node_of : ℕ → Node) (depths : List ℕ) (i : ℕ) where
    pub cluster_of_element : (node_of i).kind ≡ element → exceeds rule (measure_of rule (text_bytes node_of depths i) (link_bytes node_of depths i)) ≡ link_cluster node_of depths rule i
    unfolding link_cluster
    cluster_of_element e = rw (e, link_cluster)

    pub cluster_of_other : ((node_of i).kind ≡ element → ⊥) → false ≡ link_cluster node_of depths rule i
    unfolding link_cluster
    cluster_of_other n = by_kind (node_of i).kind (λ e. absurd (n e)) (λ e. rw (e, link_cluster)) (λ e. rw (e, link_cluster))

-- ---- the answer to a byte string, by what is asked

module _ (s : Bytes) (row : ℕ) (rule : Rule) where
  numbers_is : numbers (measure_answer_of s row rule) ≡ measure_numbers s row rule
  unfolding measure_answer_of measure_numbers
  numbers_is = asked_by_sheet s row (λ x. numbers (measure_to s row rule x)) (λ l. at (measure_at s l rule row) (eqb (row_at s l row).kind 1)) refl (λ v. refl)
    where
      at : (m : Measure) (b : Bool) → numbers (elim b [ true ↦ Ok m | false ↦ Err (NoElement row) ]) ≡ elim b [ true ↦ outcome_numbers m | false ↦ refused no_row row ]
      at m true = refl
      at m false = refl

  values_is : values (measure_answer_of s row rule) ≡ measure_values s row rule
  unfolding measure_answer_of measure_values
  values_is = asked_by_sheet s row (λ x. values (measure_to s row rule x)) (λ l. at (measure_at s l rule row) (eqb (row_at s l row).kind 1)) refl (λ v. refl)
    where
      at : (m : Measure) (b : Bool) → values (elim b [ true ↦ Ok m | false ↦ Err (NoElement row) ]) ≡ elim b [ true ↦ outcome_values m | false ↦ [] ]
      at m true = refl
      at m false = refl

  abbrev Right : Result Measure MeasureError → Type 0
  Right a = (a ≡ measure_answer_of s row rule) × (numbers a ≡ measure_numbers s row rule) × (values a ≡ measure_values s row rule)

  pub answer_is : {a : Result Measure MeasureError} {x : Result (Layout × Row) QuestionError} → a ≡ measure_to s row rule x → x ≡ asked_of s row → Right a
  unfolding measure_answer_of
  answer_is {a} e q =
      let p : a ≡ measure_to s row rule (asked_of s row) = e ∙ ap (measure_to s row rule) q in
      (p, ap numbers p ∙ numbers_is, ap values p ∙ values_is)

  module _ {l : Layout} {r : Row} (q : Ok (l, r) ≡ asked_of s row) where
    pub answer_of_element : {m : Measure} → r.kind ≡ 1 → m ≡ measure_at s l rule row → Right (Ok m)
    answer_of_element k e = answer_is (ap (λ (m : Measure). Ok m) e ∙ rw (eq-eqb r.kind 1 k, measure_to)) q

    pub answer_of_other : (r.kind ≡ 1 → ⊥) → Right (Err (NoElement row))
    answer_of_other k = answer_is (rw (ne_eqb r.kind 1 k, measure_to)) q
