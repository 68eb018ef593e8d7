-- No step makes the greatest length less.
use mathlib.Core.Path.{◌≡◌}
use mathlib.Core.Bool.{true, false, ◌||◌}
use mathlib.Core.List.{List, [], ◌∷◌}
use Prim.Native.Nat.{ℕ, zero, suc, ◌+◌, ◌-◌}
use lib.Dec.{eqb}
use lib.ListN.{length, get_or}
use Rattle.common.specs.Bytes.{Bytes}
use Rattle.common.proofs.Choice.{by_test}
use Rattle.text.specs.Text.{is_ascii_whitespace}
use Rattle.tree.specs.Forest.{Forest, empty, node, has_trees}
use Rattle.tree.specs.Node.{Node, text}
use Rattle.tree.specs.Rows.{forest_from}
use Rattle.tree.specs.TextContent.{text_content}
use Rattle.tree.proofs.NodeLaws.{by_kind}
use Rattle.writer.specs.Out.{Out}
use Rattle.writer.proofs.DoesLaws.{Grows, grows_none, grows_push_all, grows_strip, grows_then, grows_cond}
use Rattle.visible_text.specs.Inner.{block, paragraph, pre, br, insert_by, begin_by, ends_of, step_at, closing, remaining}
use Rattle.visible_text.specs.VisibleText.{added_text, add_text, begin, enters, end, walk}
use Rattle.visible_text.proofs.StepLaws.{element_no_text, comment_no_text, begin_text, begin_step, end_step}
use Rattle.visible_text.proofs.WalkLaws.{within, within_entered, within_passed, behind, walk_row}

grows_as : {F : Out → Out} (G : Out → Out) → ((o : Out) → F o ≡ G o) → Grows G → Grows F
grows_as G e g = record { grow = λ o. rw (e o) (g.grow o) }

pub insert_rises : (step : ℕ) → Grows (insert_by step)
unfolding insert_by
insert_rises step =
    grows_cond (λ o. eqb step block || eqb step pre) (grows_then (grows_strip is_ascii_whitespace) (grows_push_all (0x0a ∷ [])))
    (grows_cond (λ o. eqb step paragraph) (grows_then (grows_strip is_ascii_whitespace) (grows_push_all (0x0a ∷ 0x0a ∷ []))) grows_none)

pub ends_rise : (steps : List ℕ) (n k : ℕ) → Grows (ends_of steps n k)
unfolding ends_of
ends_rise steps n zero = grows_none
ends_rise steps n (suc k) = grows_then (insert_rises (get_or steps (n - 1) 0)) (ends_rise steps (n - 1) k)

begin_by_rises : (step : ℕ) (content : Bytes) → Grows (begin_by step content)
unfolding begin_by
begin_by_rises step content =
    grows_cond (λ o. eqb step pre) (grows_push_all content) (grows_cond (λ o. eqb step br) (grows_push_all (0x0a ∷ [])) (insert_rises step))

module _ (node_of : ℕ → Node) where
  begin_rises : (i : ℕ) (children : Forest ℕ) → Grows (begin node_of i children)
  begin_rises i children =
      by_kind (node_of i).kind
      (λ k. stepped (element_no_text node_of i k))
      (λ k. grows_as (add_text (node_of i).value) (begin_text node_of i children k)
      (record { grow = λ o. (grows_push_all (added_text o.text (node_of i).value)).grow o }))
      (λ k. stepped (comment_no_text node_of i k))
    where
      stepped : ((node_of i).kind ≡ text → ⊥) → Grows (begin node_of i children)
      stepped n = grows_as (begin_by (step_at node_of i) (text_content node_of i children)) (begin_step node_of i children n)
          (begin_by_rises (step_at node_of i) (text_content node_of i children))

  end_rises : (i : ℕ) → Grows (end node_of i)
  end_rises i = grows_as (insert_by (step_at node_of i)) (end_step node_of i) (insert_rises (step_at node_of i))

  within_rises : (i : ℕ) (children : Forest ℕ) → Grows (walk node_of children) → Grows (within node_of i children)
  within_rises i children g =
      by_test (enters node_of i)
      (λ e. grows_as (walk node_of children) (within_entered node_of i e children) g)
      (λ e. grows_as (λ o. o) (within_passed node_of i e children) grows_none)

  behind_rises : (i : ℕ) (rest : Forest ℕ) → Grows (walk node_of rest) → Grows (behind node_of i rest)
  unfolding behind
  behind_rises i empty g = end_rises i
  behind_rises i (node j children rest) g = g

  pub walk_rises : (f : Forest ℕ) → Grows (walk node_of f)
  unfolding walk
  walk_rises empty = grows_none
  walk_rises (node i children rest) =
      grows_as (λ o. behind node_of i rest (within node_of i children (begin node_of i children o))) (walk_row node_of i children rest)
      (grows_then (begin_rises i children)
      (grows_then (within_rises i children (walk_rises children)) (behind_rises i rest (walk_rises rest))))

  -- ---- what is left of the walk

  module _ (depths : List ℕ) (base k : ℕ) where
    ended_rises : (f : Forest ℕ) (step : ℕ) → Grows (λ o. elim (has_trees f) [ true ↦ o | false ↦ insert_by step o ])
    ended_rises empty step = insert_rises step
    ended_rises (node i children rest) step = grows_none

    pub closing_rises : (up : List ℕ) → Grows (closing node_of depths base k up)
    unfolding closing
    closing_rises [] = grows_none
    closing_rises (step ∷ up) =
        let siblings = forest_from depths k (suc (base + length up)) in
        grows_then (ended_rises siblings step) (grows_then (walk_rises siblings) (closing_rises up))

    pub remaining_rises : (up : List ℕ) → Grows (remaining node_of depths base k up)
    remaining_rises up = grows_then (walk_rises (forest_from depths k (suc (base + length up)))) (closing_rises up)
