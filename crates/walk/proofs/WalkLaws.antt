-- The passes over a tree give the walk's events and visits, depend on no row that is not reached, and are at most two a row.
use mathlib.Core.Path.{◌≡◌, refl, sym, ap, ap₂, ◌∙◌}
use mathlib.Core.Bool.{Bool, true, false, cond}
use mathlib.Core.List.{List, [], ◌∷◌, ◌++◌}
use Prim.Native.Nat.{ℕ, suc, ◌+◌, ◌-◌, ◌*◌, ◌≤◌, ◌<◌}
use native.Mathlib.Omega.{arith}
use lib.ListN.{length, get_or, drop, length-append, length-drop}
use Rattle.common.proofs.Choice.{by_test}
use Rattle.tree.specs.Forest.{Forest, empty, node, has_trees, preorder}
use Rattle.tree.specs.Node.{Node}
use Rattle.tree.specs.Rows.{WellFormed, build, numbered, children_of, past_of}
use Rattle.tree.proofs.Descendants.{descendants, length_rows}
use Rattle.tree.proofs.Order.{trichotomy, build_deeper, build_here, build_less}
use Rattle.tree.proofs.PastLaws.{past_of_low, past_of_high}
use Rattle.html2text.specs.Collect.{Event}
use Rattle.html2text.specs.Serialize.{one}
use Rattle.html2text.specs.Walk.{left_out, event_at, events, visits}
use Rattle.walk.specs.Turns.{tree_at, turns, events_of, TurnsOfWalk, Agree}
use Rattle.walk.specs.declared.cursor.Turn.{Turn}
use Rattle.walk.specs.declared.cursor.Turn.TheVariants.{Begin, End, LeftOut}

-- ---- their number

end_length : (i d : ℕ) (b : Bool) → length (cond b (End i d ∷ []) []) ≡ one b
end_length i d true = refl
end_length i d false = refl

node_most : (b c : Bool) (m r n k : ℕ) → m ≤ 2 * n → r ≤ 2 * k → cond b 1 (1 + one c + m) + r ≤ 2 * suc (n + k)
node_most true c m r n k h g = omega arith
node_most false true m r n k h g = omega arith
node_most false false m r n k h g = omega arith

module _ (left : ℕ → Bool) where
  node_length : (d i : ℕ) (children rest : Forest ℕ)
      → length (turns left d (node i children rest)) ≡ cond (left i) 1 (1 + one (has_trees children) + length (turns left (suc d) children)) + length (turns left d rest)
  unfolding turns
  node_length d i children rest =
      by_test (left i)
      (λ e. rw (e, turns) (omega arith))
      (λ e.
      let own = turns left (suc d) children in
      let end = cond (has_trees children) (End i d ∷ []) [] in
      rw (e, turns)
      (omega (arith, length-append (own ++ end) (turns left d rest), length-append own end, end_length i d (has_trees children))))

  turns_most : (d : ℕ) (f : Forest ℕ) → length (turns left d f) ≤ 2 * length (preorder f)
  unfolding turns preorder
  turns_most d empty = omega arith
  turns_most d (node i children rest) =
      omega (
        arith,
        node_length d i children rest,
        node_most (left i) (has_trees children) _ _ (length (preorder children)) (length (preorder rest)) (turns_most (suc d) children) (turns_most d rest),
        length-append (preorder children) (preorder rest),
      )

  -- "At most 2·N."
  pub tree_most : (depths : List ℕ) → WellFormed depths → (i : ℕ) → i < length depths → length (turns left 0 (tree_at depths i)) ≤ 2 * length depths
  unfolding preorder
  tree_most depths w i h =
      let below = children_of depths i in
      omega (
        arith,
        turns_most 0 (tree_at depths i),
        length-append (preorder below) [],
        ap length (descendants depths w i),
        length_rows (suc i) (past_of depths i - suc i),
        past_of_low depths i,
        past_of_high depths i h,
      )

-- ---- the walk's events and visits

module _ (node_of : ℕ → Node) (hidden : ℕ → Bool) where
  events_append : (ts us : List Turn) → events_of node_of hidden (ts ++ us) ≡ events_of node_of hidden ts ++ events_of node_of hidden us
  unfolding events_of
  events_append [] us = refl
  events_append (Begin i d c ∷ ts) us = ap (λ (es : List Event). event_at node_of hidden i c d false ∷ es) (events_append ts us)
  events_append (End i d ∷ ts) us = ap (λ (es : List Event). event_at node_of hidden i true d true ∷ es) (events_append ts us)
  events_append (LeftOut ∷ ts) us = events_append ts us

  end_events : (i d : ℕ) (b : Bool) → cond b (event_at node_of hidden i true d true ∷ []) [] ≡ events_of node_of hidden (cond b (End i d ∷ []) [])
  unfolding events_of
  end_events i d true = refl
  end_events i d false = refl

  events_are : (d : ℕ) (f : Forest ℕ) → events node_of hidden d f ≡ events_of node_of hidden (turns (left_out node_of hidden) d f)
  unfolding events events_of turns
  events_are d empty = refl
  events_are d (node i children rest) =
      let left = left_out node_of hidden in
      by_test (left i)
      (λ e. rw (e, events, turns) (events_are d rest))
      (λ e.
      let own = turns left (suc d) children in
      let end = cond (has_trees children) (End i d ∷ []) [] in
      rw (e, events, turns)
      (ap (λ (es : List Event). event_at node_of hidden i (has_trees children) d false ∷ es)
      (ap₂ (λ (a b : List Event). a ++ b)
      (ap₂ (λ (a b : List Event). a ++ b) (events_are (suc d) children) (end_events i d (has_trees children)) ∙ sym (events_append own end))
      (events_are d rest)
      ∙ sym (events_append (own ++ end) (turns left d rest)))))

  visits_are : (d : ℕ) (f : Forest ℕ) → visits node_of hidden f ≡ length (turns (left_out node_of hidden) d f)
  unfolding visits turns
  visits_are d empty = refl
  visits_are d (node i children rest) =
      ap₂ (λ (m n : ℕ). cond (left_out node_of hidden i) 1 (1 + one (has_trees children) + m) + n) (visits_are (suc d) children) (visits_are d rest)
      ∙ sym (node_length (left_out node_of hidden) d i children rest)

  pub turns_of_walk : (d : ℕ) (f : Forest ℕ) → TurnsOfWalk node_of hidden d f
  turns_of_walk d f = record { events_are = events_are d f; visits_are = visits_are d f }

-- ---- rows that are not reached

pub agree_sym : (left other : ℕ → Bool) (f : Forest ℕ) → Agree left other f → Agree other left f
unfolding Agree
agree_sym left other empty a = tt
agree_sym left other (node i children rest) a = (sym a.0, (λ e. agree_sym left other children (a.1 (a.0 ∙ e))), agree_sym left other rest a.2)

-- two that are alike at each of these rows agree on any tree of them
agree_rows : (left other : ℕ → Bool) (l : List ℕ) (k d : ℕ) → ((j : ℕ) → k ≤ j → j < k + length l → left j ≡ other j) → Agree left other (build (numbered k l) d)
unfolding Agree numbered build
agree_rows left other [] k d h = tt
agree_rows left other (x ∷ l) k d h =
    let rows = numbered (suc k) l in
    let behind : (e : ℕ) → Agree left other (build rows e) = λ e. agree_rows left other l (suc k) e (λ j g i. h j (omega arith) (omega arith)) in
    trichotomy x d
    (λ g. rw (build_deeper (x, k) rows d g) (behind d))
    (λ e. rw (build_here (x, k) rows d e) (h k (omega arith) (omega arith), (λ f. behind (suc d)), behind d))
    (λ g. rw (build_less (x, k) rows d g) tt)

pub agree_tree : (depths : List ℕ) (root : ℕ) (left other : ℕ → Bool) → root < length depths → ((j : ℕ) → j < length depths → left j ≡ other j) → Agree left other (tree_at depths root)
unfolding Agree
agree_tree depths root left other h same = (
  same root h,
  (λ f. agree_rows left other (drop (suc root) depths) (suc root) (suc (get_or depths root 0)) (λ j g i. same j (omega (arith, length-drop (suc root) depths)))),
  tt,
)

pub agree_turns : (left other : ℕ → Bool) (d : ℕ) (f : Forest ℕ) → Agree left other f → turns left d f ≡ turns other d f
unfolding turns Agree
agree_turns left other d empty a = refl
agree_turns left other d (node i children rest) a =
    by_test (left i)
    (λ e. rw (e, sym a.0 ∙ e, turns) (ap (λ (ts : List Turn). LeftOut ∷ ts) (agree_turns left other d rest a.2)))
    (λ e.
    let end = cond (has_trees children) (End i d ∷ []) [] in
    rw (e, sym a.0 ∙ e, turns)
    (ap₂ (λ (ts us : List Turn). Begin i d (has_trees children) ∷ ((ts ++ end) ++ us)) (agree_turns left other (suc d) children (a.1 e))
    (agree_turns left other d rest a.2)))
