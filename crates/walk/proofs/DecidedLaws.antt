-- A list that is filled row by row, and passes over what stands below a row that is left out, is right at every row that is reached.
use mathlib.Core.Path.{◌≡◌, refl, sym, subst, ◌∙◌}
use mathlib.Core.Bool.{Bool, true, false}
use mathlib.Core.List.{List}
use Prim.Native.Nat.{ℕ, suc, ◌+◌, ◌≤◌, ◌<◌}
use native.Mathlib.Omega.{arith}
use native.Mathlib.Numerals.{add-one}
use lib.ListN.{length, get_or, set, drop}
use lib.Seq.{get_or-set_same, get_or-set_other}
use Rattle.common.proofs.Choice.{absurd_test}
use Rattle.tree.specs.Rows.{forest_from, past_from}
use Rattle.tree.proofs.Forests.{forest_deeper, forest_here, forest_less, forest_done, forest_skip}
use Rattle.tree.proofs.Order.{trichotomy}
use Rattle.tree.proofs.PastLaws.{above_or_not, past_low}
use Rattle.walk.specs.Turns.{Agree, flagged, tree_at}

module _ (depths : List ℕ) (left_out : ℕ → Bool) where
  -- all trees that begin at row k or later, deeper than the root, are decided
  abbrev pub DecidedFrom : ℕ → ℕ → List Bool → Type 0
  DecidedFrom base k left = (d : ℕ) → base < d → Agree (flagged left) left_out (forest_from depths k d)

  -- the rows before row k are decided: what decides the others decides the tree
  pub record Decided (root k : ℕ) (left : List Bool) : Type 0 where
    pub rest : (more : List Bool) → ((j : ℕ) → j < k → flagged more j ≡ flagged left j) → DecidedFrom (get_or depths root 0) k more
        → Agree (flagged more) left_out (tree_at depths root)

  -- ---- the root

  module _ (root : ℕ) (left : List Bool) (h : root < length left) where
    -- the root's own answer is stored
    abbrev stored : List Bool
    stored = set left root (left_out root)

    root_is : flagged stored root ≡ left_out root
    root_is = get_or-set_same left root (left_out root) false h

    -- what is behind it needs no answer
    pub root_left_out : (k : ℕ) → root < k → left_out root ≡ true → Decided root k stored
    unfolding Agree
    root_left_out k g e =
        record { rest = λ more same from. let here = same root g ∙ root_is in (here, (λ f. absurd_test (here ∙ e) f), tt) }

    pub root_kept : left_out root ≡ false → Decided root (root + 1) stored
    unfolding Agree
    root_kept e =
        record {
          rest = λ more same from. (
            same root (omega arith) ∙ root_is,
            (λ f. subst (λ (k : ℕ). Agree (flagged more) left_out (forest_from depths k (suc (get_or depths root 0)))) (add-one root) (from (suc (get_or depths root 0)) (omega arith))),
            tt,
          );
        }

  -- ---- one row more

  module _ (root k : ℕ) (left : List Bool) (h : k < length left) (i : k < length depths) (deep : get_or depths root 0 < get_or depths k 0) (s : Decided root k left) where
    abbrev next : List Bool
    next = set left k (left_out k)

    row_is : (more : List Bool) → flagged more k ≡ flagged next k → flagged more k ≡ left_out k
    row_is more e = e ∙ get_or-set_same left k (left_out k) false h

    before : (more : List Bool) (past : ℕ) → k < past → ((j : ℕ) → j < past → flagged more j ≡ flagged next j) → (j : ℕ) → j < k → flagged more j ≡ flagged left j
    before more past g same j l = same j (omega arith) ∙ get_or-set_other left k j (left_out k) false (omega arith)

    -- row k is at the head of the trees at its own depth, stands below those less deep, and ends those deeper
    at_row : (more : List Bool) → flagged more k ≡ left_out k
        → ((d : ℕ) → d ≤ get_or depths k 0 → get_or depths root 0 < d → Agree (flagged more) left_out (forest_from depths (suc k) d))
        → (left_out k ≡ false → Agree (flagged more) left_out (forest_from depths (suc k) (suc (get_or depths k 0))))
        → DecidedFrom (get_or depths root 0) k more
    unfolding Agree
    at_row more here later below d b =
        trichotomy (get_or depths k 0) d
        (λ g. subst (Agree (flagged more) left_out) (sym (forest_deeper depths k d i g)) (later d (omega arith) b))
        (λ e.
        subst (Agree (flagged more) left_out) (sym (forest_here depths k d i e)) (
          here,
          (λ f. subst (λ (x : ℕ). Agree (flagged more) left_out (forest_from depths (suc k) (suc x))) e (below (sym here ∙ f))),
          later d (omega (arith, e)) b,
        ))
        (λ g. subst (Agree (flagged more) left_out) (sym (forest_less depths k d i g)) tt)

    pub decided_kept : left_out k ≡ false → Decided root (k + 1) next
    decided_kept e =
        record {
          rest = λ more same from.
              let after : (d : ℕ) → get_or depths root 0 < d → Agree (flagged more) left_out (forest_from depths (suc k) d) =
              λ d b. subst (λ (j : ℕ). Agree (flagged more) left_out (forest_from depths j d)) (add-one k) (from d b) in
              s.rest more (before more (k + 1) (omega arith) same)
              (at_row more (row_is more (same k (omega arith))) (λ d l b. after d b) (λ f. after (suc (get_or depths k 0)) (omega (arith, deep))));
        }

    -- what stands below a row that is left out is passed over
    abbrev past : ℕ
    past = past_from (get_or depths k 0) (k + 1) (drop (k + 1) depths)

    pub decided_left_out : left_out k ≡ true → Decided root past next
    decided_left_out e =
        let far : k < past = omega (arith, past_low (get_or depths k 0) (k + 1) (drop (k + 1) depths)) in
        record {
          rest = λ more same from.
              s.rest more (before more past far same)
              (at_row more (row_is more (same k far))
              (λ d l b.
              subst (λ (j : ℕ). Agree (flagged more) left_out (forest_from depths j d)) (add-one k)
              (subst (Agree (flagged more) left_out) (sym (forest_skip depths (get_or depths k 0) d (k + 1) l)) (from d b)))
              (λ f. absurd_test e f));
        }

  -- ---- no row of the tree is left
  pub decided_all : (root k : ℕ) (left : List Bool) → (k < length depths → get_or depths k 0 ≤ get_or depths root 0) → Decided root k left → Agree (flagged left) left_out (tree_at depths root)
  unfolding Agree
  decided_all root k left low s =
      s.rest left (λ j h. refl)
      (λ d b.
      above_or_not (length depths) k
      (λ h. subst (Agree (flagged left) left_out) (sym (forest_less depths k d h (omega (arith, low h)))) tt)
      (λ h. subst (Agree (flagged left) left_out) (sym (forest_done depths k d h)) tt))
