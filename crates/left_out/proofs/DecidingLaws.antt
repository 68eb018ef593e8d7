-- The rows of a tree are decided one after the other; those behind the last one are as they were noted.
use mathlib.Core.Path.{◌≡◌, refl, sym, ap, ◌∙◌}
use mathlib.Core.Bool.{Bool, true, false}
use mathlib.Core.List.{List}
use Prim.Native.Nat.{ℕ, ◌+◌, ◌≤◌, ◌<◌}
use native.Mathlib.Omega.{arith}
use lib.ListN.{length, get_or, set, drop, length-set}
use lib.Seq.{get_or-set_other}
use Rattle.common.proofs.Choice.{by_cond}
use Rattle.tree.specs.Rows.{past_from}
use Rattle.tree.proofs.PastLaws.{past_low}
use Rattle.walk.specs.Turns.{Agree, flagged, tree_at}
use Rattle.walk.proofs.DecidedLaws.{Decided, root_left_out, root_kept, decided_kept, decided_left_out, decided_all}
use Rattle.left_out.specs.LeftOut.{next_row}

-- ---- one row: what is stored, and the next row

module _ (column : List ℕ) (left : List Bool) (k : ℕ) {out x : Bool} (e : out ≡ x) {next : ℕ} where
  pub row_left_out : out ≡ true → next ≡ past_from (get_or column k 0) (k + 1) (drop (k + 1) column) → (set left k out ≡ set left k x) × (next ≡ next_row column x k)
  row_left_out t n = (ap (set left k) e, n ∙ rw (sym e ∙ t))

  pub row_kept : out ≡ false → next ≡ k + 1 → (set left k out ≡ set left k x) × (next ≡ next_row column x k)
  row_kept t n = (ap (set left k) e, n ∙ rw (sym e ∙ t))

pub next_later : (column : List ℕ) (out : Bool) (k : ℕ) {next : ℕ} → next ≡ next_row column out k → k < next
next_later column out k e =
    rw e (by_cond (λ (n : ℕ). k < n) out (λ _. omega (arith, past_low (get_or column k 0) (k + 1) (drop (k + 1) column))) (λ _. omega arith))

-- ---- the tree

module _ (column : List ℕ) (left_out marked : ℕ → Bool) (root : ℕ) where
  pub record Deciding (start left : List Bool) (k : ℕ) : Type 0 where
    pub decided : Decided column left_out root k left
    pub ahead : (j : ℕ) → k ≤ j → j < length column → flagged left j ≡ marked j
    pub long : length column ≤ length left
    pub same : length left ≡ length start

  module _ (before : List Bool) (k : ℕ) {after : List Bool} {next : ℕ} (stored : after ≡ set before k (left_out k)) (next_is : next ≡ next_row column (left_out k) k) where
    still : (j : ℕ) → next ≤ j → flagged after j ≡ flagged before j
    still j h = rw stored (get_or-set_other before k j (left_out k) false (omega (arith, next_later column (left_out k) k next_is)))

    stored_same : length after ≡ length before
    stored_same = rw stored (length-set before k (left_out k))

  pub deciding_root : (before : List Bool) {after : List Bool} {next : ℕ} → root < length column → length column ≤ length before → ((j : ℕ) → j < length column → flagged before j ≡ marked j)
      → after ≡ set before root (left_out root) → next ≡ next_row column (left_out root) root → Deciding after after next
  deciding_root before i long noted stored next_is =
      let h : root < length before = omega arith in
      record {
        decided =
            rw (stored, next_is)
            (by_cond (λ (n : ℕ). Decided column left_out root n (set before root (left_out root))) (left_out root)
            (λ e. root_left_out column left_out root before h _ (omega (arith, past_low (get_or column root 0) (root + 1) (drop (root + 1) column))) e)
            (λ e. root_kept column left_out root before h e));
        ahead = λ j l m. still before root stored next_is j l ∙ noted j m;
        long = omega (arith, stored_same before root stored next_is);
        same = refl;
      }

  pub deciding_more : {start before after : List Bool} {k next : ℕ} → Deciding start before k → k < length column → get_or column root 0 < get_or column k 0
      → after ≡ set before k (left_out k) → next ≡ next_row column (left_out k) k → Deciding start after next
  deciding_more {start} {before} {after} {k} g i deep stored next_is =
      let h : k < length before = omega (arith, g.long) in
      record {
        decided =
            rw (stored, next_is)
            (by_cond (λ (n : ℕ). Decided column left_out root n (set before k (left_out k))) (left_out k)
            (λ e. decided_left_out column left_out root k before h i deep g.decided e)
            (λ e. decided_kept column left_out root k before h i deep g.decided e));
        ahead = λ j l m. still before k stored next_is j l ∙ g.ahead j (omega (arith, next_later column (left_out k) k next_is)) m;
        long = omega (arith, g.long, stored_same before k stored next_is);
        same = stored_same before k stored next_is ∙ g.same;
      }

  pub deciding_end : {start left : List Bool} {k : ℕ} → Deciding start left k → (k < length column → get_or column k 0 ≤ get_or column root 0) → Agree (flagged left) left_out (tree_at column root)
  deciding_end {start} {left} {k} g low = decided_all column left_out root k left low g.decided
