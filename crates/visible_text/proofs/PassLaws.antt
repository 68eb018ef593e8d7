-- The loop of the walk: where it stands, one row more, and its end.
use mathlib.Core.Path.{◌≡◌, refl, sym, ap, ◌∙◌}
use mathlib.Core.Bool.{cond}
use mathlib.Core.List.{List, ◌∷◌}
use Prim.Native.Nat.{ℕ, suc, ◌+◌, ◌-◌, ◌≤◌, ◌<◌}
use native.Mathlib.Omega.{arith}
use lib.Dec.{leb}
use lib.ListN.{length, get_or, set, length-set}
use Rattle.common.specs.Bytes.{Bytes}
use Rattle.common.proofs.Choice.{by_cond}
use Rattle.sheet.specs.Accepted.{Accepted}
use Rattle.sheet.specs.Layout.{most_depth, row_at, depths}
use Rattle.sheet.specs.declared.line.Layout.{Layout}
use Rattle.sheet.specs.declared.line.Row.{Row}
use Rattle.tree.specs.Page.{node_at}
use Rattle.tree.specs.Rows.{children_of, past_of, open_rows}
use Rattle.tree.proofs.Column.{below_length, depth_is, depth_small}
use Rattle.tree.proofs.OpenRows.{open_length, open_more}
use Rattle.tree.proofs.PastLaws.{past_of_low, past_of_high, past_at}
use Rattle.tree.proofs.SheetColumn.{rows, well_formed}
use Rattle.writer.specs.Out.{Out}
use Rattle.visible_text.specs.Inner.{step_at, ends_of, remaining}
use Rattle.visible_text.specs.VisibleText.{begin, walk}
use Rattle.visible_text.proofs.RemainingLaws.{remaining_ends, remaining_begins, remaining_done, remaining_starts}

-- ---- at first all is left

pub starts : (s : Bytes) (l : Layout) {row base : ℕ} (steps : List ℕ) → row < l.nodes → base ≡ (row_at s l row).depth
    → (o : Out) → remaining (node_at s l) (depths s l) base (row + 1) (open_rows steps 0) o ≡ walk (node_at s l) (children_of (depths s l) row)
    o
unfolding open_rows
starts s l {row} steps h e o =
    let one : row + 1 ≡ suc row = omega arith in
    rw (depth_is s l row h e, one) (remaining_starts (node_at s l) (depths s l) row o)

-- ---- before row k, with n rows open below a row at depth `base`

pub record Stands (s : Bytes) (l : Layout) (base : ℕ) (steps₀ steps : List ℕ) (n k : ℕ) : Type 0 where
  pub inside : k ≤ l.nodes
  pub room : n ≤ length steps
  pub long : length steps ≡ length steps₀
  pub next : k < l.nodes → get_or (depths s l) k 0 ≤ suc (base + n)

module _ {s : Bytes} {l : Layout} (a : Accepted s l) where
  pub stands_first : {row base : ℕ} (steps : List ℕ) → row < l.nodes → base ≡ (row_at s l row).depth
      → Stands s l base steps steps 0 (row + 1)
  stands_first {row} {base} steps h e =
      let d = depth_is s l row h e in
      let one : suc row ≡ row + 1 = omega arith in
      record {
        inside = omega arith;
        room = omega arith;
        long = refl;
        next = λ g. omega (arith, ap (λ (i : ℕ). get_or (depths s l) i 0) one, (well_formed a).step row (omega (arith, rows a)));
      }

  module _ {base n k : ℕ} {steps₀ steps : List ℕ} (at : Stands s l base steps₀ steps n k) where
    -- no row is left
    pub all_ends : (k < l.nodes → (row_at s l k).depth ≤ base)
        → (o : Out) → remaining (node_at s l) (depths s l) base k (open_rows steps n) o ≡ ends_of steps n (n - 0) o
    all_ends past o =
        let all : n - 0 ≡ n = omega arith in
        remaining_done (node_at s l) (depths s l) base k
        (λ h. let g : k < l.nodes = omega (arith, rows a) in omega (arith, past g, depth_is s l k g refl))
        steps n o
        ∙ ap (λ (j : ℕ). ends_of steps n j o) (sym all)

    module _ (h : k < l.nodes) {r : Row} (r_is : r ≡ row_at s l k) (deep : base < r.depth) (room : most_depth ≤ length steps₀) where
      abbrev d : ℕ
      d = r.depth - base

      depth_here : r.depth ≡ get_or (depths s l) k 0
      depth_here = depth_is s l k h (ap (λ (x : Row). x.depth) r_is)

      below : get_or (depths s l) k 0 ≡ base + d
      below = omega (arith, depth_here)

      pub fits : d ≤ length steps
      fits = omega (arith, depth_small s l a k h, ap (λ (x : Row). x.depth) r_is, at.long)

      -- the end steps before it
      pub ends_then : (o : Out) → remaining (node_at s l) (depths s l) base k (open_rows steps n) o
          ≡ remaining (node_at s l) (depths s l) base k (open_rows steps (d - 1)) (ends_of steps n (n - d) o)
      ends_then = remaining_ends (node_at s l) (depths s l) base k d (below_length s l k h) below steps n (omega arith)
          (omega (arith, depth_here, at.next h))

      module _ {step next : ℕ} (step_is : step ≡ step_at (node_at s l) k) (next_is : next ≡ cond (leb step 2) (suc k) (past_of (depths s l) k))
        where
          -- its begin step
          pub begins_then : (o : Out) → remaining (node_at s l) (depths s l) base k (open_rows steps (d - 1)) o
              ≡ remaining (node_at s l) (depths s l) base next (open_rows (set steps (d - 1) step) d)
              (begin (node_at s l) k (children_of (depths s l) k) o)
          begins_then o =
              let up = open_rows steps (d - 1) in
              let one : d ≡ suc (d - 1) = omega arith in
              let opened : open_rows (set steps (d - 1) step) d ≡ step ∷ up =
              ap (open_rows (set steps (d - 1) step)) one ∙ open_more steps (d - 1) step (omega (arith, fits))
              in
              remaining_begins (node_at s l) (depths s l) base k d (below_length s l k h) below up (omega (arith, open_length steps (d - 1))) o
              ∙ rw (opened, next_is, step_is)

          pub goes_on : k < next
          goes_on = rw next_is (by_cond (λ (x : ℕ). k < x) (leb step 2) (λ e. omega arith) (λ e. past_of_low (depths s l) k))

          pub stands_then : Stands s l base steps₀ (set steps (d - 1) step) d next
          stands_then = record {
            inside =
                rw next_is
                (by_cond (λ (x : ℕ). x ≤ l.nodes) (leb step 2) (λ e. omega arith)
                (λ e. omega (arith, past_of_high (depths s l) k (below_length s l k h), rows a)));
            room = omega (arith, length-set steps (d - 1) step, fits);
            long = length-set steps (d - 1) step ∙ at.long;
            next =
                rw next_is
                (by_cond (λ (x : ℕ). x < l.nodes → get_or (depths s l) x 0 ≤ suc (base + d)) (leb step 2)
                (λ e g. omega (arith, (well_formed a).step k (omega (arith, rows a)), below))
                (λ e g. omega (arith, past_at (depths s l) (get_or (depths s l) k 0) (suc k) (omega (arith, rows a)), below)));
          }
