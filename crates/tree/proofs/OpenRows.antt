-- A stack of open rows: how many it holds, and one more or less.
use mathlib.Core.Path.{◌≡◌, refl, ap, ap₂}
use mathlib.Core.List.{List, ◌∷◌}
use Prim.Native.Nat.{ℕ, zero, suc, ◌≤◌, ◌<◌}
use native.Mathlib.Omega.{arith}
use lib.ListN.{length, get_or, set}
use lib.Seq.{get_or-set_same, get_or-set_other}
use Rattle.tree.specs.Rows.{open_rows}

pub open_length : (stack : List ℕ) (n : ℕ) → length (open_rows stack n) ≡ n
unfolding open_rows
open_length stack zero = refl
open_length stack (suc n) = ap suc (open_length stack n)

-- a store behind them changes none
open_kept : (stack : List ℕ) (at n k : ℕ) → n ≤ at → open_rows (set stack at k) n ≡ open_rows stack n
unfolding open_rows
open_kept stack at zero k h = refl
open_kept stack at (suc n) k h = ap₂ (λ (i : ℕ) (l : List ℕ). i ∷ l) (get_or-set_other stack at n k 0 (omega arith)) (open_kept stack at n k (omega arith))

pub open_more : (stack : List ℕ) (n k : ℕ) → n < length stack → open_rows (set stack n k) (suc n) ≡ k ∷ open_rows stack n
unfolding open_rows
open_more stack n k h = ap₂ (λ (i : ℕ) (l : List ℕ). i ∷ l) (get_or-set_same stack n k 0 h) (open_kept stack n n k (omega arith))

pub open_less : (stack : List ℕ) (n : ℕ) → open_rows stack (suc n) ≡ get_or stack n 0 ∷ open_rows stack n
unfolding open_rows
open_less stack n = refl
