-- A rule at each number of a run, by one test that is computed over the run.
use mathlib.Core.Path.{◌≡◌, sym, ap, ◌∙◌}
use mathlib.Core.Bool.{Bool, true, ◌&&◌}
use Prim.Native.Nat.{ℕ, zero, suc, ◌+◌, ◌≤◌, ◌<◌}
use native.Mathlib.Omega.{arith}
use lib.Dec.{eqb}
use borrow.Author.Tests.{eqb-true, eqb-false}
use Rattle.common.proofs.Choice.{by_test, and_parts}

-- the test passes at n numbers from `low` on
abbrev pub every : (ℕ → Bool) → ℕ → ℕ → Bool
every test low zero = true
every test low (suc n) = test low && every test (suc low) n

pub every_at : (test : ℕ → Bool) (low n : ℕ) → every test low n ≡ true → (x : ℕ) → low ≤ x → x < low + n → test x ≡ true
every_at test low zero t x h k = absurd (omega arith)
every_at test low (suc n) t x h k =
    let p = and_parts (test low) (every test (suc low) n) t in
    let rest = every_at test (suc low) n p.1 x in
    by_test (eqb low x)
    (λ e. ap test (sym (eqb-true low x e)) ∙ p.0)
    (λ e. rest (omega (arith, eqb-false low x e)) (omega arith))
