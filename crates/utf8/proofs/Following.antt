-- What follows each first octet: `follow` at a run of octets, by one computed test of the run.
use mathlib.Core.Path.{◌≡◌, refl}
use mathlib.Core.Bool.{Bool, true, false, ◌&&◌}
use mathlib.Core.List.{List, [], ◌∷◌}
use Prim.Native.Nat.{ℕ, ◌+◌, ◌≤◌, ◌<◌}
use lib.Dec.{eqb}
use borrow.Author.Tests.{eqb-true}
use Rattle.common.proofs.Choice.{and_parts, absurd_test}
use Rattle.common.proofs.Every.{every, every_at}
use Rattle.utf8.specs.Abnf.{Range, %x◌-◌, UTF8_char}
use Rattle.utf8.specs.Valid.{follow}

abbrev same_range : Range → Range → Bool
same_range r q = eqb r.low q.low && eqb r.high q.high

abbrev same_ranges : List Range → List Range → Bool
same_ranges [] [] = true
same_ranges [] (q ∷ qs) = false
same_ranges (r ∷ rs) [] = false
same_ranges (r ∷ rs) (q ∷ qs) = same_range r q && same_ranges rs qs

same_range_law : (r q : Range) → same_range r q ≡ true → r ≡ q
same_range_law r q t =
    let p = and_parts (eqb r.low q.low) (eqb r.high q.high) t in
    λ i. %x (eqb-true r.low q.low p.0 i) - (eqb-true r.high q.high p.1 i)

same_ranges_law : (rs qs : List Range) → same_ranges rs qs ≡ true → rs ≡ qs
same_ranges_law [] [] t = refl
same_ranges_law [] (q ∷ qs) t = absurd_test t refl
same_ranges_law (r ∷ rs) [] t = absurd_test t refl
same_ranges_law (r ∷ rs) (q ∷ qs) t =
    let p = and_parts (same_range r q) (same_ranges rs qs) t in
    λ i. same_range_law r q p.0 i ∷ same_ranges_law rs qs p.1 i

-- the n octets from `low` on have the ranges rs behind them
pub follows : (low n : ℕ) (rs : List Range) → every (λ x. same_ranges rs (follow UTF8_char x)) low n ≡ true → (x : ℕ) → low ≤ x → x < low + n → rs ≡ follow UTF8_char x
follows low n rs t x h k = same_ranges_law rs (follow UTF8_char x) (every_at (λ y. same_ranges rs (follow UTF8_char y)) low n t x h k)
