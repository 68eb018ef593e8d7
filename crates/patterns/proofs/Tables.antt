-- A table agrees with a function: a test that is computed, and what it says of each entry.
use mathlib.Core.Path.{◌≡◌, sym, ap, ◌∙◌}
use mathlib.Core.Bool.{Bool, true, false, ◌&&◌}
use mathlib.Core.List.{List, [], ◌∷◌}
use Prim.Native.Nat.{ℕ, zero, suc, ◌+◌, ◌<◌}
use native.Mathlib.Nat.{add-zero, add-suc, suc-add, not-suc-le-zero, le_of_suc-le-suc}
use lib.Dec.{T, eqb, eqb→eq}
use lib.ListN.{get_or}
use Rattle.byte_regex.proofs.MatchLaws.{and_left, and_right}

-- the first n entries are f's values from i on
unfoldable pub agrees : (ℕ → ℕ) → ℕ → ℕ → List ℕ → Bool
agrees f i zero xs = true
agrees f i (suc n) [] = false
agrees f i (suc n) (x ∷ xs) = eqb x (f i) && agrees f (suc i) n xs

pub agrees_at : (f : ℕ → ℕ) (i n : ℕ) (xs : List ℕ) → T (agrees f i n xs) → (k : ℕ) → k < n → get_or xs k 0 ≡ f (i + k)
unfolding agrees
agrees_at f i zero xs t k h = absurd (not-suc-le-zero h)
agrees_at f i (suc n) [] t k h = absurd t
agrees_at f i (suc n) (x ∷ xs) t zero h = eqb→eq x (f i) (and_left (eqb x (f i)) (agrees f (suc i) n xs) t) ∙ ap f (sym (add-zero i))
agrees_at f i (suc n) (x ∷ xs) t (suc k) h =
    agrees_at f (suc i) n xs (and_right (eqb x (f i)) (agrees f (suc i) n xs) t) k (le_of_suc-le-suc h) ∙ ap f (suc-add i k ∙ sym (add-suc i k))
