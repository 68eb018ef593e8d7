-- A number in decimal, as `format!("{}", n)` has it.
use Rattle.std.specs.Prelude.{cond, [], ◌∷◌, ◌++◌, ℕ, zero, suc, ◌+◌, ◌/◌, ◌%◌, ltb}
use Rattle.common.specs.Bytes.{Bytes}

-- with enough steps: a digit, or the digits of the tenth part and one more
unfoldable pub digits_in : ℕ → ℕ → Bytes
digits_in zero n = (48 + n) ∷ []
digits_in (suc k) n = let r = digits_in k (n / 10) ++ ((48 + n % 10) ∷ []) in cond (ltb n 10) ((48 + n) ∷ []) r

unfoldable pub digits : ℕ → Bytes
digits n = digits_in n n
