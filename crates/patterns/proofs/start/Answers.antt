-- `start` meets its contract.
use mathlib.Core.Path.{ap, ◌∙◌}
use Prim.Native.Nat.{ℕ}
use native.Mathlib.Omega.{arith}
use lib.ListN.{get_or}
use Rattle.patterns.specs.Numbers.{number_of}
use Rattle.patterns.proofs.NumberLaws.{number_lt}
use Rattle.patterns.proofs.StepNumbers.{start_numbers, start_at}
use Rattle.patterns.proofs.start.Goals as goal

pub returns : goal.returns
unfolding start_numbers
returns c =
    let n = number_of c.args.pattern in
    ap (λ (k : ℕ). get_or start_numbers k 0) c.number.ensures ∙ start_at n (omega (arith, number_lt c.args.pattern))
