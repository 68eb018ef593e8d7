-- `matches` meets its contract.
use mathlib.Core.Path.{ap, ◌∙◌}
use Prim.Native.Nat.{ℕ}
use native.Mathlib.Omega.{arith}
use Rattle.patterns.specs.Match.{matches_of}
use Rattle.patterns.proofs.AnswerLaws.{error_is, answer_none, answer_some}
use Rattle.patterns.proofs.NumberLaws.{number_lt}
use Rattle.patterns.proofs.matches.Goals as goal

pub returns-in_err-try_from : goal.returns-in_err-try_from
returns-in_err-try_from c =
    let e = c.in_err-try_from.ensures in
    answer_none c.args.pattern c.args.s.now (error_is c.from_residual.result c.in_err-try_from.field-0.0 c.from_residual.ensures.1) e.0 e.1

pub returns : goal.returns
returns c =
    let e = c.in_ok-try_from.ensures in
    answer_some c.args.pattern c.args.s.now (omega (arith, e, number_lt c.in_ok-try_from.field-0)) _ (c.search.ensures ∙ ap (λ (n : ℕ). matches_of n c.args.s.now) e)
