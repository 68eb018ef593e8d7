-- `begins` meets its contract.
use mathlib.Core.Path.{sym, ap, ◌∙◌}
use Prim.Native.Nat.{ℕ}
use native.Mathlib.Omega.{arith}
use Rattle.byte_regex.specs.Joined.{joined}
use Rattle.byte_regex.specs.Meaning.{holds}
use Rattle.patterns.specs.Steps.{all_steps}
use Rattle.patterns.specs.Numbers.{number_of}
use Rattle.patterns.proofs.NumberLaws.{number_lt}
use Rattle.patterns.proofs.StartLaws.{table_long, table_is, table_holds, start_lt}
use Rattle.patterns.proofs.SearchLaws.{cannot_begin}
use Rattle.patterns.proofs.begins.Goals as goal

pub run-requires : goal.run-requires
run-requires c =
    let f = c.requires in
    let e = c.lent_steps.ensures in
    (omega (arith, start_lt _ (number_lt c.args.pattern), f.0, table_long e), omega (arith, f.1), f.2, table_is e)

pub returns-then-has : goal.returns-then-has
returns-then-has c =
    let a = c.args in
    c.run.ensures ∙ table_holds c.lent_steps.ensures a.first (joined a.class.now a.id.now) a.at

pub returns-else-has : goal.returns-else-has
returns-else-has c =
    let a = c.args in
    let f = c.requires in
    c.if-has.false ∙ cannot_begin c.beginning.result (number_of a.pattern) (joined a.class.now a.id.now) a.at (number_lt a.pattern) c.beginning.ensures (sym c.has.ensures ∙ c.if-has.false)
    ∙ ap (λ (i : ℕ). holds all_steps i (joined a.class.now a.id.now) a.at) (sym f.0)
