-- `list_of` meets its contract.
use native.Mathlib.Omega.{arith}
use Rattle.marking.proofs.NameLaws.{short_list}
use Rattle.marking.proofs.names.list_of.Goals as goal

pub returns-then-name-le7 : goal.returns-then-name-le7
returns-then-name-le7 c =
    short_list c.args.name.now
    (λ i. omega (arith, c.type_inv.name i))
    c.if-name-le7.true c.list_of_seven.ensures c.pack.ensures
