-- `field::read_number` meets its contract.
use Prim.Native.Nat.{ℕ}
use mathlib.Core.Path.{sym, ap, ◌∙◌}
use lib.ListN.{take, drop}
use Rattle.sheet.specs.Columns.{field_of}
use Rattle.sheet.proofs.field.read_number.Goals as goal

pub returns-then-width-eq8 : goal.returns-then-width-eq8
returns-then-width-eq8 c =
    let a = c.args in
    c.read_eight.ensures ∙ ap (λ (k : ℕ). field_of (take k (drop a.at a.s.now))) (sym c.if-width-eq8.true)
