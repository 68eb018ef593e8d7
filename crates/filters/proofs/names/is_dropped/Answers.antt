-- `names::is_dropped` meets its contract.
use mathlib.Core.Path.{sym, ◌∙◌}
use native.Mathlib.Omega.{arith}
use Rattle.common.specs.Bytes.{codes}
use Rattle.common.proofs.Choice.{absurd_test}
use Rattle.common.proofs.TestLaws.{or_yes, or_no}
use Rattle.filters.proofs.NameLaws.{dropped_yes, dropped_no, dropped_other}
use Rattle.filters.proofs.names.is_dropped.Goals.{then-same, else-same}
use Rattle.filters.proofs.names.is_dropped.Goals as goal

pub returns-in-34 : goal.returns-in-34
returns-in-34 c = dropped_yes c.args.name.now c.requires c.in-34.is

pub returns-then-same-2 : goal.returns-then-same-2
unfolding codes
returns-then-same-2 c =
    elim c.if-same.branch [
      | then-same w ↦ c.if-same-2.true ∙ or_yes _ (sym c.same.ensures ∙ w.if-same.true)
      | else-same w ↦ or_no _ (sym c.same.ensures ∙ w.if-same.false) (c.if-same-2.true ∙ or_yes _ (sym w.same-else-same.ensures ∙ sym w.value-is ∙ c.if-same-2.true))
    ]
    ∙ dropped_other c.args.name.now c.requires c.in-0.is

pub returns-else-same-2 : goal.returns-else-same-2
unfolding codes
returns-else-same-2 c =
    elim c.if-same.branch [
      | then-same w ↦ absurd_test w.if-same.true (sym w.value-is ∙ c.if-same-2.false)
      | else-same w ↦ or_no _ (sym c.same.ensures ∙ w.if-same.false) (or_no _ (sym w.same-else-same.ensures ∙ sym w.value-is ∙ c.if-same-2.false) c.same-else-same-2.ensures)
    ]
    ∙ dropped_other c.args.name.now c.requires c.in-0.is

pub returns-in_default : goal.returns-in_default
returns-in_default c = dropped_no c.args.name.now c.requires (λ z. grind arith) (λ z. grind arith) (λ z. grind arith)
