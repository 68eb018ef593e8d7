-- `is_new` meets its contract.
use Rattle.std.proofs.Common.{◌∙◌, sym, eqb-true, ne_eqb}
use Rattle.std.proofs.lemmas.Bool.{eqb-false}
use Rattle.common.proofs.Choice.{absurd_test}
use Rattle.marking.proofs.MarkingRows.{new_other, new_marked, new_named}
use Rattle.marking.proofs.is_new.Goals.{then-number_at-eq1, else-number_at-eq1}
use Rattle.marking.proofs.is_new.Goals as goal

pub returns-then-number_at-eq0 : goal.returns-then-number_at-eq0
returns-then-number_at-eq0 c =
    elim c.if-number_at-eq1.branch [
      | then-number_at-eq1 w ↦ new_named _ _ _ _ _ c.number_at.ensures w.if-number_at-eq1.true w.number_at-then-number_at-eq1.ensures
          (eqb-true _ 0 (sym w.value-is ∙ c.if-number_at-eq0.true)) c.number_at-then-number_at-eq0.ensures c.number_at-then-number_at-eq0-2.ensures c.part.ensures c.is_skip_name.ensures
      | else-number_at-eq1 w ↦ absurd_test c.if-number_at-eq0.true (w.value-is ∙ ne_eqb _ _ w.if-number_at-eq1.false)
    ]

pub returns-else-number_at-eq0 : goal.returns-else-number_at-eq0
returns-else-number_at-eq0 c =
    elim c.if-number_at-eq1.branch [
      | then-number_at-eq1 w ↦ c.if-number_at-eq0.false ∙ new_marked _ _ _ _ _ w.number_at-then-number_at-eq1.ensures (eqb-false _ 0 (sym w.value-is ∙ c.if-number_at-eq0.false))
      | else-number_at-eq1 w ↦ w.value-is ∙ ne_eqb _ _ w.if-number_at-eq1.false ∙ new_other _ _ _ _ _ c.number_at.ensures w.if-number_at-eq1.false
    ]
