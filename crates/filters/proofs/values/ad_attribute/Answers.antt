-- `values::ad_attribute` meets its contract.
use mathlib.Core.Path.{sym, ◌∙◌}
use Rattle.common.proofs.Choice.{absurd_test}
use Rattle.filters.specs.Filters.{ad_attribute}
use Rattle.filters.specs.Numbers as number
use Rattle.common.proofs.TestLaws.{or_yes, or_no}
use Rattle.filters.proofs.ValueLaws.{there_is}
use Rattle.filters.proofs.values.ad_attribute.Goals.{then-is_there, else-is_there}
use Rattle.filters.proofs.values.ad_attribute.Goals as goal

pub returns-then-is_there-2 : goal.returns-then-is_there-2
unfolding ad_attribute
returns-then-is_there-2 c =
    let slots = c.args.slots.now.spans in
    λ s l attributes g.
    let a = there_is s l slots number.data_ad g.data_ad c.is_there.ensures in
    elim c.if-is_there.branch [
      | then-is_there w ↦ w.value-is ∙ w.if-is_there.true ∙ or_yes _ (sym a ∙ w.if-is_there.true)
      | else-is_there w ↦
          let b = there_is s l slots number.data_advertisement g.data_advertisement w.is_there-else-is_there.ensures in
          or_no _ (sym a ∙ w.if-is_there.false) (c.if-is_there-2.true ∙ or_yes _ (sym b ∙ sym w.value-is ∙ c.if-is_there-2.true))
    ]

pub returns-else-is_there-2 : goal.returns-else-is_there-2
unfolding ad_attribute
returns-else-is_there-2 c =
    let slots = c.args.slots.now.spans in
    λ s l attributes g.
    let a = there_is s l slots number.data_ad g.data_ad c.is_there.ensures in
    let last = there_is s l slots number.data_text_ad g.data_text_ad c.is_there-else-is_there-2.ensures in
    elim c.if-is_there.branch [
      | then-is_there w ↦ absurd_test w.if-is_there.true (sym w.value-is ∙ c.if-is_there-2.false)
      | else-is_there w ↦
          let b = there_is s l slots number.data_advertisement g.data_advertisement w.is_there-else-is_there.ensures in
          or_no _ (sym a ∙ w.if-is_there.false) (or_no _ (sym b ∙ sym w.value-is ∙ c.if-is_there-2.false) last)
    ]
