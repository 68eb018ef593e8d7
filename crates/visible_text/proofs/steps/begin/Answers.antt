-- `begin` meets its contract.
use mathlib.Core.Path.{sym, ◌∙◌}
use Rattle.tree.proofs.PageLaws.{value_fits}
use Rattle.visible_text.proofs.LeftLaws.{ready_as, does_as}
use Rattle.visible_text.proofs.RowLaws.{begins_text, begins_by}
use Rattle.visible_text.proofs.StepLaws.{begins_pre, begins_br, begins_other, pre_element}
use Rattle.visible_text.proofs.steps.begin.Goals as goal

pub part-requires : goal.part-requires
part-requires c =
    let p = c.requires.accepted in
    (p.0.lined, value_fits _ _ _ p.2 p.0 p.1)

pub add_text-requires : goal.add_text-requires
add_text-requires c =
    let p = c.requires in
    ready_as (begins_text _ _ _ p.accepted.2 _ c.if-r-eq3.true c.part.ensures) p.ready_by

pub returns-then-r-eq3 : goal.returns-then-r-eq3
returns-then-r-eq3 c =
    let p = c.requires in
    does_as (begins_text _ _ _ p.accepted.2 _ c.if-r-eq3.true
    c.part.ensures) c.add_text.ensures

pub push_content-requires : goal.push_content-requires
push_content-requires c =
    let p = c.requires in
    let k = c.in-3.is in
    record { accepted = (p.accepted.0, p.accepted.1, pre_element _ _ (sym p.accepted.3 ∙ k)); ready_by = ready_as (λ o. begins_by _ _ _ p.accepted.2 _ p.accepted.3 c.if-r-eq3.false o ∙ begins_pre _ _ k o) p.ready_by }

pub push-requires : goal.push-requires
push-requires c =
    let p = c.requires in
    ready_as (λ o. begins_by _ _ _ p.accepted.2 _ p.accepted.3 c.if-r-eq3.false o ∙ begins_br _ _ c.in-4.is o)
    p.ready_by

pub insert_block-requires : goal.insert_block-requires
insert_block-requires c =
    let p = c.requires in
    let n = c.in_default.in_default-own.rest in
    ready_as (λ o. begins_by _ _ _ p.accepted.2 _ p.accepted.3 c.if-r-eq3.false o ∙ begins_other _ _ n.0.1 n.1 o) p.ready_by

pub returns-in-3 : goal.returns-in-3
returns-in-3 c =
    let p = c.requires in
    let n = c.if-r-eq3.false in
    does_as (λ o. begins_by _ _ _ p.accepted.2 _ p.accepted.3 n o ∙ begins_pre _ _ c.in-3.is o)
    c.push_content.ensures

pub returns-in-4 : goal.returns-in-4
returns-in-4 c =
    let p = c.requires in
    let n = c.if-r-eq3.false in
    does_as (λ o. begins_by _ _ _ p.accepted.2 _ p.accepted.3 n o ∙ begins_br _ _ c.in-4.is o)
    c.push.ensures

pub returns-in_default : goal.returns-in_default
returns-in_default c =
    let p = c.requires in
    let n = c.if-r-eq3.false in
    let m = c.in_default.in_default-own.rest in
    does_as (λ o. begins_by _ _ _ p.accepted.2 _ p.accepted.3 n o ∙ begins_other _ _ m.0.1 m.1 o)
    c.insert_block.ensures
