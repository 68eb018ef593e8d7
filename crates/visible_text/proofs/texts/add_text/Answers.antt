-- `add_text` meets its contract.
use mathlib.Core.Path.{sym, ◌∙◌}
use native.Mathlib.Omega.{arith}
use Rattle.common.proofs.Parts.{part_from}
use Rattle.writer.proofs.DoesLaws.{does_by, ready_by}
use Rattle.visible_text.proofs.TextLaws.{adds_trimmed, adds_whole}
use Rattle.visible_text.proofs.texts.add_text.Goals as goal

pub push_collapsed-requires : goal.push_collapsed-requires
push_collapsed-requires c =
    let value = c.args.value.now in
    ready_by c.requires
    (adds_trimmed value c.ends_blank.ensures
    (λ k. omega (arith, c.type_inv.value k))
    c.if-ends_blank.true
    (part_from value c.leading-from.result ∙ c.leading-from.ensures.1))

pub returns-then-ends_blank : goal.returns-then-ends_blank
returns-then-ends_blank c =
    let value = c.args.value.now in
    does_by c.push_collapsed.ensures
    (λ under o h.
    sym (adds_trimmed value c.ends_blank.ensures
    (λ k. omega (arith, c.type_inv.value k))
    c.if-ends_blank.true
    (part_from value c.leading-from.result ∙
    c.leading-from.ensures.1)
    under o h))

pub push_collapsed-requires-2 : goal.push_collapsed-requires-2
push_collapsed-requires-2 c = ready_by c.requires
    (adds_whole _ c.ends_blank.ensures c.if-ends_blank.false)

pub returns : goal.returns
returns c =
    does_by c.push_collapsed-2.ensures
    (λ under o h. sym (adds_whole _ c.ends_blank.ensures
    c.if-ends_blank.false under o h))
