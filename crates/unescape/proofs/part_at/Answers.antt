-- `part_at` meets its contract.
use mathlib.Core.Path.{◌∙◌}
use Rattle.common.specs.Bytes.{codes}
use Rattle.unescape.proofs.StartsLaws.{part_ampersand, part_quote, part_less, part_greater, part_itself, starts_from}
use Rattle.unescape.proofs.part_at.Goals as goal

pub returns-then-starts_with : goal.returns-then-starts_with
unfolding codes
returns-then-starts_with c =
    let is = starts_from c.args.s.now c.args.at in
    part_ampersand _
    (c.starts_with.ensures.value ∙ is (codes "&amp;")) c.if-starts_with.true

pub returns-then-starts_with-2 : goal.returns-then-starts_with-2
unfolding codes
returns-then-starts_with-2 c =
    let is = starts_from c.args.s.now c.args.at in
    part_quote _
    (c.starts_with.ensures.value ∙ is (codes "&amp;")) c.if-starts_with.false
    (c.starts_with-2.ensures.value ∙ is (codes "&quot;")) c.if-starts_with-2.true

pub returns-then-starts_with-3 : goal.returns-then-starts_with-3
unfolding codes
returns-then-starts_with-3 c =
    let is = starts_from c.args.s.now c.args.at in
    part_less _
    (c.starts_with.ensures.value ∙ is (codes "&amp;")) c.if-starts_with.false
    (c.starts_with-2.ensures.value ∙ is (codes "&quot;")) c.if-starts_with-2.false
    (c.starts_with-3.ensures.value ∙ is (codes "&lt;")) c.if-starts_with-3.true

pub returns-then-starts_with-4 : goal.returns-then-starts_with-4
unfolding codes
returns-then-starts_with-4 c =
    let is = starts_from c.args.s.now c.args.at in
    part_greater _
    (c.starts_with.ensures.value ∙ is (codes "&amp;")) c.if-starts_with.false
    (c.starts_with-2.ensures.value ∙ is (codes "&quot;")) c.if-starts_with-2.false
    (c.starts_with-3.ensures.value ∙ is (codes "&lt;")) c.if-starts_with-3.false
    (c.starts_with-4.ensures.value ∙ is (codes "&gt;")) c.if-starts_with-4.true

pub returns : goal.returns
unfolding codes
returns c =
    let is = starts_from c.args.s.now c.args.at in
    part_itself _
    (c.starts_with.ensures.value ∙ is (codes "&amp;")) c.if-starts_with.false
    (c.starts_with-2.ensures.value ∙ is (codes "&quot;")) c.if-starts_with-2.false
    (c.starts_with-3.ensures.value ∙ is (codes "&lt;")) c.if-starts_with-3.false
    (c.starts_with-4.ensures.value ∙ is (codes "&gt;")) c.if-starts_with-4.false
