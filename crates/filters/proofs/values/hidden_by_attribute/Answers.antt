-- `values::hidden_by_attribute` meets its contract.
use mathlib.Core.Bool.{◌||◌}
use mathlib.Core.Path.{◌≡◌, refl, ◌∙◌}
use native.Mathlib.Omega.{arith}
use Rattle.common.specs.Bytes.{codes, same}
use Rattle.tags.specs.Words.{words, first_word, other_words, one_of}
use Rattle.filters.specs.Filters.{hidden_by_attribute, has_attr, attr_among}
use Rattle.filters.specs.Numbers as number
use Rattle.common.proofs.TestLaws.{or_no}
use Rattle.filters.proofs.ValueLaws.{there_is, among_held, so_far, joined_five}
use Rattle.filters.proofs.values.hidden_by_attribute.Goals.{then-is_there, else-is_there, then-among, else-among, then-among-2, else-among-2}
use Rattle.filters.proofs.values.hidden_by_attribute.Goals as goal

pub among-requires : goal.among-requires
unfolding words first_word other_words codes one_of same
among-requires c = (c.requires.0, c.requires.1, omega arith, refl)

pub among-requires-else-among : goal.among-requires-else-among
unfolding words first_word other_words codes one_of same
among-requires-else-among c = (c.requires.0, c.requires.1, omega arith, refl)

pub among-requires-else-among-2 : goal.among-requires-else-among-2
unfolding words first_word other_words codes one_of same
among-requires-else-among-2 c = (c.requires.0, c.requires.1, omega arith, refl)

pub among-requires-else-among-3 : goal.among-requires-else-among-3
unfolding words first_word other_words codes one_of same
among-requires-else-among-3 c = (c.requires.0, c.requires.1, omega arith, refl)

pub returns-then-among-3 : goal.returns-then-among-3
unfolding hidden_by_attribute words codes
returns-then-among-3 c =
    let a = c.args in
    λ attributes g.
    let hidden : c.is_there.result ≡ has_attr attributes "hidden" = there_is a.s.now a.l a.slots.now.spans number.hidden g.hidden c.is_there.ensures in
    let two : c.if-is_there.value ≡ (c.is_there.result || attr_among attributes "rel" "author icon search prev next tag") =
    elim c.if-is_there.branch [
      | then-is_there w ↦ so_far _ w.value-is w.if-is_there.true
      | else-is_there w ↦ or_no _ w.if-is_there.false (w.value-is ∙ among_held g.rel (words "author icon search prev next tag") w.among.ensures)
    ]
    in
    let three : c.if-among.value ≡ (c.if-is_there.value || attr_among attributes "itemprop" "datePublished author url") =
    elim c.if-among.branch [
      | then-among w ↦ so_far _ w.value-is w.if-among.true
      | else-among w ↦ or_no _ w.if-among.false (w.value-is ∙ among_held g.itemprop (words "datePublished author url") w.among-else-among.ensures)
    ]
    in
    let four : c.if-among-2.value ≡ (c.if-among.value || attr_among attributes "aria-hidden" "true") =
    elim c.if-among-2.branch [
      | then-among-2 w ↦ so_far _ w.value-is w.if-among-2.true
      | else-among-2 w ↦ or_no _ w.if-among-2.false (w.value-is ∙ among_held g.aria_hidden (words "true") w.among-else-among-2.ensures)
    ]
    in
    joined_five _ _ _ _ _ hidden two three four (so_far _ refl c.if-among-3.true)

pub returns-else-among-3 : goal.returns-else-among-3
unfolding hidden_by_attribute words codes
returns-else-among-3 c =
    let a = c.args in
    λ attributes g.
    let hidden : c.is_there.result ≡ has_attr attributes "hidden" = there_is a.s.now a.l a.slots.now.spans number.hidden g.hidden c.is_there.ensures in
    let two : c.if-is_there.value ≡ (c.is_there.result || attr_among attributes "rel" "author icon search prev next tag") =
    elim c.if-is_there.branch [
      | then-is_there w ↦ so_far _ w.value-is w.if-is_there.true
      | else-is_there w ↦ or_no _ w.if-is_there.false (w.value-is ∙ among_held g.rel (words "author icon search prev next tag") w.among.ensures)
    ]
    in
    let three : c.if-among.value ≡ (c.if-is_there.value || attr_among attributes "itemprop" "datePublished author url") =
    elim c.if-among.branch [
      | then-among w ↦ so_far _ w.value-is w.if-among.true
      | else-among w ↦ or_no _ w.if-among.false (w.value-is ∙ among_held g.itemprop (words "datePublished author url") w.among-else-among.ensures)
    ]
    in
    let four : c.if-among-2.value ≡ (c.if-among.value || attr_among attributes "aria-hidden" "true") =
    elim c.if-among-2.branch [
      | then-among-2 w ↦ so_far _ w.value-is w.if-among-2.true
      | else-among-2 w ↦ or_no _ w.if-among-2.false (w.value-is ∙ among_held g.aria_hidden (words "true") w.among-else-among-2.ensures)
    ]
    in
    joined_five _ _ _ _ _ hidden two three four (or_no _ c.if-among-3.false (among_held g.aria_expanded (words "false") c.among-else-among-3.ensures))
