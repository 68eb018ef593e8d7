-- `step_of_long` meets its contract.
use mathlib.Core.Path.{refl, sym, ◌∙◌}
use Rattle.common.specs.Bytes.{codes, same}
use Rattle.tags.specs.Words.{words, first_word, other_words, one_of}
use Rattle.tags.proofs.WordLaws.{none_of, none_of_none}
use Rattle.visible_text.specs.Inner.{step_of}
use Rattle.visible_text.specs.VisibleText.{is_block_element, is_silent}
use Rattle.visible_text.proofs.NameLaws.{step_at, long_none}
use Rattle.visible_text.proofs.names.step_of_long.Goals.{then-same-2-via-then-same-2, then-same-2-via-else-same-2+then-same-3, then-same-2-via-else-same-2+else-same-3+then-same-4}
use Rattle.visible_text.proofs.names.step_of_long.Goals as goal

pub returns-then-same : goal.returns-then-same
unfolding step_of is_silent is_block_element one_of words first_word other_words codes same
returns-then-same c = step_at c.args.name.now (codes "noscript") (sym c.same.ensures ∙ c.if-same.true)
    refl

pub returns-then-same-2 : goal.returns-then-same-2
unfolding step_of is_silent is_block_element one_of words first_word other_words codes same
returns-then-same-2 c =
    let s = c.args.name.now in
    elim c.then-same-2.branch [
      | then-same-2-via-then-same-2 w ↦ step_at s (codes "fieldset") (sym c.same-2.ensures ∙ w.if-same-2.true) refl
      | then-same-2-via-else-same-2+then-same-3 w ↦ step_at s (codes "blockquote") (sym w.same-else-same-2.ensures ∙ w.if-same-3.true) refl
      | then-same-2-via-else-same-2+else-same-3+then-same-4 w ↦ step_at s (codes "figcaption") (sym w.same-else-same-3.ensures ∙ w.if-same-4.true) refl
    ]

pub returns : goal.returns
unfolding codes
returns c =
    let s = c.args.name.now in
    long_none s c.requires
    (none_of s _ _ (sym c.same.ensures ∙ c.if-same.false)
    (none_of s _ _ (sym c.same-2.ensures ∙ c.if-same-2.false)
    (none_of s _ _ (sym c.same-else-same-2.ensures ∙ c.if-same-3.false)
    (none_of s _ _ (sym c.same-else-same-3.ensures ∙ c.if-same-4.false)
    (none_of_none s)))))
