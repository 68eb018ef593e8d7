-- `tag_of_long` meets its contract.
use mathlib.Core.Path.{refl, sym, ◌∙◌}
use Rattle.common.specs.Bytes.{codes, same}
use Rattle.tags.specs.Tags.{tag_names, tag_of}
use Rattle.tags.specs.Words.{words, first_word, other_words, number_from}
use Rattle.tags.proofs.PackLaws.{tag_at, long_none}
use Rattle.tags.proofs.WordLaws.{none_of, none_of_none}
use Rattle.tags.proofs.tag_of_long.Goals as goal

pub returns-then-same : goal.returns-then-same
unfolding tag_of tag_names number_from words first_word other_words codes same
returns-then-same c = tag_at c.args.name.now (codes "textarea") (sym c.same.ensures ∙ c.if-same.true) refl

pub returns-then-same-2 : goal.returns-then-same-2
unfolding tag_of tag_names number_from words first_word other_words codes same
returns-then-same-2 c = tag_at c.args.name.now (codes "fieldset") (sym c.same-2.ensures ∙ c.if-same-2.true) refl

pub returns-then-same-3 : goal.returns-then-same-3
unfolding tag_of tag_names number_from words first_word other_words codes same
returns-then-same-3 c = tag_at c.args.name.now (codes "blockquote") (sym c.same-3.ensures ∙ c.if-same-3.true) refl

pub returns-then-same-4 : goal.returns-then-same-4
unfolding tag_of tag_names number_from words first_word other_words codes same
returns-then-same-4 c = tag_at c.args.name.now (codes "figcaption") (sym c.same-4.ensures ∙ c.if-same-4.true) refl

pub returns : goal.returns
unfolding codes
returns c =
    let s = c.args.name.now in
    long_none s c.requires
    (none_of s _ _ (sym c.same.ensures ∙ c.if-same.false)
    (none_of s _ _ (sym c.same-2.ensures ∙ c.if-same-2.false)
    (none_of s _ _ (sym c.same-3.ensures ∙ c.if-same-3.false)
    (none_of s _ _ (sym c.same-4.ensures ∙ c.if-same-4.false)
    (none_of_none s)))))
