-- `list_of_long` meets its contract.
use mathlib.Core.Path.{refl, sym, ◌∙◌}
use Rattle.common.specs.Bytes.{codes, same}
use Rattle.tags.specs.Words.{words, first_word, other_words, one_of}
use Rattle.marking.specs.Lists.{list_of}
use Rattle.marking.proofs.NameLaws.{list_at, long_none}
use Rattle.marking.proofs.names.list_of_long.Goals as goal

pub returns-then-same : goal.returns-then-same
unfolding list_of words first_word other_words codes one_of same
returns-then-same c =
    list_at c.args.name.now (codes "template")
    (sym c.same.ensures ∙ c.if-same.true) refl

pub returns-then-same-2 : goal.returns-then-same-2
unfolding list_of words first_word other_words codes one_of same
returns-then-same-2 c =
    list_at c.args.name.now (codes "noscript")
    (sym c.same-2.ensures ∙ c.if-same-2.true) refl

pub returns-then-same-3 : goal.returns-then-same-3
unfolding list_of words first_word other_words codes one_of same
returns-then-same-3 c =
    list_at c.args.name.now (codes "textarea")
    (sym c.same-3.ensures ∙ c.if-same-3.true) refl

pub returns-then-same-4 : goal.returns-then-same-4
unfolding list_of words first_word other_words codes one_of same
returns-then-same-4 c = list_at c.args.name.now (codes "figcaption") (sym c.same-4.ensures ∙ c.if-same-4.true) refl

pub returns : goal.returns
unfolding list_of words first_word other_words codes one_of same
returns c =
    long_none c.args.name.now c.requires
    (sym c.same.ensures ∙ c.if-same.false)
    (sym c.same-2.ensures ∙ c.if-same-2.false)
    (sym c.same-3.ensures ∙ c.if-same-3.false)
    (sym c.same-4.ensures ∙ c.if-same-4.false)
