-- `attributes::class_or_style` meets its contract.
use mathlib.Core.Path.{refl, sym, ◌∙◌}
use mathlib.Core.List.{[], ◌∷◌}
use lib.Dec.{eqb}
use borrow.Author.Tests.{eq-eqb}
use Rattle.common.specs.Bytes.{codes, same}
use Rattle.common.proofs.Choice.{by_test}
use Rattle.tags.specs.Words.{words, first_word, other_words, one_of, number_from}
use Rattle.tags.proofs.WordLaws.{none_of, none_of_none}
use Rattle.filters.specs.Gathered.{attribute_names, attribute_number}
use Rattle.filters.proofs.AttributeLaws.{number_at, number_none}
use Rattle.filters.proofs.attributes.class_or_style.Goals as goal

pub returns-then-same : goal.returns-then-same
unfolding attribute_number attribute_names words first_word other_words codes number_from same
returns-then-same c = number_at c.args.name.now (codes "class") (sym c.same.ensures ∙ c.if-same.true) refl

pub returns : goal.returns
unfolding attribute_number attribute_names words first_word other_words codes number_from one_of same
returns c =
    let s = c.args.name.now in
    c.number_if.ensures
    ∙ by_test (same s (codes "style"))
    (λ e. rw e (number_at s (codes "style") e refl))
    (λ e. rw e (number_none (eqb 5) (codes "class" ∷ codes "style" ∷ []) refl s (eq-eqb _ _ (sym c.requires))
    (none_of s (codes "class") (codes "style" ∷ []) (sym c.same.ensures ∙ c.if-same.false) (none_of s (codes "style") [] e (none_of_none s)))))
