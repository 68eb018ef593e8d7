-- `added::is_unshown` meets its contract.
use mathlib.Core.Path.{ap, ◌∙◌}
use Rattle.common.specs.Bytes.{Bytes, codes}
use Rattle.tags.specs.Words.{one_of, words}
use Rattle.text.specs.Text.{trim}
use Rattle.collect.proofs.added.is_unshown.Goals as goal

pub returns : goal.returns
unfolding codes words
returns c =
    c.one_of.ensures
    ∙ ap (λ (t : Bytes). one_of t (words "checkbox color file hidden radio reset"))
    (c.trim-kind.ensures ∙ ap trim c.attribute_or_empty.ensures)
