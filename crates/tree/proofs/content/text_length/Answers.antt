-- `content::text_length` meets its contract.
use mathlib.Core.Path.{sym, ap, ◌∙◌}
use lib.ListN.{length}
use Rattle.common.specs.Bytes.{Bytes}
use Rattle.text.specs.Text.{collapse}
use Rattle.tree.proofs.PageLaws.{value_fits, value_is, not_element}
use Rattle.tree.proofs.TextLengths.{length_of_other}
use Rattle.tree.proofs.content.text_length.Goals as goal

pub row_at-r-requires : goal.row_at-r-requires
row_at-r-requires c = let p = c.requires in (p.0.lined, p.1)

pub length_below-requires : goal.length_below-requires
length_below-requires c = (c.requires.0, c.requires.1, rw c.row_at-r.ensures at c.if-r-eq1.true)

pub returns-then-r-eq1 : goal.returns-then-r-eq1
returns-then-r-eq1 c = c.length_below.ensures

pub part-requires : goal.part-requires
part-requires c = (c.requires.0.lined, value_fits _ _ _ c.row_at-r.ensures c.requires.0 c.requires.1)

pub returns : goal.returns
returns c =
    c.collapsed_len.ensures
    ∙ ap (λ (t : Bytes). length (collapse t)) (c.part.ensures ∙ sym (value_is _ _ _ c.row_at-r.ensures))
    ∙ sym (length_of_other _ _ _ (not_element _ _ _ c.row_at-r.ensures c.if-r-eq1.false))
