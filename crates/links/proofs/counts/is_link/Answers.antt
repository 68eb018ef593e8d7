-- `counts::is_link` meets its contract.
use Rattle.std.proofs.Common.{sym, ap, ◌∙◌, ne_eqb}
use Rattle.common.specs.Bytes.{Bytes, codes, same}
use Rattle.tree.proofs.PageLaws.{is_element, not_element, name_is}
use Rattle.links.proofs.LinkLaws.{link_of_element, link_of_other}
use Rattle.links.proofs.counts.is_link.Goals as goal

pub returns-else-r-eq1 : goal.returns-else-r-eq1
returns-else-r-eq1 c = ne_eqb _ _ c.if-r-eq1.false ∙ sym (link_of_other _ (not_element _ _ _ c.requires.2 c.if-r-eq1.false))

pub returns-then-r-eq1 : goal.returns-then-r-eq1
unfolding codes
returns-then-r-eq1 c =
    c.same.ensures
    ∙ ap (λ (t : Bytes). same t (codes "a")) (c.part.ensures ∙ sym (name_is _ _ _ c.requires.2))
    ∙ sym (link_of_element _ (is_element _ _ _ c.requires.2 c.if-r-eq1.true))
