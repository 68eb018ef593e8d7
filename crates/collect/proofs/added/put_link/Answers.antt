-- `put_link` meets its contract.
use mathlib.Core.Path.{ap, ◌∙◌}
use Rattle.common.specs.Bytes.{codes}
use Rattle.text.specs.Text.{trim}
use Rattle.collect.proofs.AddedLaws.{link_plain, link_html}
use Rattle.collect.proofs.PieceLaws.{show_same, shows_same}
use Rattle.collect.proofs.ReadLaws.{link_read_plain, link_read_html}
use Rattle.collect.proofs.added.put_link.Goals as goal

pub put_address-requires : goal.put_address-requires
unfolding codes
put_address-requires c =
    let f = c.in-Off.is in
    let href = c.trim-href.ensures ∙ ap trim c.attribute_or_empty.ensures in
    show_same (link_plain _ _ href f) (link_read_plain _ _ _ href f) c.requires.show_ready

pub put_link_tag-requires : goal.put_link_tag-requires
unfolding codes
put_link_tag-requires c =
    let f = c.in-MinimalHtml.is in
    let href = c.trim-href.ensures ∙ ap trim c.attribute_or_empty.ensures in
    show_same (link_html _ _ href f) (link_read_html _ _ _ href f) c.requires.show_ready

pub returns-in-Off : goal.returns-in-Off
unfolding codes
returns-in-Off c =
    let f = c.in-Off.is in
    let href = c.trim-href.ensures ∙ ap trim c.attribute_or_empty.ensures in
    shows_same (link_plain _ _ href f) (link_read_plain _ _ _ href f) c.put_address.ensures

pub returns-in-MinimalHtml : goal.returns-in-MinimalHtml
unfolding codes
returns-in-MinimalHtml c =
    let f = c.in-MinimalHtml.is in
    let href = c.trim-href.ensures ∙ ap trim c.attribute_or_empty.ensures in
    shows_same (link_html _ _ href f) (link_read_html _ _ _ href f) c.put_link_tag.ensures
