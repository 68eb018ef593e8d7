-- `html_tag` meets its contract.
use mathlib.Core.Path.{sym, ◌∙◌}
use Rattle.html2text.specs.Serialize.{tag_out}
use Rattle.serializer.proofs.HtmlLaws.{html_tag_is, html_tag_none, wants_name, depth_ready, depth_works, rises_tag_out}
use Rattle.serializer.proofs.WorksLaws.{out_first, out_able, out_then, out_able_as, out_as, out_none}
use Rattle.serializer.proofs.html.html_tag.Goals as goal

pub before_tag-a-requires : goal.before_tag-a-requires
before_tag-a-requires c = record { margins_in_bounds = c.requires.margins_in_bounds; able_out = out_first (rises_tag_out _ _) (out_able_as (html_tag_is _ _ _ (sym c.wants_tag.ensures ∙ c.if-wants_tag.true)) c.requires.able_out) }

pub put_tag-w-requires : goal.put_tag-w-requires
put_tag-w-requires c =
    record { tag_value = wants_name c.args.bullets c.args.n c.args.block (sym c.wants_tag.ensures ∙ c.if-wants_tag.true); ready = depth_ready (tag_out c.args.bullets c.args.n) (out_able c.before_tag-a.ensures (out_able_as (html_tag_is _ _ _ (sym c.wants_tag.ensures ∙ c.if-wants_tag.true)) c.requires.able_out)) }

pub returns-then-wants_tag : goal.returns-then-wants_tag
returns-then-wants_tag c = out_as (html_tag_is _ _ _ (sym c.wants_tag.ensures ∙ c.if-wants_tag.true)) (out_then c.before_tag-a.ensures (depth_works (tag_out c.args.bullets c.args.n) c.put_tag-w.ensures))

pub returns : goal.returns
returns c = out_as (html_tag_none _ _ _ (sym c.wants_tag.ensures ∙ c.if-wants_tag.false)) out_none
