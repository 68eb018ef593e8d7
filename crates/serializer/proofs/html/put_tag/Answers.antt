-- `put_tag` meets its contract.
use mathlib.Core.Path.{sym}
use Rattle.writer.proofs.DoesLaws.{ready_by, ready_first, ready_then, does_by, does_then}
use Rattle.serializer.proofs.HtmlLaws.{tag_out_is, grows_behind_indent, grows_behind_begin, grows_behind_name}
use Rattle.serializer.proofs.html.put_tag.Goals as goal

pub indent_tag-a-requires : goal.indent_tag-a-requires
indent_tag-a-requires c = rw (c.less_if.ensures, c.opens_list.ensures) (ready_first (grows_behind_indent c.args.n) (ready_by c.requires.ready (λ under o h. tag_out_is c.args.n _ _ o)))

pub begin_tag-b-requires : goal.begin_tag-b-requires
begin_tag-b-requires c = ready_first (grows_behind_begin c.args.n) (ready_then (rw (c.less_if.ensures, c.opens_list.ensures) at c.indent_tag-a.ensures) (ready_by c.requires.ready (λ under o h. tag_out_is c.args.n _ _ o)))

pub put_name-d-requires : goal.put_name-d-requires
put_name-d-requires c = record { tag_value = c.requires.tag_value; ready = ready_first (grows_behind_name c.args.n) (ready_then (does_then (rw (c.less_if.ensures, c.opens_list.ensures) at c.indent_tag-a.ensures) c.begin_tag-b.ensures) (ready_by c.requires.ready (λ under o h. tag_out_is c.args.n _ _ o))) }

pub end_tag-requires : goal.end_tag-requires
end_tag-requires c = rw c.ends_line.ensures (ready_then (does_then (does_then (rw (c.less_if.ensures, c.opens_list.ensures) at c.indent_tag-a.ensures) c.begin_tag-b.ensures) c.put_name-d.ensures) (ready_by c.requires.ready (λ under o h. tag_out_is c.args.n _ _ o)))

pub returns : goal.returns
returns c =
    does_by (does_then (does_then (does_then (rw (c.less_if.ensures, c.opens_list.ensures) at c.indent_tag-a.ensures) c.begin_tag-b.ensures) c.put_name-d.ensures) (rw c.ends_line.ensures at c.end_tag.ensures))
    (λ under o h. sym (tag_out_is c.args.n _ _ o))
