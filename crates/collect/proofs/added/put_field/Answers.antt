-- `put_field` meets its contract.
use mathlib.Core.Path.{sym, ap, ◌∙◌}
use lib.ListN.{length}
use borrow.Author.Tests.{eqb-true, eqb-false}
use Rattle.common.specs.Bytes.{Bytes, codes}
use Rattle.serializer.specs.Progress.{read_of}
use Rattle.text.specs.Text.{trim}
use Rattle.html2text.specs.Collect.{field_value}
use mathlib.Core.Bool.{false}
use Rattle.tree.specs.Page.{node_at}
use Rattle.collect.proofs.AddedLaws.{field_none, field_some}
use Rattle.collect.proofs.PieceLaws.{show_same, shows_same, shows_nothing}
use Rattle.collect.proofs.ReadLaws.{read_empty}
use Rattle.collect.proofs.added.put_field.Goals as goal

pub returns-then-is_empty : goal.returns-then-is_empty
returns-then-is_empty c = let t = c.trim-value.ensures ∙ ap trim c.field_value.ensures in shows_nothing (field_none (node_at c.args.s.now c.args.l c.args.v.row) (eqb-true _ _ (sym c.is_empty.ensures ∙ c.if-is_empty.true)) c.trim-value.ensures c.field_value.ensures) (read_empty c.args.p.showing false (trim (field_value (node_at c.args.s.now c.args.l c.args.v.row))) (ap length (sym t) ∙ (eqb-true _ _ (sym c.is_empty.ensures ∙ c.if-is_empty.true)))) c.requires.show_ready

pub put_between-requires : goal.put_between-requires
unfolding codes
put_between-requires c = show_same (field_some (node_at c.args.s.now c.args.l c.args.v.row) (eqb-false _ _ (sym c.is_empty.ensures ∙ c.if-is_empty.false)) c.trim-value.ensures c.field_value.ensures) (ap (λ (x : Bytes). read_of c.args.p.showing false x) (sym (c.trim-value.ensures ∙ ap trim c.field_value.ensures))) c.requires.show_ready

pub returns : goal.returns
unfolding codes
returns c = shows_same (field_some (node_at c.args.s.now c.args.l c.args.v.row) (eqb-false _ _ (sym c.is_empty.ensures ∙ c.if-is_empty.false)) c.trim-value.ensures c.field_value.ensures) (ap (λ (x : Bytes). read_of c.args.p.showing false x) (sym (c.trim-value.ensures ∙ ap trim c.field_value.ensures))) c.put_between.ensures
