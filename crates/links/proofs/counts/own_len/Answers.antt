-- `counts::own_len` meets its contract.
use Rattle.std.proofs.Common.{sym, ◌∙◌, arith, rules}
use Rattle.text.specs.Text.{is_space}
use Rattle.text.proofs.CollapseLaws.{collapse_length}
use Rattle.links.proofs.CountLaws.{own_empty, own_start, own_blank, own_other}
use Rattle.links.proofs.counts.own_len.Goals.{else-space-via-then-space+then-not-is_empty+else-is_space, else-space-via-then-space+else-not-is_empty, else-space-via-else-space}
use Rattle.links.proofs.counts.own_len.Goals as goal

pub overflow_add-result : goal.overflow_add-result
overflow_add-result c =
    let t = c.args.t.now in
    omega (arith, c.requires, own_blank c.args.space t c.if-space.true (λ z. search rules) (sym c.is_space.ensures ∙ c.if-is_space.true), collapse_length is_space t)

pub returns-then-is_space : goal.returns-then-is_space
returns-then-is_space c =
    let t = c.args.t.now in
    omega (arith, c.requires, own_blank c.args.space t c.if-space.true (λ z. search rules) (sym c.is_space.ensures ∙ c.if-is_space.true))

pub returns-else-space : goal.returns-else-space
returns-else-space c =
    elim c.else-space.branch [
      | else-space-via-then-space+then-not-is_empty+else-is_space w ↦ c.requires ∙ own_other _ _ (sym w.is_space.ensures ∙ w.if-is_space.false)
      | else-space-via-then-space+else-not-is_empty w ↦ c.requires ∙ own_empty _ _ (search rules)
      | else-space-via-else-space w ↦ c.requires ∙ own_start _ _ w.if-space.false
    ]
