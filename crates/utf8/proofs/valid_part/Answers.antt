-- `valid_part` meets its contract.
use mathlib.Core.Path.{sym, ◌∙◌}
use borrow.Author.Tests.{eq-eqb}
use Rattle.utf8.proofs.Parts.{part_none, part_cut, part_whole}
use Rattle.utf8.proofs.valid_part.Goals as goal

pub returns-then-len-eq0 : goal.returns-then-len-eq0
returns-then-len-eq0 c = let a = c.args in eq-eqb a.len 0 c.if-len-eq0.true ∙ sym (part_none a.s.now a.at a.len c.if-len-eq0.true)

pub returns-then-is_between : goal.returns-then-is_between
returns-then-is_between c =
    let a = c.args in
    c.is_between-then-is_between.ensures ∙ sym (part_whole a.s.now a.at a.len c.requires.0 (sym c.is_between.ensures ∙ c.if-is_between.true))

pub returns-else-is_between : goal.returns-else-is_between
returns-else-is_between c =
    let a = c.args in
    c.if-is_between.false ∙ sym (part_cut a.s.now a.at a.len c.if-len-eq0.false (sym c.is_between.ensures ∙ c.if-is_between.false))
