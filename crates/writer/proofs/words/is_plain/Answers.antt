-- `is_plain` meets its contract.
use mathlib.Core.Path.{sym, ◌∙◌}
use native.Mathlib.Omega.{arith}
use borrow.Author.Tests.{eqb-true, not-true}
use Rattle.writer.proofs.PlainLaws.{plain_other, plain_bare}
use Rattle.writer.proofs.words.is_plain.Goals.{then-squeeze, else-squeeze}
use Rattle.writer.proofs.words.is_plain.Goals as goal

pub returns-then-times-eq0 : goal.returns-then-times-eq0
returns-then-times-eq0 c = λ t. rw (eqb-true c.args.times 0 t) (elim c.if-squeeze.branch [
  | then-squeeze w ↦ rw w.if-squeeze.true (w.is_squeezed-blanks_stay.ensures (sym w.blanks_stay-is ∙ c.if-blanks_stay.true)).0
  | else-squeeze w ↦ rw w.if-squeeze.false (plain_other _ (omega arith) w.last_byte.ensures w.is_space.ensures (not-true _ (sym w.blanks_stay-is ∙ c.if-blanks_stay.true)))
])

pub returns-else-times-eq0 : goal.returns-else-times-eq0
returns-else-times-eq0 c = λ t. plain_bare (elim c.if-squeeze.branch [
  | then-squeeze w ↦ rw w.if-squeeze.true (w.is_squeezed-blanks_stay.ensures (sym w.blanks_stay-is ∙ c.if-blanks_stay.true)).0
  | else-squeeze w ↦ rw w.if-squeeze.false (plain_other _ (omega arith) w.last_byte.ensures w.is_space.ensures (not-true _ (sym w.blanks_stay-is ∙ c.if-blanks_stay.true)))
]) (c.is_bare.ensures t) _
