-- `level` meets its contract.
use mathlib.Core.Path.{sym, ◌∙◌}
use native.Mathlib.Omega.{arith}
use Rattle.tags.specs.Tags.{is_ol}
use Rattle.serializer.proofs.LevelLaws.{level_close, level_open, level_none, numbers_close, numbers_open}
use Rattle.serializer.proofs.lists.level.Goals as goal

pub returns-then-n : goal.returns-then-n
returns-then-n c =
    record {
      works_levels = rw c.close_level.ensures (level_close _ _ _ (sym c.changes_level.ensures ∙ c.if-changes_level.true) c.if-n.true);
      numbers = rw c.close_level.ensures numbers_close;
    }

pub offset_bounds-numbering-at : goal.offset_bounds-numbering-at
offset_bounds-numbering-at c = omega (arith, c.requires (sym c.changes_level.ensures ∙ c.if-changes_level.true) c.if-n.false)

pub bounds-numbering-at : goal.bounds-numbering-at
bounds-numbering-at c = c.requires (sym c.changes_level.ensures ∙ c.if-changes_level.true) c.if-n.false

pub overflow_add-r : goal.overflow_add-r
overflow_add-r c = omega (arith, c.requires (sym c.changes_level.ensures ∙ c.if-changes_level.true) c.if-n.false)

pub returns-then-changes_level : goal.returns-then-changes_level
returns-then-changes_level c =
    let room = c.requires (sym c.changes_level.ensures ∙ c.if-changes_level.true) c.if-n.false in
    record { works_levels = level_open _ _ _ (sym c.changes_level.ensures ∙ c.if-changes_level.true) c.if-n.false room c.first_number.ensures; numbers = numbers_open (is_ol c.args.n.tag) c.first_number.ensures room }

pub returns : goal.returns
returns c = record { works_levels = level_none _ _ _ (sym c.changes_level.ensures ∙ c.if-changes_level.false); numbers = λ h. h }
