-- `put_printed` meets its contract.
use mathlib.Core.Path.{sym, ◌∙◌}
use Rattle.printing.proofs.Printing.{printed_long, printed_wrong, printed_sheet, line_there}
use Rattle.printing.proofs.put_printed.Goals as goal

pub returns-then-input-gt-ROOM : goal.returns-then-input-gt-ROOM
returns-then-input-gt-ROOM c =
    let all = printed_long _ _ c.requires c.if-input-gt-ROOM.true c.refused.ensures c.put_answer.ensures in
    record { stored = all.0; within = all.1 }

pub returns-in_default : goal.returns-in_default
returns-in_default c =
    let all = printed_wrong _ c.if-input-gt-ROOM.false c.read_line-line.ensures _ c.requires c.in_default.is c.to_answer.ensures c.put_answer-in_default.ensures in
    record { stored = all.0; within = all.1 }

pub slice_bounds-put_answered-count : goal.slice_bounds-put_answered-count
slice_bounds-put_answered-count c = line_there _ (sym c.read_line-line.ensures ∙ c.in-Some.is)

pub slice_bounds-put_answered-start : goal.slice_bounds-put_answered-start
slice_bounds-put_answered-start c = line_there _ (sym c.read_line-line.ensures ∙ c.in-Some.is)

pub returns : goal.returns
returns c = record { stored = printed_sheet _ c.if-input-gt-ROOM.false c.read_line-line.ensures c.in-Some.is c.put_answered.ensures.stored; within = c.put_answered.ensures.within }
