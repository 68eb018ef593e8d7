-- `put_extraction` meets its contract.
use mathlib.Core.Path.{sym}
use lib.Seq.{length-take-le}
use Rattle.printing.proofs.Showing.{shown_numbers, shown_text, text_room}
use Rattle.printing.proofs.put_extraction.Goals as goal

pub returns-in-Err : goal.returns-in-Err
returns-in-Err c = shown_numbers _ _ c.to_answer.ensures c.put_answer-at.ensures c.in-Err.is

pub slice_bounds-put_text-end : goal.slice_bounds-put_text-end
slice_bounds-put_text-end c = sym (length-take-le _ _ (c.requires.0 _ c.in-Ok.is))

pub put_text-requires : goal.put_text-requires
put_text-requires c = text_room c.args.e c.args.out.now c.to_answer.ensures c.put_answer-at.ensures c.requires.1 (c.requires.0 _ c.in-Ok.is)

pub returns-in-Ok : goal.returns-in-Ok
returns-in-Ok c = shown_text _ _ c.to_answer.ensures c.put_answer-at.ensures c.in-Ok.is c.put_text.ensures
