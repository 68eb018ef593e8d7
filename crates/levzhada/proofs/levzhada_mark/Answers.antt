-- `levzhada_mark` meets its contract.
use mathlib.Core.Path.{sym, ◌∙◌}
use Rattle.levzhada.proofs.Lines.{marked_by_line, unmarked_line}
use Rattle.levzhada.proofs.levzhada_mark.Goals as goal

pub returns-in_default : goal.returns-in_default
returns-in_default c =
    let all = unmarked_line c.args.sheet.now _ c.args.noscript
    (sym c.in_default.is ∙ c.read_line.ensures) c.wrong_options.ensures in
    record { answer = all.0; sheet = all.1 }

pub returns : goal.returns
returns c =
    let x = c.mark.ensures in
    let all = marked_by_line c.args.sheet.now _ c.args.noscript
    (sym c.in-Some.is ∙ c.read_line.ensures) c.to_answer.ensures
    (x.answer, x.sheet) in
    record { answer = all.0; sheet = all.1 }
