-- `verdict::check_in` meets its contract.
use Rattle.std.specs.Prelude.{Err}
use Rattle.std.proofs.lemmas.Result.{err_from_is_err_and}
use mathlib.Core.Path.{sym, ap, ◌∙◌}
use Rattle.sheet.specs.Verdict.{is_sheet}
use Rattle.sheet.proofs.Acceptance.{header_refuses, header_passes}
use Rattle.sheet.proofs.verdict.check_in.Goals as goal

pub returns-in_err-l : goal.returns-in_err-l
returns-in_err-l c =
    let e = sym c.header_in.ensures ∙ c.in_err-l.was in
    let x = err_from_is_err_and c.from_residual.result c.from_residual.ensures.1 in
    x.1 ∙ ap Err x.2 ∙ sym e ∙ header_refuses _ _ (ap is_sheet e)

pub is_whole-requires : goal.is_whole-requires
is_whole-requires c = (header_passes _ _ c.requires (sym c.header_in.ensures ∙ c.in_ok-l.was)).0

pub judge-requires : goal.judge-requires
judge-requires c = ((header_passes _ _ c.requires (sym c.header_in.ensures ∙ c.in_ok-l.was)).0, λ e. sym c.is_whole.ensures ∙ e)

pub returns : goal.returns
returns c = c.judge.ensures ∙ (header_passes _ _ c.requires (sym c.header_in.ensures ∙ c.in_ok-l.was)).1
