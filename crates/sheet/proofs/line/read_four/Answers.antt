-- `line::read_four` meets its contract.
use mathlib.Core.Path.{sym, ◌∙◌}
use Rattle.sheet.specs.Lines.{four_of, field_at}
use Rattle.sheet.proofs.line.read_four.Goals as goal

pub returns-in_err-first : goal.returns-in_err-first
unfolding four_of field_at
returns-in_err-first c = simp (c.from_residual.ensures, sym c.read_number.ensures ∙ c.in_err-first.was)

pub returns-in_err-second : goal.returns-in_err-second
unfolding four_of field_at
returns-in_err-second c = simp (c.from_residual-in_err-second.ensures, sym c.read_number.ensures ∙ c.in_ok-first.was, sym c.read_number-2.ensures ∙ c.in_err-second.was)

pub returns-in_err-third : goal.returns-in_err-third
unfolding four_of field_at
returns-in_err-third c = simp (c.from_residual-in_err-third.ensures, sym c.read_number.ensures ∙ c.in_ok-first.was, sym c.read_number-2.ensures ∙ c.in_ok-second.was, sym c.read_number-3.ensures ∙ c.in_err-third.was)

pub returns-in_err-fourth : goal.returns-in_err-fourth
unfolding four_of field_at
returns-in_err-fourth c =
    simp (c.from_residual-in_err-fourth.ensures, sym c.read_number.ensures ∙ c.in_ok-first.was, sym c.read_number-2.ensures ∙ c.in_ok-second.was, sym c.read_number-3.ensures ∙ c.in_ok-third.was, sym c.read_number-4.ensures ∙ c.in_err-fourth.was)

pub returns : goal.returns
unfolding four_of field_at
returns c =
    simp (sym c.read_number.ensures ∙ c.in_ok-first.was, sym c.read_number-2.ensures ∙ c.in_ok-second.was, sym c.read_number-3.ensures ∙ c.in_ok-third.was, sym c.read_number-4.ensures ∙ c.in_ok-fourth.was)
