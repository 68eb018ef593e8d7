-- `sized::extract_within` meets its contract.
use mathlib.Core.Path.{◌≡◌, sym, ap, ◌∙◌}
use mathlib.Core.Bool.{true}
use native.Mathlib.Omega.{arith}
use Rattle.common.proofs.PassedOn.{passed_on}
use Rattle.extract.specs.Concluding.{extraction_in}
use Rattle.extract.proofs.AnswerLaws.{not_refused, taken_accepted, taken_answers, refused_answers}
use Rattle.extract.proofs.sized.extract_within.Goals.{then-not-take_rows+in_ok-judge, else-not-take_rows}
use Rattle.extract.proofs.sized.extract_within.Goals as goal

pub take_rows-requires : goal.take_rows-requires
take_rows-requires g c = let p = c.requires in let n = c.requires.2 in record { sized = (p.0, p.1); columns = record { depths_long = omega (arith, n); tags_long = omega (arith, n); attributes_long = omega (arith, n); values_long = omega (arith, n); lengths_long = omega (arith, n); left_long = omega (arith, n) } }

pub returns-in_err-judge : goal.returns-in_err-judge
returns-in_err-judge g c =
    let e = passed_on c.from_residual.result c.from_residual.ensures.1 in
    record { answers = refused_answers c.take_rows.ensures.accepted _ _ _ c.if-not-take_rows.true (sym c.judge.ensures ∙ c.in_err-judge.was) (ap extraction_in e); counted = rw e }

pub extract_columns-requires : goal.extract_columns-requires
extract_columns-requires g c = let p = c.requires in let n = c.requires.2 in let t : c.take_rows.result ≡ true =
    elim c.if-not-take_rows.branch [ then-not-take_rows+in_ok-judge w ↦ not_refused c.take_rows.ensures.accepted w.judge.ensures w.in_ok-judge.was | else-not-take_rows w ↦ w.if-not-take_rows.false ] in
    record { accepted = (taken_accepted c.take_rows.ensures.accepted t p.0, record { depths_long = omega (arith, n); tags_long = omega (arith, n); attributes_long = omega (arith, n); values_long = omega (arith, n); lengths_long = omega (arith, n); left_long = omega (arith, n) }); rows_read = c.take_rows.ensures.rows t; most_depth_in_bounds = (omega arith, omega arith, omega arith) }

pub returns : goal.returns
returns g c =
    let t : c.take_rows.result ≡ true =
    elim c.if-not-take_rows.branch [ then-not-take_rows+in_ok-judge w ↦ not_refused c.take_rows.ensures.accepted w.judge.ensures w.in_ok-judge.was | else-not-take_rows w ↦ w.if-not-take_rows.false ] in
    record { answers = taken_answers c.take_rows.ensures.accepted _ _ _ t c.extract_columns.ensures.extracts; counted = c.extract_columns.ensures.counted }

pub whole_as_slice-take_rows : goal.whole_as_slice-take_rows
whole_as_slice-take_rows g c = omega (arith, c.requires.3)

pub whole_as_slice-take_rows-2 : goal.whole_as_slice-take_rows-2
whole_as_slice-take_rows-2 g c = omega (arith, c.requires.3)

pub whole_as_slice-take_rows-3 : goal.whole_as_slice-take_rows-3
whole_as_slice-take_rows-3 g c = omega (arith, c.requires.3)

pub whole_as_slice-take_rows-4 : goal.whole_as_slice-take_rows-4
whole_as_slice-take_rows-4 g c = omega (arith, c.requires.3)

pub whole_as_slice-take_rows-5 : goal.whole_as_slice-take_rows-5
whole_as_slice-take_rows-5 g c = omega (arith, c.requires.3)

pub whole_as_slice-take_rows-6 : goal.whole_as_slice-take_rows-6
whole_as_slice-take_rows-6 g c = omega (arith, c.requires.3)

pub shared_whole_as_slice-extract_columns : goal.shared_whole_as_slice-extract_columns
shared_whole_as_slice-extract_columns g c = omega (arith, c.requires.3)

pub shared_whole_as_slice-extract_columns-2 : goal.shared_whole_as_slice-extract_columns-2
shared_whole_as_slice-extract_columns-2 g c = omega (arith, c.requires.3)

pub shared_whole_as_slice-extract_columns-3 : goal.shared_whole_as_slice-extract_columns-3
shared_whole_as_slice-extract_columns-3 g c = omega (arith, c.requires.3)

pub shared_whole_as_slice-extract_columns-4 : goal.shared_whole_as_slice-extract_columns-4
shared_whole_as_slice-extract_columns-4 g c = omega (arith, c.requires.3)

pub shared_whole_as_slice-extract_columns-5 : goal.shared_whole_as_slice-extract_columns-5
shared_whole_as_slice-extract_columns-5 g c = omega (arith, c.requires.3)

pub whole_as_slice-extract_columns : goal.whole_as_slice-extract_columns
whole_as_slice-extract_columns g c = omega (arith, c.requires.3)
