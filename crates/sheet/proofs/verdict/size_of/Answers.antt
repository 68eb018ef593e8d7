-- `verdict::size_of` meets its contract.
use native.Mathlib.Omega.{arith}
use Rattle.sheet.proofs.Header.{lines_small, short_lines_small}
use Rattle.sheet.proofs.verdict.size_of.Goals as goal

pub overflow_mul-result-3 : goal.overflow_mul-result-3
overflow_mul-result-3 c =
    let a = c.args in
    omega (arith, lines_small a.l.width a.l.nodes c.requires.0 (omega arith))

pub overflow_add-result-3 : goal.overflow_add-result-3
overflow_add-result-3 c =
    let a = c.args in
    omega (arith, lines_small a.l.width a.l.nodes c.requires.0 (omega arith))

pub overflow_mul-result-5 : goal.overflow_mul-result-5
overflow_mul-result-5 c =
    let a = c.args in
    omega (arith, short_lines_small a.l.width a.l.attributes c.requires.0 c.requires.2)

pub overflow_add-result-5 : goal.overflow_add-result-5
overflow_add-result-5 c =
    let a = c.args in
    omega (arith, lines_small a.l.width a.l.nodes c.requires.0 (omega arith), short_lines_small a.l.width a.l.attributes c.requires.0 c.requires.2)

pub overflow_add-result-6 : goal.overflow_add-result-6
overflow_add-result-6 c =
    let a = c.args in
    omega (arith, lines_small a.l.width a.l.nodes c.requires.0 (omega arith), short_lines_small a.l.width a.l.attributes c.requires.0 c.requires.2)
