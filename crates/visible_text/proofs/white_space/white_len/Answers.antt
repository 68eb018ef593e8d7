-- `white_len` meets its contract.
use mathlib.Core.Path.{sym, ◌∙◌}
use native.Mathlib.Omega.{arith}
use Rattle.visible_text.proofs.WhiteTests.{length_none, length_one, length_last, length_two, length_two_last, length_three}
use Rattle.visible_text.proofs.white_space.white_len.Goals as goal

pub returns-in-len1-up : goal.returns-in-len1-up
returns-in-len1-up c = length_one c.args.s.now 0 (omega arith) (sym c.white_one.ensures ∙ c.if-white_one.true)

pub returns-in-len2-up : goal.returns-in-len2-up
returns-in-len2-up c =
    let not_one = sym c.white_one.ensures ∙ c.if-white_one.false in
    length_two c.args.s.now 0 (omega arith) not_one (omega arith) (sym c.white_two.ensures ∙ c.if-white_two.true)

pub returns-in-len3-up : goal.returns-in-len3-up
returns-in-len3-up c =
    let not_one = sym c.white_one.ensures ∙ c.if-white_one.false in
    let not_two = sym c.white_two.ensures ∙ c.if-white_two.false in
    let three = sym c.if-white_three.true ∙ c.white_three.ensures in
    length_three c.args.s.now 0 (omega arith) not_one (omega arith) not_two (omega arith) three

pub returns-in_default : goal.returns-in_default
returns-in_default c = length_none c.args.s.now (omega arith)

pub returns-in_default-2 : goal.returns-in_default-2
returns-in_default-2 c =
    let not_one = sym c.white_one.ensures ∙ c.if-white_one.false in
    length_last c.args.s.now 0 (omega arith) not_one (omega arith)

pub returns-in_default-3 : goal.returns-in_default-3
returns-in_default-3 c =
    let not_one = sym c.white_one.ensures ∙ c.if-white_one.false in
    let not_two = sym c.white_two.ensures ∙ c.if-white_two.false in
    length_two_last c.args.s.now 0 (omega arith) not_one (omega arith) not_two (omega arith)

pub returns-in_default-4 : goal.returns-in_default-4
returns-in_default-4 c =
    let not_one = sym c.white_one.ensures ∙ c.if-white_one.false in
    let not_two = sym c.white_two.ensures ∙ c.if-white_two.false in
    let three = sym c.if-white_three.false ∙ c.white_three.ensures in
    length_three c.args.s.now 0 (omega arith) not_one (omega arith) not_two (omega arith) three
