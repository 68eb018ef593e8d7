-- `leading` meets its contract.
use mathlib.Core.Path.{◌≡◌, sym, ◌∙◌}
use native.Mathlib.Omega.{arith}
use lib.ListN.{length}
use Rattle.text.specs.Text.{is_space}
use Rattle.text.proofs.TrimLaws.{trim_start_blank, trim_start_other, trim_start_end}
use Rattle.text.proofs.leading.Goals as goal

pub returns-then-not-is_space : goal.returns-then-not-is_space
returns-then-not-is_space c =
    let l = c.loop-i in
    (omega arith, sym (trim_start_other is_space _ _ c.loop-i-test.true (sym c.is_space.ensures ∙ c.if-not-is_space.true)) ∙ l.invariant)

pub loop-i-preserved : goal.loop-i-preserved
loop-i-preserved c =
    sym (trim_start_blank is_space _ _ c.loop-i-test.true (sym c.is_space.ensures ∙ c.if-not-is_space.false)) ∙ c.loop-i.invariant

pub returns : goal.returns
returns c =
    let l = c.loop-i in
    let all : l.i ≡ length c.args.s.now = omega arith in
    (omega arith, sym (trim_start_end is_space c.args.s.now _ (omega arith)) ∙ rw all at l.invariant)
