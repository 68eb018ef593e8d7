-- `trim_end` meets its contract.
use mathlib.Core.Path.{sym, ap, ◌∙◌}
use native.Mathlib.Omega.{arith}
use lib.ListN.{length}
use lib.Seq.{length-take-le, take-length}
use Rattle.text.specs.Text.{is_ascii_whitespace}
use Rattle.text.proofs.TrimLaws.{rstrip_take_blank, rstrip_take_other, rstrip_take_none}
use Rattle.visible_text.specs.CollapseWhitespace.{trim_end}
use Rattle.visible_text.proofs.texts.trim_end.Goals as goal

pub loop-i-init : goal.loop-i-init
loop-i-init c = ap trim_end (take-length _)

pub returns-then-not-is_blank : goal.returns-then-not-is_blank
returns-then-not-is_blank c =
    let l = c.loop-i in
    let other = sym c.is_blank.ensures ∙ c.if-not-is_blank.true in
    let e = rstrip_take_other is_ascii_whitespace _ _ c.loop-i-test.true l.auto.i other in
    let n = sym (ap length (sym l.invariant ∙ e) ∙ length-take-le _ _ l.auto.i) in
    omega (arith, n, c.loop-i-test.true)

pub loop-i-preserved : goal.loop-i-preserved
loop-i-preserved c =
    let l = c.loop-i in
    let blank = sym c.is_blank.ensures ∙ c.if-not-is_blank.false in
    rstrip_take_blank is_ascii_whitespace _ _ c.loop-i-test.true l.auto.i blank ∙ l.invariant

pub returns : goal.returns
returns c = ap length (rstrip_take_none is_ascii_whitespace _ _ c.loop-i-test.false c.loop-i.invariant)
