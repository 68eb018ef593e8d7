-- `rstrip` meets its contract.
use mathlib.Core.Path.{◌≡◌, sym, ap, ◌∙◌}
use Prim.Native.Nat.{◌+◌, ◌-◌}
use native.Mathlib.Omega.{arith}
use lib.ListN.{length}
use lib.Seq.{take-length, length-take-le}
use Rattle.text.specs.Text.{is_space, rstrip}
use Rattle.text.proofs.TrimLaws.{rstrip_take_blank, rstrip_take_other, rstrip_take_none}
use Rattle.text.proofs.rstrip.Goals as goal

pub loop-n-init : goal.loop-n-init
loop-n-init c = ap rstrip (take-length _)

pub returns-then-not-is_space : goal.returns-then-not-is_space
returns-then-not-is_space c =
    let l = c.loop-n in
    let last : l.n - 1 + 1 ≡ l.n = omega arith in
    last ∙ sym (ap length (sym l.invariant ∙ rstrip_take_other is_space _ _ c.loop-n-test.true l.auto.n (sym c.is_space.ensures ∙ c.if-not-is_space.true)) ∙ length-take-le _ _ l.auto.n)

pub loop-n-preserved : goal.loop-n-preserved
loop-n-preserved c =
    let l = c.loop-n in
    rstrip_take_blank is_space _ _ c.loop-n-test.true l.auto.n (sym c.is_space.ensures ∙ c.if-not-is_space.false) ∙ l.invariant

pub returns : goal.returns
returns c = ap length (rstrip_take_none is_space _ _ c.loop-n-test.false c.loop-n.invariant)
