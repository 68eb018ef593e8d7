-- `put_number` meets its contract.
use mathlib.Core.List.{[], ◌∷◌}
use Prim.Native.Nat.{◌+◌, ◌/◌, ◌%◌}
use native.Mathlib.Omega.{arith}
use Rattle.writer.specs.Digits.{digits}
use Rattle.writer.proofs.DoesLaws.{ready_same, does_same, does_append, ready_left, ready_right}
use Rattle.writer.proofs.DigitsLaws.{digits_one, digits_more}
use Rattle.writer.proofs.Writer.+put_number.Goals as goal

pub push-requires : goal.push-requires
push-requires t c = ready_same (digits_one _ c.if-n-lt10.true) c.requires

pub returns-then-n-lt10 : goal.returns-then-n-lt10
returns-then-n-lt10 t c = does_same (digits_one _ c.if-n-lt10.true) c.push.ensures

pub put_number-q-requires : goal.put_number-q-requires
put_number-q-requires t c =
    let n = c.args.n in
    (omega arith, ready_left (digits (n / 10)) ((48 + n % 10) ∷ []) (ready_same (digits_more n c.if-n-lt10.false) c.requires))

pub push-requires-2 : goal.push-requires-2
push-requires-2 t c = ready_right _ _ c.put_number-q.ensures (ready_same (digits_more _ c.if-n-lt10.false) c.requires)

pub returns : goal.returns
returns t c = does_same (digits_more _ c.if-n-lt10.false) (does_append _ _ c.put_number-q.ensures c.push-2.ensures)
