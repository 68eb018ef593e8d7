-- `is_squeezed` meets its contract.
use Prim.Native.Nat.{◌/◌}
use lib.Bits.{bit_and, bit_or}
use native.Mathlib.Omega.{arith}
use borrow.Author.Tests.{eqb-true}
use Rattle.writer.proofs.PlainLaws.{plain_squeezed, or_none, unmarked}
use Rattle.writer.proofs.words.is_squeezed.Goals as goal

pub returns : goal.returns
returns c = λ t.
    let m = c.spaces-m.result in
    let k = c.first_mark.result in
    let p = or_none (bit_or (bit_and m (m / 256)) k) c.controls.result (eqb-true _ 0 t) in
    let q = or_none (bit_and m (m / 256)) k p.0 in
    let printed = c.controls.ensures p.1 in (
      plain_squeezed (omega arith) printed (rw c.spaces-m.ensures at q.0)
          (unmarked c.args.w c.args.space c.spaces-m.ensures c.first_mark.ensures q.1),
      printed,
    )
