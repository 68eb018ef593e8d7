-- `put_plain` meets its contract.
use mathlib.Core.Path.{refl, ap}
use Prim.Native.Nat.{ℕ}
use native.Mathlib.Omega.{arith}
use lib.Dec.{eqb}
use borrow.Author.Tests.{eq-eqb, ne_eqb}
use Rattle.common.proofs.Words.{octets_length}
use Rattle.writer.proofs.texts.put_plain.Goals.{then-space, else-space}
use Rattle.writer.proofs.texts.put_plain.Goals as goal

pub store_octets-requires : goal.store_octets-requires
store_octets-requires c = λ e. omega (arith, c.requires.fits e, octets_length 8 c.args.word)

pub returns : goal.returns
returns c =
    record {
      stores = record { bytes = c.store_octets.ensures; place = rw (octets_length 8 c.args.word) };
      kept_is = rw (← c.last_byte-space.ensures) (elim c.if-space.branch [
        | then-space w ↦ rw (w.result-is, eq-eqb _ 32 w.if-space.true)
        | else-space w ↦ rw (w.result-is, ne_eqb _ 32 w.if-space.false)
      ]);
      space_is = ap (λ (n : ℕ). eqb n 32) c.last_byte-space.ensures;
      read_is = refl;
    }
