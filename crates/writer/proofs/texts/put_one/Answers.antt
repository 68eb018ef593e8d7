-- `put_one` meets its contract.
use native.Mathlib.Omega.{arith}
use Rattle.writer.proofs.texts.put_one.Goals as goal

pub store_byte-requires : goal.store_byte-requires
store_byte-requires c = λ e. omega (arith, c.requires.fits e)
