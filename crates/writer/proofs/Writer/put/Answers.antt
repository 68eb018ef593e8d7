-- `put` meets its contract.
use mathlib.Core.Path.{refl}
use native.Mathlib.Omega.{arith}
use Rattle.text.specs.Text.{is_space}
use Rattle.text.proofs.TrimLaws.{rstrip_length}
use Rattle.writer.proofs.HeldLaws.{run_room, run_small, ran}
use Rattle.writer.proofs.Writer.put.Goals as goal

pub store-requires : goal.store-requires
store-requires c = run_room _ c.requires

pub grown-requires : goal.grown-requires
grown-requires c = omega (arith, run_small _ c.requires, c.rstrip.ensures, rstrip_length is_space c.args.word.now)

pub returns : goal.returns
returns c = ran _ c.requires refl c.rstrip.ensures c.grown.ensures c.store.ensures
