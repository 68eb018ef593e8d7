-- `read::part` meets its contract.
use Prim.Native.Nat.{ℕ, ◌+◌}
use mathlib.Core.Path.{ap, ◌∙◌}
use lib.ListN.{take, drop}
use Rattle.common.proofs.Parts.{part_to}
use Rattle.sheet.proofs.LinedLaws.{pool_from}
use Rattle.sheet.proofs.read.part.Goals as goal

pub returns : goal.returns
returns c =
    let a = c.args in
    part_to a.s.now _ a.len ∙ ap (λ (p : ℕ). take a.len (drop (p + a.at) a.s.now)) (pool_from c.requires.0)
