-- `store_copies` meets its contract.
use mathlib.Core.Path.{◌≡◌}
use Prim.Native.Nat.{◌+◌, ◌-◌}
use native.Mathlib.Omega.{arith}
use lib.ListN.{length, take, drop, replicate, length-take, length-drop, length-replicate}
use Rattle.writer.proofs.StoredLaws.{part_stored}
use Rattle.writer.proofs.store_copies.Goals as goal

pub returns-then-write : goal.returns-then-write
returns-then-write c =
    let a = c.args in
    let h = c.requires c.if-write.true in
    let n : length (take (a.at + a.times - a.at) (drop a.at a.out.now)) ≡ a.times = simp (length-take, length-drop) (omega arith) in
    rw (c.if-write.true, c.fill.ensures.after (λ y e. e), n) (part_stored a.out.now (replicate a.times a.b) a.at a.times (length-replicate a.times a.b) h)
