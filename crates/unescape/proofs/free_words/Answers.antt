-- `free_words` meets its contract.
use Prim.Native.Nat.{◌+◌, ◌≤◌}
use native.Mathlib.Omega.{arith}
use lib.ListN.{length}
use Rattle.common.proofs.Words.{octets_word}
use Rattle.unescape.proofs.FreeLaws.{free_word_more}
use Rattle.unescape.proofs.free_words.Goals as goal

pub loop-i-preserved : goal.loop-i-preserved
loop-i-preserved c =
    let s = c.args.s.now in
    let i = c.loop-i.i in
    let room : i + 8 ≤ length s = omega (arith, c.loop-i-test.true, c.loop-i.invariant.within) in
    free_word_more c.loop-i.invariant room
    (rw (← octets_word s i (λ k. (c.type_inv.s k).fits) room, ← c.word_at.ensures)
    (c.is_free.ensures c.if-not-is_free.false))
