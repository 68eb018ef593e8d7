-- `longer` meets its contract.
use native.Mathlib.Omega.{arith}
use mathlib.Core.Path.{ap}
use Prim.Native.Nat.{ℕ, ◌+◌}
use Rattle.common.proofs.Choice.{absurd_test}
use Rattle.serializer.proofs.LengthLaws.{longer_escaped}
use Rattle.serializer.proofs.texts.longer.Goals as goal

pub returns-then-write : goal.returns-then-write
returns-then-write c = λ e. absurd_test c.if-write.true e

pub overflow_add-result : goal.overflow_add-result
overflow_add-result c = let a = c.args in omega (arith, longer_escaped a.len a.piece.now c.escaped_len.ensures c.if-escaped.true (c.requires c.if-write.false), rw c.if-escaped.true at (c.requires c.if-write.false))

pub returns-then-escaped : goal.returns-then-escaped
returns-then-escaped c = λ e. let a = c.args in ap (λ (n : ℕ). a.len + n) (longer_escaped a.len a.piece.now c.escaped_len.ensures c.if-escaped.true (c.requires c.if-write.false))

pub overflow_add-result-2 : goal.overflow_add-result-2
overflow_add-result-2 c = omega (arith, rw c.if-escaped.false at (c.requires c.if-write.false))

pub returns : goal.returns
returns c = λ e. rw c.if-escaped.false
