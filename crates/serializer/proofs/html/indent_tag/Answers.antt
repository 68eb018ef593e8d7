-- `indent_tag` meets its contract.
use Prim.Native.Nat.{◌*◌}
use native.Mathlib.Omega.{arith}
use Rattle.writer.proofs.DoesLaws.{does_none}
use Rattle.serializer.proofs.HtmlLaws.{copies_small}
use Rattle.serializer.proofs.html.indent_tag.Goals as goal

pub overflow_mul-depth : goal.overflow_mul-depth
overflow_mul-depth c = omega (arith, copies_small (c.args.depth * 2) (rw c.if-bullets.true at c.requires))

pub pad-requires : goal.pad-requires
pad-requires c = rw c.if-bullets.true at c.requires

pub returns-then-bullets : goal.returns-then-bullets
returns-then-bullets c = rw c.if-bullets.true c.pad.ensures

pub returns : goal.returns
returns c = rw c.if-bullets.false (does_none _ _ _)
