-- `put_bytes` meets its contract.
use native.Mathlib.Omega.{arith}
use lib.ListN.{length-take}
use Rattle.writer.proofs.PlacesLaws.{part_start, part_next, part_room, part_end, stored_long}
use Rattle.writer.proofs.texts.put_bytes.Goals as goal

pub loop-i-init : goal.loop-i-init
loop-i-init c = part_start

pub byte_at-b-requires : goal.byte_at-b-requires
byte_at-b-requires c = (c.loop-i-test.true, omega (arith, c.loop-i.invariant.read_is, length-take c.loop-i.i c.args.s.now))

pub put_byte-past-requires : goal.put_byte-past-requires
put_byte-past-requires c = (c.is_space-blank.ensures, part_room _ _ c.loop-i-test.true c.loop-i.invariant c.requires c.byte_at-b.ensures.0)

pub loop-i-preserved : goal.loop-i-preserved
loop-i-preserved c = part_next _ _ c.loop-i-test.true c.loop-i.invariant c.byte_at-b.ensures.0 c.is_space-blank.ensures c.put_byte-past.ensures c.kept_after-behind.ensures c.byte_at-b.ensures.1

pub shape_of-out : goal.shape_of-out
shape_of-out c = stored_long c.loop-i.invariant.stores

pub returns : goal.returns
returns c = part_end _ _ c.loop-i-test.false c.loop-i.invariant
