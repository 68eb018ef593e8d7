-- `put_octets` meets its contract.
use mathlib.Core.Path.{refl}
use native.Mathlib.Omega.{arith}
use Rattle.common.specs.Word.{octets}
use Rattle.common.proofs.Words.{octets_length}
use Rattle.writer.proofs.PlacesLaws.{part_start, part_end, read_as, stored_long}
use Rattle.writer.proofs.WordsLaws.{rest_next, octet_room, octet_next}
use Rattle.writer.proofs.texts.put_octets.Goals as goal

pub loop-init : goal.loop-init
loop-init c = (refl, part_start)

pub put_byte-past-requires : goal.put_byte-past-requires
put_byte-past-requires c =
    let i = c.loop.invariant in
    (c.is_space-blank.ensures, octet_room c.args.word c.loop.counter c.loop.rest c.loop-test.true i.0 i.1 c.requires)

pub loop-preserved : goal.loop-preserved
loop-preserved c =
    let i = c.loop.invariant in
    let h = c.loop-test.true in
    let word = c.args.word in (
      rest_next word c.loop.counter c.loop.rest h i.0,
      octet_next word c.loop.counter c.loop.rest h i.0 i.1
          c.is_space-blank.ensures
          c.put_byte-past.ensures c.kept_after-behind.ensures refl,
    )

pub shape_of-out : goal.shape_of-out
shape_of-out c = stored_long c.loop.invariant.1.stores

pub returns : goal.returns
returns c =
    let s = octets 8 c.args.word in
    read_as (part_end s c.loop.counter (omega (arith, octets_length 8 c.args.word, c.loop-test.false)) c.loop.invariant.1) refl
