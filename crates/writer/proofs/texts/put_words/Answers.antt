-- `put_words` meets its contract.
use mathlib.Core.Path.{refl}
use native.Mathlib.Omega.{arith}
use lib.ListN.{length-take}
use Rattle.writer.proofs.PlacesLaws.{part_start, part_end, stored_long}
use Rattle.writer.proofs.WordsLaws.{word_room, word_next}
use Rattle.writer.proofs.texts.put_words.Goals as goal

pub loop-i-init : goal.loop-i-init
loop-i-init c = (omega arith, refl, part_start)

pub word_at-b-requires : goal.word_at-b-requires
word_at-b-requires c =
    let i = c.loop-i.invariant in
    (omega (arith, c.requires.0, i.1), omega (arith, i.2.read_is, length-take c.loop-i.i c.args.s.now))

pub put_word-r-requires : goal.put_word-r-requires
put_word-r-requires c =
    let i = c.loop-i.invariant in
    word_room c.args.s.now (λ k. (c.type_inv.s k).fits) c.loop-i.i (omega (arith, c.requires.0, i.1))
    c.word_at-b.ensures.0 i.2 c.requires.1

pub overflow_add-i : goal.overflow_add-i
overflow_add-i c = omega (arith, c.requires.0, c.loop-i.invariant.1, c.well_formed)

pub loop-i-preserved : goal.loop-i-preserved
loop-i-preserved c =
    let i = c.loop-i.invariant in
    let e = c.requires.0 in
    let word = c.word_at-b.ensures in (
      omega (arith, e, i.1),
      omega (arith, i.1),
      word_next c.args.s.now (λ k. (c.type_inv.s k).fits) c.loop-i.i (omega (arith, e, i.1))
          word.0 i.2 c.put_word-r.ensures word.1,
    )

pub shape_of-out : goal.shape_of-out
shape_of-out c = stored_long c.loop-i.invariant.2.stores

pub returns : goal.returns
returns c = part_end _ _ c.loop-i-test.false c.loop-i.invariant.2
