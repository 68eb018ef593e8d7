-- `step_of` meets its contract.
use mathlib.Core.Path.{refl}
use mathlib.Core.Bool.{◌&&◌}
use native.Mathlib.Omega.{arith}
use lib.Dec.{leb, ltb}
use borrow.Author.Tests.{le-leb, lt-ltb}
use Rattle.common.specs.Bytes.{codes, same}
use Rattle.common.proofs.Choice.{and_both}
use Rattle.tags.specs.Words.{words, first_word, other_words, one_of}
use Rattle.visible_text.proofs.NameLaws.{packed_step}
use Rattle.visible_text.proofs.names.step_of.Goals as goal

pub returns-then-n-le2 : goal.returns-then-n-le2
unfolding words first_word other_words codes one_of same
returns-then-n-le2 c =
    packed_step (λ n. leb n 2) (words "p li br dd dt dl hr h1 h2 h3 h4 h5 h6 ol ul") refl
    c.args.name.now
    (λ i. omega (arith, c.type_inv.name i)) (le-leb _ _ c.if-n-le2.true)
    c.step_of_two.ensures c.pack.ensures

pub returns-then-n-le5 : goal.returns-then-n-le5
unfolding words first_word other_words codes one_of same
returns-then-n-le5 c =
    packed_step (λ n. ltb 2 n && leb n 5) (words "pre div nav form main aside style table tfoot video") refl
    c.args.name.now
    (λ i. omega (arith, c.type_inv.name i))
    (and_both (lt-ltb _ _ c.if-n-le2.false) (le-leb _ _ c.if-n-le5.true)) c.step_of_five.ensures
    c.pack-then-n-le5.ensures

pub returns-then-n-le7 : goal.returns-then-n-le7
unfolding words first_word other_words codes one_of same
returns-then-n-le7 c =
    packed_step (λ n. ltb 5 n && leb n 7) (words "script canvas figure footer header address article section") refl
    c.args.name.now
    (λ i. omega (arith, c.type_inv.name i))
    (and_both (lt-ltb _ _ c.if-n-le5.false) (le-leb _ _ c.if-n-le7.true)) c.step_of_seven.ensures
    c.pack-then-n-le7.ensures
