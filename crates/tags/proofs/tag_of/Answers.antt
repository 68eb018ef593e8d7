-- `tag_of` meets its contract.
use mathlib.Core.Path.{refl}
use native.Mathlib.Omega.{arith}
use lib.Dec.{leb}
use borrow.Author.Tests.{le-leb}
use Rattle.common.specs.Bytes.{codes, same}
use Rattle.tags.specs.Packed.{short_names}
use Rattle.tags.specs.Tags.{tag_names}
use Rattle.tags.specs.Words.{words, first_word, other_words, one_of}
use Rattle.tags.proofs.PackLaws.{packed_tag}
use Rattle.tags.proofs.tag_of.Goals as goal

pub returns-then-name-le7 : goal.returns-then-name-le7
unfolding words first_word other_words codes one_of same tag_names
returns-then-name-le7 c =
    packed_tag (λ n. leb n 7) short_names refl c.args.name.now (λ i. omega (arith, c.type_inv.name i)) (le-leb _ _ c.if-name-le7.true) c.tag_of_short.ensures c.pack.ensures
