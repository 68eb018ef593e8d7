-- `list_of_seven` meets its contract: each arm is computed.
use Rattle.common.specs.Bytes.{codes, same}
use Rattle.tags.specs.Packed.{pack_of, packed}
use Rattle.tags.specs.Words.{words, first_word, other_words, one_of}
use Rattle.tags.proofs.PackLaws.{packed_none}
use Rattle.marking.specs.Lists.{list_of, short_names}
use Rattle.marking.specs.declared.names.SkipList.TheVariants.{Unlisted}
use Rattle.marking.proofs.names.list_of_seven.Goals as goal

pub returns-in-409501130974067 : goal.returns-in-409501130974067
unfolding packed pack_of list_of words first_word other_words codes one_of same
returns-in-409501130974067 c = rw c.in-409501130974067.is

pub returns-in-1535123223667 : goal.returns-in-1535123223667
unfolding packed pack_of list_of words first_word other_words codes one_of same
returns-in-1535123223667 c = rw c.in-1535123223667.is

pub returns-in-392995437438569 : goal.returns-in-392995437438569
unfolding packed pack_of list_of words first_word other_words codes one_of same
returns-in-392995437438569 c = rw c.in-392995437438569.is

pub returns-in-1535138427494 : goal.returns-in-1535138427494
unfolding packed pack_of list_of words first_word other_words codes one_of same
returns-in-1535138427494 c = rw c.in-1535138427494.is

pub returns-in-409445228765807 : goal.returns-in-409445228765807
unfolding packed pack_of list_of words first_word other_words codes one_of same
returns-in-409445228765807 c = rw c.in-409445228765807.is

pub returns-in-1577954077046 : goal.returns-in-1577954077046
unfolding packed pack_of list_of words first_word other_words codes one_of same
returns-in-1577954077046 c = rw c.in-1577954077046.is

pub returns-in-1578021188961 : goal.returns-in-1578021188961
unfolding packed pack_of list_of words first_word other_words codes one_of same
returns-in-1578021188961 c = rw c.in-1578021188961.is

pub returns-in-1530709306725 : goal.returns-in-1530709306725
unfolding packed pack_of list_of words first_word other_words codes one_of same
returns-in-1530709306725 c = rw c.in-1530709306725.is

pub returns-in-23555433 : goal.returns-in-23555433
unfolding packed pack_of list_of words first_word other_words codes one_of same
returns-in-23555433 c = rw c.in-23555433.is

pub returns-in-5929005665 : goal.returns-in-5929005665
unfolding packed pack_of list_of words first_word other_words codes one_of same
returns-in-5929005665 c = rw c.in-5929005665.is

pub returns-in-23557747 : goal.returns-in-23557747
unfolding packed pack_of list_of words first_word other_words codes one_of same
returns-in-23557747 c = rw c.in-23557747.is

pub returns-in-393017247099238 : goal.returns-in-393017247099238
unfolding packed pack_of list_of words first_word other_words codes one_of same
returns-in-393017247099238 c = rw c.in-393017247099238.is

pub returns-in-1599698136681 : goal.returns-in-1599698136681
unfolding packed pack_of list_of words first_word other_words codes one_of same
returns-in-1599698136681 c = rw c.in-1599698136681.is

pub returns-in-402899950925154 : goal.returns-in-402899950925154
unfolding packed pack_of list_of words first_word other_words codes one_of same
returns-in-402899950925154 c = rw c.in-402899950925154.is

pub returns-in-409445228897651 : goal.returns-in-409445228897651
unfolding packed pack_of list_of words first_word other_words codes one_of same
returns-in-409445228897651 c = rw c.in-409445228897651.is

pub returns-in-402899766374511 : goal.returns-in-402899766374511
unfolding packed pack_of list_of words first_word other_words codes one_of same
returns-in-402899766374511 c = rw c.in-402899766374511.is

pub returns-in-1565069042028 : goal.returns-in-1565069042028
unfolding packed pack_of list_of words first_word other_words codes one_of same
returns-in-1565069042028 c = rw c.in-1565069042028.is

pub returns-in_default : goal.returns-in_default
unfolding packed pack_of list_of words first_word other_words codes one_of same
returns-in_default c = packed_none list_of Unlisted c.args.v short_names (Unit {0}) c.in_default.in_default-own.rest
