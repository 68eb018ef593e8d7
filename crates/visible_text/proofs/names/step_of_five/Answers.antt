-- `step_of_five` meets its contract: each arm is computed.
use Rattle.common.specs.Bytes.{codes, same}
use Rattle.tags.specs.Packed.{pack_of, packed}
use Rattle.tags.specs.Words.{words, first_word, other_words, one_of}
use Rattle.tags.proofs.PackLaws.{packed_none}
use Rattle.visible_text.specs.Inner.{step_of}
use Rattle.visible_text.specs.VisibleText.{is_block_element, is_silent}
use Rattle.visible_text.proofs.names.step_of_five.Goals as goal

pub returns-in-23425648 : goal.returns-in-23425648
unfolding packed pack_of step_of is_silent is_block_element one_of words first_word other_words codes same
returns-in-23425648 c = rw c.in-23425648.is

pub returns-in-24537444 : goal.returns-in-24537444
unfolding packed pack_of step_of is_silent is_block_element one_of words first_word other_words codes same
returns-in-24537444 c = rw c.in-24537444.is

pub returns-in-24535406 : goal.returns-in-24535406
unfolding packed pack_of step_of is_silent is_block_element one_of words first_word other_words codes same
returns-in-24535406 c = rw c.in-24535406.is

pub returns-in-6131183462 : goal.returns-in-6131183462
unfolding packed pack_of step_of is_silent is_block_element one_of words first_word other_words codes same
returns-in-6131183462 c = rw c.in-6131183462.is

pub returns-in-6147367277 : goal.returns-in-6147367277
unfolding packed pack_of step_of is_silent is_block_element one_of words first_word other_words codes same
returns-in-6147367277 c = rw c.in-6147367277.is

pub returns-in-1534987957089 : goal.returns-in-1534987957089
unfolding packed pack_of step_of is_silent is_block_element one_of words first_word other_words codes same
returns-in-1534987957089 c = rw c.in-1534987957089.is

pub returns-in-1535123223667 : goal.returns-in-1535123223667
unfolding packed pack_of step_of is_silent is_block_element one_of words first_word other_words codes same
returns-in-1535123223667 c = rw c.in-1535123223667.is

pub returns-in-1535121711476 : goal.returns-in-1535121711476
unfolding packed pack_of step_of is_silent is_block_element one_of words first_word other_words codes same
returns-in-1535121711476 c = rw c.in-1535121711476.is

pub returns-in-1599597405812 : goal.returns-in-1599597405812
unfolding packed pack_of step_of is_silent is_block_element one_of words first_word other_words codes same
returns-in-1599597405812 c = rw c.in-1599597405812.is

pub returns-in-1577954077046 : goal.returns-in-1577954077046
unfolding packed pack_of step_of is_silent is_block_element one_of words first_word other_words codes same
returns-in-1577954077046 c = rw c.in-1577954077046.is

pub returns-in_default : goal.returns-in_default
unfolding packed pack_of step_of is_silent is_block_element one_of words first_word other_words codes same
returns-in_default c = packed_none step_of 0 c.args.v (words "pre div nav form main aside style table tfoot video") (Unit {0})
    c.in_default.in_default-own.rest
