-- `step_of_two` meets its contract: each arm is computed.
use Rattle.common.specs.Bytes.{codes, same}
use Rattle.tags.specs.Packed.{pack_of, packed}
use Rattle.tags.specs.Words.{words, first_word, other_words, one_of}
use Rattle.tags.proofs.PackLaws.{packed_none}
use Rattle.visible_text.specs.Inner.{step_of}
use Rattle.visible_text.specs.VisibleText.{is_block_element, is_silent}
use Rattle.visible_text.proofs.names.step_of_two.Goals as goal

pub returns-in-368 : goal.returns-in-368
unfolding packed pack_of step_of is_silent is_block_element one_of words first_word other_words codes same
returns-in-368 c = rw c.in-368.is

pub returns-in-92524 : goal.returns-in-92524
unfolding packed pack_of step_of is_silent is_block_element one_of words first_word other_words codes same
returns-in-92524 c = rw c.in-92524.is

pub returns-in-94818 : goal.returns-in-94818
unfolding packed pack_of step_of is_silent is_block_element one_of words first_word other_words codes same
returns-in-94818 c = rw c.in-94818.is

pub returns-in-91236 : goal.returns-in-91236
unfolding packed pack_of step_of is_silent is_block_element one_of words first_word other_words codes same
returns-in-91236 c = rw c.in-91236.is

pub returns-in-95332 : goal.returns-in-95332
unfolding packed pack_of step_of is_silent is_block_element one_of words first_word other_words codes same
returns-in-95332 c = rw c.in-95332.is

pub returns-in-93284 : goal.returns-in-93284
unfolding packed pack_of step_of is_silent is_block_element one_of words first_word other_words codes same
returns-in-93284 c = rw c.in-93284.is

pub returns-in-94824 : goal.returns-in-94824
unfolding packed pack_of step_of is_silent is_block_element one_of words first_word other_words codes same
returns-in-94824 c = rw c.in-94824.is

pub returns-in-78184 : goal.returns-in-78184
unfolding packed pack_of step_of is_silent is_block_element one_of words first_word other_words codes same
returns-in-78184 c = rw c.in-78184.is

pub returns-in-78440 : goal.returns-in-78440
unfolding packed pack_of step_of is_silent is_block_element one_of words first_word other_words codes same
returns-in-78440 c = rw c.in-78440.is

pub returns-in-78696 : goal.returns-in-78696
unfolding packed pack_of step_of is_silent is_block_element one_of words first_word other_words codes same
returns-in-78696 c = rw c.in-78696.is

pub returns-in-78952 : goal.returns-in-78952
unfolding packed pack_of step_of is_silent is_block_element one_of words first_word other_words codes same
returns-in-78952 c = rw c.in-78952.is

pub returns-in-79208 : goal.returns-in-79208
unfolding packed pack_of step_of is_silent is_block_element one_of words first_word other_words codes same
returns-in-79208 c = rw c.in-79208.is

pub returns-in-79464 : goal.returns-in-79464
unfolding packed pack_of step_of is_silent is_block_element one_of words first_word other_words codes same
returns-in-79464 c = rw c.in-79464.is

pub returns-in-93295 : goal.returns-in-93295
unfolding packed pack_of step_of is_silent is_block_element one_of words first_word other_words codes same
returns-in-93295 c = rw c.in-93295.is

pub returns-in-93301 : goal.returns-in-93301
unfolding packed pack_of step_of is_silent is_block_element one_of words first_word other_words codes same
returns-in-93301 c = rw c.in-93301.is

pub returns-in_default : goal.returns-in_default
unfolding packed pack_of step_of is_silent is_block_element one_of words first_word other_words codes same
returns-in_default c = packed_none step_of 0 c.args.v (words "p li br dd dt dl hr h1 h2 h3 h4 h5 h6 ol ul") (Unit {0}) c.in_default.in_default-own.rest
