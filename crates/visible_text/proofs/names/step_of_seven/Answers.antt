-- `step_of_seven` meets its contract: each arm is computed.
use Rattle.common.specs.Bytes.{codes, same}
use Rattle.tags.specs.Packed.{pack_of, packed}
use Rattle.tags.specs.Words.{words, first_word, other_words, one_of}
use Rattle.tags.proofs.PackLaws.{packed_none}
use Rattle.visible_text.specs.Inner.{step_of}
use Rattle.visible_text.specs.VisibleText.{is_block_element, is_silent}
use Rattle.visible_text.proofs.names.step_of_seven.Goals as goal

pub returns-in-409501130974067 : goal.returns-in-409501130974067
unfolding packed pack_of step_of is_silent is_block_element one_of words first_word other_words codes same
returns-in-409501130974067 c = rw c.in-409501130974067.is

pub returns-in-408337412677987 : goal.returns-in-408337412677987
unfolding packed pack_of step_of is_silent is_block_element one_of words first_word other_words codes same
returns-in-408337412677987 c = rw c.in-408337412677987.is

pub returns-in-393017247099238 : goal.returns-in-393017247099238
unfolding packed pack_of step_of is_silent is_block_element one_of words first_word other_words codes same
returns-in-393017247099238 c = rw c.in-393017247099238.is

pub returns-in-407255047434086 : goal.returns-in-407255047434086
unfolding packed pack_of step_of is_silent is_block_element one_of words first_word other_words codes same
returns-in-407255047434086 c = rw c.in-407255047434086.is

pub returns-in-407254778078568 : goal.returns-in-407254778078568
unfolding packed pack_of step_of is_silent is_block_element one_of words first_word other_words codes same
returns-in-407254778078568 c = rw c.in-407254778078568.is

pub returns-in-104554095907726433 : goal.returns-in-104554095907726433
unfolding packed pack_of step_of is_silent is_block_element one_of words first_word other_words codes same
returns-in-104554095907726433 c = rw c.in-104554095907726433.is

pub returns-in-100605740912505441 : goal.returns-in-100605740912505441
unfolding packed pack_of step_of is_silent is_block_element one_of words first_word other_words codes same
returns-in-100605740912505441 c = rw c.in-100605740912505441.is

pub returns-in-103142340191020403 : goal.returns-in-103142340191020403
unfolding packed pack_of step_of is_silent is_block_element one_of words first_word other_words codes same
returns-in-103142340191020403 c = rw c.in-103142340191020403.is

pub returns-in_default : goal.returns-in_default
unfolding packed pack_of step_of is_silent is_block_element one_of words first_word other_words codes same
returns-in_default c = packed_none step_of 0 c.args.v (words "script canvas figure footer header address article section") (Unit {0})
    c.in_default.in_default-own.rest
