-- `theorems` meets its contract.
use Rattle.visible_text.proofs.BlankLaws.{collapsing}
use Rattle.visible_text.proofs.ExampleLaws.{examples_right}
use Rattle.visible_text.proofs.LoopLaws.{loop_is_walk}
use Rattle.visible_text.proofs.MarksLaws.{marks_untouched}
use Rattle.visible_text.proofs.WhiteLaws.{trims_white_space}
use Rattle.visible_text.proofs.theorems.theorems.Goals as goal

pub returns : goal.returns
returns c = record { walk = loop_is_walk; blanks = collapsing; white_space = trims_white_space; marks = marks_untouched; examples = examples_right }
