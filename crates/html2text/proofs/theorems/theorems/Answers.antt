-- `theorems` meets its contract.
use lib.Dec.{lit≤}
use Rattle.html2text.proofs.AlikeLaws.{same_numbers, same_walk, same_extraction, same_pages_alike, same_answers}
use Rattle.html2text.proofs.BoundLaws.{run_bounded}
use Rattle.html2text.proofs.CountLaws.{counts_are_right}
use Rattle.html2text.proofs.Demand3Laws.{demand_3}
use Rattle.html2text.proofs.EncodedLaws.{text_is_utf8}
use Rattle.html2text.proofs.ExampleLaws.{examples_are_right}
use Rattle.html2text.proofs.FusionLaws.{fusion}
use Rattle.html2text.proofs.LevelLaws.{step_levels}
use Rattle.html2text.proofs.LevelMetLaws.{level_met}
use Rattle.html2text.proofs.MissingAltLaws.{missing_alt_right}
use Rattle.html2text.proofs.PageBounds.{events_bounded}
use Rattle.html2text.proofs.PageLaws.{page_right}
use Rattle.html2text.proofs.ShowingLaws.{shown_in_pieces, fed_in_two}
use Rattle.html2text.proofs.WalkLaws.{walk_of_tree}
use Rattle.html2text.specs.Promises.{WalkRight, PassesRight, AlikeRight}
use Rattle.sheet.proofs.Acceptance.{accepts}
use Rattle.html2text.proofs.theorems.theorems.Goals as goal

walk : WalkRight
walk = record { page = λ s l e. page_right (accepts (lit≤ tt) e).1; tree = walk_of_tree; level = level_met }

passes : PassesRight
passes = record {
  fusion = fusion;
  pieces = shown_in_pieces;
  fed = fed_in_two;
  levels = λ f bullets n text S. step_levels n bullets text f S;
  events = λ s l e hidden o. events_bounded (accepts (lit≤ tt) e).1 hidden o;
  run = run_bounded;
}

alike : AlikeRight
alike = record { numbers = same_numbers; walk = same_walk; extraction = same_extraction; page = same_pages_alike; sheets = same_answers }

pub returns : goal.returns
returns c = record { walk = walk; passes = passes; alike = alike; demand = demand_3; encoding = text_is_utf8; missing_alt = missing_alt_right; examples = examples_are_right; counts = counts_are_right }
