-- `line::flags_right` meets its contract.
use Rattle.std.proofs.Common.{rules, tests, ◌∙◌}
use Rattle.std.proofs.lemmas.Iterator.{YieldsList-from_slice}
use Rattle.std.proofs.lemmas.Iterator.Search.{all_from_yields_List}
use Rattle.options.specs.Line.{is_flag}
use Rattle.options.proofs.LineLaws.{flags_all}
use Rattle.options.proofs.line.flags_right.Goals as goal

pub returns : goal.returns
returns c =
    all_from_yields_List is_flag _ _ c.all.result c.all.ensures.ran (YieldsList-from_slice c.args.s.now cc) (λ x b q k. search (rules, tests))
    ∙ flags_all c.args.s.now
