-- `levzhada_measure` meets its contract.
use mathlib.Core.Path.{ap, ◌∙◌}
use Rattle.numbers.specs.Values.{link_measure_of, rule_of}
use Rattle.levzhada.proofs.levzhada_measure.Goals as goal

pub returns : goal.returns
returns c =
    c.link_measure_of.ensures ∙ ap (link_measure_of (rule_of c.args.ratio c.args.limit)) c.measure_of.ensures.0
