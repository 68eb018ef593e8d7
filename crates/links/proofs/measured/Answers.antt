-- `measured` meets its contract.
use Rattle.std.proofs.Common.{sym, ap, ◌∙◌}
use lib.Ieee.{Float}
use Rattle.links.specs.declared.Measure.TheVariants.{Share}
use Rattle.links.proofs.MeasureLaws.{measure_too_long, measure_no_text, measure_no_links, measure_share}
use Rattle.links.proofs.measured.Goals as goal

pub returns-then-is_too_long : goal.returns-then-is_too_long
returns-then-is_too_long c = measure_too_long _ _ _ (sym c.is_too_long.ensures ∙ c.if-is_too_long.true)

pub returns-then-text-eq0 : goal.returns-then-text-eq0
returns-then-text-eq0 c = measure_no_text _ _ _ (sym c.is_too_long.ensures ∙ c.if-is_too_long.false) c.if-text-eq0.true

pub returns-then-links-eq0 : goal.returns-then-links-eq0
returns-then-links-eq0 c = measure_no_links _ _ _ (sym c.is_too_long.ensures ∙ c.if-is_too_long.false) c.if-text-eq0.false c.if-links-eq0.true

pub returns : goal.returns
returns c = ap (λ (x : Float). Share x) c.share.ensures ∙ measure_share _ _ _ (sym c.is_too_long.ensures ∙ c.if-is_too_long.false) c.if-text-eq0.false c.if-links-eq0.false
