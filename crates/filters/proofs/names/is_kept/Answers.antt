-- `names::is_kept` meets its contract.
use mathlib.Core.Path.{◌∙◌}
use native.Mathlib.Omega.{arith}
use Rattle.common.specs.Bytes.{codes}
use Rattle.filters.proofs.NameLaws.{kept_yes, kept_no, kept_other}
use Rattle.filters.proofs.names.is_kept.Goals as goal

pub returns-in-33 : goal.returns-in-33
returns-in-33 c = kept_yes c.args.name.now c.requires c.in-33.is

pub returns-in-0 : goal.returns-in-0
unfolding codes
returns-in-0 c = c.same.ensures ∙ kept_other c.args.name.now c.requires c.in-0.is

pub returns-in_default : goal.returns-in_default
returns-in_default c = kept_no c.args.name.now c.requires (λ z. grind arith) (λ z. grind arith) (λ z. grind arith)
