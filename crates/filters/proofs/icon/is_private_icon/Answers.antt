-- `icon::is_private_icon` meets its contract.
use mathlib.Core.Path.{◌∙◌}
use native.Mathlib.Omega.{arith}
use Rattle.filters.proofs.IconLaws.{private_other}
use Rattle.filters.proofs.icon.is_private_icon.Goals.{in_default-via-then-text-lt3, in_default-via-else-text-lt3+else-text-lt4+else-text-lt5}
use Rattle.filters.proofs.icon.is_private_icon.Goals as goal

pub returns-in_default : goal.returns-in_default
returns-in_default c =
    elim c.in_default.branch [
      | in_default-via-then-text-lt3 w ↦ c.is_pilcrow.ensures ∙ private_other _ (λ e. grind arith) (λ e. grind arith)
      | in_default-via-else-text-lt3+else-text-lt4+else-text-lt5 w ↦ c.is_pilcrow.ensures ∙ private_other _ (λ e. grind arith) (λ e. grind arith)
    ]
