-- `icon::is_legacy_icon` meets its contract.
use mathlib.Core.Path.{◌∙◌}
use native.Mathlib.Omega.{arith}
use Rattle.filters.proofs.IconLaws.{legacy_three, legacy_other}
use Rattle.filters.proofs.icon.is_legacy_icon.Goals.{in_default-via-then-text-lt3, in_default-via-else-text-lt3+else-text-lt4}
use Rattle.filters.proofs.icon.is_legacy_icon.Goals as goal

pub returns-in-len3 : goal.returns-in-len3
returns-in-len3 c = legacy_three _ (omega (arith, c.in-len3.len_at_least, c.in-len3.len_below)) c.in_legacy_range.ensures

pub returns-in_default : goal.returns-in_default
returns-in_default c =
    elim c.in_default.branch [
      | in_default-via-then-text-lt3 w ↦ c.is_pilcrow.ensures ∙ legacy_other _ (λ e. grind arith)
      | in_default-via-else-text-lt3+else-text-lt4 w ↦ c.is_pilcrow.ensures ∙ legacy_other _ (λ e. grind arith)
    ]
