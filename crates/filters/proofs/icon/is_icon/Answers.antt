-- `icon::is_icon` meets its contract.
use Rattle.common.proofs.TestLaws.{cond_yes, cond_no}
use Rattle.filters.specs.Icon.{is_icon}
use Rattle.filters.proofs.IconLaws.{too_long_icon}
use Rattle.filters.proofs.icon.is_icon.Goals as goal

pub returns-then-text-gt4 : goal.returns-then-text-gt4
returns-then-text-gt4 c = too_long_icon _ _ c.if-text-gt4.true

pub returns-then-icons : goal.returns-then-icons
unfolding is_icon
returns-then-icons c = cond_yes _ c.if-icons.true c.is_private_icon.ensures

pub returns-else-icons : goal.returns-else-icons
unfolding is_icon
returns-else-icons c = cond_no _ c.if-icons.false c.is_legacy_icon.ensures
