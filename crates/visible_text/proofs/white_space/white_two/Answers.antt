-- `white_two` meets its contract.
use Rattle.visible_text.proofs.WhiteTests.{two_yes, two_else}
use Rattle.visible_text.proofs.white_space.white_two.Goals as goal

pub returns-then-code-eq49797 : goal.returns-then-code-eq49797
returns-then-code-eq49797 c = two_yes _ _ c.from.ensures c.from-2.ensures c.if-code-eq49797.true

pub returns-else-code-eq49797 : goal.returns-else-code-eq49797
returns-else-code-eq49797 c = two_else _ _ c.from.ensures c.from-2.ensures c.if-code-eq49797.false
