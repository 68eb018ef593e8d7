-- `white_three` meets its contract.
use Rattle.visible_text.proofs.WhiteTests.{three_code}
use Rattle.visible_text.proofs.white_space.white_three.Goals as goal

pub returns : goal.returns
returns c = three_code _ _ c.from.ensures c.from-2.ensures _ c.from-3.ensures c.white_code.ensures
