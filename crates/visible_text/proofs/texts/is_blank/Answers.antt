-- `is_blank` meets its contract.
use mathlib.Core.Path.{sym, ap}
use Rattle.text.specs.Text.{is_ascii_whitespace}
use Rattle.visible_text.proofs.BlankLaws.{five_other}
use Rattle.visible_text.proofs.texts.is_blank.Goals as goal

pub returns-in-9 : goal.returns-in-9
unfolding is_ascii_whitespace
returns-in-9 c = sym (ap is_ascii_whitespace c.in-9.is)

pub returns-in-10 : goal.returns-in-10
unfolding is_ascii_whitespace
returns-in-10 c = sym (ap is_ascii_whitespace c.in-10.is)

pub returns-in-12 : goal.returns-in-12
unfolding is_ascii_whitespace
returns-in-12 c = sym (ap is_ascii_whitespace c.in-12.is)

pub returns-in-13 : goal.returns-in-13
unfolding is_ascii_whitespace
returns-in-13 c = sym (ap is_ascii_whitespace c.in-13.is)

pub returns-in-32 : goal.returns-in-32
unfolding is_ascii_whitespace
returns-in-32 c = sym (ap is_ascii_whitespace c.in-32.is)

pub returns-in_default : goal.returns-in_default
unfolding is_ascii_whitespace
returns-in_default c = let n = c.in_default.in_default-own.rest in five_other _ n.0.0.0.0.1 n.0.0.0.1 n.0.0.1 n.0.1 n.1
