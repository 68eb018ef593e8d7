-- `pass_ascii` meets its contract.
use native.Mathlib.Omega.{arith}
use Rattle.utf8.proofs.Reading.{pass_run, pass_octet}
use Rattle.utf8.proofs.pass_ascii.Goals as goal

pub returns-then-s-lt8 : goal.returns-then-s-lt8
returns-then-s-lt8 c = pass_octet _ _ c.requires.0 c.requires.1

pub returns-then-is_ascii : goal.returns-then-is_ascii
returns-then-is_ascii c = pass_run _ _ _ (omega arith) (omega arith) (c.is_ascii.ensures c.if-is_ascii.true)

pub returns-then-i-last : goal.returns-then-i-last
returns-then-i-last c = pass_octet _ _ c.requires.0 c.requires.1

pub returns-then-is_ascii-2 : goal.returns-then-is_ascii-2
returns-then-is_ascii-2 c = pass_run _ _ _ c.requires.0 (omega arith) (λ k h l. c.is_ascii-2.ensures c.if-is_ascii-2.true k (omega arith) (omega arith))

pub returns : goal.returns
returns c = pass_octet _ _ c.requires.0 c.requires.1
