-- `word_end` meets its contract.
use mathlib.Core.Path.{◌≡◌}
use native.Mathlib.Omega.{arith}
use lib.ListN.{length}
use Rattle.tags.proofs.LineLaws.{within_start, within_more, within_space, within_end}
use Rattle.tags.proofs.word_end.Goals as goal

pub loop-i-init : goal.loop-i-init
loop-i-init c = within_start _ _ c.requires

pub returns-then-words-i-eq32 : goal.returns-then-words-i-eq32
returns-then-words-i-eq32 c = within_space c.loop-i.invariant c.loop-i-test.true c.if-words-i-eq32.true

pub loop-i-preserved : goal.loop-i-preserved
loop-i-preserved c = within_more c.loop-i.invariant c.loop-i-test.true c.if-words-i-eq32.false

pub returns : goal.returns
returns c =
    let w = c.loop-i.invariant in
    let e : length c.args.words.now ≡ c.loop-i.i = omega arith in
    rw e (within_end w (omega arith))
