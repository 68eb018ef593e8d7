-- `cursor::skip` meets its contract.
use mathlib.Core.Path.{◌≡◌, refl, sym, ◌∙◌}
use native.Mathlib.Omega.{arith}
use Rattle.tree.proofs.Scans.{past_stop, past_more, past_done}
use Rattle.walk.proofs.cursor.skip.Goals as goal

pub loop-k-init : goal.loop-k-init
loop-k-init c = record { same = refl; far = λ h. refl }

pub bounds-depths-k : goal.bounds-depths-k
bounds-depths-k c = c.loop-k-test.true

pub returns-then-from-d : goal.returns-then-from-d
returns-then-from-d c = sym (past_stop _ _ _ _ c.loop-k-test.true refl (rw (← c.from.ensures) c.if-from-d.true)) ∙ c.loop-k.invariant.same

pub loop-k-smaller : goal.loop-k-smaller
loop-k-smaller c = omega arith

pub loop-k-preserved : goal.loop-k-preserved
loop-k-preserved c = record { same = sym (past_more _ _ _ _ c.loop-k-test.true refl (rw (← c.from.ensures) c.if-from-d.false)) ∙ c.loop-k.invariant.same; far = omega arith }

pub returns : goal.returns
returns c =
    let e : c.max.result ≡ c.loop-k.k = grind (arith, c.loop-k.invariant.far) in
    e ∙ sym (past_done _ _ _ c.loop-k-test.false) ∙ c.loop-k.invariant.same
