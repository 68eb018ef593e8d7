-- `run` meets its contract.
use mathlib.Core.Path.{◌≡◌, sym, subst, ◌∙◌}
use Prim.Native.Nat.{ℕ, ◌+◌, ◌<◌}
use native.Mathlib.Omega.{arith}
use lib.ListN.{length-map}
use Rattle.byte_regex.specs.Joined.{joined}
use Rattle.byte_regex.specs.Meaning.{step_of, steps_of}
use Rattle.byte_regex.specs.declared.Move.{Move}
use Rattle.byte_regex.proofs.MoveLaws.{Right, table_long, moved, run_start, run_pass, run_fail, run_go, go_less, try_inside, run_tried, run_try, try_less}
use Rattle.byte_regex.proofs.+run.Goals.{After-advance}
use Rattle.byte_regex.proofs.+run.Goals as goal

-- what the move says, whichever it is
here : {t : ℕ} (d : After-advance t) {made : Move} → d.advance.result ≡ made
    → Right (steps_of d.args.steps.now) (joined d.args.class.now d.args.id.now) d.loop-step.i d.loop-step.at made
here d e = moved d.requires.3 d.loop-step.invariant d.advance.ensures e

pub loop-step-init : goal.loop-step-init
loop-step-init t c =
    let a = c.args in
    let f = c.requires in
    run_start (steps_of a.steps.now) (joined a.class.now a.id.now) a.first a.from (subst (λ (n : ℕ). a.first < n) (sym (length-map a.steps.now step_of)) f.0) (omega (arith, f.1, f.2))

pub advance-requires : goal.advance-requires
advance-requires t c =
    let f = c.requires in (
      omega (arith, c.loop-step.invariant.inside, table_long c.args.steps.now c.requires.3),
      omega (arith, c.loop-step.invariant.within, f.2),
      f.2,
    )

pub returns-in-Pass : goal.returns-in-Pass
returns-in-Pass t c = run_pass c.loop-step.invariant (here (goal.at.returns-in-Pass t c).After-advance c.in-Pass.is)

pub returns-in-Fail : goal.returns-in-Fail
returns-in-Fail t c = run_fail c.loop-step.invariant (here (goal.at.returns-in-Fail t c).After-advance c.in-Fail.is)

pub loop-step-smaller-in-Go : goal.loop-step-smaller-in-Go
loop-step-smaller-in-Go t c = go_less c.loop-step.invariant c.in-Go.step c.in-Go.place (here (goal.at.loop-step-smaller-in-Go t c).After-advance c.in-Go.is)

pub loop-step-preserved-in-Go : goal.loop-step-preserved-in-Go
loop-step-preserved-in-Go t c = run_go c.loop-step.invariant c.in-Go.step c.in-Go.place (here (goal.at.loop-step-preserved-in-Go t c).After-advance c.in-Go.is)

pub overflow_add-i : goal.overflow_add-i
overflow_add-i t c = omega (arith, c.loop-step.invariant.inside, table_long c.args.steps.now c.requires.3)

pub run-requires : goal.run-requires
run-requires t c =
    let a = c.args in
    let f = c.requires in
    let l = c.loop-step in
    let h = try_inside l.invariant c.in-Try.step c.in-Try.place (here (goal.at.run-requires t c).After-advance c.in-Try.is) in
    let long = table_long a.steps.now f.3 in (
      omega (arith, c.decreases, l.invariant.forward),
      (subst (λ (n : ℕ). l.i + 1 < n) (length-map a.steps.now step_of) h, omega (arith, l.invariant.within, f.2), f.2, f.3),
    )

pub returns-then-run : goal.returns-then-run
returns-then-run t c = run_tried c.loop-step.invariant c.in-Try.step c.in-Try.place (here (goal.at.returns-then-run t c).After-advance c.in-Try.is) (sym c.if-run.true ∙ c.run.ensures)

pub loop-step-smaller : goal.loop-step-smaller
loop-step-smaller t c = try_less c.loop-step.invariant c.in-Try.step c.in-Try.place (here (goal.at.loop-step-smaller t c).After-advance c.in-Try.is)

pub loop-step-preserved : goal.loop-step-preserved
loop-step-preserved t c = run_try c.loop-step.invariant c.in-Try.step c.in-Try.place (here (goal.at.loop-step-preserved t c).After-advance c.in-Try.is) (sym c.if-run.false ∙ c.run.ensures)
