-- `first_of` meets its contract.
use native.Mathlib.Omega.{arith}
use mathlib.Core.Path.{◌≡◌, sym, ◌∙◌}
use lib.ListN.{length}
use borrow.Author.Tests.{lt-ltb, le-ltb}
use Rattle.writer.proofs.FirstLaws.{first_more, first_found, first_none}
use Rattle.writer.proofs.texts.first_of.Goals as goal

pub returns-then-not-is_trimmed : goal.returns-then-not-is_trimmed
returns-then-not-is_trimmed c =
    let h = c.loop-i-test.true in
    let e = sym c.is_trimmed.ensures ∙ c.if-not-is_trimmed.true in
    record {
      within = omega arith;
      rest = sym (first_found c.args.trim c.args.s.now c.loop-i.i h (rw c.byte_at-b.ensures.0 at e)) ∙ c.loop-i.invariant.1;
      byte_is = λ k. c.byte_at-b.ensures.0;
      read_is = rw (lt-ltb _ _ h) (omega (arith, c.byte_at-b.ensures.1, c.loop-i.invariant.0));
    }

pub loop-i-preserved : goal.loop-i-preserved
loop-i-preserved c =
    let e = sym c.is_trimmed.ensures ∙ c.if-not-is_trimmed.false in (
      omega (arith, c.byte_at-b.ensures.1, c.loop-i.invariant.0),
      sym (first_more c.args.trim c.args.s.now c.loop-i.i c.loop-i-test.true (rw c.byte_at-b.ensures.0 at e)) ∙ c.loop-i.invariant.1,
    )

pub returns : goal.returns
returns c =
    let n = length c.args.s.now in
    let e : c.loop-i.i ≡ length c.args.s.now = omega arith in
    record {
      within = omega arith;
      rest = sym (first_none c.args.trim c.args.s.now n (omega arith)) ∙ (rw e at c.loop-i.invariant.1);
      byte_is = λ k. absurd (omega arith);
      read_is = rw (le-ltb n n (omega arith)) (omega (arith, c.loop-i.invariant.0));
    }
