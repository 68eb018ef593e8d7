-- `collapsed_from` meets its contract.
use mathlib.Core.Path.{sym, ap, ◌∙◌}
use native.Mathlib.Omega.{arith}
use lib.ListN.{length}
use Rattle.text.specs.Text.{is_space}
use Rattle.text.proofs.CollapseLaws.{collapse_count, collapse_done, collapse_from_length, space_then, space_done}
use Rattle.text.proofs.collapsed_from.Goals as goal

pub overflow_add-n : goal.overflow_add-n
overflow_add-n c =
    let l = c.loop-b in
    omega (arith, collapse_count is_space l.before _ l.b-index l.n c.squeezed_len-n.result _ c.loop-b-test.true c.is_space-blank.ensures c.squeezed_len-n.ensures l.invariant.0, collapse_from_length is_space c.args.space c.args.s.now)

pub loop-b-preserved : goal.loop-b-preserved
loop-b-preserved c =
    let l = c.loop-b in (
      collapse_count is_space l.before _ l.b-index l.n c.squeezed_len-n.result _ c.loop-b-test.true c.is_space-blank.ensures c.squeezed_len-n.ensures l.invariant.0,
      space_then is_space l.before _ l.b-index c.loop-b-test.true c.is_space-blank.ensures ∙ l.invariant.1,
    )

pub returns : goal.returns
returns c =
    let l = c.loop-b in (
      omega (arith, l.invariant.0, ap length (collapse_done is_space l.before c.args.s.now l.b-index c.loop-b-test.false)),
      sym (space_done is_space l.before c.args.s.now l.b-index c.loop-b-test.false) ∙ l.invariant.1,
    )
