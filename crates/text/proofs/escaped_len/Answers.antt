-- `escaped_len` meets its contract.
use mathlib.Core.Path.{ap}
use native.Mathlib.Omega.{arith}
use lib.ListN.{length}
use Rattle.text.proofs.EscapeLaws.{escape_count, escape_done}
use Rattle.text.proofs.escaped_len.Goals as goal

pub loop-b-preserved : goal.loop-b-preserved
loop-b-preserved c =
    let l = c.loop-b in (
      omega (arith, c.saturating_add-n.ensures),
      escape_count c.args.s.now l.b-index l.n c.entity_len.result c.saturating_add-n.result _
          c.loop-b-test.true c.entity_len.ensures c.saturating_add-n.ensures l.invariant.1,
    )

pub returns : goal.returns
returns c =
    let l = c.loop-b in
    omega (arith, l.invariant.0, l.invariant.1, ap length (escape_done c.args.s.now l.b-index c.loop-b-test.false))
