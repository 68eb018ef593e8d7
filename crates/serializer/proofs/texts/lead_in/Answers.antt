-- `lead_in` meets its contract.
use Rattle.serializer.proofs.ShowingLaws.{rises_led, lead_in_able, lead_in_works, lead_in_none}
use Rattle.serializer.proofs.TextLaws.{clear_alone}
use Rattle.serializer.proofs.WorksLaws.{out_first, out_able, out_then, out_alone}
use Rattle.serializer.proofs.texts.lead_in.Goals as goal

pub margin-a-requires : goal.margin-a-requires
margin-a-requires c = rw c.is_off.ensures (out_first (rises_led _ _) (lead_in_able _ _ _ c.if-w.true c.requires))

pub lead-requires : goal.lead-requires
lead-requires c = rw c.is_basic.ensures (out_able (out_then (rw c.is_off.ensures at c.margin-a.ensures) (out_alone (clear_alone _))) (lead_in_able _ _ _ c.if-w.true c.requires))

pub returns-then-w : goal.returns-then-w
returns-then-w c = lead_in_works _ _ _ c.if-w.true (out_then (out_then (rw c.is_off.ensures at c.margin-a.ensures) (out_alone (clear_alone _))) (rw c.is_basic.ensures at c.lead.ensures))

pub returns : goal.returns
returns c = lead_in_none _ _ _ c.if-w.false
