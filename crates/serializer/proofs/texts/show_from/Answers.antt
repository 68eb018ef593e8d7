-- `show_from` meets its contract.
use mathlib.Core.Path.{sym, ◌∙◌}
use native.Mathlib.Omega.{arith}
use Rattle.serializer.proofs.PieceLaws.{from_lead, from_ready, from_shows, read_first, read_within}
use Rattle.writer.proofs.OutLaws.{greater_max}
use Rattle.serializer.proofs.texts.show_from.Goals as goal

pub lead_in-a-requires : goal.lead_in-a-requires
lead_in-a-requires c = let a = c.args in let q = c.requires.dropped_value in from_lead a.f a.bullets a.p a.escaped a.piece.now q.0 q.1 q.2 c.requires.show_ready

pub put_text-q-requires : goal.put_text-q-requires
put_text-q-requires c = let a = c.args in let q = c.requires.dropped_value in record { at_in_bounds = (q.2, q.1.byte_is q.2, omega (arith, read_first a.p.showing a.escaped a.piece.now q.1 q.2)); ready = from_ready a.f a.bullets a.p a.escaped a.piece.now q.0 q.1 q.2 c.requires.show_ready c.lead_in-a.ensures c.times_of-times.ensures }

pub overflow_add-read : goal.overflow_add-read
overflow_add-read c = let a = c.args in let q = c.requires.dropped_value in omega (arith, c.well_formed, c.requires.show_ready.count, read_within a.p.showing a.escaped a.piece.now c.counted.ensures (omega (arith, c.put_text-q.ensures.read_is, read_first a.p.showing a.escaped a.piece.now q.1 q.2)))

pub returns : goal.returns
returns c = let a = c.args in let q = c.requires.dropped_value in from_shows a.f a.bullets a.p a.escaped a.piece.now q.0 q.1 q.2 c.requires.show_ready c.lead_in-a.ensures c.times_of-times.ensures c.put_text-q.ensures c.longer-len.ensures (c.max-need.ensures ∙ sym (greater_max _ _)) c.counted.ensures c.shown_then-showing.ensures
