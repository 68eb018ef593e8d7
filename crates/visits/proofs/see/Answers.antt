-- `see` meets its contract.
use native.Mathlib.Omega.{arith}
use Rattle.visits.proofs.SeeLaws.{advance_ready, none_left, begin_places, end_places, sees_begin, sees_end, sees_left_out}
use Rattle.visits.proofs.see.Goals as goal

pub advance-requires : goal.advance-requires
advance-requires c = let p = c.requires in advance_ready p.noted p.nodes_in_bounds

pub returns-in_err-t : goal.returns-in_err-t
returns-in_err-t c = let p = c.requires in let a = c.advance in rw c.from_residual.ensures (none_left p.noted p.nodes_in_bounds a.new.stack (omega arith) a.ensures c.in_err-t.was)

pub visit_at-v-requires : goal.visit_at-v-requires
visit_at-v-requires c = let p = c.requires in let a = c.advance in begin_places p.noted p.nodes_in_bounds a.new.stack (omega arith) a.ensures c.in_ok-t.was c.in-Begin.is

pub visit_at-v-requires-in-End : goal.visit_at-v-requires-in-End
visit_at-v-requires-in-End c = let p = c.requires in let a = c.advance in end_places p.noted p.nodes_in_bounds a.new.stack (omega arith) a.ensures c.in_ok-t.was c.in-End.is

pub returns-in-Begin : goal.returns-in-Begin
returns-in-Begin c = let p = c.requires in let a = c.advance in sees_begin p.noted p.nodes_in_bounds a.new.stack (omega arith) a.ensures c.in_ok-t.was c.in-Begin.is c.visit_at-v.ensures

pub returns-in-End : goal.returns-in-End
returns-in-End c = let p = c.requires in let a = c.advance in sees_end p.noted p.nodes_in_bounds a.new.stack (omega arith) a.ensures c.in_ok-t.was c.in-End.is c.visit_at-v-in-End.ensures

pub returns-in-LeftOut : goal.returns-in-LeftOut
returns-in-LeftOut c = let p = c.requires in let a = c.advance in sees_left_out p.noted p.nodes_in_bounds a.new.stack (omega arith) a.ensures c.in_ok-t.was c.in-LeftOut.is
