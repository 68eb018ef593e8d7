-- `show` meets its contract.
use native.Mathlib.Omega.{arith}
use Rattle.serializer.proofs.PieceLaws.{shows_empty, shows_dropped, shows_blank, read_blank, read_within}
use Rattle.serializer.proofs.texts.show.Goals as goal

pub returns-then-piece-eq0 : goal.returns-then-piece-eq0
returns-then-piece-eq0 c = let a = c.args in shows_empty a.escaped a.piece.now c.if-piece-eq0.true c.requires.below

pub pass_by-requires : goal.pass_by-requires
pass_by-requires c = record { piece_in_bounds = c.requires.small; read_in_bounds = (omega (arith, c.requires.count), omega arith) }

pub returns-then-w : goal.returns-then-w
returns-then-w c = let a = c.args in shows_dropped a.escaped a.piece.now c.if-w.true c.pass_by.ensures

pub pass_by-requires-then-first-piece : goal.pass_by-requires-then-first-piece
pass_by-requires-then-first-piece c = let a = c.args in record { piece_in_bounds = c.requires.small; read_in_bounds = (omega (arith, c.requires.count), read_within a.p.showing a.escaped a.piece.now c.counted.ensures (omega (arith, read_blank a.p.showing a.escaped a.piece.now c.first_of-first.ensures c.if-first-piece.true))) }

pub returns-then-first-piece : goal.returns-then-first-piece
returns-then-first-piece c = let a = c.args in shows_blank a.escaped a.piece.now c.if-w.false c.if-piece-eq0.false (rw c.trims_front.ensures at c.first_of-first.ensures) c.if-first-piece.true c.counted.ensures c.pass_by-then-first-piece.ensures

pub show_from-requires : goal.show_from-requires
show_from-requires c = let b = c.first_of-first.ensures in record { dropped_value = (c.if-w.false, rw c.trims_front.ensures at b, omega (arith, b.within, c.if-first-piece.false)); show_ready = c.requires }
