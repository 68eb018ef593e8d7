-- `enough` meets its contract.
use Rattle.visible_text.proofs.AnswerLaws.{measure_ready, measured}
use Rattle.visible_text.proofs.enough.Goals as goal

pub bound-most-requires : goal.bound-most-requires
bound-most-requires c = (c.requires.0, c.requires.1)

pub dom_node_walk-measured-requires : goal.dom_node_walk-measured-requires
dom_node_walk-measured-requires c = let p = c.requires in record { accepted = p; ready_by = measure_ready p.0 p.1 _ }

pub returns : goal.returns
returns c =
    let p = c.requires in
    let all = measured p.0 p.1 c.dom_node_walk-measured.ensures in
    record { same = all.0; most = all.1.0; need = all.1.1 }
