-- `insert_block` meets its contract.
use borrow.Author.Rules.{rules}
use Rattle.visible_text.proofs.InsertLaws.{inserts_line, inserts_paragraph, inserts_none, insert_ready, insert_does}
use Rattle.visible_text.proofs.LeftLaws.{does_keep}
use Rattle.visible_text.proofs.steps.insert_block.Goals as goal

pub push-requires : goal.push-requires
push-requires c = insert_ready _ (inserts_line _ c.in-1.is) c.trim_end.ensures c.requires

pub push_str-requires : goal.push_str-requires
push_str-requires c = insert_ready _ (inserts_paragraph _ c.in-2.is) c.trim_end-in-2.ensures c.requires

pub returns-in-1 : goal.returns-in-1
returns-in-1 c = insert_does _ (inserts_line _ c.in-1.is) c.trim_end.ensures c.push.ensures

pub returns-in-2 : goal.returns-in-2
returns-in-2 c = insert_does _ (inserts_paragraph _ c.in-2.is) c.trim_end-in-2.ensures c.push_str.ensures

pub returns-in_default : goal.returns-in_default
returns-in_default c = does_keep (inserts_none _ (search rules) (search rules))
