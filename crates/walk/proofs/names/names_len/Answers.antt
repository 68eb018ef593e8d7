-- `names::names_len` meets its contract.
use Rattle.walk.proofs.NameLaws.{element_names, other_names}
use Rattle.walk.proofs.names.names_len.Goals as goal

pub returns-then-r-eq1 : goal.returns-then-r-eq1
returns-then-r-eq1 c = λ i r_is f_is. element_names _ _ i r_is c.class_and_id.ensures c.if-r-eq1.true f_is

pub returns-else-r-eq1 : goal.returns-else-r-eq1
returns-else-r-eq1 c = λ i r_is f_is. other_names _ _ i r_is c.if-r-eq1.false
