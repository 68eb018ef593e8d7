-- `sized::names_need` meets its contract.
use Rattle.extract.proofs.ColumnLaws.{names_asked, names_not_asked}
use Rattle.extract.proofs.sized.names_need.Goals as goal

pub returns-then-o : goal.returns-then-o
returns-then-o c = names_asked _ _ c.args.o c.if-o.true c.longest_names.ensures

pub returns-else-o : goal.returns-else-o
returns-else-o c = names_not_asked _ _ c.args.o c.if-o.false
