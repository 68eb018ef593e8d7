-- `opens_plain` meets its contract.
use borrow.Author.Tests.{not-true}
use Rattle.serializer.proofs.html.opens_plain.Goals as goal

pub returns-then-not-n : goal.returns-then-not-n
returns-then-not-n c = rw (not-true c.args.n.end c.if-not-n.true)
