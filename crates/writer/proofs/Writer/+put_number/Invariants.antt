-- `put_number` meets its contract.
use Rattle.writer.proofs.Writer.+put_number.Given as goal

abbrev pub decreases-put_number : goal.decreases-put_number
decreases-put_number l = l.n
