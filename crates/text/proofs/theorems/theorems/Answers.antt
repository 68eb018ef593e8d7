-- `theorems` meets its contract.
use Rattle.text.proofs.CollapseLaws.{collapse_length, collapse_idempotent, collapse_collapsed}
use Rattle.text.proofs.EscapeLaws.{escape_append, escape_length}
use Rattle.text.proofs.RunLaws.{collapse_runs}
use Rattle.text.proofs.StruckLaws.{struck_append, struck_trim, struck_rstrip, struck_collapse}
use Rattle.text.proofs.TrimLaws.{rstrip_append, rstrip_length, trim_length, rstrip_idempotent, trim_idempotent}
use Rattle.text.proofs.theorems.theorems.Goals as goal

pub returns : goal.returns
returns c = (
  λ blank. (
    record { append = struck_append blank; trim = struck_trim blank; rstrip = struck_rstrip blank; collapse = struck_collapse blank },
    collapse_collapsed blank,
    collapse_runs blank,
    record { trim = trim_idempotent blank; rstrip = rstrip_idempotent blank; collapse = collapse_idempotent blank },
    record { trim = trim_length blank; rstrip = rstrip_length blank; collapse = collapse_length blank },
    rstrip_append blank,
  ),
  record { append = escape_append; long = escape_length },
)
