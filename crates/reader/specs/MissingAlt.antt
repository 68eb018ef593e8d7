-- Document 02, CR 4, with our filters, which read no alt.
use Rattle.std.specs.Prelude.{Bool}
use Rattle.html2text.specs.Collect.{missing_alt}
use Rattle.html2text.specs.Extract.{filtered_by}
use Rattle.html2text.specs.MissingAlt.{alt_written, GiveTheSame}
use Rattle.options.specs.Options.{with_missing_alt}
use Rattle.options.specs.declared.ExtractOptions.{ExtractOptions}
use Rattle.tree.specs.Page.{Page}
use Rattle.reader.specs.Extraction.{filters}

-- every page gives under every options what it gives with that alt written in, and then missing_alt has no say
module _ (p : Page) (o : ExtractOptions) (on other : Bool) where
  abbrev written : Page
  written = alt_written (missing_alt on) p

  abbrev first : ExtractOptions
  first = with_missing_alt on o

  abbrev second : ExtractOptions
  second = with_missing_alt other o

  abbrev pub AltIsWritten : Type 0
  AltIsWritten = GiveTheSame (filtered_by filters p first) p first (filtered_by filters written second) written second

abbrev pub MissingAltWritten : Type 0
MissingAltWritten = (p : Page) (o : ExtractOptions) (on other : Bool) → AltIsWritten p o on other
