-- Our filters leave out the same rows where an alt is written in, so that both pages give the same.
use mathlib.Core.Path.{subst}
use mathlib.Core.Bool.{Bool, false}
use Prim.Native.Nat.{ℕ}
use Rattle.filters.proofs.AltLaws.{alt_filtered}
use Rattle.html2text.specs.Collect.{missing_alt}
use Rattle.html2text.specs.Extract.{filtered_by}
use Rattle.html2text.specs.MissingAlt.{lacks_alt, alt_written, GiveTheSame}
use Rattle.html2text.proofs.MissingAltLaws.{missing_alt_right}
use Rattle.options.specs.Options.{with_missing_alt}
use Rattle.tree.specs.Page.{Page}
use Rattle.reader.specs.Extraction.{filters}
use Rattle.reader.specs.MissingAlt.{MissingAltWritten}

pub missing_alt_written : MissingAltWritten
missing_alt_written p o on other =
    let first = with_missing_alt on o in
    let second = with_missing_alt other o in
    let left_out = filtered_by filters p first in
    let unmarked : Page = record { depths = p.depths; node = p.node; marked = λ (i : ℕ). false; root = p.root } in
    subst (λ (g : ℕ → Bool). GiveTheSame left_out p first g (alt_written (missing_alt on) p) second)
    (λ k i. alt_filtered lacks_alt (missing_alt on) unmarked o on other i k)
    (missing_alt_right.written left_out p o on other)
