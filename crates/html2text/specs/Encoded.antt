-- The text of an extraction is UTF-8 (RFC 3629), whatever the formatting and the options.
use Rattle.std.specs.Prelude.{Bool, List, ℕ}
use Rattle.common.specs.Bytes.{Bytes}
use Rattle.options.specs.declared.ExtractOptions.{ExtractOptions}
use Rattle.tree.specs.Node.{Node}
use Rattle.utf8.specs.Abnf.{UTF8_octets}
use Rattle.html2text.specs.Demand3.{Gives}

-- for all filters, sheets, options and buffers: a text that is given is of the grammar of RFC 3629, section 4
abbrev pub TextIsUtf8 : Type 0
TextIsUtf8 =
    (filters : (ℕ → Node) → List ℕ → ℕ → ExtractOptions → ℕ → Bool) (s : Bytes) (o : ExtractOptions) (out work t : Bytes)
    → Gives filters s o out work t → UTF8_octets t
