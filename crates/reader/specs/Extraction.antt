-- The answer to a byte string and options, and the buffers after it, with the filters of document 01, module 5.
use Rattle.std.specs.Prelude.{Bool, false, List, ℕ, Result}
use Rattle.common.specs.Bytes.{Bytes}
use Rattle.filters.specs.Filters.{filtered}
use Rattle.html2text.specs.Escapes as escapes
use Rattle.html2text.specs.Extract as extract
use Rattle.html2text.specs.declared.ExtractError.{ExtractError}
use Rattle.html2text.specs.declared.Extracted.{Extracted}
use Rattle.options.specs.declared.ExtractOptions.{ExtractOptions}
use Rattle.tree.specs.Node.{Node}

-- the filters read rows, depths, the root and the options: of a page without marks
abbrev pub filters : (ℕ → Node) → List ℕ → ℕ → ExtractOptions → ℕ → Bool
filters node_of depths root o i = filtered (record { depths = depths; node = node_of; marked = λ j. false; root = root }) o i

-- the answer, by the lengths of out and work
abbrev pub extraction_of : Bytes → ExtractOptions → ℕ → ℕ → Result Extracted ExtractError
extraction_of s o out work = extract.extraction_of filters s o out work

abbrev pub out_after_of : Bytes → ExtractOptions → Bytes → Bytes → Bytes
out_after_of s o out work = extract.out_after_of filters s o out work

abbrev pub work_after_of : Bytes → ExtractOptions → Bytes → Bytes
work_after_of s o work = extract.work_after_of filters s o work

-- the bytes of the texts that are escaped, each once
abbrev pub escaped_length_of : Bytes → ExtractOptions → ℕ
escaped_length_of s o = escapes.escaped_length_of filters s o
