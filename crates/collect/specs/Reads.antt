-- How many bytes are read of what a visit adds, by how the open entry's text is shown: those of the texts that are escaped.
use Rattle.std.specs.Prelude.{Bool, true, false, cond, [], ℕ, length}
use Rattle.common.specs.Bytes.{Bytes, codes}
use Rattle.options.specs.declared.ExtractOptions.{ExtractOptions}
use Rattle.options.specs.declared.Formatting.{Formatting}
use Rattle.options.specs.declared.Formatting.TheVariants.{Off, Basic, MinimalHtml}
use Rattle.serializer.specs.Progress.{read_of}
use Rattle.text.specs.Text.{trim}
use Rattle.tree.specs.Node.{Node}
use Rattle.html2text.specs.Collect.{attr, is_unshown_type, field_value}
use Rattle.html2text.specs.Escapes.{escaped_of, escaped_of_element}
use Rattle.html2text.specs.declared.Showing.{Showing}

abbrev pub link_read : Formatting → Bool → Showing → Bytes → ℕ
link_read Off end w href = 0
link_read Basic end w href = 0
link_read MinimalHtml end w href = cond end 0 (read_of w true (trim href))

abbrev pub field_read : Showing → Node → ℕ
field_read w n = read_of w false (trim (field_value n))

abbrev pub input_read : Showing → Node → ℕ
input_read w n = cond (is_unshown_type (trim (attr n (codes "type")))) 0 (field_read w n)

abbrev pub element_read : ExtractOptions → Showing → Node → Bool → ℕ
element_read o w n end = length (cond w.dropped [] (escaped_of_element o w.escapes n end))

abbrev pub read_by : ExtractOptions → Showing → Node → Bool → ℕ → ℕ
read_by o w n end current = length (cond w.dropped [] (escaped_of o w.escapes n end current))
