-- Document 02, CR 3: the texts that an extraction escapes, each as it stands in the sheet, and how many bytes they have. One that is escaped
-- twice counts once. The word for a missing alt counts as an alt does.
use Rattle.std.specs.Prelude.{Bool, ◌&&◌, ◌||◌, not, cond, List, [], ◌∷◌, ℕ, ◌+◌, length, Result, Ok, Err}
use Rattle.common.specs.Bytes.{Bytes, codes}
use Rattle.options.specs.Options.{is_minimal_html}
use Rattle.options.specs.declared.ExtractOptions.{ExtractOptions}
use Rattle.sheet.specs.Verdict.{verdict}
use Rattle.tags.specs.Tags.{is_cell, is_a, is_textarea, is_image, is_button, is_input}
use Rattle.text.specs.Text.{trim}
use Rattle.tree.specs.Node.{element, text, comment, Node}
use Rattle.tree.specs.Page.{Page, page_of}
use Rattle.tree.specs.Questions.{on_sheet}
use Rattle.html2text.specs.Collect.{Event, Entry, tag_number, attr, is_break, is_link, is_unshown_type, field_value, alt_text, collect}
use Rattle.html2text.specs.Extract.{hidden, filtered_by}
use Rattle.html2text.specs.Fused.{Fused, fed}
use Rattle.html2text.specs.Walk.{events, tree_of}
use Rattle.html2text.specs.declared.ExtractNode.{ExtractNode}
use Rattle.html2text.specs.declared.ExtractError.{ExtractError}
use Rattle.html2text.specs.declared.Extracted.{Extracted}

-- of an element, `escape` being whether `serialize` escapes the text of the entry: `collect` escapes a link's address
unfoldable pub escaped_of_element : ExtractOptions → Bool → Node → Bool → Bytes
escaped_of_element o escape n end =
    let t = tag_number n in
    cond (is_break o t) []
    (cond (is_link o t) (cond (is_minimal_html o.formatting && not end) (trim (attr n (codes "href"))) [])
    (cond (o.alt_texts && is_image t) (cond escape (alt_text o n) [])
    (cond (o.form_fields && (is_textarea t || is_button t)) []
    (cond (o.form_fields && (is_input t && not (is_unshown_type (trim (attr n (codes "type"))))))
    (cond escape (trim (field_value n)) [])
    []))))

-- of a node, by the tag of the current entry: `collect` escapes a text in an `a`
unfoldable pub escaped_of : ExtractOptions → Bool → Node → Bool → ℕ → Bytes
escaped_of o escape n end current =
    elim n.kind [
      | element ↦ escaped_of_element o escape n end
      | text ↦ cond (escape || (is_minimal_html o.formatting && is_a current)) n.value []
      | comment ↦ []
    ]

-- what an event adds to the current entry that is escaped. A cell's end is dropped, with all that it has gathered.
abbrev pub escaped_by : ExtractOptions → ExtractNode → Event → Bytes
escaped_by o n e = cond (is_cell n.tag && n.end) [] (escaped_of o n.escape e.node e.end n.tag)

-- entries are held newest first
abbrev pub escaped_last : ExtractOptions → List Entry → Event → Bytes
escaped_last o [] e = []
escaped_last o (n ∷ before) e = escaped_by o n.node e

-- the sum along `collect`
unfoldable pub bytes_escaped : ExtractOptions → List Entry → List Event → ℕ
bytes_escaped o nodes [] = 0
bytes_escaped o nodes (e ∷ es) = length (escaped_last o (collect o nodes e) e) + bytes_escaped o (collect o nodes e) es

-- the same along a fused run
unfoldable pub fed_escaped : ExtractOptions → List Event → Fused → ℕ
fed_escaped o [] F = 0
fed_escaped o (e ∷ es) F = length (escaped_by o (fed o e F).node e) + fed_escaped o es (fed o e F)

-- of a page: `filtered` says which rows `is_main_content` leaves out
unfoldable pub escaped_length : (ℕ → Bool) → Page → ExtractOptions → ℕ
escaped_length filtered p o = bytes_escaped o [] (events p.node (hidden filtered p o) 0 (tree_of p))

-- what the writing of an accepted extraction reads; a refusal reads nothing
abbrev pub read_in : Result Extracted ExtractError → ℕ → ℕ
read_in (Ok x) n = n
read_in (Err e) n = 0

-- of a byte string; `filters` as in `extraction_of`
module _ (filters : (ℕ → Node) → List ℕ → ℕ → ExtractOptions → ℕ → Bool) where
  unfoldable pub escaped_length_of : Bytes → ExtractOptions → ℕ
  escaped_length_of s o = on_sheet (λ l. escaped_length (filtered_by filters (page_of s l) o) (page_of s l) o) (λ v. 0) (verdict s)
