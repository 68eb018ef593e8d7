-- Worked examples of document 02, CR 3: small pages, each with the number of bytes of its texts that are escaped.
use Rattle.std.specs.Prelude.{Bool, true, false, ◌&&◌, List, [], ◌∷◌, ℕ, T, eqb}
use Rattle.options.specs.Options.{with_links}
use Rattle.options.specs.declared.ExtractOptions.{ExtractOptions}
use Rattle.options.specs.declared.Formatting.TheVariants.{Off, Basic, MinimalHtml}
use Rattle.tree.specs.SmallPages.{Rows, ◌is◌, tagged, plain, words, page}
use Rattle.html2text.specs.Escapes.{escaped_length}
use Rattle.html2text.specs.Examples.{formatted, linked, fielded, picturing}

pub record Counted : Type 0 where
  pub options : ExtractOptions
  pub rows : Rows
  pub marks : List ℕ
  pub bytes : ℕ

abbrev pub counted : ExtractOptions → Rows → List ℕ → ℕ → Counted
counted o rows marks bytes = record { options = o; rows = rows; marks = marks; bytes = bytes }

-- what is added inside and beside a cell, of which the second is gathered by the cell's end
abbrev pub in_cell : Rows
in_cell = (0, plain "body") ∷ (1, plain "tr") ∷ (2, plain "td") ∷ (3, words "x") ∷ (2, words "zz") ∷ []

abbrev pub pictured : Rows
pictured = (0, plain "body") ∷ (1, tagged "a" (("href" is " u ") ∷ [])) ∷ (2, tagged "img" (("alt" is "pic") ∷ [])) ∷ []

abbrev pub unpictured : Rows
unpictured = (0, plain "body") ∷ (1, tagged "a" (("href" is " u ") ∷ [])) ∷ (2, plain "img") ∷ []

unfoldable pub counts : List Counted
counts =
    -- a text, LF and eight blanks, a text in a marked row
    counted (formatted MinimalHtml) ((0, plain "p") ∷ (1, words "x<y") ∷ []) [] 3
    ∷ counted (formatted MinimalHtml) ((0, plain "body") ∷ (1, words "\n        ") ∷ []) [] 9
    ∷ counted (formatted MinimalHtml) ((0, plain "body") ∷ (1, plain "p") ∷ (2, words "x") ∷ []) (1 ∷ []) 0
    -- an address, trimmed, and a text in its `a`
    ∷ counted (linked MinimalHtml) ((0, plain "body") ∷ (1, tagged "a" (("href" is " u&v ") ∷ [])) ∷ (2, words "a & b") ∷ []) [] 8
    -- an `a` without links that opens an entry: its text is escaped twice and read once
    ∷ counted (formatted MinimalHtml) ((0, plain "a") ∷ (1, words "<") ∷ []) [] 1
    -- an alt with its entry, and in an `a` with links, where it is not escaped
    ∷ counted (formatted MinimalHtml) pictured [] 3
    ∷ counted (linked MinimalHtml) pictured [] 1
    -- "[picture]" as an alt
    ∷ counted (picturing MinimalHtml) ((0, plain "body") ∷ (1, plain "p") ∷ (2, plain "img") ∷ []) [] 9
    ∷ counted (with_links true (picturing MinimalHtml)) unpictured [] 1
    -- a cell's end
    ∷ counted (formatted MinimalHtml) in_cell [] 1
    -- a field's value, trimmed; the brackets are ours
    ∷ counted (fielded MinimalHtml) ((0, plain "body") ∷ (1, tagged "input" (("value" is " on ") ∷ [])) ∷ []) [] 2
    ∷ counted (fielded MinimalHtml) ((0, plain "body") ∷ (1, plain "button") ∷ (2, words "go") ∷ []) [] 2
    -- nothing is escaped in Basic and Off
    ∷ counted (linked Basic) pictured [] 0
    ∷ counted (formatted Off) ((0, plain "p") ∷ (1, words "x<y") ∷ []) [] 0
    ∷ []

unfoldable pub are_counted : List Counted → Bool
are_counted [] = true
are_counted (e ∷ es) = eqb (escaped_length (λ i. false) (page e.rows e.marks 0) e.options) e.bytes && are_counted es

abbrev pub CountsAreRight : Type 0
CountsAreRight = T (are_counted counts)
