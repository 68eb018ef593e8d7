-- Worked examples: texts that are icons, and the rows of small pages that are filtered out.
use Rattle.std.specs.Prelude.{Bool, true, false, ◌&&◌, not, List, [], ◌∷◌, ◌++◌, map, ℕ, zero, suc, T, get_or, length}
use Prim.Native.String.{String}
use Rattle.common.specs.Bytes.{Bytes, codes, same}
use Rattle.options.specs.Options.{standing, with_main_content, with_comments, with_post_meta, with_hidden_elements, with_icons}
use Rattle.options.specs.declared.ExtractOptions.{ExtractOptions}
use Rattle.tree.specs.Node.{element, text, comment, Attribute, Node}
use Rattle.tree.specs.Page.{Page}
use Rattle.filters.specs.Filters.{filtered}
use Rattle.filters.specs.Icon.{is_icon}

-- the rows of a page, each with its depth
abbrev pub Rows : Type 0
Rows = List (ℕ × Node)

infix 90 ◌is◌
-- an attribute, a row with a name and attributes, a text, a comment
abbrev pub ◌is◌ : String → String → Attribute
name is value = record { name = codes name; value = codes value }

abbrev pub tagged : String → List Attribute → Node
tagged name attributes = record { kind = element; name = codes name; value = []; attributes = attributes }

abbrev pub plain : String → Node
plain name = tagged name []

abbrev pub bytes : Bytes → Node
bytes value = record { kind = text; name = []; value = value; attributes = [] }

abbrev pub words : String → Node
words value = bytes (codes value)

abbrev pub remark : Node
remark = record { kind = comment; name = []; value = []; attributes = [] }

abbrev pub page_of : Rows → ℕ → Page
page_of rows root = record { depths = map (λ (r : ℕ × Node). r.0) rows; node = λ i. (get_or rows i (0, remark)).1; marked = λ i. false; root = root }

-- main_content with the other standing options, and with none of them
abbrev pub main : ExtractOptions
main = with_main_content true standing

abbrev pub strict : ExtractOptions
strict = with_comments false (with_post_meta false (with_hidden_elements true (with_icons true main)))

-- of the rows from row i on, those that are filtered out
unfoldable pub filtered_from : Page → ExtractOptions → ℕ → ℕ → List ℕ
unfolding filtered
filtered_from p o i zero = []
filtered_from p o i (suc n) = elim (filtered p o i) [ true ↦ i ∷ filtered_from p o (suc i) n | false ↦ filtered_from p o (suc i) n ]

pub data Example : Type 0 where
  dropped kept : Bool → Bytes → Example
  -- options, rows, the root, and the rows that are filtered out
  page : ExtractOptions → Rows → ℕ → List ℕ → Example

unfoldable pub is_right : Example → Bool
unfolding filtered_from is_icon
is_right (dropped icons value) = is_icon icons value
is_right (kept icons value) = not (is_icon icons value)
is_right (page o rows root out) = same (filtered_from (page_of rows root) o 0 (length rows)) out

unfoldable pub are_right : List Example → Bool
unfolding is_right
are_right [] = true
are_right (e ∷ es) = is_right e && are_right es

unfoldable pub icons : List Example
icons =
    -- document 01: "Three bytes, icons 0: dropped EE 80 80, EF A3 BF, E2 88 92, EF BF BD; kept E2 80 80, EF A4 BF, "abc""
    dropped false (0xee ∷ 0x80 ∷ 0x80 ∷ []) ∷ dropped false (0xef ∷ 0xa3 ∷ 0xbf ∷ []) ∷ dropped false (0xe2 ∷ 0x88 ∷ 0x92 ∷ []) ∷ dropped false (0xef ∷ 0xbf ∷ 0xbd ∷ [])
    ∷ kept false (0xe2 ∷ 0x80 ∷ 0x80 ∷ []) ∷ kept false (0xef ∷ 0xa4 ∷ 0xbf ∷ []) ∷ kept false (codes "abc")
    -- icons 1, the ends of the three ranges and "¶"
    ∷ dropped true (0xee ∷ 0x80 ∷ 0x80 ∷ []) ∷ dropped true (0xef ∷ 0xa3 ∷ 0xbf ∷ [])
    ∷ dropped true (0xf3 ∷ 0xb0 ∷ 0x80 ∷ 0x80 ∷ []) ∷ dropped true (0xf3 ∷ 0xbf ∷ 0xbf ∷ 0xbd ∷ [])
    ∷ dropped true (0xf4 ∷ 0x80 ∷ 0x80 ∷ 0x80 ∷ []) ∷ dropped true (0xf4 ∷ 0x8f ∷ 0xbf ∷ 0xbd ∷ [])
    ∷ dropped true (0xc2 ∷ 0xb6 ∷ [])
    -- what stands beside them
    ∷ kept true (0xed ∷ 0x9f ∷ 0xbf ∷ []) ∷ kept true (0xef ∷ 0xa4 ∷ 0x80 ∷ [])
    ∷ kept true (0xf3 ∷ 0xaf ∷ 0xbf ∷ 0xbf ∷ []) ∷ kept true (0xf3 ∷ 0xbf ∷ 0xbf ∷ 0xbe ∷ []) ∷ kept true (0xf3 ∷ 0xbf ∷ 0xbf ∷ 0xbf ∷ [])
    ∷ kept true (0xf4 ∷ 0x8f ∷ 0xbf ∷ 0xbe ∷ []) ∷ kept true (0xf4 ∷ 0x8f ∷ 0xbf ∷ 0xbf ∷ [])
    -- "−", U+FFFD, two icons together, U+00A0 and an icon, no text
    ∷ kept true (0xe2 ∷ 0x88 ∷ 0x92 ∷ []) ∷ kept true (0xef ∷ 0xbf ∷ 0xbd ∷ [])
    ∷ kept true (0xee ∷ 0x80 ∷ 0x80 ∷ 0xee ∷ 0x80 ∷ 0x80 ∷ []) ∷ kept true (0xc2 ∷ 0xa0 ∷ 0xee ∷ 0x80 ∷ 0x80 ∷ []) ∷ kept true []
    -- octets that would give such a number and are no encoding of it
    ∷ kept true (0xf0 ∷ 0x8e ∷ 0x80 ∷ 0x80 ∷ []) ∷ kept true (0xed ∷ 0xc0 ∷ 0x80 ∷ []) ∷ kept true (0xc2 ∷ 0xf6 ∷ [])
    -- icons 0: the pilcrow, and no four bytes
    ∷ dropped false (0xc2 ∷ 0xb6 ∷ []) ∷ kept false (0xf3 ∷ 0xb0 ∷ 0x80 ∷ 0x80 ∷ [])
    ∷ []

-- U+F0000
abbrev pub an_icon : Bytes
an_icon = 0xf3 ∷ 0xb0 ∷ 0x80 ∷ 0x80 ∷ []

abbrev pub some_icons : Rows
some_icons =
    (0, plain "body")
    ∷ (1, bytes (0x20 ∷ 0x0b ∷ an_icon ++ 0x0d ∷ 0x0a ∷ []))
    ∷ (1, bytes (0xc2 ∷ 0xa0 ∷ an_icon))
    ∷ (1, record { kind = element; name = codes "img"; value = []; attributes = record { name = codes "alt"; value = an_icon } ∷ [] })
    ∷ (1, record { kind = comment; name = []; value = an_icon; attributes = [] })
    ∷ []

unfoldable pub pages : List Example
pages =
    -- names and depths: a nav, a footer above depth 3, a ul above depth 4
    page main ((0, plain "body") ∷ (1, plain "main") ∷ (2, plain "nav") ∷ (2, plain "h1") ∷ (2, plain "footer") ∷ (2, plain "div") ∷ (3, plain "ul") ∷ (3, plain "div") ∷ (4, plain "ul") ∷ (1, remark) ∷ []) 0 (2 ∷ 4 ∷ 6 ∷ [])
    -- footers at depth 3: a text alone behind one is not enough, a text and a comment are, and then its class is not asked
    ∷ page main ((0, plain "body") ∷ (1, plain "div") ∷ (2, plain "div") ∷ (3, plain "footer") ∷ (3, words " ") ∷ []) 0 (3 ∷ [])
    ∷ page main ((0, plain "body") ∷ (1, plain "div") ∷ (2, plain "div") ∷ (3, tagged "footer" ("class" is "sidebar" ∷ [])) ∷ (3, words " ") ∷ (3, remark) ∷ []) 0 []
    -- what follows the footer's parent counts, what follows a child of body does not
    ∷ page main ((0, plain "body") ∷ (1, plain "div") ∷ (2, plain "div") ∷ (3, plain "footer") ∷ (2, plain "p") ∷ []) 0 []
    ∷ page main ((0, plain "body") ∷ (1, plain "div") ∷ (2, plain "div") ∷ (3, plain "footer") ∷ (1, plain "p") ∷ []) 0 (3 ∷ [])
    -- the root is a row further down: depth still counts from body
    ∷ page main ((0, plain "body") ∷ (1, plain "div") ∷ (2, plain "div") ∷ (3, plain "div") ∷ (4, plain "ul") ∷ []) 3 []
    -- and from a nearer one
    ∷ page main ((0, plain "body") ∷ (1, plain "div") ∷ (2, plain "body") ∷ (3, plain "div") ∷ (4, plain "ul") ∷ []) 3 (4 ∷ [])
    -- a landmark as id and as class; a sidebar, after an article's class, on a span, on td and th
    ∷ page main ((0, plain "body") ∷ (1, tagged "div" ("id" is "header" ∷ [])) ∷ (1, tagged "div" ("class" is "header" ∷ [])) ∷ (1, tagged "div" ("class" is "sidebar" ∷ [])) ∷ (1, tagged "div" ("class" is "post" ∷ "id" is "sidebar" ∷ [])) ∷ (1, tagged "span" ("class" is "sidebar" ∷ [])) ∷ (1, tagged "td" ("class" is "sidebar" ∷ [])) ∷ (1, tagged "th" ("class" is "sidebar" ∷ [])) ∷ []) 0 (1 ∷ 3 ∷ 6 ∷ [])
    -- values are trimmed, an empty one is there, the first of a name counts; a role is asked only beside class or id
    ∷ page main ((0, plain "body") ∷ (1, tagged "p" ("rel" is " tag " ∷ [])) ∷ (1, tagged "p" ("hidden" is "" ∷ [])) ∷ (1, tagged "p" ("aria-hidden" is "false" ∷ "aria-hidden" is "true" ∷ [])) ∷ (1, tagged "p" ("style" is "color:red; display:none" ∷ [])) ∷ (1, tagged "p" ("role" is "banner" ∷ [])) ∷ (1, tagged "p" ("role" is "banner" ∷ "id" is "x" ∷ [])) ∷ (1, tagged "p" ("data-ad" is "" ∷ "id" is "x" ∷ [])) ∷ (1, tagged "p" ("rel" is "main" ∷ "role" is "banner" ∷ "id" is "x" ∷ [])) ∷ []) 0 (1 ∷ 2 ∷ 4 ∷ 6 ∷ 7 ∷ [])
    -- options
    ∷ page strict ((0, plain "body") ∷ (1, tagged "p" ("class" is "hidden" ∷ [])) ∷ (1, tagged "p" ("class" is "comments" ∷ [])) ∷ (1, plain "div") ∷ (2, plain "div") ∷ (3, tagged "p" ("class" is "byline" ∷ [])) ∷ []) 0 (2 ∷ 5 ∷ [])
    ∷ page main ((0, plain "body") ∷ (1, tagged "p" ("class" is "hidden" ∷ [])) ∷ (1, tagged "p" ("class" is "comments" ∷ [])) ∷ (1, plain "div") ∷ (2, plain "div") ∷ (3, tagged "p" ("class" is "byline" ∷ [])) ∷ []) 0 (1 ∷ [])
    -- an icon of plane 15 in blanks, beside U+00A0, in an alt and in a comment; with icons 0 no row is dropped
    ∷ page (with_icons true main) some_icons 0 (1 ∷ [])
    ∷ page main some_icons 0 []
    -- sign-in at depth 2 and at depth 3
    ∷ page main ((0, plain "body") ∷ (1, plain "div") ∷ (2, tagged "p" ("class" is "login" ∷ [])) ∷ (2, plain "div") ∷ (3, tagged "p" ("class" is "login" ∷ [])) ∷ []) 0 (4 ∷ [])
    -- links: 2 of 10 bytes are not more than a fifth, 3 are
    ∷ page main ((0, plain "body") ∷ (1, plain "div") ∷ (2, plain "div") ∷ (3, plain "article") ∷ (4, words "01234567") ∷ (4, plain "a") ∷ (5, words "89") ∷ (3, plain "article") ∷ (4, words "0123456") ∷ (4, plain "a") ∷ (5, words "789") ∷ []) 0 (7 ∷ [])
    ∷ []

abbrev pub ExamplesAreRight : Type 0
ExamplesAreRight = T (are_right icons && are_right pages)
