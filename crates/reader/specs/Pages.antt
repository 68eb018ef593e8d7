-- The pages of document 01, "Pages and their texts", that are marked to be proved, and three of document 02, CR 4: from sheet bytes to
-- text.
use Rattle.std.specs.Prelude.{◌≡◌, Bool, true, false, ◌&&◌, List, [], ◌∷◌, ◌++◌, ℕ, ◌+◌, eqb, length, take, replicate}
use Prim.Native.String.{String}
use Rattle.common.specs.Bytes.{Bytes, codes, same}
use Rattle.html2text.specs.Extract.{numbers}
use Rattle.options.specs.Options.{standing, with_formatting, with_main_content, with_links, with_icons, with_missing_alt}
use Rattle.options.specs.declared.ExtractOptions.{ExtractOptions}
use Rattle.options.specs.declared.Formatting.{Formatting}
use Rattle.options.specs.declared.Formatting.TheVariants.{Off, MinimalHtml}
use Rattle.sheet.specs.Writing.{line}
use Rattle.reader.specs.Extraction.{extraction_of, out_after_of}

-- ---- a sheet from its rows, the pool in their order

pub record Attr : Type 0 where
  pub name : Bytes
  pub value : Bytes

pub record Row : Type 0 where
  pub depth : ℕ
  pub kind : ℕ
  pub name : Bytes
  pub value : Bytes
  pub attributes : List Attr

abbrev element : ℕ → String → List Attr → Row
element d name attributes = record { depth = d; kind = 1; name = codes name; value = []; attributes = attributes }

abbrev words : ℕ → Bytes → Row
words d value = record { depth = d; kind = 3; name = []; value = value; attributes = [] }

unfoldable pub attribute_pool : List Attr → Bytes
attribute_pool [] = []
attribute_pool (a ∷ more) = a.name ++ (a.value ++ attribute_pool more)

abbrev row_pool : Row → Bytes
row_pool r = r.name ++ (r.value ++ attribute_pool r.attributes)

unfoldable pub pool_of : List Row → Bytes
pool_of [] = []
pool_of (r ∷ rs) = row_pool r ++ pool_of rs

unfoldable pub node_lines : ℕ → List Row → Bytes
node_lines at [] = []
node_lines at (r ∷ rs) =
    line 8 (r.depth ∷ r.kind ∷ 0 ∷ at ∷ length r.name ∷ (at + length r.name) ∷ length r.value ∷ length r.attributes ∷ [])
    ++ node_lines (at + length (row_pool r)) rs

unfoldable pub lines_of : ℕ → List Attr → Bytes
lines_of at [] = []
lines_of at (a ∷ more) =
    line 8 (at ∷ length a.name ∷ (at + length a.name) ∷ length a.value ∷ []) ++ lines_of (at + length a.name + length a.value) more

unfoldable pub attribute_lines : ℕ → List Row → Bytes
attribute_lines at [] = []
attribute_lines at (r ∷ rs) = lines_of (at + length r.name + length r.value) r.attributes ++ attribute_lines (at + length (row_pool r)) rs

unfoldable pub attribute_count : List Row → ℕ
attribute_count [] = 0
attribute_count (r ∷ rs) = length r.attributes + attribute_count rs

unfoldable pub sheet_of : List Row → Bytes
sheet_of rows =
    line 8 (length rows ∷ attribute_count rows ∷ length (pool_of rows) ∷ 0 ∷ []) ++ (node_lines 0 rows ++ (attribute_lines 0 rows ++ pool_of rows))

-- ---- options

abbrev formatted : Formatting → ExtractOptions
formatted f = with_formatting f standing

abbrev linked : ExtractOptions
linked = with_links true standing

abbrev main_content : Bool → ExtractOptions
main_content icons = with_main_content true (with_icons icons standing)

abbrev pictured : Bool → ExtractOptions
pictured missing = with_missing_alt missing standing

-- ---- the pages

pub record Case : Type 0 where
  pub options : ExtractOptions
  pub rows : List Row
  pub visits : ℕ
  pub text : Bytes

abbrev case : ExtractOptions → List Row → ℕ → Bytes → Case
case o rows passes text = record { options = o; rows = rows; visits = passes; text = text }

abbrev body : List Row → List Row
body rows = element 0 "body" [] ∷ rows

-- U+2022 and a blank; U+2212
abbrev bullet : Bytes
bullet = 0xe2 ∷ 0x80 ∷ 0xa2 ∷ 0x20 ∷ []

abbrev minus : Bytes
minus = 0xe2 ∷ 0x88 ∷ 0x92 ∷ []

unfoldable pub cases : List Case
cases =
    case standing (body []) 1 []
    ∷ case standing
    (body (element 1 "ul" [] ∷ element 2 "li" [] ∷ words 3 (codes "a") ∷ element 2 "li" [] ∷ words 3 (codes "b") ∷ [])) 10
    (codes "  " ++ (bullet ++ (codes "a\n  " ++ (bullet ++ codes "b"))))
    ∷ case standing
    (body (element 1 "li" [] ∷ words 2 (codes "a") ∷ element 1 "p" [] ∷ words 2 (codes "b") ∷ [])) 8
    (codes "  " ++ (bullet ++ (codes "a\n\n    " ++ (bullet ++ codes "b"))))
    ∷ case standing (body (element 1 "ul" [] ∷ element 1 "p" [] ∷ words 2 (codes "b") ∷ [])) 6 (codes "    b")
    ∷ case (formatted Off)
    (body (element 1 "span" [] ∷ element 2 "div" [] ∷ words 3 (codes "a") ∷ words 1 (codes " b") ∷ [])) 8 (codes "a  b")
    ∷ case (formatted Off) (body (words 1 (codes " x") ∷ [])) 3 (codes " x")
    ∷ case standing
    (body (element 1 "tr" [] ∷ element 2 "td" [] ∷ words 3 (codes "1") ∷ element 2 "td" [] ∷ words 3 (codes "2") ∷ [])) 10 (codes "1\t\t2")
    ∷ case (formatted Off)
    (body (element 1 "tr" [] ∷ element 2 "td" [] ∷ words 3 (codes "1") ∷ element 2 "td" [] ∷ words 3 (codes "2") ∷ [])) 10 (codes "1 2")
    ∷ case standing (body (element 1 "tr" [] ∷ element 2 "td" [] ∷ words 3 (codes "1") ∷ words 2 (codes "x") ∷ [])) 8 (codes "1")
    ∷ case standing
    (body (words 1 (codes "a") ∷ element 1 "br" [] ∷ element 1 "br" [] ∷ words 1 (codes "b") ∷ [])) 6 (codes "a\n\nb")
    ∷ case linked
    (body (element 1 "a" (record { name = codes "href"; value = codes " u " } ∷ []) ∷ words 2 (codes "t") ∷ [])) 5 (codes "t (u)")
    ∷ case (formatted MinimalHtml) (body (element 1 "p" [] ∷ words 2 (codes "a&b") ∷ [])) 5 (codes "<p>a&amp;b</p>")
    ∷ case (main_content false) (body (element 1 "td" [] ∷ words 2 minus ∷ element 2 "b" [] ∷ words 3 (codes "0.4") ∷ [])) 8 (codes "0.4")
    ∷ case (main_content true)
    (body (element 1 "td" [] ∷ words 2 minus ∷ element 2 "b" [] ∷ words 3 (codes "0.4") ∷ [])) 8 (minus ++ codes "0.4")
    -- document 02, CR 4
    ∷ case (pictured true) (body (words 1 (codes "a") ∷ element 1 "img" [] ∷ words 1 (codes "b") ∷ [])) 5 (codes "a[picture]b")
    ∷ case (pictured false) (body (words 1 (codes "a") ∷ element 1 "img" [] ∷ words 1 (codes "b") ∷ [])) 5 (codes "ab")
    ∷ case (pictured true)
    (body (words 1 (codes "a") ∷ element 1 "img" (record { name = codes "alt"; value = [] } ∷ []) ∷ words 1 (codes "b") ∷ [])) 5
    (codes "ab")
    ∷ []

-- extracted with 100 bytes of out and work: number 0, the visits, and the text in out
abbrev room : Bytes
room = replicate 100 0

abbrev case_right : Case → Bool
case_right c =
    let s = sheet_of c.rows in
    let r = numbers (extraction_of s c.options 100 100) in
    eqb r.number 0 && (eqb r.visits c.visits && (eqb r.length (length c.text) && same (take r.length (out_after_of s c.options room room)) c.text))

unfoldable pub all_right : List Case → Bool
all_right [] = true
all_right (c ∷ cs) = case_right c && all_right cs

-- what is to be shown
abbrev pub PagesRight : Type 0
PagesRight = all_right cases ≡ true
