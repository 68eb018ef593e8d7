-- Worked examples: small pages with the texts, visits and needs that the Rust's functions have for them or, with missing_alt on, that
-- document 02, CR 4, asks for, and calls with buffers.
use Rattle.std.specs.Prelude.{Bool, true, false, ◌&&◌, cond, List, [], ◌∷◌, ◌++◌, ℕ, T, eqb, length, replicate}
use Prim.Native.String.{String}
use Rattle.common.specs.Answer.{Answer, refused, accepted}
use Rattle.common.specs.Bytes.{Bytes, codes, same}
use Rattle.options.specs.Options.{standing, with_formatting, with_main_content, with_list_bullets, with_alt_texts, with_links, with_form_fields, with_missing_alt}
use Rattle.options.specs.declared.ExtractOptions.{ExtractOptions}
use Rattle.options.specs.declared.Formatting.{Formatting}
use Rattle.options.specs.declared.Formatting.TheVariants.{Off, Basic, MinimalHtml}
use Rattle.tree.specs.Node.{Node}
use Rattle.tree.specs.Page.{Page}
use Rattle.tree.specs.SmallPages.{◌is◌, tagged, plain, words, remark, page}
use Rattle.html2text.specs.Extract.{Run, going, too_many_levels, too_many_rows, serialized, finished, entries, passes, work_need, extraction, out_after, work_after, numbers, extraction_of, out_after_of, work_after_of}

-- ---- the standing options but for formatting and one more

abbrev pub formatted : Formatting → ExtractOptions
formatted f = with_formatting f standing

abbrev pub linked : Formatting → ExtractOptions
linked f = with_links true (formatted f)

abbrev pub fielded : Formatting → ExtractOptions
fielded f = with_form_fields true (formatted f)

abbrev pub unbulleted : Formatting → ExtractOptions
unbulleted f = with_list_bullets false (formatted f)

abbrev pub unalternated : Formatting → ExtractOptions
unalternated f = with_alt_texts false (formatted f)

abbrev pub picturing : Formatting → ExtractOptions
picturing f = with_missing_alt true (formatted f)

abbrev pub main : ExtractOptions
main = with_main_content true standing

-- no row is filtered out
abbrev pub none : ℕ → Bool
none i = false

-- ---- texts

-- options, page, its text, its visits, the need of work and the need of out
pub record Example : Type 0 where
  pub options : ExtractOptions
  pub page : Page
  pub text : Bytes
  pub visits : ℕ
  pub work : ℕ
  pub out : ℕ

abbrev pub example : ExtractOptions → Page → Bytes → ℕ → ℕ → ℕ → Example
example o p t visits work out = record { options = o; page = p; text = t; visits = visits; work = work; out = out }

abbrev pub goes_to : Run → Bytes → ℕ → Bool
goes_to (going S) t out = same (finished S) t && eqb S.out.peak out
goes_to (too_many_levels line) t out = false
goes_to (too_many_rows line) t out = false

unfoldable pub is_right : Example → Bool
is_right e =
    goes_to (serialized e.options (entries none e.page e.options)) e.text e.out
    && (eqb (passes none e.page e.options) e.visits && eqb (work_need none e.page e.options) e.work)

unfoldable pub are_right : List Example → Bool
are_right [] = true
are_right (e ∷ es) = is_right e && are_right es

-- U+2022
abbrev dot : Bytes
dot = 0xe2 ∷ 0x80 ∷ 0xa2 ∷ []

-- `a<img>b`
abbrev between : Page
between = page ((0, plain "body") ∷ (1, words "a") ∷ (1, plain "img") ∷ (1, words "b") ∷ []) [] 0

unfoldable pub pages : List Example
pages =
    -- `a<pre></pre>  b  c<p>d  e</p>`: a childless pre has no end, so that what follows is not collapsed
    example standing
    (page ((0, plain "body") ∷ (1, words "a") ∷ (1, plain "pre") ∷ (1, words "  b  c") ∷ (1, plain "p") ∷ (2, words "d  e") ∷ []) [] 0)
    (codes "a\n  b  c\nd  e") 8 6 13
    -- `<tr></tr><td>1</td><td>2</td>`: a childless tr stays open
    ∷ example standing
    (page ((0, plain "body") ∷ (1, plain "tr") ∷ (1, plain "td") ∷ (2, words "1") ∷ (1, plain "td") ∷ (2, words "2") ∷ []) [] 0)
    (codes "1\t\t2") 9 1 4
    -- `<a>a&amp;b</a>`, root row 1: escaped by `collect` and again by `serialize`
    ∷ example (formatted MinimalHtml)
    (page ((0, plain "body") ∷ (1, plain "a") ∷ (2, words "a&b") ∷ []) [] 1)
    (codes "a&amp;amp;b") 3 7 11
    -- `<a href="u"><img alt="<b>&"></a>`: not escaped at all
    ∷ example (linked MinimalHtml)
    (page ((0, plain "body") ∷ (1, tagged "a" ("href" is "u" ∷ [])) ∷ (2, tagged "img" ("alt" is "<b>&" ∷ [])) ∷ []) [] 0)
    (codes "<a href=\"u\"><b>&</a>") 5 16 20
    -- `<span><td>1</td></span>x`: the end of the span has an entry, since the one before it is deeper
    ∷ example (formatted Off)
    (page ((0, plain "body") ∷ (1, plain "span") ∷ (2, plain "td") ∷ (3, words "1") ∷ (1, words "x") ∷ []) [] 0)
    (codes "1x") 8 1 2
    -- `<tr><td></td>x</tr>`: a childless td has no end, so that nothing is lost
    ∷ example (formatted Off)
    (page ((0, plain "body") ∷ (1, plain "tr") ∷ (2, plain "td") ∷ (2, words "x") ∷ []) [] 0)
    (codes "x") 6 1 1
    -- `<tr><td>1</td><a href="u">t</a></tr>`: what is hung on a cell's end is lost; a link has entries of its own
    ∷ example (formatted Off)
    (page ((0, plain "body") ∷ (1, plain "tr") ∷ (2, plain "td") ∷ (3, words "1") ∷ (2, tagged "a" ("href" is "u" ∷ [])) ∷ (3, words "t") ∷ []) [] 0)
    (codes "1") 10 1 1
    -- `<tr><td>1</td><a href="u">t</a></tr>`
    ∷ example (linked Off)
    (page ((0, plain "body") ∷ (1, plain "tr") ∷ (2, plain "td") ∷ (3, words "1") ∷ (2, tagged "a" ("href" is "u" ∷ [])) ∷ (3, words "t") ∷ []) [] 0)
    (codes "1t (u)") 10 4 6
    -- `<a>t</a>`: an absent href
    ∷ example (linked Off)
    (page ((0, plain "body") ∷ (1, plain "a") ∷ (2, words "t") ∷ []) [] 0)
    (codes "t ()") 5 3 4
    -- `<li>a</li><p>b</p>`: an li's end leaves the level open, and its prefix is the next text's
    ∷ example standing
    (page ((0, plain "body") ∷ (1, plain "li") ∷ (2, words "a") ∷ (1, plain "p") ∷ (2, words "b") ∷ []) [] 0)
    (codes "  " ++ (dot ++ (codes " a\n\n    " ++ (dot ++ codes " b")))) 8 1 18
    -- `<ul></ul><p>b</p>`: a childless ul leaves the level open
    ∷ example standing
    (page ((0, plain "body") ∷ (1, plain "ul") ∷ (1, plain "p") ∷ (2, words "b") ∷ []) [] 0)
    (codes "    b") 6 1 5
    -- `<span><div>a</div></span> b`: a text's leading blank is trimmed by what stands before the margin
    ∷ example (formatted Off)
    (page ((0, plain "body") ∷ (1, plain "span") ∷ (2, plain "div") ∷ (3, words "a") ∷ (1, words " b") ∷ []) [] 0)
    (codes "a  b") 8 2 4
    -- `a<br><br>b`: margins of br add up
    ∷ example standing
    (page ((0, plain "body") ∷ (1, words "a") ∷ (1, plain "br") ∷ (1, plain "br") ∷ (1, words "b") ∷ []) [] 0)
    (codes "a\n\nb") 6 1 4
    -- `<ol><li>a</li><li>b<ul><li>c</li></ul></li><li>d</li></ol>`: numbers and bullets
    ∷ example standing
    (page ((0, plain "body") ∷ (1, plain "ol") ∷ (2, plain "li") ∷ (3, words "a") ∷ (2, plain "li") ∷ (3, words "b") ∷ (3, plain "ul") ∷ (4, plain "li") ∷ (5, words "c") ∷ (2, plain "li") ∷ (3, words "d") ∷ []) [] 0)
    (codes "  1. a\n  2. b\n    " ++ (dot ++ codes " c\n  3. d")) 18 1 30
    -- `<ol><li>a</li></ol>`
    ∷ example (unbulleted Basic)
    (page ((0, plain "body") ∷ (1, plain "ol") ∷ (2, plain "li") ∷ (3, words "a") ∷ []) [] 0)
    (codes "  a") 7 1 3
    -- `<table><tr><td>1</td> <td>2</td></tr><tr><th>3</th></tr></table>`: rows of cells
    ∷ example standing
    (page ((0, plain "body") ∷ (1, plain "table") ∷ (2, plain "tr") ∷ (3, plain "td") ∷ (4, words "1") ∷ (3, words " ") ∷ (3, plain "td") ∷ (4, words "2") ∷ (2, plain "tr") ∷ (3, plain "th") ∷ (4, words "3") ∷ []) [] 0)
    (codes "1\t\t2\n3") 18 1 6
    -- `<table><tr><td>1</td> <td>2</td></tr><tr><th>3</th></tr></table>`
    ∷ example (formatted Off)
    (page ((0, plain "body") ∷ (1, plain "table") ∷ (2, plain "tr") ∷ (3, plain "td") ∷ (4, words "1") ∷ (3, words " ") ∷ (3, plain "td") ∷ (4, words "2") ∷ (2, plain "tr") ∷ (3, plain "th") ∷ (4, words "3") ∷ []) [] 0)
    (codes "1 2 3") 18 1 5
    -- `<ul><li>a</li><li>b</li></ul>`: reduced markup
    ∷ example (formatted MinimalHtml)
    (page ((0, plain "body") ∷ (1, plain "ul") ∷ (2, plain "li") ∷ (3, words "a") ∷ (2, plain "li") ∷ (3, words "b") ∷ []) [] 0)
    (codes "<ul>\n  <li>a</li>\n  <li>b</li>\n</ul>") 10 1 36
    -- `<ul><li>a</li></ul>`
    ∷ example (unbulleted MinimalHtml)
    (page ((0, plain "body") ∷ (1, plain "ul") ∷ (2, plain "li") ∷ (3, words "a") ∷ []) [] 0)
    (codes "a") 7 1 1
    -- `<h1>a</h1><p>b<br>c</p>`
    ∷ example (formatted MinimalHtml)
    (page ((0, plain "body") ∷ (1, plain "h1") ∷ (2, words "a") ∷ (1, plain "p") ∷ (2, words "b") ∷ (2, plain "br") ∷ (2, words "c") ∷ []) [] 0)
    (codes "<h1>a</h1>\n\n<p>b<br>\nc</p>") 10 1 26
    -- `<pre> a  b\n</pre>c`
    ∷ example (formatted MinimalHtml)
    (page ((0, plain "body") ∷ (1, plain "pre") ∷ (2, words " a  b\n") ∷ (1, words "c") ∷ []) [] 0)
    (codes "<pre> a  b\n</pre>\nc") 6 6 19
    -- `<p>a <a href=" &quot; ">b</a></p>`
    ∷ example (linked MinimalHtml)
    (page ((0, plain "body") ∷ (1, plain "p") ∷ (2, words "a ") ∷ (2, tagged "a" ("href" is " \" " ∷ [])) ∷ (3, words "b") ∷ []) [] 0)
    (codes "<p>a <a href=\"&quot;\">b</a></p>") 8 18 31
    -- `<textarea> a </textarea><button>b</button><input value=" c "><input value=" " placeholder="d"><input type="hidden" value="e"><input>`: form fields
    ∷ example (fielded Basic)
    (page ((0, plain "body") ∷ (1, plain "textarea") ∷ (2, words " a ") ∷ (1, plain "button") ∷ (2, words "b") ∷ (1, tagged "input" ("value" is " c " ∷ [])) ∷ (1, tagged "input" ("value" is " " ∷ "placeholder" is "d" ∷ [])) ∷ (1, tagged "input" ("type" is "hidden" ∷ "value" is "e" ∷ [])) ∷ (1, plain "input") ∷ []) [] 0)
    (codes "[  a ] [ b ] [ c ] [ d ]") 12 21 25
    -- `<p>x<textarea>a&lt;b&gt;</textarea></p>`
    ∷ example (fielded MinimalHtml)
    (page ((0, plain "body") ∷ (1, plain "p") ∷ (2, words "x") ∷ (2, plain "textarea") ∷ (3, words "a<b>") ∷ []) [] 0)
    (codes "<p>x[ a&lt;b&gt; ] </p>") 8 6 23
    -- `<img alt="a"><area alt="b">x</area>`: alternative texts; one with children is said once more at its end
    ∷ example standing
    (page ((0, plain "body") ∷ (1, tagged "img" ("alt" is "a" ∷ [])) ∷ (1, tagged "area" ("alt" is "b" ∷ [])) ∷ (2, words "x") ∷ []) [] 0)
    (codes "abxb") 6 4 4
    -- `<img alt="a">b`
    ∷ example (unalternated Basic)
    (page ((0, plain "body") ∷ (1, tagged "img" ("alt" is "a" ∷ [])) ∷ (1, words "b") ∷ []) [] 0)
    (codes "b") 4 1 1
    -- `a<img>b`: an absent alt, with missing_alt on and off, and with alt_texts off
    ∷ example (picturing Off) between (codes "a[picture]b") 5 11 11
    ∷ example (formatted Off) between (codes "ab") 5 2 2
    ∷ example (with_alt_texts false (picturing Off)) between (codes "ab") 5 2 2
    -- `<img>`: alone
    ∷ example (picturing Off) (page ((0, plain "body") ∷ (1, plain "img") ∷ []) [] 0) (codes "[picture]") 3 9 9
    -- `<img>c</img>`: with children it is said once more
    ∷ example (picturing Off)
    (page ((0, plain "body") ∷ (1, plain "img") ∷ (2, words "c") ∷ []) [] 0)
    (codes "[picture]c[picture]") 5 19 19
    -- `a<img alt=" ">b`, `a<img alt="">b`: a blank or empty alt is there
    ∷ example (picturing Off)
    (page ((0, plain "body") ∷ (1, words "a") ∷ (1, tagged "img" ("alt" is " " ∷ [])) ∷ (1, words "b") ∷ []) [] 0)
    (codes "a b") 5 3 3
    ∷ example (picturing Off)
    (page ((0, plain "body") ∷ (1, words "a") ∷ (1, tagged "img" ("alt" is "" ∷ [])) ∷ (1, words "b") ∷ []) [] 0)
    (codes "ab") 5 2 2
    -- `<img ALT="x"> <area>`: ALT is not alt, and an area is as an img
    ∷ example (picturing Off)
    (page ((0, plain "body") ∷ (1, tagged "img" ("ALT" is "x" ∷ [])) ∷ (1, words " ") ∷ (1, plain "area") ∷ []) [] 0)
    (codes "[picture] [picture]") 5 19 19
    -- `<tr><td>1</td><img></tr>`: hung on a cell's end it is lost, and counts in the need of work
    ∷ example (picturing Off)
    (page ((0, plain "body") ∷ (1, plain "tr") ∷ (2, plain "td") ∷ (3, words "1") ∷ (2, plain "img") ∷ []) [] 0)
    (codes "1") 8 9 1
    -- `<p><a href="u"><img></a></p>`, with links
    ∷ example (with_links true (picturing MinimalHtml))
    (page ((0, plain "body") ∷ (1, plain "p") ∷ (2, tagged "a" ("href" is "u" ∷ [])) ∷ (3, plain "img") ∷ []) [] 0)
    (codes "<p><a href=\"u\">[picture]</a></p>") 7 21 32
    -- `<ul><li><img></li></ul>`
    ∷ example (picturing Basic)
    (page ((0, plain "body") ∷ (1, plain "ul") ∷ (2, plain "li") ∷ (3, plain "img") ∷ []) [] 0)
    (codes "  " ++ (dot ++ codes " [picture]")) 7 9 15
    -- `a<!--b--><p>c</p><div>d</div>e`: a comment and a marked row
    ∷ example standing
    (page ((0, plain "body") ∷ (1, words "a") ∷ (1, remark "b") ∷ (1, plain "p") ∷ (2, words "c") ∷ (1, plain "div") ∷ (2, words "d") ∷ (1, words "e") ∷ []) (3 ∷ []) 0)
    (codes "a\nd\ne") 9 1 5
    -- `a`: a marked root
    ∷ example standing
    (page ((0, plain "body") ∷ (1, words "a") ∷ []) (0 ∷ []) 0)
    [] 1 0 0
    -- `a<div>b<p>c</p></div>d`, root row 2: a root below body, and a mark above it
    ∷ example standing
    (page ((0, plain "body") ∷ (1, words "a") ∷ (1, plain "div") ∷ (2, words "b") ∷ (2, plain "p") ∷ (3, words "c") ∷ (1, words "d") ∷ []) (0 ∷ []) 2)
    (codes "b\n\nc") 6 1 4
    -- `a  \n`: blanks that are stripped at the end, or by a margin, count in the need of out
    ∷ example standing
    (page ((0, plain "body") ∷ (1, words "a  \n") ∷ []) [] 0)
    (codes "a") 3 4 2
    -- `<p>a \n</p> <p>bb</p>`
    ∷ example standing
    (page ((0, plain "body") ∷ (1, plain "p") ∷ (2, words "a \n") ∷ (1, words " ") ∷ (1, plain "p") ∷ (2, words "bb") ∷ []) [] 0)
    (codes "a\n\nbb") 9 3 5
    -- ` a`: a leading blank, not in a block and in one
    ∷ example standing
    (page ((0, plain "body") ∷ (1, words " a") ∷ []) [] 0)
    (codes " a") 3 2 2
    -- `<p> a</p>`
    ∷ example standing
    (page ((0, plain "body") ∷ (1, plain "p") ∷ (2, words " a") ∷ []) [] 0)
    (codes "a") 5 2 1
    -- with main_content the longest class and id count too, and the blank between them where both are empty
    ∷ example main (page ((0, plain "body") ∷ []) [] 0) [] 1 1 0
    ∷ example main (page ((0, plain "body") ∷ (1, tagged "p" ("class" is "abc" ∷ "id" is "de" ∷ [])) ∷ (2, words "xy") ∷ []) [] 0) (codes "xy") 5 6 2
    ∷ []

-- ---- calls

-- options, page, both buffers before, the answer, and both buffers after
pub record Call : Type 0 where
  pub options : ExtractOptions
  pub page : Page
  pub out : Bytes
  pub work : Bytes
  pub answer : Answer
  pub out_then : Bytes
  pub work_then : Bytes

abbrev pub call : ExtractOptions → Page → Bytes → Bytes → Answer → Bytes → Bytes → Call
call o p out work answer out_then work_then =
    record { options = o; page = p; out = out; work = work; answer = answer; out_then = out_then; work_then = work_then }

abbrev pub same_answer : Answer → Answer → Bool
same_answer a b = eqb a.number b.number && (eqb a.second b.second && (eqb a.visits b.visits && eqb a.length b.length))

unfoldable pub is_call_right : Call → Bool
is_call_right c =
    same_answer (numbers (extraction none c.page c.options (length c.out) (length c.work))) c.answer
    && (same (out_after none c.page c.options c.out c.work) c.out_then && same (work_after none c.page c.options c.work) c.work_then)

unfoldable pub are_calls_right : List Call → Bool
are_calls_right [] = true
are_calls_right (c ∷ cs) = is_call_right c && are_calls_right cs

-- body and n childless rows of a name in it
abbrev pub childless : ℕ → String → Page
childless n name = record { depths = 0 ∷ replicate n 1; node = λ i. cond (eqb i 0) (plain "body") (plain name); marked = none; root = 0 }

-- the text is "a b": work needs 7 bytes, and out 4
abbrev pub short : Page
short = page ((0, plain "body") ∷ (1, words "a  b   ") ∷ []) [] 0

unfoldable pub calls : List Call
calls =
    call standing short (1 ∷ 2 ∷ 3 ∷ 4 ∷ 5 ∷ []) (replicate 8 9) (accepted 0 3 3) (0x61 ∷ 0x20 ∷ 0x62 ∷ 0 ∷ 0 ∷ []) (replicate 8 0)
    -- each need is enough, and one less is not; 31 is tested first
    ∷ call standing short (replicate 4 1) (replicate 7 9) (accepted 0 3 3) (0x61 ∷ 0x20 ∷ 0x62 ∷ 0 ∷ []) (replicate 7 0)
    ∷ call standing short (replicate 3 1) (replicate 7 9) (refused 32 4) (replicate 3 1) (replicate 7 0)
    ∷ call standing short (replicate 4 1) (replicate 6 9) (refused 31 7) (replicate 4 1) (replicate 6 9)
    ∷ call standing short [] [] (refused 31 7) [] []
    -- the 1,025th list level is refused; formatting Off never counts them
    ∷ call standing (childless 1025 "ul") [] [] (refused 21 1026) [] []
    ∷ call (formatted Off) (childless 1025 "ul") [] [] (accepted 0 1027 0) [] []
    -- the 1,025th open row is refused
    ∷ call (formatted Off) (childless 1025 "tr") (replicate 2 1) (replicate 2 9) (refused 22 1026) (replicate 2 1) (replicate 2 9)
    ∷ []

-- ---- calls with a byte string

-- as a call, with a sheet in place of a page
pub record SheetCall : Type 0 where
  pub options : ExtractOptions
  pub sheet : Bytes
  pub out : Bytes
  pub work : Bytes
  pub answer : Answer
  pub out_then : Bytes
  pub work_then : Bytes

abbrev pub on_bytes : ExtractOptions → String → Bytes → Bytes → Answer → Bytes → Bytes → SheetCall
on_bytes o s out work answer out_then work_then =
    record { options = o; sheet = codes s; out = out; work = work; answer = answer; out_then = out_then; work_then = work_then }

-- no row of any page
abbrev pub no_filters : (ℕ → Node) → List ℕ → ℕ → ExtractOptions → ℕ → Bool
no_filters node_of depths root o i = false

unfoldable pub is_sheet_right : SheetCall → Bool
is_sheet_right c =
    same_answer (numbers (extraction_of no_filters c.sheet c.options (length c.out) (length c.work))) c.answer
    && (same (out_after_of no_filters c.sheet c.options c.out c.work) c.out_then && same (work_after_of no_filters c.sheet c.options c.work) c.work_then)

unfoldable pub are_sheets_right : List SheetCall → Bool
are_sheets_right [] = true
are_sheets_right (c ∷ cs) = is_sheet_right c && are_sheets_right cs

unfoldable pub sheets : List SheetCall
sheets =
    -- document 01's input of the program
    on_bytes standing "       2       0       6       0\n       0       1       0       0       4       0       0       0\n       1       3       0       0       0       4       2       0\nbodyhi" (replicate 3 1) (replicate 2 9) (accepted 0 3 2) (0x68 ∷ 0x69 ∷ 0 ∷ []) (replicate 2 0)
    -- its text marked: row 1 is reached, and has no entry
    ∷ on_bytes standing "       2       0       6       0\n       0       1       0       0       4       0       0       0\n       1       3       1       0       0       4       2       0\nbodyhi" (replicate 3 1) (replicate 2 9) (accepted 0 3 0) (replicate 3 0) (replicate 2 0)
    -- one byte short
    ∷ on_bytes standing "       2       0       6       0\n       0       1       0       0       4       0       0       0\n       1       3       0       0       0       4       2       0\nbodyh" (replicate 3 1) (replicate 2 9) (refused 11 169) (replicate 3 1) (replicate 2 9)
    ∷ []

abbrev pub ExamplesAreRight : Type 0
ExamplesAreRight = T (are_right pages && (are_calls_right calls && are_sheets_right sheets))
