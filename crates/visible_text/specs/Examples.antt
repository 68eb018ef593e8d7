-- Worked examples: small pages with a row's text and its need, as serialize.rs has them, and calls with a byte string and an output.
use Rattle.std.specs.Prelude.{Bool, true, ◌&&◌, List, [], ◌∷◌, ℕ, T, eqb, length, replicate}
use Prim.Native.String.{String}
use Rattle.common.specs.Answer.{Answer, refused, written}
use Rattle.common.specs.Bytes.{Bytes, codes, same}
use Rattle.tree.specs.Node.{text, Node}
use Rattle.tree.specs.Page.{Page}
use Rattle.tree.specs.SmallPages.{Rows, plain, words, remark, page}
use Rattle.writer.specs.Out.{Out}
use Rattle.visible_text.specs.Answers.{visible_text_in, visible_text_out, numbers}
use Rattle.visible_text.specs.VisibleText.{visible, loop}

-- ---- pages

-- the rows of a page below its body, the row that is asked, its text and the need
pub record Example : Type 0 where
  pub rows : Rows
  pub row : ℕ
  pub text : Bytes
  pub need : ℕ

abbrev pub example : Rows → ℕ → String → ℕ → Example
example rows row t need = record { rows = rows; row = row; text = codes t; need = need }

abbrev is_text : Out → Bytes → ℕ → Bool
is_text o t need = same o.text t && eqb o.peak need

-- by the recursion, and by the Rust's loops
unfoldable pub is_right : Example → Bool
is_right e =
    let p : Page = page ((0, plain "body") ∷ e.rows) [] 0 in
    is_text (visible p.node p.depths e.row) e.text e.need
    && is_text (loop p.node p.depths e.row (length p.depths)) e.text e.need

unfoldable pub are_right : List Example → Bool
are_right [] = true
are_right (e ∷ es) = is_right e && are_right es

-- a text of bytes
abbrev bytes : Bytes → Node
bytes value = record { kind = text; name = []; value = value; attributes = [] }

unfoldable pub pages : List Example
pages =
    -- `a<div>b</div>`
    example ((1, words "a") ∷ (1, plain "div") ∷ (2, words "b") ∷ []) 0 "a\nb\n" 4
    -- `<div>a</div>b`: a div that has a next sibling has no end step
    ∷ example ((1, plain "div") ∷ (2, words "a") ∷ (1, words "b") ∷ []) 0 "\nab" 3
    -- `<div>a</div><!--c-->b`: a comment is a sibling
    ∷ example ((1, plain "div") ∷ (2, words "a") ∷ (1, remark "c") ∷ (1, words "b") ∷ []) 0 "\nab" 3
    -- `<p>a</p><p>b</p>`
    ∷ example ((1, plain "p") ∷ (2, words "a") ∷ (1, plain "p") ∷ (2, words "b") ∷ []) 0 "\n\na\n\nb\n\n" 8
    -- `<div><span><p>a`: the end of the div strips what the end of the p has written
    ∷ example ((1, plain "div") ∷ (2, plain "span") ∷ (3, plain "p") ∷ (4, words "a") ∷ []) 0 "\n\na\n" 5
    -- `<span><div>a</div></span>b`
    ∷ example ((1, plain "span") ∷ (2, plain "div") ∷ (3, words "a") ∷ (1, words "b") ∷ []) 0 "\na\nb" 4
    -- `x <pre> a  b </pre>c`: copied whole
    ∷ example ((1, words "x ") ∷ (1, plain "pre") ∷ (2, words " a  b ") ∷ (1, words "c") ∷ []) 0 "x  a  b c" 9
    -- `x<pre>a     </pre>`: a block at its end
    ∷ example ((1, words "x") ∷ (1, plain "pre") ∷ (2, words "a     ") ∷ []) 0 "xa\n" 7
    -- `x<pre>a<!--c--><b> b</b></pre>y`: of what stands below it the texts, and no comment
    ∷ example ((1, words "x") ∷ (1, plain "pre") ∷ (2, words "a") ∷ (2, remark "c") ∷ (2, plain "b") ∷ (3, words " b") ∷ (1, words "y") ∷ []) 0 "xa by" 5
    -- `a<br><br><br><br><br><div>b</div>`
    ∷ example ((1, words "a") ∷ (1, plain "br") ∷ (1, plain "br") ∷ (1, plain "br") ∷ (1, plain "br") ∷ (1, plain "br") ∷ (1, plain "div") ∷ (2, words "b") ∷ []) 0 "a\nb\n" 6
    -- `1<canvas>2</canvas>3<video>4</video>5<tfoot>6</tfoot>7`
    ∷ example ((1, words "1") ∷ (1, plain "canvas") ∷ (2, words "2") ∷ (1, words "3") ∷ (1, plain "video") ∷ (2, words "4") ∷ (1, words "5") ∷ (1, plain "tfoot") ∷ (2, words "6") ∷ (1, words "7") ∷ []) 0 "1\n23\n45\n67" 10
    -- a table of two rows of two cells, then x
    ∷ example ((1, plain "table") ∷ (2, plain "tbody") ∷ (3, plain "tr") ∷ (4, plain "td") ∷ (5, words "1") ∷ (4, plain "td") ∷ (5, words "2") ∷ (3, plain "tr") ∷ (4, plain "td") ∷ (5, words "3") ∷ (4, plain "td") ∷ (5, words "4") ∷ (1, words "x") ∷ []) 0 "\n1234x" 6
    -- `<br>x</br>y`: what stands below a br is not met
    ∷ example ((1, plain "br") ∷ (2, words "x") ∷ (1, words "y") ∷ []) 0 "\ny" 2
    -- U+000B is White_Space, and no blank
    ∷ example ((1, bytes (0x0b ∷ 0x20 ∷ 0x0b ∷ 0x61 ∷ [])) ∷ []) 0 "a" 1
    -- "a ", then NBSP, U+2003 and " x"
    ∷ example ((1, words "a ") ∷ (1, bytes (0xc2 ∷ 0xa0 ∷ 0xe2 ∷ 0x80 ∷ 0x83 ∷ 0x20 ∷ 0x78 ∷ [])) ∷ []) 0 "a x" 3
    -- the pre that is asked is not copied whole
    ∷ example ((1, plain "pre") ∷ (2, words " a  b ") ∷ (2, plain "br") ∷ (2, words "c") ∷ []) 1 "a b \nc" 6
    -- a text that is asked, and a comment
    ∷ example ((1, words "a") ∷ (1, remark "c") ∷ []) 1 "" 0
    ∷ example ((1, words "a") ∷ (1, remark "c") ∷ []) 2 "" 0
    -- `<script>s</script><style>t</style><noscript>n</noscript>a`
    ∷ example ((1, plain "script") ∷ (2, words "s") ∷ (1, plain "style") ∷ (2, words "t") ∷ (1, plain "noscript") ∷ (2, words "n") ∷ (1, words "a") ∷ []) 0 "a" 1
    -- what stands above the row that is asked, and beside it, gives nothing
    ∷ example ((1, plain "div") ∷ (2, plain "span") ∷ (3, words " a") ∷ (1, plain "div") ∷ (2, words "b") ∷ []) 2 "a" 1
    ∷ []

-- ---- calls

pub record Call : Type 0 where
  pub sheet : String
  pub row : ℕ
  pub out : Bytes
  pub answer : Answer
  pub out_then : Bytes

abbrev pub call : String → ℕ → Bytes → Answer → Bytes → Call
call sheet row out answer out_then = record { sheet = sheet; row = row; out = out; answer = answer; out_then = out_then }

abbrev same_answer : Answer → Answer → Bool
same_answer a b = eqb a.number b.number && eqb a.second b.second && eqb a.visits b.visits && eqb a.length b.length

unfoldable pub is_call_right : Call → Bool
is_call_right c =
    let s : Bytes = codes c.sheet in
    same_answer (numbers (visible_text_in s c.row (length c.out))) c.answer && same (visible_text_out s c.row c.out) c.out_then

unfoldable pub are_calls_right : List Call → Bool
are_calls_right [] = true
are_calls_right (c ∷ cs) = is_call_right c && are_calls_right cs

-- document 01's sheet
abbrev hi : String
hi = "       2       0       6       0\n       0       1       0       0       4       0       0       0\n       1       3       0       0       0       4       2       0\nbodyhi"

-- the same with its text marked
abbrev marked : String
marked = "       2       0       6       0\n       0       1       0       0       4       0       0       0\n       1       3       1       0       0       4       2       0\nbodyhi"

-- the first without its last byte
abbrev short : String
short = "       2       0       6       0\n       0       1       0       0       4       0       0       0\n       1       3       0       0       0       4       2       0\nbodyh"

-- `<pre>a     </pre>`
abbrev preformatted : String
preformatted = "       3       0      13       0\n       0       1       0       0       4       0       0       0\n       1       1       0       4       3       0       0       0\n       2       3       0       0       0       7       6       0\nbodyprea     "

unfoldable pub calls : List Call
calls =
    call hi 0 (replicate 3 1) (written 2) (0x68 ∷ 0x69 ∷ 0 ∷ [])
    ∷ call marked 0 (replicate 3 1) (written 2) (0x68 ∷ 0x69 ∷ 0 ∷ [])
    -- its text is asked; a row that is not there; of a sheet that is refused; one byte short
    ∷ call hi 1 [] (written 0) []
    ∷ call hi 2 (replicate 3 1) (refused 35 2) (replicate 3 1)
    ∷ call short 2 (replicate 3 1) (refused 11 169) (replicate 3 1)
    ∷ call hi 0 (replicate 1 1) (refused 53 2) (replicate 1 1)
    -- the need is the greatest length, not the last
    ∷ call preformatted 0 (replicate 5 1) (refused 53 6) (replicate 5 1)
    ∷ call preformatted 0 (replicate 6 1) (written 2) (0x61 ∷ 0x0a ∷ replicate 4 0)
    ∷ []

abbrev pub ExamplesRight : Type 0
ExamplesRight = T (are_right pages && are_calls_right calls)
