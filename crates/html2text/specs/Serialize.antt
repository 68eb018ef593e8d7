-- `serialize` of html2text.rs, with `margin` and `indent`: one step an entry, over what the Rust keeps in local variables.
-- The Rust's `text` is None or Some; None and Some("") behave alike here, so that bytes serve.
use Rattle.std.specs.Prelude.{Bool, true, false, ◌&&◌, ◌||◌, not, cond, List, [], ◌∷◌, ◌++◌, ℕ, ◌+◌, ◌-◌, ◌*◌, eqb, ltb, length, get_or, take, set, replicate}
use Rattle.common.specs.Bytes.{Bytes, codes, is_empty}
use Rattle.options.specs.Options.{is_off}
use Rattle.options.specs.declared.Formatting.{Formatting}
use Rattle.options.specs.declared.Formatting.TheVariants.{Off, Basic, MinimalHtml}
use Rattle.tags.specs.Tags.{name_of, is_tr, is_cell, is_ol, is_list, is_li, is_pre, is_br, is_heading_or_p}
use Rattle.text.specs.Text.{is_space, trim_start_by, collapse, escape}
use Rattle.writer.specs.Digits.{digits}
use Rattle.writer.specs.Out.{Out, nothing, greater, push_all, strip}
use Rattle.html2text.specs.declared.ExtractNode.{ExtractNode}

-- `row_has_cell` and `numbering` have the innermost last
pub record State : Type 0 where
  pub out : Out
  pub prefix : Bytes
  pub bullet : Bool
  pub depth : ℕ
  pub margins : ℕ
  pub uncollapsed : ℕ
  pub numbering : List ℕ
  pub row_has_cell : List Bool

abbrev pub start : State
start = record { out = nothing; prefix = []; bullet = false; depth = 0; margins = 0; uncollapsed = 0; numbering = []; row_has_cell = [] }

-- ---- a state with a part new

abbrev pub on_out : (Out → Out) → State → State
on_out f S = record { out = f S.out; prefix = S.prefix; bullet = S.bullet; depth = S.depth; margins = S.margins; uncollapsed = S.uncollapsed; numbering = S.numbering; row_has_cell = S.row_has_cell }

abbrev pub with_prefix : Bytes → State → State
with_prefix p S = record { out = S.out; prefix = p; bullet = S.bullet; depth = S.depth; margins = S.margins; uncollapsed = S.uncollapsed; numbering = S.numbering; row_has_cell = S.row_has_cell }

abbrev pub with_bullet : Bool → State → State
with_bullet b S = record { out = S.out; prefix = S.prefix; bullet = b; depth = S.depth; margins = S.margins; uncollapsed = S.uncollapsed; numbering = S.numbering; row_has_cell = S.row_has_cell }

abbrev pub with_levels : ℕ → List ℕ → State → State
with_levels d l S = record { out = S.out; prefix = S.prefix; bullet = S.bullet; depth = d; margins = S.margins; uncollapsed = S.uncollapsed; numbering = l; row_has_cell = S.row_has_cell }

abbrev pub with_margins : ℕ → State → State
with_margins m S = record { out = S.out; prefix = S.prefix; bullet = S.bullet; depth = S.depth; margins = m; uncollapsed = S.uncollapsed; numbering = S.numbering; row_has_cell = S.row_has_cell }

abbrev pub with_uncollapsed : ℕ → State → State
with_uncollapsed k S = record { out = S.out; prefix = S.prefix; bullet = S.bullet; depth = S.depth; margins = S.margins; uncollapsed = k; numbering = S.numbering; row_has_cell = S.row_has_cell }

abbrev pub with_rows : List Bool → State → State
with_rows rs S = record { out = S.out; prefix = S.prefix; bullet = S.bullet; depth = S.depth; margins = S.margins; uncollapsed = S.uncollapsed; numbering = S.numbering; row_has_cell = rs }

-- ---- small words

-- `usize::from(b)`
abbrev pub one : Bool → ℕ
one b = cond b 1 0

-- `v.pop()`
abbrev pub pop {ℓ} : {A : Type ℓ} → List A → List A
pop l = take (length l - 1) l

-- `out.chars().last().is_some_and(is_space)`
unfoldable pub ends_blank : Bytes → Bool
ends_blank [] = false
ends_blank (c ∷ []) = is_space c
ends_blank (c ∷ d ∷ s) = ends_blank (d ∷ s)

-- `n.pre_depth == 0 || opts.formatting == Formatting::Off`
abbrev pub collapses : Bool → ExtractNode → Bool
collapses off n = eqb n.pre_depth 0 || off

-- ---- `margin`: where `bare`, blanks at the end go first

unfoldable pub separated : Bool → ℕ → Out → Out
separated off size o = cond (eqb (length o.text) 0) o (push_all (cond off (0x20 ∷ []) (replicate size 0x0a)) o)

unfoldable pub margin_out : Bool → Bool → ℕ → Out → Out
margin_out bare off size o = cond (eqb size 0) o (separated off size (cond bare (strip o) o))

unfoldable pub margin : Bool → Bool → State → State
margin bare off S = with_margins 0 (on_out (margin_out bare off S.margins) S)

-- ---- rows and cells

-- `if n.tag == "tr"`
unfoldable pub rows : ExtractNode → State → State
rows n S =
    cond (is_tr n.tag)
    (cond n.end (with_rows (pop S.row_has_cell) S) (with_rows (S.row_has_cell ++ (false ∷ [])) S))
    S

-- what stands between two cells
unfoldable pub between : Bool → Out → Out
between off o =
    cond off
    (cond (eqb (length o.text) 0 || ends_blank o.text) o (push_all (0x20 ∷ []) o))
    (push_all (codes "\t\t") o)

-- `if *has_cell`
unfoldable pub beside_cell : Bool → State → State
beside_cell off S = cond (get_or S.row_has_cell (length S.row_has_cell - 1) false) (on_out (between off) S) S

-- `if let Some(has_cell) = row_has_cell.last_mut()`
unfoldable pub in_row : Bool → State → State
in_row off S =
    cond (eqb (length S.row_has_cell) 0) S
    (let T = beside_cell off S in with_rows (set T.row_has_cell (length T.row_has_cell - 1) true) T)

-- `if matches!(n.tag.as_str(), "td" | "th")`, not at its end
unfoldable pub cell : Bool → ExtractNode → State → State
cell off n S = cond (is_cell n.tag) (in_row off (margin (collapses off n) off S)) S

-- ---- lists, where formatting is not Off

-- `if n.block && !n.collapse_margins`
unfoldable pub count_uncollapsed : ExtractNode → State → State
count_uncollapsed n S = cond (n.block && not n.collapse_margins) (with_uncollapsed (S.uncollapsed + 1) S) S

-- `matches!(n.tag.as_str(), "ul" | "ol") || (n.tag == "li" && depth == 0)`
abbrev pub changes_level : ℕ → ℕ → Bool
changes_level tag depth = is_list tag || (is_li tag && eqb depth 0)

unfoldable pub level : ExtractNode → State → State
level n S =
    cond (changes_level n.tag S.depth)
    (cond n.end
    (with_prefix [] (with_bullet false (with_levels (S.depth - 1) (pop S.numbering) S)))
    (with_levels (S.depth + 1) (S.numbering ++ (one (is_ol n.tag) ∷ [])) S))
    S

-- `numbering.last_mut().expect(..)`: a missing level reads as 0, and is never met (`LevelMet` of specs/Theorems.antt)
unfoldable pub number_of : State → ℕ
number_of S = get_or S.numbering (length S.numbering - 1) 0

-- "• "
abbrev pub bullet_text : Bytes
bullet_text = 0xe2 ∷ 0x80 ∷ 0xa2 ∷ 0x20 ∷ []

-- `format!("{}. ", number)`
abbrev pub number_text : ℕ → Bytes
number_text k = digits k ++ codes ". "

-- an item's prefix, formatting Basic
unfoldable pub item : Bool → ExtractNode → State → State
item bullets n S =
    cond (bullets && is_li n.tag)
    (with_bullet (not n.end)
    (cond (eqb (number_of S) 0)
    (with_prefix bullet_text S)
    (with_prefix (number_text (number_of S))
    (cond n.end S (with_levels S.depth (set S.numbering (length S.numbering - 1) (number_of S + 1)) S)))))
    S

-- ---- MinimalHtml

unfoldable pub item_out : Bool → Bool → ℕ → Out → Out
item_out end bare depth o =
    cond end
    (push_all (codes "</li>\n") (cond bare (strip o) o))
    (push_all (codes "<li>") (push_all (replicate (depth * 2) 0x20) o))

unfoldable pub html_item : Bool → ExtractNode → State → State
html_item bullets n S =
    cond (bullets && is_li n.tag)
    (let T = margin (collapses false n) false S in with_margins 0 (on_out (item_out n.end (eqb n.pre_depth 0) T.depth) T))
    S

unfoldable pub html_pre : ExtractNode → State → State
html_pre n S =
    cond (is_pre n.tag)
    (cond n.end
    (with_margins 0 (on_out (push_all (codes "</pre>")) S))
    (with_margins 0 (on_out (push_all (codes "<pre>")) (margin (collapses false n) false S))))
    S

unfoldable pub html_br : ExtractNode → State → State
html_br n S = cond (is_br n.tag) (on_out (push_all (codes "<br>")) S) S

unfoldable pub html_marks : Bool → ExtractNode → State → State
html_marks bullets n S = html_br n (html_pre n (html_item bullets n S))

-- `n.has_children && (matches!(..) || (list && opts.list_bullets))`
abbrev pub wants_tag : Bool → ExtractNode → Bool
wants_tag bullets n = n.has_children && (is_heading_or_p n.tag || (is_list n.tag && bullets))

-- `(!n.end && n.pre_depth == 0) || (uncollapsed > 0 && n.collapse_margins)`
abbrev pub opens_tag : ExtractNode → ℕ → Bool
opens_tag n uncollapsed = (not n.end && eqb n.pre_depth 0) || (ltb 0 uncollapsed && n.collapse_margins)

abbrev pub tag_margins : ExtractNode → Bool → ℕ → ℕ
tag_margins n block margins =
    cond n.collapse_margins (greater margins (one block + one n.big_block)) (margins + (one block + one n.big_block))

unfoldable pub before_tag : ExtractNode → Bool → State → State
before_tag n block S =
    cond (opens_tag n S.uncollapsed)
    (with_uncollapsed 0 (margin (collapses false n) false (with_margins (tag_margins n block S.margins) S)))
    S

unfoldable pub tag_out : Bool → ExtractNode → ℕ → Out → Out
tag_out bullets n depth o =
    push_all (cond ((is_list n.tag && not n.end) && eqb n.pre_depth 0) (codes "\n") [])
    (push_all (codes ">")
    (push_all (name_of n.tag)
    (push_all (cond n.end (codes "</") (codes "<"))
    (cond bullets (push_all (replicate ((depth - one (is_list n.tag && not n.end)) * 2) 0x20) o) o))))

unfoldable pub html_tag : Bool → ExtractNode → Bool → State → State
html_tag bullets n block S = cond (wants_tag bullets n) (let T = before_tag n block S in on_out (tag_out bullets n T.depth) T) S

-- `n.block` after an item's start and `if n.pre_depth > 0`, and then after a tag
abbrev pub block_after_marks : Bool → ExtractNode → Bool
block_after_marks bullets n = n.block && (not ((bullets && is_li n.tag) && not n.end) && eqb n.pre_depth 0)

abbrev pub block_after_tag : Bool → ExtractNode → ℕ → Bool
block_after_tag bullets n uncollapsed = not (wants_tag bullets n && opens_tag n uncollapsed) && block_after_marks bullets n

-- ---- blocks and text, `block` being `n.block` there

unfoldable pub block_margin : Bool → ExtractNode → State → State
block_margin block n S =
    cond block
    (with_margins
    (cond n.collapse_margins
    (greater S.margins (cond (n.big_block && eqb n.pre_depth 0) 2 1))
    (S.margins + cond n.big_block 2 1))
    S)
    S

-- `n.block || out.chars().last().is_some_and(is_space)`
abbrev pub trims : Bool → State → Bool
trims block S = block || ends_blank S.out.text

-- `collapse`, then `trim_start_matches`
abbrev pub shortened : Bool → Bool → Bytes → Bytes
shortened squeeze trim text = cond squeeze (cond trim (trim_start_by is_space (collapse text)) (collapse text)) text

-- `indent`, where a list level is open and formatting is Basic
unfoldable pub indent_text : Bool → Bool → State → State
indent_text basic bullets S =
    cond (basic && ltb 0 S.depth)
    (with_bullet false (on_out (push_all (replicate ((S.depth + one (bullets && not S.bullet)) * 2) 0x20)) S))
    S

-- `out.push_str(&prefix)`
unfoldable pub lead : Bool → Bool → State → State
lead basic bullets S = let T = indent_text basic bullets S in with_prefix [] (on_out (push_all T.prefix) T)

unfoldable pub put_text : Bool → Bool → Bool → ExtractNode → Bool → Bytes → State → State
put_text off basic bullets n block text S =
    let t = shortened (collapses off n) (trims block S) text in
    cond (is_empty t) S
    (on_out (push_all (cond n.escape (escape t) t)) (lead basic bullets (with_uncollapsed 0 (margin (collapses off n) off S))))

-- ---- the step, by formatting

unfoldable pub after_off : Bool → ExtractNode → Bytes → State → State
after_off bullets n text S = put_text true false bullets n n.block text (block_margin n.block n S)

unfoldable pub after_basic : Bool → ExtractNode → Bytes → State → State
after_basic bullets n text S =
    put_text false true bullets n n.block text (block_margin n.block n (item bullets n (level n (count_uncollapsed n S))))

unfoldable pub finish_html : Bool → ExtractNode → Bytes → State → State
finish_html bullets n text S =
    let block = block_after_tag bullets n S.uncollapsed in
    put_text false false bullets n block text (block_margin block n (html_tag bullets n (block_after_marks bullets n) S))

unfoldable pub after_html : Bool → ExtractNode → Bytes → State → State
after_html bullets n text S = finish_html bullets n text (html_marks bullets n (level n (count_uncollapsed n S)))

-- a cell's end is dropped, with all that it has gathered
unfoldable pub step_by : Bool → (State → State) → ExtractNode → State → State
step_by off after n S = cond (is_cell n.tag && n.end) (rows n S) (after (cell off n (rows n S)))

abbrev pub after : Formatting → Bool → ExtractNode → Bytes → State → State
after Off = after_off
after Basic = after_basic
after MinimalHtml = after_html

-- one pass of `serialize`'s loop
abbrev pub step : Formatting → Bool → ExtractNode → Bytes → State → State
step f bullets n text = step_by (is_off f) (after f bullets n text) n
