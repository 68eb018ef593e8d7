-- A step of `serialize` keeps what is written, and the prefix, UTF-8.
use mathlib.Core.Path.{◌≡◌, refl, sym, subst}
use mathlib.Core.Bool.{Bool, true, false, ◌&&◌, ◌||◌, not, cond}
use mathlib.Core.List.{List, [], ◌∷◌}
use Prim.Native.Nat.{ℕ, zero, suc, ◌+◌, ◌-◌, ◌*◌}
use native.Mathlib.Omega.{arith}
use lib.Dec.{eqb, ltb}
use lib.ListN.{length, get_or, replicate}
use Rattle.common.specs.Bytes.{Bytes, codes, is_empty}
use Rattle.common.proofs.Choice.{by_cond, and_parts}
use Rattle.options.specs.Options.{is_off}
use Rattle.options.specs.declared.Formatting.{Formatting}
use Rattle.options.specs.declared.Formatting.TheVariants.{Off, Basic, MinimalHtml}
use Rattle.tags.specs.Tags.{name_of, tag_names, is_tr, is_cell, is_list, is_li, is_pre, is_br}
use Rattle.tags.specs.Words.{words, first_word, other_words}
use Rattle.utf8.specs.Abnf.{UTF8_octets, none}
use Rattle.utf8.specs.Valid.{expect, valid}
use Rattle.writer.specs.Out.{Out, push_all, strip_by, strip}
use Rattle.writer.proofs.OutLaws.{push_all_text}
use Rattle.html2text.specs.Serialize.{State, one, ends_blank, collapses, separated, margin_out, margin, rows, between, beside_cell, in_row, cell, count_uncollapsed, changes_level, level, number_of, bullet_text, number_text, item, item_out, html_item, html_pre, html_br, html_marks, wants_tag, opens_tag, before_tag, tag_out, html_tag, block_after_marks, block_after_tag, block_margin, trims, shortened, indent_text, lead, put_text, after_off, after_basic, finish_html, after_html, step_by, after, step}
use Rattle.html2text.specs.declared.ExtractNode.{ExtractNode}
use Rattle.html2text.proofs.EncodedBytes.{octets_valid, octets_append, octets_replicate, octets_digits, octets_trim_start, octets_rstrip, octets_collapse, octets_escape}

-- ---- what is written

abbrev Written : Out → Type 0
Written o = UTF8_octets o.text

pushed : {s : Bytes} (o : Out) → UTF8_octets s → Written o → Written (push_all s o)
pushed {s} o p h = subst UTF8_octets (sym (push_all_text s o)) (octets_append h p)

stripped : (o : Out) → Written o → Written (strip o)
unfolding strip_by
stripped o h = octets_rstrip h

spaces : (k : ℕ) → UTF8_octets (replicate k 0x20)
spaces k = octets_replicate k (omega arith)

separated_written : (off : Bool) (size : ℕ) (o : Out) → Written o → Written (separated off size o)
unfolding separated
separated_written off size o h =
    by_cond Written (eqb (length o.text) 0) (λ e. h)
    (λ e. pushed o (by_cond UTF8_octets off (λ _. spaces 1) (λ _. octets_replicate size (omega arith))) h)

margin_written : (bare off : Bool) (size : ℕ) (o : Out) → Written o → Written (margin_out bare off size o)
unfolding margin_out
margin_written bare off size o h =
    by_cond Written (eqb size 0) (λ e. h) (λ e. separated_written off size (cond bare (strip o) o) (by_cond Written bare (λ _. stripped o h) (λ _. h)))

between_written : (off : Bool) (o : Out) → Written o → Written (between off o)
unfolding between valid expect codes
between_written off o h =
    by_cond Written off
    (λ e. by_cond Written (eqb (length o.text) 0 || ends_blank o.text) (λ _. h) (λ _. pushed o (spaces 1) h))
    (λ e. pushed o (octets_valid (codes "\t\t") refl) h)

item_written : (end bare : Bool) (depth : ℕ) (o : Out) → Written o → Written (item_out end bare depth o)
unfolding item_out valid expect codes
item_written end bare depth o h =
    by_cond Written end
    (λ e. pushed (cond bare (strip o) o) (octets_valid (codes "</li>\n") refl) (by_cond Written bare (λ _. stripped o h) (λ _. h)))
    (λ e. pushed (push_all (replicate (depth * 2) 0x20) o) (octets_valid (codes "<li>") refl) (pushed o (spaces (depth * 2)) h))

-- the names that are told apart
abbrev all_valid : List Bytes → Bool
all_valid [] = true
all_valid (w ∷ ws) = valid w && all_valid ws

all_valid_law : (ws : List Bytes) → all_valid ws ≡ true → (i : ℕ) → UTF8_octets (get_or ws i [])
all_valid_law [] e i = none
all_valid_law (w ∷ ws) e zero = octets_valid w (and_parts (valid w) (all_valid ws) e).0
all_valid_law (w ∷ ws) e (suc i) = all_valid_law ws (and_parts (valid w) (all_valid ws) e).1 i

name_octets : (t : ℕ) → UTF8_octets (name_of t)
unfolding name_of tag_names words first_word other_words codes valid expect
name_octets t = all_valid_law tag_names refl (t - 1)

tag_written : (bullets : Bool) (n : ExtractNode) (depth : ℕ) (o : Out) → Written o → Written (tag_out bullets n depth o)
unfolding tag_out valid expect codes
tag_written bullets n depth o h =
    let a : Out = cond bullets (push_all (replicate ((depth - one (is_list n.tag && not n.end)) * 2) 0x20) o) o in
    let b = push_all (cond n.end (codes "</") (codes "<")) a in
    let c = push_all (name_of n.tag) b in
    pushed (push_all (codes ">") c)
    (by_cond UTF8_octets ((is_list n.tag && not n.end) && eqb n.pre_depth 0) (λ _. octets_valid (codes "\n") refl) (λ _. none))
    (pushed c (octets_valid (codes ">") refl)
    (pushed b (name_octets n.tag)
    (pushed a (by_cond UTF8_octets n.end (λ _. octets_valid (codes "</") refl) (λ _. octets_valid (codes "<") refl))
    (by_cond Written bullets (λ _. pushed o (spaces ((depth - one (is_list n.tag && not n.end)) * 2)) h) (λ _. h)))))

-- ---- the parts of a step

abbrev pub Encoded : State → Type 0
Encoded S = UTF8_octets S.out.text × UTF8_octets S.prefix

number_octets : (k : ℕ) → UTF8_octets (number_text k)
unfolding valid expect codes
number_octets k = octets_append (octets_digits k) (octets_valid (codes ". ") refl)

bullet_octets : UTF8_octets bullet_text
unfolding valid expect
bullet_octets = octets_valid bullet_text refl

module _ (n : ExtractNode) (S : State) (h : Encoded S) where
  margin_encoded : (bare off : Bool) → Encoded (margin bare off S)
  unfolding margin
  margin_encoded bare off = (margin_written bare off S.margins S.out h.0, h.1)

  rows_encoded : Encoded (rows n S)
  unfolding rows
  rows_encoded = by_cond Encoded (is_tr n.tag) (λ e. by_cond Encoded n.end (λ _. h) (λ _. h)) (λ e. h)

  beside_encoded : (off : Bool) → Encoded (beside_cell off S)
  unfolding beside_cell
  beside_encoded off =
      by_cond Encoded (get_or S.row_has_cell (length S.row_has_cell - 1) false) (λ e. (between_written off S.out h.0, h.1)) (λ e. h)

  in_row_encoded : (off : Bool) → Encoded (in_row off S)
  unfolding in_row
  in_row_encoded off = by_cond Encoded (eqb (length S.row_has_cell) 0) (λ e. h) (λ e. beside_encoded off)

  count_encoded : Encoded (count_uncollapsed n S)
  unfolding count_uncollapsed
  count_encoded = by_cond Encoded (n.block && not n.collapse_margins) (λ e. h) (λ e. h)

  level_encoded : Encoded (level n S)
  unfolding level
  level_encoded = by_cond Encoded (changes_level n.tag S.depth) (λ e. by_cond Encoded n.end (λ _. (h.0, none)) (λ _. h)) (λ e. h)

  item_encoded : (bullets : Bool) → Encoded (item bullets n S)
  unfolding item
  item_encoded bullets =
      by_cond Encoded (bullets && is_li n.tag)
      (λ e. by_cond Encoded (eqb (number_of S) 0) (λ _. (h.0, bullet_octets))
      (λ _. (by_cond (λ (T : State). UTF8_octets T.out.text) n.end (λ _. h.0) (λ _. h.0), number_octets (number_of S))))
      (λ e. h)

  html_br_encoded : Encoded (html_br n S)
  unfolding html_br valid expect codes
  html_br_encoded = by_cond Encoded (is_br n.tag) (λ e. (pushed S.out (octets_valid (codes "<br>") refl) h.0, h.1)) (λ e. h)

  block_encoded : (block : Bool) → Encoded (block_margin block n S)
  unfolding block_margin
  block_encoded block = by_cond Encoded block (λ e. h) (λ e. h)

  indent_encoded : (basic bullets : Bool) → Encoded (indent_text basic bullets S)
  unfolding indent_text
  indent_encoded basic bullets =
      by_cond Encoded (basic && ltb 0 S.depth) (λ e. (pushed S.out (spaces ((S.depth + one (bullets && not S.bullet)) * 2)) h.0, h.1)) (λ e. h)

  lead_encoded : (basic bullets : Bool) → Encoded (lead basic bullets S)
  unfolding lead
  lead_encoded basic bullets =
      let k = indent_encoded basic bullets in
      (pushed (indent_text basic bullets S).out k.1 k.0, none)

module _ (n : ExtractNode) (S : State) (h : Encoded S) where
  cell_encoded : (off : Bool) → Encoded (cell off n S)
  unfolding cell
  cell_encoded off =
      by_cond Encoded (is_cell n.tag) (λ e. in_row_encoded n (margin (collapses off n) off S) (margin_encoded n S h (collapses off n) off) off) (λ e. h)

  html_item_encoded : (bullets : Bool) → Encoded (html_item bullets n S)
  unfolding html_item
  html_item_encoded bullets =
      let T = margin (collapses false n) false S in
      let k = margin_encoded n S h (collapses false n) false in
      by_cond Encoded (bullets && is_li n.tag) (λ e. (item_written n.end (eqb n.pre_depth 0) T.depth T.out k.0, k.1)) (λ e. h)

  html_pre_encoded : Encoded (html_pre n S)
  unfolding html_pre valid expect codes
  html_pre_encoded =
      let T = margin (collapses false n) false S in
      let k = margin_encoded n S h (collapses false n) false in
      by_cond Encoded (is_pre n.tag)
      (λ e. by_cond Encoded n.end (λ _. (pushed S.out (octets_valid (codes "</pre>") refl) h.0, h.1))
      (λ _. (pushed T.out (octets_valid (codes "<pre>") refl) k.0, k.1)))
      (λ e. h)

  before_tag_encoded : (block : Bool) → Encoded (before_tag n block S)
  unfolding before_tag
  before_tag_encoded block = by_cond Encoded (opens_tag n S.uncollapsed) (λ e. margin_encoded n _ h (collapses false n) false) (λ e. h)

  html_tag_encoded : (bullets block : Bool) → Encoded (html_tag bullets n block S)
  unfolding html_tag
  html_tag_encoded bullets block =
      let T = before_tag n block S in
      let k = before_tag_encoded block in
      by_cond Encoded (wants_tag bullets n) (λ e. (tag_written bullets n T.depth T.out k.0, k.1)) (λ e. h)

shortened_octets : (squeeze trim : Bool) {text : Bytes} → UTF8_octets text → UTF8_octets (shortened squeeze trim text)
shortened_octets true true p = octets_trim_start (octets_collapse p)
shortened_octets true false p = octets_collapse p
shortened_octets false trim p = p

module _ (bullets : Bool) (n : ExtractNode) (text : Bytes) (p : UTF8_octets text) (S : State) (h : Encoded S) where
  text_encoded : (off basic block : Bool) → Encoded (put_text off basic bullets n block text S)
  unfolding put_text
  text_encoded off basic block =
      let t = shortened (collapses off n) (trims block S) text in
      let q = shortened_octets (collapses off n) (trims block S) p in
      let k = lead_encoded n _ (margin_encoded n S h (collapses off n) off) basic bullets in
      by_cond Encoded (is_empty t) (λ e. h) (λ e. (pushed _ (by_cond UTF8_octets n.escape (λ _. octets_escape q) (λ _. q)) k.0, k.1))

-- ---- the step

module _ (bullets : Bool) (n : ExtractNode) {text : Bytes} (p : UTF8_octets text) (S : State) (h : Encoded S) where
  lists_encoded : Encoded (level n (count_uncollapsed n S))
  lists_encoded = level_encoded n (count_uncollapsed n S) (count_encoded n S h)

  after_encoded : (f : Formatting) → Encoded (after f bullets n text S)
  unfolding after_off after_basic after_html finish_html html_marks
  after_encoded Off = text_encoded bullets n text p _ (block_encoded n S h n.block) true false n.block
  after_encoded Basic =
      let T = level n (count_uncollapsed n S) in
      text_encoded bullets n text p _ (block_encoded n (item bullets n T) (item_encoded n T lists_encoded bullets) n.block) false true n.block
  after_encoded MinimalHtml =
      let T = level n (count_uncollapsed n S) in
      let A = html_item bullets n T in
      let B = html_pre n A in
      let C = html_br n B in
      let D = html_tag bullets n (block_after_marks bullets n) C in
      let block = block_after_tag bullets n C.uncollapsed in
      let c = html_br_encoded n B (html_pre_encoded n A (html_item_encoded n T lists_encoded bullets)) in
      let k = html_tag_encoded n C c bullets (block_after_marks bullets n) in
      text_encoded bullets n text p (block_margin block n D) (block_encoded n D k block) false false block

pub step_encoded : (f : Formatting) (bullets : Bool) (n : ExtractNode) {text : Bytes} → UTF8_octets text
    → (S : State) → Encoded S → Encoded (step f bullets n text S)
unfolding step_by
step_encoded f bullets n p S h =
    let T = rows n S in
    let k = rows_encoded n S h in
    by_cond Encoded (is_cell n.tag && n.end) (λ e. k) (λ e. after_encoded bullets n p (cell (is_off f) n T) (cell_encoded n T k (is_off f)) f)
