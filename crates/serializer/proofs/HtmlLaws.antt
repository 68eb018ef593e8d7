-- Reduced markup: items, pre and br, and the tags of headings, paragraphs and lists.
use mathlib.Core.Path.{◌≡◌, refl, sym, ap, ◌∙◌}
use mathlib.Core.Bool.{Bool, true, false, ◌&&◌, ◌||◌, not, cond}
use mathlib.Core.List.{List, [], ◌∷◌}
use Prim.Native.Nat.{ℕ, ◌+◌, ◌-◌, ◌*◌, ◌≤◌, ◌<◌}
use native.Mathlib.Omega.{arith}
use lib.Dec.{eqb, leb}
use lib.ListN.{replicate, length-replicate}
use borrow.Author.Tests.{eq-eqb, ne_eqb, leb-true}
use Rattle.common.specs.Bytes.{Bytes, codes, same, length_limit}
use Rattle.common.proofs.Choice.{by_cond, by_test, absurd_test, and_parts}
use Rattle.common.proofs.Equality.{same_true}
use Rattle.common.proofs.Every.{every_at}
use Rattle.tags.specs.Tags.{tag_names, name_of, is_list, is_li, is_pre, is_br, is_heading_or_p}
use Rattle.tags.specs.Words.{words, first_word, other_words}
use Rattle.text.specs.Text.{is_space}
use Rattle.writer.specs.Out.{Out, push_all, strip}
use Rattle.writer.specs.Writing.{Ready, Does}
use Rattle.writer.specs.declared.Writer.{Writer}
use Rattle.writer.proofs.DoesLaws.{Grows, grows_none, grows_push_all, grows_strip, grows_then, grows_cond}
use Rattle.writer.proofs.HeldLaws.{run_small}
use Rattle.html2text.specs.Serialize.{State, on_out, with_margins, with_uncollapsed, one, collapses, margin, block_margin, item_out, html_item, html_pre, html_br, html_marks, wants_tag, opens_tag, tag_margins, before_tag, tag_out, html_tag, block_after_marks, block_after_tag, put_text, finish_html}
use Rattle.html2text.specs.declared.ExtractNode.{ExtractNode}
use Rattle.serializer.specs.Serializing.{set_writer, set_margins, Lent, lent, Stands, AbleOut, WorksAlone, WorksOut, tag_indent, tag_end}
use Rattle.serializer.specs.declared.Serializer.{Serializer}
use Rattle.serializer.proofs.MarginLaws.{rises_margin, rises_block}
use Rattle.serializer.proofs.StandsLaws.{stands_margins}
use Rattle.serializer.proofs.TextLaws.{rises_put_text, put_text_nothing}
use Rattle.serializer.proofs.WorksLaws.{Rises, rises_none, rises_then, rises_cond, rises_out, out_none, out_by, out_able_by, text_ready, text_works}

-- ---- a change of the text that looks at the depth

abbrev pub on_depth : (ℕ → Out → Out) → State → State
on_depth F S = on_out (F S.depth) S

module _ {write : Bool} {s : Serializer} {buf : Bytes} (F : ℕ → Out → Out) where
  pub depth_ready : AbleOut write s buf (on_depth F) → Ready write s.writer buf (F s.depth)
  depth_ready r = text_ready (λ S. F S.depth) (λ under a S h. rw h.depth) r

  pub depth_works : {w : Writer} {buf' : Bytes} → Does write s.writer buf w buf' (F s.depth) → WorksOut write s buf (set_writer w s) buf' (on_depth F)
  depth_works d = text_works (λ S. F S.depth) (λ under a S h. rw h.depth) d

pub rises_push : (t : Bytes) → Rises (on_out (push_all t))
rises_push t = record { rise = λ S. (grows_push_all t).grow S.out }

-- a margin of none
pub zero_alone : (s : Serializer) → WorksAlone s (set_margins 0 s) (with_margins 0)
zero_alone s = record { at = λ write a. record { run = λ under S h. stands_margins h refl } }

pub rises_zero : Rises (with_margins 0)
rises_zero = record { rise = λ S. omega arith }

pub copies_small : {write : Bool} {w : Writer} {buf : Bytes} (k : ℕ) → Ready write w buf (push_all (replicate k 0x20)) → k < length_limit
copies_small k r = omega (arith, run_small (replicate k 0x20) r, length-replicate {A = ℕ} k 0x20)

pub one_most : (b : Bool) {k : ℕ} → k ≡ one b → k ≤ 1
one_most true e = omega (arith, e)
one_most false e = omega (arith, e)

-- ---- items

module _ (end bare : Bool) (depth : ℕ) where
  pub item_out_end : end ≡ true → (o : Out) → item_out end bare depth o ≡ push_all (codes "</li>\n") (cond bare (strip o) o)
  unfolding item_out
  item_out_end e o = rw e

  pub item_out_begin : end ≡ false → (o : Out) → item_out end bare depth o ≡ push_all (codes "<li>") (push_all (replicate (depth * 2) 0x20) o)
  unfolding item_out
  item_out_begin e o = rw e

  pub grows_item_out : Grows (item_out end bare depth)
  unfolding item_out
  grows_item_out =
      grows_cond (λ o. end) (grows_then (grows_cond (λ o. bare) (grows_strip is_space) grows_none) (grows_push_all (codes "</li>\n")))
      (grows_then (grows_push_all (replicate (depth * 2) 0x20)) (grows_push_all (codes "<li>")))

module _ (bullets : Bool) (n : ExtractNode) where
  pub html_item_is : (bullets && is_li n.tag) ≡ true → (S : State) → html_item bullets n S ≡ with_margins 0 (on_depth (item_out n.end (eqb n.pre_depth 0)) (margin (collapses false n) false S))
  unfolding html_item
  html_item_is e S = rw e

  pub html_item_none : (bullets && is_li n.tag) ≡ false → (S : State) → html_item bullets n S ≡ S
  unfolding html_item
  html_item_none e S = rw e

-- ---- pre and br

module _ (n : ExtractNode) where
  pub html_pre_end : n.tag ≡ 6 → n.end ≡ true → (S : State) → html_pre n S ≡ with_margins 0 (on_out (push_all (codes "</pre>")) S)
  unfolding html_pre
  html_pre_end e f S = rw (eq-eqb n.tag 6 e, f)

  pub html_pre_begin : n.tag ≡ 6 → n.end ≡ false → (S : State) → html_pre n S ≡ with_margins 0 (on_out (push_all (codes "<pre>")) (margin (collapses false n) false S))
  unfolding html_pre
  html_pre_begin e f S = rw (eq-eqb n.tag 6 e, f)

  pub html_pre_none : (n.tag ≡ 6 → ⊥) → (S : State) → html_pre n S ≡ S
  unfolding html_pre
  html_pre_none e S = rw (ne_eqb n.tag 6 e)

  pub html_br_is : n.tag ≡ 7 → (S : State) → html_br n S ≡ on_out (push_all (codes "<br>")) S
  unfolding html_br
  html_br_is e S = rw (eq-eqb n.tag 7 e)

  pub html_br_none : (n.tag ≡ 7 → ⊥) → (S : State) → html_br n S ≡ S
  unfolding html_br
  html_br_none e S = rw (ne_eqb n.tag 7 e)

pub html_marks_is : (bullets : Bool) (n : ExtractNode) (S : State) → html_marks bullets n S ≡ html_br n (html_pre n (html_item bullets n S))
unfolding html_marks
html_marks_is bullets n S = refl

-- ---- the margin before a tag

abbrev pub add_margins : ExtractNode → Bool → State → State
add_margins n block S = with_margins (tag_margins n block S.margins) S

pub add_alone : (s : Serializer) (n : ExtractNode) (block : Bool) {m : ℕ} → m ≡ tag_margins n block s.margins → WorksAlone s (set_margins m s) (add_margins n block)
add_alone s n block e = record { at = λ write a. record { run = λ under S h. stands_margins h (e ∙ ap (tag_margins n block) h.margins) } }

module _ {write : Bool} {s : Serializer} (n : ExtractNode) (block : Bool) where
  opens_is : {t : Bool} → opens_tag n s.uncollapsed ≡ t → {under : Bytes} {a : Lent} {S : State} → Stands write under s a S → opens_tag n S.uncollapsed ≡ t
  opens_is e h = ap (opens_tag n) (sym h.uncollapsed) ∙ e

  module _ {buf : Bytes} (e : opens_tag n s.uncollapsed ≡ true) where
    before_is : (numbering : List ℕ) (cells : List Bool) (under : Bytes) (S : State) → Stands write under s (lent numbering cells buf) S
        → before_tag n block S ≡ with_uncollapsed 0 (margin (collapses false n) false (add_margins n block S))
    unfolding before_tag
    before_is numbering cells under S h = rw (opens_is e h)

    pub before_able : AbleOut write s buf (before_tag n block) → AbleOut write s buf (λ S. with_uncollapsed 0 (margin (collapses false n) false (add_margins n block S)))
    before_able r = out_able_by r before_is

    pub before_works : {s' : Serializer} {buf' : Bytes} → WorksOut write s buf s' buf' (λ S. with_uncollapsed 0 (margin (collapses false n) false (add_margins n block S))) → WorksOut write s buf s' buf' (before_tag n block)
    before_works d = out_by d (λ numbering cells under S h. sym (before_is numbering cells under S h))

  pub before_none : {buf : Bytes} → opens_tag n s.uncollapsed ≡ false → WorksOut write s buf s buf (before_tag n block)
  unfolding before_tag
  before_none e = out_by out_none (λ numbering cells under S h. sym (rw (opens_is e h)))

-- ---- a tag

module _ (n : ExtractNode) where
  abbrev begins : Bytes
  begins = cond n.end (codes "</") (codes "<")

  abbrev opens_list : Bool
  opens_list = is_list n.tag && not n.end

  abbrev ends_line : Bool
  ends_line = opens_list && eqb n.pre_depth 0

  pub tag_out_is : (bullets : Bool) (depth : ℕ) (o : Out) → tag_out bullets n depth o ≡ tag_end ends_line (push_all (name_of n.tag) (push_all begins (tag_indent bullets (depth - one opens_list) o)))
  unfolding tag_out
  tag_out_is bullets depth o = refl

  -- what is behind each part
  pub grows_behind_name : Grows (tag_end ends_line)
  grows_behind_name = grows_then (grows_push_all (codes ">")) (grows_push_all (cond ends_line (codes "\n") []))

  pub grows_behind_begin : Grows (λ o. tag_end ends_line (push_all (name_of n.tag) o))
  grows_behind_begin = grows_then (grows_push_all (name_of n.tag)) grows_behind_name

  pub grows_behind_indent : Grows (λ o. tag_end ends_line (push_all (name_of n.tag) (push_all begins o)))
  grows_behind_indent = grows_then (grows_push_all begins) grows_behind_begin

  grows_tag_indent : (bullets : Bool) (depth : ℕ) → Grows (tag_indent bullets depth)
  grows_tag_indent bullets depth = grows_cond (λ o. bullets) (grows_push_all (replicate (depth * 2) 0x20)) grows_none

  grows_tag_out : (bullets : Bool) (depth : ℕ) → Grows (tag_out bullets n depth)
  grows_tag_out bullets depth = record { grow = λ o. rw (tag_out_is bullets depth o) ((grows_then (grows_tag_indent bullets (depth - one opens_list)) grows_behind_indent).grow o) }

pub tag_end_line : {line : Bool} → line ≡ true → (o : Out) → tag_end line o ≡ push_all (codes ">\n") o
unfolding codes push_all
tag_end_line e o = rw e

pub tag_end_plain : {line : Bool} → line ≡ false → (o : Out) → tag_end line o ≡ push_all (codes ">") o
unfolding codes push_all
tag_end_plain e o = rw e

module _ (bullets : Bool) (n : ExtractNode) (block : Bool) where
  pub html_tag_is : wants_tag bullets n ≡ true → (S : State) → html_tag bullets n block S ≡ on_depth (tag_out bullets n) (before_tag n block S)
  unfolding html_tag
  html_tag_is e S = rw e

  pub html_tag_none : wants_tag bullets n ≡ false → (S : State) → html_tag bullets n block S ≡ S
  unfolding html_tag
  html_tag_none e S = rw e

  -- what wants a tag has a name that is written
  pub wants_name : wants_tag bullets n ≡ true → (is_heading_or_p n.tag || is_list n.tag) ≡ true
  wants_name e = go (is_heading_or_p n.tag) (is_list n.tag) bullets (and_parts n.has_children (is_heading_or_p n.tag || (is_list n.tag && bullets)) e).1
    where
      go : (h l b : Bool) → (h || (l && b)) ≡ true → (h || l) ≡ true
      go true l b q = refl
      go false true b q = refl
      go false false b q = q

-- ---- names

name_test : ℕ → Bool
name_test t = same (name_of t) (104 ∷ (49 + (t - 8)) ∷ [])

module _ (tag : ℕ) where
  pub name_ul : tag ≡ 3 → name_of tag ≡ codes "ul"
  unfolding name_of tag_names words first_word other_words codes
  name_ul e = rw e

  pub name_ol : tag ≡ 4 → name_of tag ≡ codes "ol"
  unfolding name_of tag_names words first_word other_words codes
  name_ol e = rw e

  pub name_p : tag ≡ 14 → name_of tag ≡ codes "p"
  unfolding name_of tag_names words first_word other_words codes
  name_p e = rw e

  module _ (e : (is_heading_or_p tag || is_list tag) ≡ true) (u : tag ≡ 3 → ⊥) (o : tag ≡ 4 → ⊥) where
    heading : is_heading_or_p tag ≡ true
    heading = by_test (is_heading_or_p tag) (λ h. h) (λ h. absurd_test (rw (h, ne_eqb tag 3 u, ne_eqb tag 4 o) at e) refl)

    pub heading_between : (8 ≤ tag) × (tag ≤ 14)
    heading_between = let p = and_parts (leb 8 tag) (leb tag 14) heading in (leb-true 8 tag p.0, leb-true tag 14 p.1)

    pub name_heading : (tag ≡ 14 → ⊥) → name_of tag ≡ 104 ∷ (49 + (tag - 8)) ∷ []
    unfolding name_test name_of tag_names words first_word other_words codes same
    name_heading p = same_true (name_of tag) (104 ∷ (49 + (tag - 8)) ∷ []) (every_at name_test 8 6 refl tag heading_between.0 (omega (arith, heading_between.1, p)))

-- ---- the end of the step

module _ {write : Bool} {s : Serializer} {buf : Bytes} (bullets : Bool) (n : ExtractNode) {block : Bool} (e : block ≡ block_after_tag bullets n s.uncollapsed) where
  finish_is : (numbering : List ℕ) (cells : List Bool) (under : Bytes) (S : State) → Stands write under s (lent numbering cells buf) S
      → finish_html bullets n [] S ≡ block_margin block n (html_tag bullets n (block_after_marks bullets n) S)
  unfolding finish_html
  finish_is numbering cells under S h =
      ap (λ (b : Bool). put_text false false bullets n b [] (block_margin b n (html_tag bullets n (block_after_marks bullets n) S))) (ap (block_after_tag bullets n) (sym h.uncollapsed) ∙ sym e)
      ∙ put_text_nothing false false bullets n block (block_margin block n (html_tag bullets n (block_after_marks bullets n) S))

  pub finish_able : AbleOut write s buf (finish_html bullets n []) → AbleOut write s buf (λ S. block_margin block n (html_tag bullets n (block_after_marks bullets n) S))
  finish_able r = out_able_by r finish_is

  pub finish_works : {s' : Serializer} {buf' : Bytes} → WorksOut write s buf s' buf' (λ S. block_margin block n (html_tag bullets n (block_after_marks bullets n) S))
      → WorksOut write s buf s' buf' (finish_html bullets n [])
  finish_works d = out_by d (λ numbering cells under S h. sym (finish_is numbering cells under S h))

-- ---- the greatest length never falls

pub rises_item_out : (end bare : Bool) → Rises (on_depth (item_out end bare))
rises_item_out end bare = rises_out (λ T. item_out end bare T.depth) (λ T. grows_item_out end bare T.depth)

rises_html_item : (bullets : Bool) (n : ExtractNode) → Rises (html_item bullets n)
rises_html_item bullets n =
    record {
      rise = λ S. by_test (bullets && is_li n.tag)
          (λ e. rw (html_item_is bullets n e S)
          ((rises_then (rises_margin (collapses false n) false) (rises_item_out n.end (eqb n.pre_depth 0))).rise S))
          (λ e. rw (html_item_none bullets n e S) (omega arith));
    }

pub rises_html_pre : (n : ExtractNode) → Rises (html_pre n)
unfolding html_pre
rises_html_pre n =
    rises_cond (λ S. is_pre n.tag)
    (rises_cond (λ S. n.end) (rises_then (rises_push (codes "</pre>")) rises_zero) (rises_then (rises_then (rises_margin (collapses false n) false) (rises_push (codes "<pre>"))) rises_zero))
    rises_none

pub rises_html_br : (n : ExtractNode) → Rises (html_br n)
unfolding html_br
rises_html_br n = rises_cond (λ S. is_br n.tag) (rises_push (codes "<br>")) rises_none

pub rises_html_marks : (bullets : Bool) (n : ExtractNode) → Rises (html_marks bullets n)
unfolding html_marks
rises_html_marks bullets n = rises_then (rises_then (rises_html_item bullets n) (rises_html_pre n)) (rises_html_br n)

rises_before : (n : ExtractNode) (block : Bool) → Rises (before_tag n block)
unfolding before_tag
rises_before n block = rises_cond (λ S. opens_tag n S.uncollapsed) (record { rise = λ S. (rises_margin (collapses false n) false).rise (add_margins n block S) }) rises_none

pub rises_tag_out : (bullets : Bool) (n : ExtractNode) → Rises (on_depth (tag_out bullets n))
rises_tag_out bullets n = rises_out (λ T. tag_out bullets n T.depth) (λ T. grows_tag_out n bullets T.depth)

rises_html_tag : (bullets : Bool) (n : ExtractNode) (block : Bool) → Rises (html_tag bullets n block)
rises_html_tag bullets n block =
    record {
      rise = λ S. by_test (wants_tag bullets n)
          (λ e. rw (html_tag_is bullets n block e S) ((rises_then (rises_before n block) (rises_tag_out bullets n)).rise S))
          (λ e. rw (html_tag_none bullets n block e S) (omega arith));
    }

-- the margin and the text
pub rises_rest : (off basic bullets : Bool) (n : ExtractNode) (block : Bool) (text : Bytes) → Rises (λ S. put_text off basic bullets n block text (block_margin block n S))
rises_rest off basic bullets n block text = rises_then (rises_block block n) (rises_put_text off basic bullets n block text)

pub rises_finish : (bullets : Bool) (n : ExtractNode) (text : Bytes) → Rises (finish_html bullets n text)
unfolding finish_html
rises_finish bullets n text =
    record { rise = λ S. (rises_then (rises_html_tag bullets n (block_after_marks bullets n)) (rises_rest false false bullets n (block_after_tag bullets n S.uncollapsed) text)).rise S }

-- ---- margins are not added to

margins_before : (n : ExtractNode) (block : Bool) (S : State) → (before_tag n block S).margins ≤ S.margins
unfolding before_tag margin
margins_before n block S = by_cond (λ (T : State). T.margins ≤ S.margins) (opens_tag n S.uncollapsed) (λ e. omega arith) (λ e. omega arith)

pub margins_tag : (bullets : Bool) (n : ExtractNode) (block : Bool) (S : State) → (html_tag bullets n block S).margins ≤ S.margins
unfolding html_tag
margins_tag bullets n block S = by_cond (λ (T : State). T.margins ≤ S.margins) (wants_tag bullets n) (λ e. margins_before n block S) (λ e. omega arith)

margins_item : (bullets : Bool) (n : ExtractNode) (S : State) → (html_item bullets n S).margins ≤ S.margins
unfolding html_item
margins_item bullets n S = by_cond (λ (T : State). T.margins ≤ S.margins) (bullets && is_li n.tag) (λ e. omega arith) (λ e. omega arith)

margins_pre : (n : ExtractNode) (S : State) → (html_pre n S).margins ≤ S.margins
unfolding html_pre
margins_pre n S =
    by_cond (λ (T : State). T.margins ≤ S.margins) (is_pre n.tag) (λ e. by_cond (λ (T : State). T.margins ≤ S.margins) n.end (λ f. omega arith) (λ f. omega arith)) (λ e. omega arith)

margins_br : (n : ExtractNode) (S : State) → (html_br n S).margins ≤ S.margins
unfolding html_br
margins_br n S = by_cond (λ (T : State). T.margins ≤ S.margins) (is_br n.tag) (λ e. omega arith) (λ e. omega arith)

pub margins_marks : (bullets : Bool) (n : ExtractNode) (S : State) → (html_marks bullets n S).margins ≤ S.margins
unfolding html_marks
margins_marks bullets n S = omega (arith, margins_item bullets n S, margins_pre n (html_item bullets n S), margins_br n (html_pre n (html_item bullets n S)))
