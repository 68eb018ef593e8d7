-- The greatest length of what is written never falls: in no part of a step, in no step and along no run.
use mathlib.Core.Path.{◌≡◌, refl, sym}
use mathlib.Core.Bool.{Bool, true, false, ◌&&◌, ◌||◌, not, cond}
use mathlib.Core.List.{List, [], ◌∷◌}
use Prim.Native.Nat.{ℕ, ◌+◌, ◌-◌, ◌*◌, ◌≤◌}
use native.Mathlib.Omega.{arith}
use lib.Dec.{eqb, ltb}
use lib.ListN.{length, get_or, replicate}
use Rattle.common.specs.Bytes.{Bytes, codes, is_empty}
use Rattle.common.proofs.Choice.{by_cond}
use Rattle.options.specs.Options.{is_off}
use Rattle.options.specs.declared.ExtractOptions.{ExtractOptions}
use Rattle.options.specs.declared.Formatting.{Formatting}
use Rattle.options.specs.declared.Formatting.TheVariants.{Off, Basic, MinimalHtml}
use Rattle.tags.specs.Tags.{name_of, is_tr, is_cell, is_list, is_li, is_pre, is_br}
use Rattle.text.specs.Text.{escape}
use Rattle.writer.specs.Out.{Out, push_all, strip_by, strip}
use Rattle.writer.proofs.OutLaws.{push_all_rises}
use Rattle.html2text.specs.Collect.{Event, Entry, tag_number, added}
use Rattle.html2text.specs.Extract.{Run, going, too_many_levels, too_many_rows, passes_levels, passes_rows, line_of, taken}
use Rattle.html2text.specs.Fused.{Fused, closed, open_entry, pushes_on, emptied, opened, grown, fed, fed_all}
use Rattle.html2text.specs.Serialize.{State, one, with_margins, with_uncollapsed, ends_blank, collapses, separated, margin_out, margin, rows, between, beside_cell, in_row, cell, count_uncollapsed, changes_level, level, number_of, item, item_out, html_item, html_pre, html_br, html_marks, wants_tag, opens_tag, tag_margins, before_tag, tag_out, html_tag, block_after_marks, block_after_tag, block_margin, trims, shortened, indent_text, lead, put_text, after_off, after_basic, finish_html, after_html, step_by, after, step}
use Rattle.html2text.specs.declared.ExtractNode.{ExtractNode}

-- ---- what is written

abbrev Longer : Out → Out → Type 0
Longer o p = o.peak ≤ p.peak

separated_longer : (off : Bool) (size : ℕ) (o : Out) → Longer o (separated off size o)
unfolding separated
separated_longer off size o = by_cond (Longer o) (eqb (length o.text) 0) (λ e. omega arith) (λ e. push_all_rises (cond off (0x20 ∷ []) (replicate size 0x0a)) o)

margin_longer : (bare off : Bool) (size : ℕ) (o : Out) → Longer o (margin_out bare off size o)
unfolding margin_out strip_by
margin_longer true off size o = by_cond (Longer o) (eqb size 0) (λ e. omega arith) (λ e. separated_longer off size (strip o))
margin_longer false off size o = by_cond (Longer o) (eqb size 0) (λ e. omega arith) (λ e. separated_longer off size o)

between_longer : (off : Bool) (o : Out) → Longer o (between off o)
unfolding between
between_longer off o =
    by_cond (Longer o) off
    (λ e. by_cond (Longer o) (eqb (length o.text) 0 || ends_blank o.text) (λ b. omega arith) (λ b. push_all_rises (0x20 ∷ []) o))
    (λ e. push_all_rises (codes "\t\t") o)

item_longer : (end bare : Bool) (depth : ℕ) (o : Out) → Longer o (item_out end bare depth o)
unfolding item_out strip_by
item_longer true true depth o = push_all_rises (codes "</li>\n") (strip o)
item_longer true false depth o = push_all_rises (codes "</li>\n") o
item_longer false bare depth o =
    let s : Bytes = replicate (depth * 2) 0x20 in
    omega (arith, push_all_rises s o, push_all_rises (codes "<li>") (push_all s o))

tag_longer : (bullets : Bool) (n : ExtractNode) (depth : ℕ) (o : Out) → Longer o (tag_out bullets n depth o)
unfolding tag_out
tag_longer bullets n depth o =
    let s : Bytes = replicate ((depth - one (is_list n.tag && not n.end)) * 2) 0x20 in
    let p = cond bullets (push_all s o) o in
    let a = cond n.end (codes "</") (codes "<") in
    let d = cond ((is_list n.tag && not n.end) && eqb n.pre_depth 0) (codes "\n") [] in
    let h : Longer o p = by_cond (Longer o) bullets (λ e. push_all_rises s o) (λ e. omega arith) in
    omega (
      arith,
      push_all_rises a p,
      push_all_rises (name_of n.tag) (push_all a p),
      push_all_rises (codes ">") (push_all (name_of n.tag) (push_all a p)),
      push_all_rises d (push_all (codes ">") (push_all (name_of n.tag) (push_all a p))),
    )

-- ---- the parts of a step

pub record Rises (F : State → State) : Type 0 where
  pub rise : (S : State) → S.out.peak ≤ (F S).out.peak

abbrev Higher : State → State → Type 0
Higher S T = S.out.peak ≤ T.out.peak

pub rises_none : Rises (λ S. S)
rises_none = record { rise = λ S. omega arith }

pub rises_then : {F G : State → State} → Rises F → Rises G → Rises (λ S. G (F S))
rises_then {F} a b = record { rise = λ S. omega (arith, a.rise S, b.rise (F S)) }

pub rises_margin : (bare off : Bool) → Rises (margin bare off)
unfolding margin
rises_margin bare off = record { rise = λ S. margin_longer bare off S.margins S.out }

pub rises_rows : (n : ExtractNode) → Rises (rows n)
unfolding rows
rises_rows n = record { rise = λ S. by_cond (Higher S) (is_tr n.tag) (λ e. by_cond (Higher S) n.end (λ d. omega arith) (λ d. omega arith)) (λ e. omega arith) }

module _ (off : Bool) where
  pub rises_beside : Rises (beside_cell off)
  unfolding beside_cell
  rises_beside =
      record { rise = λ S. by_cond (Higher S) (get_or S.row_has_cell (length S.row_has_cell - 1) false) (λ e. between_longer off S.out) (λ e. omega arith) }

  pub rises_in_row : Rises (in_row off)
  unfolding in_row
  rises_in_row = record { rise = λ S. by_cond (Higher S) (eqb (length S.row_has_cell) 0) (λ e. omega arith) (λ e. rises_beside.rise S) }

  pub rises_cell : (n : ExtractNode) → Rises (cell off n)
  unfolding cell
  rises_cell n =
      record { rise = λ S. by_cond (Higher S) (is_cell n.tag) (λ e. (rises_then (rises_margin (collapses off n) off) rises_in_row).rise S) (λ e. omega arith) }

module _ (bullets : Bool) (n : ExtractNode) where
  pub rises_count : Rises (count_uncollapsed n)
  unfolding count_uncollapsed
  rises_count = record { rise = λ S. by_cond (Higher S) (n.block && not n.collapse_margins) (λ e. omega arith) (λ e. omega arith) }

  pub rises_level : Rises (level n)
  unfolding level
  rises_level =
      record { rise = λ S. by_cond (Higher S) (changes_level n.tag S.depth) (λ e. by_cond (Higher S) n.end (λ d. omega arith) (λ d. omega arith)) (λ e. omega arith) }

  pub rises_item : Rises (item bullets n)
  unfolding item
  rises_item =
      record {
        rise = λ S. by_cond (Higher S) (bullets && is_li n.tag)
            (λ e. by_cond (Higher S) (eqb (number_of S) 0) (λ z. omega arith) (λ z. by_cond (Higher S) n.end (λ d. omega arith) (λ d. omega arith)))
            (λ e. omega arith);
      }

  pub rises_html_item : Rises (html_item bullets n)
  unfolding html_item
  rises_html_item =
      record {
        rise = λ S.
            let T = margin (collapses false n) false S in
            by_cond (Higher S) (bullets && is_li n.tag)
            (λ e. omega (arith, (rises_margin (collapses false n) false).rise S, item_longer n.end (eqb n.pre_depth 0) T.depth T.out))
            (λ e. omega arith);
      }

  pub rises_html_pre : Rises (html_pre n)
  unfolding html_pre
  rises_html_pre =
      record {
        rise = λ S.
            let T = margin (collapses false n) false S in
            by_cond (Higher S) (is_pre n.tag)
            (λ e. by_cond (Higher S) n.end (λ d. push_all_rises (codes "</pre>") S.out) (λ d. omega (arith, (rises_margin (collapses false n) false).rise S, push_all_rises (codes "<pre>") T.out)))
            (λ e. omega arith);
      }

  pub rises_html_br : Rises (html_br n)
  unfolding html_br
  rises_html_br = record { rise = λ S. by_cond (Higher S) (is_br n.tag) (λ e. push_all_rises (codes "<br>") S.out) (λ e. omega arith) }

  pub rises_html_marks : Rises (html_marks bullets n)
  unfolding html_marks
  rises_html_marks = rises_then (rises_then rises_html_item rises_html_pre) rises_html_br

  module _ (block : Bool) where
    pub rises_before_tag : Rises (before_tag n block)
    unfolding before_tag
    rises_before_tag =
        record {
          rise = λ S. by_cond (Higher S) (opens_tag n S.uncollapsed) (λ e. (rises_margin (collapses false n) false).rise (with_margins (tag_margins n block S.margins) S)) (λ e. omega arith);
        }

    pub rises_html_tag : Rises (html_tag bullets n block)
    unfolding html_tag
    rises_html_tag =
        record {
          rise = λ S.
              let T = before_tag n block S in
              by_cond (Higher S) (wants_tag bullets n) (λ e. omega (arith, rises_before_tag.rise S, tag_longer bullets n T.depth T.out)) (λ e. omega arith);
        }

    pub rises_block : Rises (block_margin block n)
    unfolding block_margin
    rises_block = record { rise = λ S. by_cond (Higher S) block (λ e. omega arith) (λ e. omega arith) }

    module _ (off basic : Bool) where
      pub rises_indent : Rises (indent_text basic bullets)
      unfolding indent_text
      rises_indent =
          record {
            rise = λ S. by_cond (Higher S) (basic && ltb 0 S.depth) (λ e. push_all_rises (replicate ((S.depth + one (bullets && not S.bullet)) * 2) 0x20) S.out) (λ e. omega arith);
          }

      pub rises_lead : Rises (lead basic bullets)
      unfolding lead
      rises_lead = record { rise = λ S. let T = indent_text basic bullets S in omega (arith, rises_indent.rise S, push_all_rises T.prefix T.out) }

      pub rises_text : (text : Bytes) → Rises (put_text off basic bullets n block text)
      unfolding put_text
      rises_text text =
          record {
            rise = λ S.
                let t = shortened (collapses off n) (trims block S) text in
                let T = margin (collapses off n) off S in
                let U = lead basic bullets (with_uncollapsed 0 T) in
                by_cond (Higher S) (is_empty t) (λ e. omega arith)
                (λ e. omega (arith, (rises_margin (collapses off n) off).rise S, rises_lead.rise (with_uncollapsed 0 T), push_all_rises (cond n.escape (escape t) t) U.out));
          }

-- ---- the step

module _ (bullets : Bool) (n : ExtractNode) (text : Bytes) where
  pub rises_off : Rises (after_off bullets n text)
  unfolding after_off
  rises_off = rises_then (rises_block bullets n n.block) (rises_text bullets n n.block true false text)

  pub rises_basic : Rises (after_basic bullets n text)
  unfolding after_basic
  rises_basic =
      rises_then (rises_then (rises_then (rises_then (rises_count bullets n) (rises_level bullets n)) (rises_item bullets n)) (rises_block bullets n n.block))
      (rises_text bullets n n.block false true text)

  pub rises_finish : Rises (finish_html bullets n text)
  unfolding finish_html
  rises_finish =
      record {
        rise = λ S.
            let block = block_after_tag bullets n S.uncollapsed in
            (rises_then (rises_then (rises_html_tag bullets n (block_after_marks bullets n)) (rises_block bullets n block)) (rises_text bullets n block false false text)).rise S;
      }

  pub rises_html : Rises (after_html bullets n text)
  unfolding after_html
  rises_html = rises_then (rises_then (rises_then (rises_count bullets n) (rises_level bullets n)) (rises_html_marks bullets n)) rises_finish

  rises_after : (f : Formatting) → Rises (after f bullets n text)
  rises_after Off = rises_off
  rises_after Basic = rises_basic
  rises_after MinimalHtml = rises_html

  pub rises_step : (f : Formatting) → Rises (step f bullets n text)
  unfolding step_by
  rises_step f =
      record {
        rise = λ S. by_cond (Higher S) (is_cell n.tag && n.end) (λ e. (rises_rows n).rise S) (λ e. (rises_then (rises_then (rises_rows n) (rises_cell (is_off f) n)) (rises_after f)).rise S);
      }

-- ---- a run, and one that begins with it

-- no entry was refused, and what was written was never longer than in T
pub record Before (R : Run) (T : State) : Type 0 where
  pub state : State
  pub is : R ≡ going state
  pub rises : state.out.peak ≤ T.out.peak

pub record Onward (R R' : Run) : Type 0 where
  pub before : (T : State) → R' ≡ going T → Before R T
  pub levels : (line : ℕ) → R ≡ too_many_levels line → R' ≡ too_many_levels line
  pub rows : (line : ℕ) → R ≡ too_many_rows line → R' ≡ too_many_rows line

pub onward_none : {R : Run} → Onward R R
onward_none = record { before = λ T e. record { state = T; is = e; rises = omega arith }; levels = λ line e. e; rows = λ line e. e }

pub onward_then : {R R' R'' : Run} → Onward R R' → Onward R' R'' → Onward R R''
onward_then a b =
    record {
      before = λ T e. let k = b.before T e in let j = a.before k.state k.is in record { state = j.state; is = j.is; rises = omega (arith, j.rises, k.rises) };
      levels = λ line e. b.levels line (a.levels line e);
      rows = λ line e. b.rows line (a.rows line e);
    }

onward_taken : (f : Formatting) (bullets : Bool) (e : Entry) (R : Run) → Onward R (taken f bullets e R)
onward_taken f bullets e (going S) =
    record {
      before = λ T q. record { state = S; is = refl; rises = rw (sym (went (passes_levels f e.node S) (passes_rows e.node S) T q)) ((rises_step bullets e.node e.text f).rise S) };
      levels = λ line q. cc;
      rows = λ line q. cc;
    }
  where
    U : State
    U = step f bullets e.node e.text S

    went : (b c : Bool) (T : State) → cond b (too_many_levels (line_of e)) (cond c (too_many_rows (line_of e)) (going U)) ≡ going T → U ≡ T
    went true c T q = cc
    went false true T q = cc
    went false false T q = cc
onward_taken f bullets e (too_many_levels line) = onward_none
onward_taken f bullets e (too_many_rows line) = onward_none

module _ (o : ExtractOptions) where
  pub onward_closed : (F : Fused) → Onward F.run (closed o F)
  unfolding closed
  onward_closed F =
      by_cond (Onward F.run) F.any (λ e. onward_taken o.formatting o.list_bullets (open_entry o F) F.run) (λ e. onward_none)

  onward_fed : (e : Event) (F : Fused) → Onward F.run (fed o e F).run
  unfolding fed opened grown
  onward_fed e F = by_cond (λ (G : Fused). Onward F.run G.run) (pushes_on o F e) (λ p. onward_closed F) (λ p. onward_none)

  -- what was written before some events, beside what is written after them and after the open entry
  pub onward_all : (es : List Event) (F : Fused) → Onward F.run (closed o (fed_all o es F))
  unfolding fed_all
  onward_all [] F = onward_closed F
  onward_all (e ∷ es) F = onward_then (onward_fed e F) (onward_all es (fed o e F))

  -- ---- the greatest length of an entry's text

  pub note_fed : (e : Event) (F : Fused) → F.note.peak ≤ (fed o e F).note.peak
  unfolding fed opened grown
  note_fed e F =
      by_cond (λ (G : Fused). F.note.peak ≤ G.note.peak) (pushes_on o F e) (λ p. push_all_rises (added o e.node e.end (tag_number e.node)) (emptied o F.note))
      (λ p. push_all_rises (added o e.node e.end F.node.tag) F.note)

  pub note_all : (es : List Event) (F : Fused) → F.note.peak ≤ (fed_all o es F).note.peak
  unfolding fed_all
  note_all [] F = omega arith
  note_all (e ∷ es) F = omega (arith, note_fed e F, note_all es (fed o e F))
