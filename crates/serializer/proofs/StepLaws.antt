-- A step: rows and cells first, then what the formatting asks for.
use mathlib.Core.Path.{◌≡◌, refl, sym, ap, ◌∙◌}
use mathlib.Core.Bool.{Bool, true, false, ◌&&◌, not, and-false}
use mathlib.Core.List.{List, []}
use Prim.Native.Nat.{ℕ, ◌+◌, ◌-◌, ◌≤◌, ◌<◌}
use native.Mathlib.Omega.{arith}
use lib.Dec.{eqb, ltb}
use lib.ListN.{length, get_or}
use borrow.Author.Tests.{not-true}
use Rattle.common.specs.Bytes.{Bytes, length_limit}
use Rattle.common.proofs.Choice.{by_cond, and_parts}
use Rattle.options.specs.Options.{is_off}
use Rattle.options.specs.declared.Formatting.{Formatting}
use Rattle.options.specs.declared.Formatting.TheVariants.{Off, Basic, MinimalHtml}
use Rattle.tags.specs.Tags.{is_tr, is_cell, is_li, is_pre, is_br}
use Rattle.html2text.specs.Serialize.{State, margin, rows, beside_cell, in_row, cell, changes_level, count_uncollapsed, level, item, block_margin, html_item, html_pre, html_br, html_marks, opens_tag, wants_tag, block_after_marks, block_after_tag, put_text, finish_html, after_off, after_basic, after_html, step_by, after, step, collapses}
use Rattle.html2text.specs.Showing.{block_shown, dropped_showing, showing_of}
use Rattle.html2text.specs.declared.ExtractNode.{ExtractNode}
use Rattle.html2text.specs.declared.Showing.{Showing}
use Rattle.serializer.specs.Progress.{Begins, block_before, showing_behind}
use Rattle.serializer.specs.Serializing.{Lent, lent, Stands, Able, Works, AbleCells, AbleListed, WorksCells, WorksRows, Limits, ListLimits, Numbers, levels}
use Rattle.serializer.specs.declared.Serializer.{Serializer}
use Rattle.serializer.proofs.HtmlLaws.{margins_marks, rises_html_marks, rises_finish, rises_rest}
use Rattle.serializer.proofs.LevelLaws.{margins_levels, margins_item, rises_levels, rises_item}
use Rattle.serializer.proofs.RowLaws.{rises_rows, rises_cell}
use Rattle.serializer.proofs.StandsLaws.{depth_long}
use Rattle.serializer.proofs.TextLaws.{put_text_nothing, trims_is}
use Rattle.serializer.proofs.WorksLaws.{Rises, rises_then, rises_cond, works_then, works_by, able_first, able_by, able_then}

-- ---- the three formattings, as their parts

pub after_off_is : (bullets : Bool) (n : ExtractNode) (text : Bytes) (S : State) → after_off bullets n text S ≡ put_text true false bullets n n.block text (block_margin n.block n S)
unfolding after_off
after_off_is bullets n text S = refl

pub after_basic_is : (bullets : Bool) (n : ExtractNode) (text : Bytes) (S : State) → after_basic bullets n text S ≡ put_text false true bullets n n.block text (block_margin n.block n (item bullets n (levels n S)))
unfolding after_basic levels
after_basic_is bullets n text S = refl

pub after_html_is : (bullets : Bool) (n : ExtractNode) (text : Bytes) (S : State) → after_html bullets n text S ≡ finish_html bullets n text (html_marks bullets n (levels n S))
unfolding after_html levels
after_html_is bullets n text S = refl

-- without a text
pub after_off_none : (bullets : Bool) (n : ExtractNode) (S : State) → after_off bullets n [] S ≡ block_margin n.block n S
after_off_none bullets n S = after_off_is bullets n [] S ∙ put_text_nothing true false bullets n n.block (block_margin n.block n S)

pub after_basic_none : (bullets : Bool) (n : ExtractNode) (S : State) → after_basic bullets n [] S ≡ block_margin n.block n (item bullets n (levels n S))
after_basic_none bullets n S = after_basic_is bullets n [] S ∙ put_text_nothing false true bullets n n.block (block_margin n.block n (item bullets n (levels n S)))

pub rises_after : (f : Formatting) (bullets : Bool) (n : ExtractNode) (text : Bytes) → Rises (after f bullets n text)
rises_after Off bullets n text = record { rise = λ S. rw (after_off_is bullets n text S) ((rises_rest true false bullets n n.block text).rise S) }
rises_after Basic bullets n text =
    record { rise = λ S. rw (after_basic_is bullets n text S) ((rises_then (rises_then (rises_levels n) (rises_item bullets n)) (rises_rest false true bullets n n.block text)).rise S) }
rises_after MinimalHtml bullets n text =
    record { rise = λ S. rw (after_html_is bullets n text S) ((rises_then (rises_then (rises_levels n) (rises_html_marks bullets n)) (rises_finish bullets n text)).rise S) }

pub margins_listed : (bullets : Bool) (n : ExtractNode) (S : State) → (item bullets n (levels n S)).margins ≤ S.margins
margins_listed bullets n S = omega (arith, margins_levels n S, margins_item bullets n (levels n S))

pub margins_marked : (bullets : Bool) (n : ExtractNode) (S : State) → (html_marks bullets n (levels n S)).margins ≤ S.margins
margins_marked bullets n S = omega (arith, margins_levels n S, margins_marks bullets n (levels n S))

-- ---- dropped or not

module _ (off : Bool) (F : State → State) (n : ExtractNode) where
  pub step_drops : (is_cell n.tag && n.end) ≡ true → (S : State) → step_by off F n S ≡ rows n S
  unfolding step_by
  step_drops e S = rw e

  pub step_goes : (is_cell n.tag && n.end) ≡ false → (S : State) → step_by off F n S ≡ F (cell off n (rows n S))
  unfolding step_by
  step_goes e S = rw e

-- the greatest length never falls
pub rises_step : (f : Formatting) (bullets : Bool) (n : ExtractNode) (text : Bytes) → Rises (step f bullets n text)
unfolding step_by
rises_step f bullets n text =
    rises_cond (λ S. is_cell n.tag && n.end) (rises_rows n) (rises_then (rises_then (rises_rows n) (rises_cell (is_off f) n)) (rises_after f bullets n text))

-- ---- what rows and cells leave as it is

pub record Kept (S T : State) : Type 0 where
  pub depth : T.depth ≡ S.depth
  pub uncollapsed : T.uncollapsed ≡ S.uncollapsed
  pub margins : T.margins ≤ S.margins
  pub numbering : T.numbering ≡ S.numbering

kept : {S : State} → Kept S S
kept = record { depth = refl; uncollapsed = refl; margins = omega arith; numbering = refl }

kept_then : {S T R : State} → Kept S T → Kept T R → Kept S R
kept_then a b = record { depth = b.depth ∙ a.depth; uncollapsed = b.uncollapsed ∙ a.uncollapsed; margins = omega (arith, a.margins, b.margins); numbering = b.numbering ∙ a.numbering }

kept_rows : (n : ExtractNode) (S : State) → Kept S (rows n S)
unfolding rows
kept_rows n S =
    by_cond (Kept S) (is_tr n.tag)
    (λ e. by_cond (Kept S) n.end (λ f. record { depth = refl; uncollapsed = refl; margins = omega arith; numbering = refl }) (λ f. record { depth = refl; uncollapsed = refl; margins = omega arith; numbering = refl }))
    (λ e. kept)

kept_beside : (off : Bool) (S : State) → Kept S (beside_cell off S)
unfolding beside_cell
kept_beside off S =
    by_cond (Kept S) (get_or S.row_has_cell (length S.row_has_cell - 1) false) (λ e. record { depth = refl; uncollapsed = refl; margins = omega arith; numbering = refl }) (λ e. kept)

kept_in_row : (off : Bool) (S : State) → Kept S (in_row off S)
unfolding in_row
kept_in_row off S =
    by_cond (Kept S) (eqb (length S.row_has_cell) 0) (λ e. kept)
    (λ e. let k = kept_beside off S in record { depth = k.depth; uncollapsed = k.uncollapsed; margins = k.margins; numbering = k.numbering })

kept_margin : (bare off : Bool) (S : State) → Kept S (margin bare off S)
unfolding margin
kept_margin bare off S = record { depth = refl; uncollapsed = refl; margins = omega arith; numbering = refl }

kept_cell : (off : Bool) (n : ExtractNode) (S : State) → Kept S (cell off n S)
unfolding cell
kept_cell off n S =
    by_cond (Kept S) (is_cell n.tag) (λ e. kept_then (kept_margin (collapses off n) off S) (kept_in_row off (margin (collapses off n) off S))) (λ e. kept)

pub kept_before : (off : Bool) (n : ExtractNode) (S : State) → Kept S (cell off n (rows n S))
kept_before off n S = kept_then (kept_rows n S) (kept_cell off n (rows n S))

-- ---- `n.block` where the text is put, of the state behind rows and cells

-- S has as many uncollapsed line ends as T
abbrev Same : State → State → Type 0
Same T S = S.uncollapsed ≡ T.uncollapsed

uncollapsed_level : (n : ExtractNode) (S : State) → Same S (level n S)
unfolding level
uncollapsed_level n S = by_cond (Same S) (changes_level n.tag S.depth) (λ e. by_cond (Same S) n.end (λ f. refl) (λ f. refl)) (λ e. refl)

uncollapsed_item : (bullets : Bool) (n : ExtractNode) (S : State) → Same S (html_item bullets n S)
unfolding html_item margin
uncollapsed_item bullets n S = by_cond (Same S) (bullets && is_li n.tag) (λ e. refl) (λ e. refl)

uncollapsed_pre : (n : ExtractNode) (S : State) → Same S (html_pre n S)
unfolding html_pre margin
uncollapsed_pre n S = by_cond (Same S) (is_pre n.tag) (λ e. by_cond (Same S) n.end (λ f. refl) (λ f. refl)) (λ e. refl)

uncollapsed_br : (n : ExtractNode) (S : State) → Same S (html_br n S)
unfolding html_br
uncollapsed_br n S = by_cond (Same S) (is_br n.tag) (λ e. refl) (λ e. refl)

uncollapsed_marks : (bullets : Bool) (n : ExtractNode) (S : State) → Same S (html_marks bullets n S)
unfolding html_marks
uncollapsed_marks bullets n S = uncollapsed_br n (html_pre n (html_item bullets n S)) ∙ uncollapsed_pre n (html_item bullets n S) ∙ uncollapsed_item bullets n S

opens_same : (n : ExtractNode) (a b : ℕ) → n.collapse_margins ≡ false → opens_tag n a ≡ opens_tag n b
opens_same n a b e = rw (e, and-false (ltb 0 a), and-false (ltb 0 b))

-- an entry's own line end is counted only where a tag does not look at the count
counted_same : (bullets : Bool) (n : ExtractNode) (S : State) → block_after_tag bullets n (count_uncollapsed n S).uncollapsed ≡ block_after_tag bullets n S.uncollapsed
unfolding count_uncollapsed
counted_same bullets n S =
    by_cond (λ (T : State). block_after_tag bullets n T.uncollapsed ≡ block_after_tag bullets n S.uncollapsed) (n.block && not n.collapse_margins)
    (λ e. ap (λ (o : Bool). not (wants_tag bullets n && o) && block_after_marks bullets n) (opens_same n (S.uncollapsed + 1) S.uncollapsed (not-true n.collapse_margins (and_parts n.block (not n.collapse_margins) e).1)))
    (λ e. refl)

block_shown_law : (f : Formatting) (bullets : Bool) (n : ExtractNode) (S : State) → block_shown f bullets n S ≡ block_before f bullets n S.uncollapsed
block_shown_law Off bullets n S = refl
block_shown_law Basic bullets n S = refl
block_shown_law MinimalHtml bullets n S =
    ap (block_after_tag bullets n) (uncollapsed_marks bullets n (level n (count_uncollapsed n S)) ∙ uncollapsed_level n (count_uncollapsed n S)) ∙ counted_same bullets n S

-- ---- an entry without its text: dropped, or behind rows and cells

module _ {write : Bool} {s a : Serializer} {nums : List ℕ} {cells cells₁ : List Bool} {out : Bytes} (f : Formatting) (bullets : Bool) (n : ExtractNode) (dr : WorksRows s cells a cells₁ (rows n)) where
  pub begins_dropped : (is_cell n.tag && n.end) ≡ true → {w : Showing} → w ≡ dropped_showing → Begins f bullets n write s (lent nums cells out) (record { serializer = a; showing = w }) (lent nums cells₁ out)
  unfolding showing_of
  begins_dropped e q =
      record { works = works_by (dr.at write nums out) (λ under S h. sym (step_drops (is_off f) (after f bullets n []) n e S)); showing = λ under S h. q ∙ sym (rw e) }

  module _ (r : Able write s (lent nums cells out) (step f bullets n [])) (goes : (is_cell n.tag && n.end) ≡ false) {off : Bool} (e : off ≡ is_off f) where
    behind_rows : Able write a (lent nums cells₁ out) (λ S. after f bullets n [] (cell (is_off f) n S))
    behind_rows = able_then (dr.at write nums out) (able_by r (λ under S h. step_goes (is_off f) (after f bullets n []) n goes S))

    pub cell_able : AbleCells write a cells₁ out (cell off n)
    cell_able = rw e record { numbering = nums; able = able_first (rises_after f bullets n []) behind_rows }

    module _ {b : Serializer} {cells₂ : List Bool} {out₁ : Bytes} (dc : WorksCells write a cells₁ out b cells₂ out₁ (cell off n)) where
      cell_works : Works write a (lent nums cells₁ out) b (lent nums cells₂ out₁) (cell (is_off f) n)
      cell_works = rw e at (dc.at nums)

      before_works : Works write s (lent nums cells out) b (lent nums cells₂ out₁) (λ S. cell (is_off f) n (rows n S))
      before_works = works_then (dr.at write nums out) cell_works

      pub after_able : AbleListed write b nums out₁ (after f bullets n [])
      after_able = record { cells = cells₂; able = able_then cell_works behind_rows }

      -- the numbers there
      stands : Stands write r.under b (lent nums cells₂ out₁) (cell (is_off f) n (rows n r.state))
      stands = before_works.run r.under r.state r.stands

      same_depth : b.depth ≡ s.depth
      same_depth = stands.depth ∙ (kept_before (is_off f) n r.state).depth ∙ sym r.stands.depth

      module _ (l : Limits f s nums cells n) where
        margins_small : b.margins < length_limit
        margins_small = omega (arith, l.margins, stands.margins, (kept_before (is_off f) n r.state).margins, r.stands.margins)

        uncollapsed_small : b.uncollapsed < length_limit
        uncollapsed_small = omega (arith, l.uncollapsed, stands.uncollapsed, (kept_before (is_off f) n r.state).uncollapsed, r.stands.uncollapsed)

        list_limits : is_off f ≡ false → ListLimits b nums n
        list_limits on = record { margins = margins_small; uncollapsed = uncollapsed_small; level = rw same_depth (l.level on) }

        numbers : Numbers b nums
        numbers = record { within = omega (arith, same_depth, depth_long r); small = λ i h. l.numbers i (omega (arith, same_depth)) }

        pub after_limits : (b.margins < length_limit) × (is_off f ≡ false → ListLimits b nums n) × Numbers b nums
        after_limits = (margins_small, list_limits, numbers)

      block_is : (under : Bytes) (S : State) → Stands write under s (lent nums cells out) S → block_before f bullets n b.uncollapsed ≡ block_shown f bullets n (cell (is_off f) n (rows n S))
      block_is under S h = ap (block_before f bullets n) (before_works.run under S h).uncollapsed ∙ sym (block_shown_law f bullets n (cell (is_off f) n (rows n S)))

      module _ {s' : Serializer} {l : Lent} (d : Works write b (lent nums cells₂ out₁) s' l (after f bullets n [])) where
        after_works : Works write s (lent nums cells out) s' l (step f bullets n [])
        after_works = works_by (works_then before_works d) (λ under S h. sym (step_goes (is_off f) (after f bullets n []) n goes S))

        pub begins : {block : Bool} → block ≡ block_before f bullets n b.uncollapsed → {off₂ : Bool} → off₂ ≡ is_off f → {w : Showing} → w ≡ showing_behind off₂ n block s'.writer
            → Begins f bullets n write s (lent nums cells out) (record { serializer = s'; showing = w }) l
        unfolding showing_of
        begins p o q =
            record {
              works = after_works;
              showing = λ under S h. q ∙ rw (goes, o, trims_is (block_shown f bullets n (cell (is_off f) n (rows n S))) (after_works.run under S h), p, block_is under S h);
            }
