-- A step changes list depth, list levels and open rows by its node alone.
use mathlib.Core.Path.{◌≡◌, refl, sym, ap, ◌∙◌}
use mathlib.Core.Bool.{Bool, true, false, ◌&&◌, not, cond}
use mathlib.Core.List.{List, [], ◌∷◌, ◌++◌}
use Prim.Native.Nat.{ℕ, ◌+◌, ◌-◌}
use native.Mathlib.Omega.{arith}
use lib.Dec.{eqb, ltb}
use lib.ListN.{length, get_or, length-append, length-set, length-take}
use borrow.Author.Tests.{eqb-true}
use Rattle.common.specs.Bytes.{Bytes, is_empty}
use Rattle.common.proofs.Choice.{by_cond, and_parts}
use Rattle.options.specs.Options.{is_off}
use Rattle.options.specs.declared.Formatting.{Formatting}
use Rattle.options.specs.declared.Formatting.TheVariants.{Off, Basic, MinimalHtml}
use Rattle.tags.specs.Tags.{is_tr, is_cell, is_ol, is_li, is_pre, is_br}
use Rattle.html2text.specs.Levels.{recounted, rows_after, StepLevels}
use Rattle.html2text.specs.Serialize.{State, one, with_prefix, with_bullet, with_levels, with_margins, with_rows, with_uncollapsed, pop, collapses, margin, rows, beside_cell, in_row, cell, count_uncollapsed, changes_level, level, number_of, item, html_item, html_pre, html_br, html_marks, wants_tag, opens_tag, tag_margins, before_tag, html_tag, block_after_marks, block_after_tag, block_margin, trims, shortened, indent_text, lead, put_text, after_off, after_basic, finish_html, after_html, step_by, after, step}
use Rattle.html2text.specs.declared.ExtractNode.{ExtractNode}

-- ---- the three numbers of a state, and the parts of a step that change none of them

record Counts : Type 0 where
  depth : ℕ
  levels : ℕ
  rows : ℕ

abbrev counts : State → Counts
counts S = record { depth = S.depth; levels = length S.numbering; rows = length S.row_has_cell }

abbrev Same : State → State → Type 0
Same S T = counts T ≡ counts S

abbrev Still : (State → State) → Type 0
Still F = (S : State) → counts (F S) ≡ counts S

module _ (bare off : Bool) where
  still_margin : Still (margin bare off)
  unfolding margin
  still_margin S = refl

module _ (off : Bool) where
  still_beside : Still (beside_cell off)
  unfolding beside_cell
  still_beside S = by_cond (Same S) (get_or S.row_has_cell (length S.row_has_cell - 1) false) (λ e. refl) (λ e. refl)

  still_in_row : Still (in_row off)
  unfolding in_row
  still_in_row S =
      let T = beside_cell off S in
      by_cond (Same S) (eqb (length S.row_has_cell) 0) (λ e. refl)
      (λ e. (λ i. record { depth = T.depth; levels = length T.numbering; rows = length-set T.row_has_cell (length T.row_has_cell - 1) true i }) ∙ still_beside S)

module _ (bullets : Bool) (n : ExtractNode) where
  still_cell : (off : Bool) → Still (cell off n)
  unfolding cell
  still_cell off S = by_cond (Same S) (is_cell n.tag) (λ e. still_in_row off (margin (collapses off n) off S) ∙ still_margin (collapses off n) off S) (λ e. refl)

  still_count : Still (count_uncollapsed n)
  unfolding count_uncollapsed
  still_count S = by_cond (Same S) (n.block && not n.collapse_margins) (λ e. refl) (λ e. refl)

  still_item : Still (item bullets n)
  unfolding item
  still_item S =
      by_cond (Same S) (bullets && is_li n.tag)
      (λ e. by_cond (Same S) (eqb (number_of S) 0) (λ z. refl)
      (λ z. by_cond (Same S) n.end (λ d. refl)
      (λ d i. record { depth = S.depth; levels = length-set S.numbering (length S.numbering - 1) (number_of S + 1) i; rows = length S.row_has_cell })))
      (λ e. refl)

  still_html_item : Still (html_item bullets n)
  unfolding html_item
  still_html_item S = by_cond (Same S) (bullets && is_li n.tag) (λ e. still_margin (collapses false n) false S) (λ e. refl)

  still_html_pre : Still (html_pre n)
  unfolding html_pre
  still_html_pre S =
      by_cond (Same S) (is_pre n.tag) (λ e. by_cond (Same S) n.end (λ d. refl) (λ d. still_margin (collapses false n) false S)) (λ e. refl)

  still_html_br : Still (html_br n)
  unfolding html_br
  still_html_br S = by_cond (Same S) (is_br n.tag) (λ e. refl) (λ e. refl)

  still_html_marks : Still (html_marks bullets n)
  unfolding html_marks
  still_html_marks S = still_html_br (html_pre n (html_item bullets n S)) ∙ still_html_pre (html_item bullets n S) ∙ still_html_item S

  module _ (block : Bool) where
    still_before_tag : Still (before_tag n block)
    unfolding before_tag
    still_before_tag S = by_cond (Same S) (opens_tag n S.uncollapsed) (λ e. still_margin (collapses false n) false (with_margins (tag_margins n block S.margins) S)) (λ e. refl)

    still_html_tag : Still (html_tag bullets n block)
    unfolding html_tag
    still_html_tag S = by_cond (Same S) (wants_tag bullets n) (λ e. still_before_tag S) (λ e. refl)

    still_block : Still (block_margin block n)
    unfolding block_margin
    still_block S = by_cond (Same S) block (λ e. refl) (λ e. refl)

    module _ (off basic : Bool) (text : Bytes) where
      still_indent : Still (indent_text basic bullets)
      unfolding indent_text
      still_indent S = by_cond (Same S) (basic && ltb 0 S.depth) (λ e. refl) (λ e. refl)

      still_lead : Still (lead basic bullets)
      unfolding lead
      still_lead S = still_indent S

      still_text : Still (put_text off basic bullets n block text)
      unfolding put_text
      still_text S =
          by_cond (Same S) (is_empty (shortened (collapses off n) (trims block S) text)) (λ e. refl)
          (λ e. still_lead (with_uncollapsed 0 (margin (collapses off n) off S)) ∙ still_margin (collapses off n) off S)

-- ---- rows and levels

length_pop : {A : Type 0} (l : List A) → length (pop l) ≡ length l - 1
length_pop l = omega (arith, length-take (length l - 1) l)

length_more : {A : Type 0} (l : List A) (a : A) → length (l ++ a ∷ []) ≡ length l + 1
length_more l a = length-append l (a ∷ [])

module _ (n : ExtractNode) where
  rowed : Counts → Counts
  rowed C = record { depth = C.depth; levels = C.levels; rows = rows_after n C.rows }

  counts_rows : (S : State) → counts (rows n S) ≡ rowed (counts S)
  unfolding rows rowed
  counts_rows S = go (is_tr n.tag) n.end
    where
      go : (b d : Bool) → counts (cond b (cond d (with_rows (pop S.row_has_cell) S) (with_rows (S.row_has_cell ++ (false ∷ [])) S)) S)
          ≡ record { depth = S.depth; levels = length S.numbering; rows = recounted b d (length S.row_has_cell) }
      go true true = λ i. record { depth = S.depth; levels = length S.numbering; rows = length_pop S.row_has_cell i }
      go true false = λ i. record { depth = S.depth; levels = length S.numbering; rows = length_more S.row_has_cell false i }
      go false d = refl

  -- the numbers after an entry, where `on` says whether list levels count
  levelled : Bool → Counts → Counts
  levelled on C =
      let b = on && changes_level n.tag C.depth in
      record { depth = recounted b n.end C.depth; levels = recounted b n.end C.levels; rows = C.rows }

  counts_level : (S : State) → counts (level n S) ≡ levelled true (counts S)
  unfolding level levelled
  counts_level S = go (changes_level n.tag S.depth) n.end
    where
      go : (b d : Bool) → counts (cond b (cond d (with_prefix [] (with_bullet false (with_levels (S.depth - 1) (pop S.numbering) S))) (with_levels (S.depth + 1) (S.numbering ++ (one (is_ol n.tag) ∷ [])) S)) S)
          ≡ record { depth = recounted b d S.depth; levels = recounted b d (length S.numbering); rows = length S.row_has_cell }
      go true true = λ i. record { depth = S.depth - 1; levels = length_pop S.numbering i; rows = length S.row_has_cell }
      go true false = λ i. record { depth = S.depth + 1; levels = length_more S.numbering (one (is_ol n.tag)) i; rows = length S.row_has_cell }
      go false d = refl

  -- the list levels that an item finds
  pub level_long : (S : State) → length (level n (count_uncollapsed n S)).numbering ≡ recounted (changes_level n.tag S.depth) n.end (length S.numbering)
  unfolding levelled
  level_long S = ap (λ (C : Counts). C.levels) (counts_level (count_uncollapsed n S) ∙ ap (levelled true) (still_count true n S))

  -- a cell's end changes no level
  levelled_cell : (is_cell n.tag && n.end) ≡ true → (on : Bool) (C : Counts) → levelled on C ≡ C
  unfolding levelled
  levelled_cell e on C = let t : changes_level n.tag C.depth ≡ false = rw (eqb-true n.tag 2 (and_parts (is_cell n.tag) n.end e).0) refl in go on (changes_level n.tag C.depth) t
    where
      go : (on b : Bool) → b ≡ false → ◌≡◌ {A = Counts} (record { depth = recounted (on && b) n.end C.depth; levels = recounted (on && b) n.end C.levels; rows = C.rows }) C
      go true b t = rw t
      go false b t = refl

  -- ---- the step

  module _ (bullets : Bool) (text : Bytes) where
    counts_off : (S : State) → counts (after_off bullets n text S) ≡ levelled false (counts S)
    unfolding after_off levelled
    counts_off S = still_text bullets n n.block true false text (block_margin n.block n S) ∙ still_block bullets n n.block S

    counts_basic : (S : State) → counts (after_basic bullets n text S) ≡ levelled true (counts S)
    unfolding after_basic
    counts_basic S =
        let T = count_uncollapsed n S in
        let U = item bullets n (level n T) in
        still_text bullets n n.block false true text (block_margin n.block n U)
        ∙ still_block bullets n n.block U
        ∙ still_item bullets n (level n T)
        ∙ counts_level T
        ∙ ap (levelled true) (still_count bullets n S)

    counts_html : (S : State) → counts (after_html bullets n text S) ≡ levelled true (counts S)
    unfolding after_html finish_html
    counts_html S =
        let T = count_uncollapsed n S in
        let U = html_marks bullets n (level n T) in
        let block = block_after_tag bullets n U.uncollapsed in
        let W = html_tag bullets n (block_after_marks bullets n) U in
        still_text bullets n block false false text (block_margin block n W)
        ∙ still_block bullets n block W
        ∙ still_html_tag bullets n (block_after_marks bullets n) U
        ∙ still_html_marks bullets n (level n T)
        ∙ counts_level T
        ∙ ap (levelled true) (still_count bullets n S)

    counts_after : (f : Formatting) (S : State) → counts (after f bullets n text S) ≡ levelled (not (is_off f)) (counts S)
    counts_after Off = counts_off
    counts_after Basic = counts_basic
    counts_after MinimalHtml = counts_html

    counts_step : (f : Formatting) (S : State) → counts (step f bullets n text S) ≡ levelled (not (is_off f)) (rowed (counts S))
    unfolding step_by
    counts_step f S =
        let off = is_off f in
        by_cond (λ (T : State). counts T ≡ levelled (not off) (rowed (counts S))) (is_cell n.tag && n.end)
        (λ e. counts_rows S ∙ sym (levelled_cell e (not off) (rowed (counts S))))
        (λ e. counts_after f (cell off n (rows n S)) ∙ ap (levelled (not off)) (still_cell bullets n off (rows n S) ∙ counts_rows S))

    pub step_levels : (f : Formatting) (S : State) → StepLevels f bullets n text S
    unfolding levelled rowed
    step_levels f S =
        let q = counts_step f S in
        record {
          depth = ap (λ (C : Counts). C.depth) q;
          rows = ap (λ (C : Counts). C.rows) q;
          numbering = λ e. ap (λ (C : Counts). C.depth) q ∙ ap (recounted (not (is_off f) && changes_level n.tag S.depth) n.end) e ∙ sym (ap (λ (C : Counts). C.levels) q);
        }
