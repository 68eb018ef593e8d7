-- The text of an entry shown piece by piece: a step is a step without a text and then its text, and pieces follow each other.
use mathlib.Core.Path.{◌≡◌, refl, sym, ap, ◌∙◌}
use mathlib.Core.Bool.{Bool, true, false, ◌&&◌, ◌||◌, not, cond, and-true, and-false, and_assoc, not-not}
use mathlib.Core.List.{[], ◌∷◌, ◌++◌}
use Prim.Native.Nat.{ℕ, ◌≤◌}
use native.Mathlib.Omega.{arith}
use lib.Dec.{ltb}
use borrow.Author.Tests.{eqb-true}
use Rattle.common.specs.Bytes.{Bytes, is_empty}
use Rattle.common.proofs.Choice.{by_cond, by_test, absurd_test}
use Rattle.common.proofs.TestLaws.{or_neither}
use Rattle.options.specs.Options.{is_off, is_basic, is_minimal_html}
use Rattle.options.specs.declared.ExtractOptions.{ExtractOptions}
use Rattle.options.specs.declared.Formatting.{Formatting}
use Rattle.options.specs.declared.Formatting.TheVariants.{Off, Basic, MinimalHtml}
use Rattle.tags.specs.Tags.{is_block_tag, is_br, is_cell}
use Rattle.text.specs.Text.{is_space, space_after, collapse_from, escape}
use Rattle.text.proofs.CollapseLaws.{collapse_append, space_append}
use Rattle.text.proofs.EscapeLaws.{escape_append}
use Rattle.writer.specs.Out.{Out, push_all}
use Rattle.writer.specs.Shown.{collapsed_if, escaped_if, shown}
use Rattle.writer.proofs.OutLaws.{push_all_append, push_all_rises}
use Rattle.writer.proofs.ShownLaws.{shown_shortened}
use Rattle.html2text.specs.Collect.{Event, tag_number, is_break, is_link, marked}
use Rattle.html2text.specs.Fused.{Fused, no_node, opened, grown, fed}
use Rattle.html2text.specs.Serialize.{State, on_out, with_uncollapsed, collapses, margin, rows, cell, trims, shortened, lead, put_text, after_off, after_basic, finish_html, after_html, step_by, after, step}
use Rattle.html2text.specs.Showing.{is_silent, showing_after, lead_in, show_piece, block_shown, dropped_showing, showing_of, ShownInPieces, begun, FedInTwo}
use Rattle.html2text.specs.declared.ExtractNode.{ExtractNode}
use Rattle.html2text.specs.declared.Showing.{Showing}
use Rattle.html2text.proofs.RiseLaws.{Rises, rises_margin, rises_lead}
use Rattle.html2text.proofs.SaidLaws.{empty_nil}

-- ---- two texts, one after the other

collapsed_append : (squeeze space : Bool) (s t : Bytes) → collapsed_if squeeze space (s ++ t) ≡ collapsed_if squeeze space s ++ collapsed_if squeeze (space_after is_space space s) t
collapsed_append true space s t = collapse_append is_space space s t
collapsed_append false space s t = refl

shown_append : (squeeze space escapes : Bool) (s t : Bytes) → shown squeeze space escapes (s ++ t) ≡ shown squeeze space escapes s ++ shown squeeze (space_after is_space space s) escapes t
unfolding shown
shown_append squeeze space true s t =
    ap escape (collapsed_append squeeze space s t) ∙ escape_append (collapsed_if squeeze space s) (collapsed_if squeeze (space_after is_space space s) t)
shown_append squeeze space false s t = collapsed_append squeeze space s t

-- ---- whether anything is left

empty_append : (s t : Bytes) → is_empty (s ++ t) ≡ (is_empty s && is_empty t)
empty_append [] t = refl
empty_append (c ∷ s) t = refl

-- nothing is left of a piece
abbrev nothing_left : Bool → Bool → Bytes → Bool
nothing_left squeeze space s = is_empty (shortened squeeze space s)

left_collapsed : (squeeze space : Bool) (s : Bytes) → nothing_left squeeze space s ≡ is_empty (collapsed_if squeeze space s)
unfolding shown
left_collapsed squeeze space s = ap is_empty (sym (shown_shortened squeeze space false s))

left_append : (squeeze space : Bool) (s t : Bytes) → nothing_left squeeze space (s ++ t) ≡ (nothing_left squeeze space s && nothing_left squeeze (space_after is_space space s) t)
left_append squeeze space s t =
    let space' = space_after is_space space s in
    left_collapsed squeeze space (s ++ t)
    ∙ ap is_empty (collapsed_append squeeze space s t)
    ∙ empty_append (collapsed_if squeeze space s) (collapsed_if squeeze space' t)
    ∙ (λ i. sym (left_collapsed squeeze space s) i && sym (left_collapsed squeeze space' t) i)

left_none : (squeeze space : Bool) → nothing_left squeeze space [] ≡ true
unfolding collapse_from
left_none true space = left_collapsed true space []
left_none false space = refl

shown_nothing : (squeeze space escapes : Bool) (s : Bytes) → nothing_left squeeze space s ≡ true → shown squeeze space escapes s ≡ []
unfolding shown escape
shown_nothing squeeze space escapes s e = ap (escaped_if escapes) (empty_nil (collapsed_if squeeze space s) (sym (left_collapsed squeeze space s) ∙ e)) ∙ none escapes
  where
    none : (escapes : Bool) → escaped_if escapes [] ≡ []
    none true = refl
    none false = refl

-- ---- pieces

abbrev showing : Bool → Bool → Bool → Bool → Bool → Showing
showing dropped squeeze escapes empty space = record { dropped = dropped; squeeze = squeeze; escapes = escapes; empty = empty; space = space }

-- of an entry that is not dropped
module _ (squeeze escapes empty space : Bool) (piece : Bytes) where
  after_empty : (showing_after (showing false squeeze escapes empty space) piece).empty ≡ (empty && nothing_left squeeze space piece)
  unfolding showing_after
  after_empty = ap (λ (b : Bool). empty && b) (not-not (nothing_left squeeze space piece))

  after_by : {empty' space' : Bool} → (empty && nothing_left squeeze space piece) ≡ empty' → space_after is_space space piece ≡ space'
      → showing_after (showing false squeeze escapes empty space) piece ≡ showing false squeeze escapes empty' space'
  unfolding showing_after
  after_by e h = λ i. showing false squeeze escapes ((after_empty ∙ e) i) (h i)

showing_none : (dropped squeeze escapes empty space : Bool) → let w = showing dropped squeeze escapes empty space in showing_after w [] ≡ w
unfolding showing_after
showing_none true squeeze escapes empty space = refl
showing_none false squeeze escapes empty space =
    after_by squeeze escapes empty space [] (ap (λ (b : Bool). empty && b) (left_none squeeze space) ∙ and-true empty) refl

showing_append : (dropped squeeze escapes empty space : Bool) (a b : Bytes) → let w = showing dropped squeeze escapes empty space in
    showing_after w (a ++ b) ≡ showing_after (showing_after w a) b
unfolding showing_after
showing_append true squeeze escapes empty space a b = refl
showing_append false squeeze escapes empty space a b =
    let w = showing_after (showing false squeeze escapes empty space) a in
    let left = nothing_left squeeze space a in
    let left' = nothing_left squeeze w.space b in
    after_by squeeze escapes empty space (a ++ b) (ap (λ (x : Bool). empty && x) (left_append squeeze space a b) ∙ sym (and_assoc empty left left')) (space_append is_space space a b)
    ∙ sym (after_by squeeze escapes w.empty w.space b (ap (λ (x : Bool). x && left') (after_empty squeeze escapes empty space a)) refl)

module _ (f : Formatting) (bullets : Bool) where
  pub piece_silent : (w : Showing) (piece : Bytes) (S : State) → is_silent w piece ≡ true → show_piece f bullets w piece S ≡ S
  unfolding show_piece
  piece_silent w piece S e = rw e

  pub piece_shows : (w : Showing) (piece : Bytes) (S : State) → is_silent w piece ≡ false → show_piece f bullets w piece S ≡ on_out (push_all (shown w.squeeze w.space w.escapes piece)) (lead_in f bullets w S)
  unfolding show_piece
  piece_shows w piece S e = rw e

  -- what is shown of two texts, one after the other
  out_append : (squeeze space escapes : Bool) (a b : Bytes) (S : State)
      → on_out (push_all (shown squeeze space escapes (a ++ b))) S ≡ on_out (push_all (shown squeeze (space_after is_space space a) escapes b)) (on_out (push_all (shown squeeze space escapes a)) S)
  out_append squeeze space escapes a b S =
      ap (λ (u : Bytes). on_out (push_all u) S) (shown_append squeeze space escapes a b)
      ∙ ap (λ (p : Out). on_out (λ q. p) S) (push_all_append (shown squeeze space escapes a) (shown squeeze (space_after is_space space a) escapes b) S.out)

  -- the first piece where nothing was shown before, `left` being whether nothing is left of it; and the next one
  abbrev first : Bool → Showing → Bytes → State → State
  first left w piece S = cond (not (not left)) S (on_out (push_all (shown w.squeeze w.space w.escapes piece)) (lead_in f bullets w S))

  abbrev next : Bool → Showing → Bytes → Bytes → State → State
  next left w a b S =
      show_piece f bullets (showing false w.squeeze w.escapes (not (not left)) (space_after is_space w.space a)) b (first left w a S)

  piece_append : (dropped squeeze escapes empty space : Bool) (a b : Bytes) (S : State) → let w = showing dropped squeeze escapes empty space in
      show_piece f bullets w (a ++ b) S ≡ show_piece f bullets (showing_after w a) b (show_piece f bullets w a S)
  unfolding show_piece lead_in showing_after
  piece_append true squeeze escapes empty space a b S = refl
  piece_append false squeeze escapes false space a b S = out_append squeeze space escapes a b S
  piece_append false squeeze escapes true space a b S =
      let w = showing false squeeze escapes true space in
      let space' = space_after is_space space a in
      let T = lead_in f bullets w S in
      let more = left_append squeeze space a b in
      by_test (nothing_left squeeze space a)
      (λ e. ap (λ (x : Bool). first x w (a ++ b) S) (rw e at more)
      ∙ ap (λ (u : Bytes). cond (not (not (nothing_left squeeze space' b))) S (on_out (push_all u) T))
      (shown_append squeeze space escapes a b ∙ ap (λ (v : Bytes). v ++ shown squeeze space' escapes b) (shown_nothing squeeze space escapes a e))
      ∙ sym (ap (λ (x : Bool). next x w a b S) e))
      (λ e. ap (λ (x : Bool). first x w (a ++ b) S) (rw e at more) ∙ out_append squeeze space escapes a b T ∙ sym (ap (λ (x : Bool). next x w a b S) e))

  piece_none : (w : Showing) (S : State) → show_piece f bullets w [] S ≡ S
  unfolding show_piece lead_in shown collapse_from escape push_all
  piece_none w S = go w.dropped w.squeeze w.escapes w.empty
    where
      go : (dropped squeeze escapes empty : Bool) → show_piece f bullets (showing dropped squeeze escapes empty w.space) [] S ≡ S
      go true squeeze escapes empty = refl
      go false squeeze escapes true = piece_silent (showing false squeeze escapes true w.space) [] S (not-not (nothing_left squeeze w.space []) ∙ left_none squeeze w.space)
      go false true true false = refl
      go false true false false = refl
      go false false true false = refl
      go false false false false = refl

  -- ---- a step

  abbrev behind : ExtractNode → Bool → State → Showing
  behind n block S = showing false (collapses (is_off f) n) n.escape true (trims block S)

  put_is : (n : ExtractNode) (block : Bool) (text : Bytes) (S : State) → put_text (is_off f) (is_basic f) bullets n block text S ≡ show_piece f bullets (behind n block S) text S
  unfolding put_text show_piece lead_in
  put_is n block text S =
      let squeeze = collapses (is_off f) n in
      let T = lead (is_basic f) bullets (with_uncollapsed 0 (margin squeeze (is_off f) S)) in
      ap (λ (u : Bytes). cond (nothing_left squeeze (trims block S) text) S (on_out (push_all u) T)) (sym (shown_shortened squeeze (trims block S) n.escape text))
      ∙ ap (λ (b : Bool). cond b S (on_out (push_all (shown squeeze (trims block S) n.escape text)) T)) (sym (not-not (nothing_left squeeze (trims block S) text)))

  -- a text that is put as a piece behind no text
  put_behind : (n : ExtractNode) (block : Bool) (text : Bytes) (S : State)
      → put_text (is_off f) (is_basic f) bullets n block text S ≡ show_piece f bullets (behind n block (put_text (is_off f) (is_basic f) bullets n block [] S)) text (put_text (is_off f) (is_basic f) bullets n block [] S)
  put_behind n block text S =
      put_is n block text S
      ∙ ap (λ (T : State). show_piece f bullets (behind n block T) text T) (sym (put_is n block [] S ∙ piece_none (behind n block S) S))

after_is : (f : Formatting) (bullets : Bool) (n : ExtractNode) (text : Bytes) (S : State)
    → after f bullets n text S ≡ show_piece f bullets (behind f bullets n (block_shown f bullets n S) (after f bullets n [] S)) text (after f bullets n [] S)
unfolding after_off after_basic after_html finish_html
after_is Off bullets n text S = put_behind Off bullets n n.block text _
after_is Basic bullets n text S = put_behind Basic bullets n n.block text _
after_is MinimalHtml bullets n text S = put_behind MinimalHtml bullets n (block_shown MinimalHtml bullets n S) text _

step_in_pieces : (f : Formatting) (bullets : Bool) (n : ExtractNode) (text : Bytes) (S : State)
    → step f bullets n text S ≡ show_piece f bullets (showing_of f bullets n S) text (step f bullets n [] S)
unfolding step_by showing_of show_piece
step_in_pieces f bullets n text S = go (is_cell n.tag && n.end)
  where
    T : State
    T = cell (is_off f) n (rows n S)

    stepped : Bool → Bytes → State
    stepped dropped text = cond dropped (rows n S) (after f bullets n text T)

    go : (dropped : Bool) → stepped dropped text ≡ show_piece f bullets (cond dropped dropped_showing (behind f bullets n (block_shown f bullets n T) (stepped dropped []))) text (stepped dropped [])
    go true = refl
    go false = after_is f bullets n text T

pub shown_in_pieces : (f : Formatting) (bullets : Bool) → ShownInPieces f bullets
shown_in_pieces f bullets =
    record {
      step_is = step_in_pieces f bullets;
      none = piece_none f bullets;
      after_none = λ w. showing_none w.dropped w.squeeze w.escapes w.empty w.space;
      append = λ w a b S. piece_append f bullets w.dropped w.squeeze w.escapes w.empty w.space a b S;
      after_append = λ w a b. showing_append w.dropped w.squeeze w.escapes w.empty w.space a b;
    }

-- ---- the greatest length never falls

module _ (f : Formatting) (bullets : Bool) (w : Showing) where
  pub rises_lead_in : Rises (lead_in f bullets w)
  unfolding lead_in
  rises_lead_in =
      record {
        rise = λ S.
            let T = with_uncollapsed 0 (margin w.squeeze (is_off f) S) in
            by_cond (λ (U : State). S.out.peak ≤ U.out.peak) w.empty
            (λ e. omega (arith, (rises_margin w.squeeze (is_off f)).rise S, (rises_lead bullets no_node false (is_off f) (is_basic f)).rise T))
            (λ e. omega arith);
      }

  pub rises_show : (piece : Bytes) → Rises (show_piece f bullets w piece)
  unfolding show_piece
  rises_show piece =
      record {
        rise = λ S.
            let T = lead_in f bullets w S in
            by_cond (λ (U : State). S.out.peak ≤ U.out.peak) (is_silent w piece) (λ e. omega arith)
            (λ e. omega (arith, rises_lead_in.rise S, push_all_rises (shown w.squeeze w.space w.escapes piece) T.out));
      }

-- ---- an event

-- a line break is a block
no_break : (o : ExtractOptions) (t : ℕ) → is_block_tag t ≡ false → is_break o t ≡ false
no_break o t h = ap (λ (b : Bool). is_basic o.formatting && b) (by_test (is_br t) (λ e. absurd_test (ap is_block_tag (eqb-true t 7 e)) h) (λ e. e)) ∙ and-false (is_basic o.formatting)

marked_none : (o : ExtractOptions) (t : ℕ) (n : ExtractNode) → is_break o t ≡ false → is_link o t ≡ false → marked o t n ≡ n
marked_none o t n b l = rw (b, l, and-false (is_minimal_html o.formatting), and-true n.collapse_margins, and-true n.block, and-true n.escape)

pub fed_in_two : (o : ExtractOptions) (e : Event) (F : Fused) → FedInTwo o e F
unfolding fed opened grown begun
fed_in_two o e F =
    let t = tag_number e.node in
    record {
      opens = λ p. rw p;
      grows = λ p.
          let q = (or_neither (not F.any) _ p).1 in
          let r = or_neither (is_block_tag t || ltb e.depth F.node.depth) _ q in
          let same = marked_none o t F.node (no_break o t (or_neither (is_block_tag t) _ r.0).0) (or_neither (is_link o t) _ r.1).0 in
          rw (p, same);
    }
