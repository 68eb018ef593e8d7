-- A piece of a text: whether it shows anything, what stands before the first, how the text goes on behind it, and one piece after another.
use mathlib.Core.Path.{◌≡◌, sym, ap, ◌∙◌}
use mathlib.Core.Bool.{Bool, true, false, ◌&&◌, not, and-true, and-false, not-not}
use mathlib.Core.List.{[], ◌++◌}
use Prim.Native.Nat.{ℕ, ◌+◌, ◌≤◌}
use native.Mathlib.Omega.{arith}
use lib.ListN.{length, length-append}
use Rattle.common.specs.Bytes.{Bytes}
use Rattle.common.proofs.Choice.{by_test}
use Rattle.common.proofs.TestLaws.{or_neither}
use Rattle.options.specs.Options.{is_off, is_basic}
use Rattle.options.specs.declared.Formatting.{Formatting}
use Rattle.writer.specs.Out.{push_all}
use Rattle.writer.proofs.OutLaws.{greater_max}
use Rattle.html2text.specs.Serialize.{State, margin, lead, with_uncollapsed}
use Rattle.html2text.specs.Showing.{shows_any, is_silent, showing_after, lead_in, show_piece}
use Rattle.html2text.specs.declared.Showing.{Showing}
use Rattle.html2text.proofs.ShowingLaws as pieces
use Rattle.html2text.proofs.ShowingLaws.{piece_silent, piece_shows, shown_in_pieces}
use Rattle.serializer.specs.Progress.{ShowReady, Shows, PassedBy}
use Rattle.serializer.specs.Serializing.{AbleOut, WorksOut}
use Rattle.serializer.specs.declared.Progress.{Progress}
use Rattle.serializer.specs.declared.Serializer.{Serializer}
use Rattle.serializer.proofs.FirstLaws.{nothing_left}
use Rattle.serializer.proofs.TextLaws.{show_text, rises_lead, rises_clear}
use Rattle.serializer.proofs.WorksLaws.{Rises, rises_then, out_none, out_first, out_able, out_then, out_able_as, out_as}

-- ---- before the first piece that shows anything

-- what is behind the margin
pub rises_led : (basic bullets : Bool) → Rises (λ S. lead basic bullets (with_uncollapsed 0 S))
rises_led basic bullets = rises_then rises_clear (rises_lead basic bullets)

module _ (f : Formatting) (bullets : Bool) (w : Showing) where
  lead_in_is : w.empty ≡ true → (S : State) → lead_in f bullets w S ≡ lead (is_basic f) bullets (with_uncollapsed 0 (margin w.squeeze (is_off f) S))
  unfolding lead_in
  lead_in_is e S = rw e

  lead_in_same : w.empty ≡ false → (S : State) → lead_in f bullets w S ≡ S
  unfolding lead_in
  lead_in_same e S = rw e

  module _ {write : Bool} {s : Serializer} {buf : Bytes} where
    pub lead_in_able : w.empty ≡ true → AbleOut write s buf (lead_in f bullets w) → AbleOut write s buf (λ S. lead (is_basic f) bullets (with_uncollapsed 0 (margin w.squeeze (is_off f) S)))
    lead_in_able e r = out_able_as (lead_in_is e) r

    pub lead_in_works : {s' : Serializer} {buf' : Bytes} → w.empty ≡ true → WorksOut write s buf s' buf' (λ S. lead (is_basic f) bullets (with_uncollapsed 0 (margin w.squeeze (is_off f) S)))
        → WorksOut write s buf s' buf' (lead_in f bullets w)
    lead_in_works e d = out_as (lead_in_is e) d

    pub lead_in_none : w.empty ≡ false → WorksOut write s buf s buf (lead_in f bullets w)
    lead_in_none e = out_as (lead_in_same e) out_none

  -- ---- a piece

  module _ (piece : Bytes) where
    nothing_shown : shows_any w piece ≡ false → (S : State) → show_piece f bullets w piece S ≡ S
    unfolding push_all
    nothing_shown e S =
        by_test (is_silent w piece) (λ t. piece_silent f bullets w piece S t)
        (λ t.
        let n = or_neither w.dropped (w.empty && not (shows_any w piece)) t in
        piece_shows f bullets w piece S t
        ∙ rw (lead_in_same (sym (and-true w.empty) ∙ ap (λ (b : Bool). w.empty && not b) (sym e) ∙ n.1) S, nothing_left w.squeeze w.space w.escapes piece (sym (not-not _) ∙ ap not e)))

    show_is : w.dropped ≡ false → shows_any w piece ≡ true → (S : State) → show_piece f bullets w piece S ≡ show_text w.squeeze w.space w.escapes piece (lead_in f bullets w S)
    unfolding show_text
    show_is d any S = piece_shows f bullets w piece S (rw (d, any) (and-false w.empty))

    module _ {write : Bool} {s : Serializer} {buf : Bytes} where
      -- nothing of it is shown
      pub dropped_works : w.dropped ≡ true → WorksOut write s buf s buf (show_piece f bullets w piece)
      dropped_works e = out_as (λ S. piece_silent f bullets w piece S (rw e)) out_none

      pub nothing_works : shows_any w piece ≡ false → WorksOut write s buf s buf (show_piece f bullets w piece)
      nothing_works e = out_as (nothing_shown e) out_none

      -- something is
      pub piece_able : w.dropped ≡ false → shows_any w piece ≡ true → AbleOut write s buf (show_piece f bullets w piece)
          → AbleOut write s buf (λ S. show_text w.squeeze w.space w.escapes piece (lead_in f bullets w S))
      piece_able d any r = out_able_as (show_is d any) r

      pub piece_works : {s' : Serializer} {buf' : Bytes} → w.dropped ≡ false → shows_any w piece ≡ true
          → WorksOut write s buf s' buf' (λ S. show_text w.squeeze w.space w.escapes piece (lead_in f bullets w S)) → WorksOut write s buf s' buf' (show_piece f bullets w piece)
      piece_works d any r = out_as (show_is d any) r

-- ---- one piece after another

append_is : (f : Formatting) (bullets : Bool) (w : Showing) (a b : Bytes) (S : State) → show_piece f bullets w (a ++ b) S ≡ show_piece f bullets (showing_after w a) b (show_piece f bullets w a S)
append_is f bullets w a b S = (shown_in_pieces f bullets).append w a b S

rises_piece : (f : Formatting) (bullets : Bool) (w : Showing) (piece : Bytes) → Rises (show_piece f bullets w piece)
rises_piece f bullets w piece = record { rise = λ S. (pieces.rises_show f bullets w piece).rise S }

module _ {f : Formatting} {bullets write : Bool} where
  pub shows_none : {p : Progress} {out : Bytes} → (write ≡ false → p.len ≤ p.need) → Shows f bullets write p out p out [] 0
  shows_none {p} h =
      record {
        works = out_as (λ S. (shown_in_pieces f bullets).none p.showing S) out_none;
        showing = sym ((shown_in_pieces f bullets).after_none p.showing);
        len = λ e. omega arith;
        need = λ e. omega (arith, h e, greater_max p.need (p.len + 0));
        read_is = omega arith;
      }

  -- fewer bytes are to be read
  pub ready_less : {p : Progress} {out piece : Bytes} (n : ℕ) → ShowReady f bullets write p out piece n → ShowReady f bullets write p out piece 0
  ready_less n r = record { able = r.able; below = r.below; small = r.small; count = omega (arith, r.count) }

  -- a piece of which nothing is shown
  pub shows_nothing : {p q : Progress} {out piece : Bytes} {n : ℕ} → PassedBy write p q piece n → WorksOut write p.serializer out p.serializer out (show_piece f bullets p.showing piece)
      → p.showing ≡ showing_after p.showing piece → Shows f bullets write p out q out piece n
  shows_nothing h works same = record { works = rw h.serializer works; showing = h.showing ∙ same; len = h.len; need = h.need; read_is = h.read_is }

  module _ {p q : Progress} {out out₁ : Bytes} {a : Bytes} {n : ℕ} (d : Shows f bullets write p out q out₁ a n) where
    pub shows_then : {r : Progress} {out₂ : Bytes} {b : Bytes} {m : ℕ} → Shows f bullets write q out₁ r out₂ b m → Shows f bullets write p out r out₂ (a ++ b) (n + m)
    shows_then {r} {out₂} {b} e =
        record {
          works = out_as (append_is f bullets p.showing a b) (out_then d.works (rw d.showing at e.works));
          showing = e.showing ∙ ap (λ (w : Showing). showing_after w b) d.showing ∙ sym ((shown_in_pieces f bullets).after_append p.showing a b);
          len = λ t. omega (arith, d.len t, e.len t, length-append a b);
          need = λ t.
              omega (arith, d.len t, d.need t, e.need t, length-append a b, greater_max p.need (p.len + length a), greater_max q.need (q.len + length b), greater_max p.need (p.len + length (a ++ b)));
          read_is = omega (arith, d.read_is, e.read_is);
        }

    pub show_next : {b : Bytes} {m : ℕ} → ShowReady f bullets write p out (a ++ b) (n + m) → ShowReady f bullets write q out₁ b m
    show_next {b} r =
        record {
          able = rw d.showing (out_able d.works (out_able_as (append_is f bullets p.showing a b) r.able));
          below = λ t. omega (arith, d.len t, d.need t, greater_max p.need (p.len + length a));
          small = λ t. omega (arith, d.len t, r.small t, length-append a b);
          count = omega (arith, d.read_is, r.count);
        }

  pub show_first : {p : Progress} {out : Bytes} (a b : Bytes) (n m : ℕ) → ShowReady f bullets write p out (a ++ b) (n + m) → ShowReady f bullets write p out a n
  show_first {p} a b n m r =
      record {
        able = out_first (rises_piece f bullets (showing_after p.showing a) b) (out_able_as (append_is f bullets p.showing a b) r.able);
        below = r.below;
        small = λ t. omega (arith, r.small t, length-append a b);
        count = omega (arith, r.count);
      }
