-- A piece from its first byte on that is shown; and what is read of a piece.
use mathlib.Core.Path.{◌≡◌, refl, sym, ap, subst, ◌∙◌}
use mathlib.Core.Bool.{Bool, true, false, ◌&&◌, ◌||◌, cond}
use mathlib.Core.List.{[], ◌∷◌}
use Prim.Native.Nat.{ℕ, ◌+◌, ◌≤◌, ◌<◌}
use native.Mathlib.Omega.{arith}
use lib.ListN.{length, drop}
use borrow.Author.Tests.{lt-ltb, le-ltb}
use Rattle.common.specs.Bytes.{Bytes}
use Rattle.common.proofs.Choice.{by_cond}
use Rattle.options.specs.declared.Formatting.{Formatting}
use Rattle.text.specs.Text.{escape}
use Rattle.writer.specs.Out.{greater, push_all}
use Rattle.writer.specs.Shown.{escaped_if, shown, shown_times}
use Rattle.writer.specs.Texts.{BeginsAt, PutsText}
use Rattle.writer.specs.Writing.{Ready}
use Rattle.writer.specs.declared.texts.First.{First}
use Rattle.writer.specs.declared.texts.Put.{Put}
use Rattle.writer.proofs.DoesLaws.{ready_same, does_same}
use Rattle.html2text.specs.Showing.{showing_after, lead_in}
use Rattle.html2text.specs.declared.Showing.{Showing}
use Rattle.serializer.specs.Progress.{times_of, read_of, shown_then, ShowReady, Shows, PassedBy}
use Rattle.serializer.specs.Serializing.{set_writer, AbleOut, WorksOut}
use Rattle.serializer.specs.declared.Progress.{Progress}
use Rattle.serializer.specs.declared.Serializer.{Serializer}
use Rattle.serializer.proofs.FirstLaws.{shown_from, any_shown, none_shown, showing_shown, showing_blank}
use Rattle.serializer.proofs.ShowingLaws.{piece_able, piece_works, dropped_works, nothing_works, shows_none, shows_nothing}
use Rattle.serializer.proofs.TextLaws.{rises_show, show_ready, show_works, show_text}
use Rattle.serializer.proofs.WorksLaws.{out_first, out_able, out_then}

-- ---- how many bytes are read

module _ (w : Showing) (escaped : Bool) (s : Bytes) where
  read_whole : w.dropped ≡ false → {n k : ℕ} → n ≡ cond (w.escapes || escaped) k 0 → k ≡ length s → n ≡ read_of w escaped s
  read_whole d e k = rw (d, sym k) e

  pub read_within : {n k : ℕ} → n ≡ cond (w.escapes || escaped) k 0 → k ≤ length s → n ≤ length s
  read_within {k = k} e h = rw e (by_cond (λ (x : ℕ). x ≤ length s) (w.escapes || escaped) (λ t. h) (λ t. omega arith))

  module _ {trim : Bool} {first : First} (b : BeginsAt trim s first) where
    pub read_blank : first.at ≡ length s → first.read ≡ length s
    read_blank e = b.read_is ∙ rw (le-ltb first.at (length s) (omega arith)) (omega arith)

    pub read_first : first.at < length s → first.read ≡ first.at + 1
    read_first h = b.read_is ∙ rw (lt-ltb first.at (length s) h)

-- ---- a piece of which nothing is shown

length_none : (s : Bytes) → length s ≡ 0 → s ≡ []
length_none [] e = refl
length_none (c ∷ s) e = absurd (omega arith)

escaped_none : (escaped : Bool) → escaped_if escaped [] ≡ []
unfolding escape
escaped_none true = refl
escaped_none false = refl

unread : (a b : Bool) → ◌≡◌ {A = ℕ} (cond a 0 (cond b 0 0)) 0
unread true b = refl
unread false true = refl
unread false false = refl

showing_stays : (w : Showing) (piece : Bytes) → w.dropped ≡ true → w ≡ showing_after w piece
unfolding showing_after
showing_stays w piece d = rw d

module _ {f : Formatting} {bullets write : Bool} {p : Progress} {out : Bytes} (escaped : Bool) (s : Bytes) where
  pub shows_empty : length s ≡ 0 → (write ≡ false → p.len ≤ p.need) → Shows f bullets write p out p out (escaped_if escaped s) (read_of p.showing escaped s)
  shows_empty e h =
      rw (length_none s e, escaped_none escaped, unread p.showing.dropped (p.showing.escapes || escaped)) (shows_none h)

  pub shows_dropped : {q : Progress} → p.showing.dropped ≡ true → PassedBy write p q (escaped_if escaped s) 0 → Shows f bullets write p out q out (escaped_if escaped s) (read_of p.showing escaped s)
  shows_dropped {q} d h =
      subst (λ (n : ℕ). Shows f bullets write p out q out (escaped_if escaped s) n) (rw d) (shows_nothing h (dropped_works f bullets p.showing (escaped_if escaped s) d) (showing_stays p.showing (escaped_if escaped s) d))

  pub shows_blank : {q : Progress} {first : First} {n : ℕ} → p.showing.dropped ≡ false → (length s ≡ 0 → ⊥) → BeginsAt (p.showing.squeeze && p.showing.space) s first → first.at ≡ length s
      → n ≡ cond (p.showing.escapes || escaped) first.read 0 → PassedBy write p q (escaped_if escaped s) n → Shows f bullets write p out q out (escaped_if escaped s) (read_of p.showing escaped s)
  shows_blank {q} d n b e k h =
      subst (λ (m : ℕ). Shows f bullets write p out q out (escaped_if escaped s) m) (read_whole p.showing escaped s d k (read_blank p.showing escaped s b e))
      (shows_nothing h (nothing_works f bullets p.showing (escaped_if escaped s) (none_shown p.showing escaped s b (omega (arith, e)))) (showing_blank p.showing escaped s b d n (omega (arith, e))))

-- ---- a piece from its first byte on

module _ (f : Formatting) (bullets : Bool) {write : Bool} (p : Progress) {out : Bytes} (escaped : Bool) (s : Bytes) {first : First} (d : p.showing.dropped ≡ false)
    (b : BeginsAt (p.showing.squeeze && p.showing.space) s first) (h : first.at < length s) (r : ShowReady f bullets write p out (escaped_if escaped s) 0) where
  able : AbleOut write p.serializer out (λ S. show_text p.showing.squeeze p.showing.space p.showing.escapes (escaped_if escaped s) (lead_in f bullets p.showing S))
  able = piece_able f bullets p.showing (escaped_if escaped s) d (any_shown p.showing escaped s b h) r.able

  pub from_lead : AbleOut write p.serializer out (lead_in f bullets p.showing)
  from_lead = out_first (rises_show _ _ _ _) able

  module _ {a : Serializer} {out₁ : Bytes} (led : WorksOut write p.serializer out a out₁ (lead_in f bullets p.showing)) {times : ℕ} (t : times ≡ times_of p.showing.escapes escaped) where
    text_is : shown p.showing.squeeze p.showing.space p.showing.escapes (escaped_if escaped s) ≡ shown_times p.showing.squeeze false times (drop first.at s)
    text_is = shown_from p.showing escaped s b p.showing.escapes ∙ ap (λ (n : ℕ). shown_times p.showing.squeeze false n (drop first.at s)) (sym t)

    pub from_ready : Ready write a.writer out₁ (push_all (shown_times p.showing.squeeze false times (drop first.at s)))
    from_ready = ready_same text_is (show_ready _ _ _ _ (out_able led able))

    pub from_shows : {q : Put} {out₂ : Bytes} {len need n : ℕ} {showing : Showing} → PutsText write p.showing.squeeze times a.writer out₁ s first q out₂ → (write ≡ false → len ≡ p.len + length (escaped_if escaped s))
        → need ≡ greater p.need len → n ≡ cond (p.showing.escapes || escaped) q.read 0 → showing ≡ shown_then p.showing q.space
        → Shows f bullets write p out (record { serializer = set_writer q.writer a; len = len; need = need; read = p.read + n; showing = showing }) out₂ (escaped_if escaped s) (read_of p.showing escaped s)
    from_shows {q} put len_is need_is n_is showing_is =
        let read : q.read ≡ length s = omega (arith, put.read_is, read_first p.showing escaped s b h) in
        record {
          works = piece_works f bullets p.showing (escaped_if escaped s) d (any_shown p.showing escaped s b h) (out_then led (show_works _ _ _ _ (does_same text_is put.does)));
          showing = showing_is ∙ showing_shown p.showing escaped s b d h put.space_is;
          len = len_is;
          need = λ e. need_is ∙ ap (greater p.need) (len_is e);
          read_is = ap (λ (k : ℕ). p.read + k) (read_whole p.showing escaped s d n_is read);
        }
