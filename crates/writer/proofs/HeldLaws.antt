-- The numbers and the buffer with no text, after a run of bytes, and without the blanks at the end, over any set of blanks.
use mathlib.Core.Path.{◌≡◌, refl, sym, ap, ◌∙◌}
use mathlib.Core.Bool.{Bool, true, false, cond}
use mathlib.Core.List.{[], ◌∷◌, ◌++◌}
use Prim.Native.Nat.{ℕ, zero, suc, ◌+◌, ◌≤◌, ◌<◌}
use native.Mathlib.Omega.{arith}
use lib.Dec.{eqb}
use lib.ListN.{length, take, drop, replicate, length-append}
use lib.Seq.{sets, sets-eq, length-sets, take_at, take-take}
use borrow.Author.Tests.{ne_eqb}
use Rattle.common.specs.Bytes.{Bytes, length_limit}
use Rattle.common.proofs.Choice.{by_cond}
use Rattle.text.specs.Text.{keeping, rstrip_by}
use Rattle.text.specs.Theorems.{before}
use Rattle.text.proofs.TrimLaws.{rstrip_append, rstrip_prefix, rstrip_length, rstrip_idempotent}
use Rattle.writer.specs.Out.{push_all, strip_by}
use Rattle.writer.specs.Writing.{HeldBy, ReadyBy, DoesBy, grown, trimmed, stored}
use Rattle.writer.specs.declared.Writer.{Writer}
use Rattle.writer.proofs.OutLaws.{greater_max, push_all_text, push_all_peak}

-- ---- no text: at the start, or let go

pub held_none : {blank : ℕ → Bool} {write : Bool} {under buf : Bytes} {p q : ℕ} → p ≡ q → length buf ≡ length under
    → (write ≡ false → buf ≡ under)
    → HeldBy blank write under (record { len = 0; kept = 0; peak = p }) buf (record { text = []; peak = q })
unfolding rstrip_by
held_none e long still = record { len = refl; kept = refl; peak = e; below = omega arith; long = long; text = λ w. refl; still = still }

-- ---- how much of a run is kept

module _ (blank : ℕ → Bool) where
  kept_before : (t r : Bytes) {n k : ℕ} → k ≡ length (rstrip_by blank t) → n ≡ length t
      → cond (eqb (length r) 0) k (n + length r) ≡ length (before blank t r)
  kept_before t [] h e = h
  kept_before t (c ∷ r) h e = rw (ne_eqb (length (c ∷ r)) 0 (omega arith)) (omega (arith, e, length-append t (c ∷ r)))

  pub rstrip_copies_blank : (b n : ℕ) → blank b ≡ true → rstrip_by blank (replicate n b) ≡ []
  unfolding rstrip_by
  rstrip_copies_blank b zero e = refl
  rstrip_copies_blank b (suc n) e = rw (rstrip_copies_blank b n e, e)

  pub rstrip_copies_other : (b n : ℕ) → blank b ≡ false → rstrip_by blank (replicate n b) ≡ replicate n b
  unfolding rstrip_by
  rstrip_copies_other b zero e = refl
  rstrip_copies_other b (suc n) e = rw (rstrip_copies_other b n e) (go n)
    where
      go : (m : ℕ) → keeping (blank b) b (replicate m b) ≡ b ∷ replicate m b
      go zero = rw e
      go (suc m) = refl

-- ---- a run of bytes

stored_text : (buf t s : Bytes) (n : ℕ) → n ≡ length t → n + length s ≤ length buf → take (length t) buf ≡ t → take (length (t ++ s)) (sets buf n s) ≡ t ++ s
stored_text buf t s n e h k =
    let at : take n buf ≡ t = ap (λ (m : ℕ). take m buf) e ∙ k in
    rw (sets-eq s buf n h, at) (take_at (t ++ s) (drop (n + length s) buf) (length (t ++ s)) refl)

pub run_does : {blank : ℕ → Bool} (write : Bool) (w : Writer) (buf s : Bytes) → (write ≡ true → w.len + length s ≤ length buf)
    → DoesBy blank write w buf (grown w (length s) (length (rstrip_by blank s))) (stored write buf w.len s) (push_all s)
run_does {blank} write w buf s room =
    record {
      run = λ under o h.
          let text = push_all_text s o in
          let peak = push_all_peak s o h.below in
          record {
            len = omega (arith, h.len, ap length text, length-append o.text s);
            kept =
                kept_before blank o.text (rstrip_by blank s) h.kept h.len
                ∙ ap length (sym (ap (rstrip_by blank) text ∙ rstrip_append blank o.text s));
            peak = rw (h.len, h.peak) (sym peak);
            below = omega (arith, ap length text, length-append o.text s, peak, greater_max o.peak (length o.text + length s));
            long = by_cond (λ (b : Bytes). length b ≡ length under) write (λ e. length-sets buf w.len s ∙ h.long) (λ e. h.long);
            text = λ e. rw (e, text) (stored_text buf o.text s w.len h.len (room e) (h.text e));
            still = λ e. rw e (h.still e);
          };
    }

module _ {blank : ℕ → Bool} {write : Bool} {w : Writer} {buf : Bytes} (s : Bytes) (r : ReadyBy blank write w buf (push_all s)) where
  reached : w.len + length s ≤ (push_all s r.out).peak
  reached = omega (arith, r.held.len, push_all_peak s r.out r.held.below, greater_max r.out.peak (length r.out.text + length s))

  pub run_small : w.len + length s < length_limit
  run_small = omega (arith, reached, r.room.small)

  pub run_room : write ≡ true → w.len + length s ≤ length buf
  run_room e = omega (arith, reached, r.held.long, r.room.fits e)

  -- a run of n bytes, k without the blanks at its end, that is stored
  pub ran : {n k : ℕ} {w' : Writer} {buf' : Bytes} → n ≡ length s → k ≡ length (rstrip_by blank s) → w' ≡ grown w n k
      → buf' ≡ stored write buf w.len s → DoesBy blank write w buf w' buf' (push_all s)
  ran n_is k_is w_is buf_is = rw (w_is, buf_is, n_is, k_is) (run_does write w buf s run_room)

-- ---- the blanks at the end away

pub trim_does : {blank : ℕ → Bool} (write : Bool) (w : Writer) (buf : Bytes) → DoesBy blank write w buf (trimmed w) buf (strip_by blank)
unfolding strip_by
trim_does {blank} write w buf =
    record {
      run = λ under o h.
          record {
            len = h.kept;
            kept = h.kept ∙ ap length (sym (rstrip_idempotent blank o.text));
            peak = h.peak;
            below = omega (arith, h.below, rstrip_length blank o.text);
            long = h.long;
            text = λ e.
                sym (take-take (length (rstrip_by blank o.text)) (length o.text) buf (rstrip_length blank o.text))
                ∙ ap (take (length (rstrip_by blank o.text))) (h.text e)
                ∙ rstrip_prefix blank o.text;
            still = h.still;
          };
    }
