-- Stores one after the other: what a run of them leaves in the buffer, and a loop that makes them.
use mathlib.Core.Path.{◌≡◌, refl, sym, ap, ◌∙◌}
use mathlib.Core.List.{[], ◌∷◌, ◌++◌}
use Rattle.std.proofs.Common.{append_assoc}
use Prim.Native.Nat.{ℕ, suc, ◌+◌, ◌-◌, ◌≤◌}
use native.Mathlib.Nat.{add-zero, zero-add, add-suc, suc-add}
use native.Mathlib.Omega.{arith}
use lib.ListN.{length, set, take, drop, replicate, length-append}
use lib.Seq.{sets, sets-eq, length-sets, drop-drop, take_at}
use Rattle.common.specs.Bytes.{Bytes, padded}
use Rattle.common.specs.Puts.{Puts}

pub sets_append : (out : Bytes) (at : ℕ) (s t : Bytes) → sets out at (s ++ t) ≡ sets (sets out at s) (at + length s) t
sets_append out at [] t = rw add-zero
sets_append out at (x ∷ s) t = sets_append (set out at x) (suc at) s t ∙ rw (suc-add, ← add-suc)

module _ {before : Bytes} {at : ℕ} where
  pub puts_none : Puts before at [] before at
  puts_none = record { bytes = refl; place = sym (add-zero at) }

  pub puts_then : {s t middle after : Bytes} {m past : ℕ} → Puts before at s middle m → Puts middle m t after past → Puts before at (s ++ t) after past
  puts_then {s} {t} p q =
      record {
        bytes = q.bytes ∙ rw (p.bytes, p.place) (sym (sets_append before at s t));
        place = omega (arith, p.place, q.place, length-append s t);
      }

  pub puts_length : {text after : Bytes} {past : ℕ} → Puts before at text after past → length after ≡ length before
  puts_length {text} p = ap length p.bytes ∙ length-sets before at text

  -- one byte
  pub puts_one : (x : ℕ) {past : ℕ} → past ≡ at + 1 → Puts before at (x ∷ []) (set before at x) past
  puts_one x e = record { bytes = refl; place = e }

-- all at once: a part as long as the text becomes the text
pub puts_part : (before : Bytes) (at : ℕ) (text : Bytes) → at + length text ≤ length before
    → Puts before at text (take at before ++ (text ++ drop (at + length text - at) (drop at before))) (at + length text)
puts_part before at text h =
    let n : at + length text - at ≡ length text = omega arith in
    record { bytes = rw (n, drop-drop (length text) at before, ← append_assoc) (sym (sets-eq text before at h)); place = refl }

-- ---- a loop: what is still to be stored, stored from here on, gives what the whole gives
pub record Putting (before : Bytes) (at : ℕ) (text : Bytes) (out : Bytes) (here : ℕ) (left : Bytes) : Type 0 where
  pub bytes : sets out here left ≡ sets before at text
  pub place : here + length left ≡ at + length text
  pub same : length out ≡ length before

module _ {before : Bytes} {at : ℕ} {text : Bytes} where
  pub putting_start : Putting before at text before at text
  putting_start = record { bytes = refl; place = refl; same = refl }

  pub putting_more : {out next : Bytes} {here then : ℕ} {piece left rest : Bytes} → Putting before at text out here left → left ≡ piece ++ rest → Puts out here piece next then → Putting before at text next then rest
  putting_more {out} {next} {here} {then} {piece} {left} {rest} l e p =
      record {
        bytes = rw (p.bytes, p.place) (sym (sets_append out here piece rest) ∙ ap (sets out here) (sym e) ∙ l.bytes);
        place = omega (arith, l.place, p.place, length-append piece rest, ap length e);
        same = puts_length p ∙ l.same;
      }

  pub putting_room : {out : Bytes} {here : ℕ} {left : Bytes} (piece rest : Bytes) → Putting before at text out here left → left ≡ piece ++ rest → at + length text ≤ length before → here + length piece ≤ length out
  putting_room {out} {here} {left} piece rest l e h = omega (arith, l.place, l.same, length-append piece rest, ap length e)

  pub putting_end : {out : Bytes} {here : ℕ} {left : Bytes} → Putting before at text out here left → left ≡ [] → Puts before at text out here
  putting_end {out} {here} {left} l e =
      record { bytes = sym (sym l.bytes ∙ ap (sets out here) e); place = omega (arith, l.place, ap length e) }

-- ---- a text from the start on, and zeros behind it
pub puts_padded : {before text after : Bytes} {past : ℕ} → Puts before 0 text after past → length text ≤ length before → take past after ++ replicate (length after - past) 0 ≡ padded text (length before)
puts_padded {before} {text} {after} {past} p h =
    let past_is : past ≡ length text = p.place ∙ zero-add (length text) in
    let fits : 0 + length text ≤ length before = omega arith in
    rw (puts_length p, past_is, p.bytes, sets-eq text before 0 fits) (ap (λ (s : Bytes). s ++ replicate (length before - length text) 0) (take_at text _ (length text) refl))
