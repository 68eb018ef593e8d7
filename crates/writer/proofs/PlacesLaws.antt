-- Along a text by numbers alone: a byte after the other, and a part after the other.
use mathlib.Core.Path.{◌≡◌, refl, sym, ap, subst, ◌∙◌}
use mathlib.Core.Bool.{Bool, true, false, ◌&&◌, cond}
use mathlib.Core.List.{[], ◌∷◌, ◌++◌}
use Prim.Native.Nat.{ℕ, suc, ◌+◌, ◌≤◌, ◌<◌}
use native.Mathlib.Omega.{arith}
use native.Mathlib.Numerals.{add-one}
use native.Mathlib.Nat.{add-zero}
use lib.Dec.{eqb}
use lib.ListN.{length, take, drop, get_or, length-append, take-append-drop}
use lib.Seq.{length-sets, take-suc, take_all, drop-cons}
use borrow.Author.Tests.{ne_eqb}
use Rattle.common.specs.Bytes.{Bytes}
use Rattle.common.proofs.Choice.{by_cond, by_test, absurd_test, and_parts}
use Rattle.common.proofs.Puts.{sets_append}
use Rattle.text.specs.Text.{is_space, space_after, rstrip, rstrip_by, squeezed}
use Rattle.text.specs.Theorems.{before}
use Rattle.text.proofs.CollapseLaws.{space_append}
use Rattle.text.proofs.EscapeLaws.{escaped_blank}
use Rattle.text.proofs.SpaceLaws.{space_32}
use Rattle.text.proofs.TrimLaws.{rstrip_append, rstrip_blank}
use Rattle.writer.specs.Shown.{shown_times, escaped_times}
use Rattle.writer.specs.Texts.{PutsRead, PutsPart}
use Rattle.writer.specs.Writing.{RoomAt, StoredAt, stored, kept_at}
use Rattle.writer.specs.declared.texts.Places.{Places}
use Rattle.writer.proofs.TimesLaws.{times_append, times_nil, times_one, times_bare, times_some, times_kept}

-- ---- bytes that are stored

stored_append : (write : Bool) (buf : Bytes) (at : ℕ) (s t : Bytes) → stored write (stored write buf at s) (at + length s) t ≡ stored write buf at (s ++ t)
stored_append true buf at s t = sym (sets_append buf at s t)
stored_append false buf at s t = refl

pub stored_nothing : {write : Bool} {buf : Bytes} {at : ℕ} → StoredAt write buf at [] buf at
stored_nothing {write} {buf} {at} = record { bytes = go write; place = sym (add-zero at) }
  where
    go : (w : Bool) → buf ≡ stored w buf at []
    go true = refl
    go false = refl

pub stored_then : {write : Bool} {buf buf' buf'' : Bytes} {at past past' : ℕ} {s t : Bytes} → StoredAt write buf at s buf' past → StoredAt write buf' past t buf'' past' → StoredAt write buf at (s ++ t) buf'' past'
stored_then {write} {buf} {at = at} {s = s} {t = t} a b =
    record { bytes = b.bytes ∙ rw (a.bytes, a.place) (stored_append write buf at s t); place = omega (arith, a.place, b.place, length-append s t) }

pub stored_long : {write : Bool} {buf buf' : Bytes} {at past : ℕ} {t : Bytes} → StoredAt write buf at t buf' past → length buf' ≡ length buf
stored_long {write} {buf} {at = at} {t = t} a = ap length a.bytes ∙ by_cond (λ (b : Bytes). length b ≡ length buf) write (λ e. length-sets buf at t) (λ e. refl)

pub stored_as : {write : Bool} {buf buf' : Bytes} {at past : ℕ} {s t : Bytes} → t ≡ s → StoredAt write buf at s buf' past → StoredAt write buf at t buf' past
stored_as {write} {buf} {buf'} {at} {past} e d = subst (λ (l : Bytes). StoredAt write buf at l buf' past) (sym e) d

pub room_as : {write : Bool} {buf : Bytes} {at : ℕ} {s t : Bytes} → s ≡ t → RoomAt write buf at s → RoomAt write buf at t
room_as {write} {buf} {at} e r = subst (RoomAt write buf at) e r

-- ---- room for a part

pub room_left : {write : Bool} {buf : Bytes} {at : ℕ} (s t : Bytes) → RoomAt write buf at (s ++ t) → RoomAt write buf at s
room_left s t r = record { small = omega (arith, r.small, length-append s t); fits = λ e. omega (arith, r.fits e, length-append s t) }

pub room_right : {write : Bool} {buf buf' : Bytes} {at past : ℕ} (s t : Bytes) → RoomAt write buf at (s ++ t) → StoredAt write buf at s buf' past → RoomAt write buf' past t
room_right s t r a = record { small = omega (arith, r.small, length-append s t, a.place); fits = λ e. omega (arith, r.fits e, length-append s t, a.place, stored_long a) }

-- ---- what is kept without the blanks at the end

kept_before : (kept at : ℕ) (s r : Bytes) → cond (eqb (length r) 0) (kept_at kept at s) ((at + length s) + length r) ≡ cond (eqb (length (before is_space s r)) 0) kept (at + length (before is_space s r))
kept_before kept at s [] = refl
kept_before kept at s (c ∷ r) =
    let n = length-append s (c ∷ r) in
    rw (ne_eqb (length (c ∷ r)) 0 (omega arith), ne_eqb (length (s ++ c ∷ r)) 0 (omega arith)) (omega arith)

pub kept_append : (kept at : ℕ) (s t : Bytes) → kept_at (kept_at kept at s) (at + length s) t ≡ kept_at kept at (s ++ t)
kept_append kept at s t = kept_before kept at s (rstrip t) ∙ rw (rstrip_append is_space s t)

-- of one byte
kept_blank : (squeeze space : Bool) (times c : ℕ) → is_space c ≡ true → rstrip (shown_times squeeze space times (c ∷ [])) ≡ []
unfolding rstrip_by
kept_blank squeeze space times c e = ap rstrip (times_one squeeze space times c) ∙ go squeeze space
  where
    go : (q p : Bool) → rstrip (cond (q && is_space c) (squeezed true p c) (escaped_times times c)) ≡ []
    go true true = rw e
    go true false = rw e (rstrip_blank is_space [] 32 (space_32 32 refl))
    go false p = ap rstrip (times_bare times c (escaped_blank c e)) ∙ rstrip_blank is_space [] c e

-- a byte that is no blank
pub kept_other : (squeeze space : Bool) (times c : ℕ) → is_space c ≡ false → shown_times squeeze space times (c ∷ []) ≡ escaped_times times c
kept_other squeeze space times c e = times_one squeeze space times c ∙ go squeeze
  where
    go : (q : Bool) → cond (q && is_space c) (squeezed true space c) (escaped_times times c) ≡ escaped_times times c
    go true = rw e
    go false = refl

-- a blank that is dropped, and a byte that stands for itself
pub byte_dropped : (squeeze space : Bool) (times c : ℕ) → (squeeze && (is_space c && space)) ≡ true → shown_times squeeze space times (c ∷ []) ≡ []
byte_dropped true true times c e = times_one true true times c ∙ rw (and_parts (is_space c) true e).0
byte_dropped true false times c e = absurd_test (and_parts (is_space c) false e).1 refl
byte_dropped false space times c e = absurd_test e refl

pub byte_stays : (squeeze space : Bool) (times c : ℕ) → escaped_times times c ≡ c ∷ [] → (squeeze && (is_space c && space)) ≡ false
    → shown_times squeeze space times (c ∷ []) ≡ cond (squeeze && is_space c) 32 c ∷ []
byte_stays true space times c e d = times_one true space times c ∙ by_test (is_space c) (λ t. rw (t, rw t at d)) (λ t. rw t e)
byte_stays false space times c e d = times_one false space times c ∙ e

kept_one : (squeeze space : Bool) (times c kept at past : ℕ) → past ≡ at + length (shown_times squeeze space times (c ∷ []))
    → cond (is_space c) kept past ≡ kept_at kept at (shown_times squeeze space times (c ∷ []))
kept_one squeeze space times c kept at past e =
    by_test (is_space c) (λ t. rw (t, kept_blank squeeze space times c t))
    (λ t.
    let x = kept_other squeeze space times c t in
    let k : rstrip (shown_times squeeze space times (c ∷ [])) ≡ shown_times squeeze space times (c ∷ []) = ap rstrip x ∙ times_kept times c t ∙ sym x in
    let n : (length (shown_times squeeze space times (c ∷ [])) ≡ 0) → ⊥ = λ z. absurd (omega (arith, z, ap length x, times_some times c)) in
    rw (t, k, ne_eqb (length (shown_times squeeze space times (c ∷ []))) 0 n) e)

-- ---- a loop

abbrev pub places : ℕ → ℕ → Bool → ℕ → Places
places past kept space read = record { past = past; kept = kept; space = space; read = read }

module _ {write squeeze space : Bool} {times : ℕ} {buf : Bytes} {at kept : ℕ} where
  pub part_start : PutsPart write squeeze space times buf at kept [] buf (places at kept space 0)
  unfolding rstrip_by
  part_start =
      record {
        stores = subst (λ (t : Bytes). StoredAt write buf at t buf at) (sym (times_nil squeeze space times)) stored_nothing;
        kept_is = sym (ap (kept_at kept at) (times_nil squeeze space times));
        space_is = refl;
        read_is = refl;
      }

  -- with another count of bytes read
  pub read_as : {t out : Bytes} {n m k : ℕ} {r : Places} → PutsRead write squeeze space times buf at kept t n out r → k ≡ m
      → PutsRead write squeeze space times buf at kept t m out (places r.past r.kept r.space k)
  read_as p e = record { stores = p.stores; kept_is = p.kept_is; space_is = p.space_is; read_is = e }

  -- two parts
  pub part_then : {s t buf' buf'' : Bytes} {a b : Places} {read : ℕ} → PutsPart write squeeze space times buf at kept s buf' a → PutsPart write squeeze a.space times buf' a.past a.kept t buf'' b
      → read ≡ a.read + b.read → PutsPart write squeeze space times buf at kept (s ++ t) buf'' (places b.past b.kept b.space read)
  part_then {s} {t} {buf'} {buf''} {a} {b} p q r =
      let x = shown_times squeeze space times s in
      let y = shown_times squeeze a.space times t in
      let e : shown_times squeeze space times (s ++ t) ≡ x ++ y = times_append squeeze space times s t ∙ ap (λ (l : Bool). x ++ shown_times squeeze l times t) (sym p.space_is) in
      record {
        stores = subst (λ (l : Bytes). StoredAt write buf at l buf'' b.past) (sym e) (stored_then p.stores q.stores);
        kept_is = q.kept_is ∙ rw (p.kept_is, p.stores.place) (kept_append kept at x y) ∙ sym (ap (kept_at kept at) e);
        space_is = q.space_is ∙ ap (λ (l : Bool). space_after is_space l t) p.space_is ∙ sym (space_append is_space space s t);
        read_is = omega (arith, r, p.read_is, q.read_is, length-append s t);
      }

  -- one byte
  pub part_one : (c : ℕ) {blank : Bool} {buf' : Bytes} {past behind : ℕ} → blank ≡ is_space c → StoredAt write buf at (shown_times squeeze space times (c ∷ [])) buf' past → behind ≡ cond blank kept past
      → PutsPart write squeeze space times buf at kept (c ∷ []) buf' (places past behind blank 1)
  part_one c {past = past} e d k =
      record { stores = d; kept_is = k ∙ rw e (kept_one squeeze space times c kept at past d.place); space_is = e; read_is = refl }

-- room for the part that is next
pub room_then : {write squeeze space : Bool} {times : ℕ} {buf : Bytes} {at kept : ℕ} {s a : Bytes} (t u : Bytes) {out : Bytes} {n : ℕ} {r : Places}
    → s ≡ a ++ (t ++ u) → PutsRead write squeeze space times buf at kept a n out r
    → RoomAt write buf at (shown_times squeeze space times s) → RoomAt write out r.past (shown_times squeeze r.space times t)
room_then {write} {squeeze} {space} {times} {buf} {at} {a = a} t u {r = r} whole p room =
    let x = shown_times squeeze space times a in
    let e =
    ap (shown_times squeeze space times) whole ∙ times_append squeeze space times a (t ++ u)
    ∙ ap (λ (l : Bool). x ++ shown_times squeeze l times (t ++ u)) (sym p.space_is) in
    let rest = room_right x _ (room_as e room) p.stores in
    room_left (shown_times squeeze r.space times t) _ (room_as (times_append squeeze r.space times t u) rest)

-- the byte at i behind those before it
module _ {write squeeze space : Bool} {times : ℕ} {buf : Bytes} {at kept : ℕ} (s : Bytes) (i : ℕ) (h : i < length s) {out : Bytes} {r : Places} (p : PutsPart write squeeze space times buf at kept (take i s) out r) where
  pub part_next : {c : ℕ} {blank : Bool} {out' : Bytes} {past behind read : ℕ} → c ≡ get_or s i 0 → blank ≡ is_space c → StoredAt write out r.past (shown_times squeeze r.space times (c ∷ [])) out' past
      → behind ≡ cond blank r.kept past → read ≡ r.read + 1 → PutsPart write squeeze space times buf at kept (take (i + 1) s) out' (places past behind blank read)
  part_next {c} {blank} {out'} {past} {behind} {read} is e d k l =
      subst (λ (t : Bytes). PutsPart write squeeze space times buf at kept t out' (places past behind blank read)) (sym (rw add-one (take-suc s i 0 h) ∙ ap (λ (x : ℕ). take i s ++ x ∷ []) (sym is)))
      (part_then p (part_one c e d k) l)

  pub part_room : RoomAt write buf at (shown_times squeeze space times s) → {c : ℕ} → c ≡ get_or s i 0 → RoomAt write out r.past (shown_times squeeze r.space times (c ∷ []))
  part_room room {c} is =
      let whole : s ≡ take i s ++ ((c ∷ []) ++ drop (suc i) s) = sym (take-append-drop i s) ∙ ap (λ (l : Bytes). take i s ++ l) (drop-cons s i 0 h ∙ ap (λ (x : ℕ). x ∷ drop (suc i) s) (sym is)) in
      room_then (c ∷ []) (drop (suc i) s) whole p room

pub part_end : {write squeeze space : Bool} {times : ℕ} {buf : Bytes} {at kept : ℕ} (s : Bytes) (i : ℕ) {out : Bytes} {r : Places} → length s ≤ i → PutsPart write squeeze space times buf at kept (take i s) out r
    → PutsPart write squeeze space times buf at kept s out r
part_end {write} {squeeze} {space} {times} {buf} {at} {kept} s i {out} {r} h p = subst (λ (t : Bytes). PutsPart write squeeze space times buf at kept t out r) (take_all i s h) p
