-- A text from its first byte on, which is in hand: that byte, and what is behind it.
use mathlib.Core.Path.{◌≡◌, refl, sym, ap, subst, ◌∙◌}
use mathlib.Core.Bool.{Bool, false, ◌&&◌, cond}
use mathlib.Core.List.{[], ◌∷◌, ◌++◌}
use Prim.Native.Nat.{ℕ, ◌+◌, ◌-◌, ◌<◌}
use native.Mathlib.Omega.{arith}
use native.Mathlib.Numerals.{add-one}
use lib.ListN.{length, take, drop, get_or, length-drop}
use lib.Seq.{drop-cons}
use Rattle.common.specs.Bytes.{Bytes}
use Rattle.common.proofs.Choice.{by_test}
use Rattle.common.proofs.Parts.{part_from}
use Rattle.text.specs.Text.{is_space, escaped}
use Rattle.writer.specs.Out.{greater, push_all}
use Rattle.writer.specs.Shown.{shown_times, escaped_times}
use Rattle.writer.specs.Texts.{PutsPart, PutsText}
use Rattle.writer.specs.Writing.{Ready, Does, RoomAt, StoredAt, kept_at}
use Rattle.writer.specs.declared.Writer.{Writer}
use Rattle.writer.specs.declared.texts.First.{First}
use Rattle.writer.specs.declared.texts.Places.{Places}
use Rattle.writer.proofs.HeldLaws.{run_small, run_room, ran}
use Rattle.writer.proofs.PlacesLaws.{places, stored_as, room_as, room_left, room_right, part_one, part_then}
use Rattle.writer.proofs.TimesLaws.{times_append, times_one, times_bare}

-- ---- the writer's numbers

pub room_of : {write : Bool} {w : Writer} {buf t : Bytes} → Ready write w buf (push_all t) → RoomAt write buf w.len t
room_of {t = t} r = record { small = run_small t r; fits = run_room t r }

pub stored_does : {write : Bool} {w : Writer} {buf buf' t : Bytes} {past kept peak : ℕ} → Ready write w buf (push_all t) → StoredAt write buf w.len t buf' past
    → kept ≡ kept_at w.kept w.len t → peak ≡ greater w.peak past → Does write w buf (record { len = past; kept = kept; peak = peak }) buf' (push_all t)
stored_does {w = w} {t = t} r d k p = ran t r refl refl (λ i. record { len = d.place i; kept = k i; peak = (p ∙ ap (greater w.peak) d.place) i }) d.bytes

-- ---- the first byte

pub first_byte : (squeeze : Bool) (times c : ℕ) → shown_times squeeze false times (c ∷ []) ≡ escaped_times times (cond (squeeze && is_space c) 32 c)
unfolding escaped
first_byte squeeze times c =
    times_one squeeze false times c
    ∙ by_test (squeeze && is_space c) (λ t. rw t (sym (times_bare times 32 refl))) (λ t. rw t)

module _ (squeeze : Bool) (times : ℕ) (s : Bytes) (first : First) {write : Bool} {w : Writer} {out : Bytes} (h : first.at < length s) (is : first.byte ≡ get_or s first.at 0)
    (ready : Ready write w out (push_all (shown_times squeeze false times (drop first.at s)))) where
  abbrev b : ℕ
  b = first.byte

  -- as a part of the slice has it
  abbrev part : Bytes
  part = take (length s - (first.at + 1)) (drop (first.at + 1) s)

  whole : drop first.at s ≡ (b ∷ []) ++ part
  whole = drop-cons s first.at 0 h ∙ rw (is, part_from s (first.at + 1), add-one)

  whole_shown : shown_times squeeze false times (drop first.at s) ≡ shown_times squeeze false times (b ∷ []) ++ shown_times squeeze (is_space b) times part
  whole_shown = ap (shown_times squeeze false times) whole ∙ times_append squeeze false times (b ∷ []) part

  room : RoomAt write out w.len (shown_times squeeze false times (b ∷ []) ++ shown_times squeeze (is_space b) times part)
  room = room_as whole_shown (room_of ready)

  module _ {blank : Bool} (e : blank ≡ is_space b) {c : ℕ} (shown : c ≡ cond (squeeze && blank) 32 b) where
    byte_is : shown_times squeeze false times (b ∷ []) ≡ escaped_times times c
    byte_is = first_byte squeeze times b ∙ ap (escaped_times times) (sym (shown ∙ ap (λ (q : Bool). cond (squeeze && q) 32 b) e))

    pub first_room : RoomAt write out w.len (escaped_times times c)
    first_room = room_as byte_is (room_left (shown_times squeeze false times (b ∷ [])) _ room)

    module _ {out' : Bytes} {past : ℕ} (d : StoredAt write out w.len (escaped_times times c) out' past) where
      pub rest_room : RoomAt write out' past (shown_times squeeze blank times part)
      rest_room = subst (λ (q : Bool). RoomAt write out' past (shown_times squeeze q times part)) (sym e) (room_right (shown_times squeeze false times (b ∷ [])) _ room (stored_as byte_is d))

      pub text_put : {behind : ℕ} {out'' : Bytes} {r : Places} {peak : ℕ} → behind ≡ cond blank w.kept past → PutsPart write squeeze blank times out' past behind part out'' r → peak ≡ greater w.peak r.past
          → PutsText write squeeze times w out s first (record { writer = record { len = r.past; kept = r.kept; peak = peak }; read = first.read + r.read; space = r.space }) out''
      text_put {out'' = o} {r = r} k p g =
          let q = part_then (part_one b e (stored_as byte_is d) k) p refl in
          let t = subst (λ (l : Bytes). PutsPart write squeeze false times out w.len w.kept l o (places r.past r.kept r.space (1 + r.read))) (sym whole) q in
          record {
            does = stored_does ready t.stores t.kept_is g;
            space_is = t.space_is;
            read_is = omega (arith, t.read_is, length-drop first.at s);
          }
