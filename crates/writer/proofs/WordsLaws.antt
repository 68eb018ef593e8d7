-- Along a text by numbers alone: eight bytes in hand, and eight bytes after the other.
use mathlib.Core.Path.{◌≡◌, refl, sym, ap, subst, ◌∙◌}
use mathlib.Core.Bool.{Bool, true, false, cond}
use mathlib.Core.List.{[], ◌∷◌, ◌++◌, append-nil}
use Prim.Native.Nat.{ℕ, suc, ◌+◌, ◌-◌, ◌/◌, ◌%◌, ◌≤◌, ◌<◌}
use native.Mathlib.Numerals.{add-one}
use native.Mathlib.Omega.{arith}
use lib.Dec.{eqb}
use lib.ListN.{length, take, drop, get_or, length-drop, take-append-drop}
use lib.Seq.{drop-cons, take-add}
use Rattle.common.specs.Bytes.{Bytes}
use Rattle.common.specs.Word.{octets, word_at}
use Rattle.common.proofs.Parts.{part_from}
use Rattle.common.proofs.Words.{octets_length, octets_word}
use Rattle.text.specs.Text.{is_space}
use Rattle.writer.specs.Plain.{Plain, last_octet}
use Rattle.writer.specs.Shown.{shown_times}
use Rattle.writer.specs.Texts.{PutsRead, PutsPart, PutsPlain}
use Rattle.writer.specs.Writing.{RoomAt, StoredAt, kept_at}
use Rattle.writer.specs.declared.texts.Places.{Places}
use Rattle.writer.proofs.PlacesLaws.{places, stored_as, room_as, room_left, read_as, room_then, part_next, part_room, part_then}
use Rattle.writer.proofs.TimesLaws.{times_append}

-- ---- eight bytes in hand, one by one

-- `rest` has the bytes of s from i on
module _ (left rest : ℕ) (s : Bytes) (i : ℕ) (h : 0 < left) (e : octets left rest ≡ drop i s) where
  left_within : i < length s
  left_within = omega (arith, sym (octets_length left rest) ∙ ap length e, length-drop i s)

  cut : rest % 256 ∷ octets (left - 1) (rest / 256) ≡ get_or s i 0 ∷ drop (suc i) s
  unfolding octets
  cut =
      let n : left ≡ suc (left - 1) = omega arith in
      ap (λ (k : ℕ). octets k rest) (sym n) ∙ e ∙ drop-cons s i 0 left_within

  left_byte : rest % 256 ≡ get_or s i 0
  left_byte = ap (λ (l : Bytes). get_or l 0 0) cut

  left_next : octets (left - 1) (rest / 256) ≡ drop (suc i) s
  left_next = ap (drop 1) cut

module _ (word i rest : ℕ) (h : i < 8) (e : octets (8 - i) rest ≡ drop i (octets 8 word)) where
  abbrev s : Bytes
  s = octets 8 word

  more : 0 < 8 - i
  more = omega arith

  pub rest_next : octets (8 - (i + 1)) (rest / 256) ≡ drop (i + 1) s
  rest_next = let n : 8 - (i + 1) ≡ 8 - i - 1 = omega arith in rw (n, add-one) (left_next (8 - i) rest s i more e)

  module _ {write squeeze space : Bool} {times : ℕ} {buf out : Bytes} {at kept : ℕ} {r : Places}
      (p : PutsPart write squeeze space times buf at kept (take i s) out r) where
    pub octet_room : RoomAt write buf at (shown_times squeeze space times s)
        → RoomAt write out r.past (shown_times squeeze r.space times (rest % 256 ∷ []))
    octet_room room = part_room s i (left_within (8 - i) rest s i more e) p room (left_byte (8 - i) rest s i more e)

    pub octet_next : {blank : Bool} {out' : Bytes} {past behind read : ℕ} → blank ≡ is_space (rest % 256)
        → StoredAt write out r.past (shown_times squeeze r.space times (rest % 256 ∷ [])) out' past
        → behind ≡ cond blank r.kept past → read ≡ r.read + 1
        → PutsPart write squeeze space times buf at kept (take (i + 1) s) out' (places past behind blank read)
    octet_next b d m l = part_next s i (left_within (8 - i) rest s i more e) p (left_byte (8 - i) rest s i more e) b d m l

-- ---- eight bytes that are shown as they are

module _ {write squeeze space : Bool} {times : ℕ} {buf out : Bytes} {at word read : ℕ} {r : Places}
    (p : Plain squeeze space times word) (q : PutsPlain write buf at word read out r) where
  plain_behind : (kept : ℕ)
      → at + cond (eqb (last_octet word) 0x20) 7 8 ≡ kept_at kept at (shown_times squeeze space times (octets 8 word))
  plain_behind kept = rw (p.same, p.kept) (go (eqb (last_octet word) 0x20))
    where
      go : (b : Bool) → at + cond b 7 8 ≡ cond (eqb (cond b 7 8) 0) kept (at + cond b 7 8)
      go true = refl
      go false = refl

  pub plain_puts : {kept : ℕ} → PutsRead write squeeze space times buf at kept (octets 8 word) read out r
  plain_puts {kept} =
      record {
        stores = stored_as p.same q.stores;
        kept_is = q.kept_is ∙ plain_behind kept;
        space_is = q.space_is ∙ sym p.last;
        read_is = q.read_is;
      }

-- ---- eight bytes after the other

module _ (s : Bytes) (small : (k : ℕ) → get_or s k 0 < 256) (i : ℕ) (h : i + 8 ≤ length s) {word : ℕ} (is : word ≡ word_at s i)
    {write squeeze space : Bool} {times : ℕ} {buf out : Bytes} {at kept : ℕ} {r : Places}
    (p : PutsPart write squeeze space times buf at kept (take i s) out r) where
  eight : octets 8 word ≡ take 8 (drop i s)
  eight = rw is (octets_word s i small h)

  pub word_room : RoomAt write buf at (shown_times squeeze space times s)
      → RoomAt write out r.past (shown_times squeeze r.space times (octets 8 word))
  word_room room =
      let whole : s ≡ take i s ++ (octets 8 word ++ drop 8 (drop i s)) =
      sym (rw (eight, take-append-drop 8 (drop i s)) (take-append-drop i s)) in
      room_then (octets 8 word) (drop 8 (drop i s)) whole p room

  pub word_next : {n : ℕ} {out' : Bytes} {b : Places}
      → PutsRead write squeeze r.space times out r.past r.kept (octets 8 word) n out' b
      → n ≡ r.read + 8 → PutsPart write squeeze space times buf at kept (take (i + 8) s) out' b
  word_next {out' = out'} {b = b} q l =
      subst (λ (t : Bytes). PutsPart write squeeze space times buf at kept t out' b)
      (sym (take-add i 8 s ∙ ap (λ (t : Bytes). take i s ++ t) (sym eight)))
      (part_then p (read_as q (sym (octets_length 8 word))) (q.read_is ∙ l))

-- ---- whole words, and what is left

module _ (s : Bytes) (n : ℕ) where
  -- as a part of the slice has it
  abbrev part : Bytes
  part = take (length s - n) (drop n s)

  whole : s ≡ take n s ++ part
  whole = rw (part_from s n) (sym (take-append-drop n s))

  pub words_room : {write : Bool} (squeeze space : Bool) (times : ℕ) {buf : Bytes} {at : ℕ}
      → RoomAt write buf at (shown_times squeeze space times s) → RoomAt write buf at (shown_times squeeze space times (take n s))
  words_room squeeze space times room =
      room_left (shown_times squeeze space times (take n s)) _
      (room_as (ap (shown_times squeeze space times) whole ∙ times_append squeeze space times (take n s) part) room)

  module _ {write squeeze space : Bool} {times : ℕ} {buf out : Bytes} {at kept : ℕ} {a : Places}
      (p : PutsPart write squeeze space times buf at kept (take n s) out a) where
    pub rest_room : RoomAt write buf at (shown_times squeeze space times s)
        → RoomAt write out a.past (shown_times squeeze a.space times part)
    rest_room = room_then part [] (whole ∙ ap (λ (t : Bytes). take n s ++ t) (sym (append-nil part))) p

    pub parts_put : {out' : Bytes} {b : Places} → PutsPart write squeeze a.space times out a.past a.kept part out' b
        → PutsPart write squeeze space times buf at kept s out' (places b.past b.kept b.space (a.read + b.read))
    parts_put {out'} {b} q =
        let r = places b.past b.kept b.space (a.read + b.read) in
        subst (λ (t : Bytes). PutsPart write squeeze space times buf at kept t out' r) (sym whole) (part_then p q refl)
