-- The writing pass, from one ampersand to the next.
use mathlib.Core.Path.{◌≡◌, refl, ap, ◌∙◌}
use mathlib.Core.List.{[], ◌∷◌, ◌++◌}
use Prim.Native.Nat.{ℕ, ◌+◌, ◌-◌, ◌≤◌, ◌<◌}
use native.Mathlib.Nat.{sub-zero}
use native.Mathlib.Omega.{arith}
use lib.ListN.{length, get_or, set, take, drop, length-append, drop_of_length-le}
use Rattle.common.specs.Bytes.{Bytes}
use Rattle.common.specs.Puts.{Puts}
use Rattle.common.proofs.Puts.{Putting, putting_start, putting_more, putting_room, putting_end, puts_one, puts_then, puts_length}
use Rattle.unescape.specs.Inner.{NextAmpersand, part_of}
use Rattle.unescape.specs.Unescape.{ampersand, entity, unescaped_from, unescaped}
use Rattle.unescape.specs.declared.Part.{Part}
use Rattle.unescape.proofs.PartLaws.{next_text, Stands, stands}

-- ---- the run in front of the first ampersand

module _ {s : Bytes} {i : ℕ} (n : NextAmpersand s 0 i) where
  first_run : unescaped s ≡ take i s ++ unescaped (drop i s)
  first_run = next_text n ∙ ap (λ (k : ℕ). take k s ++ unescaped (drop i s)) (sub-zero i)

  first_length : length (unescaped s) ≡ length (take i s) + length (unescaped (drop i s))
  first_length = ap length first_run ∙ length-append (take i s) (unescaped (drop i s))

  pub first_room : {room : ℕ} → length (unescaped s) ≤ room → 0 + length (take i s) ≤ room
  first_room h = omega (arith, first_length)

  module _ {before out : Bytes} {at : ℕ} (p : Puts before 0 (take i s) out at) where
    first_left : length (unescaped s) ≤ length before → at + length (unescaped (drop i s)) ≤ length out
    first_left h = omega (arith, first_length, p.place, puts_length p)

    pub first_then : {final : Bytes} {past : ℕ} → Puts out at (unescaped (drop i s)) final past → Puts before 0 (unescaped s) final past
    first_then q = rw first_run (puts_then p q)

-- ---- the rest, one ampersand after the other

-- from where the first stands, at i₀: what stands before i is stored from at₀ on, and at i the text ends or an ampersand stands
pub record Storing (s before : Bytes) (i₀ at₀ : ℕ) (out : Bytes) (i at : ℕ) : Type 0 where
  pub within : i ≤ length s
  pub there : i < length s → get_or s i 0 ≡ ampersand
  pub puts : Putting before at₀ (unescaped (drop i₀ s)) out at (unescaped (drop i s))
  pub room : at₀ + length (unescaped (drop i₀ s)) ≤ length before

pub storing_start : {s before out : Bytes} {i at : ℕ} → NextAmpersand s 0 i → Puts before 0 (take i s) out at
    → length (unescaped s) ≤ length before → Storing s out i at out i at
storing_start n p h = record { within = n.free.within; there = n.there; puts = putting_start; room = first_left n p h }

module _ {s before : Bytes} {i₀ at₀ : ℕ} {out : Bytes} {i at : ℕ} (t : Storing s before i₀ at₀ out i at) where
  pub storing_stands : {p : Part} → i < length s → p ≡ part_of (entity (drop i s)) → Stands s i p
  storing_stands h e = stands s i h (t.there h) e

  module _ {p : Part} (q : Stands s i p) where
    one : unescaped (drop i s) ≡ (p.character ∷ []) ++ unescaped (drop (i + p.len) s)
    one = q.characters

    -- the character
    pub storing_byte : at < length out
    storing_byte = omega (arith, putting_room (p.character ∷ []) (unescaped (drop (i + p.len) s)) t.puts one t.room)

    byte_put : Putting before at₀ (unescaped (drop i₀ s)) (set out at p.character) (at + 1) (unescaped (drop (i + p.len) s))
    byte_put = putting_more t.puts one (puts_one p.character refl)

    -- the run behind its name
    module _ {j : ℕ} (n : NextAmpersand s (i + p.len) j) where
      abbrev run : Bytes
      run = take (j - (i + p.len)) (drop (i + p.len) s)

      pub storing_run : at + 1 + length run ≤ length (set out at p.character)
      storing_run = putting_room run (unescaped (drop j s)) byte_put (next_text n) t.room

      pub storing_more : {next : Bytes} {past : ℕ} → Puts (set out at p.character) (at + 1) run next past
          → Storing s before i₀ at₀ next j past
      storing_more w =
          record { within = n.free.within; there = n.there; puts = putting_more byte_put (next_text n) w; room = t.room }

  pub storing_end : length s ≤ i → Puts before at₀ (unescaped (drop i₀ s)) out at
  unfolding unescaped_from
  storing_end h = putting_end t.puts (ap unescaped (drop_of_length-le s {i = i} h))
