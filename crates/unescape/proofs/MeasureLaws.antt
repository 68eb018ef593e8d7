-- The measuring pass, from one ampersand to the next.
use mathlib.Core.Path.{◌≡◌, sym, ap, ◌∙◌}
use Prim.Native.Nat.{ℕ, ◌+◌, ◌-◌, ◌≤◌, ◌<◌}
use native.Mathlib.Omega.{arith}
use lib.ListN.{length, get_or, take, drop, length-append, drop_of_length-le}
use Rattle.common.specs.Bytes.{Bytes}
use Rattle.unescape.specs.Inner.{NextAmpersand, part_of, measure}
use Rattle.unescape.specs.Unescape.{ampersand, entity, no_entity_from, unescaped_from, unescaped, unescape}
use Rattle.unescape.specs.declared.Part.{Part}
use Rattle.std.specs.Prelude.{Ok, Err, None}
use Rattle.unescape.specs.declared.UnescapeError.TheVariants.{NoEntity}
use Rattle.unescape.proofs.FreeLaws.{run_length}
use Rattle.unescape.proofs.PartLaws.{next_text, next_none, Stands, stands}

-- up to i, where the text ends or an ampersand stands, each name is counted as one byte of n
pub record Measuring (s : Bytes) (i n : ℕ) : Type 0 where
  pub within : i ≤ length s
  pub there : i < length s → get_or s i 0 ≡ ampersand
  pub left : length s ≤ n + i
  pub count : n + length (unescaped (drop i s)) + i ≡ length (unescaped s) + length s
  pub names : no_entity_from i (drop i s) ≡ no_entity_from 0 s

-- the characters of a run and of what follows it
next_count : {s : Bytes} {from to : ℕ} → NextAmpersand s from to
    → length (unescaped (drop from s)) + from ≡ to + length (unescaped (drop to s))
next_count {s} {from} {to} n =
    omega (arith, ap length (next_text n), length-append (take (to - from) (drop from s)) (unescaped (drop to s)), run_length n.free)

pub measuring_start : {s : Bytes} {i : ℕ} → NextAmpersand s 0 i → Measuring s i (length s)
measuring_start n =
    record {
      within = n.free.within;
      there = n.there;
      left = omega arith;
      count = omega (arith, next_count n);
      names = sym (next_none n);
    }

module _ {s : Bytes} {i n : ℕ} (m : Measuring s i n) where
  pub measuring_stands : {p : Part} → i < length s → p ≡ part_of (entity (drop i s)) → Stands s i p
  measuring_stands h e = stands s i h (m.there h) e

  -- a name has room among the bytes that are counted
  pub measuring_room : {p : Part} → Stands s i p → p.len - 1 ≤ n
  measuring_room t = omega (arith, t.within, m.left)

  -- an ampersand that starts a name, and the run behind the name
  pub measuring_more : {p : Part} {j : ℕ} → Stands s i p → (p.len ≡ 1 → ⊥) → NextAmpersand s (i + p.len) j
      → Measuring s j (n - (p.len - 1))
  measuring_more {p} {j} t f k =
      let room = measuring_room t in
      record {
        within = k.free.within;
        there = k.there;
        left = omega (arith, m.left, k.free.ordered, t.not_empty, room);
        count = omega (arith, m.count, t.not_empty, room, ap length t.characters, next_count k);
        names = sym (t.a_name f ∙ next_none k) ∙ m.names;
      }

  -- one that starts none
  pub measuring_wrong : {p : Part} → Stands s i p → p.len ≡ 1 → Err (NoEntity i) ≡ measure (unescape s)
  unfolding unescape
  measuring_wrong t e = rw (sym m.names ∙ t.no_name e)

  pub measuring_end : length s ≤ i → Ok n ≡ measure (unescape s)
  unfolding unescape unescaped_from no_entity_from
  measuring_end h =
      let past = drop_of_length-le s {i = i} h in
      let none_is : no_entity_from 0 s ≡ None = sym m.names ∙ ap (no_entity_from i) past in
      let count_is : n ≡ length (unescaped s) = omega (arith, h, m.within, m.count, ap (λ (t : Bytes). length (unescaped t)) past) in
      rw (none_is, count_is)
