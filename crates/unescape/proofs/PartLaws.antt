-- From one ampersand of a text to the next: what stands there, and the run behind it.
use Rattle.std.specs.Prelude.{Option, None, Some}
use mathlib.Core.Path.{◌≡◌, refl, sym, ap, ◌∙◌}
use mathlib.Core.List.{◌∷◌, ◌++◌}
use Prim.Native.Nat.{ℕ, ◌+◌, ◌-◌, ◌≤◌, ◌<◌}
use native.Mathlib.Omega.{arith}
use native.Mathlib.Numerals.{add-one}
use lib.ListN.{length, get_or, take, drop, length-append, length-drop}
use lib.Seq.{drop-cons, drop-drop}
use Rattle.common.specs.Bytes.{Bytes}
use Rattle.text.specs.Text.{escaped}
use Rattle.unescape.specs.Inner.{NextAmpersand, part_of}
use Rattle.unescape.specs.Unescape.{ampersand, entity, no_entity_from, unescaped}
use Rattle.unescape.specs.declared.Part.{Part}
use Rattle.unescape.proofs.FreeLaws.{run_split, run_length, run_free}
use Rattle.unescape.proofs.StartsLaws.{entity_split}
use Rattle.unescape.proofs.UnescapeLaws.{unescaped_escaped, none_escaped, unescaped_run, none_run, unescaped_none, none_none}

-- ---- the run before the next ampersand

module _ {s : Bytes} {from to : ℕ} (n : NextAmpersand s from to) where
  pub next_text : unescaped (drop from s) ≡ take (to - from) (drop from s) ++ unescaped (drop to s)
  next_text = ap unescaped (run_split n.free) ∙ unescaped_run (take (to - from) (drop from s)) (drop to s) (run_free n.free)

  pub next_none : no_entity_from from (drop from s) ≡ no_entity_from to (drop to s)
  next_none =
      ap (no_entity_from from) (run_split n.free) ∙ none_run (take (to - from) (drop from s)) (drop to s) from (run_free n.free)
      ∙ ap (λ (i : ℕ). no_entity_from i (drop to s)) (run_length n.free)

-- ---- what the ampersand starts

-- what stands at i in a text, as p has it
pub record Stands (s : Bytes) (i : ℕ) (p : Part) : Type 0 where
  pub within : i + p.len ≤ length s
  pub not_empty : 0 < p.len
  pub characters : unescaped (drop i s) ≡ p.character ∷ unescaped (drop (i + p.len) s)
  pub a_name : (p.len ≡ 1 → ⊥) → no_entity_from i (drop i s) ≡ no_entity_from (i + p.len) (drop (i + p.len) s)
  pub no_name : p.len ≡ 1 → no_entity_from i (drop i s) ≡ Some i

module _ (s : Bytes) (i : ℕ) (h : i < length s) (a : get_or s i 0 ≡ ampersand) where
  first : drop i s ≡ ampersand ∷ drop (i + 1) s
  first = drop-cons s i 0 h ∙ rw (a, add-one)

  stands_none : entity (drop i s) ≡ None → Stands s i (record { character = ampersand; len = 1 })
  stands_none e =
      let n = sym (ap entity first) ∙ e in
      record {
        within = omega arith;
        not_empty = omega arith;
        characters = ap unescaped first ∙ unescaped_none (drop (i + 1) s) n;
        a_name = λ f. absurd (f refl);
        no_name = λ q. ap (no_entity_from i) first ∙ none_none (drop (i + 1) s) n i;
      }

  stands_some : (c : ℕ) → entity (drop i s) ≡ Some c → Stands s i (record { character = c; len = length (escaped c) })
  stands_some c e =
      let p = entity_split (drop i s) c e in
      let split : drop i s ≡ escaped c ++ drop (i + length (escaped c)) s =
      p.0 ∙ ap (λ (t : Bytes). escaped c ++ t) (drop-drop (length (escaped c)) i s) in
      record {
        within = omega (arith, ap length p.0, length-append (escaped c) (drop (length (escaped c)) (drop i s)), length-drop i s);
        not_empty = omega (arith, p.1);
        characters = ap unescaped split ∙ unescaped_escaped c (drop (i + length (escaped c)) s);
        a_name = λ f. ap (no_entity_from i) split ∙ none_escaped c i (drop (i + length (escaped c)) s);
        no_name = λ q. absurd (omega (arith, q, p.1));
      }

  stands_by : (o : Option ℕ) → entity (drop i s) ≡ o → Stands s i (part_of o)
  stands_by None e = stands_none e
  stands_by (Some c) e = stands_some c e

  pub stands : {p : Part} → p ≡ part_of (entity (drop i s)) → Stands s i p
  stands e = rw e (stands_by (entity (drop i s)) refl)
