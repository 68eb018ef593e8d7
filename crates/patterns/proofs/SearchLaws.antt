-- Loops over the places of a text: what is left to search answers for the whole.
use mathlib.Core.Path.{◌≡◌, refl, sym, ap, subst, ◌∙◌}
use mathlib.Core.Bool.{Bool, true, false, ◌||◌}
use mathlib.Core.Logic.{◌⊎◌, inl, inr}
use mathlib.Core.List.{[], ◌∷◌}
use Prim.Native.Nat.{ℕ, suc, ◌+◌, ◌≤◌, ◌<◌}
use native.Mathlib.Numerals.{add-one}
use native.Mathlib.Omega.{arith}
use lib.Bits.{bit_or}
use lib.Dec.{T, lit<}
use lib.ListN.{length, drop, drop_of_length-le}
use lib.Seq.{drop-cons}
use Rattle.common.specs.Bytes.{Bytes}
use Rattle.byte_regex.specs.Match.{Test, always, fit, anywhere, finds}
use Rattle.byte_regex.specs.Steps.{start_of}
use Rattle.byte_regex.specs.Meaning.{still, test_at, holds}
use Rattle.byte_regex.proofs.MatchLaws.{or_cases}
use Rattle.patterns.specs.Patterns.{pattern_count, patterns, pattern}
use Rattle.patterns.specs.Match.{matches_of}
use Rattle.patterns.specs.Steps.{all_steps}
use Rattle.patterns.specs.Candidates.{bit, Candidates, CanBegin}
use Rattle.patterns.proofs.SetLaws.{bit_or_left, bit_or_right}
use Rattle.patterns.proofs.Lengths.{short_begins}
use Rattle.patterns.proofs.StartLaws.{start_holds}

no_T : (b : Bool) → (T b → ⊥) → b ≡ false
no_T true h = absurd (h tt)
no_T false h = refl

here_anywhere : (k : Test) (b : Bool) (t : Bytes) → k b t ≡ true → anywhere k b t ≡ true
here_anywhere k b [] e = e
here_anywhere k b (x ∷ t) e = ap (λ (q : Bool). q || anywhere k false t) e

-- ---- one pattern
module _ (p : ℕ) (h : p < pattern_count) where
  -- found from a place on
  abbrev ahead_of : Bytes → ℕ → Bool
  ahead_of s at = test_at (anywhere (fit (pattern p) always)) s at

  none_empty : (b : Bool) → fit (pattern p) always b [] ≡ false
  none_empty b = no_T (fit (pattern p) always b []) (short_begins b [] (lit< tt) p h)

  ahead_start : (s : Bytes) → matches_of p s ≡ ahead_of s 0
  unfolding matches_of finds
  ahead_start [] = sym (none_empty true)
  ahead_start (x ∷ s) = refl

  module _ (s : Bytes) (at : ℕ) where
    ahead_here : at < length s → ahead_of s at ≡ (test_at (fit (pattern p) always) s at || ahead_of s (at + 1))
    ahead_here l =
        let k = fit (pattern p) always in
        ap (anywhere k (still true at)) (drop-cons s at 0 l)
        ∙ (λ z. k (still true at) (sym (drop-cons s at 0 l) z) || anywhere k false (drop (suc at) s))
        ∙ ap (λ (n : ℕ). k (still true at) (drop at s) || anywhere k (still true n) (drop n s)) (sym (add-one at))

    ahead_end : length s ≤ at → ahead_of s at ≡ false
    ahead_end l =
        ap (anywhere (fit (pattern p) always) (still true at)) (drop_of_length-le s l) ∙ none_empty (still true at)

-- what is left to search is the answer
pub record Searching (p : ℕ) (s : Bytes) (at : ℕ) : Type 0 where
  pub within : at ≤ length s
  pub same : matches_of p s ≡ test_at (anywhere (fit (pattern p) always)) s at

module _ (p : ℕ) (h : p < pattern_count) (s : Bytes) where
  pub search_start : Searching p s 0
  search_start = record { within = omega arith; same = ahead_start p h s }

  module _ (at : ℕ) (w : Searching p s at) (b : Bool) (e : b ≡ holds all_steps (start_of patterns p) s at) where
    pub search_yes : b ≡ true → true ≡ matches_of p s
    search_yes q = sym (w.same ∙ here_anywhere (fit (pattern p) always) (still true at) (drop at s) (sym (start_holds p h s at) ∙ sym e ∙ q))

    pub search_more : at < length s → b ≡ false → Searching p s (at + 1)
    search_more l q =
        record {
          within = omega arith;
          same = w.same ∙ ahead_here p h s at l ∙ ap (λ (v : Bool). v || test_at (anywhere (fit (pattern p) always)) s (at + 1)) (sym (start_holds p h s at) ∙ sym e ∙ q);
        }

  pub search_end : (at : ℕ) → Searching p s at → length s ≤ at → false ≡ matches_of p s
  search_end at w l = sym (w.same ∙ ahead_end p h s at l)

-- ---- all patterns: those found so far are in the set
pub record Collecting (s : Bytes) (set at : ℕ) : Type 0 where
  pub within : at ≤ length s
  pub rest : (p : ℕ) → p < pattern_count → T (matches_of p s) → T (bit set p) ⊎ T (test_at (anywhere (fit (pattern p) always)) s at)

module _ (s : Bytes) where
  pub collect_start : Collecting s 0 0
  collect_start = record { within = omega arith; rest = λ p h t. inr (subst T (ahead_start p h s) t) }

  pub collect_more : (set at more : ℕ) → Collecting s set at → at < length s → CanBegin (still true at) (drop at s) more → Collecting s (bit_or set more) (at + 1)
  collect_more set at more w l f = record { within = omega arith; rest = λ p h t. go p h (w.rest p h t) }
    where
      go : (p : ℕ) → p < pattern_count → T (bit set p) ⊎ T (test_at (anywhere (fit (pattern p) always)) s at) → T (bit (bit_or set more) p) ⊎ T (test_at (anywhere (fit (pattern p) always)) s (at + 1))
      go p h (inl q) = inl (bit_or_left set more p q)
      go p h (inr q) =
          elim (or_cases (test_at (fit (pattern p) always) s at) (test_at (anywhere (fit (pattern p) always)) s (at + 1)) (subst T (ahead_here p h s at l) q)) [
            | inl u ↦ inl (bit_or_right set more p (f p h u))
            | inr u ↦ inr u
          ]

  pub collect_end : (set at : ℕ) → Collecting s set at → length s ≤ at → Candidates set s
  collect_end set at w l p h t = elim (w.rest p h t) [ inl q ↦ q | inr q ↦ absurd (subst T (ahead_end p h s at l) q) ]

-- ---- with a set at hand
pub not_candidate : (set p : ℕ) (s : Bytes) → p < pattern_count → Candidates set s → bit set p ≡ false → false ≡ matches_of p s
not_candidate set p s h f e = sym (no_T (matches_of p s) (λ t. subst T e (f p h t)))

pub cannot_begin : (set p : ℕ) (s : Bytes) (at : ℕ) → p < pattern_count → CanBegin (still true at) (drop at s) set → bit set p ≡ false → false ≡ holds all_steps (start_of patterns p) s at
cannot_begin set p s at h f e = sym (start_holds p h s at ∙ no_T (test_at (fit (pattern p) always) s at) (λ t. subst T e (f p h t)))
