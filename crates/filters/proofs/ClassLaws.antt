-- Patterns that are asked one after another.
use mathlib.Core.Path.{◌≡◌, refl, sym, ap, ◌∙◌}
use mathlib.Core.Bool.{true, false}
use mathlib.Core.List.{List, [], ◌∷◌, map}
use Prim.Native.Nat.{ℕ, ◌+◌, ◌≤◌, ◌<◌}
use native.Mathlib.Numerals.{add-one}
use lib.ListN.{get_or, drop, length, drop_of_length-le}
use lib.Seq.{drop-cons}
use Rattle.common.specs.Bytes.{Bytes}
use Rattle.patterns.specs.Match.{matches_of}
use Rattle.patterns.specs.Numbers.{number_of}
use Rattle.patterns.specs.declared.Pattern.{Pattern}
use Rattle.filters.specs.Classes.{any_match}
use Rattle.common.proofs.TestLaws.{or_yes, or_no}

any_yes : (p : ℕ) (ps : List ℕ) (s : Bytes) → matches_of p s ≡ true → true ≡ any_match (p ∷ ps) s
unfolding any_match
any_yes p [] s e = sym e
any_yes p (q ∷ ps) s e = or_yes _ e

any_no : (p : ℕ) (ps : List ℕ) (s : Bytes) → matches_of p s ≡ false → any_match ps s ≡ any_match (p ∷ ps) s
unfolding any_match
any_no p [] s e = sym e
any_no p (q ∷ ps) s e = or_no _ e refl

module _ (wanted : List Pattern) (s : Bytes) where
  -- what is said of all is said of those from k on
  abbrev pub Asking : ℕ → Type 0
  Asking k = any_match (map number_of (drop k wanted)) s ≡ any_match (map number_of wanted) s

  module _ (k : ℕ) (d : Pattern) (h : k < length wanted) (w : Asking k) where
    left_is : drop k wanted ≡ get_or wanted k d ∷ drop (k + 1) wanted
    left_is = rw add-one (drop-cons wanted k d h)

    pub asking_found : matches_of (number_of (get_or wanted k d)) s ≡ true → true ≡ any_match (map number_of wanted) s
    asking_found e =
        any_yes (number_of (get_or wanted k d)) (map number_of (drop (k + 1) wanted)) s e ∙ ap (λ (l : List Pattern). any_match (map number_of l) s) (sym left_is) ∙ w

    pub asking_more : matches_of (number_of (get_or wanted k d)) s ≡ false → Asking (k + 1)
    asking_more e =
        any_no (number_of (get_or wanted k d)) (map number_of (drop (k + 1) wanted)) s e ∙ ap (λ (l : List Pattern). any_match (map number_of l) s) (sym left_is) ∙ w

  pub asking_end : (k : ℕ) → length wanted ≤ k → Asking k → false ≡ any_match (map number_of wanted) s
  unfolding any_match
  asking_end k h w = ap (λ (l : List Pattern). any_match (map number_of l) s) (sym (drop_of_length-le wanted {i = k} h)) ∙ w
