-- A piece of a text that is another piece, and one that is empty.
use mathlib.Core.Path.{◌≡◌, refl, sym, subst}
use mathlib.Core.Bool.{Bool}
use mathlib.Core.List.{[], ◌++◌}
use Prim.Native.Nat.{ℕ, ◌+◌}
use native.Mathlib.Omega.{arith}
use Rattle.common.specs.Bytes.{Bytes}
use Rattle.options.specs.declared.Formatting.{Formatting}
use Rattle.serializer.specs.Progress.{ShowReady, Shows}
use Rattle.serializer.specs.declared.Progress.{Progress}
use Rattle.serializer.proofs.ShowingLaws.{shows_none, shows_then, show_first, show_next, ready_less}

module _ {f : Formatting} {bullets write : Bool} {p : Progress} {out s : Bytes} {n : ℕ} where
  module _ {t : Bytes} {m : ℕ} (e : s ≡ t) (k : n ≡ m) where
    pub show_same : ShowReady f bullets write p out s n → ShowReady f bullets write p out t m
    show_same r = subst (λ (x : ℕ). ShowReady f bullets write p out t x) k (subst (λ (x : Bytes). ShowReady f bullets write p out x n) e r)

    pub shows_same : {q : Progress} {out' : Bytes} → Shows f bullets write p out q out' t m → Shows f bullets write p out q out' s n
    shows_same {q} {out'} d = subst (λ (x : ℕ). Shows f bullets write p out q out' s x) (sym k) (subst (λ (x : Bytes). Shows f bullets write p out q out' x m) (sym e) d)

  -- of a function that is ready to show it, and shows nothing
  pub shows_nothing : s ≡ [] → n ≡ 0 → ShowReady f bullets write p out s n → Shows f bullets write p out p out s n
  shows_nothing e k r = shows_same e k (shows_none r.below)

-- ---- a text between two others, of which n bytes are read

module _ {f : Formatting} {bullets write : Bool} {p : Progress} {out : Bytes} (a b c : Bytes) (n : ℕ) (r : ShowReady f bullets write p out (a ++ (b ++ c)) n) where
  whole : ShowReady f bullets write p out (a ++ (b ++ c)) (0 + (n + 0))
  whole = show_same refl (omega arith) r

  pub between_first : ShowReady f bullets write p out a 0
  between_first = show_first a (b ++ c) 0 (n + 0) whole

  module _ {q : Progress} {out₁ : Bytes} (d : Shows f bullets write p out q out₁ a 0) where
    pub between_text : ShowReady f bullets write q out₁ b 0
    between_text = ready_less n (show_first b c n 0 (show_next d whole))

    module _ {q₂ : Progress} {out₂ : Bytes} {m : ℕ} (k : m ≡ n) (e : Shows f bullets write q out₁ q₂ out₂ b m) where
      shown : Shows f bullets write q out₁ q₂ out₂ b n
      shown = shows_same refl (sym k) e

      pub between_last : ShowReady f bullets write q₂ out₂ c 0
      between_last = show_next shown (show_next d whole)

      pub between_shows : {q₃ : Progress} {out₃ : Bytes} → Shows f bullets write q₂ out₂ q₃ out₃ c 0 → Shows f bullets write p out q₃ out₃ (a ++ (b ++ c)) n
      between_shows g = shows_same refl (omega arith) (shows_then d (shows_then shown g))
