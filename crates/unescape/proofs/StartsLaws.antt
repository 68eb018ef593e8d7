-- A word at the start of a text, and the names that may stand there.
use Rattle.std.proofs.lemmas.Option.{none-some, same_Some}
use Rattle.std.specs.Prelude.{Some}
use mathlib.Core.Path.{◌≡◌, refl, sym, ap, ◌∙◌}
use mathlib.Core.Bool.{Bool, true, false}
use mathlib.Core.List.{List, [], ◌∷◌, ◌++◌}
use Prim.Native.Nat.{ℕ, ◌-◌, ◌<◌}
use native.Mathlib.Omega.{arith}
use lib.Dec.{eqb}
use lib.ListN.{length, take, drop}
use lib.Pointwise.{pointwise}
use borrow.Author.Tests.{eq-eqb, ne_eqb, eqb-true, eqb-false}
use Rattle.common.specs.Bytes.{Bytes, codes}
use Rattle.common.specs.Lanes.{Each}
use Rattle.common.proofs.Choice.{by_test, absurd_test}
use Rattle.common.proofs.Parts.{part_from}
use Rattle.text.specs.Text.{escaped}
use Rattle.unescape.specs.Inner.{part_of}
use Rattle.unescape.specs.Unescape.{ampersand, named, starts_with, entity_among, entity}

-- as the library's `starts_with` answers it of the part from `at` on
starts_pairs : (word s : Bytes) → pointwise eqb word (take (length word) s) ≡ starts_with word s
unfolding starts_with
starts_pairs [] s = refl
starts_pairs (c ∷ word) [] = refl
starts_pairs (c ∷ word) (d ∷ s) =
    by_test (eqb d c)
    (λ e. rw (eq-eqb c d (sym (eqb-true d c e)), e, starts_with) (starts_pairs word s))
    (λ e. rw (ne_eqb c d (λ q. eqb-false d c e (sym q)), e, starts_with))

pub starts_from : (s : Bytes) (at : ℕ) (word : Bytes)
    → pointwise eqb word (take (length word) (take (length s - at) (drop at s))) ≡ starts_with word (drop at s)
starts_from s at word = rw (part_from s at) (starts_pairs word (drop at s))

pub starts_split : (word s : Bytes) → starts_with word s ≡ true → s ≡ word ++ drop (length word) s
unfolding starts_with
starts_split [] s e = refl
starts_split (c ∷ word) [] e = absurd_test e refl
starts_split (c ∷ word) (d ∷ s) e =
    by_test (eqb d c)
    (λ t. rw (eqb-true d c t) (ap (λ (r : Bytes). c ∷ r) (starts_split word s (rw (t, starts_with) at e))))
    (λ t. absurd_test (rw (t, starts_with) at e) refl)

-- ---- the names

-- the text starts with the name that is found, and what holds of each character that is looked for holds of the one that is found
pub among_starts : (Q : ℕ → Type 0) (characters : List ℕ) → Each Q characters → (s : Bytes) (c : ℕ) → entity_among characters s ≡ Some c
    → (starts_with (escaped c) s ≡ true) × Q c
unfolding entity_among
among_starts Q [] q s c e = absurd (none-some c e)
among_starts Q (d ∷ characters) q s c e =
    by_test (starts_with (escaped d) s)
    (λ t. let i = same_Some d c (rw (t, entity_among) at e) in (rw (← i) t, rw (← i) q.0))
    (λ t. among_starts Q characters q.1 s c (rw (t, entity_among) at e))

named_long : Each (λ c. 1 < length (escaped c)) named
unfolding escaped codes
named_long = (omega arith, (omega arith, (omega arith, (omega arith, tt))))

pub entity_split : (s : Bytes) (c : ℕ) → entity s ≡ Some c → (s ≡ escaped c ++ drop (length (escaped c)) s) × (1 < length (escaped c))
entity_split s c e = let p = among_starts (λ c. 1 < length (escaped c)) named named_long s c e in (starts_split (escaped c) s p.0, p.1)

-- the names one after the other, as the code asks for them
module _ (s : Bytes) {a : Bool} (amp : a ≡ starts_with (codes "&amp;") s) where
  pub part_ampersand : a ≡ true → record { character = ampersand; len = 5 } ≡ part_of (entity s)
  unfolding entity_among escaped codes
  part_ampersand e = rw (sym amp ∙ e, entity_among)

  module _ (no_amp : a ≡ false) {q : Bool} (quot : q ≡ starts_with (codes "&quot;") s) where
    pub part_quote : q ≡ true → record { character = 0x22; len = 6 } ≡ part_of (entity s)
    unfolding entity_among escaped codes
    part_quote e = rw (sym amp ∙ no_amp, sym quot ∙ e, entity_among)

    module _ (no_quot : q ≡ false) {l : Bool} (lt : l ≡ starts_with (codes "&lt;") s) where
      pub part_less : l ≡ true → record { character = 0x3c; len = 4 } ≡ part_of (entity s)
      unfolding entity_among escaped codes
      part_less e = rw (sym amp ∙ no_amp, sym quot ∙ no_quot, sym lt ∙ e, entity_among)

      module _ (no_lt : l ≡ false) {g : Bool} (gt : g ≡ starts_with (codes "&gt;") s) where
        pub part_greater : g ≡ true → record { character = 0x3e; len = 4 } ≡ part_of (entity s)
        unfolding entity_among escaped codes
        part_greater e = rw (sym amp ∙ no_amp, sym quot ∙ no_quot, sym lt ∙ no_lt, sym gt ∙ e, entity_among)

        pub part_itself : g ≡ false → record { character = ampersand; len = 1 } ≡ part_of (entity s)
        unfolding entity_among escaped codes
        part_itself no_gt = rw (sym amp ∙ no_amp, sym quot ∙ no_quot, sym lt ∙ no_lt, sym gt ∙ no_gt, entity_among)
