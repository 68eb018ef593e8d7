-- `trim_start` may go before `collapse_whitespace`: the five blanks are of White_Space, and no byte of its other characters is one of them.
use mathlib.Core.Path.{◌≡◌, refl, sym, ap, ◌∙◌}
use mathlib.Core.Bool.{Bool, true, false}
use mathlib.Core.List.{[], ◌∷◌, ◌++◌}
use Prim.Native.Nat.{ℕ, zero, suc, ◌<◌}
use native.Mathlib.Omega.{arith}
use lib.ListN.{get_or, drop}
use Rattle.common.specs.Bytes.{Bytes}
use Rattle.common.proofs.Choice.{by_test, absurd_test}
use Rattle.text.specs.Text.{is_ascii_whitespace, squeezed, collapse_from, collapse_by}
use Rattle.visible_text.specs.WhiteSpace.{is_white1, white_two, white_three, white_second, white_length, trim_from, trim_start}
use Rattle.visible_text.proofs.BlankLaws.{five_each, five_small}
use Rattle.visible_text.proofs.WhiteLaws.{trim_none, trim_step, Small, ascii_second, ascii_third}

abbrev five : ℕ → Bool
five = is_ascii_whitespace

abbrev squeeze : Bool → Bytes → Bytes
squeeze = collapse_from is_ascii_whitespace

squeeze_other : (space : Bool) (a : ℕ) (s : Bytes) → five a ≡ false → squeeze space (a ∷ s) ≡ a ∷ squeeze false s
unfolding collapse_from
squeeze_other space a s e = rw e

squeeze_blank : (a : ℕ) (s : Bytes) → five a ≡ true → squeeze false (a ∷ s) ≡ 0x20 ∷ squeeze true s
unfolding collapse_from
squeeze_blank a s e = rw e

squeeze_more : (a : ℕ) (s : Bytes) → five a ≡ true → squeeze true (a ∷ s) ≡ squeeze true s
unfolding collapse_from
squeeze_more a s e = rw e

-- ---- small bytes

small_of : (s : Bytes) → ((i : ℕ) → get_or s i 0 < 256) → Small s
small_of [] h = tt
small_of (c ∷ s) h = (h 0, small_of s (λ i. h (suc i)))

small_squeeze : (space : Bool) (s : Bytes) → Small s → Small (squeeze space s)
unfolding collapse_from
small_squeeze space [] k = tt
small_squeeze space (c ∷ s) k = go (five c) space (small_squeeze (five c) s k.1)
  where
    go : (b space : Bool) → Small (squeeze b s) → Small (squeezed b space c ++ squeeze b s)
    go true true h = h
    go true false h = (omega arith, h)
    go false space h = (k.0, h)

-- ---- by what stands in front

abbrev Swaps : Bool → Bytes → Type 0
Swaps space s = trim_start (squeeze space s) ≡ squeeze false (trim_start s)

module _ (space : Bool) (a : ℕ) where
  -- White_Space of one byte, be it a blank or not
  swaps_one : (s : Bytes) → is_white1 a ≡ true → ((space : Bool) → Swaps space s) → Swaps space (a ∷ s)
  unfolding white_length
  swaps_one s w ih = by_test (five a) (blank space) other ∙ sym (ap (squeeze false) (trim_step (a ∷ s) 1 (rw w)))
    where
      blank : (space : Bool) → five a ≡ true → trim_start (squeeze space (a ∷ s)) ≡ squeeze false (trim_start s)
      blank true f = rw (squeeze_more a s f) (ih true)
      blank false f = rw (squeeze_blank a s f) (trim_step (0x20 ∷ squeeze true s) 1 refl ∙ ih true)

      other : five a ≡ false → trim_start (squeeze space (a ∷ s)) ≡ squeeze false (trim_start s)
      other f = rw (squeeze_other space a s f) (trim_step (a ∷ squeeze false s) 1 (rw w) ∙ ih false)

  module _ (f : five a ≡ false) (w : is_white1 a ≡ false) where
    -- none
    swaps_none : (s : Bytes) → white_second a s ≡ 0 → white_second a (squeeze false s) ≡ 0 → Swaps space (a ∷ s)
    unfolding white_length
    swaps_none s e g =
        rw (squeeze_other space a s f) (trim_none (a ∷ squeeze false s) (rw w g))
        ∙ sym (ap (squeeze false) (trim_none (a ∷ s) (rw w e)) ∙ squeeze_other false a s f)

    -- n bytes behind the first one
    swaps_more : (s : Bytes) (n : ℕ) → white_second a s ≡ suc n → white_second a (squeeze false s) ≡ suc n
        → drop n (squeeze false s) ≡ squeeze false (drop n s) → Swaps false (drop n s) → Swaps space (a ∷ s)
    unfolding white_length
    swaps_more s n e g rest ih =
        rw (squeeze_other space a s f) (trim_step (a ∷ squeeze false s) (suc n) (rw w g))
        ∙ ap trim_start rest
        ∙ ih
        ∙ sym (ap (squeeze false) (trim_step (a ∷ s) (suc n) (rw w e)))

    module _ (b : ℕ) (g : five b ≡ false) where
      swaps_third : (s : Bytes) → white_two a b ≡ false → ((n : ℕ) → Swaps false (drop n s)) → Swaps space (a ∷ b ∷ s)
      unfolding collapse_from
      swaps_third [] e ih = swaps_none (b ∷ []) (rw e) (rw (squeeze_other false b [] g, e))
      swaps_third (c ∷ s) e ih =
          let two = squeeze_other false b (c ∷ s) g in
          by_test (five c)
          (λ i.
          let low = ascii_third a b c (omega (arith, five_small c i)) in
          swaps_none (b ∷ c ∷ s) (rw (e, low)) (rw (two, squeeze_blank c s i, e, ascii_third a b 0x20 (omega arith))))
          (λ i.
          let three = squeeze_other false c s i in
          by_test (white_three a b c)
          (λ t. swaps_more (b ∷ c ∷ s) 2 (rw (e, t)) (rw (two, three, e, t)) (rw (two, three)) (ih 1))
          (λ t. swaps_none (b ∷ c ∷ s) (rw (e, t)) (rw (two, three, e, t))))

    swaps_second : (s : Bytes) → Small s → ((n : ℕ) → Swaps false (drop n s)) → Swaps space (a ∷ s)
    unfolding collapse_from
    swaps_second [] k ih = swaps_none [] refl refl
    swaps_second (b ∷ s) k ih =
        by_test (five b)
        (λ g.
        swaps_none (b ∷ s) (ascii_second a b s (omega (arith, five_small b g)) k.1)
        (rw (squeeze_blank b s g) (ascii_second a 0x20 (squeeze true s) (omega arith) (small_squeeze true s k.1))))
        (λ g.
        let two = squeeze_other false b s g in
        by_test (white_two a b)
        (λ e. swaps_more (b ∷ s) 1 (rw e) (rw (two, e)) (rw two) (ih 1))
        (λ e. swaps_third b g s e (λ n. ih (suc n))))

-- ---- any text

five_one : (a : ℕ) → five a ≡ true → is_white1 a ≡ true
five_one = five_each (λ a. is_white1 a ≡ true) refl refl refl refl refl

-- from any place on
swaps : (s : Bytes) → Small s → (n : ℕ) (space : Bool) → Swaps space (drop n s)
unfolding collapse_from trim_from
swaps [] k zero space = refl
swaps [] k (suc n) space = refl
swaps (a ∷ s) k (suc n) space = swaps s k.1 n space
swaps (a ∷ s) k zero space =
    by_test (is_white1 a)
    (λ w. swaps_one space a s w (swaps s k.1 0))
    (λ w.
    let f = by_test (five a) (λ e. absurd_test (five_one a e) w) (λ e. e) in
    swaps_second space a f w s k.1 (λ n. swaps s k.1 n false))

pub trim_collapse : (s : Bytes) → ((i : ℕ) → get_or s i 0 < 256)
    → trim_start (collapse_by is_ascii_whitespace s) ≡ collapse_by is_ascii_whitespace (trim_start s)
unfolding collapse_by
trim_collapse s h = swaps s (small_of s h) 0 false
