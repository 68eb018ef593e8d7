-- A pattern that fits from a place on is in the masks of the bytes there.
use mathlib.Core.Path.{◌≡◌, refl, sym, ap, subst, ◌∙◌}
use mathlib.Core.Bool.{Bool, true, false, ◌&&◌}
use mathlib.Core.Logic.{inl, inr}
use mathlib.Core.List.{List, [], ◌∷◌, ◌++◌, map}
use Prim.Native.Nat.{ℕ, zero, suc, ◌+◌, ◌-◌, ◌*◌, ◌/◌, ◌%◌, ◌<◌}
use native.Mathlib.Omega.{arith}
use lib.Bits.{bit_and}
use lib.Dec.{T, leb, eqb}
use lib.ListN.{length, get_or, drop, length-drop, get_or-map}
use lib.Seq.{drop-cons}
use borrow.Author.Tests.{le-leb, lt-leb, eq-eqb, ne_eqb}
use Rattle.common.specs.Bytes.{Bytes}
use Rattle.byte_regex.specs.Regex.{Class, Regex, in_class, nothing, one, many, ◌then◌, ◌or◌, optional, at_start, at_end}
use Rattle.byte_regex.specs.Match.{Test, always, takes, repeats, fit}
use Rattle.byte_regex.specs.Meaning.{still}
use Rattle.byte_regex.proofs.MatchLaws.{and_left, and_right, or_left, or_right, or_cases}
use Rattle.patterns.specs.Patterns.{patterns, pattern}
use Rattle.patterns.specs.Candidates.{CanBegin, code_of, code_in_class, Known, some_byte, coded, may_be_in, Next, any_byte, one_of, can_be, Ahead, next_take, next_repeat, next_fit, next_of, mask_of, known_at, mask_row, group_at, MaskTable}
use Rattle.patterns.proofs.SetLaws.{bit_and_law, packed_bit}
use Rattle.patterns.proofs.ByteCodes.{class_code, code_lt}
use Rattle.patterns.proofs.Lengths.{patterns_long, short_begins}

-- ---- the byte behind known places
can_left : (ms ns : List Next) (a : ℕ) → T (can_be ms a) → T (can_be (ms ++ ns) a)
unfolding can_be
can_left [] ns a t = absurd t
can_left (any_byte ∷ ms) ns a t = tt
can_left (one_of c ∷ ms) ns a t =
    elim (or_cases (code_in_class c a) (can_be ms a) t) [
      | inl u ↦ or_left (code_in_class c a) (can_be (ms ++ ns) a) u
      | inr u ↦ or_right (code_in_class c a) (can_be (ms ++ ns) a) (can_left ms ns a u)
    ]

can_right : (ms ns : List Next) (a : ℕ) → T (can_be ns a) → T (can_be (ms ++ ns) a)
unfolding can_be
can_right [] ns a t = t
can_right (any_byte ∷ ms) ns a t = tt
can_right (one_of c ∷ ms) ns a t = or_right (code_in_class c a) (can_be (ms ++ ns) a) (can_right ms ns a t)

can_when : (b : Bool) (ns : List Next) (a : ℕ) → T b → T (can_be ns a) → T (can_be (elim b as (λ _. List Next) [ true ↦ ns | false ↦ [] ]) a)
can_when true ns a t u = u
can_when false ns a t u = absurd t

-- the text begins with bytes of which this is known, and behind them stands a byte of the code a
abbrev Behind : List Known → Bytes → ℕ → Type 0
Behind [] [] a = ⊥
Behind [] (x ∷ t) a = code_of x ≡ a
Behind (some_byte ∷ us) [] a = ⊥
Behind (some_byte ∷ us) (x ∷ t) a = Behind us t a
Behind (coded e ∷ us) [] a = ⊥
Behind (coded e ∷ us) (x ∷ t) a = (code_of x ≡ e) × Behind us t a

-- what a test asks of that byte
abbrev Foresees : Test → Ahead → Type 0
Foresees k l = (b : Bool) (us : List Known) (t : Bytes) (a : ℕ) → Behind us t a → T (k b t) → T (can_be (l b us) a)

first_in : (c : Class) (x a : ℕ) → code_of x ≡ a → T (in_class c x) → T (code_in_class c a)
first_in c x a e t = subst (λ (d : ℕ). T (code_in_class c d)) e (class_code c x t)

first_may : (c : Class) (u : Known) (us : List Known) (x : ℕ) (t : Bytes) (a : ℕ) → Behind (u ∷ us) (x ∷ t) a → T (in_class c x) → T (may_be_in c u) × Behind us t a
unfolding may_be_in
first_may c some_byte us x t a w p = (tt, w)
first_may c (coded e) us x t a w p = (first_in c x e w.0 p, w.1)

no_more : (u : Known) (us : List Known) (a : ℕ) → Behind (u ∷ us) [] a → ⊥
no_more some_byte us a w = w
no_more (coded e) us a w = w

take_foresees : (c : Class) (k : Test) (l : Ahead) → Foresees k l → Foresees (takes c k) (next_take c l)
unfolding can_be
take_foresees c k l f b us [] a w p = absurd p
take_foresees c k l f b [] (x ∷ t) a w p = or_left (code_in_class c a) false (first_in c x a w (and_left (in_class c x) (k false t) p))
take_foresees c k l f b (u ∷ us) (x ∷ t) a w p =
    let m = first_may c u us x t a w (and_left (in_class c x) (k false t) p) in
    can_when (may_be_in c u) (l false us) a m.0 (f false us t a m.1 (and_right (in_class c x) (k false t) p))

repeat_foresees : (c : Class) (k : Test) (l : Ahead) → Foresees k l → Foresees (repeats c k) (next_repeat c l)
unfolding can_be
repeat_foresees c k l f b [] [] a w p = absurd w
repeat_foresees c k l f b [] (x ∷ t) a w p =
    elim (or_cases (k b (x ∷ t)) (in_class c x && repeats c k false t) p) [
      | inl q ↦ or_right (code_in_class c a) (can_be (l b []) a) (f b [] (x ∷ t) a w q)
      | inr q ↦ or_left (code_in_class c a) (can_be (l b []) a) (first_in c x a w (and_left (in_class c x) (repeats c k false t) q))
    ]
repeat_foresees c k l f b (u ∷ us) [] a w p = absurd (no_more u us a w)
repeat_foresees c k l f b (u ∷ us) (x ∷ t) a w p =
    let later = elim (may_be_in c u) as (λ _. List Next) [ true ↦ next_repeat c l false us | false ↦ [] ] in
    elim (or_cases (k b (x ∷ t)) (in_class c x && repeats c k false t) p) [
      | inl q ↦ can_left (l b (u ∷ us)) later a (f b (u ∷ us) (x ∷ t) a w q)
      | inr q ↦
          let m = first_may c u us x t a w (and_left (in_class c x) (repeats c k false t) q) in
          can_right (l b (u ∷ us)) later a
          (can_when (may_be_in c u) (next_repeat c l false us) a m.0 (repeat_foresees c k l f false us t a m.1 (and_right (in_class c x) (repeats c k false t) q)))
    ]

not_end : (k : Test) (b : Bool) (us : List Known) (t : Bytes) (a : ℕ) → Behind us t a → T (fit at_end k b t) → ⊥
unfolding fit
not_end k b [] [] a w p = w
not_end k b (u ∷ us) [] a w p = no_more u us a w
not_end k b us (x ∷ t) a w p = p

fit_foresees : (r : Regex) (k : Test) (l : Ahead) → Foresees k l → Foresees (fit r k) (next_fit r l)
unfolding fit next_fit
fit_foresees nothing k l f b us t a w p = f b us t a w p
fit_foresees (one c) k l f b us t a w p = take_foresees c k l f b us t a w p
fit_foresees (many c) k l f b us t a w p = repeat_foresees c k l f b us t a w p
fit_foresees (r then s) k l f b us t a w p = fit_foresees r (fit s k) (next_fit s l) (fit_foresees s k l f) b us t a w p
fit_foresees (r or s) k l f b us t a w p =
    elim (or_cases (fit r k b t) (fit s k b t) p) [
      | inl q ↦ can_left (next_fit r l b us) (next_fit s l b us) a (fit_foresees r k l f b us t a w q)
      | inr q ↦ can_right (next_fit r l b us) (next_fit s l b us) a (fit_foresees s k l f b us t a w q)
    ]
fit_foresees (optional r) k l f b us t a w p =
    elim (or_cases (fit r k b t) (k b t) p) [
      | inl q ↦ can_left (next_fit r l b us) (l b us) a (fit_foresees r k l f b us t a w q)
      | inr q ↦ can_right (next_fit r l b us) (l b us) a (f b us t a w q)
    ]
fit_foresees at_start k l f true us t a w p = f true us t a w p
fit_foresees at_start k l f false us t a w p = absurd p
fit_foresees at_end k l f b us t a w p = absurd (not_end k b us t a w p)

-- ---- the masks
get_d_map_lt : {A B : Type 0} (f : A → B) (l : List A) (n : ℕ) (d : A) (e : B) → n < length l → get_or (map f l) n e ≡ f (get_or l n d)
get_d_map_lt f [] n d e h = absurd (omega arith)
get_d_map_lt f (x ∷ l) zero d e h = refl
get_d_map_lt f (x ∷ l) (suc n) d e h = get_d_map_lt f l n d e (omega arith)

row_begins : (b : Bool) (us : List Known) (t : Bytes) (a : ℕ) → Behind us t a → CanBegin b t (mask_of (map (next_of b us) patterns) a)
unfolding can_be
row_begins b us t a w p h q =
    let long : p < length patterns = omega (arith, patterns_long) in
    packed_bit (map (λ (ns : List Next). can_be ns a) (map (next_of b us) patterns)) p
    (rw (get_or-map (λ (ns : List Next). can_be ns a) (map (next_of b us) patterns) p [], get_d_map_lt (next_of b us) patterns p nothing [] long)
    (fit_foresees (pattern p) always (λ c v. any_byte ∷ []) (λ c v s z m n. tt) b us t a w q))

row_is : (i a : ℕ) (b f : Bool) → leb 64 i ≡ b → eqb (i / 32 % 2) 1 ≡ f → i % 32 ≡ a → mask_row i ≡ map (next_of b (known_at f a)) patterns
unfolding mask_row
row_is i a b f p q r = λ z. map (next_of (p z) (known_at (q z) (r z))) patterns

pub group_past : (at : ℕ) → (at ≡ 0 → ⊥) → group_at at ≡ 0
group_past zero h = absurd (h refl)
group_past (suc at) h = refl

near_row : (at a : ℕ) → a < 32 → mask_row (group_at at * 32 + a) ≡ map (next_of (still true at) (known_at false a)) patterns
near_row zero a h = row_is (2 * 32 + a) a true false (le-leb 64 (2 * 32 + a) (omega arith)) (ne_eqb ((2 * 32 + a) / 32 % 2) 1 (omega arith)) (omega arith)
near_row (suc at) a h = row_is (0 * 32 + a) a false false (lt-leb 64 (0 * 32 + a) (omega arith)) (ne_eqb ((0 * 32 + a) / 32 % 2) 1 (omega arith)) (omega arith)

far_row : (at a : ℕ) → a < 32 → mask_row ((group_at at + 1) * 32 + a) ≡ map (next_of (still true at) (known_at true a)) patterns
far_row zero a h = row_is (3 * 32 + a) a true true (le-leb 64 (3 * 32 + a) (omega arith)) (eq-eqb ((3 * 32 + a) / 32 % 2) 1 (omega arith)) (omega arith)
far_row (suc at) a h = row_is (1 * 32 + a) a false true (lt-leb 64 (1 * 32 + a) (omega arith)) (eq-eqb ((1 * 32 + a) / 32 % 2) 1 (omega arith)) (omega arith)

drop_two : (s : Bytes) (at : ℕ) → at + 1 < length s → drop at s ≡ get_or s at 0 ∷ get_or s (at + 1) 0 ∷ drop (at + 2) s
drop_two s at h =
    let e : suc at ≡ at + 1 = omega arith in
    let f : suc (at + 1) ≡ at + 2 = omega arith in
    drop-cons s at 0 (omega arith) ∙ ap (λ (n : ℕ). get_or s at 0 ∷ drop n s) e ∙ ap (λ (l : Bytes). get_or s at 0 ∷ l) (drop-cons s (at + 1) 0 h)
    ∙ ap (λ (n : ℕ). get_or s at 0 ∷ get_or s (at + 1) 0 ∷ drop n s) f

module _ (s : Bytes) (at : ℕ) where
  -- by the two bytes at the place
  pub near_begins : at + 1 < length s → CanBegin (still true at) (drop at s) (mask_of (mask_row (group_at at * 32 + code_of (get_or s at 0))) (code_of (get_or s (at + 1) 0)))
  near_begins h =
      let x = get_or s at 0 in
      let y = get_or s (at + 1) 0 in
      subst (λ (row : List (List Next)). CanBegin (still true at) (drop at s) (mask_of row (code_of y))) (sym (near_row at (code_of x) (code_lt x)))
      (subst (λ (t : Bytes). CanBegin (still true at) t (mask_of (map (next_of (still true at) (known_at false (code_of x))) patterns) (code_of y))) (sym (drop_two s at h))
      (row_begins (still true at) (known_at false (code_of x)) (x ∷ y ∷ drop (at + 2) s) (code_of y) (refl, refl)))

  -- by the two bytes behind those
  pub far_begins : at + 3 < length s → CanBegin (still true at) (drop at s) (mask_of (mask_row ((group_at at + 1) * 32 + code_of (get_or s (at + 2) 0))) (code_of (get_or s (at + 3) 0)))
  far_begins h =
      let x = get_or s (at + 2) 0 in
      let y = get_or s (at + 3) 0 in
      let e : at + 2 + 1 ≡ at + 3 = omega arith in
      let four : drop at s ≡ get_or s at 0 ∷ get_or s (at + 1) 0 ∷ x ∷ y ∷ drop (at + 2 + 2) s = drop_two s at (omega arith) ∙ ap (λ (t : Bytes). get_or s at 0 ∷ get_or s (at + 1) 0 ∷ t) (drop_two s (at + 2) (omega arith) ∙ ap (λ (n : ℕ). x ∷ get_or s n 0 ∷ drop (at + 2 + 2) s) e) in
      subst (λ (row : List (List Next)). CanBegin (still true at) (drop at s) (mask_of row (code_of y))) (sym (far_row at (code_of x) (code_lt x)))
      (subst (λ (t : Bytes). CanBegin (still true at) t (mask_of (map (next_of (still true at) (known_at true (code_of x))) patterns) (code_of y))) (sym four)
      (row_begins (still true at) (known_at true (code_of x)) (get_or s at 0 ∷ get_or s (at + 1) 0 ∷ x ∷ y ∷ drop (at + 2 + 2) s) (code_of y) (refl, refl)))

pub both_begin : (b : Bool) (t : Bytes) (m n : ℕ) → CanBegin b t m → CanBegin b t n → CanBegin b t (bit_and m n)
both_begin b t m n f g p h q = bit_and_law m n p (f p h q) (g p h q)

-- ---- the same, of masks that are read from the table
pub mask_read : (table : List ℕ) → MaskTable table → (group x y a c : ℕ) → group < 4 → a ≡ code_of x → c ≡ code_of y → get_or table (256 + ((group * 32 + a) * 32 + c)) 0 ≡ mask_of (mask_row (group * 32 + code_of x)) (code_of y)
mask_read table w group x y a c h e f =
    (λ z. get_or table (256 + ((group * 32 + e z) * 32 + f z)) 0)
    ∙ w.masks (group * 32 + code_of x) (code_of y) (omega (arith, code_lt x)) (code_lt y)

module _ (s : Bytes) (at : ℕ) where
  pub none_begins : (set : ℕ) → length s - at < 2 → CanBegin (still true at) (drop at s) set
  none_begins set h p l q = absurd (short_begins (still true at) (drop at s) (simp length-drop h) p l q)

  module _ (group x y mask : ℕ) (m : mask ≡ mask_of (mask_row (group * 32 + code_of x)) (code_of y)) where
    pub near_mask : group ≡ group_at at → x ≡ get_or s at 0 → y ≡ get_or s (at + 1) 0 → at + 1 < length s → CanBegin (still true at) (drop at s) mask
    near_mask e f g h = subst (CanBegin (still true at) (drop at s)) (sym (m ∙ (λ z. mask_of (mask_row (e z * 32 + code_of (f z))) (code_of (g z))))) (near_begins s at h)

    pub far_mask : group ≡ group_at at + 1 → x ≡ get_or s (at + 2) 0 → y ≡ get_or s (at + 3) 0 → at + 3 < length s → CanBegin (still true at) (drop at s) mask
    far_mask e f g h = subst (CanBegin (still true at) (drop at s)) (sym (m ∙ (λ z. mask_of (mask_row (e z * 32 + code_of (f z))) (code_of (g z))))) (far_begins s at h)
