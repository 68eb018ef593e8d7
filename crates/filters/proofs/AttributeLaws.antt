-- The attributes that the filters ask for: their numbers, and the slots that one pass fills.
use Rattle.std.specs.Prelude.{Option, None, Some}
use mathlib.Core.Path.{◌≡◌, refl, sym, ap, ◌∙◌}
use mathlib.Core.Bool.{Bool, true, false, ◌||◌, not, cond}
use mathlib.Core.List.{List, [], ◌∷◌}
use Prim.Native.Nat.{ℕ, zero, suc, ◌+◌, ◌-◌, ◌≤◌, ◌<◌}
use native.Mathlib.Omega.{arith}
use lib.Dec.{eqb}
use lib.ListN.{get_or, set, length, replicate, length-set}
use lib.Seq.{get_or-set_same, get_or-set_other}
use borrow.Author.Tests.{eq-eqb, eqb-true, eqb-false}
use Rattle.common.specs.Bytes.{Bytes, codes, same}
use Rattle.common.proofs.Choice.{by_test, absurd_test}
use Rattle.common.proofs.Equality.{same_true, same_of, same_not}
use Rattle.common.proofs.Every.{every_at}
use Rattle.sheet.specs.Accepted.{Accepted}
use Rattle.sheet.specs.Layout.{attribute_at, range}
use Rattle.sheet.specs.declared.line.Attribute.{Attribute}
use Rattle.sheet.specs.declared.line.Layout.{Layout}
use Rattle.tags.specs.Words.{words, first_word, other_words, one_of, number_from}
use Rattle.tags.proofs.WordLaws.{each, each_at, no_number, number_below, number_word, one_word}
use Rattle.tree.specs.Attributes.{name_at, find_of, value_in, attributes_from}
use Rattle.tree.specs.Node.{attribute}
use Rattle.tree.proofs.AttributeLines.{find_is}
use Rattle.tree.specs.declared.attributes.Span.{Span}
use Rattle.filters.specs.Gathered.{attribute_names, name_count, slot_count, attribute_number, SlotsOf, Gathered}

-- ---- the number of a name

pub number_at : (s w : Bytes) {k : ℕ} → same s w ≡ true → k ≡ attribute_number w → k ≡ attribute_number s
number_at s w t e = e ∙ ap attribute_number (sym (same_true s w t))

-- each of the names that has this length is in the list
abbrev pub of_length : (ℕ → Bool) → List Bytes → Bool
of_length range ws = each (λ w. not (range (length w)) || one_of w ws) attribute_names

pub number_none : (range : ℕ → Bool) (ws : List Bytes) → of_length range ws ≡ true → (s : Bytes) → range (length s) ≡ true → one_of s ws ≡ false → 0 ≡ attribute_number s
unfolding attribute_number
number_none range ws t s r e =
    sym (no_number 1 s attribute_names (by_test (one_of s attribute_names)
    (λ k. absurd_test (rw r at (each_at (λ w. not (range (length w)) || one_of w ws) attribute_names t s k)) e)
    (λ k. k)))

pub number_if : (n : ℕ) (w : Bytes) {k : ℕ} → of_length (eqb n) (w ∷ []) ≡ true → k ≡ attribute_number w → (s : Bytes) → length s ≡ n → {r : ℕ} → r ≡ cond (same s w) k 0 → r ≡ attribute_number s
number_if n w t e s h q =
    q ∙ by_test (same s w)
    (λ p. rw p (number_at s w p e))
    (λ p. rw p (number_none (eqb n) (w ∷ []) t s (eq-eqb n (length s) (sym h)) (one_word s w ∙ p)))

pub number_small : (s : Bytes) {k : ℕ} → k ≡ attribute_number s → k < slot_count
unfolding attribute_number attribute_names words first_word other_words codes
number_small s e = rw e (number_below 1 s attribute_names (omega arith))

number_is : (s : Bytes) (k : ℕ) → attribute_number s ≡ suc k → s ≡ get_or attribute_names k []
unfolding attribute_number
number_is s k e = number_word 1 s attribute_names k (omega arith) (e ∙ omega arith)

distinct : (k : ℕ) → k < name_count → attribute_number (get_or attribute_names k []) ≡ suc k
unfolding attribute_number attribute_names words first_word other_words codes number_from same
distinct k h = eqb-true _ _ (every_at (λ n. eqb (attribute_number (get_or attribute_names n [])) (suc n)) 0 name_count refl k (omega arith) (omega arith))

-- ---- the slots

none_at : (n k : ℕ) → ◌≡◌ {A = Option Span} (get_or (replicate n None) k None) None
none_at zero k = refl
none_at (suc n) zero = refl
none_at (suc n) (suc k) = none_at n k

module _ (s : Bytes) (l : Layout) where
  slots_none : (j : ℕ) {slots : List (Option Span)} → slots ≡ replicate slot_count None → SlotsOf s l j 0 slots
  unfolding find_of
  slots_none j p = record {
    size = ap length p;
    found = λ k h. ap (λ (t : List (Option Span)). get_or t (suc k) None) p ∙ none_at slot_count (suc k);
    inside = λ k. rw (ap (λ (t : List (Option Span)). get_or t k None) p ∙ none_at slot_count k) tt;
  }

  pub slots_start : (from count : ℕ) {slots : List (Option Span)} → slots ≡ replicate slot_count None → SlotsOf s l (from + count) (count - count) slots
  slots_start from count p = let z : count - count ≡ 0 = omega arith in rw z (slots_none (from + count) p)

  module _ {j n : ℕ} {slots : List (Option Span)} (w : SlotsOf s l (suc j) n slots) {a : Attribute} (a_is : a ≡ attribute_at s l j) (fits : a.value_at + a.value_len ≤ l.pool)
      {k : ℕ} (k_is : k ≡ attribute_number (name_at s l j)) where
    small : k < slot_count
    small = number_small (name_at s l j) k_is

    abbrev this : Option Span
    this = Some (record { at = a.value_at; len = a.value_len })

    stored : (m : ℕ) → m ≡ k → get_or (set slots k this) m None ≡ this
    stored m e = ap (λ (i : ℕ). get_or (set slots k this) i None) e ∙ get_or-set_same slots k this None (omega (arith, w.size, small))

    found_here : (m : ℕ) → suc m ≡ k → this ≡ find_of s l (get_or attribute_names m []) j (suc n)
    unfolding find_of
    found_here m e =
        let named : same (name_at s l j) (get_or attribute_names m []) ≡ true = same_of _ _ (number_is (name_at s l j) m (sym k_is ∙ sym e)) in
        rw (named, find_of, a_is)

    found_next : (m : ℕ) → m < name_count → (suc m ≡ k → ⊥) → find_of s l (get_or attribute_names m []) (suc j) n ≡ find_of s l (get_or attribute_names m []) j (suc n)
    unfolding find_of
    found_next m h e =
        let other : same (name_at s l j) (get_or attribute_names m []) ≡ false = same_not _ _ (λ q. e (sym (distinct m h) ∙ ap attribute_number (sym q) ∙ sym k_is)) in
        rw (other, find_of)

    pub slots_more : SlotsOf s l j (suc n) (set slots k this)
    slots_more = record {
      size = length-set slots k _ ∙ w.size;
      found = λ m h. by_test (eqb (suc m) k)
          (λ t. let e = eqb-true (suc m) k t in stored (suc m) e ∙ found_here m e)
          (λ t. let e = eqb-false (suc m) k t in get_or-set_other slots k (suc m) _ None e ∙ w.found m h ∙ found_next m h e);
      inside = λ m. by_test (eqb m k)
          (λ t. rw (stored m (eqb-true m k t)) fits)
          (λ t. rw (get_or-set_other slots k m this None (eqb-false m k t)) (w.inside m));
    }

  pub slots_step : (from count n : ℕ) {slots : List (Option Span)} → 0 < n → n ≤ count → SlotsOf s l (from + n) (count - n) slots
      → {a : Attribute} → a ≡ attribute_at s l (from + (n - 1)) → a.value_at + a.value_len ≤ l.pool → {k : ℕ} → k ≡ attribute_number (name_at s l (from + (n - 1)))
      → SlotsOf s l (from + (n - 1)) (count - (n - 1)) (set slots k (Some (record { at = a.value_at; len = a.value_len })))
  slots_step from count n h g w a_is fits k_is =
      let p : from + n ≡ suc (from + (n - 1)) = omega arith in
      let q : count - (n - 1) ≡ suc (count - n) = omega arith in
      rw q (slots_more (rw p at w) a_is fits k_is)

  pub slots_end : (from count n : ℕ) {slots : List (Option Span)} → n ≤ 0 → SlotsOf s l (from + n) (count - n) slots → SlotsOf s l from count slots
  slots_end from count n h w =
      let p : from + n ≡ from = omega arith in
      let q : count - n ≡ count = omega arith in
      rw (p, q) at w

  -- ---- as the tests use them
  module _ {from count : ℕ} {slots : List (Option Span)} (w : SlotsOf s l from count slots) where
    holds : (k : ℕ) → k < name_count → value_in s l (get_or slots (suc k) None) ≡ attribute (attributes_from s l from count) (get_or attribute_names k [])
    holds k h = ap (value_in s l) (w.found k h) ∙ find_is s l (get_or attribute_names k []) from count

    pub slots_gathered : Gathered s l (attributes_from s l from count) slots
    unfolding attribute_names words first_word other_words codes
    slots_gathered = record {
      hidden = holds 0 (omega arith);
      rel = holds 1 (omega arith);
      itemprop = holds 2 (omega arith);
      aria_hidden = holds 3 (omega arith);
      aria_expanded = holds 4 (omega arith);
      class = holds 5 (omega arith);
      id = holds 6 (omega arith);
      style = holds 7 (omega arith);
      role = holds 8 (omega arith);
      data_ad = holds 9 (omega arith);
      data_advertisement = holds 10 (omega arith);
      data_text_ad = holds 11 (omega arith);
    }

  pub value_fits : {a : Attribute} → Accepted s l → (j : ℕ) → j < l.attributes → a ≡ attribute_at s l j → a.value_at + a.value_len ≤ l.pool
  value_fits w j h e = rw e (w.attribute_value j h).inside

  pub number_of_part : (j : ℕ) {k : ℕ} {a : Attribute} {name : Bytes} → a ≡ attribute_at s l j → name ≡ range s l a.name_at a.name_len → k ≡ attribute_number name → k ≡ attribute_number (name_at s l j)
  number_of_part j a_is name_is e = e ∙ rw (name_is, a_is)
