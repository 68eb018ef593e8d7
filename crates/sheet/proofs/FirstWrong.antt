-- The first line that is not right, noted line after line.
use Rattle.std.specs.Prelude.{Option, None, Some, is_some}
use mathlib.Core.Path.{◌≡◌, refl, sym, ap, ◌∙◌}
use mathlib.Core.Bool.{Bool, true, false}
use Prim.Native.Nat.{ℕ, zero, suc, ◌+◌, ◌-◌, ◌≤◌, ◌<◌}
use native.Mathlib.Nat.{sub-zero}
use native.Mathlib.Omega.{arith}
use native.Mathlib.Numerals.{add-one}
use lib.Dec.{eqb}
use borrow.Author.Tests.{eqb-true, eqb-false}
use Rattle.common.proofs.Choice.{by_test, absurd_test}
use Rattle.sheet.specs.Notes.{note_of}
use Rattle.sheet.specs.Verdict.{first_wrong}

module _ (right : ℕ → Bool) (n i : ℕ) where
  first_at : i < n → first_wrong right i (n - i) ≡ first_wrong right i (suc (n - (i + 1)))
  first_at h = let e : n - i ≡ suc (n - (i + 1)) = omega arith in ap (first_wrong right i) e

  pub first_right : i < n → right i ≡ true → first_wrong right i (n - i) ≡ first_wrong right (i + 1) (n - (i + 1))
  first_right h e = first_at h ∙ rw (e, first_wrong, add-one)

  pub first_wrong_law : i < n → right i ≡ false → first_wrong right i (n - i) ≡ Some i
  first_wrong_law h e = first_at h ∙ rw (e, first_wrong)

  pub first_end : n ≤ i → first_wrong right i (n - i) ≡ None
  first_end h = let e : n - i ≡ 0 = omega arith in ap (first_wrong right i) e

some_none {ℓ} : {P : Type ℓ} {i : ℕ} → Some i ≡ None → P
some_none h = absurd (let z : ◌≡◌ {A = ℕ} 0 1 = cc in omega arith)

found_not : (j : ℕ) → Some j ≡ None → ⊥
found_not j h = let z : ◌≡◌ {A = ℕ} 0 1 = cc in omega arith

-- where none is wrong, all are right
all_from : (right : ℕ → Bool) (i n : ℕ) → first_wrong right i n ≡ None → (j : ℕ) → i ≤ j → j < i + n → right j ≡ true
all_from right i zero e j h k = absurd (omega arith)
all_from right i (suc n) e j h k =
    by_test (right i)
    (λ q. by_test (eqb i j) (λ p. ap right (sym (eqb-true i j p)) ∙ q) (λ p. all_from right (suc i) n (rw (q, first_wrong) at e) j (omega (arith, eqb-false i j p)) (omega arith)))
    (λ q. some_none (rw (q, first_wrong) at e))

pub all_right : (right : ℕ → Bool) (n : ℕ) → first_wrong right 0 n ≡ None → (j : ℕ) → j < n → right j ≡ true
all_right right n e j h = all_from right 0 n e j (omega arith) (omega arith)

-- and where all are right, none is wrong
none_from : (right : ℕ → Bool) (i n : ℕ) → ((j : ℕ) → i ≤ j → j < i + n → right j ≡ true) → first_wrong right i n ≡ None
none_from right i zero f = refl
none_from right i (suc n) f = rw (f i (omega arith) (omega arith), first_wrong) (none_from right (suc i) n (λ j h k. f j (omega arith) (omega arith)))

pub none_wrong : (right : ℕ → Bool) (n : ℕ) → ((j : ℕ) → j < n → right j ≡ true) → first_wrong right 0 n ≡ None
none_wrong right n f = none_from right 0 n (λ j h k. f j (omega arith))

-- ---- notes: what is noted, or else what is left, is what the whole gives

abbrev or_else : Option ℕ → Option ℕ → Option ℕ
or_else (Some j) rest = Some j
or_else None rest = rest

pub record Noting (right : ℕ → Bool) (n i : ℕ) (f : Option ℕ) : Type 0 where
  pub left : or_else f (first_wrong right i (n - i)) ≡ first_wrong right 0 n
  pub clean : f ≡ None → (j : ℕ) → j < i → right j ≡ true

noted_last : (right : ℕ → Bool) (n : ℕ) (f : Option ℕ) (i : ℕ) → n ≤ i → or_else f (first_wrong right i (n - i)) ≡ first_wrong right 0 n → f ≡ first_wrong right 0 n
noted_last right n (Some j) i h p = p
noted_last right n None i h p = sym (first_end right n i h) ∙ p

module _ {right : ℕ → Bool} {n : ℕ} where
  pub noting_start : Noting right n 0 None
  noting_start = record { left = rw sub-zero; clean = λ e j h. absurd (omega arith) }

  more : (f : Option ℕ) (b : Bool) (i : ℕ) → i < n → (f ≡ None → b ≡ right i) → Noting right n i f → Noting right n (i + 1) (note_of f b i)
  more (Some j) b i h e p = record { left = p.left; clean = λ q. absurd (found_not j q) }
  more None true i h e p =
      record {
        left = sym (first_right right n i h (sym (e refl))) ∙ p.left;
        clean = λ q j k. by_test (eqb j i) (λ u. ap right (eqb-true j i u) ∙ sym (e refl)) (λ u. p.clean refl j (omega (arith, eqb-false j i u)));
      }
  more None false i h e p =
      record { left = sym (first_wrong_law right n i h (sym (e refl))) ∙ p.left; clean = λ q. absurd (found_not i q) }

  pub noting_more : {f : Option ℕ} {b : Bool} {i : ℕ} → i < n → (f ≡ None → b ≡ right i) → Noting right n i f → Noting right n (i + 1) (note_of f b i)
  noting_more {f} {b} {i} h e p = more f b i h e p

  pub noting_end : {f : Option ℕ} {i : ℕ} → n ≤ i → Noting right n i f → f ≡ first_wrong right 0 n
  noting_end {f} {i} h p = noted_last right n f i h p.left

-- what is noted first
pub note_new : (f : Option ℕ) (b : Bool) (i : ℕ) → b ≡ false → is_some f ≡ false → Some i ≡ note_of f b i
note_new None b i e q = rw e
note_new (Some j) b i e q = absurd_test refl q

-- a note by what the test is
pub noted_as : (f : Option ℕ) (i : ℕ) {k : Option ℕ} {a b : Bool} → k ≡ note_of f a i → a ≡ b → k ≡ note_of f b i
noted_as f i e q = e ∙ ap (λ (x : Bool). note_of f x i) q

-- ---- what is found

first_below : (right : ℕ → Bool) (i n j : ℕ) → first_wrong right i n ≡ Some j → j < i + n
first_below right i zero j e = some_none (sym e)
first_below right i (suc n) j e =
    by_test (right i) (λ q. omega (arith, first_below right (suc i) n j (rw (q, first_wrong) at e))) (λ q. let z = some_same (rw (q, first_wrong) at e) in omega arith)
  where
    some_same : ◌≡◌ {A = Option ℕ} (Some i) (Some j) → i ≡ j
    some_same h = cc

pub found_below : (right : ℕ → Bool) (n : ℕ) {j : ℕ} → first_wrong right 0 n ≡ Some j → j < n
found_below right n {j} e = omega (arith, first_below right 0 n j e)
