-- `finds` answers yes exactly where the bytes are not empty and some run of them fits.
use mathlib.Core.Path.{◌≡◌, refl, sym, ap, subst}
use mathlib.Core.Bool.{Bool, true, false, ◌&&◌, ◌||◌}
use mathlib.Core.Logic.{◌⊎◌, inl, inr}
use mathlib.Core.List.{[], ◌∷◌}
use Prim.Native.Nat.{ℕ, zero, suc, ◌≤◌, ◌<◌, zero-le, suc-le-suc}
use native.Mathlib.Nat.{le_of_suc-le-suc, not-suc-le-zero}
use native.Mathlib.Omega.{arith}
use lib.Dec.{T}
use lib.ListN.{length, get_or, drop}
use lib.Seq.{drop-cons, drop-length}
use Rattle.common.specs.Bytes.{Bytes}
use Rattle.byte_regex.specs.Regex.{Class, Regex, in_class, Fits, Found, nothing, one, many, ◌then◌, ◌or◌, optional, at_start, at_end, fit_nothing, fit_one, fit_none, fit_more, fit_then, fit_left, fit_right, fit_absent, fit_present, fit_start, fit_end}
use Rattle.byte_regex.specs.Match.{Test, always, takes, repeats, if_end, fit, anywhere, nonempty, finds, FindsExactly}
use Rattle.byte_regex.specs.Meaning.{still}

-- ---- tests that are joined
pub and_left : (a b : Bool) → T (a && b) → T a
and_left true b t = tt
and_left false b t = t

pub and_right : (a b : Bool) → T (a && b) → T b
and_right true b t = t
and_right false b t = absurd t

pub and_both : (a b : Bool) → T a → T b → T (a && b)
and_both true b p q = q
and_both false b p q = p

pub or_left : (a b : Bool) → T a → T (a || b)
or_left true b p = tt
or_left false b p = absurd p

pub or_right : (a b : Bool) → T b → T (a || b)
or_right true b p = tt
or_right false b p = p

pub or_cases : (a b : Bool) → T (a || b) → T a ⊎ T b
or_cases true b p = inl tt
or_cases false b p = inr p

-- what is left at i begins with x
record Next (s : Bytes) (i x : ℕ) (t : Bytes) : Type 0 where
  pub inside : i < length s
  pub byte : get_or s i 0 ≡ x
  pub rest : drop (suc i) s ≡ t

next : (s : Bytes) (i x : ℕ) (t : Bytes) → drop i s ≡ x ∷ t → Next s i x t
next [] zero x t e = let z : ◌≡◌ {A = ℕ} 0 1 = cc in absurd (omega arith)
next [] (suc i) x t e = let z : ◌≡◌ {A = ℕ} 0 1 = cc in absurd (omega arith)
next (y ∷ s) zero x t e = record { inside = suc-le-suc zero-le; byte = cc; rest = cc }
next (y ∷ s) (suc i) x t e = let n = next s i x t e in record { inside = suc-le-suc n.inside; byte = n.byte; rest = n.rest }

drop_end : (s : Bytes) (i : ℕ) → i ≤ length s → drop i s ≡ [] → i ≡ length s
drop_end [] zero h e = refl
drop_end [] (suc i) h e = absurd (not-suc-le-zero h)
drop_end (y ∷ s) zero h e = let z : ◌≡◌ {A = ℕ} 0 1 = cc in absurd (omega arith)
drop_end (y ∷ s) (suc i) h e = ap suc (drop_end s i (le_of_suc-le-suc h) e)

repeats_stop : (c : Class) (k : Test) (b : Bool) (t : Bytes) → T (k b t) → T (repeats c k b t)
repeats_stop c k b [] p = p
repeats_stop c k b (x ∷ t) p = or_left (k b (x ∷ t)) (in_class c x && repeats c k false t) p

module _ (s : Bytes) where
  -- a run from i fits, and behind it k passes
  record Reached (r : Regex) (k : Test) (i : ℕ) : Type 0 where
    pub to : ℕ
    pub within : to ≤ length s
    pub fits : Fits s r i to
    pub passes : T (k (still true to) (drop to s))

  repeats_sound : (c : Class) (k : Test) (t : Bytes) (i : ℕ) → i ≤ length s → drop i s ≡ t → T (repeats c k (still true i) t) → Reached (many c) k i
  repeats_sound c k [] i h e p = record { to = i; within = h; fits = fit_none; passes = subst (λ (l : Bytes). T (k (still true i) l)) (sym e) p }
  repeats_sound c k (x ∷ t) i h e p =
      go (next s i x t e) (λ n. repeats_sound c k t (suc i) n.inside n.rest)
      (or_cases (k (still true i) (x ∷ t)) (in_class c x && repeats c k false t) p)
    where
      go : (n : Next s i x t) → ((n : Next s i x t) → T (repeats c k false t) → Reached (many c) k (suc i))
          → T (k (still true i) (x ∷ t)) ⊎ T (in_class c x && repeats c k false t) → Reached (many c) k i
      go n later (inl q) = record { to = i; within = h; fits = fit_none; passes = subst (λ (l : Bytes). T (k (still true i) l)) (sym e) q }
      go n later (inr q) =
          let u = later n (and_right (in_class c x) (repeats c k false t) q) in
          record {
            to = u.to;
            within = u.within;
            fits = fit_more n.inside (subst (λ (y : ℕ). T (in_class c y)) (sym n.byte) (and_left (in_class c x) (repeats c k false t) q)) u.fits;
            passes = u.passes;
          }

  sound : (r : Regex) (k : Test) (i : ℕ) (t : Bytes) → i ≤ length s → drop i s ≡ t → T (fit r k (still true i) t) → Reached r k i
  unfolding fit
  sound nothing k i t h e p = record { to = i; within = h; fits = fit_nothing; passes = subst (λ (l : Bytes). T (k (still true i) l)) (sym e) p }
  sound (one c) k i [] h e p = absurd p
  sound (one c) k i (x ∷ t) h e p =
      let n = next s i x t e in
      record {
        to = suc i;
        within = n.inside;
        fits = fit_one n.inside (subst (λ (y : ℕ). T (in_class c y)) (sym n.byte) (and_left (in_class c x) (k false t) p));
        passes = subst (λ (l : Bytes). T (k false l)) (sym n.rest) (and_right (in_class c x) (k false t) p);
      }
  sound (many c) k i t h e p = repeats_sound c k t i h e p
  sound (a then b) k i t h e p =
      let u = sound a (fit b k) i t h e p in
      let v = sound b k u.to (drop u.to s) u.within refl u.passes in
      record { to = v.to; within = v.within; fits = fit_then u.fits v.fits; passes = v.passes }
  sound (a or b) k i t h e p =
      elim (or_cases (fit a k (still true i) t) (fit b k (still true i) t) p) [
        | inl q ↦ (let u = sound a k i t h e q in record { to = u.to; within = u.within; fits = fit_left u.fits; passes = u.passes })
        | inr q ↦ (let u = sound b k i t h e q in record { to = u.to; within = u.within; fits = fit_right u.fits; passes = u.passes })
      ]
  sound (optional a) k i t h e p =
      elim (or_cases (fit a k (still true i) t) (k (still true i) t) p) [
        | inl q ↦ (let u = sound a k i t h e q in record { to = u.to; within = u.within; fits = fit_present u.fits; passes = u.passes })
        | inr q ↦ record { to = i; within = h; fits = fit_absent; passes = subst (λ (l : Bytes). T (k (still true i) l)) (sym e) q }
      ]
  sound at_start k zero t h e p = record { to = zero; within = h; fits = fit_start; passes = subst (λ (l : Bytes). T (k true l)) (sym e) p }
  sound at_start k (suc i) t h e p = absurd p
  sound at_end k i [] h e p =
      let q = drop_end s i h e in
      record {
        to = i;
        within = h;
        fits = subst (λ (n : ℕ). Fits s at_end n n) (sym q) fit_end;
        passes = subst (λ (l : Bytes). T (k (still true i) l)) (sym e) p;
      }
  sound at_end k i (x ∷ t) h e p = absurd p

  complete : {r : Regex} {i j : ℕ} → Fits s r i j → (k : Test) → T (k (still true j) (drop j s)) → T (fit r k (still true i) (drop i s))
  unfolding fit
  complete fit_nothing k p = p
  complete (fit_one {c} {i} l q) k p =
      subst (λ (t : Bytes). T (takes c k (still true i) t)) (sym (drop-cons s i 0 l)) (and_both (in_class c (get_or s i 0)) (k false (drop (suc i) s)) q p)
  complete (fit_none {c} {i}) k p = repeats_stop c k (still true i) (drop i s) p
  complete (fit_more {c} {i} l q f) k p =
      subst (λ (t : Bytes). T (repeats c k (still true i) t)) (sym (drop-cons s i 0 l))
      (or_right (k (still true i) (get_or s i 0 ∷ drop (suc i) s)) (in_class c (get_or s i 0) && repeats c k false (drop (suc i) s))
      (and_both (in_class c (get_or s i 0)) (repeats c k false (drop (suc i) s)) q (complete f k p)))
  complete (fit_then {b = b} f g) k p = complete f (fit b k) (complete g k p)
  complete (fit_left {a = a} {b = b} {i = i} f) k p = or_left (fit a k (still true i) (drop i s)) (fit b k (still true i) (drop i s)) (complete f k p)
  complete (fit_right {a = a} {b = b} {i = i} f) k p = or_right (fit a k (still true i) (drop i s)) (fit b k (still true i) (drop i s)) (complete f k p)
  complete (fit_absent {a} {i}) k p = or_right (fit a k (still true i) (drop i s)) (k (still true i) (drop i s)) p
  complete (fit_present {a} {i} f) k p = or_left (fit a k (still true i) (drop i s)) (k (still true i) (drop i s)) (complete f k p)
  complete fit_start k p = p
  complete fit_end k p =
      subst (λ (t : Bytes). T (if_end k (still true (length s)) t)) (sym (drop-length s))
      (subst (λ (t : Bytes). T (k (still true (length s)) t)) (drop-length s) p)

  -- k passes at some place
  record Somewhere (k : Test) : Type 0 where
    pub place : ℕ
    pub inside : place ≤ length s
    pub passes : T (k (still true place) (drop place s))

  anywhere_sound : (k : Test) (t : Bytes) (i : ℕ) → i ≤ length s → drop i s ≡ t → T (anywhere k (still true i) t) → Somewhere k
  anywhere_sound k [] i h e p = record { place = i; inside = h; passes = subst (λ (l : Bytes). T (k (still true i) l)) (sym e) p }
  anywhere_sound k (x ∷ t) i h e p =
      let n = next s i x t e in
      elim (or_cases (k (still true i) (x ∷ t)) (anywhere k false t) p) [
        | inl q ↦ record { place = i; inside = h; passes = subst (λ (l : Bytes). T (k (still true i) l)) (sym e) q }
        | inr q ↦ anywhere_sound k t (suc i) n.inside n.rest q
      ]

anywhere_complete : (k : Test) (b : Bool) (t : Bytes) (n : ℕ) → n ≤ length t → T (k (still b n) (drop n t)) → T (anywhere k b t)
anywhere_complete k b [] zero h p = p
anywhere_complete k b [] (suc n) h p = absurd (not-suc-le-zero h)
anywhere_complete k b (x ∷ t) zero h p = or_left (k b (x ∷ t)) (anywhere k false t) p
anywhere_complete k b (x ∷ t) (suc n) h p = or_right (k b (x ∷ t)) (anywhere k false t) (anywhere_complete k false t n (le_of_suc-le-suc h) (flat n p))
  where
    flat : (m : ℕ) → T (k false (drop m t)) → T (k (still false m) (drop m t))
    flat zero q = q
    flat (suc m) q = q

-- ---- the law
nonempty_some : (s : Bytes) → T (nonempty s) → s ≡ [] → ⊥
nonempty_some [] t e = t
nonempty_some (x ∷ s) t e = let z : ◌≡◌ {A = ℕ} 0 1 = cc in omega arith

some_nonempty : (s : Bytes) → (s ≡ [] → ⊥) → T (nonempty s)
some_nonempty [] h = h refl
some_nonempty (x ∷ s) h = tt

found : (r : Regex) (s : Bytes) → T (finds r s) → (s ≡ [] → ⊥) × Found r s
unfolding finds
found r s p =
    let w = anywhere_sound s (fit r always) s 0 zero-le refl (and_right (nonempty s) (anywhere (fit r always) true s) p) in
    let u = sound s r always w.place (drop w.place s) w.inside refl w.passes in
    (nonempty_some s (and_left (nonempty s) (anywhere (fit r always) true s) p), record { from = w.place; to = u.to; within = w.inside; fits = u.fits })

finding : (r : Regex) (s : Bytes) → (s ≡ [] → ⊥) → Found r s → T (finds r s)
unfolding finds
finding r s h f =
    and_both (nonempty s) (anywhere (fit r always) true s) (some_nonempty s h)
    (anywhere_complete (fit r always) true s f.from f.within (complete s f.fits always tt))

pub finds_exactly : FindsExactly
finds_exactly r s = (found r s, λ h. finding r s h.0 h.1)
