-- A test that is computed at each word of a list holds of every byte string that is one of them.
use mathlib.Core.Path.{◌≡◌, refl, sym, ◌∙◌}
use mathlib.Core.Bool.{Bool, true, false, ◌&&◌, ◌||◌, beq}
use mathlib.Core.List.{List, [], ◌∷◌}
use Prim.Native.Nat.{ℕ, zero, suc, ◌+◌, ◌≤◌, ◌<◌}
use native.Mathlib.Omega.{arith}
use lib.ListN.{get_or, length}
use Rattle.common.specs.Bytes.{Bytes, same}
use Rattle.common.proofs.Choice.{by_test, absurd_test, and_parts}
use Rattle.common.proofs.Equality.{same_true}
use Rattle.tags.specs.Words.{one_of, number_from}

-- the test passes at each word
abbrev pub each : (Bytes → Bool) → List Bytes → Bool
each test [] = true
each test (w ∷ ws) = test w && each test ws

pub each_at : (test : Bytes → Bool) (ws : List Bytes) → each test ws ≡ true → (s : Bytes) → one_of s ws ≡ true → test s ≡ true
unfolding one_of
each_at test [] t s h = absurd_test h refl
each_at test (w ∷ ws) t s h =
    let p = and_parts (test w) (each test ws) t in
    by_test (same s w)
    (λ e. rw (same_true s w e) p.0)
    (λ e. each_at test ws p.1 s (rw (e, one_of) at h))

-- a byte string that is none of the words has no number
pub no_number : (n : ℕ) (s : Bytes) (ws : List Bytes) → one_of s ws ≡ false → number_from n s ws ≡ 0
unfolding one_of number_from
no_number n s [] h = refl
no_number n s (w ∷ ws) h =
    by_test (same s w)
    (λ e. absurd_test (rw (e, one_of)) h)
    (λ e. rw (e, number_from) (no_number (n + 1) s ws (rw (e, one_of) at h)))

-- a number lies between the first and the last, and says the word
pub number_below : (n : ℕ) (s : Bytes) (ws : List Bytes) → 0 < n → number_from n s ws < n + length ws
unfolding number_from
number_below n s [] h = omega arith
number_below n s (w ∷ ws) h =
    by_test (same s w)
    (λ e. rw (e, number_from) (omega arith))
    (λ e. rw (e, number_from) (omega (arith, number_below (n + 1) s ws (omega arith))))

number_above : (n : ℕ) (s : Bytes) (ws : List Bytes) → 0 < number_from n s ws → n ≤ number_from n s ws
unfolding number_from
number_above n s [] h = absurd (omega arith)
number_above n s (w ∷ ws) h =
    by_test (same s w)
    (λ e. rw (e, number_from) (omega arith))
    (λ e. rw (e, number_from) (omega (arith, number_above (n + 1) s ws (rw (e, number_from) at h))))

pub number_word : (n : ℕ) (s : Bytes) (ws : List Bytes) (k : ℕ) → 0 < n → number_from n s ws ≡ n + k → s ≡ get_or ws k []
unfolding number_from
number_word n s [] k h e = absurd (omega arith)
number_word n s (w ∷ ws) zero h e =
    by_test (same s w)
    (λ t. same_true s w t)
    (λ t. let q : number_from (n + 1) s ws ≡ n + 0 = rw (t, number_from) at e in absurd (omega (arith, number_above (n + 1) s ws (omega arith))))
number_word n s (w ∷ ws) (suc k) h e =
    by_test (same s w)
    (λ t. let q : n ≡ n + suc k = rw (t, number_from) at e in absurd (omega arith))
    (λ t. let q : number_from (n + 1) s ws ≡ n + suc k = rw (t, number_from) at e in number_word (n + 1) s ws k (omega arith) (omega arith))

pub none_of : (s w : Bytes) (ws : List Bytes) → same s w ≡ false → one_of s ws ≡ false → one_of s (w ∷ ws) ≡ false
unfolding one_of
none_of s w ws e h = rw (e, one_of) h

pub none_of_none : (s : Bytes) → one_of s [] ≡ false
unfolding one_of
none_of_none s = refl

pub one_of_cons : (s w : Bytes) (ws : List Bytes) → one_of s (w ∷ ws) ≡ (same s w || one_of s ws)
unfolding one_of
one_of_cons s w ws = by_test (same s w) (λ e. rw (e, one_of)) (λ e. rw (e, one_of))

-- one word is a list of one word
pub one_word : (s w : Bytes) → one_of s (w ∷ []) ≡ same s w
unfolding one_of
one_word s w = by_test (same s w) (λ e. rw (e, one_of)) (λ e. rw (e, one_of))

pub beq_true : (a b : Bool) → beq a b ≡ true → a ≡ b
beq_true true true e = refl
beq_true false false e = refl
beq_true true false e = absurd_test e refl
beq_true false true e = absurd_test e refl

-- Whether a byte string is one of the words ws, by another test that says no to all but the words of `known`:
-- the two agree on those, and ws has no other.
pub by_words : (ws known : List Bytes) (test : Bytes → Bool)
    → each (λ w. beq (test w) (one_of w ws)) known ≡ true
    → each (λ w. one_of w known) ws ≡ true
    → ((s : Bytes) → one_of s known ≡ false → test s ≡ false)
    → (s : Bytes) → test s ≡ one_of s ws
by_words ws known test agree inside other s =
    by_test (one_of s known)
    (λ e. beq_true (test s) (one_of s ws) (each_at (λ w. beq (test w) (one_of w ws)) known agree s e))
    (λ e. other s e ∙ sym (by_test (one_of s ws) (λ h. absurd_test (each_at (λ w. one_of w known) ws inside s h) e) (λ h. h)))
