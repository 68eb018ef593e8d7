-- The move that a step makes is right: what it leads to holds where the step does, and the move leads on.
use mathlib.Core.Path.{◌≡◌, refl, sym, ap, subst, ◌∙◌}
use mathlib.Core.Bool.{Bool, true, false, not, ◌&&◌, ◌||◌, cond}
use mathlib.Core.List.{List, [], ◌∷◌}
use Prim.Native.Nat.{ℕ, zero, suc, ◌+◌, ◌-◌, ◌*◌, ◌≤◌, ◌<◌}
use native.Mathlib.Numerals.{add-one}
use native.Mathlib.Omega.{arith}
use lib.Dec.{T, ltb, eqb, ltb→lt}
use lib.ListN.{length, get_or, drop, length-map}
use lib.Seq.{drop-cons, drop-length}
use borrow.Author.Tests.{eqb-true, eqb-false, not-true, not-false}
use Rattle.common.specs.Bytes.{Bytes}
use Rattle.common.proofs.Choice.{by_cond, by_test, absurd_test}
use Rattle.byte_regex.specs.Regex.{Class, in_class}
use Rattle.byte_regex.specs.Match.{Test, takes, repeats, if_end}
use Rattle.byte_regex.specs.Steps.{Step, take, repeat, fork, skip, first, last, done, steps_left, stays_among, stay_inside}
use Rattle.byte_regex.specs.Meaning.{ahead, mean, still, test_at, holds, step_of, steps_of, StepTable, blocked_of, free_move, move_of}
use Rattle.byte_regex.specs.declared.Move.{Move}
use Rattle.byte_regex.specs.declared.Move.TheVariants.{Pass, Fail, Go, Try}
use Rattle.byte_regex.proofs.MatchLaws.{and_left, and_right}
use Rattle.byte_regex.proofs.StepLaws.{later, step_holds, later_holds, inside_at, inside_table}

still_past : (n : ℕ) → (n ≡ 0 → ⊥) → still true n ≡ false
still_past zero h = absurd (h refl)
still_past (suc n) h = refl

or_false : (a b : Bool) → b ≡ false → (a || b) ≡ a
or_false true b e = refl
or_false false b e = e

-- what a run of moves has left: places, and at a place steps
abbrev pub left : Bytes → ℕ → ℕ → ℕ
left s i at = (length s - at) * 65537 + (65536 - i)

module _ (p : List Step) (s : Bytes) where
  -- the place moves on, or stays and the step moves on
  pub record Onward (i at j a : ℕ) : Type 0 where
    pub forward : i ≤ j
    pub inside : j < length p
    pub within : a ≤ length s
    pub falls : left s j a < left s i at

  -- what a move from step i at a place says
  unfoldable pub Right : ℕ → ℕ → Move → Type 0
  Right i at Pass = holds p i s at ≡ true
  Right i at Fail = holds p i s at ≡ false
  Right i at (Go j a) = Onward i at j a × (holds p i s at ≡ holds p j s a)
  Right i at (Try j a) = (i + 1 < length p) × Onward i at j a × (holds p i s at ≡ (holds p (i + 1) s at || holds p j s a))

module _ (s : Bytes) (at : ℕ) (h : at ≤ length s) where
  at_end : at ≡ length s → drop at s ≡ []
  at_end e = ap (λ (n : ℕ). drop n s) e ∙ drop-length s

  at_byte : at < length s → drop at s ≡ get_or s at 0 ∷ drop (at + 1) s
  at_byte l = drop-cons s at 0 l ∙ ap (λ (n : ℕ). get_or s at 0 ∷ drop n s) (sym (add-one at))

  before_end : eqb at (length s) ≡ false → at < length s
  before_end e = omega (arith, eqb-false at (length s) e)

  -- a test behind the byte at the place
  past_byte : (k : Test) → k false (drop (at + 1) s) ≡ test_at k s (at + 1)
  past_byte k = ap (λ (b : Bool). k b (drop (at + 1) s)) (sym (ap (still true) (add-one at)))

  -- ---- a blocked step fails
  blocked_fails : (step : Step) (ks : List Test) → blocked_of step s at ≡ true → test_at (mean step ks) s at ≡ false
  unfolding blocked_of
  blocked_fails (take c) ks e =
      by_test (eqb at (length s))
      (λ f. ap (takes c (ahead ks 0) (still true at)) (at_end (eqb-true at (length s) f)))
      (λ f.
      let n : in_class c (get_or s at 0) ≡ false = not-true (in_class c (get_or s at 0)) (sym (ap (λ (b : Bool). cond b true (not (in_class c (get_or s at 0)))) f) ∙ e) in
      ap (takes c (ahead ks 0) (still true at)) (at_byte (before_end f)) ∙ ap (λ (b : Bool). b && ahead ks 0 false (drop (at + 1) s)) n)
  blocked_fails (repeat c) ks e = absurd_test e refl
  blocked_fails (fork n) ks e = absurd_test e refl
  blocked_fails (skip n) ks e = absurd_test e refl
  blocked_fails first ks e =
      ap (λ (b : Bool). b && ahead ks 0 (still true at) (drop at s)) (still_past at (eqb-false at 0 (not-true (eqb at 0) e)))
  blocked_fails last ks e = ap (if_end (ahead ks 0) (still true at)) (at_byte (before_end (not-true (eqb at (length s)) e)))
  blocked_fails done ks e = absurd_test e refl

  -- ---- the move of a step that is not blocked
  module _ (p : List Step) (short : length p ≤ 65536) (i : ℕ) (l : i < length p) where
    behind : ℕ
    behind = steps_left (drop (suc i) p)

    next_inside : T (ltb 0 behind) → i + 1 < length p
    unfolding behind
    next_inside t = omega (arith, inside_table p i l 0 (ltb→lt 0 (steps_left (drop (suc i) p)) t))

    far_inside : (n : ℕ) → T (ltb n behind) → i + 1 + n < length p
    unfolding behind
    far_inside n t = inside_table p i l n (ltb→lt n (steps_left (drop (suc i) p)) t)

    next_is : (a : ℕ) → test_at (ahead (later p i) 0) s a ≡ holds p (i + 1) s a
    next_is a = later_holds p i 0 s a ∙ ap (λ (n : ℕ). holds p n s a) (omega arith)

    same_place : (j : ℕ) → i < j → j < length p → Onward p s i at j at
    same_place j m n = record { forward = omega arith; inside = n; within = h; falls = omega arith }

    next_place : (j : ℕ) → i ≤ j → j < length p → at < length s → Onward p s i at j (at + 1)
    next_place j f m n = record { forward = f; inside = m; within = omega arith; falls = omega arith }

    byte_left : (c : Class) → blocked_of (take c) s at ≡ false → (at < length s) × (in_class c (get_or s at 0) ≡ true)
    unfolding blocked_of
    byte_left c e =
        by_test (eqb at (length s))
        (λ f. absurd_test refl (sym (ap (λ (b : Bool). cond b true (not (in_class c (get_or s at 0)))) f) ∙ e))
        (λ f. (before_end f, not-false (in_class c (get_or s at 0)) (sym (ap (λ (b : Bool). cond b true (not (in_class c (get_or s at 0)))) f) ∙ e)))

    Means : Step → Type 0
    Means step = (a : ℕ) → holds p i s a ≡ test_at (mean step (later p i)) s a

    -- what is left of a repetition, at its end and at a byte
    repeat_end : (c : Class) → Means (repeat c) → at ≡ length s → holds p i s at ≡ holds p (i + 1) s at
    unfolding Means
    repeat_end c e f =
        e at ∙ subst (λ (t : Bytes). repeats c (ahead (later p i) 0) (still true at) t ≡ ahead (later p i) 0 (still true at) t) (sym (at_end f)) refl ∙ next_is at

    repeat_byte : (c : Class) → Means (repeat c) → at < length s → holds p i s at ≡ (holds p (i + 1) s at || (in_class c (get_or s at 0) && holds p i s (at + 1)))
    unfolding Means
    repeat_byte c e m =
        e at ∙ ap (repeats c (ahead (later p i) 0) (still true at)) (at_byte m)
        ∙ (λ z. ahead (later p i) 0 (still true at) (sym (at_byte m) z) || (in_class c (get_or s at 0) && (past_byte (repeats c (ahead (later p i) 0)) ∙ sym (e (at + 1))) z))
        ∙ ap (λ (b : Bool). b || (in_class c (get_or s at 0) && holds p i s (at + 1))) (next_is at)

    free_right : (step : Step) → Means step → T (stays_among behind step) → blocked_of step s at ≡ false → Right p s i at (free_move step (get_or p (i + 1) done) i s at)
    unfolding free_move Right Means blocked_of
    free_right (take c) e t f =
        let b = byte_left c f in (
          next_place (i + 1) (omega arith) (next_inside t) b.0,
          e at ∙ ap (takes c (ahead (later p i) 0) (still true at)) (at_byte b.0) ∙ ap (λ (q : Bool). q && ahead (later p i) 0 false (drop (at + 1) s)) b.1
              ∙ past_byte (ahead (later p i) 0) ∙ next_is (at + 1),
        )
    free_right (repeat c) e t f =
        by_cond (Right p s i at) (eqb at (length s))
        (λ q. (same_place (i + 1) (omega arith) (next_inside t), repeat_end c e (eqb-true at (length s) q)))
        (λ q. by_cond (Right p s i at) (in_class c (get_or s at 0))
        (λ b. (next_inside t, next_place i (omega arith) l (before_end q), repeat_byte c e (before_end q) ∙ ap (λ (v : Bool). holds p (i + 1) s at || (v && holds p i s (at + 1))) b))
        (λ b. (
          same_place (i + 1) (omega arith) (next_inside t),
          repeat_byte c e (before_end q) ∙ or_false (holds p (i + 1) s at) (in_class c (get_or s at 0) && holds p i s (at + 1)) (ap (λ (v : Bool). v && holds p i s (at + 1)) b),
        )))
    free_right (fork n) e t f =
        let near = next_inside (and_left (ltb 0 behind) (ltb n behind) t) in
        let far = same_place (i + 1 + n) (omega arith) (far_inside n (and_right (ltb 0 behind) (ltb n behind) t)) in
        let both : holds p i s at ≡ (holds p (i + 1) s at || holds p (i + 1 + n) s at) = e at ∙ (λ z. next_is at z || later_holds p i n s at z) in
        by_cond (Right p s i at) (blocked_of (get_or p (i + 1) done) s at)
        (λ q. (far, both ∙ ap (λ (b : Bool). b || holds p (i + 1 + n) s at) (step_holds p (i + 1) near s at ∙ blocked_fails (get_or p (i + 1) done) (later p (i + 1)) q)))
        (λ q. (near, far, both))
    free_right (skip n) e t f = (same_place (i + 1 + n) (omega arith) (far_inside n t), e at ∙ later_holds p i n s at)
    free_right first e t f = (
      same_place (i + 1) (omega arith) (next_inside t),
      e at ∙ ap (λ (b : Bool). b && ahead (later p i) 0 (still true at) (drop at s)) (ap (still true) (eqb-true at 0 (not-false (eqb at 0) f))) ∙ next_is at,
    )
    free_right last e t f = (
      same_place (i + 1) (omega arith) (next_inside t),
      e at ∙ subst (λ (u : Bytes). if_end (ahead (later p i) 0) (still true at) u ≡ ahead (later p i) 0 (still true at) u) (sym (at_end (eqb-true at (length s) (not-false (eqb at (length s)) f)))) refl ∙ next_is at,
    )
    free_right done e t f = e at

    pub move_right : T (stay_inside p) → Right p s i at (move_of (get_or p i done) (get_or p (i + 1) done) i s at)
    unfolding move_of behind Right Means
    move_right t =
        by_cond (Right p s i at) (blocked_of (get_or p i done) s at)
        (λ q. step_holds p i l s at ∙ blocked_fails (get_or p i done) (later p i) q)
        (λ q. free_right (get_or p i done) (step_holds p i l s) (inside_at p t i l) q)

-- ---- a run of moves
-- what holds at step i and this place is what holds at the first step, where the run began
pub record Running (p : List Step) (s : Bytes) (first from i at : ℕ) : Type 0 where
  pub forward : first ≤ i
  pub inside : i < length p
  pub within : at ≤ length s
  pub same : holds p first s from ≡ holds p i s at

pub run_start : (p : List Step) (s : Bytes) (first from : ℕ) → first < length p → from ≤ length s → Running p s first from first from
run_start p s i at h l = record { forward = omega arith; inside = h; within = l; same = refl }

pub table_long : (codes : List ℕ) → StepTable codes → length (steps_of codes) ≤ 65536
table_long codes t = subst (λ (n : ℕ). n ≤ 65536) (sym (length-map codes step_of)) t.short

module _ {codes : List ℕ} {s : Bytes} {first from i at : ℕ} where
  -- the move that was made
  pub moved : StepTable codes → Running (steps_of codes) s first from i at → {move made : Move} → move ≡ move_of (get_or (steps_of codes) i done) (get_or (steps_of codes) (i + 1) done) i s at → move ≡ made → Right (steps_of codes) s i at made
  moved t r m o = subst (Right (steps_of codes) s i at) (sym m ∙ o) (move_right s at r.within (steps_of codes) (table_long codes t) i r.inside t.inside)

module _ {p : List Step} {s : Bytes} {first from i at : ℕ} (r : Running p s first from i at) where
  pub run_pass : Right p s i at Pass → true ≡ holds p first s from
  unfolding Right
  run_pass e = sym (r.same ∙ e)

  pub run_fail : Right p s i at Fail → false ≡ holds p first s from
  unfolding Right
  run_fail e = sym (r.same ∙ e)

  module _ (j a : ℕ) where
    onward : Onward p s i at j a → holds p i s at ≡ holds p j s a → Running p s first from j a
    onward o e = record { forward = omega (arith, r.forward, o.forward); inside = o.inside; within = o.within; same = r.same ∙ e }

    pub run_go : Right p s i at (Go j a) → Running p s first from j a
    unfolding Right
    run_go e = onward e.0 e.1

    pub go_less : Right p s i at (Go j a) → left s j a < left s i at
    unfolding Right
    go_less e = e.0.falls

    module _ (e : Right p s i at (Try j a)) where
      pub try_inside : i + 1 < length p
      unfolding Right
      try_inside = e.0

      pub run_tried : true ≡ holds p (i + 1) s at → true ≡ holds p first s from
      unfolding Right
      run_tried t = sym (r.same ∙ e.2 ∙ ap (λ (b : Bool). b || holds p j s a) (sym t))

      pub run_try : false ≡ holds p (i + 1) s at → Running p s first from j a
      unfolding Right
      run_try t = onward e.1 (e.2 ∙ ap (λ (b : Bool). b || holds p j s a) (sym t))

      pub try_less : left s j a < left s i at
      unfolding Right
      try_less = e.1.falls
