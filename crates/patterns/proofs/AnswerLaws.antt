-- The entry point's answers, each with its numbers.
use mathlib.Core.Path.{◌≡◌, sym, ap, subst, ◌∙◌}
use mathlib.Core.Bool.{Bool}
use Prim.Native.Nat.{ℕ, ◌≤◌, ◌<◌}
use native.Mathlib.Omega.{arith}
use lib.Dec.{ltb}
use borrow.Author.Tests.{lt-ltb, le-ltb}
use Rattle.std.specs.Prelude.{Result, Ok, Err, IsErrAnd}
use Rattle.common.specs.Answer.{refused}
use Rattle.common.specs.Bytes.{Bytes}
use Rattle.common.specs.Refusals.{no_pattern}
use Rattle.common.proofs.Choice.{chosen, other}
use Rattle.patterns.specs.Match.{matches_of}
use Rattle.patterns.specs.Answers.{said, numbers, answer_of, matched}
use Rattle.patterns.specs.Patterns.{last_pattern}
use Rattle.patterns.specs.declared.NoPattern.{NoPattern}

-- r is the answer, and so are its numbers
abbrev pub Answers : Result Bool NoPattern → ℕ → Bytes → Type 0
Answers r p s = (r ≡ matched p s) × (numbers r ≡ answer_of p s)

-- the error that `?` hands on
pub error_is : (r : Result Bool NoPattern) (e : NoPattern) → IsErrAnd r (λ y. y ≡ e) → r ≡ Err e
error_is (Ok b) e h = absurd h
error_is (Err y) e h = ap Err h

module _ (p : ℕ) (s : Bytes) where
  pub answer_none : {r : Result Bool NoPattern} {e : NoPattern} → r ≡ Err e → e.0 ≡ p → last_pattern < p → Answers r p s
  answer_none {r} {e} q n h =
      subst (λ (a : Result Bool NoPattern). Answers a p s) (sym q)
      (subst (λ (k : ℕ). (Err e ≡ matched k s) × (refused no_pattern e.0 ≡ answer_of k s)) n
      (let t = lt-ltb last_pattern e.0 (omega (arith, n, h)) in
      (chosen (ltb last_pattern e.0) (Err e) (Ok (matches_of e.0 s)) t, chosen (ltb last_pattern e.0) (refused no_pattern e.0) (said (matches_of e.0 s)) t)))

  pub answer_some : p ≤ last_pattern → (b : Bool) → b ≡ matches_of p s → Answers (Ok b) p s
  answer_some h b t =
      let e = le-ltb last_pattern p h in (
        ap Ok t ∙ other (ltb last_pattern p) (Err (record { 0 = p })) (Ok (matches_of p s)) e,
        ap said t ∙ other (ltb last_pattern p) (refused no_pattern p) (said (matches_of p s)) e,
      )
