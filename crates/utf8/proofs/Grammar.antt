-- `valid` answers yes exactly for the octets of RFC 3629, section 4.
use mathlib.Core.Path.{◌≡◌, refl, sym, ap, ◌∙◌, subst}
use mathlib.Core.Bool.{Bool, true, false, cond}
use mathlib.Core.List.{List, [], ◌∷◌, ◌++◌}
use mathlib.Core.Logic.{inl, inr}
use Prim.Native.Nat.{ℕ, ◌+◌, ◌≤◌}
use native.Mathlib.Omega.{arith}
use lib.Dec.{leb}
use borrow.Author.Tests.{leb-true, le-leb, lt-leb}
use Rattle.common.specs.Bytes.{Bytes}
use Rattle.common.proofs.Choice.{absurd_test, and_parts}
use Rattle.utf8.specs.Abnf.{Range, UTF8_char, Sequence, OneOf, UTF8_octets, none, more}
use Rattle.utf8.specs.Valid.{within, never, follow, expect, valid, ValidIsGrammar}

-- ---- what is accepted is of the grammar

sequence_never : (s : Bytes) → Sequence (never ∷ []) s → ⊥
sequence_never [] q = q
sequence_never (x ∷ s) q = omega (arith, q.0, q.1)

-- what follows x as a first octet makes an alternative with it
followed : (alternatives : List (List Range)) (x : ℕ) (s : Bytes) → Sequence (follow alternatives x) s → OneOf alternatives (x ∷ s)
followed [] x s q = sequence_never s q
followed ([] ∷ others) x s q = inr (followed others x s q)
followed ((r ∷ rs) ∷ others) x s q = go (within r x) refl q (followed others x s)
  where
    go : (b : Bool) → within r x ≡ b → Sequence (cond b rs (follow others x)) s → (Sequence (follow others x) s → OneOf others (x ∷ s)) → OneOf ((r ∷ rs) ∷ others) (x ∷ s)
    go true e t f = let w = and_parts (leb r.low x) (leb x r.high) e in inl (leb-true r.low x w.0, leb-true x r.high w.1, t)
    go false e t f = inr (f t)

-- octets of the ranges, and the grammar's behind them
record Parted (rs : List Range) (s : Bytes) : Type 0 where
  front : Bytes
  rest : Bytes
  fits : Sequence rs front
  octets : UTF8_octets rest
  joined : s ≡ front ++ rest

parted_whole : (s : Bytes) → Parted [] s → UTF8_octets s
parted_whole s p = go p.front p.fits p.joined
  where
    go : (front : Bytes) → Sequence [] front → s ≡ front ++ p.rest → UTF8_octets s
    go [] f e = subst UTF8_octets (sym e) p.octets
    go (x ∷ t) f e = absurd f

parted : (rs : List Range) (s : Bytes) → expect rs s ≡ true → Parted rs s
unfolding expect
parted [] [] e = record { front = []; rest = []; fits = tt; octets = none; joined = refl }
parted (r ∷ rs) [] e = absurd_test e refl
parted [] (x ∷ s) e =
    let p = parted (follow UTF8_char x) s e in
    record {
      front = [];
      rest = x ∷ s;
      fits = tt;
      octets = more (x ∷ p.front) p.rest (followed UTF8_char x p.front p.fits) p.octets (ap (λ (t : Bytes). x ∷ t) p.joined);
      joined = refl;
    }
parted (r ∷ rs) (x ∷ s) e =
    let t = and_parts (within r x) (expect rs s) e in
    let w = and_parts (leb r.low x) (leb x r.high) t.0 in
    let p = parted rs s t.1 in
    record {
      front = x ∷ p.front;
      rest = p.rest;
      fits = (leb-true r.low x w.0, leb-true x r.high w.1, p.fits);
      octets = p.octets;
      joined = ap (λ (t : Bytes). x ∷ t) p.joined;
    }

-- ---- what is of the grammar is accepted

-- each alternative begins with a range that lies above those before it
abbrev Rising : ℕ → List (List Range) → Type 0
Rising least [] = Unit {0}
Rising least ([] ∷ others) = ⊥
Rising least ((r ∷ rs) ∷ others) = (least ≤ r.low) × (r.low ≤ r.high) × Rising (1 + r.high) others

rising_above : (least : ℕ) (alternatives : List (List Range)) (x : ℕ) (s : Bytes) → Rising least alternatives → OneOf alternatives (x ∷ s) → least ≤ x
rising_above least [] x s h q = absurd q
rising_above least ([] ∷ others) x s h q = absurd h
rising_above least ((r ∷ rs) ∷ others) x s h (inl q) = omega (arith, h.0, q.0)
rising_above least ((r ∷ rs) ∷ others) x s h (inr q) = omega (arith, h.0, h.1, rising_above (1 + r.high) others x s h.2 q)

-- the octets behind the first are of the ranges that `follow` gives
following : (least : ℕ) (alternatives : List (List Range)) (x : ℕ) (s : Bytes) → Rising least alternatives → OneOf alternatives (x ∷ s) → Sequence (follow alternatives x) s
following least [] x s h q = absurd q
following least ([] ∷ others) x s h q = absurd h
following least ((r ∷ rs) ∷ others) x s h (inl q) = rw (le-leb r.low x q.0, le-leb x r.high q.1) q.2
following least ((r ∷ rs) ∷ others) x s h (inr q) =
    let above = rising_above (1 + r.high) others x s h.2 q in
    rw (le-leb r.low x (omega (arith, h.1)), lt-leb x r.high (omega arith)) (following (1 + r.high) others x s h.2 q)

some_octet : (least : ℕ) (alternatives : List (List Range)) → Rising least alternatives → OneOf alternatives [] → ⊥
some_octet least [] h q = q
some_octet least ([] ∷ others) h q = h
some_octet least ((r ∷ rs) ∷ others) h (inl q) = q
some_octet least ((r ∷ rs) ∷ others) h (inr q) = some_octet (1 + r.high) others h.2 q

expect_append : (rs : List Range) (s t : Bytes) → Sequence rs s → expect rs (s ++ t) ≡ expect [] t
unfolding expect
expect_append [] [] t q = refl
expect_append [] (x ∷ s) t q = absurd q
expect_append (r ∷ rs) [] t q = absurd q
expect_append (r ∷ rs) (x ∷ s) t q = rw (le-leb r.low x q.0, le-leb x r.high q.1) (expect_append rs s t q.2)

rising : Rising 0 UTF8_char
rising = omega arith

expect_char : (char rest : Bytes) → OneOf UTF8_char char → expect [] (char ++ rest) ≡ expect [] rest
unfolding expect
expect_char [] rest q = absurd (some_octet 0 UTF8_char rising q)
expect_char (x ∷ s) rest q = expect_append (follow UTF8_char x) s rest (following 0 UTF8_char x s rising q)

accepted : (s : Bytes) → UTF8_octets s → expect [] s ≡ true
unfolding expect
accepted s none = refl
accepted s (more char rest q octets e) = ap (expect []) e ∙ expect_char char rest q ∙ accepted rest octets

pub valid_is_grammar : ValidIsGrammar
unfolding valid
valid_is_grammar = record { sound = λ s e. parted_whole s (parted [] s e); complete = accepted }
