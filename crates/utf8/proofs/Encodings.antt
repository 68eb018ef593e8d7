-- The grammar accepts exactly the concatenations of encodings of scalar values.
use mathlib.Core.Path.{◌≡◌, refl, sym, ap₂, ◌∙◌, subst}
use mathlib.Core.Bool.{true}
use mathlib.Core.List.{List, [], ◌∷◌, ◌++◌}
use mathlib.Core.Logic.{inl, inr}
use Prim.Native.Nat.{ℕ, ◌+◌, ◌-◌, ◌*◌, ◌/◌, ◌≤◌, ◌<◌}
use native.Mathlib.Omega.{arith}
use lib.Dec.{leb}
use lib.ListN.{get_or}
use borrow.Author.Tests.{leb-true, leb-false, le-leb, lt-leb}
use Rattle.common.specs.Bytes.{Bytes}
use Rattle.common.proofs.Choice.{by_test}
use Rattle.utf8.specs.Abnf.{Range, UTF8_char, Sequence, OneOf, UTF8_octets, none, more}
use Rattle.utf8.specs.Encoding.{Scalar, tail, encode, encode_all, Scalars, Encoded, GrammarIsEncoding, UTF8}
use Rattle.utf8.specs.Valid.{valid}
use Rattle.utf8.proofs.Grammar.{valid_is_grammar}

-- a scalar value whose encoding these octets are
record Decoded (s : Bytes) : Type 0 where
  value : ℕ
  scalar : Scalar value
  bytes : s ≡ encode value

-- ---- the four forms

module _ (c : ℕ) where
  encode_1 : c ≤ 0x7F → encode c ≡ c ∷ []
  unfolding encode
  encode_1 h = rw (le-leb c 0x7F h)

  encode_2 : 0x7F < c → c ≤ 0x7FF → encode c ≡ (0xC0 + c / 64) ∷ tail c 1 ∷ []
  unfolding encode
  encode_2 h k = rw (lt-leb c 0x7F h, le-leb c 0x7FF k)

  pub encode_3 : 0x7FF < c → c ≤ 0xFFFF → encode c ≡ (0xE0 + c / 4096) ∷ tail c 64 ∷ tail c 1 ∷ []
  unfolding encode
  encode_3 h k = rw (lt-leb c 0x7F (omega arith), lt-leb c 0x7FF h, le-leb c 0xFFFF k)

  pub encode_4 : 0xFFFF < c → encode c ≡ (0xF0 + c / 262144) ∷ tail c 4096 ∷ tail c 64 ∷ tail c 1 ∷ []
  unfolding encode
  encode_4 h = rw (lt-leb c 0x7F (omega arith), lt-leb c 0x7FF (omega arith), lt-leb c 0xFFFF h)

-- a fact of an encoding, by its four forms
pub by_form {ℓ} : (P : Bytes → Type ℓ) (c : ℕ) → (c ≤ 0x7F → P (c ∷ []))
    → (0x7F < c → c ≤ 0x7FF → P ((0xC0 + c / 64) ∷ tail c 1 ∷ []))
    → (0x7FF < c → c ≤ 0xFFFF → P ((0xE0 + c / 4096) ∷ tail c 64 ∷ tail c 1 ∷ []))
    → (0xFFFF < c → P ((0xF0 + c / 262144) ∷ tail c 4096 ∷ tail c 64 ∷ tail c 1 ∷ []))
    → P (encode c)
by_form P c f g h k =
    by_test (leb c 0x7F) (λ p. let l = leb-true c 0x7F p in rw (encode_1 c l) (f l))
    (λ p.
    by_test (leb c 0x7FF) (λ q. let l = leb-false c 0x7F p in let m = leb-true c 0x7FF q in rw (encode_2 c l m) (g l m))
    (λ q.
    by_test (leb c 0xFFFF) (λ r. let l = leb-false c 0x7FF q in let m = leb-true c 0xFFFF r in rw (encode_3 c l m) (h l m))
    (λ r. let l = leb-false c 0xFFFF r in rw (encode_4 c l) (k l))))

-- ---- from octets to their value

one : (x : ℕ) → x ≤ 0x7F → Decoded (x ∷ [])
one x h =
    record {
      value = x;
      scalar = record { most = omega arith; not_surrogate = λ p q. omega arith };
      bytes = sym (encode_1 x h);
    }

two : (x y : ℕ) → 0xC2 ≤ x → x ≤ 0xDF → 0x80 ≤ y → y ≤ 0xBF → Decoded (x ∷ y ∷ [])
two x y h k l m =
    let c = (x - 0xC0) * 64 + (y - 0x80) in
    let e : x ≡ 0xC0 + c / 64 = omega arith in
    let f : y ≡ tail c 1 = omega arith in
    record {
      value = c;
      scalar = record { most = omega arith; not_surrogate = λ p q. omega arith };
      bytes = ap₂ (λ (a b : ℕ). a ∷ b ∷ []) e f ∙ sym (encode_2 c (omega arith) (omega arith));
    }

abbrev value_3 : ℕ → ℕ → ℕ → ℕ
value_3 x y z = (x - 0xE0) * 4096 + (y - 0x80) * 64 + (z - 0x80)

three : (x y z : ℕ) → 0xE0 ≤ x → x ≤ 0xEF → 0x80 ≤ y → y ≤ 0xBF → 0x80 ≤ z → z ≤ 0xBF → 0x7FF < value_3 x y z → (0xD800 ≤ value_3 x y z → value_3 x y z ≤ 0xDFFF → ⊥)
    → Decoded (x ∷ y ∷ z ∷ [])
three x y z hx kx hy ky hz kz long ns =
    let c = value_3 x y z in
    let e : x ≡ 0xE0 + c / 4096 = omega arith in
    let f : y ≡ tail c 64 = omega arith in
    let g : z ≡ tail c 1 = omega arith in
    record {
      value = c;
      scalar = record { most = omega arith; not_surrogate = ns };
      bytes = (λ i. e i ∷ f i ∷ g i ∷ []) ∙ sym (encode_3 c long (omega arith));
    }

abbrev value_4 : ℕ → ℕ → ℕ → ℕ → ℕ
value_4 x y z w = (x - 0xF0) * 262144 + (y - 0x80) * 4096 + (z - 0x80) * 64 + (w - 0x80)

four : (x y z w : ℕ) → 0xF0 ≤ x → x ≤ 0xF4 → 0x80 ≤ y → y ≤ 0xBF → 0x80 ≤ z → z ≤ 0xBF → 0x80 ≤ w → w ≤ 0xBF → 0xFFFF < value_4 x y z w → value_4 x y z w ≤ 0x10FFFF
    → Decoded (x ∷ y ∷ z ∷ w ∷ [])
four x y z w hx kx hy ky hz kz hw kw long most =
    let c = value_4 x y z w in
    let e : x ≡ 0xF0 + c / 262144 = omega arith in
    let f : y ≡ tail c 4096 = omega arith in
    let g : z ≡ tail c 64 = omega arith in
    let h : w ≡ tail c 1 = omega arith in
    record {
      value = c;
      scalar = record { most = most; not_surrogate = λ p q. omega arith };
      bytes = (λ i. e i ∷ f i ∷ g i ∷ h i ∷ []) ∙ sym (encode_4 c long);
    }

-- a fact of octets of these ranges, by a fact of each of them
abbrev Each : List Range → (Bytes → Type 0) → Type 0
Each [] P = P []
Each (r ∷ rs) P = (x : ℕ) → r.low ≤ x → x ≤ r.high → Each rs (λ s. P (x ∷ s))

each : (rs : List Range) (P : Bytes → Type 0) → Each rs P → (s : Bytes) → Sequence rs s → P s
each [] P f [] q = f
each [] P f (x ∷ s) q = absurd q
each (r ∷ rs) P f [] q = absurd q
each (r ∷ rs) P f (x ∷ s) q = each rs (λ t. P (x ∷ t)) (f x q.0 q.1) s q.2

abbrev three_octets : ℕ → ℕ → ℕ → ℕ → Type 0
three_octets low high low₁ high₁ = (x : ℕ) → low ≤ x → x ≤ high → (y : ℕ) → low₁ ≤ y → y ≤ high₁ → (z : ℕ) → 0x80 ≤ z → z ≤ 0xBF → Decoded (x ∷ y ∷ z ∷ [])

abbrev four_octets : ℕ → ℕ → ℕ → ℕ → Type 0
four_octets low high low₁ high₁ =
    (x : ℕ) → low ≤ x → x ≤ high → (y : ℕ) → low₁ ≤ y → y ≤ high₁ → (z : ℕ) → 0x80 ≤ z → z ≤ 0xBF → (w : ℕ) → 0x80 ≤ w → w ≤ 0xBF → Decoded (x ∷ y ∷ z ∷ w ∷ [])

E0 : three_octets 0xE0 0xE0 0xA0 0xBF
E0 x hx kx y hy ky z hz kz = three x y z hx (omega arith) (omega arith) ky hz kz (omega arith) (λ p q. omega arith)

E1_EC : three_octets 0xE1 0xEC 0x80 0xBF
E1_EC x hx kx y hy ky z hz kz = three x y z (omega arith) (omega arith) hy ky hz kz (omega arith) (λ p q. omega arith)

ED : three_octets 0xED 0xED 0x80 0x9F
ED x hx kx y hy ky z hz kz = three x y z (omega arith) (omega arith) hy (omega arith) hz kz (omega arith) (λ p q. omega arith)

EE_EF : three_octets 0xEE 0xEF 0x80 0xBF
EE_EF x hx kx y hy ky z hz kz = three x y z (omega arith) kx hy ky hz kz (omega arith) (λ p q. omega arith)

F0 : four_octets 0xF0 0xF0 0x90 0xBF
F0 x hx kx y hy ky z hz kz w hw kw = four x y z w hx (omega arith) (omega arith) ky hz kz hw kw (omega arith) (omega arith)

F1_F3 : four_octets 0xF1 0xF3 0x80 0xBF
F1_F3 x hx kx y hy ky z hz kz w hw kw = four x y z w (omega arith) (omega arith) hy ky hz kz hw kw (omega arith) (omega arith)

F4 : four_octets 0xF4 0xF4 0x80 0x8F
F4 x hx kx y hy ky z hz kz w hw kw = four x y z w (omega arith) kx hy (omega arith) hz kz hw kw (omega arith) (omega arith)

abbrev alternative : ℕ → List Range
alternative n = get_or UTF8_char n []

decoded : (s : Bytes) → OneOf UTF8_char s → Decoded s
decoded s (inl q) = each (alternative 0) Decoded (λ x h k. one x k) s q
decoded s (inr (inl q)) = each (alternative 1) Decoded (λ x h k y l m. two x y h k l m) s q
decoded s (inr (inr (inl q))) = each (alternative 2) Decoded E0 s q
decoded s (inr (inr (inr (inl q)))) = each (alternative 3) Decoded E1_EC s q
decoded s (inr (inr (inr (inr (inl q))))) = each (alternative 4) Decoded ED s q
decoded s (inr (inr (inr (inr (inr (inl q)))))) = each (alternative 5) Decoded EE_EF s q
decoded s (inr (inr (inr (inr (inr (inr (inl q))))))) = each (alternative 6) Decoded F0 s q
decoded s (inr (inr (inr (inr (inr (inr (inr (inl q)))))))) = each (alternative 7) Decoded F1_F3 s q
decoded s (inr (inr (inr (inr (inr (inr (inr (inr (inl q))))))))) = each (alternative 8) Decoded F4 s q
decoded s (inr (inr (inr (inr (inr (inr (inr (inr (inr q))))))))) = absurd q

-- ---- from a value to its octets

module _ (c : ℕ) where
  octets_2 : 0x7F < c → c ≤ 0x7FF → Sequence (alternative 1) ((0xC0 + c / 64) ∷ tail c 1 ∷ [])
  octets_2 h k = omega arith

  octets_3 : 0x7FF < c → c ≤ 0xFFFF → Scalar c → OneOf UTF8_char ((0xE0 + c / 4096) ∷ tail c 64 ∷ tail c 1 ∷ [])
  octets_3 h k v =
      by_test (leb c 0xFFF) (λ e. inr (inr (inl (omega (arith, leb-true c 0xFFF e)))))
      (λ e. by_test (leb c 0xCFFF) (λ f. inr (inr (inr (inl (omega (arith, leb-false c 0xFFF e, leb-true c 0xCFFF f))))))
      (λ f. by_test (leb c 0xD7FF) (λ g. inr (inr (inr (inr (inl (omega (arith, leb-false c 0xCFFF f, leb-true c 0xD7FF g)))))))
      (λ g. inr (inr (inr (inr (inr (inl (from_E000 (leb-false c 0xD7FF g))))))))))
    where
      from_E000 : 0xD7FF < c → Sequence (alternative 5) ((0xE0 + c / 4096) ∷ tail c 64 ∷ tail c 1 ∷ [])
      from_E000 l = by_test (leb c 0xDFFF) (λ e. absurd (v.not_surrogate l (leb-true c 0xDFFF e))) (λ e. omega (arith, leb-false c 0xDFFF e))

  octets_4 : 0xFFFF < c → c ≤ 0x10FFFF → OneOf UTF8_char ((0xF0 + c / 262144) ∷ tail c 4096 ∷ tail c 64 ∷ tail c 1 ∷ [])
  octets_4 h k =
      by_test (leb c 0x3FFFF) (λ e. inr (inr (inr (inr (inr (inr (inl (omega (arith, leb-true c 0x3FFFF e)))))))))
      (λ e. by_test (leb c 0xFFFFF) (λ f. inr (inr (inr (inr (inr (inr (inr (inl (omega (arith, leb-false c 0x3FFFF e, leb-true c 0xFFFFF f))))))))))
      (λ f. inr (inr (inr (inr (inr (inr (inr (inr (inl (omega (arith, leb-false c 0xFFFFF f))))))))))))

  accepted : Scalar c → OneOf UTF8_char (encode c)
  accepted v =
      by_form (OneOf UTF8_char) c (λ h. inl (omega (arith, h))) (λ h k. inr (inl (octets_2 h k))) (λ h k. octets_3 h k v) (λ h. octets_4 h v.most)

-- ---- one character after the other

decodes : (s : Bytes) → UTF8_octets s → Encoded s
unfolding encode_all
decodes s none = record { scalars = []; each = tt; bytes = refl }
decodes s (more char rest q octets e) =
    let d = decoded char q in
    let r = decodes rest octets in
    record { scalars = d.value ∷ r.scalars; each = (d.scalar, r.each); bytes = e ∙ ap₂ (λ (a b : Bytes). a ++ b) d.bytes r.bytes }

encoded : (cs : List ℕ) → Scalars cs → UTF8_octets (encode_all cs)
unfolding encode_all
encoded [] h = none
encoded (c ∷ cs) h = more (encode c) (encode_all cs) (accepted c h.0) (encoded cs h.1) refl

pub grammar_is_encoding : GrammarIsEncoding
grammar_is_encoding = record { decodes = decodes; accepts = λ s e. subst UTF8_octets (sym e.bytes) (encoded e.scalars e.each) }

pub valid_utf8 : (s : Bytes) → valid s ≡ true → UTF8 s
valid_utf8 s v = let g = valid_is_grammar.sound s v in record { grammar = g; encoded = grammar_is_encoding.decodes s g }
