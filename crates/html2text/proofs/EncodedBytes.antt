-- The functions on bytes keep UTF-8: each exchanges ASCII octets for UTF-8 and keeps all others.
use mathlib.Core.Path.{◌≡◌, refl, sym, ap, ◌∙◌, subst}
use mathlib.Core.Bool.{Bool, true, false}
use mathlib.Core.List.{List, [], ◌∷◌, ◌++◌, append_assoc}
use mathlib.Core.Logic.{inl, inr}
use Prim.Native.Nat.{ℕ, zero, suc, ◌/◌, ◌≤◌}
use native.Mathlib.Omega.{arith}
use lib.Dec.{leb, ltb}
use lib.ListN.{replicate}
use borrow.Author.Tests.{leb-true, leb-false, ltb-true, ltb-false}
use Rattle.common.specs.Bytes.{Bytes, codes}
use Rattle.common.proofs.Choice.{by_cond, by_test, absurd_test}
use Rattle.text.specs.Text.{is_space, squeezed, keeping, trim_start_by, rstrip_by, trim_by, collapse_from, collapse_by, trim, rstrip, collapse, escaped, escape}
use Rattle.text.proofs.EscapeLaws.{escaped_cases}
use Rattle.text.proofs.SpaceLaws.{space_above}
use Rattle.utf8.specs.Abnf.{Range, UTF8_2, UTF8_3, UTF8_4, UTF8_char, Sequence, OneOf, UTF8_octets, none, more}
use Rattle.utf8.specs.Valid.{expect, valid}
use Rattle.utf8.proofs.Grammar.{valid_is_grammar}
use Rattle.writer.specs.Digits.{digits}
use Rattle.writer.proofs.DigitsLaws.{digits_one, digits_more}

-- ---- texts that are put together

pub octets_valid : (s : Bytes) → valid s ≡ true → UTF8_octets s
octets_valid = valid_is_grammar.sound

pub octets_append : {s t : Bytes} → UTF8_octets s → UTF8_octets t → UTF8_octets (s ++ t)
octets_append none q = q
octets_append {t = t} (more char rest c p e) q =
    more char (rest ++ t) c (octets_append p q) (ap (λ (u : Bytes). u ++ t) e ∙ append_assoc char rest t)

pub octets_ascii : {c : ℕ} {s : Bytes} → c ≤ 0x7F → UTF8_octets s → UTF8_octets (c ∷ s)
octets_ascii {c} {s} h p = more (c ∷ []) s (inl (omega arith, h, tt)) p refl

pub octets_replicate : {c : ℕ} (k : ℕ) → c ≤ 0x7F → UTF8_octets (replicate k c)
octets_replicate zero h = none
octets_replicate (suc k) h = octets_ascii h (octets_replicate k h)

digits_within : (k n : ℕ) → n ≤ k → UTF8_octets (digits n)
digits_within zero n h = subst UTF8_octets (sym (digits_one n (omega arith))) (octets_ascii (omega arith) none)
digits_within (suc k) n h =
    by_test (ltb n 10) (λ e. let l = ltb-true n 10 e in subst UTF8_octets (sym (digits_one n l)) (octets_ascii (omega arith) none))
    (λ e.
    let l = ltb-false n 10 e in
    subst UTF8_octets (sym (digits_more n l)) (octets_append (digits_within k (n / 10) (omega arith)) (octets_ascii (omega arith) none)))

pub octets_digits : (n : ℕ) → UTF8_octets (digits n)
octets_digits n = digits_within n n (omega arith)

-- ---- octets exchanged

-- what may stand in an octet's place: for ASCII any UTF-8, for another octet itself alone
record Exchanged (c : ℕ) (w : Bytes) : Type 0 where
  ascii : c ≤ 0x7F → UTF8_octets w
  other : 0x80 ≤ c → w ≡ c ∷ []

-- t is s with each octet exchanged so
abbrev Edited : Bytes → Bytes → Type 0
Edited [] t = t ≡ []
Edited (c ∷ s) t = (w : Bytes) × (rest : Bytes) × Exchanged c w × (t ≡ w ++ rest) × Edited s rest

-- no ASCII
abbrev High : Bytes → Type 0
High [] = Unit {0}
High (x ∷ s) = (0x80 ≤ x) × High s

abbrev HighRanges : List Range → Type 0
HighRanges [] = Unit {0}
HighRanges (r ∷ rs) = (0x80 ≤ r.low) × HighRanges rs

abbrev HighIn : List (List Range) → Type 0
HighIn [] = Unit {0}
HighIn (a ∷ others) = HighRanges a × HighIn others

sequence_high : (rs : List Range) (s : Bytes) → HighRanges rs → Sequence rs s → High s
sequence_high [] [] h q = tt
sequence_high [] (x ∷ s) h q = absurd q
sequence_high (r ∷ rs) [] h q = absurd q
sequence_high (r ∷ rs) (x ∷ s) h q = (omega (arith, h.0, q.0), sequence_high rs s h.1 q.2)

one_of_high : (alternatives : List (List Range)) (s : Bytes) → HighIn alternatives → OneOf alternatives s → High s
one_of_high [] s h q = absurd q
one_of_high (a ∷ others) s h (inl q) = sequence_high a s h.0 q
one_of_high (a ∷ others) s h (inr q) = one_of_high others s h.1 q

longer_high : HighIn (UTF8_2 ++ UTF8_3 ++ UTF8_4)
longer_high = search arith

record Behind (char rest t : Bytes) : Type 0 where
  left : Bytes
  edited : Edited rest left
  joined : t ≡ char ++ left

edited_high : (char rest t : Bytes) → High char → Edited (char ++ rest) t → Behind char rest t
edited_high [] rest t h e = record { left = t; edited = e; joined = refl }
edited_high (c ∷ char) rest t h e =
    let b = edited_high char rest e.1 h.1 e.4 in
    record { left = b.left; edited = b.edited; joined = e.3 ∙ (λ i. e.2.other h.0 i ++ b.joined i) }

edited_char : (char rest t : Bytes) → OneOf UTF8_char char → Edited (char ++ rest) t
    → ((u : Bytes) → Edited rest u → UTF8_octets u) → UTF8_octets t
edited_char [] rest t (inl q) e f = absurd q
edited_char (c ∷ []) rest t (inl q) e f = subst UTF8_octets (sym e.3) (octets_append (e.2.ascii q.1) (f e.1 e.4))
edited_char (c ∷ d ∷ s) rest t (inl q) e f = absurd q.2
edited_char char rest t (inr q) e f =
    let b = edited_high char rest t (one_of_high (UTF8_2 ++ UTF8_3 ++ UTF8_4) char longer_high q) e in
    more char b.left (inr q) (f b.left b.edited) b.joined

edited_octets : {s t : Bytes} → Edited s t → UTF8_octets s → UTF8_octets t
edited_octets e none = subst UTF8_octets (sym e) none
edited_octets {t = t} e (more char rest c p j) =
    edited_char char rest t c (subst (λ (u : Bytes). Edited u t) j e) (λ u d. edited_octets d p)

-- ---- blanks and entities

blank_ascii : (c : ℕ) → is_space c ≡ true → c ≤ 0x7F
blank_ascii c e =
    by_test (leb c 0x7F) (leb-true c 0x7F)
    (λ n. let m = leb-false c 0x7F n in absurd_test e (space_above c (omega arith) (λ z. omega arith)))

kept : (c : ℕ) → Exchanged c (c ∷ [])
kept c = record { ascii = λ h. octets_ascii h none; other = λ h. refl }

ascii_exchanged : {c : ℕ} {w : Bytes} → c ≤ 0x7F → UTF8_octets w → Exchanged c w
ascii_exchanged l p = record { ascii = λ h. p; other = λ h. absurd (omega arith) }

edited_same : (s : Bytes) → Edited s s
edited_same [] = refl
edited_same (c ∷ s) = (c ∷ [], s, kept c, refl, edited_same s)

edited_trim_start : (s : Bytes) → Edited s (trim_start_by is_space s)
unfolding trim_start_by
edited_trim_start [] = refl
edited_trim_start (c ∷ s) =
    by_cond (Edited (c ∷ s)) (is_space c)
    (λ e. ([], trim_start_by is_space s, ascii_exchanged (blank_ascii c e) none, refl, edited_trim_start s)) (λ e. edited_same (c ∷ s))

edited_rstrip : (s : Bytes) → Edited s (rstrip s)
unfolding rstrip_by
edited_rstrip [] = refl
edited_rstrip (c ∷ s) = go (is_space c) (rstrip s) refl (edited_rstrip s)
  where
    go : (b : Bool) (r : Bytes) → is_space c ≡ b → Edited s r → Edited (c ∷ s) (keeping b c r)
    go b (d ∷ r) e h = (c ∷ [], d ∷ r, kept c, refl, h)
    go true [] e h = ([], [], ascii_exchanged (blank_ascii c e) none, refl, h)
    go false [] e h = (c ∷ [], [], kept c, refl, h)

squeezed_exchanged : (b space : Bool) (c : ℕ) → is_space c ≡ b → Exchanged c (squeezed b space c)
squeezed_exchanged true true c e = ascii_exchanged (blank_ascii c e) none
squeezed_exchanged true false c e = ascii_exchanged (blank_ascii c e) (octets_ascii (omega arith) none)
squeezed_exchanged false space c e = kept c

edited_collapse : (space : Bool) (s : Bytes) → Edited s (collapse_from is_space space s)
unfolding collapse_from
edited_collapse space [] = refl
edited_collapse space (c ∷ s) =
    (squeezed (is_space c) space c, collapse_from is_space (is_space c) s, squeezed_exchanged (is_space c) space c refl, refl, edited_collapse (is_space c) s)

escaped_exchanged : (c : ℕ) → Exchanged c (escaped c)
unfolding valid expect codes
escaped_exchanged =
    escaped_cases Exchanged
    (ascii_exchanged (omega arith) (octets_valid (codes "&amp;") refl))
    (ascii_exchanged (omega arith) (octets_valid (codes "&quot;") refl))
    (ascii_exchanged (omega arith) (octets_valid (codes "&lt;") refl))
    (ascii_exchanged (omega arith) (octets_valid (codes "&gt;") refl)) kept

edited_escape : (s : Bytes) → Edited s (escape s)
unfolding escape
edited_escape [] = refl
edited_escape (c ∷ s) = (escaped c, escape s, escaped_exchanged c, refl, edited_escape s)

module _ {s : Bytes} (p : UTF8_octets s) where
  pub octets_trim_start : UTF8_octets (trim_start_by is_space s)
  octets_trim_start = edited_octets (edited_trim_start s) p

  pub octets_rstrip : UTF8_octets (rstrip s)
  octets_rstrip = edited_octets (edited_rstrip s) p

  pub octets_collapse : UTF8_octets (collapse s)
  unfolding collapse_by
  octets_collapse = edited_octets (edited_collapse false s) p

  pub octets_escape : UTF8_octets (escape s)
  octets_escape = edited_octets (edited_escape s) p

pub octets_trim : {s : Bytes} → UTF8_octets s → UTF8_octets (trim s)
unfolding trim_by
octets_trim p = octets_rstrip (octets_trim_start p)
