-- Eight bytes that are shown as they are: the tests on each byte, and what follows for the eight.
use mathlib.Core.Path.{◌≡◌, refl, sym, ap, ◌∙◌}
use mathlib.Core.Bool.{Bool, true, false, cond}
use mathlib.Core.List.{[], ◌∷◌, ◌++◌}
use Prim.Native.Nat.{ℕ, zero, suc, ◌+◌, ◌*◌, ◌/◌, ◌%◌, ◌≤◌, ◌<◌}
use native.Mathlib.Omega.{arith}
use lib.Bits.{bit_and, bit_or, bit_xor, and_block, and_le_l, and_le_r, or_add_and, and_lt}
use lib.Dec.{eqb, leb}
use lib.ListN.{length, length-append}
use lib.Seq.{append_snoc}
use borrow.Author.Tests.{eqb-true, eqb-false, eq-eqb, ne_eqb, leb-true}
use Rattle.common.specs.Bytes.{Bytes, codes}
use Rattle.common.specs.Word.{octets}
use Rattle.common.specs.Lanes.{lanes, Each}
use Rattle.common.proofs.Choice.{by_test, absurd_test}
use Rattle.common.proofs.LanesLaws.{Laned, laned_and, laned_or, laned_xor, laned_add, laned_all, laned_self, laned_same, laned_ext}
use Rattle.common.proofs.LanesLaws.{lanes_shift, each_octet, each_byte, implies, implied}
use Rattle.common.proofs.LanesLaws.{low, lows, low_small, lows_are, differs, differences, differs_small, differs_sum}
use Rattle.common.proofs.Words.{octets_are}
use Rattle.text.specs.Text.{is_space, rstrip, escape, escaped, space_after}
use Rattle.text.proofs.CollapseLaws.{Single, collapse_single}
use Rattle.text.proofs.EscapeLaws.{escaped_single}
use Rattle.text.proofs.SpaceLaws.{space_32, space_above}
use Rattle.text.proofs.TrimLaws.{rstrip_blank, rstrip_other}
use Rattle.writer.specs.Plain.{Plain, last_octet, mark}
use Rattle.writer.specs.Shown.{shown, shown_times}

-- ---- the tests on a byte: the highest bit of a number says the answer

abbrev printed_test : ℕ → ℕ
printed_test b = bit_and (bit_or (low b + 0x60) b) 0x80

abbrev space_test : ℕ → ℕ
space_test b = bit_xor (bit_and (bit_or (differs 0x20 (low b)) b) 0x80) 0x80

abbrev entity_test : ℕ → ℕ
entity_test b = bit_and (bit_and (differs 0x26 (low b)) (differs 0x22 (low b))) (differs 0x3c (bit_and (low b) 0x7d))

abbrev bare_test : ℕ → ℕ
bare_test b = bit_and (bit_or (entity_test b) b) 0x80

printed_byte : (b : ℕ) → b < 256 → printed_test b ≡ 0x80 → 0x20 ≤ b
printed_byte b h e =
    let t = each_byte (λ b. implies (eqb (printed_test b) 0x80) (leb 0x20 b)) refl b h in
    leb-true 0x20 b (implied _ _ t (eq-eqb _ 0x80 e))

space_byte : (b : ℕ) → b < 256 → space_test b ≡ mark b
space_byte b h = eqb-true _ _ (each_byte (λ b. eqb (space_test b) (mark b)) refl b h)

bare_byte : (b : ℕ) → b < 256 → bare_test b ≡ 0x80 → escaped b ≡ b ∷ []
unfolding escaped codes
bare_byte b h e =
    let t = each_byte (λ b. implies (eqb (bare_test b) 0x80) (eqb (length (escaped b)) 1)) refl b h in
    escaped_single b (eqb-true _ 1 (implied _ _ t (eq-eqb _ 0x80 e)))

-- ---- the same on eight bytes

abbrev entity_tests : ℕ → ℕ
entity_tests w =
    bit_and (bit_and (differences 0x26 (lows w)) (differences 0x22 (lows w))) (differences 0x3c (bit_and (lows w) 0x7d7d7d7d7d7d7d7d))

module _ (w : ℕ) (h : w < 0x10000000000000000) where
  whole : Laned (λ b. b) w w
  whole = laned_self w h

  top : Laned (λ b. 0x80) w 0x8080808080808080
  top = laned_all w 0x80 (omega arith)

  pub printed_sum : Laned (λ b. low b + 0x60) w (lows w + 0x6060606060606060)
  printed_sum = laned_add (lows_are w h) (laned_all w 0x60 (omega arith)) (λ b l. omega (arith, low_small b))

  pub printed : bit_and (bit_or (lows w + 0x6060606060606060) w) 0x8080808080808080 ≡ 0x8080808080808080 → Each (λ c. 0x20 ≤ c) (octets 8 w)
  printed e = each_octet printed_byte 8 w (laned_same (laned_and (laned_or printed_sum whole) top) top e)

  pub spaces_are : bit_xor (bit_and (bit_or (differences 0x20 (lows w)) w) 0x8080808080808080) 0x8080808080808080 ≡ lanes mark 8 w
  spaces_are = laned_ext (laned_xor (laned_and (laned_or (differs_sum w h 0x20 (omega arith)) whole) top) top) mark space_byte

  pub angle_sum : Laned (λ b. differs 0x3c (bit_and (low b) 0x7d)) w (differences 0x3c (bit_and (lows w) 0x7d7d7d7d7d7d7d7d))
  angle_sum =
      laned_add (laned_xor (laned_and (lows_are w h) (laned_all w 0x7d (omega arith))) (laned_all w 0x3c (omega arith)))
      (laned_all w 0x7f (omega arith))
      (λ b k. differs_small 0x3c (bit_and (low b) 0x7d) (omega arith) (and_lt 7 (low b) 0x7d (low_small b) (omega arith)))

  entities : Laned entity_test w (entity_tests w)
  entities = laned_and (laned_and (differs_sum w h 0x26 (omega arith)) (differs_sum w h 0x22 (omega arith))) angle_sum

  pub bares : Laned bare_test w (bit_and (bit_or (entity_tests w) w) 0x8080808080808080)
  bares = laned_and (laned_or entities whole) top

escape_each : (s : Bytes) → Each (λ c. escaped c ≡ c ∷ []) s → escape s ≡ s
unfolding escape
escape_each [] h = refl
escape_each (c ∷ s) h = rw (h.0, escape_each s h.1)

pub bare : {w x : ℕ} → Laned bare_test w x → x ≡ 0x8080808080808080 → escape (octets 8 w) ≡ octets 8 w
bare {w} p e = escape_each (octets 8 w) (each_octet bare_byte 8 w (laned_same p (laned_all w 0x80 (omega arith)) e))

-- ---- blanks of which none stands behind another

mark_small : (c : ℕ) → c < 256 → mark c < 256
mark_small c h = go (eqb c 0x20)
  where
    go : (b : Bool) → cond b 0x80 0 < 256
    go true = omega arith
    go false = omega arith

blank_is : (c : ℕ) → 0x20 ≤ c → is_space c ≡ true → c ≡ 0x20
blank_is c h e = by_test (eqb c 0x20) (λ t. eqb-true c 0x20 t) (λ t. absurd_test e (space_above c (omega arith) (eqb-false c 0x20 t)))

marks_apart : (c d : ℕ) → bit_and (mark c) (mark d) ≡ 0 → c ≡ 0x20 → d ≡ 0x20 → ⊥
marks_apart c d e p q =
    let t : bit_and 0x80 0x80 ≡ 0 = rw (eq-eqb c 0x20 p, eq-eqb d 0x20 q) at e in
    omega arith

-- no mark stands beside that of the byte behind
abbrev Apart : ℕ → ℕ → Type 0
Apart k w = bit_and (lanes mark k w) (lanes mark k w / 256) ≡ 0

marks_next : (k w : ℕ) → Apart (suc (suc k)) w → (bit_and (mark (w % 256)) (mark (w / 256 % 256)) ≡ 0) × Apart (suc k) (w / 256)
unfolding lanes
marks_next k w e =
    let c = w % 256 in
    let d = w / 256 % 256 in
    let t = and_block 8 (lanes mark (suc k) (w / 256)) (lanes mark k (w / 256 / 256)) (mark c) (mark d)
    (mark_small c (omega arith)) (mark_small d (omega arith)) in
    let u = sym t ∙ (rw (lanes_shift mark mark_small (suc k) w) at e) in
    (omega (arith, u), rw (lanes_shift mark mark_small k (w / 256)) (omega (arith, u)))

abbrev Singles : Bool → Bytes → Type 0
Singles = Single is_space (space_32 0x20 refl)

single_first : (space : Bool) (c : ℕ) → 0x20 ≤ c → (space ≡ true → c ≡ 0x20 → ⊥) → is_space c ≡ true → (space ≡ false) × (c ≡ 0x20)
single_first true c h f e = absurd (f refl (blank_is c h e))
single_first false c h f e = (refl, blank_is c h e)

singles : (k w : ℕ) (space : Bool) → Each (λ c. 0x20 ≤ c) (octets k w) → Apart k w → (space ≡ true → w % 256 ≡ 0x20 → ⊥)
    → Singles space (octets k w)
unfolding octets
singles zero w space p e f = tt
singles (suc zero) w space p e f = (single_first space (w % 256) p.0 f, tt)
singles (suc (suc k)) w space p e f =
    let t = marks_next k w e in
    let c = w % 256 in (
      single_first space c p.0 f,
      singles (suc k) (w / 256) (is_space c) p.1 t.1 (λ b. marks_apart c (w / 256 % 256) t.0 (blank_is c p.0 b)),
    )

-- ---- the end of the eight

module _ (s : Bytes) (a b : ℕ) (last : is_space b ≡ true → (is_space a ≡ false) × (b ≡ 0x20)) where
  last_blank : is_space b ≡ eqb b 0x20
  last_blank =
      by_test (is_space b) (λ e. e ∙ sym (eq-eqb b 0x20 (last e).1))
      (λ e. e ∙ sym (ne_eqb b 0x20 (λ q. absurd_test (space_32 b q) e)))

  kept_end : length (rstrip (s ++ a ∷ b ∷ [])) ≡ cond (eqb b 0x20) (length s + 1) (length s + 2)
  kept_end =
      rw (← last_blank, ← append_snoc s a (b ∷ []))
      (by_test (is_space b)
      (λ e. rw (e, rstrip_blank is_space (s ++ a ∷ []) b e, rstrip_other is_space s a (last e).0) (length-append s (a ∷ [])))
      (λ e. rw (e, rstrip_other is_space (s ++ a ∷ []) b e, length-append (s ++ a ∷ []) (b ∷ []), length-append s (a ∷ [])) (omega arith)))

module _ (w : ℕ) (h : w < 0x10000000000000000) (space : Bool)
    (last : is_space (w / 0x100000000000000) ≡ true → (is_space (w / 0x1000000000000 % 256) ≡ false) × (w / 0x100000000000000 ≡ 0x20)) where
  plain_kept : length (rstrip (octets 8 w)) ≡ cond (eqb (last_octet w) 0x20) 7 8
  plain_kept = rw (octets_are w h) (kept_end (_ ∷ _ ∷ _ ∷ _ ∷ _ ∷ _ ∷ []) (w / 0x1000000000000 % 256) (w / 0x100000000000000) last)

  plain_last : space_after is_space space (octets 8 w) ≡ eqb (last_octet w) 0x20
  plain_last = rw (octets_are w h) (last_blank [] (w / 0x1000000000000 % 256) (w / 0x100000000000000) last)

-- ---- several tests at once

pub or_none : (a b : ℕ) → bit_or a b ≡ 0 → (a ≡ 0) × (b ≡ 0)
or_none a b e = omega (arith, e, or_add_and a b, and_le_l a b, and_le_r a b)

first_marked : (w : ℕ) → lanes mark 8 w % 256 ≡ 0 → w % 256 ≡ 0x20 → ⊥
unfolding lanes
first_marked w e f =
    let m : mark (w % 256) ≡ 0x80 = rw f in
    let d : lanes mark 8 w ≡ lanes mark 7 (w / 256) * 256 + mark (w % 256) = refl in
    absurd (omega (arith, e, m, d))

pub unmarked : {k : ℕ} (w : ℕ) (space : Bool) {m : ℕ} → m ≡ lanes mark 8 w → k ≡ cond space (m % 256) 0 → k ≡ 0 → space ≡ true → w % 256 ≡ 0x20 → ⊥
unmarked w space m_is k_is z s = first_marked w (ap (λ (x : ℕ). x % 256) (sym m_is) ∙ sym (k_is ∙ rw s) ∙ z)

-- ---- `Plain`

pub plain_squeezed : {w : ℕ} {space : Bool} → w < 0x10000000000000000 → Each (λ c. 0x20 ≤ c) (octets 8 w) → Apart 8 w
    → (space ≡ true → w % 256 ≡ 0x20 → ⊥) → Plain true space 0 w
unfolding shown shown_times
plain_squeezed {w} {space} h p e f =
    let t = singles 8 w space p e f in
    let last = (rw (octets_are w h) at t).1.1.1.1.1.1.1.0 in
    record {
      same = collapse_single is_space (space_32 0x20 refl) space (octets 8 w) t;
      kept = plain_kept w h space last;
      last = plain_last w h space last;
    }

pub plain_other : {w b : ℕ} {r : Bool} (space : Bool) → w < 0x10000000000000000 → b ≡ last_octet w → r ≡ is_space b → r ≡ false
    → Plain false space 0 w
unfolding shown shown_times
plain_other {w} space h p q e = record { same = refl; kept = plain_kept w h space blank; last = plain_last w h space blank }
  where
    blank : is_space (last_octet w) ≡ true → (is_space (w / 0x1000000000000 % 256) ≡ false) × (last_octet w ≡ 0x20)
    blank t = absurd_test t (ap is_space (sym p) ∙ sym q ∙ e)

pub plain_bare : {squeeze space : Bool} {w : ℕ} → Plain squeeze space 0 w → escape (octets 8 w) ≡ octets 8 w → (times : ℕ)
    → Plain squeeze space times w
unfolding shown shown_times
plain_bare {squeeze} {space} {w} p e times = record { same = go times; kept = p.kept; last = p.last }
  where
    escaped_same : shown squeeze space true (octets 8 w) ≡ octets 8 w
    escaped_same = ap escape p.same ∙ e

    go : (times : ℕ) → shown_times squeeze space times (octets 8 w) ≡ octets 8 w
    go zero = p.same
    go (suc zero) = escaped_same
    go (suc (suc k)) = rw e escaped_same
