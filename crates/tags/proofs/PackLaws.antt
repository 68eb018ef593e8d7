-- A name's number tells it from all others, so that a match on numbers finds its tag.
use mathlib.Core.Path.{◌≡◌, refl, sym, ap, ap₂, ◌∙◌}
use mathlib.Core.Bool.{Bool, true, false, ◌&&◌, ◌||◌, not, cond}
use mathlib.Core.List.{List, [], ◌∷◌}
use Prim.Native.Nat.{ℕ, zero, suc, ◌+◌, ◌-◌, ◌*◌, ◌^◌, ◌≤◌, ◌<◌}
use native.Mathlib.Nat.{pow-succ', pow-le-pow_right}
use native.Mathlib.Omega.{arith}
use lib.Dec.{eqb, ltb, leb, lit<}
use lib.ListN.{length, drop, get_or, length-drop}
use lib.Seq.{drop-cons, drop-length, get_or-drop}
use borrow.Author.Tests.{ltb-true, le-leb, eq-eqb, ne_eqb}
use Rattle.common.specs.Bytes.{Bytes, codes, same}
use Rattle.common.proofs.Choice.{by_test, absurd_test, and_parts}
use Rattle.common.proofs.Equality.{same_true, same_of}
use Rattle.tags.specs.Packed.{pack_of, packed, tag_packed}
use Rattle.tags.specs.Tags.{tag_names, tag_of}
use Rattle.tags.specs.Words.{words, first_word, other_words, one_of}
use Rattle.tags.proofs.TagLaws.{known, unknown}
use Rattle.tags.proofs.WordLaws.{each, each_at}

abbrev pub AllBytes : Bytes → Type 0
AllBytes s = (i : ℕ) → get_or s i 0 < 256

-- ---- the loop: from the last byte to the first
pub record Packing (name : Bytes) (v i : ℕ) : Type 0 where
  pub inside : i ≤ length name
  pub number : v ≡ pack_of (drop i name)

pub packing_start : (name : Bytes) → Packing name 1 (length name)
unfolding pack_of
packing_start name = record { inside = omega arith; number = rw drop-length }

pack_small : (s : Bytes) → AllBytes s → pack_of s < 2 * 256 ^ length s
unfolding pack_of
pack_small [] b = lit< tt
pack_small (c ∷ s) b =
    let q : 256 ^ suc (length s) ≡ 256 * 256 ^ length s = pow-succ' 256 (length s) in
    omega (arith, pack_small s (λ i. b (suc i)), b 0, q)

module _ {name : Bytes} {v i : ℕ} (p : Packing name v i) (h : 0 < i) where
  pub packing_room : length name ≤ 7 → AllBytes name → v * 256 + 255 < 2 ^ 64
  packing_room l b =
      let s = pack_small (drop i name) (λ k. rw (get_or-drop i name k 0) (b (i + k))) in
      let n : length (drop i name) ≤ 6 = rw length-drop (omega arith) in
      omega (arith, s, p.number, pow-le-pow_right {n = 256} (lit< tt) {i = length (drop i name)} {j = 6} n)

  pub packing_more : {w : ℕ} → w ≡ v * 256 + get_or name (i - 1) 0 → Packing name w (i - 1)
  unfolding pack_of
  packing_more e =
      let k : suc (i - 1) ≡ i = omega arith in
      let d : drop (i - 1) name ≡ get_or name (i - 1) 0 ∷ drop i name = drop-cons name (i - 1) 0 (omega (arith, p.inside)) ∙ ap (λ (m : ℕ). get_or name (i - 1) 0 ∷ drop m name) k in
      record { inside = omega (arith, p.inside); number = e ∙ rw (d, p.number) }

pub packing_end : {name : Bytes} {v i : ℕ} → Packing name v i → i ≤ 0 → v ≡ pack_of name
packing_end {name} {v} {i} p h = let z : i ≡ 0 = omega arith in p.number ∙ ap (λ (k : ℕ). pack_of (drop k name)) z

-- ---- one number, one name
pack_positive : (s : Bytes) → 1 ≤ pack_of s
unfolding pack_of
pack_positive [] = omega arith
pack_positive (c ∷ s) = omega (arith, pack_positive s)

pack_same : (s t : Bytes) → AllBytes s → AllBytes t → pack_of s ≡ pack_of t → s ≡ t
unfolding pack_of
pack_same [] [] a b e = refl
pack_same [] (d ∷ t) a b e = absurd (omega (arith, pack_positive t))
pack_same (c ∷ s) [] a b e = absurd (omega (arith, pack_positive s))
pack_same (c ∷ s) (d ∷ t) a b e =
    let head : c ≡ d = omega (arith, a 0, b 0) in
    let tail : pack_of s ≡ pack_of t = omega (arith, a 0, b 0) in
    ap₂ (λ (x : ℕ) (l : Bytes). x ∷ l) head (pack_same s t (λ i. a (suc i)) (λ i. b (suc i)) tail)

pack_eqb : (s t : Bytes) → AllBytes s → AllBytes t → eqb (pack_of s) (pack_of t) ≡ same s t
pack_eqb s t a b =
    by_test (same s t)
    (λ e. eq-eqb (pack_of s) (pack_of t) (ap pack_of (same_true s t e)) ∙ sym e)
    (λ e. ne_eqb (pack_of s) (pack_of t) (λ q. absurd_test (same_of s t (pack_same s t a b q)) e) ∙ sym e)

-- ---- what is said of a name, by its number
abbrev are_bytes : Bytes → Bool
are_bytes [] = true
are_bytes (c ∷ s) = ltb c 256 && are_bytes s

all_bytes : (s : Bytes) → are_bytes s ≡ true → AllBytes s
all_bytes [] t i = lit< tt
all_bytes (c ∷ s) t zero = ltb-true c 256 (and_parts (ltb c 256) (are_bytes s) t).0
all_bytes (c ∷ s) t (suc i) = all_bytes s (and_parts (ltb c 256) (are_bytes s) t).1 i

-- all of the known names with a length of the range stand in the list: one test that is computed
abbrev pub listed : List Bytes → (ℕ → Bool) → List Bytes → Bool
listed names range ws = each are_bytes ws && each (λ w. not (range (length w)) || one_of w ws) names

module _ {A : Type 0} (f : Bytes → A) (other : A) where
  packed_is : (s : Bytes) → AllBytes s → (ws : List Bytes) → each are_bytes ws ≡ true
      → packed f other ws (pack_of s) ≡ cond (one_of s ws) (f s) other
  unfolding packed one_of
  packed_is s b [] t = refl
  packed_is s b (w ∷ ws) t =
      let p = and_parts (are_bytes w) (each are_bytes ws) t in
      let q = pack_eqb s w b (all_bytes w p.0) in
      by_test (same s w)
      (λ e. rw (q, e, one_of) (ap f (sym (same_true s w e))))
      (λ e. rw (q, e, one_of) (packed_is s b ws p.1))

  -- of all names but the known ones f says the same
  module _ (names : List Bytes) (unlisted : (s : Bytes) → one_of s names ≡ false → f s ≡ other)
      (range : ℕ → Bool) (ws : List Bytes) (t : listed names range ws ≡ true) where
    pub no_other : (s : Bytes) → range (length s) ≡ true → one_of s ws ≡ false → f s ≡ other
    no_other s r e =
        let q = and_parts (each are_bytes ws) (each (λ w. not (range (length w)) || one_of w ws) names) t in
        unlisted s (by_test (one_of s names)
        (λ k. absurd_test (rw r at (each_at (λ w. not (range (length w)) || one_of w ws) names q.1 s k)) e)
        (λ k. k))

    pub packed_name : (s : Bytes) → AllBytes s → range (length s) ≡ true → {v : ℕ} {x : A} → x ≡ packed f other ws v → v ≡ pack_of s → x ≡ f s
    packed_name s b r e p =
        let q = and_parts (each are_bytes ws) (each (λ w. not (range (length w)) || one_of w ws) names) t in
        e ∙ ap (packed f other ws) p ∙ packed_is s b ws q.0 ∙ by_test (one_of s ws) (λ k. rw k) (λ k. rw k (sym (no_other s r k)))

pub packed_tag : (range : ℕ → Bool) (ws : List Bytes) → listed known range ws ≡ true
    → (s : Bytes) → AllBytes s → range (length s) ≡ true → {v tag : ℕ} → tag ≡ tag_packed ws v → v ≡ pack_of s → tag ≡ tag_of s
packed_tag = packed_name tag_of 0 known unknown

-- ---- a match that has tried the number of each word, and what its last arm knows
abbrev ruled_out : ℕ → List Bytes → Type 0 → Type 0
ruled_out v [] T = T
ruled_out v (w ∷ ws) T = ruled_out v ws (T × (v ≡ pack_of w → ⊥))

ruled_before : (v : ℕ) (ws : List Bytes) (T : Type 0) → ruled_out v ws T → T
ruled_before v [] T h = h
ruled_before v (w ∷ ws) T h = (ruled_before v ws (T × (v ≡ pack_of w → ⊥)) h).0

pub packed_none : {A : Type 0} (f : Bytes → A) (other : A) (v : ℕ) (ws : List Bytes) (T : Type 0) → ruled_out v ws T
    → other ≡ packed f other ws v
unfolding packed
packed_none f other v [] T h = refl
packed_none f other v (w ∷ ws) T h =
    let more = T × (v ≡ pack_of w → ⊥) in
    rw (ne_eqb v (pack_of w) (ruled_before v ws more h).1) (packed_none f other v ws more h)

-- ---- names of 8 bytes and more
abbrev long_names : List Bytes
long_names = codes "textarea" ∷ codes "fieldset" ∷ codes "blockquote" ∷ codes "figcaption" ∷ []

pub tag_at : (s w : Bytes) {n : ℕ} → same s w ≡ true → n ≡ tag_of w → n ≡ tag_of s
tag_at s w e p = p ∙ ap tag_of (sym (same_true s w e))

pub long_none : (s : Bytes) → 8 ≤ length s → one_of s long_names ≡ false → 0 ≡ tag_of s
unfolding one_of words codes first_word other_words same tag_names
long_none s h e = sym (no_other tag_of 0 known unknown (leb 8) long_names refl s (le-leb 8 (length s) h) e)
