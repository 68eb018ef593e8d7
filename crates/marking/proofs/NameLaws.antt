-- The list that a name stands in, by its number; and whether the lists of the options have it, by the list that it stands in.
use mathlib.Core.Path.{◌≡◌, refl, sym, ap, ◌∙◌}
use mathlib.Core.Bool.{Bool, true, false, not, ◌&&◌, beq}
use mathlib.Core.List.{List, [], ◌∷◌, ◌++◌}
use Prim.Native.Nat.{ℕ, ◌≤◌}
use lib.Dec.{leb}
use lib.ListN.{length}
use borrow.Author.Tests.{le-leb}
use Rattle.common.specs.Bytes.{Bytes, codes, same}
use Rattle.common.proofs.Choice.{by_test, absurd_test, and_parts}
use Rattle.common.proofs.Equality.{same_true}
use Rattle.options.specs.declared.ExtractOptions.{ExtractOptions}
use Rattle.tags.specs.Packed.{pack_of, packed}
use Rattle.tags.specs.Words.{words, first_word, other_words, is, one_of}
use Rattle.tags.proofs.PackLaws.{AllBytes, listed, packed_name, no_other}
use Rattle.tags.proofs.WordLaws.{each, each_at, by_words, none_of, none_of_none}
use Rattle.marking.specs.Lists.{list_of, short_names}
use Rattle.marking.specs.Names.{always, media, scriptless, fields, unless, skip_names}
use Rattle.marking.specs.declared.names.SkipList.{SkipList}
use Rattle.marking.specs.declared.names.SkipList.TheVariants.{Always, Media, Noscript, Fields, Unlisted}

-- ---- the names of all lists
abbrev known : List Bytes
known = always ++ (media ++ (scriptless ++ fields))

-- the words of a part are words of the whole: one test that is computed
not_in : (ws : List Bytes) → each (λ w. one_of w known) ws ≡ true → (name : Bytes) → one_of name known ≡ false → one_of name ws ≡ false
not_in ws t name h = by_test (one_of name ws) (λ e. absurd_test (each_at (λ w. one_of w known) ws t name e) h) (λ e. e)

unlisted : (name : Bytes) → one_of name known ≡ false → list_of name ≡ Unlisted
unfolding list_of words first_word other_words codes one_of same
unlisted name h = simp (not_in always refl name h, not_in media refl name h, not_in scriptless refl name h, not_in fields refl name h)

pub short_list : (name : Bytes) → AllBytes name → length name ≤ 7 → {v : ℕ} {l : SkipList} → l ≡ packed list_of Unlisted short_names v
    → v ≡ pack_of name → l ≡ list_of name
unfolding words first_word other_words codes one_of same
short_list name b h = packed_name list_of Unlisted known unlisted (λ n. leb n 7) short_names refl name b (le-leb _ _ h)

-- ---- names of 8 bytes and more
abbrev long_names : List Bytes
long_names = codes "template" ∷ codes "noscript" ∷ codes "textarea" ∷ codes "figcaption" ∷ []

all_long : listed known (leb 8) long_names ≡ true
unfolding words first_word other_words codes one_of same
all_long = refl

pub list_at : (name w : Bytes) {l : SkipList} → same name w ≡ true → l ≡ list_of w → l ≡ list_of name
list_at name w e p = p ∙ ap list_of (sym (same_true name w e))

pub long_none : (name : Bytes) → 8 ≤ length name
    → is name "template" ≡ false → is name "noscript" ≡ false → is name "textarea" ≡ false → is name "figcaption" ≡ false
    → Unlisted ≡ list_of name
long_none name h a b c d =
    sym (no_other list_of Unlisted known unlisted (leb 8) long_names all_long name (le-leb 8 (length name) h)
    (none_of name _ _ a (none_of name _ _ b (none_of name _ _ c (none_of name _ _ d (none_of_none name))))))

-- ---- the lists that the options leave
abbrev is_left : (alts noscript inputs : Bool) → SkipList → Bool
is_left alts noscript inputs Always = true
is_left alts noscript inputs Media = not alts
is_left alts noscript inputs Noscript = not noscript
is_left alts noscript inputs Fields = not inputs
is_left alts noscript inputs Unlisted = false

abbrev names_left : (alts noscript inputs : Bool) → List Bytes
names_left alts noscript inputs = always ++ (unless alts media ++ (unless noscript scriptless ++ unless inputs fields))

-- at each name the two agree, and there is no other: one test that is computed
abbrev agree : (alts noscript inputs : Bool) → Bool
agree alts noscript inputs =
    each (λ w. beq (is_left alts noscript inputs (list_of w)) (one_of w (names_left alts noscript inputs))) known
    && each (λ w. one_of w known) (names_left alts noscript inputs)

all_agree : (alts noscript inputs : Bool) → agree alts noscript inputs ≡ true
unfolding list_of words first_word other_words codes one_of same
all_agree true true true = refl
all_agree true true false = refl
all_agree true false true = refl
all_agree true false false = refl
all_agree false true true = refl
all_agree false true false = refl
all_agree false false true = refl
all_agree false false false = refl

module _ (name : Bytes) (o : ExtractOptions) (noscript : Bool) where
  pub left_by_list : {l k : SkipList} → l ≡ list_of name → l ≡ k
      → is_left o.alt_texts noscript o.form_fields k ≡ one_of name (skip_names o noscript)
  left_by_list e t =
      let left = is_left o.alt_texts noscript o.form_fields in
      let p = and_parts _ _ (all_agree o.alt_texts noscript o.form_fields) in
      ap left (sym t ∙ e) ∙ by_words (skip_names o noscript) known (λ w. left (list_of w)) p.0 p.1 (λ s h. ap left (unlisted s h)) name
