-- A text that is written with each run of blanks as one U+0020, byte by byte or eight bytes at a time: what is left of it, and eight bytes
-- that are written as they are.
use mathlib.Core.Path.{◌≡◌, refl, sym, ap, ◌∙◌}
use mathlib.Core.Bool.{Bool, true, false, ◌||◌, cond}
use mathlib.Core.List.{[], ◌∷◌, ◌++◌}
use Prim.Native.Nat.{ℕ, ◌+◌, ◌≤◌, ◌<◌}
use native.Mathlib.Omega.{arith}
use lib.Dec.{eqb}
use lib.ListN.{length, get_or, take, drop, take-append-drop}
use lib.Seq.{take-add, drop-cons, drop-drop}
use borrow.Author.Tests.{ne_eqb}
use Rattle.common.specs.Bytes.{Bytes}
use Rattle.common.specs.Lanes.{Each}
use Rattle.common.specs.Word.{octets, word_at}
use Rattle.common.proofs.LanesLaws.{each_octet}
use Rattle.common.proofs.Words.{octets_word}
use Rattle.text.specs.Text.{is_ascii_whitespace, is_space, squeezed, rstrip_by, collapse_from, space_after}
use Rattle.text.proofs.CollapseLaws.{collapse_append, collapse_then, collapse_done, space_append}
use Rattle.writer.specs.Out.{Out, push_all}
use Rattle.writer.specs.Plain.{Plain, last_octet}
use Rattle.writer.specs.Shown.{shown, shown_times}
use Rattle.writer.proofs.OutLaws.{push_all_append}

-- ---- what is left of a text

-- from place i on
abbrev pub rest : Bool → Bytes → ℕ → Out → Out
rest space s i = push_all (collapse_from is_ascii_whitespace space (drop i s))

pub rest_then : {blank : Bool} (space : Bool) (s : Bytes) (i : ℕ) → i < length s → blank ≡ is_ascii_whitespace (get_or s i 0)
    → (o : Out) → rest space s i o ≡ rest blank s (i + 1) (push_all (squeezed blank space (get_or s i 0)) o)
rest_then {blank} space s i h e o =
    ap (λ (l : Bytes). push_all l o) (collapse_then is_ascii_whitespace space s i h e)
    ∙ push_all_append (squeezed blank space (get_or s i 0)) (collapse_from is_ascii_whitespace blank (drop (i + 1) s)) o

pub rest_none : (space : Bool) (s : Bytes) (i : ℕ) → length s ≤ i → (o : Out) → rest space s i o ≡ o
unfolding push_all
rest_none space s i h o = ap (λ (l : Bytes). push_all l o) (collapse_done is_ascii_whitespace space s i h)

-- eight bytes more
module _ {blank : Bool} (space : Bool) (s : Bytes) (i : ℕ) (h : i + 8 ≤ length s) (e : blank ≡ is_ascii_whitespace (get_or s (i + 7) 0)) where
  abbrev eight : Bytes
  eight = take 8 (drop i s)

  eight_last : eight ≡ take 7 (drop i s) ++ get_or s (i + 7) 0 ∷ []
  eight_last =
      take-add 7 1 (drop i s)
      ∙ ap (λ (l : Bytes). take 7 (drop i s) ++ take 1 l) (drop-drop 7 i s ∙ drop-cons s (i + 7) 0 (omega arith))

  space_eight : space_after is_ascii_whitespace space eight ≡ blank
  space_eight = rw (eight_last, e) (space_append is_ascii_whitespace space (take 7 (drop i s)) (get_or s (i + 7) 0 ∷ []))

  collapse_eight : collapse_from is_ascii_whitespace space (drop i s)
      ≡ collapse_from is_ascii_whitespace space eight ++ collapse_from is_ascii_whitespace blank (drop (i + 8) s)
  collapse_eight =
      ap (collapse_from is_ascii_whitespace space) (sym (take-append-drop 8 (drop i s)))
      ∙ collapse_append is_ascii_whitespace space eight (drop 8 (drop i s))
      ∙ rw (space_eight, drop-drop 8 i s)

  pub rest_eight : (o : Out) → rest space s i o ≡ rest blank s (i + 8) (push_all (collapse_from is_ascii_whitespace space eight) o)
  rest_eight o =
      ap (λ (l : Bytes). push_all l o) collapse_eight
      ∙ push_all_append (collapse_from is_ascii_whitespace space eight) (collapse_from is_ascii_whitespace blank (drop (i + 8) s)) o

-- ---- two sets of blanks that agree on each byte of a text collapse and strip it alike

module _ (a b : ℕ → Bool) where
  collapse_alike : (space : Bool) (s : Bytes) → Each (λ c. a c ≡ b c) s → collapse_from a space s ≡ collapse_from b space s
  unfolding collapse_from
  collapse_alike space [] h = refl
  collapse_alike space (c ∷ s) h = rw (h.0, collapse_alike (b c) s h.1)

  rstrip_alike : (s : Bytes) → Each (λ c. a c ≡ b c) s → rstrip_by a s ≡ rstrip_by b s
  unfolding rstrip_by
  rstrip_alike [] h = refl
  rstrip_alike (c ∷ s) h = rw (h.0, rstrip_alike s h.1)

-- the five blanks and the six
five_six : (c : ℕ) → 0x20 ≤ c → is_ascii_whitespace c ≡ is_space c
unfolding is_space
five_six c h = rw (ne_eqb c 0x0b (omega arith)) (go (is_ascii_whitespace c))
  where
    go : (b : Bool) → b ≡ (b || false)
    go true = refl
    go false = refl

-- ---- eight bytes that are squeezed

module _ {space : Bool} {w : ℕ} (p : Plain true space 0 w × Each (λ c. 0x20 ≤ c) (octets 8 w)) where
  agree : Each (λ c. is_ascii_whitespace c ≡ is_space c) (octets 8 w)
  agree = each_octet (λ c l. five_six c) 8 w p.1

  pub squeezed_kept : length (rstrip_by is_ascii_whitespace (octets 8 w)) ≡ cond (eqb (last_octet w) 0x20) 7 8
  squeezed_kept = ap length (rstrip_alike is_ascii_whitespace is_space (octets 8 w) agree) ∙ p.0.kept

  squeezed_same : collapse_from is_ascii_whitespace space (octets 8 w) ≡ octets 8 w
  unfolding shown shown_times
  squeezed_same = collapse_alike is_ascii_whitespace is_space space (octets 8 w) agree ∙ p.0.same

  pub squeezed_at : (s : Bytes) → ((k : ℕ) → get_or s k 0 < 256) → (i : ℕ) → i + 8 ≤ length s → w ≡ word_at s i
      → collapse_from is_ascii_whitespace space (take 8 (drop i s)) ≡ octets 8 w
  squeezed_at s small i h e = rw (← octets_word s i small h, ← e) squeezed_same
