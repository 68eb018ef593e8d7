-- A piece by the first byte of it that is shown: whether anything is left of it, what is shown, and how the text goes on.
use mathlib.Core.Path.{◌≡◌, refl, sym, ap, ◌∙◌}
use mathlib.Core.Bool.{Bool, true, false, ◌&&◌, not, cond, and-true, and-false}
use mathlib.Core.List.{[], ◌∷◌, ◌++◌}
use Prim.Native.Nat.{ℕ, suc, ◌≤◌, ◌<◌}
use native.Mathlib.Omega.{arith}
use lib.ListN.{length, drop, take, get_or, length-append, drop_of_length-le, take-append-drop}
use lib.Seq.{drop-cons}
use Rattle.common.specs.Bytes.{Bytes, is_empty}
use Rattle.common.proofs.Choice.{by_test, absurd_test, and_parts}
use Rattle.text.specs.Text.{is_space, space_after, trim_start_by, escape}
use Rattle.text.proofs.CollapseLaws.{space_append}
use Rattle.writer.specs.Shown.{escaped_if, shown, shown_times}
use Rattle.writer.specs.Texts.{BeginsAt}
use Rattle.writer.specs.declared.texts.First.{First}
use Rattle.writer.proofs.PutLaws.{first_byte}
use Rattle.writer.proofs.ShownLaws.{shown_shortened}
use Rattle.writer.proofs.TimesLaws.{times_append, times_nil, times_of_law, times_behind, times_some, space_escape}
use Rattle.html2text.specs.Serialize.{shortened}
use Rattle.html2text.specs.Showing.{shows_any, showing_after}
use Rattle.html2text.specs.declared.Showing.{Showing}
use Rattle.serializer.specs.Progress.{times_of, shown_then}

-- ---- whether anything is left

empty_is : (s : Bytes) → is_empty s ≡ true → s ≡ []
empty_is [] e = refl
empty_is (c ∷ s) e = absurd_test e refl

some_left : (s : Bytes) → 1 ≤ length s → is_empty s ≡ false
some_left [] h = absurd (omega arith)
some_left (c ∷ s) h = refl

-- nothing is shown of a piece of which nothing is left
pub nothing_left : (squeeze space escapes : Bool) (s : Bytes) → is_empty (shortened squeeze space s) ≡ true → shown squeeze space escapes s ≡ []
unfolding escape
nothing_left squeeze space escapes s e = shown_shortened squeeze space escapes s ∙ ap (escaped_if escapes) (empty_is (shortened squeeze space s) e) ∙ go escapes
  where
    go : (b : Bool) → escaped_if b [] ≡ []
    go true = refl
    go false = refl

-- ---- a blank behind the first byte

space_from : (space : Bool) (s : Bytes) (i : ℕ) → i < length s → space_after is_space space s ≡ space_after is_space false (drop i s)
space_from space s i h =
    let rest : drop i s ≡ get_or s i 0 ∷ drop (suc i) s = drop-cons s i 0 h in
    ap (space_after is_space space) (sym (take-append-drop i s))
    ∙ space_append is_space space (take i s) (drop i s)
    ∙ ap (space_after is_space (space_after is_space space (take i s))) rest
    ∙ ap (space_after is_space false) (sym rest)

-- blanks alone
space_blanks : (s : Bytes) → trim_start_by is_space s ≡ [] → space_after is_space true s ≡ true
unfolding trim_start_by
space_blanks [] e = refl
space_blanks (c ∷ s) e = by_test (is_space c) (λ t. rw t (space_blanks s (rw t at e))) (λ t. absurd_test (ap is_empty (rw t at e)) refl)

module _ (w : Showing) (escaped : Bool) (s : Bytes) {first : First} (b : BeginsAt (w.squeeze && w.space) s first) where
  -- what is shown of the piece is shown of it from that byte on
  pub shown_from : (escapes : Bool) → shown w.squeeze w.space escapes (escaped_if escaped s) ≡ shown_times w.squeeze false (times_of escapes escaped) (drop first.at s)
  shown_from escapes =
      times_of_law w.squeeze w.space escapes escaped s ∙ times_behind w.squeeze w.space (times_of escapes escaped) s (drop first.at s) b.rest

  left_is : shortened w.squeeze w.space (escaped_if escaped s) ≡ shown_times w.squeeze false (times_of false escaped) (drop first.at s)
  left_is = sym (shown_shortened w.squeeze w.space false (escaped_if escaped s)) ∙ shown_from false

  pub any_shown : first.at < length s → shows_any w (escaped_if escaped s) ≡ true
  any_shown h =
      let c = get_or s first.at 0 in
      let rest = drop (suc first.at) s in
      let t = times_of false escaped in
      let e = left_is ∙ ap (shown_times w.squeeze false t) (drop-cons s first.at 0 h) ∙ times_append w.squeeze false t (c ∷ []) rest in
      let x = shown_times w.squeeze false t (c ∷ []) in
      let y = shown_times w.squeeze (is_space c) t rest in
      let some : 1 ≤ length (x ++ y) = omega (arith, length-append x y, ap length (first_byte w.squeeze t c), times_some t (cond (w.squeeze && is_space c) 32 c)) in
      ap not (ap is_empty e ∙ some_left (x ++ y) some)

  pub none_shown : length s ≤ first.at → shows_any w (escaped_if escaped s) ≡ false
  none_shown h = ap not (ap is_empty (left_is ∙ ap (shown_times w.squeeze false (times_of false escaped)) (drop_of_length-le s {i = first.at} h) ∙ times_nil w.squeeze false (times_of false escaped)))

  space_escapes : space_after is_space w.space (escaped_if escaped s) ≡ space_after is_space w.space s
  space_escapes = go escaped
    where
      go : (e : Bool) → space_after is_space w.space (escaped_if e s) ≡ space_after is_space w.space s
      go true = space_escape w.space s
      go false = refl

  -- how the text goes on
  showing_is : w.dropped ≡ false → {any space : Bool} → shows_any w (escaped_if escaped s) ≡ any → space_after is_space w.space s ≡ space
      → showing_after w (escaped_if escaped s) ≡ record { dropped = w.dropped; squeeze = w.squeeze; escapes = w.escapes; empty = w.empty && not any; space = space }
  unfolding showing_after
  showing_is d a e =
      ap (λ (x : Bool). cond x w (record { dropped = w.dropped; squeeze = w.squeeze; escapes = w.escapes; empty = w.empty && not (shows_any w (escaped_if escaped s)); space = space_after is_space w.space (escaped_if escaped s) })) d
      ∙ (λ i. record { dropped = w.dropped; squeeze = w.squeeze; escapes = w.escapes; empty = w.empty && not (a i); space = (space_escapes ∙ e) i })

  pub showing_shown : w.dropped ≡ false → first.at < length s → {space : Bool} → space ≡ space_after is_space false (drop first.at s) → shown_then w space ≡ showing_after w (escaped_if escaped s)
  showing_shown d h {space} e =
      sym (showing_is d (any_shown h) (space_from w.space s first.at h ∙ sym e)
      ∙ (λ i. record { dropped = w.dropped; squeeze = w.squeeze; escapes = w.escapes; empty = and-false w.empty i; space = space }))

  pub showing_blank : w.dropped ≡ false → (length s ≡ 0 → ⊥) → length s ≤ first.at → w ≡ showing_after w (escaped_if escaped s)
  showing_blank d n h =
      let trim = and_parts w.squeeze w.space (by_test (w.squeeze && w.space) (λ t. t) (λ t. absurd (n (ap length (sym (rw t at b.rest) ∙ drop_of_length-le s {i = first.at} h))))) in
      let all : trim_start_by is_space s ≡ [] = sym (rw (trim.0, trim.1) at b.rest) ∙ drop_of_length-le s {i = first.at} h in
      let last : space_after is_space w.space s ≡ w.space = ap (λ (x : Bool). space_after is_space x s) trim.1 ∙ space_blanks s all ∙ sym trim.1 in
      sym (showing_is d (none_shown h) last ∙ (λ i. record { dropped = w.dropped; squeeze = w.squeeze; escapes = w.escapes; empty = and-true w.empty i; space = w.space }))
