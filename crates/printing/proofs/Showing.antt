-- What is shown of an extraction: its numbers, and the text where there is one.
use Rattle.std.specs.Prelude.{Result, Ok, Err}
use mathlib.Core.Path.{◌≡◌, refl, sym, ap, ap₂, subst, ◌∙◌}
use mathlib.Core.List.{[], ◌∷◌, ◌++◌, append-nil}
use Prim.Native.Nat.{ℕ, ◌+◌, ◌≤◌}
use native.Mathlib.Omega.{arith}
use lib.ListN.{length, take, length-append}
use lib.Seq.{length-take-le}
use Rattle.common.specs.Answer.{Answer}
use Rattle.common.specs.Bytes.{Bytes}
use Rattle.common.specs.Puts.{Puts}
use Rattle.common.proofs.Puts.{puts_then, puts_length}
use Rattle.html2text.specs.Extract.{numbers}
use Rattle.html2text.specs.declared.ExtractError.{ExtractError}
use Rattle.html2text.specs.declared.Extracted.{Extracted}
use Rattle.sheet.proofs.WritingColumns.{line_length}
use Rattle.printing.specs.Printed.{answer_line, text_in, TextFits, shown}

pub puts_as : {before s t after : Bytes} {past : ℕ} → Puts before 0 s after past → s ≡ t → Puts before 0 t after past
puts_as {before} {s} {t} {after} {past} p e = subst (λ (x : Bytes). Puts before 0 x after past) e p

-- ---- length

pub answer_length : (a : Answer) → length (answer_line a) ≡ 33
answer_length a = line_length 8 (a.number ∷ a.second ∷ a.visits ∷ a.length ∷ [])

text_length : (e : Result Extracted ExtractError) (out : Bytes) → TextFits e out → length (text_in e out) ≤ length out + 1
text_length (Ok text) out f = omega (arith, length-append (take text.len out) (10 ∷ []), length-take-le text.len out (f text refl), f text refl)
text_length (Err e) out f = omega arith

pub shown_length : (e : Result Extracted ExtractError) (out : Bytes) → TextFits e out → length (shown e out) ≤ 33 + length out + 1
unfolding shown
shown_length e out f = omega (arith, length-append (answer_line (numbers e)) (text_in e out), answer_length (numbers e), text_length e out f)

-- ---- cases

module _ (e : Result Extracted ExtractError) (out : Bytes) {a : Answer} (n : a ≡ numbers e) {before middle : Bytes} {at : ℕ} (p : Puts before 0 (answer_line a) middle at) where
  pub shown_numbers : {x : ExtractError} → e ≡ Err x → Puts before 0 (shown e out) middle at
  unfolding shown
  shown_numbers k =
      puts_as p (sym (append-nil (answer_line a)) ∙ ap₂ (λ (x : Answer) (s : Bytes). answer_line x ++ s) n (sym (ap (λ (x : Result Extracted ExtractError). text_in x out) k)))

  pub shown_text : {text : Extracted} {after : Bytes} {past : ℕ} → e ≡ Ok text → Puts middle at (take text.len out ++ 10 ∷ []) after past → Puts before 0 (shown e out) after past
  unfolding shown
  shown_text k q =
      puts_as (puts_then p q) (ap₂ (λ (x : Answer) (s : Bytes). answer_line x ++ s) n (sym (ap (λ (x : Result Extracted ExtractError). text_in x out) k)))

  -- behind the line of numbers there is room for the text
  pub text_room : {len : ℕ} → 33 + length out + 1 ≤ length before → len ≤ length out → at + length (take len out) + 1 ≤ length middle
  text_room {len} h f = omega (arith, p.place, answer_length a, puts_length p, length-take-le len out f)
