-- What is printed, case by case.
use Rattle.std.specs.Prelude.{Result, Ok, Option, Some, None}
use mathlib.Core.Path.{◌≡◌, sym, ap, ap₂, ◌∙◌}
use mathlib.Core.List.{◌++◌}
use Prim.Native.Nat.{ℕ, ◌+◌, ◌-◌, ◌≤◌, ◌<◌}
use native.Mathlib.Nat.{zero-add}
use native.Mathlib.Omega.{arith}
use lib.ListN.{length, take, drop, replicate, length-append, length-replicate}
use borrow.Author.Tests.{lt-ltb, le-ltb}
use Rattle.common.specs.Answer.{Answer, refused}
use Rattle.common.specs.Bytes.{Bytes, padded}
use Rattle.common.specs.Puts.{Puts}
use Rattle.common.specs.Refusals.{input_too_long}
use Rattle.common.proofs.Choice.{by_test}
use Rattle.common.proofs.Parts.{part_from}
use Rattle.common.proofs.Puts.{puts_length, puts_padded}
use Rattle.html2text.specs.Extract.{numbers}
use Rattle.html2text.specs.declared.ExtractError.{ExtractError}
use Rattle.html2text.specs.declared.Extracted.{Extracted}
use Rattle.options.specs.Line.{line_length, line_of, line_right}
use Rattle.options.specs.Line as option_line
use Rattle.options.specs.declared.ExtractOptions.{ExtractOptions}
use Rattle.options.proofs.LineLaws.{line_long}
use Rattle.reader.specs.Extraction.{extraction_of, out_after_of}
use Rattle.reader.proofs.DemandsLaws.{demand_1}
use Rattle.printing.proofs.Showing.{puts_as, answer_length, shown_length}
use Rattle.printing.specs.Printed.{room, zeros, answer_line, TextFits, shown, answered, printed}

-- the text that an extraction gives lies in the buffer, since the buffer is as long as before
text_fits : (s : Bytes) (o : ExtractOptions) (out work : Bytes) {e : Result Extracted ExtractError} {after : Bytes}
    → e ≡ extraction_of s o (length out) (length work) → after ≡ out_after_of s o out work → length after ≡ length out → TextFits e after
text_fits s o out work {e} {after} a b same text t =
    let known = (demand_1 s o out work).text (ap (λ (x : Result Extracted ExtractError). (numbers x).number) (sym a ∙ t)) in
    let long = ap (λ (x : Result Extracted ExtractError). (numbers x).length) (sym a ∙ t) in
    omega (arith, same, ap length (b ∙ known.2), length-append known.0 (replicate (length out - length known.0) 0), length-replicate {A = ℕ} (length out - length known.0) 0, sym long ∙ known.1)

-- what is stored, and that the buffer is not left
abbrev Stored : Bytes → Bytes → Bytes → ℕ → Type 0
Stored before s to r = Puts before 0 s to r × (r ≤ length to)

-- ---- by buffers of zeros

module _ (s : Bytes) (o : ExtractOptions) {out work after : Bytes} {e : Result Extracted ExtractError} (z : (out ≡ zeros) × (work ≡ zeros)) (a : e ≡ extraction_of s o (length out) (length work)) (b : after ≡ out_after_of s o out work) where
  pub sheet_room : {n : ℕ} → length after ≡ length out → 33 + room + 1 ≤ n → TextFits e after × (33 + length after + 1 ≤ n)
  sheet_room same h = (text_fits s o out work a b same, omega (arith, same, ap length z.0, length-replicate {A = ℕ} room 0, h))

  pub sheet_shown : {before to : Bytes} {r : ℕ} → length after ≡ length out → 33 + room + 1 ≤ length before → Puts before 0 (shown e after) to r → Stored before (answered s o) to r
  sheet_shown {before} {to} {r} same h p =
      let long = length-replicate {A = ℕ} room 0 in
      let fits = sheet_room same h in
      let within : r ≤ length to = omega (arith, p.place, shown_length e after fits.0, fits.1, puts_length p) in
      (puts_as p (ap₂ shown (a ∙ ap₂ (extraction_of s o) (ap length z.0 ∙ long) (ap length z.1 ∙ long)) (b ∙ ap₂ (out_after_of s o) z.0 z.1)), within)

-- ---- cases

-- an option line that is right is there whole
pub line_there : (s : Bytes) {o : ExtractOptions} → line_of s ≡ Some o → line_length ≤ length s
line_there s {o} e =
    by_test (line_right s) (line_long s)
    (λ f. let w : None ≡ Some o = rw f at e in let none : 33 ≡ 0 = ap (λ (l : Option ExtractOptions). (option_line.numbers l).number) w in absurd (omega (arith, none)))

-- a line of numbers
numbers_only : {before s to : Bytes} {r : ℕ} (a : Answer) → 33 + room + 1 ≤ length before → Puts before 0 (answer_line a) to r → answer_line a ≡ s → Stored before s to r
numbers_only a h p e = (puts_as p e, omega (arith, p.place, answer_length a, puts_length p))

module _ (input : Bytes) {before to : Bytes} {r : ℕ} where
  pub printed_long : (a : Answer) → 33 + room + 1 ≤ length before → room < length input → a ≡ refused input_too_long 0 → Puts before 0 (answer_line a) to r → Stored before (printed input) to r
  unfolding printed
  printed_long a f h e p = rw (lt-ltb room (length input) h) (numbers_only a f p (ap answer_line e))

  module _ (h : length input ≤ room) {l : Option ExtractOptions} (line : l ≡ line_of input) where
    pub printed_wrong : (a : Answer) → 33 + room + 1 ≤ length before → l ≡ None → a ≡ option_line.numbers l → Puts before 0 (answer_line a) to r → Stored before (printed input) to r
    unfolding printed
    printed_wrong a f w e p = rw (le-ltb room (length input) h, sym line ∙ w) (numbers_only a f p (ap answer_line (e ∙ ap option_line.numbers w)))

    pub printed_sheet : {o : ExtractOptions} → l ≡ Some o → Puts before 0 (answered (take (length input - line_length) (drop line_length input)) o) to r → Puts before 0 (printed input) to r
    unfolding printed
    printed_sheet {o} w p =
        rw (le-ltb room (length input) h, sym line ∙ w) (puts_as p (ap (λ (s : Bytes). answered s o) (part_from input line_length)))

  -- and zeros behind it
  pub print_padded : {after : Bytes} → Puts before 0 (printed input) to r × (r ≤ length to) → after ≡ take r to ++ replicate (length to - r) 0
      → (after ≡ padded (printed input) (length before)) × (r ≡ length (printed input)) × (r ≤ length after)
  print_padded {after} p e =
      let place : r ≡ length (printed input) = p.0.place ∙ zero-add (length (printed input)) in
      let same = puts_length p.0 in
      let padded_is = e ∙ puts_padded p.0 (omega (arith, place, same, p.1)) in (
        padded_is,
        place,
        omega (arith, place, same, p.1, ap length padded_is, length-append (printed input) (replicate (length before - length (printed input)) 0), length-replicate {A = ℕ} (length before - length (printed input)) 0),
      )
