-- Every number that is printed is below 100,000,000.
use Rattle.std.specs.Prelude.{Result, Ok, Err, Option, Some, None}
use mathlib.Core.Path.{subst, ◌≡◌, refl, sym, ap, ◌∙◌}
use mathlib.Core.Bool.{Bool, true}
use mathlib.Core.List.{[], ◌++◌, append-nil}
use Prim.Native.Nat.{ℕ, ◌+◌, ◌-◌, ◌*◌, ◌≤◌, ◌<◌}
use native.Mathlib.Nat.{lt_of_le_of_lt, mul-le-mul_left}
use native.Mathlib.Omega.{arith}
use lib.Dec.{ltb, lit≤, lit<}
use lib.ListN.{length, take, drop, length-drop}
use lib.Seq.{take_at}
use borrow.Author.Tests.{ltb-true, ltb-false}
use Rattle.common.specs.Answer.{Answer, refused}
use Rattle.common.specs.Bytes.{Bytes}
use Rattle.common.specs.Refusals.{input_too_long}
use Rattle.common.proofs.Choice.{by_test, by_cond}
use Rattle.html2text.specs.Bounds.{beside, AnswerBounded, written_by}
use Rattle.html2text.specs.Extract.{numbers, extraction}
use Rattle.html2text.specs.Extract as extract
use Rattle.html2text.specs.declared.ExtractError.{ExtractError}
use Rattle.html2text.specs.declared.Extracted.{Extracted}
use Rattle.html2text.specs.declared.ExtractError.TheVariants.{Refused}
use Rattle.html2text.proofs.AnswerBounds.{extraction_bounded}
use Rattle.options.specs.Line.{line_length, line_of}
use Rattle.options.specs.declared.ExtractOptions.{ExtractOptions}
use Rattle.reader.specs.Extraction.{filters, extraction_of, out_after_of}
use Rattle.sheet.specs.Accepted.{Accepted}
use Rattle.sheet.specs.Lines.{short_line_of}
use Rattle.sheet.specs.Verdict.{verdict}
use Rattle.sheet.specs.declared.line.Layout.{Layout}
use Rattle.sheet.specs.declared.verdict.SheetError.{SheetError}
use Rattle.sheet.proofs.Acceptance.{accepts}
use Rattle.sheet.proofs.FirstWrong.{all_right}
use Rattle.sheet.proofs.NumberLaws.{Low, verdict_low}
use Rattle.sheet.proofs.WrittenLines.{line_reads_back}
use Rattle.tree.specs.Page.{page_of}
use Rattle.tree.specs.Questions.{on_sheet}
use Rattle.printing.specs.Columns.{NumbersFit, quad_of, LinesFit}
use Rattle.printing.specs.Printed.{room, zeros, answer_line, text_in, shown, behind_line, printed, answer_behind, answer_to}
use Rattle.printing.proofs.Showing.{answer_length}

-- ---- the needs of a sheet of at most 16,384 bytes

-- by its rows, the pool being what they leave: the greatest is 77,241,311, at 129 rows
abbrev most : ℕ → ℕ
most n = (2 * n + 1) * (6 * (6 * (16351 - 65 * n) + 11) + beside (2 * n))

all_low : (n : ℕ) → n < 252 → ltb (most n) 100000000 ≡ true
all_low = all_right (λ n. ltb (most n) 100000000) 252 refl

module _ {s : Bytes} {l : Layout} (accepted : Accepted s l) (width : l.width ≡ 8) (short : length s ≤ room) where
  size : 33 + 65 * l.nodes + l.pool ≤ room
  size =
      let long : length s ≡ 4 * 8 + 1 + (8 * 8 + 1) * l.nodes + (4 * 8 + 1) * l.attributes + l.pool = accepted.sized.size ∙ ap (λ (w : ℕ). 4 * w + 1 + (8 * w + 1) * l.nodes + (4 * w + 1) * l.attributes + l.pool) width in
      omega (arith, long, short)

  need_low : (2 * l.nodes + 1) * written_by l < 100000000
  need_low =
      let less : written_by l ≤ 6 * (6 * (16351 - 65 * l.nodes) + 11) + beside (2 * l.nodes) = omega (arith, size) in
      lt_of_le_of_lt (mul-le-mul_left (2 * l.nodes + 1) less) (ltb-true (most l.nodes) 100000000 (all_low l.nodes (omega (arith, size))))

  bounded_fits : {a : Answer} → AnswerBounded l room a → NumbersFit a
  bounded_fits b =
      record { number = omega (arith, b.number); second = lt_of_le_of_lt b.second need_low; visits = omega (arith, b.visits, size); length = omega (arith, b.length) }

-- ---- the answer to a sheet

refused_fits : (e : SheetError) → Low (Err e) → NumbersFit (numbers (Err (Refused e)))
refused_fits e h =
    record { number = omega (arith, h.number); second = omega (arith, h.second); visits = omega (arith, h.visits); length = omega (arith, h.length) }

by_verdict : (P : Result Extracted ExtractError → Type 0) (ask : Layout → Result Extracted ExtractError) (v : Result Layout SheetError)
    → ((l : Layout) → v ≡ Ok l → P (ask l)) → ((e : SheetError) → v ≡ Err e → P (Err (Refused e))) → P (on_sheet ask (λ e. Err (Refused e)) v)
by_verdict P ask (Ok l) f g = f l refl
by_verdict P ask (Err e) f g = g e refl

sheet_fits : (s : Bytes) (o : ExtractOptions) → length s ≤ room → NumbersFit (numbers (extraction_of s o room room))
unfolding extract.extraction_of
sheet_fits s o short =
    by_verdict (λ x. NumbersFit (numbers x)) (λ l. extraction (left l) (page_of s l) o room room) (verdict s)
    (λ l e. let a = accepts (lit≤ tt) e in bounded_fits a.1 a.0 short (extraction_bounded a.1 (left l) o room room))
    (λ e v. refused_fits e (subst Low v (verdict_low s)))
  where
    left : Layout → ℕ → Bool
    left l = filters (page_of s l).node (page_of s l).depths (page_of s l).root o

-- ---- the line

behind_fits : (line : Option ExtractOptions) (s : Bytes) → length s ≤ room → NumbersFit (answer_behind line s)
behind_fits (Some o) s h = sheet_fits s o h
behind_fits None s h = record { number = omega arith; second = omega arith; visits = omega arith; length = omega arith }

answer_fits : (input : Bytes) → NumbersFit (answer_to input)
unfolding answer_to
answer_fits input =
    by_cond NumbersFit (ltb room (length input)) (λ e. record { number = omega arith; second = omega arith; visits = omega arith; length = omega arith })
    (λ e. behind_fits (line_of input) (drop line_length input) (omega (arith, length-drop line_length input, ltb-false room (length input) e)))

-- the line comes first
abbrev BeginsWith : Answer → Bytes → Type 0
BeginsWith a s = (rest : Bytes) × (s ≡ answer_line a ++ rest)

behind_begins : (line : Option ExtractOptions) (s : Bytes) → BeginsWith (answer_behind line s) (behind_line line s)
unfolding shown
behind_begins (Some o) s = (text_in (extraction_of s o room room) (out_after_of s o zeros zeros), refl)
behind_begins None s = ([], sym (append-nil _))

printed_begins : (input : Bytes) → BeginsWith (answer_to input) (printed input)
unfolding printed answer_to
printed_begins input =
    by_test (ltb room (length input)) (λ e. rw e ([], sym (append-nil (answer_line (refused input_too_long 0)))))
    (λ e. rw e (behind_begins (line_of input) (drop line_length input)))

pub lines_fit : LinesFit
lines_fit input =
    let a = answer_to input in
    let b = printed_begins input in
    let f = answer_fits input in
    record {
      fits = f;
      long = answer_length a;
      first = ap (take 33) b.1 ∙ take_at (answer_line a) b.0 33 (answer_length a);
      reads_back = ap (λ (s : Bytes). short_line_of 8 s 0) b.1 ∙ line_reads_back 8 (lit< tt) (quad_of a) f.number f.second f.visits f.length b.0;
    }
