-- What is extracted from an accepted sheet, or refused, is the answer to the byte string.
use Rattle.std.specs.Prelude.{Result, Ok, Err}
use mathlib.Core.Path.{◌≡◌, refl, sym, ap, subst, ◌∙◌}
use mathlib.Core.Bool.{Bool, true}
use Prim.Native.Nat.{ℕ}
use lib.Dec.{lit≤}
use lib.ListN.{length}
use Rattle.common.specs.Bytes.{Bytes}
use Rattle.extract.specs.Concluding.{Extracts, Answers}
use Rattle.filters.specs.Filters.{filtered, filter_depth}
use Rattle.html2text.specs.Escapes.{escaped_length, read_in}
use Rattle.html2text.specs.Escapes as escapes
use Rattle.html2text.specs.Extract as extract
use Rattle.html2text.specs.declared.ExtractError.{ExtractError}
use Rattle.html2text.specs.declared.Extracted.{Extracted}
use Rattle.html2text.specs.declared.ExtractError.TheVariants.{Refused}
use Rattle.options.specs.declared.ExtractOptions.{ExtractOptions}
use Rattle.sheet.specs.Layout.{depths}
use Rattle.sheet.specs.Verdict.{verdict, header_of, judged, is_sheet}
use Rattle.sheet.specs.declared.line.Layout.{Layout}
use Rattle.sheet.specs.declared.verdict.SheetError.{SheetError}
use Rattle.tree.specs.Page.{node_at, page_of}
use Rattle.sheet.proofs.Acceptance.{header_refuses, header_passes, judged_stages, sheet_of}
use Rattle.reader.specs.Extraction.{filters, extraction_of, out_after_of, work_after_of, escaped_length_of}

-- the filters of a page read no marks
same_filters : (s : Bytes) (l : Layout) (o : ExtractOptions) → filtered (page_of s l) o ≡ filters (node_at s l) (depths s l) l.root o
unfolding filtered filter_depth
same_filters s l o = refl

-- a refusal reads nothing
refused_reads : {x : SheetError} {r : Result Extracted ExtractError} (m n : ℕ) → r ≡ Err (Refused x) → read_in r m ≡ read_in r n
refused_reads m n e = rw e

escapes_of_page : (s : Bytes) (o : ExtractOptions) {l : Layout} → verdict s ≡ Ok l → escaped_length_of s o ≡ escaped_length (filtered (page_of s l) o) (page_of s l) o
unfolding escapes.escaped_length_of
escapes_of_page s o {l} v = rw v (ap (λ (f : ℕ → Bool). escaped_length f (page_of s l) o) (sym (same_filters s l o)))

module _ (s : Bytes) (o : ExtractOptions) (out work : Bytes) where
  module _ {l : Layout} {r : Result Extracted ExtractError} {out' work' : Bytes} (v : verdict s ≡ Ok l) (x : Extracts (filtered (page_of s l) o) (page_of s l) o out work r out' work') where
    ours : Extracts (filters (node_at s l) (depths s l) l.root o) (page_of s l) o out work r out' work'
    ours = subst (λ (f : ℕ → Bool). Extracts f (page_of s l) o out work r out' work') (same_filters s l o) x

    pub sheet_answer : r ≡ extraction_of s o (length out) (length work)
    unfolding extract.extraction_of
    sheet_answer = rw v ours.answer

    pub sheet_out : out' ≡ out_after_of s o out work
    unfolding extract.out_after_of
    sheet_out = rw v ours.out_is

    pub sheet_work : work' ≡ work_after_of s o work
    unfolding extract.work_after_of
    sheet_work = rw v ours.work_is

  module _ {x : SheetError} (e : verdict s ≡ Err x) where
    pub refused_answer : Err (Refused x) ≡ extraction_of s o (length out) (length work)
    unfolding extract.extraction_of
    refused_answer = rw e

    pub refused_out : out ≡ out_after_of s o out work
    unfolding extract.out_after_of
    refused_out = rw e

    pub refused_work : work ≡ work_after_of s o work
    unfolding extract.work_after_of
    refused_work = rw e

  -- a header that is refused, and one that is not
  pub header_answers : {x : SheetError} {r : Result Extracted ExtractError} → header_of 8 s ≡ Err x → r ≡ Err (Refused x)
      → (r ≡ extraction_of s o (length out) (length work)) × (out ≡ out_after_of s o out work) × (work ≡ work_after_of s o work)
  header_answers e r_is = let h = sym (header_refuses 8 s (ap is_sheet e)) ∙ e in (r_is ∙ refused_answer h, refused_out h, refused_work h)

  module _ {l : Layout} {r : Result Extracted ExtractError} {out' work' : Bytes} (h : header_of 8 s ≡ Ok l) (x : Answers s l o out work r out' work') where
    judges : judged s l ≡ verdict s
    judges = (header_passes 8 s (lit≤ tt) h).1

    sheet : is_sheet (judged s l) ≡ true → judged s l ≡ Ok l
    sheet t = let k = sheet_of (judged s l) t in k.1 ∙ ap Ok (sym (judged_stages s l k.1).0)

    pub answers : (r ≡ extraction_of s o (length out) (length work)) × (out' ≡ out_after_of s o out work) × (work' ≡ work_after_of s o work)
    answers = by_verdict (judged s l) refl
      where
        by_verdict : (v : Result Layout SheetError) → judged s l ≡ v → (r ≡ extraction_of s o (length out) (length work)) × (out' ≡ out_after_of s o out work) × (work' ≡ work_after_of s o work)
        by_verdict (Ok k) e = let t = sheet (ap is_sheet e) in let v = sym judges ∙ t in let y = x.accepted t in (sheet_answer v y, sheet_out v y, sheet_work v y)
        by_verdict (Err z) e =
            let v = sym judges ∙ e in
            let f = ap is_sheet e in
            (x.refused e ∙ refused_answer v, x.out_same f ∙ refused_out v, x.work_same f ∙ refused_work v)

    pub answers_read : {n : ℕ} → n ≡ read_in r (escaped_length (filtered (page_of s l) o) (page_of s l) o) → n ≡ read_in r (escaped_length_of s o)
    answers_read {n} c = by_verdict (judged s l) refl
      where
        by_verdict : (v : Result Layout SheetError) → judged s l ≡ v → n ≡ read_in r (escaped_length_of s o)
        by_verdict (Ok k) e = c ∙ ap (read_in r) (sym (escapes_of_page s o (sym judges ∙ sheet (ap is_sheet e))))
        by_verdict (Err z) e = c ∙ refused_reads (escaped_length (filtered (page_of s l) o) (page_of s l) o) (escaped_length_of s o) (x.refused e)
