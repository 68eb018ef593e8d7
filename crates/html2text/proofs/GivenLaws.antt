-- A text that is given is that of a run to its end over an accepted sheet.
use Rattle.std.specs.Prelude.{Result, Ok, Err}
use mathlib.Core.Path.{◌≡◌, refl, sym, ap, ◌∙◌}
use mathlib.Core.Bool.{Bool, true, false, cond}
use mathlib.Core.List.{List}
use Prim.Native.Nat.{ℕ, ◌-◌}
use lib.Dec.{ltb}
use lib.ListN.{length, take, replicate}
use lib.Seq.{take-append_seam}
use Rattle.common.specs.Bytes.{Bytes, padded}
use Rattle.common.proofs.Choice.{absurd_test}
use Rattle.options.specs.declared.ExtractOptions.{ExtractOptions}
use Rattle.sheet.specs.Verdict.{verdict}
use Rattle.sheet.specs.declared.line.Layout.{Layout}
use Rattle.sheet.specs.declared.verdict.SheetError.{SheetError}
use Rattle.tree.specs.Node.{Node}
use Rattle.tree.specs.Page.{Page, page_of}
use Rattle.tree.specs.Questions.{on_sheet}
use Rattle.html2text.specs.Demand3.{Gives}
use Rattle.html2text.specs.Extract.{Run, going, too_many_levels, too_many_rows, serialized, finished, concluded, out_then, entries, passes, work_need, extraction, out_after, filtered_by, extraction_of, out_after_of}
use Rattle.html2text.specs.Serialize.{State}
use Rattle.html2text.specs.declared.ExtractError.{ExtractError}
use Rattle.html2text.specs.declared.ExtractError.TheVariants.{Refused, WorkTooShort, OutTooShort}
use Rattle.html2text.specs.declared.Extracted.{Extracted}

-- t is the text of an extraction of the page
pub record TextOf (filtered : Page → ExtractOptions → ℕ → Bool) (p : Page) (o : ExtractOptions) (t : Bytes) : Type 0 where
  pub state : State
  pub run : serialized o (entries (filtered p o) p o) ≡ going state
  pub text : t ≡ finished state

-- ---- an answer that is a text

abbrev is_text : Result Extracted ExtractError → Bool
is_text (Ok x) = true
is_text (Err e) = false

abbrev text_length : Result Extracted ExtractError → ℕ
text_length (Ok x) = x.len
text_length (Err e) = 0

-- the run has gone to its end, and its text is what is written
record Concluded (r : Run) (t : Bytes) : Type 0 where
  state : State
  run : r ≡ going state
  text : t ≡ finished state

concluded_text : (need visits : ℕ) (r : Run) (out work t : Bytes) (v : ℕ) → concluded need visits r (length out) (length work) ≡ Ok (record { visits = v; len = length t })
    → take (length t) (out_then need visits r out work) ≡ t → Concluded r t
concluded_text need visits (too_many_levels line) out work t v e f = absurd_test (ap is_text e) refl
concluded_text need visits (too_many_rows line) out work t v e f = absurd_test (ap is_text e) refl
concluded_text need visits (going S) out work t v e f = go (ltb (length work) need) (ltb (length out) S.out.peak) e f
  where
    go : (a b : Bool) → cond {A = Result Extracted ExtractError} a (Err (WorkTooShort need)) (cond {A = Result Extracted ExtractError} b (Err (OutTooShort S.out.peak)) (Ok (record { visits = visits; len = length (finished S) }))) ≡ Ok (record { visits = v; len = length t })
        → take (length t) (cond a out (cond b out (padded (finished S) (length out)))) ≡ t → Concluded (going S) t
    go true b p q = absurd_test (ap is_text p) refl
    go false true p q = absurd_test (ap is_text p) refl
    go false false p q =
        let n : length t ≡ length (finished S) = sym (ap text_length p) in
        record { state = S; run = refl; text = sym q ∙ ap (λ (k : ℕ). take k (padded (finished S) (length out))) n ∙ take-append_seam (finished S) (replicate (length out - length (finished S)) 0) }

-- ---- a sheet that has a text is accepted

pub record SheetOf (v : Result Layout SheetError) : Type 0 where
  pub layout : Layout
  pub is_sheet : v ≡ Ok layout

sheet_of : (ask : Layout → Result Extracted ExtractError) (v : Result Layout SheetError) (visits len : ℕ) → on_sheet ask (λ e. Err (Refused e)) v ≡ Ok (record { visits = visits; len = len }) → SheetOf v
sheet_of ask (Ok l) visits len e = record { layout = l; is_sheet = refl }
sheet_of ask (Err x) visits len e = absurd_test (ap is_text e) refl

module _ (filters : (ℕ → Node) → List ℕ → ℕ → ExtractOptions → ℕ → Bool) where
  pub gives_text : {s : Bytes} {o : ExtractOptions} {out work t : Bytes} (l : Layout) → verdict s ≡ Ok l → Gives filters s o out work t → TextOf (filtered_by filters) (page_of s l) o t
  unfolding extraction_of out_after_of extraction out_after
  gives_text {s} {o} {out} {work} {t} l e g =
      let p = page_of s l in
      let f = filtered_by filters p o in
      let c = concluded_text (work_need f p o) (passes f p o) (serialized o (entries f p o)) out work t g.visits (rw e at g.answer) (rw e at g.text) in
      record { state = c.state; run = c.run; text = c.text }

  pub gives_sheet : {s : Bytes} {o : ExtractOptions} {out work t : Bytes} → Gives filters s o out work t → SheetOf (verdict s)
  unfolding extraction_of
  gives_sheet {s} {o} {out} {work} {t} g =
      sheet_of (λ l. extraction (filtered_by filters (page_of s l) o) (page_of s l) o (length out) (length work)) (verdict s) g.visits (length t) g.answer
