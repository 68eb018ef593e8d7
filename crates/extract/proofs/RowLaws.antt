-- The two passes, and the answer by what each gives.
use Rattle.std.specs.Prelude.{Result, Ok, Err}
use mathlib.Core.Path.{◌≡◌, refl, sym, ap, subst, ◌∙◌}
use mathlib.Core.Bool.{Bool, true, false, true≢false}
use mathlib.Core.List.{List, [], ◌++◌}
use Prim.Native.Nat.{ℕ, ◌-◌, ◌≤◌}
use native.Mathlib.Omega.{arith}
use lib.ListN.{length, take, replicate}
use Rattle.common.specs.Bytes.{Bytes}
use Rattle.options.specs.declared.ExtractOptions.{ExtractOptions}
use Rattle.sheet.specs.declared.line.Layout.{Layout}
use Rattle.writer.specs.Out.{greater}
use Rattle.html2text.specs.Escapes.{bytes_escaped}
use Rattle.html2text.specs.Extract.{going}
use Rattle.html2text.specs.Fused.{closed}
use Rattle.html2text.specs.Serialize.{State}
use Rattle.html2text.specs.declared.ExtractError.{ExtractError}
use Rattle.html2text.specs.declared.Extracted.{Extracted}
use Rattle.visits.specs.Visiting.{events_in, passes_of, run_of}
use Rattle.writing.specs.Passing.{WriteReady, TextPassed, PassRefused, Outcome, PassesAll, limit, stopped}
use Rattle.writing.specs.declared.Passed.{Passed}
use Rattle.writing.specs.declared.LimitError.{LimitError}
use Rattle.writing.specs.declared.LimitError.TheVariants.{ListLevels, OpenRows}
use Rattle.extract.specs.Concluding.{Concludes, GoesOn}
use Rattle.extract.proofs.ConcludeLaws.{concludes_limit, concludes_text, kept_inside}

not_stopped : (x : LimitError) {S : State} → stopped x ≡ going S → true ≡ false
not_stopped (ListLevels line) e = cc
not_stopped (OpenRows line) e = cc

module _ {o : ExtractOptions} {s : Bytes} {l : Layout} {left : List Bool} where
  -- ---- what a pass gives

  module _ {write : Bool} {out out' : Bytes} {m : Result Passed LimitError} (all : PassesAll o s l left write out m out') where
    text_passed : {p : Passed} → m ≡ Ok p → TextPassed o s l left write out p out'
    text_passed e = subst (λ (x : Result Passed LimitError). Outcome o s l left write out x out') e all.outcome

    limit_passed : {x : LimitError} → m ≡ Err x → PassRefused o s l left write out (stopped x) out'
    limit_passed e = subst (λ (x : Result Passed LimitError). Outcome o s l left write out x out') e all.outcome

  -- ---- the first pass, after which out is as it was

  pub measure_ready : (out : Bytes) → WriteReady o s l left false out
  measure_ready out q = absurd (true≢false (sym q))

  module _ {out measured : Bytes} {m : Result Passed LimitError} (all : PassesAll o s l left false out m measured) where
    module _ {p : Passed} (e : m ≡ Ok p) where
      pub rows_go_on : GoesOn (closed o (run_of s l o left)) p.writer.peak
      rows_go_on = let t = text_passed all e in record { state = t.state; goes_on = t.run; longest = t.held.peak }

      pub rows_filled : (names : ℕ) {need : ℕ} {work out' work' : Bytes} {r : Result Extracted ExtractError} → need ≡ greater p.need names → Concludes need p.visits (closed o (run_of s l o left)) measured work r out' work'
          → Concludes (greater (run_of s l o left).note.peak names) (length (passes_of s l left)) (closed o (run_of s l o left)) out work r out' work'
      rows_filled names {need} {work} {out'} {work'} {r} n k =
          let t = text_passed all e in
          subst (λ (j : ℕ). Concludes (greater j names) (length (passes_of s l left)) (closed o (run_of s l o left)) out work r out' work') (t.need_is refl)
          (subst (λ (j : ℕ). Concludes (greater p.need names) j (closed o (run_of s l o left)) out work r out' work') t.visits_is
          (subst (λ (j : ℕ). Concludes j p.visits (closed o (run_of s l o left)) out work r out' work') n
          (subst (λ (b : Bytes). Concludes need p.visits (closed o (run_of s l o left)) b work r out' work') (t.held.still refl) k)))

    pub rows_limit : {x : LimitError} {r : Result Extracted ExtractError} (need passes : ℕ) {work : Bytes} → m ≡ Err x → r ≡ Err (limit x)
        → Concludes need passes (closed o (run_of s l o left)) out work r measured work
    rows_limit {x} need passes {work} e r_is = let t = limit_passed all e in rw (r_is, t.still refl) (concludes_limit need passes out work x t.run)

  -- ---- the second pass

  module _ {peak : ℕ} {out : Bytes} (g : GoesOn (closed o (run_of s l o left)) peak) where
    pub write_ready : peak ≤ length out → WriteReady o s l left true out
    write_ready fits q = record { state = g.state; run = g.goes_on; fits = omega (arith, fits, g.longest) }

    module _ {written : Bytes} {m : Result Passed LimitError} (all : PassesAll o s l left true out m written) where
      module _ {p : Passed} (e : m ≡ Ok p) where
        pub written_inside : p.writer.kept ≤ length written
        written_inside = kept_inside (text_passed all e).held

        pub rows_written : {need passes : ℕ} {work out' work' : Bytes} → need ≤ length work → peak ≤ length out → work' ≡ take 0 work ++ replicate (length work - 0) 0
            → out' ≡ take p.writer.kept written ++ replicate (length written - p.writer.kept) 0 → Concludes need passes (closed o (run_of s l o left)) out work (Ok (record { visits = passes; len = p.writer.kept })) out' work'
        rows_written {need} {passes} {work} h fits zeros text_is =
            let t = text_passed all e in
            let same : g.state ≡ t.state = cc (g.goes_on, t.run) in
            concludes_text need passes out work t.run h (g.longest ∙ ap (λ (S : State). S.out.peak) same) zeros fits t.held text_is

        pub rows_read : p.read ≡ bytes_escaped o [] (events_in s l (passes_of s l left))
        rows_read = (text_passed all e).read_is

      -- no limit is passed
      pub not_limit : {A : Type 0} {x : LimitError} → m ≡ Err x → A
      not_limit {x = x} e = absurd (true≢false (not_stopped x (sym (limit_passed all e).run ∙ g.goes_on)))
