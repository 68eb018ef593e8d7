-- What the passes conclude from the rows that are left out is the extraction of the page.
use Rattle.std.specs.Prelude.{Result}
use mathlib.Core.Path.{◌≡◌, ap, ap₂, subst, ◌∙◌}
use mathlib.Core.Bool.{Bool}
use mathlib.Core.List.{List, []}
use Prim.Native.Nat.{ℕ}
use lib.ListN.{length}
use Rattle.common.specs.Bytes.{Bytes}
use Rattle.options.specs.declared.ExtractOptions.{ExtractOptions}
use Rattle.sheet.specs.declared.line.Layout.{Layout}
use Rattle.tree.specs.Page.{node_at, page_of}
use Rattle.writer.specs.Out.{greater}
use Rattle.html2text.specs.Collect.{Event}
use Rattle.html2text.specs.Escapes.{bytes_escaped, escaped_length, read_in}
use Rattle.html2text.specs.Extract.{Run, serialized, hidden, entries, passes, work_need, extraction, out_after, work_after}
use Rattle.html2text.specs.Fused.{idle, closed, fed_all}
use Rattle.html2text.specs.Walk.{events, visits, tree_of}
use Rattle.html2text.specs.declared.ExtractError.{ExtractError}
use Rattle.html2text.specs.declared.Extracted.{Extracted}
use Rattle.html2text.proofs.FusionLaws.{fusion}
use Rattle.visits.specs.Visiting.{events_in, passes_of, run_of}
use Rattle.extract.specs.Concluding.{Concludes, names_need, Extracts}

module _ (s : Bytes) (l : Layout) (o : ExtractOptions) (filtered : ℕ → Bool) (left : List Bool) where
  abbrev walked : List Event
  walked = events (node_at s l) (hidden filtered (page_of s l) o) 0 (tree_of (page_of s l))

  module _ (same : events_in s l (passes_of s l left) ≡ walked) where
    run_is : closed o (run_of s l o left) ≡ serialized o (entries filtered (page_of s l) o)
    run_is = ap (λ (es : List Event). closed o (fed_all o es idle)) same ∙ (fusion o walked).run

    need_is : {names : ℕ} → names ≡ names_need (page_of s l) o → greater (run_of s l o left).note.peak names ≡ work_need filtered (page_of s l) o
    need_is e = ap₂ greater (ap (λ (es : List Event). (fed_all o es idle).note.peak) same ∙ (fusion o walked).need) e

    pub extracts : {names : ℕ} {out work out' work' : Bytes} {r : Result Extracted ExtractError} → length (passes_of s l left) ≡ visits (node_at s l) (hidden filtered (page_of s l) o) (tree_of (page_of s l))
        → names ≡ names_need (page_of s l) o → Concludes (greater (run_of s l o left).note.peak names) (length (passes_of s l left)) (closed o (run_of s l o left)) out work r out' work'
        → Extracts filtered (page_of s l) o out work r out' work'
    unfolding extraction out_after work_after
    extracts {names} {out} {work} {out'} {work'} {r} v n k =
        let at = subst (λ (R : Run). Concludes (work_need filtered (page_of s l) o) (passes filtered (page_of s l) o) R out work r out' work') run_is
        (subst (λ (m : ℕ). Concludes (work_need filtered (page_of s l) o) m (closed o (run_of s l o left)) out work r out' work') v
        (subst (λ (m : ℕ). Concludes m (length (passes_of s l left)) (closed o (run_of s l o left)) out work r out' work') (need_is n) k)) in
        record { answer = at.answer; out_is = at.out_is; work_is = at.work_is }

    pub reads : {n : ℕ} (r : Result Extracted ExtractError) → n ≡ read_in r (bytes_escaped o [] (events_in s l (passes_of s l left))) → n ≡ read_in r (escaped_length filtered (page_of s l) o)
    unfolding escaped_length
    reads r e = e ∙ ap (λ (es : List Event). read_in r (bytes_escaped o [] es)) same
