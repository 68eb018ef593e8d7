-- A sheet before and after it is marked is alike but for further marks.
use Rattle.std.specs.Prelude.{Ok}
use mathlib.Core.Path.{◌≡◌, sym, ◌∙◌}
use mathlib.Core.Bool.{Bool}
use mathlib.Core.Logic.{inr}
use Rattle.common.specs.Bytes.{Bytes}
use Rattle.common.proofs.Choice.{absurd_test}
use Rattle.common.proofs.TestLaws.{or_right, or_cases}
use Rattle.html2text.specs.Demand3.{AlikeButMarks}
use Rattle.marking.specs.Theorems.{chosen, SheetMarked}
use Rattle.marking.proofs.MarkedSheet.{sheet_marked}
use Rattle.options.specs.declared.ExtractOptions.{ExtractOptions}
use Rattle.sheet.specs.Verdict.{verdict}
use Rattle.sheet.specs.declared.line.Layout.{Layout}
use Rattle.tree.specs.AlikeSheets.{AlikeButSkips}
use Rattle.tree.specs.Page.{page_of}
use Rattle.reader.specs.Marked.{after, MarkedTexts}
use Rattle.reader.proofs.DemandsLaws.{demand_3}

module _ (s : Bytes) (l : Layout) (by : ExtractOptions) (noscript : Bool) (e : verdict s ≡ Ok l) where
  m : SheetMarked s l by noscript
  m = sheet_marked s l by noscript e

  alike_but_skips : AlikeButSkips s (after s l by noscript) l
  alike_but_skips =
      record {
        first = e;
        second = m.accepted;
        size = m.size;
        same = λ k out. m.bytes k (λ i h new x. out (record { row = i; there = h; from = x.from; to = x.to }));
      }

  alike : AlikeButMarks s (after s l by noscript) l
  alike =
      record {
        bytes = alike_but_skips;
        kept = λ i h old. m.marks i h ∙ or_right (chosen s l by noscript i) _ old;
        below = λ i h old new.
            let either = sym (m.marks i h) ∙ new in
            let further = or_cases (chosen s l by noscript i) ((page_of s l).marked i) (λ x. x) (λ x. absurd_test x old) either in
            inr ((m.rows i h).0 further).below;
      }

pub marked_texts : MarkedTexts
marked_texts s l by noscript e =
    record {
      alike = alike s l by noscript e;
      texts = λ o off out₁ work₁ t₁ g₁ out₂ work₂ t₂ g₂ cells₁ cells₂.
          (demand_3 s o out₁ work₁ t₁ off g₁).pieces _ out₂ work₂ t₂ g₂ l (alike s l by noscript e) cells₁ cells₂;
    }
