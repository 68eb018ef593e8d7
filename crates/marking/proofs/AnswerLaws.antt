-- The marker's answer, by the verdict.
use Rattle.std.specs.Prelude.{Result, Ok, Err}
use mathlib.Core.Path.{◌≡◌, sym, ap, ◌∙◌}
use mathlib.Core.Bool.{Bool}
use Prim.Native.Nat.{ℕ}
use Rattle.common.specs.Bytes.{Bytes}
use Rattle.options.specs.declared.ExtractOptions.{ExtractOptions}
use Rattle.sheet.specs.Verdict.{verdict}
use Rattle.sheet.specs.declared.line.Layout.{Layout}
use Rattle.sheet.specs.declared.verdict.SheetError.{SheetError}
use Rattle.sheet_form.specs.Encoding.{encode, decode}
use Rattle.marking.specs.Answers.{marked_of, sheet_after, numbers}
use Rattle.marking.specs.Marks.{marked, marks}

module _ (s : Bytes) (o : ExtractOptions) (noscript : Bool) where
  -- what `mark` ensures
  abbrev Promised : Result ℕ SheetError → Bytes → Type 0
  Promised r t = (r ≡ marked_of s o noscript) × (t ≡ sheet_after s o noscript) × (numbers r ≡ numbers (marked_of s o noscript))

  promised : {r : Result ℕ SheetError} {t : Bytes} → r ≡ marked_of s o noscript → t ≡ sheet_after s o noscript → Promised r t
  promised p q = (p, q, ap numbers p)

  pub marked_refused : {e : SheetError} → verdict s ≡ Err e → Promised (Err e) s
  unfolding marked_of sheet_after
  marked_refused e = promised (rw e) (rw e)

  module _ {l : Layout} (e : verdict s ≡ Ok l) where
    pub answer_is : marked_of s o noscript ≡ Ok (marks o noscript (decode l s))
    unfolding marked_of
    answer_is = rw e

    pub after_is : sheet_after s o noscript ≡ encode l.width (marked o noscript (decode l s))
    unfolding sheet_after
    after_is = rw e

    pub marked_sheet : {n : ℕ} {t : Bytes} → (n ≡ marks o noscript (decode l s)) × (t ≡ encode l.width (marked o noscript (decode l s)))
        → Promised (Ok n) t
    marked_sheet x = promised (ap Ok x.0 ∙ sym answer_is) (x.1 ∙ sym after_is)
