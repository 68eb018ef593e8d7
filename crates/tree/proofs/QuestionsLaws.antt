-- The cases of a single-row question, what is known of an accepted sheet that is asked, and the numbers of an answer.
use Rattle.std.specs.Prelude.{Option, None, Some, Result, Ok, Err}
use mathlib.Core.Path.{◌≡◌, refl, sym, ap, ◌∙◌}
use mathlib.Core.Bool.{Bool, true, false, cond}
use mathlib.Core.List.{List, [], ◌∷◌}
use Prim.Native.Nat.{ℕ, ◌≤◌, ◌<◌}
use native.Mathlib.Omega.{arith}
use lib.Dec.{ltb, lit≤}
use borrow.Author.Tests.{lt-ltb, le-ltb, ltb-true, ltb-false}
use Rattle.common.specs.Bytes.{Bytes}
use Rattle.common.proofs.Choice.{by_test, absurd_test}
use Rattle.sheet.specs.Accepted.{Accepted}
use Rattle.sheet.specs.Layout.{row_at, depths}
use Rattle.sheet.specs.Verdict.{verdict, is_sheet}
use Rattle.sheet.proofs.Acceptance.{NotSheet, not_sheet, accepts}
use Rattle.sheet.specs.declared.line.Layout.{Layout}
use Rattle.sheet.specs.declared.line.Row.{Row}
use Rattle.sheet.specs.declared.verdict.SheetError.{SheetError}
use Rattle.tree.specs.declared.questions.QuestionError.{QuestionError}
use Rattle.tree.specs.declared.questions.QuestionError.TheVariants.{Refused, NoRow}
use Rattle.tree.specs.Questions.{on_sheet, by_sheet, lookup_of, with_row, asked_of, relative_to, relative_of, numbers, row_or_none, relative_numbers, answered}

module _ (s : Bytes) (l : Layout) (i : ℕ) where
  pub lookup_there : {r : Row} → i < l.nodes → r ≡ row_at s l i → Some r ≡ lookup_of s l i
  unfolding lookup_of
  lookup_there h e = rw (lt-ltb i l.nodes h, lookup_of) (ap Some e)

  pub lookup_missing : l.nodes ≤ i → None ≡ lookup_of s l i
  unfolding lookup_of
  lookup_missing h = rw (le-ltb i l.nodes h, lookup_of)

  -- what is known of a row that is there
  pub lookup_known : {r : Row} → lookup_of s l i ≡ Some r → (i < l.nodes) × (r ≡ row_at s l i)
  lookup_known {r} e = by_test (ltb i l.nodes) there missing
    where
      there : ltb i l.nodes ≡ true → (i < l.nodes) × (r ≡ row_at s l i)
      there t = let h = ltb-true i l.nodes t in let p = lookup_there h refl ∙ e in (h, cc)

      missing : ltb i l.nodes ≡ false → (i < l.nodes) × (r ≡ row_at s l i)
      missing t =
          let p = lookup_missing (ltb-false i l.nodes t) ∙ e in
          let z : ◌≡◌ {A = ℕ} 0 1 = cc in
          absurd (omega arith)

-- a function of the answer goes into both ways
pub on_sheet_map : {A B : Type 0} (f : A → B) {ask : Layout → A} {refuse : SheetError → A} {ask' : Layout → B} {refuse' : SheetError → B}
    → ((l : Layout) → f (ask l) ≡ ask' l) → ((e : SheetError) → f (refuse e) ≡ refuse' e) → (v : Result Layout SheetError) → f (on_sheet ask refuse v) ≡ on_sheet ask' refuse' v
on_sheet_map f a r (Ok l) = a l
on_sheet_map f a r (Err e) = r e

module _ (s : Bytes) (row : ℕ) where
  pub asked_of_law : {l : Layout} {r : Row} → Ok l ≡ verdict s → Some r ≡ lookup_of s l row → Ok (l, r) ≡ asked_of s row
  unfolding asked_of
  asked_of_law {l} v e = rw (← v, ← e)

  pub asked_no_row : {l : Layout} → Ok l ≡ verdict s → None ≡ lookup_of s l row → Err (NoRow row) ≡ asked_of s row
  unfolding asked_of
  asked_no_row {l} v e = rw (← v, ← e)

  pub asked_refused : {e : SheetError} → Err e ≡ verdict s → Err (Refused e) ≡ asked_of s row
  unfolding asked_of
  asked_refused v = rw (← v)

  -- a sheet that is asked is accepted and has the row
  pub asked_known : {l : Layout} {r : Row} → Ok (l, r) ≡ asked_of s row → Accepted s l × (row < l.nodes) × (r ≡ row_at s l row)
  unfolding asked_of
  asked_known {l} {r} e = by_verdict (verdict s) refl e
    where
      pair_of : Result (Layout × Row) QuestionError → Layout × Row
      pair_of (Ok p) = p
      pair_of (Err e) = (l, r)

      by_lookup : (k : Layout) (x : Option Row) → verdict s ≡ Ok k → lookup_of s k row ≡ x → Ok (l, r) ≡ with_row k row x → Accepted s l × (row < l.nodes) × (r ≡ row_at s l row)
      by_lookup k (Some q) v x p =
          let l_is : k ≡ l = sym (ap (λ (x : Result (Layout × Row) QuestionError). (pair_of x).0) p) in
          let r_is : q ≡ r = sym (ap (λ (x : Result (Layout × Row) QuestionError). (pair_of x).1) p) in
          let known = lookup_known s l row (rw (l_is, r_is) at x) in
          ((accepts (lit≤ tt) (rw l_is at v)).1, known.0, known.1)
      by_lookup k None v x p = let z : ◌≡◌ {A = ℕ} 0 1 = cc in absurd (omega arith)

      by_verdict : (v : Result Layout SheetError) → verdict s ≡ v → Ok (l, r) ≡ on_sheet (λ l. with_row l row (lookup_of s l row)) (λ e. Err (Refused e)) v → Accepted s l × (row < l.nodes) × (r ≡ row_at s l row)
      by_verdict (Ok k) v p = by_lookup k (lookup_of s k row) v refl p
      by_verdict (Err e) v p = let z : ◌≡◌ {A = ℕ} 0 1 = cc in absurd (omega arith)

-- what is made of an answer, by the sheet alone
module _ (s : Bytes) (row : ℕ) {A : Type 0} (f : Result (Layout × Row) QuestionError → A) where
  pub asked_by_sheet : {there : Layout → A} {missing : A} {refuse : SheetError → A}
      → ((l : Layout) → f (Ok (l, row_at s l row)) ≡ there l) → f (Err (NoRow row)) ≡ missing → ((e : SheetError) → f (Err (Refused e)) ≡ refuse e)
      → f (asked_of s row) ≡ by_sheet there missing refuse s row
  unfolding asked_of lookup_of
  asked_by_sheet {there} {missing} a m r = on_sheet_map f (λ l. at l (ltb row l.nodes)) r (verdict s)
    where
      at : (l : Layout) (b : Bool) → f (with_row l row (cond b (Some (row_at s l row)) None)) ≡ cond b (there l) missing
      at l true = a l
      at l false = m

module _ (relation : List ℕ → ℕ → Option ℕ) (s : Bytes) (row : ℕ) where
  numbers_is : numbers (relative_of relation s row) ≡ relative_numbers relation s row
  unfolding relative_of relative_numbers
  numbers_is = asked_by_sheet s row (λ x. numbers (relative_to relation s row x)) (λ l. refl) refl (λ e. refl)

  -- an answer that is right has the right numbers
  pub relative_is : {r : Result (Option ℕ) QuestionError} {a : Result (Layout × Row) QuestionError} → r ≡ relative_to relation s row a → a ≡ asked_of s row
      → (r ≡ relative_of relation s row) × (numbers r ≡ relative_numbers relation s row)
  unfolding relative_of
  relative_is {r} {a} e q =
      let p : r ≡ relative_to relation s row (asked_of s row) = e ∙ ap (relative_to relation s row) q in
      (p, ap numbers p ∙ numbers_is)
