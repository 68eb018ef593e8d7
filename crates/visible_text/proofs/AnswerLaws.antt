-- A text that is refused or written, by a length that is enough for it.
use Rattle.visible_text.specs.declared.VisibleTextError.TheVariants.{TooShort}
use Rattle.visible_text.specs.declared.VisibleTextError.{VisibleTextError}
use Rattle.tree.specs.declared.questions.QuestionError.{QuestionError}
use Rattle.sheet.specs.declared.line.Row.{Row}
use Rattle.std.specs.Prelude.{Result, Ok, Err}
use mathlib.Core.Path.{◌≡◌, refl, sym, ap, ap₂, ◌∙◌}
use mathlib.Core.Bool.{Bool, true, false, true≢false}
use mathlib.Core.List.{◌++◌}
use Prim.Native.Nat.{ℕ, ◌-◌, ◌≤◌, ◌<◌}
use native.Mathlib.Omega.{arith}
use lib.ListN.{length, take, replicate}
use borrow.Author.Tests.{lt-ltb, le-ltb}
use Rattle.common.specs.Bytes.{Bytes}
use Rattle.sheet.specs.Accepted.{Accepted}
use Rattle.sheet.specs.Layout.{depths}
use Rattle.sheet.specs.declared.line.Layout.{Layout}
use Rattle.text.specs.Text.{is_ascii_whitespace}
use Rattle.tree.specs.Page.{node_at}
use Rattle.tree.specs.Questions.{asked_of}
use Rattle.tree.specs.Rows.{children_of}
use Rattle.tree.proofs.QuestionsLaws.{asked_by_sheet}
use Rattle.writer.specs.Out.{Out, nothing}
use Rattle.writer.specs.Writing.{HeldBy, ReadyBy, DoesBy}
use Rattle.writer.specs.declared.Writer.{Writer}
use Rattle.writer.proofs.HeldLaws.{held_none}
use Rattle.visible_text.specs.Answers.{of_question, answered_in, holding, visible_text_in, visible_text_out}
use Rattle.visible_text.specs.VisibleText.{walk, visible}
use Rattle.visible_text.proofs.CostLaws.{visible_small}

abbrev start : Writer
start = record { len = 0; kept = 0; peak = 0 }

module _ {s : Bytes} {l : Layout} {row : ℕ} (a : Accepted s l) (h : row < l.nodes) where
  abbrev F : Out → Out
  F = walk (node_at s l) (children_of (depths s l) row)

  abbrev o : Out
  o = visible (node_at s l) (depths s l) row

  start_ready : {write : Bool} (out : Bytes) → (write ≡ true → (F nothing).peak ≤ length out) → ReadyBy is_ascii_whitespace write start out F
  start_ready out fits =
      record {
        under = out;
        out = nothing;
        held = held_none refl refl (λ e. refl);
        room = record { small = visible_small a row h; fits = fits };
      }

  pub measure_ready : (out : Bytes) → ReadyBy is_ascii_whitespace false start out F
  measure_ready out = start_ready out (λ e. absurd (true≢false (sym e)))

  -- a length that is enough, and the need itself where the output is shorter
  abbrev Enough : Bytes → Bytes → ℕ → Type 0
  Enough out out' n = (out' ≡ out) × ((o.peak ≤ n) × (length out < n → n ≡ o.peak))

  pub measured : {out out' : Bytes} {m : Writer} → DoesBy is_ascii_whitespace false start out m out' F → Enough out out' m.peak
  unfolding visible
  measured {out} d =
      let held = d.run out nothing (held_none refl refl (λ e. refl)) in
      (held.still refl, (omega (arith, held.peak), λ g. held.peak))

  module _ {out out' : Bytes} {n : ℕ} (enough : Enough out out' n) where
    pub too_short : length out' < n → (Err (TooShort n) ≡ answered_in o (length out)) × (out' ≡ holding o out)
    too_short g =
        let need = enough.1.1 (omega (arith, ap length enough.0)) in
        let t = lt-ltb (length out) o.peak (omega (arith, ap length enough.0, need)) in
        (rw (t, need), rw t enough.0)

    module _ (g : n ≤ length out') where
      room : (F nothing).peak ≤ length out'
      unfolding visible
      room = omega (arith, enough.1.0)

      pub write_ready : ReadyBy is_ascii_whitespace true start out' F
      write_ready = start_ready out' (λ e. room)

      module _ {out'' : Bytes} {w : Writer} (e : DoesBy is_ascii_whitespace true start out' w out'' F) where
        wrote : HeldBy is_ascii_whitespace true out' w out'' (F nothing)
        wrote = e.run out' nothing (held_none refl refl (λ q. refl))

        pub fits : w.len ≤ length out''
        fits = omega (arith, wrote.len, wrote.below, wrote.long, room)

        pub written : {final : Bytes} → final ≡ take w.len out'' ++ replicate (length out'' - w.len) 0
            → (Ok w.len ≡ answered_in o (length out)) × (final ≡ holding o out)
        unfolding visible
        written q =
            let t = le-ltb (length out) (F nothing).peak (omega (arith, ap length enough.0, room)) in
            let text = ap (λ (k : ℕ). take k out'') wrote.len ∙ wrote.text refl in
            let zeros = ap₂ (λ (x y : ℕ). replicate {A = ℕ} (x - y) 0) (wrote.long ∙ ap length enough.0) wrote.len in
            (rw (t, wrote.len), rw t (q ∙ ap₂ ◌++◌ text zeros))

-- ---- the answer to a byte string

module _ (s : Bytes) (row : ℕ) (out : Bytes) where
  abbrev answer_to : Result (Layout × Row) QuestionError → Result ℕ VisibleTextError
  answer_to (Ok p) = answered_in (visible (node_at s p.0) (depths s p.0) row) (length out)
  answer_to (Err e) = Err (of_question e)

  abbrev out_to : Result (Layout × Row) QuestionError → Bytes
  out_to (Ok p) = holding (visible (node_at s p.0) (depths s p.0) row) out
  out_to (Err e) = out

  pub answered : {x : Result (Layout × Row) QuestionError} {r : Result ℕ VisibleTextError} {out' : Bytes} → x ≡ asked_of s row → (r ≡ answer_to x) × (out' ≡ out_to x)
      → (r ≡ visible_text_in s row (length out)) × (out' ≡ visible_text_out s row out)
  unfolding visible_text_in visible_text_out
  answered e p = (
    p.0 ∙ ap answer_to e ∙ asked_by_sheet s row answer_to (λ l. refl) refl (λ e. refl),
    p.1 ∙ ap out_to e ∙ asked_by_sheet s row out_to (λ l. refl) refl (λ e. refl),
  )
