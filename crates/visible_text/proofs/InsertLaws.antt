-- The LFs of a block, written: the blanks at the end away, and then the LFs.
use mathlib.Core.Path.{◌≡◌, sym}
use mathlib.Core.Bool.{Bool}
use mathlib.Core.List.{[], ◌∷◌}
use mathlib.Core.Logic.{◌⊎◌, inl, inr}
use Prim.Native.Nat.{ℕ}
use borrow.Author.Tests.{ne_eqb}
use Rattle.common.specs.Bytes.{Bytes}
use Rattle.text.specs.Text.{is_ascii_whitespace}
use Rattle.writer.specs.Out.{Out, push_all, strip_by}
use Rattle.writer.specs.Writing.{ReadyBy, DoesBy, trimmed}
use Rattle.writer.specs.declared.Writer.{Writer}
use Rattle.writer.proofs.DoesLaws.{does_then, does_by, ready_then, ready_by}
use Rattle.writer.proofs.HeldLaws.{trim_does}
use Rattle.visible_text.specs.Inner.{block, paragraph, pre, insert_by}

-- what is inserted by a step
abbrev Inserts : ℕ → Bytes → Type 0
Inserts step s = (o : Out) → insert_by step o ≡ push_all s (strip_by is_ascii_whitespace o)

module _ (step : ℕ) where
  inserts_block : step ≡ block → Inserts step (0x0a ∷ [])
  unfolding insert_by
  inserts_block e o = rw e

  inserts_pre : step ≡ pre → Inserts step (0x0a ∷ [])
  unfolding insert_by
  inserts_pre e o = rw e

  pub inserts_line : (step ≡ block) ⊎ (step ≡ pre) → Inserts step (0x0a ∷ [])
  inserts_line = elim [ inl e ↦ inserts_block e | inr e ↦ inserts_pre e ]

  pub inserts_paragraph : step ≡ paragraph → Inserts step (0x0a ∷ 0x0a ∷ [])
  unfolding insert_by
  inserts_paragraph e o = rw e

  pub inserts_none : ((step ≡ block) ⊎ (step ≡ pre) → ⊥) → (step ≡ paragraph → ⊥) → (o : Out) → insert_by step o ≡ o
  unfolding insert_by
  inserts_none a c o = simp (ne_eqb step block (λ e. a (inl e)), ne_eqb step pre (λ e. a (inr e)), ne_eqb step paragraph c)

module _ {write : Bool} {w : Writer} {buf : Bytes} {F : Out → Out} where
  module _ (s : Bytes) (e : (o : Out) → F o ≡ push_all s (strip_by is_ascii_whitespace o)) {q : Writer} (q_is : q ≡ trimmed w) where
    trims : DoesBy is_ascii_whitespace write w buf q buf (strip_by is_ascii_whitespace)
    trims = rw q_is (trim_does write w buf)

    pub insert_ready : ReadyBy is_ascii_whitespace write w buf F → ReadyBy is_ascii_whitespace write q buf (push_all s)
    insert_ready r = ready_then trims (ready_by r (λ under o h. e o))

    pub insert_does : {q' : Writer} {buf' : Bytes} → DoesBy is_ascii_whitespace write q buf q' buf' (push_all s)
        → DoesBy is_ascii_whitespace write w buf q' buf' F
    insert_does d = does_by (does_then trims d) (λ under o h. sym (e o))
