-- `pad` meets its contract.
use mathlib.Core.Path.{sym, ap, ◌∙◌}
use Prim.Native.Nat.{ℕ}
use native.Mathlib.Omega.{arith}
use lib.ListN.{length, replicate, length-replicate}
use Rattle.text.specs.Text.{is_space}
use Rattle.writer.proofs.HeldLaws.{run_room, run_small, ran, rstrip_copies_blank, rstrip_copies_other}
use Rattle.writer.proofs.Writer.pad.Goals.{then-is_space, else-is_space}
use Rattle.writer.proofs.Writer.pad.Goals as goal

pub store_copies-requires : goal.store_copies-requires
store_copies-requires c =
    let a = c.args in
    λ e. omega (arith, run_room (replicate a.times a.b) c.requires e, length-replicate {A = ℕ} a.times a.b)

pub grown-requires : goal.grown-requires
grown-requires c =
    let a = c.args in (
      omega (arith, run_small (replicate a.times a.b) c.requires, length-replicate {A = ℕ} a.times a.b),
      elim c.if-is_space.branch [ then-is_space w ↦ omega arith | else-is_space w ↦ omega arith ],
    )

pub returns : goal.returns
returns c =
    let a = c.args in
    let s = replicate a.times a.b in
    ran s c.requires (sym (length-replicate a.times a.b))
    (elim c.if-is_space.branch [
      | then-is_space w ↦ w.grown-is ∙ sym (ap length (rstrip_copies_blank is_space a.b a.times (sym c.is_space.ensures ∙ w.if-is_space.true)))
      | else-is_space w ↦ w.grown-is ∙ sym (ap length (rstrip_copies_other is_space a.b a.times (sym c.is_space.ensures ∙ w.if-is_space.false)) ∙ length-replicate a.times a.b)
    ])
    c.grown.ensures c.store_copies.ensures
