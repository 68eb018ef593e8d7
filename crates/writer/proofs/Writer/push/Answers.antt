-- `push` meets its contract.
use mathlib.Core.Path.{refl, sym, ap, ◌∙◌}
use mathlib.Core.List.{[], ◌∷◌}
use native.Mathlib.Omega.{arith}
use lib.ListN.{length}
use Rattle.text.specs.Text.{is_space}
use Rattle.writer.proofs.HeldLaws.{run_room, run_small, ran, rstrip_copies_blank, rstrip_copies_other}
use Rattle.writer.proofs.Writer.push.Goals.{then-is_space, else-is_space}
use Rattle.writer.proofs.Writer.push.Goals as goal

pub store_byte-requires : goal.store_byte-requires
store_byte-requires c = λ e. omega (arith, run_room (c.args.b ∷ []) c.requires e)

pub grown-requires : goal.grown-requires
grown-requires c = (omega (arith, run_small (c.args.b ∷ []) c.requires), elim c.if-is_space.branch [ then-is_space w ↦ omega arith | else-is_space w ↦ omega arith ])

pub returns : goal.returns
returns c =
    let b = c.args.b in
    ran (b ∷ []) c.requires refl
    (elim c.if-is_space.branch [
      | then-is_space w ↦ w.grown-is ∙ sym (ap length (rstrip_copies_blank is_space b 1 (sym c.is_space.ensures ∙ w.if-is_space.true)))
      | else-is_space w ↦ w.grown-is ∙ sym (ap length (rstrip_copies_other is_space b 1 (sym c.is_space.ensures ∙ w.if-is_space.false)))
    ])
    c.grown.ensures c.store_byte.ensures
