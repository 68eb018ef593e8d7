-- `push` meets its contract.
use mathlib.Core.Path.{refl, sym, ap, ◌∙◌}
use mathlib.Core.List.{[], ◌∷◌}
use native.Mathlib.Omega.{arith}
use lib.ListN.{length}
use Rattle.text.specs.Text.{is_ascii_whitespace}
use Rattle.writer.proofs.HeldLaws.{run_room, run_small, ran, rstrip_copies_blank, rstrip_copies_other}
use Rattle.visible_text.proofs.texts.push.Goals.{then-is_blank, else-is_blank}
use Rattle.visible_text.proofs.texts.push.Goals as goal

pub store_byte-requires : goal.store_byte-requires
store_byte-requires c = λ e. omega (arith, run_room (c.args.b ∷ []) c.requires e)

pub grown-requires : goal.grown-requires
grown-requires c = (omega (arith, run_small (c.args.b ∷ []) c.requires), elim c.if-is_blank.branch [ then-is_blank w ↦ omega arith | else-is_blank w ↦ omega arith ])

pub returns : goal.returns
returns c =
    let b = c.args.b in
    ran (b ∷ []) c.requires refl
    (elim c.if-is_blank.branch [
      | then-is_blank w ↦ w.grown-is ∙ sym (ap length (rstrip_copies_blank is_ascii_whitespace b 1 (sym c.is_blank.ensures ∙ w.if-is_blank.true)))
      | else-is_blank w ↦ w.grown-is ∙ sym (ap length (rstrip_copies_other is_ascii_whitespace b 1 (sym c.is_blank.ensures ∙ w.if-is_blank.false)))
    ])
    c.grown.ensures c.store_byte.ensures
