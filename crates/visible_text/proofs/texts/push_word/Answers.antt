-- `push_word` meets its contract.
use mathlib.Core.Path.{sym, ◌∙◌}
use native.Mathlib.Omega.{arith}
use borrow.Author.Tests.{eq-eqb, ne_eqb}
use Rattle.common.specs.Word.{octets}
use Rattle.common.proofs.Words.{octets_length}
use Rattle.writer.proofs.HeldLaws.{run_room, run_small, ran}
use Rattle.visible_text.proofs.texts.push_word.Goals.{then-last_byte-eq32, else-last_byte-eq32}
use Rattle.visible_text.proofs.texts.push_word.Goals as goal

pub store_octets-requires : goal.store_octets-requires
store_octets-requires c = λ e.
    let word = c.args.word in
    omega (arith, run_room (octets 8 word) c.requires.ready_by e, octets_length 8 word)

pub grown-requires : goal.grown-requires
grown-requires c =
    let word = c.args.word in (
      omega (arith, run_small (octets 8 word) c.requires.ready_by, octets_length 8 word),
      elim c.if-last_byte-eq32.branch [ then-last_byte-eq32 w ↦ omega arith | else-last_byte-eq32 w ↦ omega arith ],
    )

pub returns : goal.returns
returns c =
    ran _ c.requires.ready_by (sym (octets_length 8 c.args.word))
    (elim c.if-last_byte-eq32.branch [
      | then-last_byte-eq32 w ↦ w.grown-is ∙ sym (rw (eq-eqb _ 32 (sym c.last_byte.ensures ∙ w.if-last_byte-eq32.true)) at c.requires.word_len)
      | else-last_byte-eq32 w ↦ w.grown-is ∙ sym (rw (ne_eqb _ 32 (λ t. w.if-last_byte-eq32.false (c.last_byte.ensures ∙ t))) at c.requires.word_len)
    ])
    c.grown.ensures c.store_octets.ensures
