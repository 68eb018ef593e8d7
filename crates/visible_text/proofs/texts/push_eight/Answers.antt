-- `push_eight` meets its contract.
use mathlib.Core.Path.{sym, ap}
use Rattle.common.proofs.Parts.{part_to}
use Rattle.text.specs.Text.{is_ascii_whitespace, collapse_from}
use Rattle.writer.proofs.DoesLaws.{ready_same, does_same}
use Rattle.visible_text.proofs.CollapsedLaws.{squeezed_kept, squeezed_at}
use Rattle.visible_text.proofs.texts.push_eight.Goals as goal

-- they are squeezed
pub push_word-requires : goal.push_word-requires
push_word-requires c =
    let squeezed = c.is_squeezed.ensures c.if-is_squeezed.true in
    record {
      word_len = squeezed_kept squeezed;
      ready_by = ready_same
          (squeezed_at squeezed c.args.s.now (λ k. (c.type_inv.s k).fits) _ c.requires.at_in_bounds
          c.word_at-word.ensures)
          c.requires.ready_by;
    }

pub returns-then-is_squeezed : goal.returns-then-is_squeezed
returns-then-is_squeezed c =
    let squeezed = c.is_squeezed.ensures c.if-is_squeezed.true in
    does_same
    (squeezed_at squeezed c.args.s.now (λ k. (c.type_inv.s k).fits) _ c.requires.at_in_bounds
    c.word_at-word.ensures)
    c.push_word.ensures

-- they go one by one
pub push_bytes-requires : goal.push_bytes-requires
push_bytes-requires c =
    ready_same (ap (collapse_from is_ascii_whitespace c.args.space) (sym (part_to c.args.s.now c.args.at 8)))
    c.requires.ready_by

pub returns : goal.returns
returns c =
    does_same (ap (collapse_from is_ascii_whitespace c.args.space) (sym (part_to c.args.s.now c.args.at 8)))
    c.push_bytes.ensures
