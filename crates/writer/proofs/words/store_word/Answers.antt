-- `store_word` meets its contract.
use mathlib.Core.Path.{◌≡◌, sym, ◌∙◌}
use Rattle.common.specs.Bytes.{Bytes}
use Rattle.common.specs.Word.{octets}
use Rattle.common.proofs.Words.{octets_length}
use Rattle.writer.proofs.StoredLaws.{part_stored, octets_bytes}
use Rattle.writer.proofs.words.store_word.Goals as goal

pub returns : goal.returns
returns c =
    let a = c.args in
    let e : ◌≡◌ {A = Bytes} c.copy_from_slice.new.self (octets 8 a.w) = c.copy_from_slice.ensures.after ∙ c.to_le_bytes.ensures ∙ sym (octets_bytes a.w) in
    rw e (part_stored a.out.now (octets 8 a.w) a.at 8 (octets_length 8 a.w) c.requires)
