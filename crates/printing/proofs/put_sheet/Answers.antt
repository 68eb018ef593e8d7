-- `put_sheet` meets its contract.
use Rattle.printing.proofs.Printing.{sheet_room, sheet_shown}
use Rattle.printing.proofs.put_sheet.Goals as goal

pub put_extraction-requires : goal.put_extraction-requires
put_extraction-requires c = sheet_room _ _ (c.requires.0, c.requires.1) c.extract-e.ensures.answer c.extract-e.ensures.text c.extract-e.auto.out c.requires.2

pub returns : goal.returns
returns c =
    let all = sheet_shown _ _ (c.requires.0, c.requires.1) c.extract-e.ensures.answer c.extract-e.ensures.text c.extract-e.auto.out c.requires.2 c.put_extraction.ensures in
    record { stored = all.0; within = all.1 }
