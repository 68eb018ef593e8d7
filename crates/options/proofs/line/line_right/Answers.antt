-- `line::line_right` meets its contract.
use mathlib.Core.Bool.{◌&&◌}
use mathlib.Core.Path.{◌≡◌, refl, ◌∙◌}
use lib.Dec.{leb, eqb}
use lib.ListN.{get_or, length}
use borrow.Author.Tests.{le-leb, lt-leb}
use Rattle.common.proofs.TestLaws.{and_yes}
use Rattle.options.specs.Line.{is_formatting, line_right}
use Rattle.options.proofs.LineLaws.{so_far, joined}
use Rattle.options.proofs.line.line_right.Goals.{then-input-ge-LENGTH, else-input-ge-LENGTH, then-input-eq-LINE_FEED, else-input-eq-LINE_FEED}
use Rattle.options.proofs.line.line_right.Goals as goal

pub returns-then-is_formatting : goal.returns-then-is_formatting
unfolding line_right
returns-then-is_formatting c =
    let s = c.args.input.now in
    let two : c.if-input-ge-LENGTH.value ≡ (leb 12 (length s) && eqb (get_or s 11 0) 10) =
    elim c.if-input-ge-LENGTH.branch [
      | then-input-ge-LENGTH w ↦ and_yes _ (le-leb _ _ w.if-input-ge-LENGTH.true) w.value-is
      | else-input-ge-LENGTH w ↦ so_far _ w.value-is (lt-leb _ _ w.if-input-ge-LENGTH.false)
    ]
    in
    let three : c.if-input-eq-LINE_FEED.value ≡ (c.if-input-ge-LENGTH.value && is_formatting (get_or s 0 0)) =
    elim c.if-input-eq-LINE_FEED.branch [
      | then-input-eq-LINE_FEED w ↦ and_yes _ w.if-input-eq-LINE_FEED.true (w.value-is ∙ w.is_formatting.ensures)
      | else-input-eq-LINE_FEED w ↦ so_far _ w.value-is w.if-input-eq-LINE_FEED.false
    ]
    in
    joined _ _ _ _ two three (and_yes _ c.if-is_formatting.true c.flags_right.ensures)

pub returns-else-is_formatting : goal.returns-else-is_formatting
unfolding line_right
returns-else-is_formatting c =
    let s = c.args.input.now in
    let two : c.if-input-ge-LENGTH.value ≡ (leb 12 (length s) && eqb (get_or s 11 0) 10) =
    elim c.if-input-ge-LENGTH.branch [
      | then-input-ge-LENGTH w ↦ and_yes _ (le-leb _ _ w.if-input-ge-LENGTH.true) w.value-is
      | else-input-ge-LENGTH w ↦ so_far _ w.value-is (lt-leb _ _ w.if-input-ge-LENGTH.false)
    ]
    in
    let three : c.if-input-eq-LINE_FEED.value ≡ (c.if-input-ge-LENGTH.value && is_formatting (get_or s 0 0)) =
    elim c.if-input-eq-LINE_FEED.branch [
      | then-input-eq-LINE_FEED w ↦ and_yes _ w.if-input-eq-LINE_FEED.true (w.value-is ∙ w.is_formatting.ensures)
      | else-input-eq-LINE_FEED w ↦ so_far _ w.value-is w.if-input-eq-LINE_FEED.false
    ]
    in
    joined _ _ _ _ two three (so_far _ refl c.if-is_formatting.false)
