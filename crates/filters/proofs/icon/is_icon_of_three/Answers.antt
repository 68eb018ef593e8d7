-- `icon::is_icon_of_three` meets its contract.
use mathlib.Core.Bool.{◌&&◌}
use mathlib.Core.Path.{◌≡◌, sym, ◌∙◌}
use Prim.Native.Nat.{◌/◌}
use lib.Dec.{eqb}
use borrow.Author.Tests.{eq-eqb, ne_eqb}
use Rattle.common.proofs.TestLaws.{and_yes}
use Rattle.utf8.specs.Abnf.{UTF8_tail}
use Rattle.utf8.specs.Valid.{within}
use Rattle.filters.specs.Icon.{is_icon_character}
use Rattle.utf8.proofs.CharacterLaws.{not_three}
use Rattle.filters.proofs.IconLaws.{icon_three, and_far, tests_of_three, not_all_three}
use Rattle.filters.proofs.icon.is_icon_of_three.Goals.{then-a-eq14, else-a-eq14, then-is_tail, else-is_tail}
use Rattle.filters.proofs.icon.is_icon_of_three.Goals as goal

pub returns-then-is_tail-2 : goal.returns-then-is_tail-2
returns-then-is_tail-2 c =
    let two : c.if-a-eq14.value ≡ (eqb (c.args.a / 16) 14 && within UTF8_tail c.args.b) =
    elim c.if-a-eq14.branch [
      | then-a-eq14 w ↦ and_yes _ (eq-eqb _ _ w.if-a-eq14.true) (w.value-is ∙ w.is_tail.ensures)
      | else-a-eq14 w ↦ and_far _ w.value-is (ne_eqb _ _ w.if-a-eq14.false)
    ]
    in
    let three : c.if-is_tail.value ≡ (c.if-a-eq14.value && within UTF8_tail c.args.c) =
    elim c.if-is_tail.branch [
      | then-is_tail w ↦ and_yes _ w.if-is_tail.true (w.value-is ∙ w.is_tail-then-is_tail.ensures)
      | else-is_tail w ↦ and_far _ w.value-is w.if-is_tail.false
    ]
    in
    icon_three _ _ _ (tests_of_three c.args.b c.args.c _ _ two three c.if-is_tail-2.true) c.number_of_three.ensures c.in_private_use_area.ensures

pub returns-else-is_tail-2 : goal.returns-else-is_tail-2
returns-else-is_tail-2 c =
    let two : c.if-a-eq14.value ≡ (eqb (c.args.a / 16) 14 && within UTF8_tail c.args.b) =
    elim c.if-a-eq14.branch [
      | then-a-eq14 w ↦ and_yes _ (eq-eqb _ _ w.if-a-eq14.true) (w.value-is ∙ w.is_tail.ensures)
      | else-a-eq14 w ↦ and_far _ w.value-is (ne_eqb _ _ w.if-a-eq14.false)
    ]
    in
    let three : c.if-is_tail.value ≡ (c.if-a-eq14.value && within UTF8_tail c.args.c) =
    elim c.if-is_tail.branch [
      | then-is_tail w ↦ and_yes _ w.if-is_tail.true (w.value-is ∙ w.is_tail-then-is_tail.ensures)
      | else-is_tail w ↦ and_far _ w.value-is w.if-is_tail.false
    ]
    in
    c.if-is_tail-2.false ∙ sym (not_three is_icon_character _ _ _ (not_all_three c.args.b c.args.c _ _ two three c.if-is_tail-2.false))
