-- `icon::is_icon_of_four` meets its contract.
use mathlib.Core.Bool.{◌&&◌}
use mathlib.Core.Path.{◌≡◌, sym, ◌∙◌}
use Prim.Native.Nat.{◌/◌}
use lib.Dec.{eqb}
use borrow.Author.Tests.{eq-eqb, ne_eqb}
use Rattle.common.proofs.TestLaws.{and_yes}
use Rattle.utf8.specs.Abnf.{UTF8_tail}
use Rattle.utf8.specs.Valid.{within}
use Rattle.filters.specs.Icon.{is_icon_character}
use Rattle.common.proofs.Choice.{and_parts, and_both, absurd_test}
use Rattle.utf8.proofs.CharacterLaws.{not_four}
use Rattle.filters.proofs.IconLaws.{icon_four, and_far, tests_of_three}
use Rattle.filters.proofs.icon.is_icon_of_four.Goals.{then-a-eq30, else-a-eq30, then-is_tail, else-is_tail, then-is_tail-2, else-is_tail-2}
use Rattle.filters.proofs.icon.is_icon_of_four.Goals as goal

pub returns-then-is_tail-3 : goal.returns-then-is_tail-3
returns-then-is_tail-3 c =
    let two : c.if-a-eq30.value ≡ (eqb (c.args.a / 8) 30 && within UTF8_tail c.args.b) =
    elim c.if-a-eq30.branch [
      | then-a-eq30 w ↦ and_yes _ (eq-eqb _ _ w.if-a-eq30.true) (w.value-is ∙ w.is_tail.ensures)
      | else-a-eq30 w ↦ and_far _ w.value-is (ne_eqb _ _ w.if-a-eq30.false)
    ]
    in
    let three : c.if-is_tail.value ≡ (c.if-a-eq30.value && within UTF8_tail c.args.c) =
    elim c.if-is_tail.branch [
      | then-is_tail w ↦ and_yes _ w.if-is_tail.true (w.value-is ∙ w.is_tail-then-is_tail.ensures)
      | else-is_tail w ↦ and_far _ w.value-is w.if-is_tail.false
    ]
    in
    let four : c.if-is_tail-2.value ≡ (c.if-is_tail.value && within UTF8_tail c.args.d) =
    elim c.if-is_tail-2.branch [
      | then-is_tail-2 w ↦ and_yes _ w.if-is_tail-2.true (w.value-is ∙ w.is_tail-then-is_tail-2.ensures)
      | else-is_tail-2 w ↦ and_far _ w.value-is w.if-is_tail-2.false
    ]
    in
    let last = and_parts _ _ (sym four ∙ c.if-is_tail-3.true) in
    let f = tests_of_three c.args.b c.args.c _ _ two three last.0 in
    icon_four _ _ _ _ (f.0, f.1, f.2, last.1) c.number_of_four.ensures c.in_upper_planes.ensures

pub returns-else-is_tail-3 : goal.returns-else-is_tail-3
returns-else-is_tail-3 c =
    let two : c.if-a-eq30.value ≡ (eqb (c.args.a / 8) 30 && within UTF8_tail c.args.b) =
    elim c.if-a-eq30.branch [
      | then-a-eq30 w ↦ and_yes _ (eq-eqb _ _ w.if-a-eq30.true) (w.value-is ∙ w.is_tail.ensures)
      | else-a-eq30 w ↦ and_far _ w.value-is (ne_eqb _ _ w.if-a-eq30.false)
    ]
    in
    let three : c.if-is_tail.value ≡ (c.if-a-eq30.value && within UTF8_tail c.args.c) =
    elim c.if-is_tail.branch [
      | then-is_tail w ↦ and_yes _ w.if-is_tail.true (w.value-is ∙ w.is_tail-then-is_tail.ensures)
      | else-is_tail w ↦ and_far _ w.value-is w.if-is_tail.false
    ]
    in
    let four : c.if-is_tail-2.value ≡ (c.if-is_tail.value && within UTF8_tail c.args.d) =
    elim c.if-is_tail-2.branch [
      | then-is_tail-2 w ↦ and_yes _ w.if-is_tail-2.true (w.value-is ∙ w.is_tail-then-is_tail-2.ensures)
      | else-is_tail-2 w ↦ and_far _ w.value-is w.if-is_tail-2.false
    ]
    in
    c.if-is_tail-3.false
    ∙ sym (not_four is_icon_character _ _ _ _ (λ f. absurd_test (four ∙ and_both (three ∙ and_both (two ∙ and_both (eq-eqb _ _ f.0) f.1) f.2) f.3) c.if-is_tail-3.false))
