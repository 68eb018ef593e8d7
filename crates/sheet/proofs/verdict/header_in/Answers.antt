-- `verdict::header_in` meets its contract.
use Rattle.std.specs.Prelude.{Err}
use Prim.Native.Nat.{ℕ}
use mathlib.Core.Path.{sym, ap, ◌∙◌}
use Rattle.sheet.specs.declared.verdict.SheetError.TheVariants.{Length}
use Rattle.sheet.proofs.Header.{counted, header_short, header_bad, header_counts, header_length_law, header_sheet}
use Rattle.sheet.proofs.verdict.header_in.Goals as goal

pub returns-then-s-header : goal.returns-then-s-header
returns-then-s-header c = header_short _ _ c.if-s-header.true

pub returns-in_default : goal.returns-in_default
returns-in_default c = header_bad _ _ c.if-s-header.false (sym c.read_short_line.ensures ∙ c.in_default.is)

pub returns-then-not-counts_right : goal.returns-then-not-counts_right
returns-then-not-counts_right c = header_counts _ _ c.if-s-header.false (sym c.read_short_line.ensures ∙ c.in-Some.is) (sym c.counts_right.ensures ∙ c.if-not-counts_right.true)

pub size_of-size-requires : goal.size_of-size-requires
size_of-size-requires c =
    let k = counted _ (sym c.counts_right.ensures ∙ c.if-not-counts_right.false) in
    (c.requires, k.nodes, k.attributes, k.pool)

pub returns-then-s-size : goal.returns-then-s-size
returns-then-s-size c =
    ap (λ (n : ℕ). Err (Length n)) c.size_of-size.ensures
    ∙ header_length_law _ _ c.if-s-header.false (sym c.read_short_line.ensures ∙ c.in-Some.is) (sym c.counts_right.ensures ∙ c.if-not-counts_right.false) (λ e. c.if-s-size.true (e ∙ sym c.size_of-size.ensures))

pub returns : goal.returns
returns c =
    header_sheet _ _ c.if-s-header.false (sym c.read_short_line.ensures ∙ c.in-Some.is) (sym c.counts_right.ensures ∙ c.if-not-counts_right.false) (c.if-s-size.false ∙ c.size_of-size.ensures)
