-- How large the numbers of a verdict can be: the second is a line, or the length that the sheet should have.
use Rattle.std.proofs.lemmas.Option.{none-some, same_Some}
use Rattle.std.specs.Prelude.{Option, None, Some, Result, Ok, Err}
use mathlib.Core.Path.{◌≡◌, refl, ap}
use mathlib.Core.Bool.{Bool, true, false, not}
use Prim.Native.Nat.{ℕ, zero, suc, ◌+◌, ◌≤◌, ◌<◌}
use native.Mathlib.Omega.{arith}
use lib.Dec.{ltb, eqb}
use lib.ListN.{length}
use borrow.Author.Tests.{not-false}
use Rattle.common.specs.Answer.{Answer, refused}
use Rattle.common.specs.Bytes.{Bytes}
use Rattle.common.proofs.Choice.{by_cond}
use Rattle.sheet.specs.Layout.{header_length, layout_of, size_of, row_at}
use Rattle.sheet.specs.Lines.{line_right, quad_from}
use Rattle.sheet.specs.Verdict.{first_wrong, stage, counts_right, nodes, attributes, node_format, attribute_format, node_kind, node_tree, node_range, attribute_range, node_text, attribute_text, counts_from, judged, verdict_of, numbers, verdict}
use Rattle.sheet.specs.declared.line.Layout.{Layout}
use Rattle.sheet.specs.declared.verdict.SheetError.{SheetError}
use Rattle.sheet.specs.declared.verdict.SheetError.TheVariants.{Length, Format, Counts, Kind, Tree, Range, Encoding}
use Rattle.sheet.proofs.Header.{Counted, counted}

first_below : (right : ℕ → Bool) (i n j : ℕ) → first_wrong right i n ≡ Some j → j < i + n
first_below right i zero j e = absurd (none-some j e)
first_below right i (suc n) j e = go (right i) (first_below right (suc i) n j) e
  where
    go : (b : Bool) → (first_wrong right (suc i) n ≡ Some j → j < suc i + n) → (elim b [ false ↦ Some i | true ↦ first_wrong right (suc i) n ]) ≡ Some j → j < i + suc n
    go true f h = omega (arith, f h)
    go false f h = omega (arith, same_Some i j h)

by_stage : (P : Result Layout SheetError → Type 0) (x : Option ℕ) {refuse : ℕ → SheetError} {next : Result Layout SheetError} → ((i : ℕ) → x ≡ Some i → P (Err (refuse i))) → P next → P (stage x refuse next)
by_stage P (Some i) f g = f i refl
by_stage P None f g = g

-- 17 is the last number, and the longest sheet has 7,474,337 bytes
pub record Low (v : Result Layout SheetError) : Type 0 where
  pub number : (numbers v).number ≤ 17
  pub second : (numbers v).second ≤ 7474337
  pub visits : (numbers v).visits ≡ 0
  pub length : (numbers v).length ≡ 0

low : (v : Result Layout SheetError) {k n : ℕ} → numbers v ≡ refused k n → k ≤ 17 → n ≤ 7474337 → Low v
low v e a b =
    record {
      number = omega (arith, ap (λ (x : Answer). x.number) e);
      second = omega (arith, ap (λ (x : Answer). x.second) e);
      visits = ap (λ (x : Answer). x.visits) e;
      length = ap (λ (x : Answer). x.length) e;
    }

module _ (s : Bytes) (l : Layout) (c : Counted l) where
  node_line : (right : ℕ → Bool) (i : ℕ) → nodes s l right ≡ Some i → i + 1 ≤ 7474337
  node_line right i e = omega (arith, first_below right 0 l.nodes i e, c.nodes)

  attribute_line : (right : ℕ → Bool) (j : ℕ) → attributes s l right ≡ Some j → l.nodes + j + 1 ≤ 7474337
  attribute_line right j e = omega (arith, first_below right 0 l.attributes j e, c.nodes, c.attributes)

  judged_low : Low (judged s l)
  unfolding judged
  judged_low =
      by_stage Low (nodes s l (node_format s l)) (λ i e. low (Err (Format _)) refl (omega arith) (node_line (node_format s l) i e))
      (by_stage Low (attributes s l (attribute_format s l)) (λ j e. low (Err (Format _)) refl (omega arith) (attribute_line (attribute_format s l) j e))
      (by_stage Low (nodes s l (node_kind s l)) (λ i e. low (Err (Kind _)) refl (omega arith) (node_line (node_kind s l) i e))
      (by_stage Low (nodes s l (node_tree s l)) (λ i e. low (Err (Tree _)) refl (omega arith) (node_line (node_tree s l) i e))
      (by_cond Low (not (eqb (row_at s l l.root).kind 1)) (λ e. low (Err (Tree 0)) refl (omega arith) (omega arith))
      (λ e. by_stage Low (nodes s l (node_range s l)) (λ i e. low (Err (Range _)) refl (omega arith) (node_line (node_range s l) i e))
      (by_stage Low (attributes s l (attribute_range s l)) (λ j e. low (Err (Range _)) refl (omega arith) (attribute_line (attribute_range s l) j e))
      (by_cond Low (not (eqb (counts_from s l 0 l.nodes) l.attributes)) (λ e. low (Err (Range 0)) refl (omega arith) (omega arith))
      (λ e. by_stage Low (nodes s l (node_text s l)) (λ i e. low (Err (Encoding _)) refl (omega arith) (node_line (node_text s l) i e))
      (by_stage Low (attributes s l (attribute_text s l)) (λ j e. low (Err (Encoding _)) refl (omega arith) (attribute_line (attribute_text s l) j e))
      (low (Ok l) {k = 0} {n = 0} refl (omega arith) (omega arith)))))))))))

pub verdict_low : (s : Bytes) → Low (verdict s)
unfolding verdict_of
verdict_low s =
    let l = layout_of 8 (quad_from 8 s 0) in
    by_cond Low (ltb (length s) (header_length 8)) (λ e. low (Err (Length 33)) refl (omega arith) (omega arith))
    (λ e. by_cond Low (not (line_right 8 s 0 4)) (λ e. low (Err (Format 0)) refl (omega arith) (omega arith))
    (λ e. by_cond Low (not (counts_right l)) (λ e. low (Err Counts) refl (omega arith) (omega arith))
    (λ e.
    let c = counted l (not-false (counts_right l) e) in
    by_cond Low (not (eqb (length s) (size_of l))) (λ e. low (Err (Length (size_of l))) refl (omega arith) (omega (arith, c.nodes, c.attributes, c.pool))) (λ e. judged_low s l c))))
