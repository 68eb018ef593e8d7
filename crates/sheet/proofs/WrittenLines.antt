-- A line of four numbers that have room in their columns reads back as it was written.
use Rattle.std.specs.Prelude.{Some}
use mathlib.Core.Path.{◌≡◌, sym, ap, subst, ◌∙◌}
use mathlib.Core.List.{◌∷◌, ◌++◌, append_assoc}
use Prim.Native.Nat.{ℕ, ◌+◌, ◌^◌, ◌<◌}
use native.Mathlib.Omega.{arith}
use lib.ListN.{get_or, take, drop}
use lib.Seq.{take_at, drop_at, drop-drop, get_or-drop}
use Rattle.common.specs.Bytes.{Bytes}
use Rattle.sheet.specs.Columns.{columns, field_of}
use Rattle.sheet.specs.Lines.{field_at, short_line_of}
use Rattle.sheet.specs.Writing.{line, quad_line}
use Rattle.sheet.specs.declared.line.Quad.{Quad}
use Rattle.sheet.proofs.ColumnsLaws.{reads_back}
use Rattle.sheet.proofs.WritingColumns.{columns_length}

module _ (w : ℕ) (some : 0 < w) where
  -- the columns at `at` hold n, and t stands behind them
  module _ (s : Bytes) (at n : ℕ) (t : Bytes) (e : drop at s ≡ columns w n ++ t) where
    columns_there : take w (drop at s) ≡ columns w n
    columns_there = ap (take w) e ∙ take_at (columns w n) t w (columns_length w n)

    field_there : n < 10 ^ w → field_at w s at ≡ Some n
    unfolding field_at
    field_there h =
        let long = columns_length w n in
        ap field_of columns_there
        ∙ (reads_back (columns w n) n).1 (ap (λ (k : ℕ). columns k n) (sym long), subst (λ (k : ℕ). 0 < k) (sym long) some, subst (λ (k : ℕ). n < 10 ^ k) (sym long) h)

    behind_there : drop (at + w) s ≡ t
    behind_there = sym (drop-drop w at s) ∙ ap (drop w) e ∙ drop_at (columns w n) t w (columns_length w n)

  module _ (q : Quad) (a : q.first < 10 ^ w) (b : q.second < 10 ^ w) (c : q.third < 10 ^ w) (d : q.fourth < 10 ^ w) where
    pub line_reads_back : (rest : Bytes) → short_line_of w (quad_line w q ++ rest) 0 ≡ Some q
    unfolding short_line_of line
    line_reads_back rest =
        let s = quad_line w q ++ rest in
        let t4 : Bytes = 10 ∷ rest in
        let t3 : Bytes = columns w q.fourth ++ t4 in
        let t2 : Bytes = columns w q.third ++ t3 in
        let t1 : Bytes = columns w q.second ++ t2 in
        let e0 : drop 0 s ≡ columns w q.first ++ t1 =
        append_assoc (columns w q.first) _ rest
        ∙ ap (λ (x : Bytes). columns w q.first ++ x)
        (append_assoc (columns w q.second) _ rest
        ∙ ap (λ (x : Bytes). columns w q.second ++ x)
        (append_assoc (columns w q.third) _ rest ∙ ap (λ (x : Bytes). columns w q.third ++ x) (append_assoc (columns w q.fourth) _ rest))) in
        let e1 = behind_there s 0 q.first t1 e0 in
        let e2 = behind_there s (0 + w) q.second t2 e1 in
        let e3 = behind_there s (0 + w + w) q.third t3 e2 in
        let e4 = behind_there s (0 + w + w + w) q.fourth t4 e3 in
        let at = 0 + w + w + w + w in
        let z : at + 0 ≡ at = omega arith in
        let end : get_or s at 0 ≡ 10 = ap (λ (k : ℕ). get_or s k 0) (sym z) ∙ sym (get_or-drop at s 0 0) ∙ ap (λ (m : Bytes). get_or m 0 0) e4 in
        rw (end, field_there s 0 q.first t1 e0 a, field_there s (0 + w) q.second t2 e1 b, field_there s (0 + w + w) q.third t3 e2 c, field_there s (0 + w + w + w) q.fourth t4 e3 d)
