-- The pass over the node lines.
use Rattle.std.specs.Prelude.{Option, None, Some, Ok, Err}
use mathlib.Core.Path.{◌≡◌, refl, sym, ap, ◌∙◌}
use mathlib.Core.Bool.{Bool, true, false}
use Prim.Native.Nat.{ℕ, suc, ◌+◌, ◌-◌, ◌*◌, ◌^◌, ◌≤◌, ◌<◌}
use native.Mathlib.Nat.{sub-zero, add-zero}
use native.Mathlib.Omega.{arith}
use native.Mathlib.Numerals.{add-one}
use Rattle.common.specs.Bytes.{Bytes}
use Rattle.common.proofs.Choice.{by_test}
use Rattle.sheet.specs.Layout.{header_length, node_length, node_start, row_at, pool_of}
use Rattle.sheet.specs.Lines.{line_right, row_from, node_line_of}
use Rattle.sheet.specs.Notes.{Sized, note_of, tree_right, note_row, nodes_read}
use Rattle.sheet.specs.Verdict.{first_wrong, kind_right, row_ranges, row_texts, nodes, node_format, node_kind, node_tree, node_range, node_text, counts_from}
use Rattle.sheet.specs.declared.line.Layout.{Layout}
use Rattle.sheet.specs.declared.line.Row.{Row}
use Rattle.sheet.specs.declared.notes.Notes.{Notes}
use Rattle.sheet.proofs.FirstWrong.{Noting, first_right, first_wrong_law, first_end, noting_start, noting_more, noting_end, noted_as}
use Rattle.sheet.proofs.LayoutLaws.{number_below, row_there}
use Rattle.sheet.proofs.Parents.{tree_test}

module _ (pool : Bytes) (n : Notes) (i : ℕ) (before r : Row) where
  pub note_row_is : {k t g e : Option ℕ} {a b c d : Bool} → k ≡ note_of n.kind a i → a ≡ kind_right r → t ≡ note_of n.tree b i → b ≡ tree_right pool i before r
      → g ≡ note_of n.range c i → c ≡ row_ranges pool r
      → e ≡ note_of n.encoding d i → d ≡ row_texts pool r
      → ◌≡◌ {A = Notes} (record { kind = k; tree = t; range = g; encoding = e; counts = n.counts + r.attributes }) (note_row pool n i before r)
  unfolding note_row
  note_row_is {k} {t} {g} {e} {a} {b} {c} {d} ek ea et eb eg ec ee ed j =
      record { kind = noted_as n.kind i ek ea j; tree = noted_as n.tree i et eb j; range = noted_as n.range i eg ec j; encoding = noted_as n.encoding i ee ed j; counts = n.counts + r.attributes }

-- ---- a line of eight numbers, or none

module _ (w : ℕ) (s : Bytes) (at : ℕ) where
  pub line_numbers : {r : Row} → node_line_of w s at ≡ Some r → (line_right w s at 8 ≡ true) × (r ≡ row_from w s at)
  unfolding node_line_of
  line_numbers {r} e = by_test (line_right w s at 8) (λ q. (q, number_row (rw q at e))) (λ q. not_bad (rw q at e))
    where
      number_row : Some (row_from w s at) ≡ Some r → r ≡ row_from w s at
      number_row h = cc

      not_bad : None ≡ Some r → (line_right w s at 8 ≡ true) × (r ≡ row_from w s at)
      not_bad h = absurd (let z : ◌≡◌ {A = ℕ} 0 1 = cc in omega arith)

  pub line_bad : node_line_of w s at ≡ None → line_right w s at 8 ≡ false
  unfolding node_line_of
  line_bad e = by_test (line_right w s at 8) (λ q. not_numbers (rw q at e)) (λ q. q)
    where
      not_numbers : Some (row_from w s at) ≡ None → line_right w s at 8 ≡ false
      not_numbers h = absurd (let z : ◌≡◌ {A = ℕ} 0 1 = cc in omega arith)

-- ---- the loop

module _ (s : Bytes) (l : Layout) where
  pub record Nodes (n : Notes) (before : Row) (at i : ℕ) : Type 0 where
    pub within : i ≤ l.nodes
    pub place : at ≡ node_start l i
    pub format : first_wrong (node_format s l) i (l.nodes - i) ≡ nodes s l (node_format s l)
    pub kind : Noting (node_kind s l) l.nodes i n.kind
    pub tree : Noting (node_tree s l) l.nodes i n.tree
    pub range : Noting (node_range s l) l.nodes i n.range
    pub encoding : Noting (node_text s l) l.nodes i n.encoding
    pub counts : n.counts + counts_from s l i (l.nodes - i) ≡ counts_from s l 0 l.nodes
    pub small : n.counts ≤ 10 ^ 10 * i
    pub row : 0 < i → before ≡ row_at s l (i - 1)

  abbrev no_notes : Notes
  no_notes = record { kind = None; tree = None; range = None; encoding = None; counts = 0 }

  pub nodes_start : (before : Row) → Nodes no_notes before (header_length l.width) 0
  nodes_start before =
      record {
        within = omega arith;
        place = omega arith;
        format = rw sub-zero;
        kind = noting_start;
        tree = noting_start;
        range = noting_start;
        encoding = noting_start;
        counts = rw sub-zero (omega arith);
        small = omega arith;
        row = λ h. absurd (omega arith);
      }

  module _ (sized : Sized s l) {n : Notes} {before : Row} {at i : ℕ} (p : Nodes n before at i) (h : i < l.nodes) where
    pub node_row : {r : Row} → node_line_of l.width s at ≡ Some r → r ≡ row_at s l i
    node_row e = (line_numbers l.width s at e).1 ∙ ap (row_from l.width s) p.place ∙ sym (row_there s l i h)

    format_right : {r : Row} → node_line_of l.width s at ≡ Some r → node_format s l i ≡ true
    unfolding node_format
    format_right e = ap (λ (k : ℕ). line_right l.width s k 8) (sym p.place) ∙ (line_numbers l.width s at e).0

    format_wrong : node_line_of l.width s at ≡ None → node_format s l i ≡ false
    unfolding node_format
    format_wrong q = ap (λ (k : ℕ). line_right l.width s k 8) (sym p.place) ∙ line_bad l.width s at q

    pub nodes_bad : node_line_of l.width s at ≡ None → Err i ≡ nodes_read s l
    unfolding nodes_read
    nodes_bad e = rw (sym p.format ∙ first_wrong_law (node_format s l) l.nodes i h (format_wrong e), nodes_read)

    counts_more : counts_from s l i (l.nodes - i) ≡ (row_at s l i).attributes + counts_from s l (i + 1) (l.nodes - (i + 1))
    unfolding counts_from
    counts_more = let e : l.nodes - i ≡ suc (l.nodes - (i + 1)) = omega arith in rw (e, add-one)

    pub count_small : {r : Row} → node_line_of l.width s at ≡ Some r → r.attributes < 10 ^ 10
    count_small e = rw (node_row e, row_there s l i h) (number_below l.width s _ sized.width)

    pub nodes_more : {r : Row} {next : Notes} {pool : Bytes} {then : ℕ} → node_line_of l.width s at ≡ Some r → pool ≡ pool_of s l → next ≡ note_row pool n i before r → then ≡ at + node_length l.width → Nodes next r then (i + 1)
    unfolding note_row node_kind node_range node_text
    nodes_more {r} {next} {pool} {then} e of q t =
        let x = node_row e in
        rw (q, of, x)
        (record {
          within = omega arith;
          place = omega (arith, t, p.place);
          format = sym (first_right (node_format s l) l.nodes i h (format_right e)) ∙ p.format;
          kind = noting_more h (λ u. refl) p.kind;
          tree = noting_more h (λ u. tree_test s l i h (p.tree.clean u) before p.row) p.tree;
          range = noting_more h (λ u. refl) p.range;
          encoding = noting_more h (λ u. refl) p.encoding;
          counts = omega (arith, p.counts, counts_more);
          small = omega (arith, p.small, rw x at (count_small e));
          row = λ u. ap (row_at s l) (omega arith);
        })

  counts_end : {n : Notes} {before : Row} {at i : ℕ} → Nodes n before at i → l.nodes ≤ i → n.counts ≡ counts_from s l 0 l.nodes
  unfolding counts_from
  counts_end {n} {before} {at} {i} p h = let e : l.nodes - i ≡ 0 = omega arith in sym (add-zero n.counts) ∙ (rw e at p.counts)

  pub nodes_end : {n : Notes} {before : Row} {at i : ℕ} → Nodes n before at i → l.nodes ≤ i → Ok n ≡ nodes_read s l
  unfolding nodes_read
  nodes_end {n} {before} {at} {i} p h =
      rw (sym p.format ∙ first_end (node_format s l) l.nodes i h, nodes_read)
      (λ j.
      Ok
      (record {
        kind = noting_end h p.kind j;
        tree = noting_end h p.tree j;
        range = noting_end h p.range j;
        encoding = noting_end h p.encoding j;
        counts = counts_end p h j;
      }))
