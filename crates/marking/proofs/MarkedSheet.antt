-- A sheet that was marked.
use Rattle.std.specs.Prelude.{Ok}
use mathlib.Core.Path.{◌≡◌, refl, sym, ap, ap₂, ◌∙◌, subst}
use mathlib.Core.Bool.{Bool, true, false, ◌&&◌, ◌||◌}
use mathlib.Core.List.{List, [], ◌∷◌}
use mathlib.Core.Logic.{◌↔◌}
use Prim.Native.Nat.{ℕ, zero, suc, ◌+◌, ◌*◌, ◌≤◌, ◌<◌}
use native.Mathlib.Omega.{arith}
use lib.Dec.{eqb, ltb}
use lib.ListN.{length, get_or, set}
use lib.Seq.{sets, get_or-set_other}
use borrow.Author.Tests.{eqb-true, eqb-false, eq-eqb, ltb-true, lt-ltb}
use Rattle.common.specs.Bytes.{Bytes}
use Rattle.common.proofs.Choice.{by_test, and_parts, and_both}
use Rattle.options.specs.declared.ExtractOptions.{ExtractOptions}
use Rattle.sheet.specs.Columns.{columns}
use Rattle.sheet.specs.Column.{parent_of}
use Rattle.sheet.specs.Layout.{node_start, depths, part_of, pool_of}
use Rattle.sheet.specs.Verdict.{verdict}
use Rattle.sheet.specs.declared.line.Layout.{Layout}
use Rattle.sheet.specs.declared.line.Row.{Row}
use Rattle.sheet.proofs.LayoutLaws.{range_in_pool}
use Rattle.sheet.proofs.WritingColumns.{columns_length}
use Rattle.sheet_form.specs.Decoded.{Decoded, row_in, range_in, depths_in}
use Rattle.sheet_form.specs.Encoding.{encode, decode}
use Rattle.sheet_form.specs.Marks.{ButMarks, set_skip}
use Rattle.sheet_form.proofs.AcceptedSheet.{Decodes, decodes, remarked}
use Rattle.sheet_form.proofs.Marking.{depths_same}
use Rattle.sheet_form.proofs.NumberBytes.{number_set}
use Rattle.tags.specs.Words.{one_of}
use Rattle.tree.specs.Forest.{Descendant}
use Rattle.tree.specs.Page.{Page, page_of}
use Rattle.tree.specs.Rows.{past_of}
use Rattle.tree.proofs.PageLaws.{is_element, not_element, name_is}
use Rattle.tree.proofs.PastLaws.{past_of_high}
use Rattle.tree.proofs.SheetLaws.{sheet_is_tree}
use Rattle.marking.specs.Answers.{sheet_after}
use Rattle.marking.specs.Marks.{is_listed, to_mark, is_new, marked, marks}
use Rattle.marking.specs.Names.{skip_names}
use Rattle.marking.specs.Theorems.{InSkipOf, Chosen, SheetMarked}
use Rattle.marking.proofs.AnswerLaws.{answer_is, after_is}
use Rattle.marking.proofs.MarkLaws.{marked_to, to_but_marks, to_new, to_old, to_none, to_all, marked_at, marked_there, marked_not, marks_none, marked_none}
use Rattle.marking.proofs.MarkingRows.{past_last, sheet_to, to_decodes}

-- ---- bytes

sets_other : (vs l : Bytes) (i k : ℕ) → (i ≤ k → k < i + length vs → ⊥) → get_or (sets l i vs) k 0 ≡ get_or l k 0
sets_other [] l i k out = refl
sets_other (v ∷ vs) l i k out =
    sets_other vs (set l i v) (suc i) k (λ a b. out (omega arith) (omega arith))
    ∙ get_or-set_other l i k v 0 (λ e. out (omega arith) (omega arith))

module _ (o : ExtractOptions) (noscript : Bool) (s : Bytes) (l : Layout) (a : Decodes s l (decode l s)) where
  abbrev d : Decoded
  d = decode l s

  abbrev w : ℕ
  w = l.width

  abbrev m : Decoded
  m = marked o noscript d

  -- the columns that a mark is set in
  one_mark : (i k : ℕ) → i < l.nodes → is_new o noscript d i ≡ true → (InSkipOf l i k → ⊥)
      → get_or (sheet_to o noscript s l (i + 1)) k 0 ≡ get_or (sheet_to o noscript s l i) k 0
  one_mark i k h e out =
      let b = to_decodes o noscript s l a i in
      let t = sheet_to o noscript s l i in
      let stored = number_set b.lined i 2 1 h (omega arith) in
      let next : encode w (set_skip i 1 (decode l t)) ≡ sheet_to o noscript s l (i + 1) =
      ap (λ (x : Decoded). encode w (set_skip i 1 x)) b.decoded
      ∙ ap (encode w) (to_new o noscript d a.right i (omega (arith, a.size)) e) in
      ap (λ (x : Bytes). get_or x k 0) (sym (stored ∙ next))
      ∙ sets_other (columns w 1) t (node_start l i + 2 * w) k (λ p q. out (record { from = p; to = omega (arith, columns_length w 1) }))

  bytes_to : (i k : ℕ) → i ≤ l.nodes → ((j : ℕ) → j < l.nodes → is_new o noscript d j ≡ true → InSkipOf l j k → ⊥)
      → get_or (sheet_to o noscript s l i) k 0 ≡ get_or s k 0
  bytes_to zero k h out =
      ap (λ (x : Bytes). get_or x k 0) (sym (sym a.bytes ∙ ap (encode w) (to_none o noscript d 0 (λ j q. absurd (omega arith)))))
  bytes_to (suc i) k h out =
      let next : suc i ≡ i + 1 = omega arith in
      ap (λ (n : ℕ). get_or (sheet_to o noscript s l n) k 0) next
      ∙ by_test (is_new o noscript d i)
      (λ e. one_mark i k (omega arith) e (out i (omega arith) e))
      (λ e. ap (λ (x : Decoded). get_or (encode w x) k 0) (sym (to_old o noscript d a.right i (omega (arith, a.size)) e)))
      ∙ bytes_to i k (omega arith) out

  -- ---- the whole

  beyond : (j : ℕ) → l.nodes ≤ j → to_mark o noscript d j ≡ false
  beyond j h =
      past_last o noscript d (past_of (depths_in d) d.root) refl j
      (omega (arith, past_of_high (depths_in d) d.root (omega (arith, a.depths_size, a.root, a.root_there)), a.depths_size))

  whole : marked_to o noscript d l.nodes ≡ m
  whole = to_all o noscript d l.nodes beyond

  but_marks : ButMarks d m
  but_marks = subst (ButMarks d) whole (to_but_marks o noscript d a.right l.nodes)

  pub m_decodes : Decodes (encode w m) l m
  m_decodes = remarked a but_marks

  there : {i : ℕ} → i < l.nodes → i < length d.rows
  there h = omega (arith, a.size)

  pub mark_is : (i : ℕ) → i < l.nodes → (page_of (encode w m) l).marked i ≡ (to_mark o noscript d i || (page_of s l).marked i)
  mark_is i h =
      ap (λ (p : Page). p.marked i) m_decodes.page
      ∙ ap (λ (r : Row). eqb r.skip 1) (marked_at o noscript d i (there h))
      ∙ by_test (to_mark o noscript d i)
      (λ t. ap (λ (r : Row). eqb r.skip 1) (marked_there o noscript d i t) ∙ ap (λ (b : Bool). b || (page_of s l).marked i) (sym t))
      (λ t.
      ap (λ (r : Row). eqb r.skip 1) (marked_not o noscript d i t)
      ∙ ap (λ (p : Page). p.marked i) (sym a.page)
      ∙ ap (λ (b : Bool). b || (page_of s l).marked i) (sym t))

  -- ---- again

  same_rows : (i : ℕ) → to_mark o noscript m i ≡ to_mark o noscript d i
  unfolding to_mark is_listed marked
  same_rows i =
      ap₂ (λ (b c : Bool). b && c)
      (ap (λ (ds : List ℕ). ltb d.root i && ltb i (past_of ds d.root)) (depths_same but_marks))
      (ap (is_listed o noscript d) (but_marks.row i))

  none_new : (i : ℕ) → i < l.nodes → is_new o noscript m i ≡ false
  none_new i h =
      by_test (to_mark o noscript d i)
      (λ t. rw (same_rows i, t) (ap (λ (r : Row). eqb r.skip 0) (marked_at o noscript d i (there h) ∙ marked_there o noscript d i t)))
      (λ t. rw (same_rows i, t))

  pub marks_again : marks o noscript m ≡ 0
  marks_again = marks_none o noscript m (length m.rows) (λ j h. none_new j (omega (arith, m_decodes.size)))

  pub same_again : marked o noscript m ≡ m
  same_again = marked_none o noscript m m_decodes.right (λ j h. none_new j (omega (arith, m_decodes.size)))

-- ---- in the words of the tree

module _ (o : ExtractOptions) (noscript : Bool) {s : Bytes} {l : Layout} (a : Decodes s l (decode l s)) (i : ℕ) (h : i < l.nodes) where
  abbrev x : Decoded
  x = decode l s

  abbrev r : Row
  r = row_in x i

  columns_same : depths s l ≡ depths_in x
  columns_same = ap (λ (p : Page). p.depths) a.page

  descendant : Descendant (parent_of (depths s l)) l.root i ↔ ((l.root < i) × (i < past_of (depths s l) l.root))
  descendant =
      let tree = sheet_is_tree s l a.accepted in
      (tree.tree.row l.root (omega (arith, tree.rows, a.root_there))).descendant_is i

  past_same : past_of (depths s l) l.root ≡ past_of (depths_in x) x.root
  past_same = ap₂ past_of columns_same (sym a.root)

  pool_same : pool_of s l ≡ x.pool
  unfolding decode
  pool_same = refl

  name_same : ((page_of s l).node i).name ≡ range_in x r.name_at r.name_len
  name_same =
      name_is s l i (a.row i h)
      ∙ range_in_pool s l r.name_at r.name_len
      ∙ ap (λ (pool : Bytes). part_of pool r.name_at r.name_len) pool_same

  pub row_chosen : (to_mark o noscript x i ≡ true) ↔ Chosen (page_of s l) o noscript i
  unfolding to_mark is_listed
  row_chosen = (
    λ t.
        let place = ltb x.root i && ltb i (past_of (depths_in x) x.root) in
        let name = one_of (range_in x r.name_at r.name_len) (skip_names o noscript) in
        let p = and_parts place (eqb r.kind 1 && name) t in
        let q = and_parts (ltb x.root i) (ltb i (past_of (depths_in x) x.root)) p.0 in
        let k = and_parts (eqb r.kind 1) name p.1 in
        record {
          below =
              let before = ltb-true x.root i q.0 in
              let past = ltb-true i (past_of (depths_in x) x.root) q.1 in
              descendant.1 (omega (arith, before, a.root), omega (arith, past, past_same));
          element = is_element s l i (a.row i h) (eqb-true r.kind 1 k.0);
          name = ap (λ (b : Bytes). one_of b (skip_names o noscript)) name_same ∙ k.1;
        },
    λ c.
        let b = descendant.0 c.below in
        let kind : r.kind ≡ 1 =
        by_test (eqb r.kind 1) (λ t. eqb-true r.kind 1 t)
        (λ t. absurd (not_element s l i (a.row i h) (eqb-false r.kind 1 t) c.element)) in
        and_both
        (and_both (lt-ltb x.root i (omega (arith, b.0, a.root)))
        (lt-ltb i (past_of (depths_in x) x.root) (omega (arith, b.1, past_same))))
        (and_both (eq-eqb r.kind 1 kind) (ap (λ (n : Bytes). one_of n (skip_names o noscript)) (sym name_same) ∙ c.name)),
  )

-- ---- all of it

pub sheet_marked : (s : Bytes) (l : Layout) (o : ExtractOptions) (noscript : Bool) → verdict s ≡ Ok l → SheetMarked s l o noscript
sheet_marked s l o noscript e =
    let a = decodes e in
    let w = l.width in
    let m = marked o noscript (decode l s) in
    let b = m_decodes o noscript s l a in
    let after = after_is s o noscript e in
    let accepted = ap verdict after ∙ b.accepted in
    let decoded = ap (decode l) after ∙ b.decoded in
    record {
      rows = λ i h. row_chosen o noscript a i h;
      accepted = accepted;
      size = ap length after ∙ b.lined.size ∙ sym a.lined.size;
      bytes = λ k out.
          ap (λ (x : Bytes). get_or x k 0) (after ∙ ap (encode w) (sym (whole o noscript s l a)))
          ∙ bytes_to o noscript s l a l.nodes k (omega arith) out;
      marks = λ i h. ap (λ (x : Bytes). (page_of x l).marked i) after ∙ mark_is o noscript s l a i h;
      none_again =
          answer_is (sheet_after s o noscript) o noscript accepted
          ∙ ap (λ (x : Decoded). Ok (marks o noscript x)) decoded
          ∙ ap Ok (marks_again o noscript s l a);
      same_again =
          after_is (sheet_after s o noscript) o noscript accepted
          ∙ ap (λ (x : Decoded). encode w (marked o noscript x)) decoded
          ∙ ap (encode w) (same_again o noscript s l a)
          ∙ sym after;
    }
