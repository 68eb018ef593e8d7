-- The rows below the root are marked one after the other, in the sheet's own bytes.
use mathlib.Core.Path.{◌≡◌, refl, sym, ap, ap₂, ◌∙◌, subst}
use mathlib.Core.Bool.{Bool, false, cond, and-true, and-false}
use Prim.Native.Nat.{ℕ, ◌+◌, ◌≤◌, ◌<◌}
use native.Mathlib.Omega.{arith}
use lib.Dec.{ltb}
use lib.ListN.{length, get_or, drop}
use borrow.Author.Tests.{eq-eqb, ne_eqb, lt-ltb, le-ltb}
use Rattle.common.specs.Bytes.{Bytes}
use Rattle.common.proofs.Choice.{by_test}
use Rattle.options.specs.declared.ExtractOptions.{ExtractOptions}
use Rattle.sheet.specs.Layout.{row_at, part_of, pool_of, range}
use Rattle.sheet.specs.Notes.{Lined}
use Rattle.sheet.specs.declared.line.Layout.{Layout}
use Rattle.sheet.specs.declared.line.Row.{Row}
use Rattle.sheet.proofs.LayoutLaws.{range_in_pool}
use Rattle.sheet_form.specs.Decoded.{Decoded, row_in, depths_in}
use Rattle.sheet_form.specs.Encoding.{encode, decode}
use Rattle.sheet_form.specs.Marks.{set_skip}
use Rattle.sheet_form.proofs.AcceptedSheet.{Decodes, remarked}
use Rattle.tags.specs.Words.{one_of}
use Rattle.tree.specs.Rows.{past_from, past_of}
use Rattle.tree.proofs.PastLaws.{past_low}
use Rattle.tree.proofs.Scans.{past_start, past_stop, past_more, past_done}
use Rattle.marking.specs.Inner.{NameInside, is_new_row, is_new_at, marked_at}
use Rattle.marking.specs.Marks.{is_listed, to_mark, is_new, marked, marks_to, marks}
use Rattle.marking.specs.Names.{skip_names}
use Rattle.marking.proofs.MarkLaws.{marked_to, to_but_marks, to_new, to_old, to_none, to_all, row_ahead, marks_next, not_new, marks_none, marks_all, marks_small}

-- ---- a row that gets a mark

module _ (o : ExtractOptions) (noscript : Bool) (s : Bytes) (l : Layout) (i : ℕ) where
  abbrev r : Row
  r = row_at s l i

  pub new_other : {kind : ℕ} → kind ≡ r.kind → (kind ≡ 1 → ⊥) → false ≡ is_new_row o noscript (decode l s) r
  unfolding is_new_row is_listed
  new_other e k = rw (ne_eqb r.kind 1 (λ x. k (e ∙ x)))

  pub new_marked : {skip : ℕ} → skip ≡ r.skip → (skip ≡ 0 → ⊥) → false ≡ is_new_row o noscript (decode l s) r
  unfolding is_new_row
  new_marked e m = rw (ne_eqb r.skip 0 (λ x. m (e ∙ x))) (sym (and-false (is_listed o noscript (decode l s) r)))

  pub new_named : {x : Bool} {name : Bytes} {kind skip at len : ℕ} → kind ≡ r.kind → kind ≡ 1 → skip ≡ r.skip → skip ≡ 0
      → at ≡ r.name_at → len ≡ r.name_len → name ≡ range s l at len → x ≡ one_of name (skip_names o noscript)
      → x ≡ is_new_row o noscript (decode l s) r
  unfolding is_new_row is_listed decode
  new_named k is_1 m is_0 at len p q =
      q
      ∙ ap (λ (t : Bytes). one_of t (skip_names o noscript)) (p ∙ ap₂ (range s l) at len ∙ range_in_pool s l r.name_at r.name_len)
      ∙ rw (eq-eqb r.kind 1 (sym k ∙ is_1), eq-eqb r.skip 0 (sym m ∙ is_0))
      (sym (and-true (one_of (part_of (pool_of s l) r.name_at r.name_len) (skip_names o noscript))))

-- ---- what is below the root

module _ (o : ExtractOptions) (noscript : Bool) (d : Decoded) where
  pub before_root : (j : ℕ) → j < d.root + 1 → to_mark o noscript d j ≡ false
  unfolding to_mark
  before_root j h = rw (le-ltb d.root j (omega arith))

  pub past_last : (i : ℕ) → past_of (depths_in d) d.root ≡ i → (j : ℕ) → i ≤ j → to_mark o noscript d j ≡ false
  unfolding to_mark
  past_last i e j h =
      let none = le-ltb j (past_of (depths_in d) d.root) (omega arith) in
      by_test (ltb d.root j) (λ t. rw (t, none)) (λ t. rw t)

  pub new_below : (i : ℕ) → d.root < i → i < past_of (depths_in d) d.root → is_new o noscript d i ≡ is_new_row o noscript d (row_in d i)
  unfolding to_mark is_new_row
  new_below i h k = rw (lt-ltb d.root i h, lt-ltb i (past_of (depths_in d) d.root) k)

  -- the names do not change with the marks
  pub same_test : (i : ℕ) (r : Row) → is_new_row o noscript (marked_to o noscript d i) r ≡ is_new_row o noscript d r
  unfolding is_new_row is_listed marked_to
  same_test i r = refl

-- ---- an accepted sheet with some of its marks

module _ (o : ExtractOptions) (noscript : Bool) (s : Bytes) (l : Layout) where
  abbrev d : Decoded
  d = decode l s

  abbrev w : ℕ
  w = l.width

  abbrev pub sheet_to : ℕ → Bytes
  sheet_to i = encode w (marked_to o noscript d i)

  -- ---- the loop: at row i, with n marks set

  pub record Marking (i : ℕ) (t : Bytes) (n : ℕ) : Type 0 where
    pub start : d.root < i
    pub inside : i ≤ l.nodes
    pub left : past_from (get_or (depths_in d) d.root 0) i (drop i (depths_in d)) ≡ past_of (depths_in d) d.root
    pub sheet : t ≡ sheet_to i
    pub count : n ≡ marks_to o noscript d i

  module _ (a : Decodes s l d) where
    pub to_decodes : (i : ℕ) → Decodes (sheet_to i) l (marked_to o noscript d i)
    to_decodes i = remarked a (to_but_marks o noscript d a.right i)

    pub sheet_none : (i : ℕ) → ((j : ℕ) → j < i → to_mark o noscript d j ≡ false) → s ≡ sheet_to i
    sheet_none i none = sym a.bytes ∙ ap (encode w) (to_none o noscript d i none)

    pub marking_start : Marking (l.root + 1) s 0
    marking_start =
        subst (λ (r : ℕ). Marking (r + 1) s 0) a.root
        (record {
          start = omega arith;
          inside = omega (arith, a.root, a.root_there);
          left = sym (past_start (depths_in d) d.root);
          sheet = sheet_none (d.root + 1) (before_root o noscript d);
          count = sym (marks_none o noscript d (d.root + 1) (λ j h. not_new o noscript d j (before_root o noscript d j h)));
        })

    module _ {i : ℕ} {t : Bytes} {n : ℕ} (m : Marking i t n) where
      pub marking_lined : Lined t l
      marking_lined = subst (λ (x : Bytes). Lined x l) (sym m.sheet) (to_decodes i).lined

      pub marking_length : length t ≡ length s
      marking_length = marking_lined.size ∙ sym a.lined.size

      pub marking_small : n ≤ i
      marking_small = omega (arith, m.count, marks_small o noscript d i)

      done : past_of (depths_in d) d.root ≡ i → (n ≡ marks o noscript d) × (t ≡ encode w (marked o noscript d))
      done p =
          let none = past_last o noscript d i p in
          let count = m.count ∙ marks_all o noscript d i (omega (arith, m.inside, a.size)) none in
          (count, m.sheet ∙ ap (encode w) (to_all o noscript d i none))

      pub marking_end : l.nodes ≤ i → (n ≡ marks o noscript d) × (t ≡ encode w (marked o noscript d))
      marking_end h = done (sym m.left ∙ past_done (depths_in d) _ i (omega (arith, a.depths_size)))

      module _ (h : i < l.nodes) where
        row_read : row_at t l i ≡ row_in d i
        row_read =
            ap (λ (y : Bytes). row_at y l i) m.sheet
            ∙ sym ((to_decodes i).row i h)
            ∙ row_ahead o noscript d i i (omega arith) (omega (arith, a.size))

        pub marking_name : NameInside t l i
        marking_name =
            subst (λ (y : Row). y.name_at + y.name_len ≤ l.pool) (sym row_read)
            (let inside = (a.right.name i (omega (arith, a.size))).inside in omega (arith, inside, a.pool))

        module _ {x y : ℕ} (root_depth : x ≡ (row_at s l l.root).depth) (row_depth : y ≡ (row_at t l i).depth) where
          root_is : get_or (depths_in d) d.root 0 ≡ x
          root_is =
              a.depth d.root
              ∙ ap (λ (j : ℕ). (row_in d j).depth) a.root
              ∙ ap (λ (y : Row). y.depth) (a.row l.root a.root_there)
              ∙ sym root_depth

          depth_is : y ≡ get_or (depths_in d) i 0
          depth_is = row_depth ∙ ap (λ (z : Row). z.depth) row_read ∙ sym (a.depth i)

          pub marking_stop : y ≤ x → (n ≡ marks o noscript d) × (t ≡ encode w (marked o noscript d))
          marking_stop k =
              done (sym m.left ∙ past_stop (depths_in d) _ i y (omega (arith, a.depths_size)) depth_is (omega (arith, root_is)))

          module _ (deeper : x < y) where
            left_next : past_from (get_or (depths_in d) d.root 0) (i + 1) (drop (i + 1) (depths_in d)) ≡ past_of (depths_in d) d.root
            left_next = sym (past_more (depths_in d) _ i y (omega (arith, a.depths_size)) depth_is (omega (arith, root_is))) ∙ m.left

            before_past : i < past_of (depths_in d) d.root
            before_past = omega (arith, left_next, past_low (get_or (depths_in d) d.root 0) (i + 1) (drop (i + 1) (depths_in d)))

            decoded : decode l t ≡ marked_to o noscript d i
            decoded = ap (decode l) m.sheet ∙ (to_decodes i).decoded

            -- the test in the loop is that of the whole
            test_is : is_new_at o noscript t l i ≡ is_new o noscript d i
            test_is =
                ap₂ (is_new_row o noscript) decoded row_read
                ∙ same_test o noscript d i (row_in d i)
                ∙ sym (new_below o noscript d i m.start before_past)

            pub marking_more : {k : ℕ} {u : Bytes} → k ≡ cond (is_new_at o noscript t l i) 1 0
                → u ≡ marked_at o noscript t l i → Marking (i + 1) u (n + k)
            marking_more {k} {u} p q =
                record {
                  start = omega (arith, m.start);
                  inside = omega arith;
                  left = left_next;
                  sheet =
                      q ∙ by_test (is_new o noscript d i)
                      (λ f.
                      let next = to_new o noscript d a.right i (omega (arith, a.size)) f in
                      rw (test_is, f) (ap (λ (y : Decoded). encode w (set_skip i 1 y)) decoded ∙ ap (encode w) next))
                      (λ f. rw (test_is, f) (m.sheet ∙ ap (encode w) (to_old o noscript d a.right i (omega (arith, a.size)) f)));
                  count = ap₂ (λ (a b : ℕ). a + b) m.count (p ∙ ap (λ (b : Bool). cond b 1 0) test_is) ∙ sym (marks_next o noscript d i);
                }

            pub marking_room : {k : ℕ} → k ≡ cond (is_new_at o noscript t l i) 1 0 → n + k ≤ l.nodes
            marking_room p = let next = marking_more p refl in omega (arith, next.count, marks_small o noscript d (i + 1))
