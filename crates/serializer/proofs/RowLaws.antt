-- Rows of tables, and their cells.
use mathlib.Core.Path.{◌≡◌, refl, sym, ap, subst, ◌∙◌}
use mathlib.Core.Bool.{Bool, true, false, ◌||◌, cond}
use mathlib.Core.List.{List, [], ◌∷◌}
use Prim.Native.Nat.{ℕ, suc, ◌+◌, ◌-◌, ◌≤◌, ◌<◌}
use native.Mathlib.Omega.{arith}
use lib.Dec.{eqb, ltb, leb-suc-suc}
use lib.ListN.{length, get_or, set}
use lib.Seq.{set-get_or}
use borrow.Author.Tests.{eq-eqb, ne_eqb, lt-ltb, le-ltb}
use Rattle.common.specs.Bytes.{Bytes, codes}
use Rattle.common.proofs.Choice.{by_cond}
use Rattle.html2text.specs.Serialize.{State, on_out, with_rows, ends_blank, collapses, margin, rows, between, beside_cell, in_row, cell}
use Rattle.html2text.specs.declared.ExtractNode.{ExtractNode}
use Rattle.tags.specs.Tags.{is_tr, is_cell}
use Rattle.text.specs.Text.{is_space, keeping, rstrip, rstrip_by}
use Rattle.writer.specs.Out.{Out, push_all}
use Rattle.writer.specs.Writing.{Held, Room, Ready, Does}
use Rattle.writer.specs.declared.Writer.{Writer}
use Rattle.writer.proofs.DoesLaws.{Grows, grows_none, grows_cond, grows_push_all, does_none, does_by, ready_by}
use Rattle.serializer.specs.Serializing.{set_writer, set_rows, Lent, lent, Stands, Able, Works, WorksRows}
use Rattle.serializer.specs.declared.Serializer.{Serializer}
use Rattle.serializer.proofs.MarginLaws.{rises_margin}
use Rattle.serializer.proofs.StandsLaws.{stands_out, stands_rows, stack_pop, stack_pop_length, stack_push, stack_push_length, stack_top, stack_set, stack_set_length}
use Rattle.serializer.proofs.WorksLaws.{Rises, rises_none, rises_then, rises_cond, works_none, works_by}

-- ---- a row opens or closes

module _ (s : Serializer) (n : ExtractNode) (cells : List Bool) where
  pub rows_close : n.tag ≡ 1 → n.end ≡ true → WorksRows s cells (set_rows (s.rows - 1) s) cells (rows n)
  unfolding rows
  rows_close e f =
      record {
        at = λ write numbering out. record {
          run = λ under S h. rw (eq-eqb n.tag 1 e, f)
              (stands_rows h (stack_pop_length cells S.row_has_cell s.rows h.rows h.cells) (stack_pop cells S.row_has_cell s.rows h.rows h.cells));
        };
      }

  pub rows_open : n.tag ≡ 1 → n.end ≡ false → s.rows < length cells → WorksRows s cells (set_rows (s.rows + 1) s) (set cells s.rows false) (rows n)
  unfolding rows
  rows_open e f room =
      record {
        at = λ write numbering out. record {
          run = λ under S h. rw (eq-eqb n.tag 1 e, f)
              (stands_rows h (stack_push_length cells S.row_has_cell s.rows h.rows h.cells false) (stack_push cells S.row_has_cell s.rows h.rows h.cells false room));
        };
      }

  pub rows_other : (n.tag ≡ 1 → ⊥) → WorksRows s cells s cells (rows n)
  unfolding rows
  rows_other e = record { at = λ write numbering out. works_by works_none (λ under S h. sym (rw (ne_eqb n.tag 1 e))) }

-- ---- a text ends in a blank exactly where less of it is kept

keeping_less : (b : Bool) (c : ℕ) (r : Bytes) (n : ℕ) → 0 < n → ltb (length (keeping b c r)) (suc n) ≡ ltb (length r) n
keeping_less b c (d ∷ r) n h = leb-suc-suc (suc (length (d ∷ r))) n
keeping_less true c [] n h = lt-ltb 0 (suc n) (omega arith) ∙ sym (lt-ltb 0 n h)
keeping_less false c [] n h = lt-ltb 1 (suc n) (omega arith) ∙ sym (lt-ltb 0 n h)

keeping_one : (b : Bool) (c : ℕ) → b ≡ ltb (length (keeping b c [])) 1
keeping_one true c = refl
keeping_one false c = refl

pub ends_blank_law : (s : Bytes) → ends_blank s ≡ ltb (length (rstrip s)) (length s)
unfolding ends_blank rstrip_by
ends_blank_law [] = refl
ends_blank_law (c ∷ []) = keeping_one (is_space c) c
ends_blank_law (c ∷ d ∷ s) = ends_blank_law (d ∷ s) ∙ sym (keeping_less (is_space c) c (rstrip (d ∷ s)) (length (d ∷ s)) (omega arith))

-- ---- between two cells

module _ (write : Bool) (off : Bool) (w : Writer) (buf : Bytes) where
  between_is : (under : Bytes) (o : Out) → Held write under w buf o
      → between off o ≡ cond off (cond (eqb w.len 0 || ltb w.kept w.len) o (push_all (0x20 ∷ []) o)) (push_all (codes "\t\t") o)
  unfolding between
  between_is under o h = rw (h.len, h.kept, ends_blank_law o.text)

  module _ (e : off ≡ true) where
    pub between_empty : w.len ≡ 0 → Does write w buf w buf (between off)
    between_empty z = does_by (does_none write w buf) (λ under o h. sym (between_is under o h ∙ rw (e, eq-eqb w.len 0 z)))

    module _ (z : w.len ≡ 0 → ⊥) where
      pub between_blank : w.kept < w.len → Does write w buf w buf (between off)
      between_blank l = does_by (does_none write w buf) (λ under o h. sym (between_is under o h ∙ rw (e, ne_eqb w.len 0 z, lt-ltb w.kept w.len l)))

      module _ (l : w.len ≤ w.kept) where
        space_is : (under : Bytes) (o : Out) → Held write under w buf o → between off o ≡ push_all (0x20 ∷ []) o
        space_is under o h = between_is under o h ∙ rw (e, ne_eqb w.len 0 z, le-ltb w.kept w.len l)

        pub between_space : {w' : Writer} {buf' : Bytes} → Does write w buf w' buf' (push_all (0x20 ∷ [])) → Does write w buf w' buf' (between off)
        between_space d = does_by d (λ under o h. sym (space_is under o h))

        pub between_space_ready : Ready write w buf (between off) → Ready write w buf (push_all (0x20 ∷ []))
        between_space_ready r = ready_by r space_is

  module _ (e : off ≡ false) where
    tabs_is : (o : Out) → between off o ≡ push_all (codes "\t\t") o
    unfolding between
    tabs_is o = rw e

    pub between_tabs : {w' : Writer} {buf' : Bytes} → Does write w buf w' buf' (push_all (codes "\t\t")) → Does write w buf w' buf' (between off)
    between_tabs d = does_by d (λ under o h. sym (tabs_is o))

    pub between_tabs_ready : Ready write w buf (between off) → Ready write w buf (push_all (codes "\t\t"))
    between_tabs_ready r = ready_by r (λ under o h. tabs_is o)

-- ---- a cell in the open row

module _ {write : Bool} {s : Serializer} {a : Lent} (off : Bool) where
  pub in_row_none : s.rows ≡ 0 → Works write s a s a (in_row off)
  unfolding in_row
  in_row_none z = works_by works_none (λ under S h. sym (rw (eq-eqb (length S.row_has_cell) 0 (sym h.rows ∙ z))))

  module _ (z : s.rows ≡ 0 → ⊥) where
    module _ {under : Bytes} {S : State} (h : Stands write under s a S) where
      open_row : eqb (length S.row_has_cell) 0 ≡ false
      open_row = ne_eqb (length S.row_has_cell) 0 (λ e. z (h.rows ∙ e))

      last_cell : get_or S.row_has_cell (length S.row_has_cell - 1) false ≡ get_or a.cells (s.rows - 1) false
      last_cell = sym (stack_top a.cells S.row_has_cell s.rows h.rows h.cells false (omega (arith, z)))

      first_is : get_or a.cells (s.rows - 1) false ≡ false → in_row off S ≡ with_rows (set S.row_has_cell (length S.row_has_cell - 1) true) S
      unfolding in_row beside_cell
      first_is e = rw (open_row, last_cell ∙ e)

      more_is : get_or a.cells (s.rows - 1) false ≡ true → in_row off S ≡ with_rows (set S.row_has_cell (length S.row_has_cell - 1) true) (on_out (between off) S)
      unfolding in_row beside_cell
      more_is e = rw (open_row, last_cell ∙ e)

    pub in_row_first : get_or a.cells (s.rows - 1) false ≡ false → Works write s a s (lent a.numbering (set a.cells (s.rows - 1) true) a.out) (in_row off)
    in_row_first e =
        record {
          run = λ under S h. rw (first_is h e)
              (stands_rows h (stack_set_length a.cells S.row_has_cell s.rows h.rows h.cells true) (stack_set a.cells S.row_has_cell s.rows h.rows h.cells true (omega (arith, z))));
        }

    module _ (e : get_or a.cells (s.rows - 1) false ≡ true) where
      pub in_row_ready : Able write s a (in_row off) → Ready write s.writer a.out (between off)
      in_row_ready r =
          record { under = r.under; out = r.state.out; held = r.stands.held; room = subst (λ (S : State). Room write r.under S.out.peak) (more_is r.stands e) r.room }

      -- the mark is set already
      same_rows : {under : Bytes} {S : State} → Stands write under s a S → set S.row_has_cell (length S.row_has_cell - 1) true ≡ S.row_has_cell
      same_rows {S = S} h = ap (set S.row_has_cell (length S.row_has_cell - 1)) (sym (last_cell h ∙ e)) ∙ set-get_or S.row_has_cell (length S.row_has_cell - 1) false

      pub in_row_more : {w : Writer} {out : Bytes} → Does write s.writer a.out w out (between off) → Works write s a (set_writer w s) (lent a.numbering a.cells out) (in_row off)
      in_row_more d = record { run = λ under S h. rw (more_is h e, same_rows h) (stands_out h (d.run under S.out h.held)) }

-- ---- a cell begins

pub cell_is : (off : Bool) (n : ExtractNode) → n.tag ≡ 2 → (S : State) → cell off n S ≡ in_row off (margin (collapses off n) off S)
unfolding cell
cell_is off n e S = rw (eq-eqb n.tag 2 e)

pub cell_other : (off : Bool) (n : ExtractNode) → (n.tag ≡ 2 → ⊥) → (S : State) → cell off n S ≡ S
unfolding cell
cell_other off n e S = rw (ne_eqb n.tag 2 e)

-- ---- the greatest length never falls

pub rises_rows : (n : ExtractNode) → Rises (rows n)
unfolding rows
rises_rows n = rises_cond (λ S. is_tr n.tag) (rises_cond (λ S. n.end) (record { rise = λ S. omega arith }) (record { rise = λ S. omega arith })) rises_none

grows_between : (off : Bool) → Grows (between off)
unfolding between
grows_between off =
    grows_cond (λ o. off) (grows_cond (λ o. eqb (length o.text) 0 || ends_blank o.text) grows_none (grows_push_all (0x20 ∷ []))) (grows_push_all (codes "\t\t"))

rises_beside : (off : Bool) → Rises (beside_cell off)
unfolding beside_cell
rises_beside off =
    rises_cond (λ S. get_or S.row_has_cell (length S.row_has_cell - 1) false) (record { rise = λ S. (grows_between off).grow S.out }) rises_none

pub rises_in_row : (off : Bool) → Rises (in_row off)
unfolding in_row
rises_in_row off =
    record { rise = λ S. by_cond (λ (T : State). S.out.peak ≤ T.out.peak) (eqb (length S.row_has_cell) 0) (λ e. omega arith) (λ e. (rises_beside off).rise S) }

pub rises_cell : (off : Bool) (n : ExtractNode) → Rises (cell off n)
unfolding cell
rises_cell off n = rises_cond (λ S. is_cell n.tag) (rises_then (rises_margin (collapses off n) off) (rises_in_row off)) rises_none
