-- The verdict by the notes of both passes, one return of the code after the other.
use Rattle.std.specs.Prelude.{Option, None, Some, Result, Ok, Err}
use mathlib.Core.Path.{◌≡◌, refl, sym, ap, ◌∙◌}
use mathlib.Core.Bool.{Bool, not, cond}
use Prim.Native.Nat.{ℕ, ◌+◌, ◌<◌}
use native.Mathlib.Omega.{arith}
use lib.Dec.{eqb}
use borrow.Author.Tests.{eq-eqb, ne_eqb}
use Rattle.common.specs.Bytes.{Bytes}
use Rattle.sheet.specs.Layout.{row_at}
use Rattle.sheet.specs.Notes.{Formatted, nodes_notes, attributes_notes, nodes_read, attributes_read}
use Rattle.sheet.specs.Verdict.{stage, judged, nodes, attributes, node_format, attribute_format, node_kind, node_tree, node_range, attribute_range, node_text, attribute_text, counts_from}
use Rattle.sheet.specs.declared.line.Layout.{Layout}
use Rattle.sheet.specs.declared.notes.AttributeNotes.{AttributeNotes}
use Rattle.sheet.specs.declared.notes.Notes.{Notes}
use Rattle.sheet.specs.declared.verdict.SheetError.{SheetError}
use Rattle.sheet.specs.declared.verdict.SheetError.TheVariants.{Format, Kind, Tree, Range, Encoding}
use Rattle.sheet.proofs.FirstWrong.{found_below}

-- what a pass gives, by the first line whose format is not right
module _ (s : Bytes) (l : Layout) where
  abbrev nodes_give : Option ℕ → Result Notes ℕ
  nodes_give None = Ok (nodes_notes s l)
  nodes_give (Some i) = Err i

  nodes_give_law : nodes_read s l ≡ nodes_give (nodes s l (node_format s l))
  unfolding nodes_read
  nodes_give_law = go (nodes s l (node_format s l))
    where
      go : (o : Option ℕ) → elim o [ None ↦ Ok (nodes_notes s l) | Some i ↦ Err i ] ≡ nodes_give o
      go None = refl
      go (Some i) = refl

  noted_none : (o : Option ℕ) {n : Notes} → nodes_give o ≡ Ok n → (o ≡ None) × (n ≡ nodes_notes s l)
  noted_none None {n} h = (refl, cc)
  noted_none (Some i) {n} h = absurd (let z : ◌≡◌ {A = ℕ} 0 1 = cc in omega arith)

  bad_some : (o : Option ℕ) {i : ℕ} → nodes_give o ≡ Err i → o ≡ Some i
  bad_some None {i} h = absurd (let z : ◌≡◌ {A = ℕ} 0 1 = cc in omega arith)
  bad_some (Some j) {i} h = cc

  pub nodes_noted : {n : Notes} → nodes_read s l ≡ Ok n → (nodes s l (node_format s l) ≡ None) × (n ≡ nodes_notes s l)
  nodes_noted h = noted_none (nodes s l (node_format s l)) (sym nodes_give_law ∙ h)

  pub nodes_bad_at : {i : ℕ} → nodes_read s l ≡ Err i → nodes s l (node_format s l) ≡ Some i
  nodes_bad_at h = bad_some (nodes s l (node_format s l)) (sym nodes_give_law ∙ h)

  pub nodes_bad_below : {i : ℕ} → nodes_read s l ≡ Err i → i < l.nodes
  nodes_bad_below {i} h = found_below (node_format s l) l.nodes (nodes_bad_at h)

  abbrev attributes_give : Option ℕ → Result AttributeNotes ℕ
  attributes_give None = Ok (attributes_notes s l)
  attributes_give (Some j) = Err j

  attributes_give_law : attributes_read s l ≡ attributes_give (attributes s l (attribute_format s l))
  unfolding attributes_read
  attributes_give_law = go (attributes s l (attribute_format s l))
    where
      go : (o : Option ℕ) → elim o [ None ↦ Ok (attributes_notes s l) | Some i ↦ Err i ] ≡ attributes_give o
      go None = refl
      go (Some i) = refl

  attributes_none : (o : Option ℕ) {n : AttributeNotes} → attributes_give o ≡ Ok n → (o ≡ None) × (n ≡ attributes_notes s l)
  attributes_none None {n} h = (refl, cc)
  attributes_none (Some i) {n} h = absurd (let z : ◌≡◌ {A = ℕ} 0 1 = cc in omega arith)

  attributes_some : (o : Option ℕ) {j : ℕ} → attributes_give o ≡ Err j → o ≡ Some j
  attributes_some None {j} h = absurd (let z : ◌≡◌ {A = ℕ} 0 1 = cc in omega arith)
  attributes_some (Some i) {j} h = cc

  pub attributes_noted : {n : AttributeNotes} → attributes_read s l ≡ Ok n → (attributes s l (attribute_format s l) ≡ None) × (n ≡ attributes_notes s l)
  attributes_noted h = attributes_none (attributes s l (attribute_format s l)) (sym attributes_give_law ∙ h)

  pub attributes_bad_at : {j : ℕ} → attributes_read s l ≡ Err j → attributes s l (attribute_format s l) ≡ Some j
  attributes_bad_at h = attributes_some (attributes s l (attribute_format s l)) (sym attributes_give_law ∙ h)

  pub attributes_bad_below : {j : ℕ} → attributes_read s l ≡ Err j → j < l.attributes
  attributes_bad_below {j} h = found_below (attribute_format s l) l.attributes (attributes_bad_at h)

  -- ---- 12

  pub judged_node_format : {i : ℕ} → nodes_read s l ≡ Err i → Err (Format (i + 1)) ≡ judged s l
  unfolding judged
  judged_node_format h = rw (nodes_bad_at h)

  pub judged_attribute_format : nodes s l (node_format s l) ≡ None → {j : ℕ} → attributes_read s l ≡ Err j → Err (Format (l.nodes + j + 1)) ≡ judged s l
  unfolding judged
  judged_attribute_format f h = rw (f, attributes_bad_at h)

  -- ---- the other stages

  module _ (f : Formatted s l) {n : Notes} {a : AttributeNotes} (en : n ≡ nodes_notes s l) (ea : a ≡ attributes_notes s l) where
    at_node : (field : Notes → Option ℕ) (right : ℕ → Bool) → field (nodes_notes s l) ≡ nodes s l right → {i : ℕ} → field n ≡ Some i → nodes s l right ≡ Some i
    at_node field right q h = sym q ∙ sym (ap field en) ∙ h

    no_node : (field : Notes → Option ℕ) (right : ℕ → Bool) → field (nodes_notes s l) ≡ nodes s l right → field n ≡ None → nodes s l right ≡ None
    no_node field right q h = sym q ∙ sym (ap field en) ∙ h

    at_attribute : (field : AttributeNotes → Option ℕ) (right : ℕ → Bool) → field (attributes_notes s l) ≡ attributes s l right → {j : ℕ} → field a ≡ Some j → attributes s l right ≡ Some j
    at_attribute field right q h = sym q ∙ sym (ap field ea) ∙ h

    no_attribute : (field : AttributeNotes → Option ℕ) (right : ℕ → Bool) → field (attributes_notes s l) ≡ attributes s l right → field a ≡ None → attributes s l right ≡ None
    no_attribute field right q h = sym q ∙ sym (ap field ea) ∙ h

    -- a note is a line
    pub node_below : (field : Notes → Option ℕ) (right : ℕ → Bool) → field (nodes_notes s l) ≡ nodes s l right → {i : ℕ} → field n ≡ Some i → i < l.nodes
    node_below field right q h = found_below right l.nodes (at_node field right q h)

    pub attribute_below : (field : AttributeNotes → Option ℕ) (right : ℕ → Bool) → field (attributes_notes s l) ≡ attributes s l right → {j : ℕ} → field a ≡ Some j → j < l.attributes
    attribute_below field right q h = found_below right l.attributes (at_attribute field right q h)

    pub judged_kind : {i : ℕ} → n.kind ≡ Some i → Err (Kind (i + 1)) ≡ judged s l
    unfolding judged
    judged_kind h = rw (f.of_nodes, f.of_attributes, at_node (λ x. x.kind) (node_kind s l) refl h)

    module _ (k : n.kind ≡ None) where
      pub judged_tree : {i : ℕ} → n.tree ≡ Some i → Err (Tree (i + 1)) ≡ judged s l
      unfolding judged
      judged_tree h = rw (f.of_nodes, f.of_attributes, no_node (λ x. x.kind) (node_kind s l) refl k, at_node (λ x. x.tree) (node_tree s l) refl h)

      module _ (t : n.tree ≡ None) where
        -- what is left where no line's format, kind and place is at fault
        rest : Result Layout SheetError
        rest =
            cond (not (eqb (row_at s l l.root).kind 1)) (Err (Tree 0))
            (stage (nodes s l (node_range s l)) (λ i. Range (i + 1))
            (stage (attributes s l (attribute_range s l)) (λ j. Range (l.nodes + j + 1))
            (cond (not (eqb (counts_from s l 0 l.nodes) l.attributes)) (Err (Range 0))
            (stage (nodes s l (node_text s l)) (λ i. Encoding (i + 1))
            (stage (attributes s l (attribute_text s l)) (λ j. Encoding (l.nodes + j + 1))
            (Ok l))))))

        judged_rest : judged s l ≡ rest
        unfolding judged rest
        judged_rest = rw (f.of_nodes, f.of_attributes, no_node (λ x. x.kind) (node_kind s l) refl k, no_node (λ x. x.tree) (node_tree s l) refl t)

        pub judged_root : ((row_at s l l.root).kind ≡ 1 → ⊥) → Err (Tree 0) ≡ judged s l
        unfolding rest
        judged_root h = rw (judged_rest, ne_eqb _ 1 h)

        module _ (r : (row_at s l l.root).kind ≡ 1) where
          pub judged_node_range : {i : ℕ} → n.range ≡ Some i → Err (Range (i + 1)) ≡ judged s l
          unfolding rest
          judged_node_range h = rw (judged_rest, eq-eqb _ 1 r, at_node (λ x. x.range) (node_range s l) refl h)

          module _ (g : n.range ≡ None) where
            pub judged_attribute_range : {j : ℕ} → a.range ≡ Some j → Err (Range (l.nodes + j + 1)) ≡ judged s l
            unfolding rest
            judged_attribute_range h =
                rw (judged_rest, eq-eqb _ 1 r, no_node (λ x. x.range) (node_range s l) refl g, at_attribute (λ x. x.range) (attribute_range s l) refl h)

            module _ (ag : a.range ≡ None) where
              -- and where every range lies in the pool
              texts : Result Layout SheetError
              texts =
                  cond (not (eqb (counts_from s l 0 l.nodes) l.attributes)) (Err (Range 0))
                  (stage (nodes s l (node_text s l)) (λ i. Encoding (i + 1))
                  (stage (attributes s l (attribute_text s l)) (λ j. Encoding (l.nodes + j + 1))
                  (Ok l)))

              judged_texts : judged s l ≡ texts
              unfolding rest texts
              judged_texts =
                  rw (judged_rest, eq-eqb _ 1 r, no_node (λ x. x.range) (node_range s l) refl g, no_attribute (λ x. x.range) (attribute_range s l) refl ag)

              counts_are : n.counts ≡ counts_from s l 0 l.nodes
              counts_are = ap (λ x. x.counts) en

              pub judged_counts : (n.counts ≡ l.attributes → ⊥) → Err (Range 0) ≡ judged s l
              unfolding texts
              judged_counts h = rw (judged_texts, ne_eqb _ l.attributes (λ e. h (counts_are ∙ e)))

              module _ (c : n.counts ≡ l.attributes) where
                pub judged_node_text : {i : ℕ} → n.encoding ≡ Some i → Err (Encoding (i + 1)) ≡ judged s l
                unfolding texts
                judged_node_text h = rw (judged_texts, eq-eqb _ l.attributes (sym counts_are ∙ c), at_node (λ x. x.encoding) (node_text s l) refl h)

                module _ (e : n.encoding ≡ None) where
                  pub judged_attribute_text : {j : ℕ} → a.encoding ≡ Some j → Err (Encoding (l.nodes + j + 1)) ≡ judged s l
                  unfolding texts
                  judged_attribute_text h =
                      rw (judged_texts, eq-eqb _ l.attributes (sym counts_are ∙ c), no_node (λ x. x.encoding) (node_text s l) refl e, at_attribute (λ x. x.encoding) (attribute_text s l) refl h)

                  pub judged_sheet : a.encoding ≡ None → Ok l ≡ judged s l
                  unfolding texts
                  judged_sheet h =
                      rw (judged_texts, eq-eqb _ l.attributes (sym counts_are ∙ c), no_node (λ x. x.encoding) (node_text s l) refl e, no_attribute (λ x. x.encoding) (attribute_text s l) refl h)
