-- The lengths of class and id, attribute line by attribute line from the last one, and the longest of them, row by row.
use Rattle.std.specs.Prelude.{Option, unwrap_or}
use mathlib.Core.Path.{◌≡◌, refl, sym, ap, ◌∙◌}
use mathlib.Core.Bool.{cond}
use mathlib.Core.List.{List, [], ◌∷◌}
use Prim.Native.Nat.{ℕ, suc, ◌+◌, ◌-◌, ◌≤◌, ◌<◌}
use native.Mathlib.Omega.{arith}
use native.Mathlib.Numerals.{add-one}
use lib.ListN.{length, length-take, length-drop}
use Rattle.common.specs.Bytes.{Bytes, same}
use Rattle.common.proofs.Choice.{by_test, by_cond}
use Rattle.sheet.specs.Accepted.{Accepted}
use Rattle.sheet.specs.Layout.{attribute_at, row_at, range}
use Rattle.sheet.specs.Verdict.{counts_from}
use Rattle.sheet.specs.declared.line.Attribute as line
use Rattle.sheet.specs.declared.line.Layout.{Layout}
use Rattle.sheet.specs.declared.line.Row.{Row}
use Rattle.tree.specs.Attributes.{value_at, attributes_from}
use Rattle.tree.specs.Node.{Attribute, attribute}
use Rattle.tree.specs.Page.{node_at}
use Rattle.tree.proofs.AttributeLines.{counts_next, counts_none}
use Rattle.tree.proofs.NodeLaws.{by_kind, attribute_cons_here, attribute_cons_next}
use Rattle.tree.proofs.PageLaws.{is_element, not_element}
use Rattle.writer.specs.Out.{greater}
use Rattle.html2text.specs.Extract.{longest_names, names_length}
use Rattle.walk.specs.Names.{length_in, class_and_id}

length_cons : (a : Attribute) (others : List Attribute) (name : Bytes) → length_in (a ∷ others) name ≡ cond (same a.name name) (length a.value) (length_in others name)
length_cons a others name =
    let value : Option Bytes → ℕ = λ v. length (unwrap_or v []) in
    by_test (same a.name name)
    (λ e. rw e (ap value (attribute_cons_here a others name e)))
    (λ e. rw e (ap value (attribute_cons_next a others name e)))

module _ (s : Bytes) (l : Layout) (from count : ℕ) where
  -- x is the length of the value in the lines from line n on
  pub record LengthFrom (name : Bytes) (n x : ℕ) : Type 0 where
    pub inside : n ≤ count
    pub is : x ≡ length_in (attributes_from s l (from + n) (count - n)) name
    pub small : x ≤ l.pool

  pub length_start : (name : Bytes) → LengthFrom name count 0
  unfolding attributes_from attribute
  length_start name = let z : count - count ≡ 0 = omega arith in record { inside = omega arith; is = rw z; small = omega arith }

  pub length_more : {name text : Bytes} {n x y : ℕ} {a : line.Attribute} → Accepted s l → from + count ≤ l.attributes → 0 < n → a ≡ attribute_at s l (from + (n - 1)) → text ≡ range s l a.name_at a.name_len
      → y ≡ cond (same text name) a.value_len x → LengthFrom name n x → LengthFrom name (n - 1) y
  unfolding attributes_from
  length_more {name} {text} {n} {x} {y} {a} accepted h g a_is text_is y_is f =
      let p : from + n ≡ suc (from + (n - 1)) = omega arith in
      let q : count - (n - 1) ≡ suc (count - n) = omega arith in
      let fits = (accepted.attribute_value (from + (n - 1)) (omega (arith, f.inside))).inside in
      let size : length (value_at s l (from + (n - 1))) ≡ (attribute_at s l (from + (n - 1))).value_len = simp (length-take, length-drop) (omega (arith, accepted.sized.size)) in
      record {
        inside = omega (arith, f.inside);
        is = y_is ∙ rw (q, length_cons, size, f.is, text_is, a_is, p);
        small = rw y_is (by_cond (λ (k : ℕ). k ≤ l.pool) (same text name) (λ e. rw a_is (omega arith)) (λ e. f.small));
      }

  pub length_all : {name : Bytes} {n x : ℕ} → n ≤ 0 → LengthFrom name n x → x ≡ length_in (attributes_from s l from count) name
  length_all {name} {n} g f =
      let p : from + n ≡ from = omega arith in
      let q : count - n ≡ count = omega arith in
      rw (p, q) at f.is

-- ---- by the numbers of a row

module _ (s : Bytes) (l : Layout) {r : Row} (i : ℕ) (r_is : r ≡ row_at s l i) where
  pub element_names : {n first : ℕ} → n ≡ class_and_id (attributes_from s l first r.attributes) → r.kind ≡ 1 → first ≡ counts_from s l 0 i → n ≡ names_length (node_at s l i)
  unfolding names_length node_at
  element_names n_is e f_is = n_is ∙ rw (is_element s l i r_is e, names_length, f_is, r_is)

  pub other_names : (r.kind ≡ 1 → ⊥) → 0 ≡ names_length (node_at s l i)
  unfolding names_length
  other_names n = by_kind (node_at s l i).kind (λ e. absurd (not_element s l i r_is n e)) (λ e. rw (e, names_length)) (λ e. rw (e, names_length))

-- ---- row by row

pub record Longest (s : Bytes) (l : Layout) (longest first i : ℕ) : Type 0 where
  pub inside : i ≤ l.nodes
  pub first_is : first ≡ counts_from s l 0 i
  pub is : longest ≡ longest_names (node_at s l) i

module _ (s : Bytes) (l : Layout) where
  pub longest_start : Longest s l 0 0 0
  unfolding longest_names
  longest_start = record { inside = omega arith; first_is = sym (counts_none s l); is = refl }

  pub longest_more : {longest more n first i : ℕ} {r : Row} → i < l.nodes → r ≡ row_at s l i → n ≡ names_length (node_at s l i) → more ≡ greater longest n → Longest s l longest first i
      → Longest s l more (first + r.attributes) (i + 1)
  unfolding longest_names
  longest_more {i = i} h r_is n_is more_is g =
      record {
        inside = omega arith;
        first_is = omega (arith, g.first_is, counts_next s l i r_is);
        is = more_is ∙ rw (g.is, n_is, add-one);
      }

  pub longest_all : {longest first i n : ℕ} → i ≡ n → Longest s l longest first i → longest ≡ longest_names (node_at s l) n
  longest_all e g = g.is ∙ rw e
