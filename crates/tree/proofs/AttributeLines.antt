-- The search for an attribute by name, step by step as a loop makes it, and the place of a row's attribute lines.
use Rattle.std.specs.Prelude.{Option, None, Some, Result, Ok}
use mathlib.Core.Path.{◌≡◌, refl, sym, ap, ◌∙◌}
use mathlib.Core.Bool.{true, false}
use Prim.Native.Nat.{ℕ, zero, suc, ◌+◌, ◌-◌, ◌≤◌, ◌<◌}
use native.Mathlib.Omega.{arith}
use native.Mathlib.Numerals.{add-one}
use Rattle.common.specs.Bytes.{Bytes, same}
use Rattle.common.proofs.Choice.{by_test}
use Rattle.sheet.specs.Accepted.{Accepted}
use Rattle.sheet.specs.Layout.{attribute_at, row_at, range}
use Rattle.sheet.specs.Verdict.{counts_from}
use Rattle.sheet.specs.declared.line.Attribute.{Attribute}
use Rattle.sheet.specs.declared.line.Layout.{Layout}
use Rattle.sheet.specs.declared.line.Row.{Row}
use Rattle.tree.specs.declared.attributes.Span.{Span}
use Rattle.tree.specs.declared.questions.QuestionError.{QuestionError}
use Rattle.tree.specs.Attributes.{name_at, attributes_from, find_of, value_in, RangeInside, attribute_to, attribute_of, numbers, values, range_numbers, range_values, range_of, attribute_numbers, attribute_values}
use Rattle.tree.specs.Node.{attribute}
use Rattle.tree.proofs.NodeLaws.{attribute_cons_here, attribute_cons_next}
use Rattle.tree.proofs.QuestionsLaws.{asked_by_sheet}
use Rattle.tree.specs.Questions.{asked_of}

module _ (s : Bytes) (l : Layout) (name : Bytes) where
  find_here : (j n : ℕ) → same (name_at s l j) name ≡ true → find_of s l name j (suc n) ≡ Some (record { at = (attribute_at s l j).value_at; len = (attribute_at s l j).value_len })
  unfolding find_of
  find_here j n e = rw (e, find_of)

  find_next : (j n : ℕ) → same (name_at s l j) name ≡ false → find_of s l name j (suc n) ≡ find_of s l name (suc j) n
  unfolding find_of
  find_next j n e = rw (e, find_of)

  -- the range that is found holds the value of the attribute of that name
  pub find_is : (j n : ℕ) → value_in s l (find_of s l name j n) ≡ attribute (attributes_from s l j n) name
  unfolding find_of attributes_from attribute
  find_is j zero = refl
  find_is j (suc n) =
      by_test (same (name_at s l j) name)
      (λ e. ap (value_in s l) (find_here j n e) ∙ sym (attribute_cons_here _ (attributes_from s l (suc j) n) name e))
      (λ e. ap (value_in s l) (find_next j n e) ∙ find_is (suc j) n ∙ sym (attribute_cons_next _ (attributes_from s l (suc j) n) name e))

  module _ (from n j : ℕ) where
    step_is : j < n → n - j ≡ suc (n - (j + 1))
    step_is h = omega arith

    module _ (h : j < n) {a : Attribute} (a_is : a ≡ attribute_at s l (from + j)) {text : Bytes} (text_is : text ≡ range s l a.name_at a.name_len) where
      named : same text name ≡ same (name_at s l (from + j)) name
      named = rw (text_is, a_is)

      pub find_found : same text name ≡ true → Some (record { at = a.value_at; len = a.value_len }) ≡ find_of s l name (from + j) (n - j)
      find_found e = rw (step_is h, a_is) (sym (find_here (from + j) (n - (j + 1)) (sym named ∙ e)))

      pub find_more : same text name ≡ false → find_of s l name (from + (j + 1)) (n - (j + 1)) ≡ find_of s l name (from + j) (n - j)
      find_more e =
          let next : from + (j + 1) ≡ suc (from + j) = omega arith in
          rw (step_is h, next) (sym (find_next (from + j) (n - (j + 1)) (sym named ∙ e)))

    pub find_end : n ≤ j → None ≡ find_of s l name (from + j) (n - j)
    unfolding find_of
    find_end h = let z : n - j ≡ 0 = omega arith in rw (z, find_of)

module _ (s : Bytes) (l : Layout) where
  counts_split : (i n m : ℕ) → counts_from s l i (n + m) ≡ counts_from s l i n + counts_from s l (i + n) m
  unfolding counts_from
  counts_split i zero m = let p : 0 + m ≡ m = omega arith in let q : i + 0 ≡ i = omega arith in rw (p, q) (omega arith)
  counts_split i (suc n) m =
      let p : suc n + m ≡ suc (n + m) = omega arith in
      let q : i + suc n ≡ suc i + n = omega arith in
      let r = counts_split (suc i) n m in
      rw (p, q) (omega arith)

  pub counts_next : {r : Row} (i : ℕ) → r ≡ row_at s l i → counts_from s l 0 (i + 1) ≡ counts_from s l 0 i + r.attributes
  unfolding counts_from
  counts_next i e =
      let z : 0 + i ≡ i = omega arith in
      let r = rw z at (counts_split 0 i 1) in
      rw e (omega (arith, r))

  -- the attribute lines of a row are lines of the sheet
  pub counts_fit : {r : Row} → Accepted s l → (i : ℕ) → i < l.nodes → r ≡ row_at s l i → counts_from s l 0 i + r.attributes ≤ l.attributes
  counts_fit a i h e =
      let p : (i + 1) + (l.nodes - (i + 1)) ≡ l.nodes = omega arith in
      let q = counts_split 0 (i + 1) (l.nodes - (i + 1)) in
      let q' = rw p at q in
      omega (arith, counts_next i e, a.counts)

  pub counts_none : counts_from s l 0 0 ≡ 0
  unfolding counts_from
  counts_none = refl

  pub counts_at : {i j : ℕ} → i ≡ j → counts_from s l 0 i ≡ counts_from s l 0 j
  counts_at e = ap (counts_from s l 0) e

  pub find_start : (name : Bytes) (from n : ℕ) → find_of s l name (from + 0) (n - 0) ≡ find_of s l name from n
  find_start name from n = let p : from + 0 ≡ from = omega arith in let q : n - 0 ≡ n = omega arith in rw (p, q)

  pub name_fits : {a : Attribute} → Accepted s l → (j : ℕ) → j < l.attributes → a ≡ attribute_at s l j → a.name_at + a.name_len ≤ l.pool
  name_fits p j h e = rw e (p.attribute_name j h).inside

-- a range that is found lies in the pool
module _ {s : Bytes} {l : Layout} (accepted : Accepted s l) (name : Bytes) where
  pub find_inside : (j n : ℕ) → j + n ≤ l.attributes → RangeInside l (find_of s l name j n)
  unfolding find_of
  find_inside j zero h = tt
  find_inside j (suc n) h =
      by_test (same (name_at s l j) name)
      (λ e. rw (find_here s l name j n e) (accepted.attribute_value j (omega arith)).inside)
      (λ e. rw (find_next s l name j n e) (find_inside (suc j) n (omega arith)))

-- the answer to a byte string, by what is asked
module _ (s : Bytes) (row : ℕ) (name : Bytes) where
  numbers_is : numbers (attribute_of s row name) ≡ attribute_numbers s row name
  unfolding attribute_of attribute_numbers
  numbers_is = asked_by_sheet s row (λ x. numbers (attribute_to s row name x)) (λ l. refl) refl (λ e. refl)

  values_is : values (attribute_of s row name) ≡ attribute_values s row name
  unfolding attribute_of attribute_values
  values_is = asked_by_sheet s row (λ x. values (attribute_to s row name x)) (λ l. refl) refl (λ e. refl)

  pub attribute_is : {a : Result (Option Span) QuestionError} {x : Result (Layout × Row) QuestionError} → a ≡ attribute_to s row name x → x ≡ asked_of s row
      → (a ≡ attribute_of s row name) × (numbers a ≡ attribute_numbers s row name) × (values a ≡ attribute_values s row name)
  unfolding attribute_of
  attribute_is {a} e q =
      let p : a ≡ attribute_to s row name (asked_of s row) = e ∙ ap (attribute_to s row name) q in
      (p, ap numbers p ∙ numbers_is, ap values p ∙ values_is)

  pub attribute_found : {l : Layout} {r : Row} {x : Option Span} {k : ℕ} → x ≡ find_of s l name k r.attributes
      → k ≡ counts_from s l 0 row → Ok (l, r) ≡ asked_of s row → (Ok x ≡ attribute_of s row name) × (numbers (Ok x) ≡ attribute_numbers s row name) × (values (Ok x) ≡ attribute_values s row name)
  attribute_found {l} {r} f g q = attribute_is (ap Ok (f ∙ ap (λ (n : ℕ). find_of s l name n r.attributes) g)) q
