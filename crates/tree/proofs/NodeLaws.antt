-- A row's tag; an attribute by name is the first of that name, and one step of the search for it.
use Rattle.std.proofs.lemmas.Option.{none-some, same_Some}
use Rattle.std.specs.Prelude.{None, Some, slice_get}
use mathlib.Core.Path.{◌≡◌, refl, sym, ap, ◌∙◌}
use mathlib.Core.Bool.{true, false}
use mathlib.Core.List.{List, [], ◌∷◌}
use Prim.Native.Nat.{ℕ, zero, suc, ◌+◌, ◌≤◌, ◌<◌}
use native.Mathlib.Omega.{arith}
use native.Mathlib.Numerals.{add-one}
use lib.ListN.{length, get_or, drop, drop_of_length-le}
use lib.Seq.{drop-cons}
use Rattle.common.specs.Bytes.{Bytes, same}
use Rattle.common.proofs.Choice.{by_test, absurd_test}
use Rattle.common.proofs.Equality.{same_true, same_of, same_not}
use Rattle.tree.specs.Node.{Kind, element, text, comment, Attribute, Node, tag, attribute, FirstOfName, AttributeByName}

-- a fact by cases of a kind
pub by_kind {ℓ} : {P : Type ℓ} (k : Kind) → (k ≡ element → P) → (k ≡ text → P) → (k ≡ comment → P) → P
by_kind element f g h = f refl
by_kind text f g h = g refl
by_kind comment f g h = h refl

module _ (n : Node) where
  pub tag_of_element : n.kind ≡ element → tag n ≡ n.name
  unfolding tag
  tag_of_element e = rw (e, tag)

  pub tag_of_other : (n.kind ≡ element → ⊥) → tag n ≡ []
  unfolding tag
  tag_of_other h = by_kind n.kind (λ e. absurd (h e)) (λ e. rw (e, tag)) (λ e. rw (e, tag))

-- ---- an attribute by name

module _ (a : Attribute) (l : List Attribute) (name : Bytes) where
  pub attribute_cons_here : same a.name name ≡ true → attribute (a ∷ l) name ≡ Some a.value
  unfolding attribute
  attribute_cons_here e = rw (e, attribute)

  pub attribute_cons_next : same a.name name ≡ false → attribute (a ∷ l) name ≡ attribute l name
  unfolding attribute
  attribute_cons_next e = rw (e, attribute)

module _ (name : Bytes) where
  -- the first attribute, if it has another name, counts for nothing
  first_tail : (a : Attribute) (l : List Attribute) (i : ℕ) (b : Attribute) → FirstOfName (a ∷ l) name (suc i) b → FirstOfName l name i b
  first_tail a l i b f = record { there = f.there; named = f.named; earlier = λ k c h. f.earlier (suc k) c (omega arith) }

  first_cons : (a : Attribute) (l : List Attribute) (i : ℕ) (b : Attribute) → (a.name ≡ name → ⊥) → FirstOfName l name i b → FirstOfName (a ∷ l) name (suc i) b
  first_cons a l i b n f = record { there = f.there; named = f.named; earlier = go }
    where
      go : (k : ℕ) (c : Attribute) → k < suc i → slice_get (a ∷ l) k ≡ Some c → c.name ≡ name → ⊥
      go zero c h e q = n (ap (λ (x : Attribute). x.name) (same_Some a c e) ∙ q)
      go (suc k) c h e q = f.earlier k c (omega arith) e q

  found : (l : List Attribute) (i : ℕ) (a : Attribute) → FirstOfName l name i a → attribute l name ≡ Some a.value
  found [] i a f = cc
  found (b ∷ l) zero a f =
      let e = same_Some b a f.there in
      rw e (attribute_cons_here a l name (same_of a.name name f.named))
  found (b ∷ l) (suc i) a f =
      attribute_cons_next b l name (same_not b.name name (λ q. f.earlier 0 b (omega arith) refl q)) ∙ found l i a (first_tail b l i a f)

  absent : (l : List Attribute) → ((i : ℕ) (a : Attribute) → slice_get l i ≡ Some a → a.name ≡ name → ⊥) → attribute l name ≡ None
  unfolding attribute
  absent [] n = refl
  absent (b ∷ l) n = attribute_cons_next b l name (same_not b.name name (n 0 b refl)) ∙ absent l (λ i. n (suc i))

  only : (l : List Attribute) (value : Bytes) → attribute l name ≡ Some value → (i : ℕ) × (a : Attribute) × FirstOfName l name i a × (a.value ≡ value)
  unfolding attribute
  only [] value e = absurd (none-some value e)
  only (b ∷ l) value e =
      by_test (same b.name name)
      (λ q. (
        0,
        b,
        record { there = refl; named = same_true b.name name q; earlier = λ k c h. absurd (omega arith) },
        same_Some b.value value (sym (attribute_cons_here b l name q) ∙ e),
      ))
      (λ q.
      let r = only l value (sym (attribute_cons_next b l name q) ∙ e) in
      (suc r.0, r.1, first_cons b l r.0 r.1 (λ p. absurd_test (same_of b.name name p) q) r.2, r.3))

pub attribute_by_name : (attributes : List Attribute) (name : Bytes) → AttributeByName attributes name
attribute_by_name attributes name = record { found = found name attributes; absent = absent name attributes; only = only name attributes }

-- ---- as a loop goes over the attributes

module _ (attributes : List Attribute) (name : Bytes) (i : ℕ) where
  module _ (a d : Attribute) (h : i < length attributes) (e : a ≡ get_or attributes i d) where
    left_is : drop i attributes ≡ a ∷ drop (suc i) attributes
    left_is = rw e (drop-cons attributes i d h)

    pub attribute_here : same a.name name ≡ true → attribute (drop i attributes) name ≡ Some a.value
    attribute_here q = rw left_is (attribute_cons_here a (drop (suc i) attributes) name q)

    pub attribute_next : same a.name name ≡ false → attribute (drop i attributes) name ≡ attribute (drop (i + 1) attributes) name
    attribute_next q = rw (add-one, left_is) (attribute_cons_next a (drop (suc i) attributes) name q)

  pub attribute_end : length attributes ≤ i → attribute (drop i attributes) name ≡ None
  unfolding attribute
  attribute_end h = rw (drop_of_length-le attributes {i = i} h)
