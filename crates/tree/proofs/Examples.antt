-- Small trees by computation: navigation, forest, text content and attributes.
use Rattle.std.specs.Prelude.{Option, None, Some}
use mathlib.Core.Path.{◌≡◌, refl}
use mathlib.Core.Bool.{Bool, true, ◌&&◌}
use mathlib.Core.List.{List, [], ◌∷◌, ◌++◌, map}
use Prim.Native.Nat.{ℕ, zero, suc, ◌≤◌, ◌<◌}
use native.Mathlib.Omega.{arith}
use lib.Dec.{ltb, leb}
use lib.ListN.{length, get_or}
use borrow.Author.Tests.{ltb-true, leb-true}
use Rattle.common.specs.Bytes.{Bytes, codes, same}
use Rattle.common.proofs.Choice.{and_parts}
use Rattle.sheet.specs.Column.{parent_of}
use Rattle.tree.specs.Forest.{Forest, empty, node, preorder}
use Rattle.tree.specs.Node.{element, text, comment, Attribute, Node, tag, attribute, attribute_or_empty}
use Rattle.tree.specs.Rows.{WellFormed, build, numbered, forest_of, rows_from, scan_of, first_child_of, next_sibling_of, past_from, past_of}
use Rattle.tree.specs.TextContent.{concatenated, text_content}

-- ---- a column, its forest, and for each row its parent, first child, next sibling and the first row past

record Example : Type 0 where
  depths : List ℕ
  forest : Forest ℕ
  rows : List (Option ℕ × Option ℕ × Option ℕ × ℕ)

-- a row with no children
abbrev leaf : ℕ → Forest ℕ → Forest ℕ
leaf i rest = node i empty rest

abbrev examples : List Example
examples =
    record { depths = 0 ∷ []; forest = leaf 0 empty; rows = (None, None, None, 1) ∷ [] }
    ∷ record {
      depths = 0 ∷ 1 ∷ 2 ∷ 2 ∷ 1 ∷ [];
      forest = node 0 (node 1 (leaf 2 (leaf 3 empty)) (leaf 4 empty)) empty;
      rows =
          (None, Some 1, None, 5)
          ∷ (Some 0, Some 2, Some 4, 4)
          ∷ (Some 1, None, Some 3, 3)
          ∷ (Some 1, None, None, 4)
          ∷ (Some 0, None, None, 5)
          ∷ [];
    }
    ∷ record {
      depths = 0 ∷ 1 ∷ 1 ∷ 2 ∷ 3 ∷ 1 ∷ [];
      forest = node 0 (leaf 1 (node 2 (node 3 (leaf 4 empty) empty) (leaf 5 empty))) empty;
      rows =
          (None, Some 1, None, 6)
          ∷ (Some 0, None, Some 2, 2)
          ∷ (Some 0, Some 3, Some 5, 5)
          ∷ (Some 2, Some 4, None, 5)
          ∷ (Some 3, None, None, 5)
          ∷ (Some 0, None, None, 6)
          ∷ [];
    }
    ∷ []

computed : Example → Example
unfolding build numbered rows_from scan_of past_from
computed e =
    let depths = e.depths in
    record {
      depths = depths;
      forest = forest_of depths;
      rows = map (λ j. (parent_of depths j, first_child_of depths j, next_sibling_of depths j, past_of depths j)) (rows_from 0 (length depths));
    }

examples_hold : map computed examples ≡ examples
unfolding computed
examples_hold = refl

-- two of these columns are well-formed, by one test of their later depths

rising : ℕ → List ℕ → Bool
rising p [] = true
rising p (x ∷ l) = ltb 0 x && (leb x (suc p) && rising x l)

rising_at : (p : ℕ) (l : List ℕ) → rising p l ≡ true → (i : ℕ) → i < length l → (1 ≤ get_or l i 0) × (get_or l i 0 ≤ suc (get_or (p ∷ l) i 0))
unfolding rising
rising_at p [] t i h = absurd (omega arith)
rising_at p (x ∷ l) t zero h =
    let a = and_parts (ltb 0 x) (leb x (suc p) && rising x l) t in
    (ltb-true 0 x a.0, leb-true x (suc p) (and_parts (leb x (suc p)) (rising x l) a.1).0)
rising_at p (x ∷ l) t (suc i) h =
    let a = and_parts (ltb 0 x) (leb x (suc p) && rising x l) t in
    rising_at x l (and_parts (leb x (suc p)) (rising x l) a.1).1 i (omega arith)

well_formed : (l : List ℕ) → rising 0 l ≡ true → WellFormed (0 ∷ l)
well_formed l t =
    record { row = omega arith; root = refl; later = λ i h. (rising_at 0 l t i (omega arith)).0; step = λ i h. (rising_at 0 l t i (omega arith)).1 }

columns_well_formed : WellFormed (0 ∷ 1 ∷ 2 ∷ 2 ∷ 1 ∷ []) × WellFormed (0 ∷ 1 ∷ 1 ∷ 2 ∷ 3 ∷ 1 ∷ [])
unfolding rising
columns_well_formed = (well_formed (1 ∷ 2 ∷ 2 ∷ 1 ∷ []) refl, well_formed (1 ∷ 1 ∷ 2 ∷ 3 ∷ 1 ∷ []) refl)

-- ---- `<body><p class="x" id="y" class="z">a<!--c--></p>b`, whose depths are the second column's

abbrev element_of : Bytes → List Attribute → Node
element_of name attributes = record { kind = element; name = name; value = []; attributes = attributes }

abbrev text_of : Bytes → Node
text_of value = record { kind = text; name = []; value = value; attributes = [] }

abbrev comment_of : Bytes → Node
comment_of value = record { kind = comment; name = []; value = value; attributes = [] }

abbrev attributes_of_p : List Attribute
unfolding codes
attributes_of_p =
    record { name = codes "class"; value = codes "x" }
    ∷ record { name = codes "id"; value = codes "y" }
    ∷ record { name = codes "class"; value = codes "z" }
    ∷ []

abbrev page : List Node
unfolding codes
page = element_of (codes "body") [] ∷ element_of (codes "p") attributes_of_p ∷ text_of (codes "a") ∷ comment_of (codes "c") ∷ text_of (codes "b") ∷ []

abbrev node_of : ℕ → Node
node_of j = get_or page j (text_of [])

-- of each row, in tree order
abbrev tags_and_texts : Forest ℕ → List (Bytes × Bytes)
tags_and_texts empty = []
tags_and_texts (node j children rest) = (tag (node_of j), text_content node_of j children) ∷ (tags_and_texts children ++ tags_and_texts rest)

page_holds : tags_and_texts (forest_of (0 ∷ 1 ∷ 2 ∷ 2 ∷ 1 ∷ []))
    ≡ (codes "body", codes "ab") ∷ (codes "p", codes "a") ∷ ([], codes "a") ∷ ([], codes "c") ∷ ([], codes "b") ∷ []
unfolding codes build numbered preorder tag concatenated text_content
page_holds = refl

attributes_hold : map (attribute attributes_of_p) (codes "class" ∷ codes "id" ∷ codes "name" ∷ []) ≡ Some (codes "x") ∷ Some (codes "y") ∷ None ∷ []
unfolding codes same attribute
attributes_hold = refl

absent_holds : attribute_or_empty attributes_of_p (codes "name") ≡ []
unfolding codes same attribute
absent_holds = refl
