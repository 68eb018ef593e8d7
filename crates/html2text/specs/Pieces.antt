-- Pieces (document 01, "Pieces and the lost strip").
use Rattle.std.specs.Prelude.{Bool, true, false, ◌&&◌, ◌||◌, not, cond, List, [], ◌∷◌, ◌++◌, map, ℕ}
use Rattle.common.specs.Bytes.{Bytes, codes, is_empty}
use Rattle.options.specs.declared.ExtractOptions.{ExtractOptions}
use Rattle.tags.specs.Words.{is, one_of, words}
use Rattle.text.specs.Text.{trim, struck}
use Rattle.tree.specs.Forest.{Forest, empty, node, has_trees}
use Rattle.tree.specs.Node.{element, text, comment, Node}
use Rattle.html2text.specs.Collect.{attr, is_unshown_type, alt_text}
use Rattle.html2text.specs.Walk.{left_out}

-- the bytes of a piece, and the rows from its own up to the root
pub record Piece : Type 0 where
  pub path : List ℕ
  pub bytes : Bytes

-- "an input's trimmed value or, where that is empty, its trimmed placeholder"
abbrev pub shown_value : Node → Bytes
shown_value n =
    cond (is_empty (trim (attr n (codes "value")))) (trim (attr n (codes "placeholder"))) (trim (attr n (codes "value")))

-- the pieces of an element, at its beginning or at its end
unfoldable pub element_pieces : ExtractOptions → Node → Bool → List Bytes
element_pieces o n end =
    cond (o.links && is n.name "a") (cond end ((codes "(" ++ (trim (attr n (codes "href")) ++ codes ")")) ∷ []) [])
    (cond (o.alt_texts && one_of n.name (words "img area")) (alt_text o n ∷ [])
    (cond (o.form_fields && one_of n.name (words "textarea button")) (cond end (codes "]") (codes "[") ∷ [])
    (cond (o.form_fields && (is n.name "input" && not (is_unshown_type (trim (attr n (codes "type"))))))
    (cond (is_empty (shown_value n)) [] ((codes "[" ++ (shown_value n ++ codes "]")) ∷ []))
    [])))

unfoldable pub row_pieces : ExtractOptions → Node → Bool → List Bytes
row_pieces o n end = elim n.kind [ element ↦ element_pieces o n end | text ↦ n.value ∷ [] | comment ↦ [] ]

abbrev pub along : List ℕ → List Bytes → List Piece
along path bs = map (λ b. record { path = path; bytes = b }) bs

module _ (node_of : ℕ → Node) (hidden : ℕ → Bool) (o : ExtractOptions) where
  -- "Their document order: a row's own, those of its children in turn, then those after it or at its end."
  -- `up`: the rows above, nearest first. What is left out is not visible, nor what stands below it.
  unfoldable pub pieces : List ℕ → Forest ℕ → List Piece
  pieces up empty = []
  pieces up (node i children rest) =
      cond (left_out node_of hidden i) []
      (along (i ∷ up) (row_pieces o (node_of i) false)
      ++ (pieces (i ∷ up) children ++ cond (has_trees children) (along (i ∷ up) (row_pieces o (node_of i) true)) []))
      ++ pieces up rest

-- "blanks are struck out of each piece too, and nothing stands between pieces"
unfoldable pub struck_pieces : List Piece → Bytes
struck_pieces [] = []
struck_pieces (p ∷ ps) = struck p.bytes ++ struck_pieces ps

abbrev pub any_of : (ℕ → Bool) → List ℕ → Bool
any_of test [] = false
any_of test (i ∷ is) = test i || any_of test is

-- the pieces less those at and under the rows of a test
unfoldable pub without : (ℕ → Bool) → List Piece → List Piece
without test [] = []
without test (p ∷ ps) = cond (any_of test p.path) (without test ps) (p ∷ without test ps)
