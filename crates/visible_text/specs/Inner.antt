-- What the inner functions promise: the steps by numbers, and what is left of the walk where it stands.
use Rattle.std.specs.Prelude.{true, false, ◌||◌, cond, List, [], ◌∷◌, ℕ, zero, suc, ◌+◌, ◌-◌, eqb, length, get_or}
use Rattle.common.specs.Bytes.{Bytes}
use Rattle.tags.specs.Words.{is}
use Rattle.text.specs.Text.{is_ascii_whitespace}
use Rattle.tree.specs.Forest.{has_trees}
use Rattle.tree.specs.Node.{element, text, comment, Node}
use Rattle.tree.specs.Rows.{forest_from}
use Rattle.writer.specs.Out.{Out, push_all, strip_by}
use Rattle.visible_text.specs.VisibleText.{is_block_element, is_silent, walk}

-- ---- what the steps make of a row, by a number: src/names.rt

abbrev pub inline : ℕ
inline = 0

abbrev pub block : ℕ
block = 1

abbrev pub paragraph : ℕ
paragraph = 2

abbrev pub pre : ℕ
pre = 3

abbrev pub br : ℕ
br = 4

abbrev pub silent : ℕ
silent = 5

unfoldable pub step_of : Bytes → ℕ
step_of name =
    cond (is_silent name) silent
    (cond (is name "pre") pre
    (cond (is name "br") br
    (cond (is_block_element name) (cond (is name "p") paragraph block)
    inline)))

unfoldable pub step_at : (ℕ → Node) → ℕ → ℕ
step_at node_of i = elim (node_of i).kind [ element ↦ step_of (node_of i).name | text ↦ inline | comment ↦ silent ]

-- the LFs of a block
unfoldable pub insert_by : ℕ → Out → Out
insert_by step o =
    cond (eqb step block || eqb step pre) (push_all (0x0a ∷ []) (strip_by is_ascii_whitespace o))
    (cond (eqb step paragraph) (push_all (0x0a ∷ 0x0a ∷ []) (strip_by is_ascii_whitespace o))
    o)

-- what the begin step of an element adds, whose text content is `content`
unfoldable pub begin_by : ℕ → Bytes → Out → Out
begin_by step content o = cond (eqb step pre) (push_all content o) (cond (eqb step br) (push_all (0x0a ∷ []) o) (insert_by step o))

-- ---- the open rows

-- where n are open, with their steps in a stack, the end steps of the innermost k of them
unfoldable pub ends_of : List ℕ → ℕ → ℕ → Out → Out
ends_of steps n zero o = o
ends_of steps n (suc k) o = ends_of steps (n - 1) k (insert_by (get_or steps (n - 1) 0) o)

-- ---- the walk below a row at depth `base`, where the rows from row k on are still to come

module _ (node_of : ℕ → Node) (depths : List ℕ) (base : ℕ) where
  -- when nothing is left below the innermost of the open rows: its end, where it has no next sibling, or its later siblings, and then the
  -- same of the rows above it
  unfoldable pub closing : ℕ → List ℕ → Out → Out
  closing k [] o = o
  closing k (step ∷ up) o =
      let siblings = forest_from depths k (suc (base + length up)) in
      closing k up (walk node_of siblings (elim (has_trees siblings) [ true ↦ o | false ↦ insert_by step o ]))

  abbrev pub remaining : ℕ → List ℕ → Out → Out
  remaining k up o = closing k up (walk node_of (forest_from depths k (suc (base + length up))) o)
