-- What is to be shown of the definitions for every page, as types.
use Rattle.std.specs.Prelude.{◌≡◌, Bool, true, false, List, [], ◌∷◌, ◌++◌, ℕ, ◌+◌, ◌*◌, ◌≤◌, ◌<◌, length, get_or, Some}
use Rattle.options.specs.Options.{is_off}
use Rattle.options.specs.declared.ExtractOptions.{ExtractOptions}
use Rattle.sheet.specs.Column.{parent_of}
use Rattle.tags.specs.Tags.{is_li}
use Rattle.tree.specs.Node.{element}
use Rattle.tree.specs.Page.{Page}
use Rattle.tree.specs.Rows.{WellFormed}
use Rattle.html2text.specs.Collect.{Entry, collect_all}
use Rattle.html2text.specs.Extract.{going, serialized}
use Rattle.html2text.specs.Serialize.{State, count_uncollapsed, level}
use Rattle.html2text.specs.Walk.{events, visits, tree_of, loop, loop_from}

-- the page of an accepted sheet is of this kind
pub record PageRight (p : Page) : Type 0 where
  pub column : WellFormed p.depths
  pub root : p.root < length p.depths
  -- 14: "a parent is not an element"
  pub parent : (i j : ℕ) → j < length p.depths → parent_of p.depths j ≡ Some i → (p.node i).kind ≡ element

-- what is hidden by a row and the depth that the loop has counted is what is hidden by the row: that depth is the row's less the root's
abbrev pub HidesRows : Page → (ℕ → ℕ → Bool) → (ℕ → Bool) → Type 0
HidesRows p hidden_at hidden = (i d : ℕ) → get_or p.depths i 0 ≡ d + get_or p.depths p.root 0 → hidden_at i d ≡ hidden i

-- the Rust's loop comes to its end within 2·N passes, with the entries and the visits of the tree
pub record WalkOfTree (p : Page) (hidden_at : ℕ → ℕ → Bool) (hidden : ℕ → Bool) (o : ExtractOptions) : Type 0 where
  pub same : loop p hidden_at o ≡ record { nodes = collect_all o [] (events p.node hidden 0 (tree_of p)); passes = visits p.node hidden (tree_of p) }
  -- it has ended there: more passes change nothing
  pub ends : (k : ℕ) → loop_from p hidden_at o (2 * length p.depths + k) (Some p.root) 0 false (record { nodes = []; passes = 0 }) ≡ loop p hidden_at o
  -- "At most 2·N."
  pub most : visits p.node hidden (tree_of p) ≤ 2 * length p.depths

-- `numbering.last_mut().expect("list item has a list level")` is met with a level: before an li's entry e is taken, formatting not Off,
-- the state that `serialize` has then holds one
pub record LevelMet (p : Page) (hidden : ℕ → Bool) (o : ExtractOptions) : Type 0 where
  pub met : (later before : List Entry) (e : Entry) (S : State)
      → collect_all o [] (events p.node hidden 0 (tree_of p)) ≡ later ++ (e ∷ before)
      → is_off o.formatting ≡ false → serialized o before ≡ going S → is_li e.node.tag ≡ true
      → 1 ≤ length (level e.node (count_uncollapsed e.node S)).numbering
