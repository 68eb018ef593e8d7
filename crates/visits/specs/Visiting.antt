-- The visits of a walk: what a pass asks of the noted columns, and what is left of the events where the walk stands.
use Rattle.std.specs.Prelude.{◌≡◌, Bool, false, List, [], ◌∷◌, ℕ, suc, ◌≤◌, ◌<◌, length, get_or, Option, None, Some}
use Rattle.common.specs.Bytes.{Bytes}
use Rattle.options.specs.declared.ExtractOptions.{ExtractOptions}
use Rattle.sheet.specs.Accepted.{Accepted}
use Rattle.sheet.specs.Layout as layout
use Rattle.sheet.specs.Layout.{most_depth}
use Rattle.sheet.specs.declared.line.Layout.{Layout}
use Rattle.tree.specs.Node.{comment}
use Rattle.tree.specs.Page.{node_at, page_of}
use Rattle.html2text.specs.Bounds.{most_events, EachAdds}
use Rattle.html2text.specs.Collect.{Event}
use Rattle.html2text.specs.Fused.{Fused, idle, fed_all}
use Rattle.html2text.specs.Walk.{tree_of}
use Rattle.collect.specs.Visits.{Visits, event_of}
use Rattle.collect.specs.declared.Visit.{Visit}
use Rattle.walk.specs.Turns.{turns, turns_left, events_of, flagged, Fits}
use Rattle.walk.specs.declared.cursor.Turn.{Turn}
use Rattle.walk.specs.declared.cursor.Turn.TheVariants.{Begin, End, LeftOut}
use Rattle.walk.specs.declared.cursor.Walk.{Walk}

-- a visit to row i, with its numbers from the columns
abbrev pub visit_of : List ℕ → List ℕ → List ℕ → List ℕ → ℕ → ℕ → Bool → Bool → Visit
visit_of tags attributes values lengths i d children end =
    record {
      row = i;
      tag = get_or tags i 0;
      first = get_or attributes i 0;
      value_at = get_or values i 0;
      value_len = get_or lengths i 0;
      children = children;
      depth = d;
      end = end;
    }

module _ (s : Bytes) (l : Layout) where
  -- the events of passes; which rows are left out is decided in the passes
  abbrev pub events_in : List Turn → List Event
  events_in ts = events_of (node_at s l) (λ i. false) ts

  -- a row of the sheet that is no comment
  pub record RowShown (i : ℕ) : Type 0 where
    pub inside : i < l.nodes
    pub shown : (node_at s l i).kind ≡ comment → ⊥

  -- every row that is visited is one
  abbrev pub Shown : Turn → Type 0
  Shown (Begin i d children) = RowShown i
  Shown (End i d) = RowShown i
  Shown LeftOut = Unit {0}

  unfoldable pub EachShown : List Turn → Type 0
  EachShown [] = Unit {0}
  EachShown (t ∷ ts) = Shown t × EachShown ts

  -- all passes of the walk, where `left` says which rows are left out
  abbrev pub passes_of : List Bool → List Turn
  passes_of left = turns (flagged left) 0 (tree_of (page_of s l))

  -- the columns are long enough, and a visit's numbers are those of its row
  pub record Noted (depths tags attributes values lengths : List ℕ) : Type 0 where
    pub accepted : Accepted s l
    pub column : depths ≡ layout.depths s l
    pub tags_long : l.nodes ≤ length tags
    pub attributes_long : l.nodes ≤ length attributes
    pub values_long : l.nodes ≤ length values
    pub lengths_long : l.nodes ≤ length lengths
    pub visits : (i d : ℕ) (children end : Bool) → RowShown i → Visits s l (visit_of tags attributes values lengths i d children end)

  -- the rows that are visited are rows of the sheet, and the events are few and add little
  pub record Walked (o : ExtractOptions) (left : List Bool) : Type 0 where
    pub long : l.nodes ≤ length left
    pub shown : EachShown (passes_of left)
    pub few : length (events_in (passes_of left)) ≤ most_events
    pub each : EachAdds o (events_in (passes_of left))

  -- the fused run over all events of the walk
  abbrev pub run_of : ExtractOptions → List Bool → Fused
  run_of o left = fed_all o (events_in (passes_of left)) idle

  -- ---- where the walk stands

  abbrev pub passes_left : List Bool → Walk → List ℕ → List Turn
  passes_left left w stack = turns_left (layout.depths s l) (flagged left) w stack

  abbrev pub events_left : List Bool → Walk → List ℕ → List Event
  events_left left w stack = events_in (passes_left left w stack)

  -- the stack has room for what is left, and the rows that are left to visit are rows of the sheet
  pub record WalkStands (left : List Bool) (w : Walk) (stack : List ℕ) : Type 0 where
    pub deep : most_depth < length stack
    pub fits : Fits (layout.depths s l) (length stack) w
    pub shown : EachShown (passes_left left w stack)

  -- a visit is one to a row of the sheet; at a row that is left out there is none
  abbrev pub VisitsAny : Option Visit → Type 0
  VisitsAny (Some v) = Visits s l v
  VisitsAny None = Unit {0}

  -- its event, before others
  abbrev pub event_before : Option Visit → List Event → List Event
  event_before (Some v) events = event_of s l v ∷ events
  event_before None events = events

  -- of the passes `ts`, a visit is the first, or a row that is left out, and the others are left after it; or none is left
  abbrev pub Sees : List Bool → List Turn → Option (Option Visit × Walk) → List ℕ → Type 0
  Sees left ts (Some p) stack =
      VisitsAny p.0 × (events_in ts ≡ event_before p.0 (events_left left p.1 stack)) × (length ts ≡ suc (length (passes_left left p.1 stack))) × WalkStands left p.1 stack
  Sees left ts None stack = ts ≡ []
