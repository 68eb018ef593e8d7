-- How large the numbers of a run can grow, by how many events there are and how much one of them adds: with at most `most_events` events, each
-- of which adds at most `most_added` bytes, all of them fit a word.
use Rattle.std.specs.Prelude.{◌≡◌, Bool, List, [], ◌∷◌, ℕ, ◌+◌, ◌*◌, ◌≤◌, length, get_or}
use Rattle.common.specs.Answer.{Answer}
use Rattle.common.specs.Bytes.{Bytes}
use Rattle.options.specs.declared.ExtractOptions.{ExtractOptions}
use Rattle.sheet.specs.Layout.{most_rows}
use Rattle.sheet.specs.declared.line.Layout.{Layout}
use Rattle.tree.specs.Page.{widest_pool, node_at, page_of}
use Rattle.html2text.specs.Collect.{Event, added}
use Rattle.html2text.specs.Extract.{Run, going, too_many_levels, too_many_rows, most_levels, most_open_rows}
use Rattle.html2text.specs.Fused.{Fused, idle, closed, fed_all}
use Rattle.html2text.specs.Serialize.{State}
use Rattle.html2text.specs.Walk.{events, tree_of}

-- two events a row
abbrev pub most_events : ℕ
most_events = 2 * most_rows

-- six times the longest pool, and what a link has beside its address
abbrev pub most_added : ℕ
most_added = 6 * widest_pool + 11

-- what a step after k entries can write beside its text: margins, indents, marks and tags
abbrev pub beside : ℕ → ℕ
beside k = 20 * k + 6 * most_levels + 83

-- six times that, and what a step writes beside its text
abbrev pub most_written : ℕ
most_written = 6 * most_added + beside most_events

-- where no entry was refused, P holds of the state
abbrev pub Going : (State → Type 0) → Run → Type 0
Going P (going S) = P S
Going P (too_many_levels line) = Unit {0}
Going P (too_many_rows line) = Unit {0}

-- a state after at most k entries: what was written and, six for each byte of it, an open text of `held` bytes are at most `most`
pub record StateWithin (k most held : ℕ) (S : State) : Type 0 where
  pub margins : S.margins ≤ 4 * k
  pub uncollapsed : S.uncollapsed ≤ k
  pub numbers : (i : ℕ) → get_or S.numbering i 0 ≤ k + 1
  pub numbering : S.depth ≡ length S.numbering
  pub depth : S.depth ≤ most_levels
  pub rows : length S.row_has_cell ≤ most_open_rows
  pub prefix : length S.prefix ≤ 12
  pub below : length S.out.text ≤ S.out.peak
  pub peak : S.out.peak + 6 * held ≤ most

-- the fused run after at most k events that each add at most `adds` bytes to a text and `writes` to what is written
pub record FusedWithin (adds writes k : ℕ) (F : Fused) : Type 0 where
  pub pre_depth : F.node.pre_depth ≤ k
  pub below : length F.note.text ≤ F.note.peak
  pub need : F.note.peak ≤ k * adds
  pub run : Going (StateWithin k (k * writes) (length F.note.text)) F.run

-- all of them are so
abbrev pub Each : {A : Type 0} → (A → Type 0) → List A → Type 0
Each P [] = Unit {0}
Each P (x ∷ xs) = P x × Each P xs

-- an event that adds no more, whatever the current entry
pub record AddsAtMost (most : ℕ) (o : ExtractOptions) (e : Event) : Type 0 where
  pub short : (current : ℕ) → length (added o e.node e.end current) ≤ most

-- what is to be shown: before an event, and after the last one when the open entry is taken too
pub record RunWithin (adds writes : ℕ) (o : ExtractOptions) (es : List Event) : Type 0 where
  pub fed : FusedWithin adds writes (length es) (fed_all o es idle)
  pub closing : Going (StateWithin (length es + 1) ((length es + 1) * writes) 0) (closed o (fed_all o es idle))

-- ---- of any sheet

abbrev pub StateBounded : ℕ → State → Type 0
StateBounded k S = StateWithin k (k * most_written) 0 S

abbrev pub Bounded : ℕ → Fused → Type 0
Bounded k F = FusedWithin most_added most_written k F

abbrev pub Adds : ExtractOptions → Event → Type 0
Adds o e = AddsAtMost most_added o e

abbrev pub EachAdds : ExtractOptions → List Event → Type 0
EachAdds o es = Each (AddsAtMost most_added o) es

abbrev pub RunBounded : ExtractOptions → List Event → Type 0
RunBounded o es = RunWithin most_added most_written o es

-- part of the way along a run that ends as `whole`: `rest` is left of its events
pub record Along (o : ExtractOptions) (whole : Fused) (rest : List Event) (F : Fused) : Type 0 where
  pub count : ℕ
  pub few : count + length rest ≤ most_events
  pub bounded : Bounded count F
  pub each : EachAdds o rest
  pub same : fed_all o rest F ≡ whole

-- what is to be shown of the events of an accepted sheet's page
pub record EventsBounded (s : Bytes) (l : Layout) (hidden : ℕ → Bool) (o : ExtractOptions) : Type 0 where
  pub few : length (events (node_at s l) hidden 0 (tree_of (page_of s l))) ≤ most_events
  pub each : EachAdds o (events (node_at s l) hidden 0 (tree_of (page_of s l)))

-- ---- by the rows and the pool of a sheet

-- what an event can add to a text, and to what is written
abbrev pub added_in : Layout → ℕ
added_in l = 6 * l.pool + 11

abbrev pub written_by : Layout → ℕ
written_by l = 6 * added_in l + beside (2 * l.nodes)

-- what is to be shown of the numbers of an extraction from an accepted sheet to a buffer of `out` bytes: two events a row, and one entry that
-- is taken last
pub record AnswerBounded (l : Layout) (out : ℕ) (a : Answer) : Type 0 where
  pub number : a.number ≤ 32
  pub second : a.second ≤ (2 * l.nodes + 1) * written_by l
  pub visits : a.visits ≤ 2 * l.nodes
  pub length : a.length ≤ out
