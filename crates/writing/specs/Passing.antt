-- What the numbers of a pass say of a fused run in which no entry was refused, and what its functions ask for and promise.
use Rattle.std.specs.Prelude.{◌≡◌, Bool, true, false, ◌&&◌, not, cond, List, [], ℕ, ◌+◌, ◌≤◌, ◌<◌, leb, length, Result, Ok, Err}
use Rattle.common.specs.Bytes.{Bytes, length_limit}
use Rattle.options.specs.Options.{is_off}
use Rattle.options.specs.declared.ExtractOptions.{ExtractOptions}
use Rattle.options.specs.declared.Formatting.{Formatting}
use Rattle.sheet.specs.declared.line.Layout.{Layout}
use Rattle.tags.specs.Tags.{is_tr}
use Rattle.writer.specs.Writing.{Held, Room}
use Rattle.html2text.specs.Bounds.{most_events, StateBounded}
use Rattle.html2text.specs.Collect.{Event, marked}
use Rattle.html2text.specs.Escapes.{escaped_by, bytes_escaped}
use Rattle.html2text.specs.Extract.{Run, going, too_many_levels, too_many_rows, most_levels, most_open_rows}
use Rattle.html2text.specs.Fused.{Fused, closed, pushes_on, fed}
use Rattle.html2text.specs.Serialize.{State, changes_level, step}
use Rattle.html2text.specs.Showing.{dropped_showing, showing_of, showing_after, begun}
use Rattle.html2text.specs.declared.ExtractError as extract
use Rattle.html2text.specs.declared.ExtractError.{ExtractError}
use Rattle.html2text.specs.declared.Showing.{Showing}
use Rattle.collect.specs.Entries.{opens_on, node_of}
use Rattle.collect.specs.Visits.{Visits, event_of}
use Rattle.collect.specs.declared.Visit.{Visit}
use Rattle.serializer.specs.Serializing.{no_serializer, Lent, Stands}
use Rattle.visits.specs.Visiting.{events_in, passes_of, run_of}
use Rattle.writing.specs.declared.OpenEntry.{OpenEntry}
use Rattle.writing.specs.declared.LimitError.{LimitError}
use Rattle.writing.specs.declared.LimitError.TheVariants.{ListLevels, OpenRows}
use Rattle.writing.specs.declared.Passed.{Passed}

-- before the first visit
abbrev pub no_pass : OpenEntry
no_pass = record { progress = record { serializer = no_serializer; len = 0; need = 0; read = 0; showing = dropped_showing }; depth = 0; pre_depth = 0; tag = 0; any = false }

-- `depth_passes` and `rows_pass` of the entry that a visit would open
abbrev pub depth_passes_at : Formatting → Visit → ℕ → Bool
depth_passes_at f v depth = not (is_off f) && (not v.end && (changes_level v.tag depth && leb most_levels depth))

abbrev pub rows_pass_at : Visit → ℕ → Bool
rows_pass_at v rows = is_tr v.tag && (not v.end && leb most_open_rows rows)

-- how more of the open entry's text is shown
pub record ShowingIs (o : ExtractOptions) (F : Fused) (w : Showing) : Type 0 where
  pub before : State
  pub run : F.run ≡ going before
  pub is : w ≡ showing_after (showing_of o.formatting o.list_bullets F.node before) F.note.text

-- The numbers and the lent arrays stand for a fused run, its open entry's text so far shown; `under` is the buffer as it was.
pub record Passes (o : ExtractOptions) (write : Bool) (under : Bytes) (p : OpenEntry) (a : Lent) (F : Fused) : Type 0 where
  pub any : p.any ≡ F.any
  pub depth : p.depth ≡ F.node.depth
  pub nested : p.pre_depth ≡ F.node.pre_depth
  pub tag : p.tag ≡ F.node.tag
  pub len : write ≡ false → p.progress.len ≡ length F.note.text
  pub need : write ≡ false → p.progress.need ≡ F.note.peak
  pub below : length F.note.text ≤ F.note.peak
  pub state : State
  pub run : closed o F ≡ going state
  pub stands : Stands write under p.progress.serializer a state
  pub showing : F.any ≡ true → ShowingIs o F p.progress.showing

-- the arrays of list numbers and of rows have a place for each level and row
pub record Levelled (a : Lent) : Type 0 where
  pub numbering : length a.numbering ≡ most_levels
  pub cells : length a.cells ≡ most_open_rows

-- they stand for a run of few entries
pub record Standing (o : ExtractOptions) (write : Bool) (p : OpenEntry) (a : Lent) : Type 0 where
  pub under : Bytes
  pub fused : Fused
  pub passes : Passes o write under p a fused
  pub count : ℕ
  pub few : count ≤ most_events
  pub bounded : StateBounded (count + 1) passes.state
  pub deep : fused.node.pre_depth < length_limit
  pub levelled : Levelled a

-- of every run that they stand for at first, they stand for G of it at last
pub record PassDoes (o : ExtractOptions) (write : Bool) (p : OpenEntry) (a : Lent) (p' : OpenEntry) (a' : Lent) (G : Fused → Fused) : Type 0 where
  pub run : (under : Bytes) (F : Fused) → Passes o write under p a F → Passes o write under p' a' (G F)

-- ---- the entry that a visit opens

-- the run with the entry that an event opens, where it opens one
abbrev pub beginning : ExtractOptions → Event → Fused → Fused
beginning o e F = cond (pushes_on o F e) (begun o e F) F

-- it passes no limit, and there is room for what it writes before its text
pub record OpenReady (o : ExtractOptions) (write : Bool) (v : Visit) (p : OpenEntry) (a : Lent) : Type 0 where
  pub standing : Standing o write p a
  pub levels : depth_passes_at o.formatting v p.progress.serializer.depth ≡ false
  pub rows : rows_pass_at v p.progress.serializer.rows ≡ false
  pub room : opens_on o p.any p.depth v ≡ true
      → Room write standing.under (step o.formatting o.list_bullets (marked o v.tag (node_of o p.pre_depth v)) [] standing.passes.state).out.peak

pub record Opens (o : ExtractOptions) (write : Bool) (v : Visit) (p : OpenEntry) (a : Lent) (p' : OpenEntry) (a' : Lent) : Type 0 where
  pub at : (s : Bytes) (l : Layout) → Visits s l v → PassDoes o write p a p' a' (beginning o (event_of s l v))
  pub read : p'.progress.read ≡ p.progress.read

-- ---- a visit

pub record PassReady (o : ExtractOptions) (write : Bool) (e : Event) (v : Visit) (p : OpenEntry) (a : Lent) : Type 0 where
  pub opens : OpenReady o write v p a
  pub small : (fed o e opens.standing.fused).note.peak < length_limit
  pub after : State
  pub goes_on : closed o (fed o e opens.standing.fused) ≡ going after
  pub room : Room write opens.standing.under after.out.peak
  pub count : p.progress.read + length (escaped_by o (fed o e opens.standing.fused).node e) < length_limit

-- ---- the whole pass

-- where an entry passes a limit: the run, and the answer of an extraction
abbrev pub stopped : LimitError → Run
stopped (ListLevels line) = too_many_levels line
stopped (OpenRows line) = too_many_rows line

abbrev pub limit : LimitError → ExtractError
limit (ListLevels line) = extract.TheVariants.ListLevels line
limit (OpenRows line) = extract.TheVariants.OpenRows line

module _ (o : ExtractOptions) (s : Bytes) (l : Layout) (left : List Bool) where
  -- where the text is written, no entry is refused and there is room for it
  pub record TextFits (out : Bytes) : Type 0 where
    pub state : State
    pub run : closed o (run_of s l o left) ≡ going state
    pub fits : state.out.peak ≤ length out

  abbrev pub WriteReady : Bool → Bytes → Type 0
  WriteReady write out = write ≡ true → TextFits out

  -- `read`: the bytes of the texts that are escaped
  pub record TextPassed (write : Bool) (out : Bytes) (p : Passed) (out' : Bytes) : Type 0 where
    pub need_is : write ≡ false → p.need ≡ (run_of s l o left).note.peak
    pub visits_is : p.visits ≡ length (passes_of s l left)
    pub read_is : p.read ≡ bytes_escaped o [] (events_in s l (passes_of s l left))
    pub state : State
    pub run : closed o (run_of s l o left) ≡ going state
    pub held : Held write out p.writer out' state.out

  pub record PassRefused (write : Bool) (out : Bytes) (R : Run) (out' : Bytes) : Type 0 where
    pub run : closed o (run_of s l o left) ≡ R
    pub still : write ≡ false → out' ≡ out

  abbrev pub Outcome : Bool → Bytes → Result Passed LimitError → Bytes → Type 0
  Outcome write out (Ok p) out' = TextPassed write out p out'
  Outcome write out (Err e) out' = PassRefused write out (stopped e) out'

  pub record PassesAll (write : Bool) (out : Bytes) (r : Result Passed LimitError) (out' : Bytes) : Type 0 where
    pub outcome : Outcome write out r out'
