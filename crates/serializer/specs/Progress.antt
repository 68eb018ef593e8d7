-- An entry along its text: what the functions that begin it and that show a piece of it ask for and promise.
use Rattle.std.specs.Prelude.{◌≡◌, Bool, true, false, ◌||◌, cond, List, [], ℕ, ◌+◌, ◌≤◌, ◌<◌, ltb, length}
use Rattle.common.specs.Bytes.{Bytes, length_limit}
use Rattle.options.specs.declared.Formatting.{Formatting}
use Rattle.options.specs.declared.Formatting.TheVariants.{Off, Basic, MinimalHtml}
use Rattle.writer.specs.Out.{greater}
use Rattle.writer.specs.declared.Writer.{Writer}
use Rattle.html2text.specs.Serialize.{State, collapses, block_after_tag, step}
use Rattle.html2text.specs.Showing.{showing_of, showing_after, show_piece}
use Rattle.html2text.specs.declared.ExtractNode.{ExtractNode}
use Rattle.html2text.specs.declared.Showing.{Showing}
use Rattle.serializer.specs.Serializing.{Lent, lent, Stands, Able, Works, AbleOut, WorksOut}
use Rattle.serializer.specs.declared.Begun.{Begun}
use Rattle.serializer.specs.declared.Progress.{Progress}
use Rattle.serializer.specs.declared.Serializer.{Serializer}

-- of a function that is lent the list numbers alone
pub record AbleLevels (s : Serializer) (numbering : List ℕ) (F : State → State) : Type 0 where
  pub write : Bool
  pub cells : List Bool
  pub out : Bytes
  pub able : Able write s (lent numbering cells out) F

-- ---- an entry begins

-- `block_shown`, by the uncollapsed line ends before the entry: those that it counts itself make no difference
abbrev pub block_before : Formatting → Bool → ExtractNode → ℕ → Bool
block_before Off bullets n uncollapsed = n.block
block_before Basic bullets n uncollapsed = n.block
block_before MinimalHtml bullets n uncollapsed = block_after_tag bullets n uncollapsed

-- `showing_of`, by the writer's numbers
abbrev pub showing_behind : Bool → ExtractNode → Bool → Writer → Showing
showing_behind off n block w =
    record { dropped = false; squeeze = collapses off n; escapes = n.escape; empty = true; space = block || ltb w.kept w.len }

-- the state is that of a step without a text
pub record Begins (f : Formatting) (bullets : Bool) (n : ExtractNode) (write : Bool) (s : Serializer) (a : Lent) (r : Begun) (a' : Lent) : Type 0 where
  pub works : Works write s a r.serializer a' (step f bullets n [])
  pub showing : (under : Bytes) (S : State) → Stands write under s a S → r.showing ≡ showing_of f bullets n S

-- ---- a piece of its text

-- how often a piece is escaped: `escapes` where its entry is, `escaped` where `collect` does it
abbrev pub times_of : Bool → Bool → ℕ
times_of escapes escaped = cond escapes (cond escaped 2 1) (cond escaped 1 0)

-- how many bytes are read of a text that is escaped, and none of another: nothing of a dropped entry is looked at
abbrev pub read_of : Showing → Bool → Bytes → ℕ
read_of w escaped s = cond w.dropped 0 (cond (w.escapes || escaped) (length s) 0)

-- `showing_after`, where something was shown; `space`: whether a blank stands last
abbrev pub shown_then : Showing → Bool → Showing
shown_then w space = record { dropped = w.dropped; squeeze = w.squeeze; escapes = w.escapes; empty = false; space = space }

module _ (f : Formatting) (bullets : Bool) (write : Bool) where
  -- the lengths of the entries' texts are kept where nothing is written; `read`: how many bytes of escaped texts are to be read
  pub record ShowReady (p : Progress) (out piece : Bytes) (read : ℕ) : Type 0 where
    pub able : AbleOut write p.serializer out (show_piece f bullets p.showing piece)
    pub below : write ≡ false → p.len ≤ p.need
    pub small : write ≡ false → p.len + length piece < length_limit
    pub count : p.read + read < length_limit

  pub record Shows (p : Progress) (out : Bytes) (p' : Progress) (out' piece : Bytes) (read : ℕ) : Type 0 where
    pub works : WorksOut write p.serializer out p'.serializer out' (show_piece f bullets p.showing piece)
    pub showing : p'.showing ≡ showing_after p.showing piece
    pub len : write ≡ false → p'.len ≡ p.len + length piece
    pub need : write ≡ false → p'.need ≡ greater p.need (p.len + length piece)
    pub read_is : p'.read ≡ p.read + read

-- a piece of which nothing is shown
pub record PassedBy (write : Bool) (p p' : Progress) (piece : Bytes) (read : ℕ) : Type 0 where
  pub serializer : p'.serializer ≡ p.serializer
  pub showing : p'.showing ≡ p.showing
  pub len : write ≡ false → p'.len ≡ p.len + length piece
  pub need : write ≡ false → p'.need ≡ greater p.need (p.len + length piece)
  pub read_is : p'.read ≡ p.read + read
