-- What the numbers and the lent arrays say of the state of `serialize`, and what the parts of a step ask for and promise.
use Rattle.std.specs.Prelude.{◌≡◌, Bool, true, false, ◌&&◌, not, cond, List, [], ℕ, ◌+◌, ◌-◌, ◌*◌, ◌≤◌, ◌<◌, eqb, length, get_or, take, replicate}
use Rattle.common.specs.Bytes.{Bytes, codes, length_limit}
use Rattle.options.specs.Options.{is_off}
use Rattle.options.specs.declared.Formatting.{Formatting}
use Rattle.tags.specs.Tags.{is_tr}
use Rattle.writer.specs.Out.{Out, push_all}
use Rattle.writer.specs.Writing.{Held, Room}
use Rattle.writer.specs.declared.Writer.{Writer}
use Rattle.html2text.specs.Serialize.{State, bullet_text, number_text, changes_level, count_uncollapsed, level, one}
use Rattle.html2text.specs.declared.ExtractNode.{ExtractNode}
use Rattle.serializer.specs.declared.Serializer.{Serializer}

-- what stands before an item's text: 0 nothing, 1 a bullet, k + 1 the number k
abbrev pub prefix_text : ℕ → Bytes
prefix_text k = cond (eqb k 0) [] (cond (eqb k 1) bullet_text (number_text (k - 1)))

-- before the first entry
abbrev pub no_serializer : Serializer
no_serializer = record { writer = record { len = 0; kept = 0; peak = 0 }; prefix = 0; bullet = 0; depth = 0; margins = 0; uncollapsed = 0; rows = 0 }

-- ---- the numbers with a part new

abbrev pub set_writer : Writer → Serializer → Serializer
set_writer w s = record { writer = w; prefix = s.prefix; bullet = s.bullet; depth = s.depth; margins = s.margins; uncollapsed = s.uncollapsed; rows = s.rows }

abbrev pub set_prefix : ℕ → Serializer → Serializer
set_prefix p s = record { writer = s.writer; prefix = p; bullet = s.bullet; depth = s.depth; margins = s.margins; uncollapsed = s.uncollapsed; rows = s.rows }

abbrev pub set_bullet : Bool → Serializer → Serializer
set_bullet b s = record { writer = s.writer; prefix = s.prefix; bullet = one b; depth = s.depth; margins = s.margins; uncollapsed = s.uncollapsed; rows = s.rows }

abbrev pub set_depth : ℕ → Serializer → Serializer
set_depth d s = record { writer = s.writer; prefix = s.prefix; bullet = s.bullet; depth = d; margins = s.margins; uncollapsed = s.uncollapsed; rows = s.rows }

abbrev pub set_margins : ℕ → Serializer → Serializer
set_margins m s = record { writer = s.writer; prefix = s.prefix; bullet = s.bullet; depth = s.depth; margins = m; uncollapsed = s.uncollapsed; rows = s.rows }

abbrev pub set_uncollapsed : ℕ → Serializer → Serializer
set_uncollapsed k s = record { writer = s.writer; prefix = s.prefix; bullet = s.bullet; depth = s.depth; margins = s.margins; uncollapsed = k; rows = s.rows }

abbrev pub set_rows : ℕ → Serializer → Serializer
set_rows k s = record { writer = s.writer; prefix = s.prefix; bullet = s.bullet; depth = s.depth; margins = s.margins; uncollapsed = s.uncollapsed; rows = k }

-- the lent arrays
pub record Lent : Type 0 where
  pub numbering : List ℕ
  pub cells : List Bool
  pub out : Bytes

abbrev pub lent : List ℕ → List Bool → Bytes → Lent
lent numbering cells out = record { numbering = numbering; cells = cells; out = out }

-- The numbers s and the arrays a stand for the state S; `under` is the buffer as it was, which is kept where nothing is written.
pub record Stands (write : Bool) (under : Bytes) (s : Serializer) (a : Lent) (S : State) : Type 0 where
  pub held : Held write under s.writer a.out S.out
  pub prefix : prefix_text s.prefix ≡ S.prefix
  pub bullet : s.bullet ≡ one S.bullet
  pub depth : s.depth ≡ S.depth
  pub margins : s.margins ≡ S.margins
  pub uncollapsed : s.uncollapsed ≡ S.uncollapsed
  pub deep : s.depth ≡ length S.numbering
  pub numbering : take s.depth a.numbering ≡ S.numbering
  pub rows : s.rows ≡ length S.row_has_cell
  pub cells : take s.rows a.cells ≡ S.row_has_cell

-- They stand for a state, and there is room for what F makes of it.
pub record Able (write : Bool) (s : Serializer) (a : Lent) (F : State → State) : Type 0 where
  pub under : Bytes
  pub state : State
  pub stands : Stands write under s a state
  pub room : Room write under (F state).out.peak

-- Of every state that they stand for at first, they stand for F of it at last.
pub record Works (write : Bool) (s : Serializer) (a : Lent) (s' : Serializer) (a' : Lent) (F : State → State) : Type 0 where
  pub run : (under : Bytes) (S : State) → Stands write under s a S → Stands write under s' a' (F S)

-- ---- of a function that is lent some of the arrays: the others stay as they are, whatever they are

pub record AbleOut (write : Bool) (s : Serializer) (out : Bytes) (F : State → State) : Type 0 where
  pub numbering : List ℕ
  pub cells : List Bool
  pub able : Able write s (lent numbering cells out) F

pub record AbleCells (write : Bool) (s : Serializer) (cells : List Bool) (out : Bytes) (F : State → State) : Type 0 where
  pub numbering : List ℕ
  pub able : Able write s (lent numbering cells out) F

pub record AbleListed (write : Bool) (s : Serializer) (numbering : List ℕ) (out : Bytes) (F : State → State) : Type 0 where
  pub cells : List Bool
  pub able : Able write s (lent numbering cells out) F

pub record WorksAlone (s s' : Serializer) (F : State → State) : Type 0 where
  pub at : (write : Bool) (a : Lent) → Works write s a s' a F

pub record WorksOut (write : Bool) (s : Serializer) (out : Bytes) (s' : Serializer) (out' : Bytes) (F : State → State) : Type 0 where
  pub at : (numbering : List ℕ) (cells : List Bool) → Works write s (lent numbering cells out) s' (lent numbering cells out') F

pub record WorksLevels (s : Serializer) (numbering : List ℕ) (s' : Serializer) (numbering' : List ℕ) (F : State → State) : Type 0 where
  pub at : (write : Bool) (cells : List Bool) (out : Bytes) → Works write s (lent numbering cells out) s' (lent numbering' cells out) F

pub record WorksRows (s : Serializer) (cells : List Bool) (s' : Serializer) (cells' : List Bool) (F : State → State) : Type 0 where
  pub at : (write : Bool) (numbering : List ℕ) (out : Bytes) → Works write s (lent numbering cells out) s' (lent numbering cells' out) F

pub record WorksCells (write : Bool) (s : Serializer) (cells : List Bool) (out : Bytes) (s' : Serializer) (cells' : List Bool) (out' : Bytes) (F : State → State) : Type 0 where
  pub at : (numbering : List ℕ) → Works write s (lent numbering cells out) s' (lent numbering cells' out') F

pub record WorksListed (write : Bool) (s : Serializer) (numbering : List ℕ) (out : Bytes) (s' : Serializer) (numbering' : List ℕ) (out' : Bytes) (F : State → State) : Type 0 where
  pub at : (cells : List Bool) → Works write s (lent numbering cells out) s' (lent numbering' cells out') F

-- ---- what a step asks of its numbers: sums fit, and there is a place for a row or a level that opens

pub record Limits (f : Formatting) (s : Serializer) (numbering : List ℕ) (cells : List Bool) (n : ExtractNode) : Type 0 where
  pub margins : s.margins < length_limit
  pub uncollapsed : s.uncollapsed < length_limit
  pub row : is_tr n.tag ≡ true → n.end ≡ false → s.rows < length cells
  pub level : is_off f ≡ false → changes_level n.tag s.depth ≡ true → n.end ≡ false → s.depth < length numbering
  pub numbers : (i : ℕ) → i < s.depth → get_or numbering i 0 < length_limit

-- what is asked where list levels are counted
pub record ListLimits (s : Serializer) (numbering : List ℕ) (n : ExtractNode) : Type 0 where
  pub margins : s.margins < length_limit
  pub uncollapsed : s.uncollapsed < length_limit
  pub level : changes_level n.tag s.depth ≡ true → n.end ≡ false → s.depth < length numbering

-- the numbers of the levels that are open can be counted on
pub record Numbers (s : Serializer) (numbering : List ℕ) : Type 0 where
  pub within : s.depth ≤ length numbering
  pub small : (i : ℕ) → i < s.depth → get_or numbering i 0 < length_limit

-- ---- small parts of a step

-- `if n.block && !n.collapse_margins`
abbrev pub counted : Serializer → ExtractNode → Serializer
counted s n = cond (n.block && not n.collapse_margins) (set_uncollapsed (s.uncollapsed + 1) s) s

-- the number of the innermost of d levels, 0 where none is open
abbrev pub last_number : List ℕ → ℕ → ℕ
last_number numbering d = cond (eqb d 0) 0 (get_or numbering (d - 1) 0)

unfoldable pub levels : ExtractNode → State → State
levels n S = level n (count_uncollapsed n S)

-- a tag: what stands before it and behind its name
abbrev pub tag_indent : Bool → ℕ → Out → Out
tag_indent bullets depth o = cond bullets (push_all (replicate (depth * 2) 0x20) o) o

abbrev pub tag_end : Bool → Out → Out
tag_end line o = push_all (cond line (codes "\n") []) (push_all (codes ">") o)
