-- List depth and open rows after an entry do not depend on its text.
use Rattle.std.specs.Prelude.{◌≡◌, Bool, ◌&&◌, not, cond, ℕ, ◌+◌, ◌-◌, length}
use Rattle.common.specs.Bytes.{Bytes}
use Rattle.options.specs.Options.{is_off}
use Rattle.options.specs.declared.Formatting.{Formatting}
use Rattle.tags.specs.Tags.{is_tr}
use Rattle.html2text.specs.Serialize.{State, changes_level, step}
use Rattle.html2text.specs.declared.ExtractNode.{ExtractNode}

-- one less at an end, one more otherwise, where it counts
abbrev pub recounted : Bool → Bool → ℕ → ℕ
recounted counts end k = cond counts (cond end (k - 1) (k + 1)) k

abbrev pub depth_after : Formatting → ExtractNode → ℕ → ℕ
depth_after f n depth = recounted (not (is_off f) && changes_level n.tag depth) n.end depth

abbrev pub rows_after : ExtractNode → ℕ → ℕ
rows_after n rows = recounted (is_tr n.tag) n.end rows

-- what is to be shown of a step, whatever the text
pub record StepLevels (f : Formatting) (bullets : Bool) (n : ExtractNode) (text : Bytes) (S : State) : Type 0 where
  pub depth : (step f bullets n text S).depth ≡ depth_after f n S.depth
  pub rows : length (step f bullets n text S).row_has_cell ≡ rows_after n (length S.row_has_cell)
  -- `numbering` has a number for each list level
  pub numbering : S.depth ≡ length S.numbering → (step f bullets n text S).depth ≡ length (step f bullets n text S).numbering
