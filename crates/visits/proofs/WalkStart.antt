-- A walk stands at the root: all its passes are left.
use mathlib.Core.Path.{◌≡◌, refl}
use mathlib.Core.Bool.{Bool}
use mathlib.Core.List.{List}
use Prim.Native.Nat.{ℕ, ◌<◌}
use lib.ListN.{length}
use Rattle.common.specs.Bytes.{Bytes}
use Rattle.options.specs.declared.ExtractOptions.{ExtractOptions}
use Rattle.sheet.specs.Accepted.{Accepted}
use Rattle.sheet.specs.Layout.{most_depth}
use Rattle.sheet.specs.declared.line.Layout.{Layout}
use Rattle.html2text.proofs.PageLaws.{page_right}
use Rattle.walk.specs.declared.cursor.Walk.TheVariants.{Root}
use Rattle.visits.specs.Visiting.{passes_of, Walked, passes_left, WalkStands}

module _ {s : Bytes} {l : Layout} where
  pub walk_start : {o : ExtractOptions} {left : List Bool} → Accepted s l → Walked s l o left → (stack : List ℕ) → most_depth < length stack → WalkStands s l left (Root l.root) stack
  walk_start accepted walked stack h = record { deep = h; fits = (page_right accepted).root; shown = walked.shown }

pub all_left : (s : Bytes) (l : Layout) (left : List Bool) (stack : List ℕ) → passes_left s l left (Root l.root) stack ≡ passes_of s l left
all_left s l left stack = refl
