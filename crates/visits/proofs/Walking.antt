-- A loop over the walk: where it stands, and the passes so far, from the root to the end.
use Rattle.std.specs.Prelude.{Option, None, Some}
use mathlib.Core.Path.{◌≡◌, refl, ap, subst, ◌∙◌}
use mathlib.Core.Bool.{Bool}
use mathlib.Core.List.{List}
use Prim.Native.Nat.{ℕ, ◌+◌, ◌≤◌, ◌<◌}
use native.Mathlib.Omega.{arith}
use lib.ListN.{length}
use Rattle.common.specs.Bytes.{Bytes}
use Rattle.options.specs.declared.ExtractOptions.{ExtractOptions}
use Rattle.sheet.specs.Accepted.{Accepted}
use Rattle.sheet.specs.Layout.{most_depth}
use Rattle.sheet.specs.declared.line.Layout.{Layout}
use Rattle.html2text.specs.Bounds.{most_events}
use Rattle.collect.specs.declared.Visit.{Visit}
use Rattle.walk.specs.declared.cursor.Turn.{Turn}
use Rattle.walk.specs.declared.cursor.Walk.{Walk}
use Rattle.walk.specs.declared.cursor.Walk.TheVariants.{Root}
use Rattle.visits.specs.Visiting.{passes_of, Walked, passes_left, WalkStands, Sees}
use Rattle.visits.proofs.WalkStart.{walk_start}
use Rattle.visits.proofs.WalkedLaws.{passes_few}

-- ---- what was seen

module _ (s : Bytes) (l : Layout) (left : List Bool) (ts : List Turn) {r : Option (Option Visit × Walk)} (after : List ℕ) (saw : Sees s l left ts r after) where
  pub seen : {x : Option (Option Visit × Walk)} → r ≡ x → Sees s l left ts x after
  seen e = subst (λ (y : Option (Option Visit × Walk)). Sees s l left ts y after) e saw

-- ---- along the walk, with a stack that stays as long as it was

pub record Walking (s : Bytes) (l : Layout) (left : List Bool) (room : ℕ) (stack : List ℕ) (w : Walk) (passed : ℕ) : Type 0 where
  pub stands : WalkStands s l left w stack
  pub count : passed + length (passes_left s l left w stack) ≡ length (passes_of s l left)
  pub same : length stack ≡ room

module _ {s : Bytes} {l : Layout} {left : List Bool} where
  pub walking_start : {o : ExtractOptions} → Accepted s l → Walked s l o left → (stack : List ℕ) → most_depth < length stack
      → Walking s l left (length stack) stack (Root l.root) 0
  walking_start accepted walked stack h = record { stands = walk_start accepted walked stack h; count = omega arith; same = refl }

  module _ {room : ℕ} {stack : List ℕ} {w : Walk} {passed : ℕ} (h : Walking s l left room stack w passed) where
    pub passed_few : Accepted s l → passed ≤ most_events
    passed_few accepted = omega (arith, h.count, passes_few accepted left)

    module _ {r : Option (Option Visit × Walk)} (after : List ℕ) (saw : Sees s l left (passes_left s l left w stack) r after) where
      pub walking_on : {v : Option Visit} {x : Walk} → length after ≡ length stack → r ≡ Some (v, x) → Walking s l left room after x (passed + 1)
      walking_on same e =
          let q = seen s l left (passes_left s l left w stack) after saw e in
          record { stands = q.3; count = omega (arith, h.count, q.2); same = same ∙ h.same }

      pub walking_end : r ≡ None → passed ≡ length (passes_of s l left)
      walking_end e = omega (arith, h.count, ap length (seen s l left (passes_left s l left w stack) after saw e))
