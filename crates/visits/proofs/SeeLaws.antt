-- A pass of the walk as `see` gives it: a visit with its row's numbers, a row that is left out, or none.
use Rattle.std.specs.Prelude.{Option, None, Some}
use mathlib.Core.Path.{◌≡◌, sym, ap, subst, ◌∙◌}
use mathlib.Core.Bool.{Bool, true, false}
use mathlib.Core.List.{List, ◌∷◌}
use Prim.Native.Nat.{ℕ, ◌≤◌, ◌<◌}
use native.Mathlib.Omega.{arith}
use lib.ListN.{length}
use Rattle.common.specs.Bytes.{Bytes}
use Rattle.sheet.specs.Layout as layout
use Rattle.sheet.specs.declared.line.Layout.{Layout}
use Rattle.sheet.proofs.LayoutLaws.{depths_from_length}
use Rattle.collect.specs.Visits.{event_of}
use Rattle.collect.specs.declared.Visit.{Visit}
use Rattle.walk.specs.Turns.{turns_left, events_of, flagged, ColumnRight, Fits, Advances}
use Rattle.walk.specs.declared.cursor.Turn.{Turn}
use Rattle.walk.specs.declared.cursor.Turn.TheVariants.{Begin, End, LeftOut}
use Rattle.walk.specs.declared.cursor.Walk.{Walk}
use Rattle.walk.proofs.RowLaws.{column_right}
use Rattle.visits.specs.Visiting.{visit_of, events_in, RowShown, Shown, EachShown, Noted, passes_left, events_left, WalkStands, Sees}

module _ (s : Bytes) (l : Layout) where
  -- the first of the passes `ts`, and where the walk stands after it
  pub record Taken (left : List Bool) (ts : List Turn) (t : Turn) (v : Walk) (after : List ℕ) : Type 0 where
    pub first : ts ≡ t ∷ passes_left s l left v after
    pub shown : Shown s l t
    pub stands : WalkStands s l left v after

  shown_parts : (t : Turn) (ts : List Turn) → EachShown s l (t ∷ ts) → Shown s l t × EachShown s l ts
  unfolding EachShown
  shown_parts t ts e = e

module _
    {s : Bytes} {l : Layout} {depths tags attributes values lengths : List ℕ} {left : List Bool} {w : Walk} {stack : List ℕ}
    (noted : Noted s l depths tags attributes values lengths) (ready : (l.nodes ≤ length left) × WalkStands s l left w stack) where
  pub advance_ready : ColumnRight depths (length stack) × (length depths ≤ length left) × Fits depths (length stack) w
  advance_ready =
      subst (λ (ds : List ℕ). ColumnRight ds (length stack) × (length ds ≤ length left) × Fits ds (length stack) w) (sym noted.column)
      (column_right noted.accepted ready.1.deep, omega (arith, ready.0, depths_from_length s l 0 l.nodes), ready.1.fits)

  -- the columns have a place for a row that is visited
  abbrev Places : ℕ → Type 0
  Places i = (i < length tags) × (i < length attributes) × (i < length values) × (i < length lengths)

  places : {i : ℕ} → RowShown s l i → Places i
  places h = (
    omega (arith, h.inside, noted.tags_long),
    omega (arith, h.inside, noted.attributes_long),
    omega (arith, h.inside, noted.values_long),
    omega (arith, h.inside, noted.lengths_long),
  )

  advances : (r : Option (Turn × Walk)) (after : List ℕ) → Advances depths left (turns_left depths (flagged left) w stack) r after
      → Advances (layout.depths s l) left (passes_left s l left w stack) r after
  advances r after a = subst (λ (ds : List ℕ). Advances ds left (turns_left ds (flagged left) w stack) r after) noted.column a

  abbrev SeesNow : List ℕ → Option (Option Visit × Walk) → Type 0
  SeesNow after x = Sees s l left (passes_left s l left w stack) x after

  module _ {r : Option (Turn × Walk)} (after : List ℕ) (same : length after ≡ length stack) (a : Advances depths left (turns_left depths (flagged left) w stack) r after) where
    seen : {x : Option (Turn × Walk)} → r ≡ x → Advances (layout.depths s l) left (passes_left s l left w stack) x after
    seen e = subst (λ (y : Option (Turn × Walk)). Advances (layout.depths s l) left (passes_left s l left w stack) y after) e (advances r after a)

    pub none_left : r ≡ None → SeesNow after None
    none_left e = seen e

    module _ {t : Turn} {v : Walk} (e : r ≡ Some (t, v)) where
      taken : Taken s l left (passes_left s l left w stack) t v after
      taken =
          let p = seen e in
          let q = shown_parts s l t (passes_left s l left v after) (subst (EachShown s l) p.0 ready.1.shown) in
          record { first = p.0; shown = q.0; stands = record { deep = rw same ready.1.deep; fits = p.1; shown = q.1 } }

      row_of : {u : Turn} → t ≡ u → Shown s l u
      row_of g = subst (Shown s l) g taken.shown

      pub begin_places : {i d : ℕ} {children : Bool} → t ≡ Begin i d children → Places i
      begin_places g = places (row_of g)

      pub end_places : {i d : ℕ} → t ≡ End i d → Places i
      end_places g = places (row_of g)

      -- a pass that visits a row
      visited : {x : Visit} {i d : ℕ} {children end : Bool} → RowShown s l i → x ≡ visit_of tags attributes values lengths i d children end
          → events_in s l (t ∷ passes_left s l left v after) ≡ event_of s l (visit_of tags attributes values lengths i d children end) ∷ events_left s l left v after
          → SeesNow after (Some (Some x, v))
      visited {x} {i} {d} {children} {end} row x_is events =
          subst (λ (y : Visit). SeesNow after (Some (Some y, v))) (sym x_is)
          (noted.visits i d children end row, ap (events_in s l) taken.first ∙ events, ap length taken.first, taken.stands)

      pub sees_begin : {x : Visit} {i d : ℕ} {children : Bool} → t ≡ Begin i d children → x ≡ visit_of tags attributes values lengths i d children false
          → SeesNow after (Some (Some x, v))
      unfolding events_of
      sees_begin g x_is = visited (row_of g) x_is (rw g)

      pub sees_end : {x : Visit} {i d : ℕ} → t ≡ End i d → x ≡ visit_of tags attributes values lengths i d true true → SeesNow after (Some (Some x, v))
      unfolding events_of
      sees_end g x_is = visited (row_of g) x_is (rw g)

      pub sees_left_out : t ≡ LeftOut → SeesNow after (Some (None, v))
      unfolding events_of
      sees_left_out g = (tt, ap (events_in s l) taken.first ∙ rw g, ap length taken.first, taken.stands)
