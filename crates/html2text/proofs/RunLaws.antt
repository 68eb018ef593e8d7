-- A run of `serialize` that goes on has gone on before, by one step an entry.
use mathlib.Core.Path.{◌≡◌, refl, ap}
use mathlib.Core.Bool.{Bool, true, false, cond}
use mathlib.Core.List.{List, [], ◌∷◌}
use Rattle.common.proofs.Choice.{absurd_test}
use Rattle.options.specs.declared.ExtractOptions.{ExtractOptions}
use Rattle.html2text.specs.Collect.{Entry}
use Rattle.html2text.specs.Extract.{Run, going, too_many_levels, too_many_rows, passes_levels, passes_rows, line_of, taken, serialized}
use Rattle.html2text.specs.Serialize.{State, start, step}

abbrev is_going : Run → Bool
is_going (going S) = true
is_going (too_many_levels line) = false
is_going (too_many_rows line) = false

-- the state that the entry was taken in
pub record From (o : ExtractOptions) (e : Entry) (r : Run) (S : State) : Type 0 where
  pub state : State
  pub before : r ≡ going state
  pub after : S ≡ step o.formatting o.list_bullets e.node e.text state

taken_from : (o : ExtractOptions) (e : Entry) (r : Run) (S : State) → taken o.formatting o.list_bullets e r ≡ going S → From o e r S
taken_from o e (too_many_levels line) S h = absurd_test (ap is_going h) refl
taken_from o e (too_many_rows line) S h = absurd_test (ap is_going h) refl
taken_from o e (going T) S h = go (passes_levels o.formatting e.node T) (passes_rows e.node T) h
  where
    next : State
    next = step o.formatting o.list_bullets e.node e.text T

    go : (a b : Bool) → cond a (too_many_levels (line_of e)) (cond b (too_many_rows (line_of e)) (going next)) ≡ going S → From o e (going T) S
    go true b q = absurd_test (ap is_going q) refl
    go false true q = absurd_test (ap is_going q) refl
    go false false q = record { state = T; before = refl; after = cc }

pub serialized_from : (o : ExtractOptions) (e : Entry) (before : List Entry) (S : State) → serialized o (e ∷ before) ≡ going S → From o e (serialized o before) S
unfolding serialized
serialized_from o e before S h = taken_from o e (serialized o before) S h

pub serialized_start : (o : ExtractOptions) (S : State) → serialized o [] ≡ going S → S ≡ start
unfolding serialized
serialized_start o S h = cc
