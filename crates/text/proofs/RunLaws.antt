-- `collapse`: each run of blanks becomes one U+0020, all other bytes stay in order.
use mathlib.Core.Path.{◌≡◌, refl, ap, subst}
use mathlib.Core.Bool.{Bool, true, false}
use mathlib.Core.List.{[], ◌∷◌, ◌++◌}
use Prim.Native.Nat.{ℕ}
use Rattle.common.specs.Bytes.{Bytes}
use Rattle.text.specs.Collapsed.{AllBlank, starts_blank, RunsCollapsed, end, other, run}
use Rattle.text.specs.Text.{collapse_from, collapse_by}

module _ (blank : ℕ → Bool) where
  -- a text behind a blank: the rest of the run, and what follows it
  record Behind (s : Bytes) : Type 0 where
    rest : Bytes
    past : Bytes
    parts : rest ++ past ≡ s
    blanks : AllBlank blank rest
    stops : starts_blank blank past ≡ false
    collapsed : RunsCollapsed blank past (collapse_from blank true s)

  abbrev Both : Bytes → Type 0
  Both s = RunsCollapsed blank s (collapse_from blank false s) × Behind s

  both : (s : Bytes) → Both s
  unfolding collapse_from
  both [] = (end, record { rest = []; past = []; parts = refl; blanks = tt; stops = refl; collapsed = end })
  both (c ∷ s) = go (blank c) refl (both s)
    where
      go : (b : Bool) → blank c ≡ b → Both s → Both (c ∷ s)
      go true e h =
          let k = h.1 in (
            rw (e, collapse_from) (subst (λ (l : Bytes). RunsCollapsed blank (c ∷ l) (0x20 ∷ collapse_from blank true s)) k.parts (run c k.rest k.past (e, k.blanks) k.stops k.collapsed)),
            record {
              rest = c ∷ k.rest;
              past = k.past;
              parts = ap (λ (l : Bytes). c ∷ l) k.parts;
              blanks = (e, k.blanks);
              stops = k.stops;
              collapsed = rw (e, collapse_from) k.collapsed;
            },
          )
      go false e h = (
        rw (e, collapse_from) (other e h.0),
        record { rest = []; past = c ∷ s; parts = refl; blanks = tt; stops = e; collapsed = rw (e, collapse_from) (other e h.0) },
      )

  pub collapse_runs : (s : Bytes) → RunsCollapsed blank s (collapse_by blank s)
  unfolding collapse_by
  collapse_runs s = (both s).0
