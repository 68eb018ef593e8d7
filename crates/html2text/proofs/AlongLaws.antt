-- Part of the way along a run: what is known of the state, and that no part writes more than the whole.
use mathlib.Core.Path.{◌≡◌, refl, subst}
use mathlib.Core.List.{List, [], ◌∷◌}
use Prim.Native.Nat.{◌+◌, ◌≤◌, ◌<◌}
use native.Mathlib.Omega.{arith}
use lib.ListN.{length}
use Rattle.common.specs.Bytes.{length_limit}
use Rattle.options.specs.declared.ExtractOptions.{ExtractOptions}
use Rattle.html2text.specs.Bounds.{most_events, StateBounded, EachAdds, Along}
use Rattle.html2text.specs.Collect.{Event}
use Rattle.html2text.specs.Extract.{going}
use Rattle.html2text.specs.Fused.{Fused, idle, closed, fed, fed_all}
use Rattle.html2text.specs.Serialize.{State}
use Rattle.html2text.proofs.BoundLaws.{bounded_idle, bounded_fed, bounded_closed, written_small}
use Rattle.html2text.proofs.GoingLaws.{going_at}
use Rattle.html2text.proofs.RiseLaws.{note_all}

pub along_start : {o : ExtractOptions} {es : List Event} → length es ≤ most_events → EachAdds o es → Along o (fed_all o es idle) es idle
along_start few each = record { count = 0; few = omega arith; bounded = bounded_idle; each = each; same = refl }

module _ {o : ExtractOptions} {whole F : Fused} where
  -- ---- wherever

  module _ {rest : List Event} (a : Along o whole rest F) where
    pub along_need : F.note.peak ≤ whole.note.peak
    along_need = subst (λ (W : Fused). F.note.peak ≤ W.note.peak) a.same (note_all o rest F)

    -- the open entry taken
    pub along_closed : {S : State} → closed o F ≡ going S → StateBounded (a.count + 1) S
    along_closed e = going_at (StateBounded (a.count + 1)) (bounded_closed o a.bounded (omega (arith, a.few))) e

    pub along_written : {S : State} → closed o F ≡ going S → S.out.peak < length_limit
    along_written e = written_small (omega (arith, a.few)) (along_closed e)

  -- ---- before an event

  module _ {e : Event} {rest : List Event} (a : Along o whole (e ∷ rest) F) where
    pub along_next : Along o whole rest (fed o e F)
    unfolding fed_all
    along_next =
        record {
          count = a.count + 1;
          few = omega (arith, a.few);
          bounded = bounded_fed o a.bounded e (omega (arith, a.few)) a.each.0;
          each = a.each.1;
          same = a.same;
        }

  -- ---- behind the last

  pub along_end : Along o whole [] F → F ≡ whole
  unfolding fed_all
  along_end a = a.same
