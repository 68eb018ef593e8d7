-- The open entry of a fused run: closed when it is just begun, closed with more text, and what that is beside the whole run.
use mathlib.Core.Path.{◌≡◌, refl, sym, ap, subst, ◌∙◌}
use mathlib.Core.Bool.{Bool, true, false, cond}
use mathlib.Core.List.{List, [], ◌∷◌, ◌++◌}
use Prim.Native.Nat.{ℕ, suc, ◌+◌, ◌<◌}
use native.Mathlib.Omega.{arith}
use Rattle.common.specs.Bytes.{Bytes, length_limit}
use Rattle.common.proofs.Choice.{by_test}
use Rattle.options.specs.declared.ExtractOptions.{ExtractOptions}
use Rattle.options.specs.declared.Formatting.{Formatting}
use Rattle.writer.proofs.OutLaws.{push_all_text}
use Rattle.html2text.specs.Bounds.{StateBounded, Bounded, Along}
use Rattle.html2text.specs.Collect.{Event, Entry, added}
use Rattle.html2text.specs.Extract.{Run, going, too_many_levels, too_many_rows, passes_levels, passes_rows, line_of, taken}
use Rattle.html2text.specs.Fused.{Fused, closed, open_entry, pushes_on, opened, fed, fed_all}
use Rattle.html2text.specs.Serialize.{State, step}
use Rattle.html2text.specs.Showing.{showing_after, show_piece, showing_of, begun, said_more}
use Rattle.html2text.specs.declared.ExtractNode.{ExtractNode}
use Rattle.html2text.proofs.AlongLaws.{along_next, along_written}
use Rattle.html2text.proofs.BoundLaws.{bounded_fed, bounded_closed, written_small, need_small}
use Rattle.html2text.proofs.GoingLaws.{going_at}
use Rattle.html2text.proofs.RiseLaws.{Onward, onward_none, onward_then, onward_closed}
use Rattle.html2text.proofs.ShowingLaws.{shown_in_pieces, rises_show, fed_in_two}

-- ---- a step with more text

module _ (f : Formatting) (bullets : Bool) (n : ExtractNode) where
  -- behind a text that was shown, from where the entry was begun
  abbrev more : Bytes → Bytes → State → State → State
  more text s S T = show_piece f bullets (showing_after (showing_of f bullets n S) text) s T

  step_more : (text s : Bytes) (S : State) → step f bullets n (text ++ s) S ≡ more text s S (step f bullets n text S)
  step_more text s S =
      let p = shown_in_pieces f bullets in
      p.step_is n (text ++ s) S
      ∙ p.append (showing_of f bullets n S) text s (step f bullets n [] S)
      ∙ ap (more text s S) (sym (p.step_is n text S))

-- the entry with more text is refused where it was refused before, and else goes on
module _ (f : Formatting) (bullets : Bool) (e : Entry) (s : Bytes) where
  abbrev longer : Entry
  longer = record { row = e.row; node = e.node; text = e.text ++ s }

  -- the outcomes of the two limits, and the text, at a state
  abbrev ran : Bool → Bool → Bytes → State → Run
  ran levels rows text S = cond levels (too_many_levels (line_of e)) (cond rows (too_many_rows (line_of e)) (going (step f bullets e.node text S)))

  ran_more : (levels rows : Bool) (S T : State) → ran levels rows e.text S ≡ going T → ran levels rows (e.text ++ s) S ≡ going (more f bullets e.node e.text s S T)
  ran_more true rows S T q = cc
  ran_more false true S T q = cc
  ran_more false false S T q =
      let is : step f bullets e.node e.text S ≡ T = cc in
      ap going (step_more f bullets e.node e.text s S ∙ ap (more f bullets e.node e.text s S) is)

  ran_onward : (levels rows : Bool) (S : State) → Onward (ran levels rows e.text S) (ran levels rows (e.text ++ s) S)
  ran_onward true rows S = onward_none
  ran_onward false true S = onward_none
  ran_onward false false S =
      let T = step f bullets e.node e.text S in
      record {
        before = λ U q.
            let is : U ≡ more f bullets e.node e.text s S T = cc (step_more f bullets e.node e.text s S) in
            record { state = T; is = refl; rises = rw is ((rises_show f bullets (showing_after (showing_of f bullets e.node S) e.text) s).rise T) };
        levels = λ line q. cc;
        rows = λ line q. cc;
      }

  taken_more : (S T : State) → taken f bullets e (going S) ≡ going T → taken f bullets longer (going S) ≡ going (more f bullets e.node e.text s S T)
  taken_more S T q = ran_more (passes_levels f e.node S) (passes_rows e.node S) S T q

  taken_onward : (R : Run) → Onward (taken f bullets e R) (taken f bullets longer R)
  taken_onward (going S) = ran_onward (passes_levels f e.node S) (passes_rows e.node S) S
  taken_onward (too_many_levels line) = onward_none
  taken_onward (too_many_rows line) = onward_none

module _ (o : ExtractOptions) where
  -- ---- the open entry with more text

  longer_is : (s : Bytes) (F : Fused) → open_entry o (said_more o s F) ≡ longer o.formatting o.list_bullets (open_entry o F) s
  longer_is s F = λ i. record { row = F.row; node = F.node; text = push_all_text s F.note i }

  -- the text of an entry goes on where it was left
  pub closed_more : (s : Bytes) (F : Fused) {S T : State} → F.any ≡ true → F.run ≡ going S → closed o F ≡ going T
      → closed o (said_more o s F) ≡ going (show_piece o.formatting o.list_bullets (showing_after (showing_of o.formatting o.list_bullets F.node S) F.note.text) s T)
  unfolding closed
  closed_more s F {S} {T} a r c =
      rw (a, r)
      (ap (λ (x : Entry). taken o.formatting o.list_bullets x (going S)) (longer_is s F)
      ∙ taken_more o.formatting o.list_bullets (open_entry o F) s S T (rw (a, r) at c))

  -- an entry with more text is refused no sooner, and has written no less
  pub onward_more : (s : Bytes) (F : Fused) → Onward (closed o F) (closed o (said_more o s F))
  unfolding closed
  onward_more s F = go F.any
    where
      e : Entry
      e = open_entry o F

      longer_onward : Onward (taken o.formatting o.list_bullets e F.run) (taken o.formatting o.list_bullets (open_entry o (said_more o s F)) F.run)
      longer_onward = rw (longer_is s F) (taken_onward o.formatting o.list_bullets e s F.run)

      go : (any : Bool) → Onward (cond any (taken o.formatting o.list_bullets e F.run) F.run) (cond any (taken o.formatting o.list_bullets (open_entry o (said_more o s F)) F.run) F.run)
      go true = longer_onward
      go false = onward_none

  -- ---- an entry just begun

  module _ (e : Event) (F : Fused) {S : State} (c : closed o F ≡ going S) where
    pub begun_levels : passes_levels o.formatting (begun o e F).node S ≡ true → closed o (begun o e F) ≡ too_many_levels (suc e.row)
    unfolding closed begun
    begun_levels l = rw (c, l)

    pub begun_rows : passes_levels o.formatting (begun o e F).node S ≡ false → passes_rows (begun o e F).node S ≡ true → closed o (begun o e F) ≡ too_many_rows (suc e.row)
    unfolding closed begun
    begun_rows l r = rw (c, l, r)

    pub begun_steps : passes_levels o.formatting (begun o e F).node S ≡ false → passes_rows (begun o e F).node S ≡ false
        → closed o (begun o e F) ≡ going (step o.formatting o.list_bullets (begun o e F).node [] S)
    unfolding closed begun
    begun_steps l r = rw (c, l, r)

  -- ---- the open entry closed, beside the run with more events

  onward_event : (e : Event) (F : Fused) → Onward (closed o F) (closed o (fed o e F))
  unfolding fed opened
  onward_event e F =
      by_test (pushes_on o F e) (λ p. rw p (onward_closed o (opened o e F)))
      (λ p. rw ((fed_in_two o e F).grows p) (onward_more (added o e.node e.end F.node.tag) F))

  onward_events : (es : List Event) (F : Fused) → Onward (closed o F) (closed o (fed_all o es F))
  unfolding fed_all
  onward_events [] F = onward_none
  onward_events (e ∷ es) F = onward_then (onward_event e F) (onward_events es (fed o e F))

  -- an entry just begun, beside the event that begins it
  onward_begun : (e : Event) (F : Fused) → pushes_on o F e ≡ true → Onward (closed o (begun o e F)) (closed o (fed o e F))
  onward_begun e F p = rw ((fed_in_two o e F).opens p) (onward_more (added o e.node e.end (begun o e F).node.tag) (begun o e F))

-- ---- along a run

module _ {o : ExtractOptions} {whole F : Fused} where
  -- a refusal there is the whole run's, and a run that goes on went on there
  pub along_onward : {rest : List Event} → Along o whole rest F → Onward (closed o F) (closed o whole)
  along_onward {rest} a = subst (λ (W : Fused). Onward (closed o F) (closed o W)) a.same (onward_events o rest F)

module _ {o : ExtractOptions} {whole F : Fused} {e : Event} {rest : List Event} (a : Along o whole (e ∷ rest) F) where
  two_more : a.count + 1 + 1 ≡ a.count + 2
  two_more = omega arith

  next_bounded : Bounded (a.count + 1) (fed o e F)
  next_bounded = bounded_fed o a.bounded e (omega (arith, a.few)) a.each.0

  bounded_two : {G : Fused} {T : State} → Bounded (a.count + 1) G → closed o G ≡ going T → StateBounded (a.count + 2) T
  bounded_two {T = T} b c = subst (λ (k : ℕ). StateBounded k T) two_more (going_at (StateBounded (a.count + 1 + 1)) (bounded_closed o b (omega (arith, a.few))) c)

  -- ---- behind the event

  pub fed_onward : Onward (closed o (fed o e F)) (closed o whole)
  fed_onward = along_onward (along_next a)

  pub fed_written : {T : State} → closed o (fed o e F) ≡ going T → T.out.peak < length_limit
  fed_written c = along_written (along_next a) c

  pub fed_need_small : (fed o e F).note.peak < length_limit
  fed_need_small = need_small (omega (arith, a.few)) next_bounded

  -- ---- at the entry that the event begins, before its text

  module _ (p : pushes_on o F e ≡ true) where
    pub begun_onward : Onward (closed o (begun o e F)) (closed o whole)
    begun_onward = onward_then (onward_begun o e F p) fed_onward

    bounded_begun : Bounded (a.count + 1) (begun o e F)
    unfolding fed opened begun
    bounded_begun =
        let b = rw p at next_bounded in
        record { pre_depth = b.pre_depth; below = omega arith; need = omega (arith, a.bounded.need); run = bounded_closed o a.bounded (omega (arith, a.few)) }

    pub begun_bounded : {T : State} → closed o (begun o e F) ≡ going T → StateBounded (a.count + 2) T
    begun_bounded c = bounded_two bounded_begun c

    pub begun_written : {T : State} → closed o (begun o e F) ≡ going T → T.out.peak < length_limit
    begun_written c = written_small (omega (arith, a.few)) (begun_bounded c)
