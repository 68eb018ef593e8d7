-- The numbers of a run stay within their bounds.
use mathlib.Core.Path.{◌≡◌, refl, ap, ◌∙◌}
use mathlib.Core.Bool.{Bool, true, false, ◌&&◌, ◌||◌, not}
use mathlib.Core.List.{List, [], ◌∷◌}
use Prim.Native.Nat.{ℕ, suc, ◌+◌, ◌*◌, ◌≤◌, ◌<◌}
use native.Mathlib.Nat.{zero-add}
use native.Mathlib.Omega.{arith}
use lib.Dec.{leb}
use lib.ListN.{length, length-append}
use borrow.Author.Tests.{leb-false}
use Rattle.common.specs.Bytes.{Bytes, length_limit}
use Rattle.common.proofs.Choice.{by_cond}
use Rattle.options.specs.Options.{is_off}
use Rattle.options.specs.declared.ExtractOptions.{ExtractOptions}
use Rattle.options.specs.declared.Formatting.{Formatting}
use Rattle.tags.specs.Tags.{is_tr, is_pre, is_textarea}
use Rattle.writer.specs.Out.{Out, push_all}
use Rattle.writer.proofs.OutLaws.{greater_max, push_all_text, push_all_peak}
use Rattle.html2text.specs.Bounds.{most_events, most_written, beside, Going, StateWithin, FusedWithin, Each, AddsAtMost, RunWithin, StateBounded, Bounded, Adds, EachAdds, RunBounded}
use Rattle.html2text.specs.Collect.{Event, Entry, tag_number, pre_depth_of, added}
use Rattle.html2text.specs.Extract.{most_levels, most_open_rows, passes_levels, passes_rows}
use Rattle.html2text.specs.Fused.{Fused, idle, closed, open_entry, pushes_on, emptied, opened, grown, fed, fed_all}
use Rattle.html2text.specs.Levels.{recounted, depth_after}
use Rattle.html2text.specs.Serialize.{State, changes_level, step}
use Rattle.html2text.specs.declared.ExtractNode.{ExtractNode}
use Rattle.html2text.proofs.LevelLaws.{step_levels}
use Rattle.html2text.proofs.GoingLaws.{going_more, going_taken}
use Rattle.html2text.proofs.StepBounds.{Within, within_step}

-- ---- the open entry's text is no longer than the greatest length

abbrev Below : Fused → Type 0
Below F = length F.note.text ≤ F.note.peak

pushed_below : (s : Bytes) (O : Out) → length O.text ≤ O.peak → length (push_all s O).text ≤ (push_all s O).peak
pushed_below s O h =
    omega (arith, ap length (push_all_text s O) ∙ length-append O.text s, push_all_peak s O h, greater_max O.peak (length O.text + length s))

below_fed : (o : ExtractOptions) (e : Event) (F : Fused) → Below F → Below (fed o e F)
unfolding fed opened grown
below_fed o e F h =
    by_cond Below (pushes_on o F e) (λ p. pushed_below (added o e.node e.end (tag_number e.node)) (emptied o F.note) (omega arith)) (λ p. pushed_below (added o e.node e.end F.node.tag) F.note h)

-- ---- list depth and open rows: a step that would pass is refused

recounted_low : (most : ℕ) (counts end : Bool) (k : ℕ) → k ≤ most → (counts && (not end && leb most k)) ≡ false → recounted counts end k ≤ most
recounted_low most true true k h e = omega arith
recounted_low most true false k h e = omega (arith, leb-false most k e)
recounted_low most false end k h e = h

depth_low : (f : Formatting) (n : ExtractNode) (S : State) → passes_levels f n S ≡ false → S.depth ≤ most_levels → depth_after f n S.depth ≤ most_levels
depth_low f n S e h = recounted_low most_levels (not (is_off f) && changes_level n.tag S.depth) n.end S.depth h (turned (not (is_off f)) n.end (changes_level n.tag S.depth) (leb most_levels S.depth) e)
  where
    turned : (on end c l : Bool) → (on && (not end && (c && l))) ≡ false → ((on && c) && (not end && l)) ≡ false
    turned true true true l e = e
    turned true true false l e = e
    turned true false true l e = e
    turned true false false l e = e
    turned false end c l e = e

-- ---- a step

module _ (f : Formatting) (bullets : Bool) (e : Entry) {k most : ℕ} (few : k ≤ most_events) where
  within_taken : (S : State) → passes_levels f e.node S ≡ false → passes_rows e.node S ≡ false → StateWithin k most (length e.text) S
      → StateWithin (k + 1) (most + beside k) 0 (step f bullets e.node e.text S)
  within_taken S levels rows h =
      let q = step_levels e.node bullets e.text f S in
      let w = within_step f bullets e.node e.text S within (omega arith) (omega arith) in
      record {
        margins = omega (arith, w.low_margins);
        uncollapsed = w.low_uncollapsed;
        numbers = w.numbers;
        numbering = q.numbering h.numbering;
        depth = omega (arith, q.depth, depth_low f e.node S levels h.depth);
        rows = omega (arith, q.rows, recounted_low most_open_rows (is_tr e.node.tag) e.node.end (length S.row_has_cell) h.rows rows);
        prefix = w.short;
        below = w.below;
        peak = omega (arith, w.low_peak, h.peak);
      }
    where
      within : Within (4 * k) k (k + 1) most_levels S.out.peak S
      within =
          record {
            low_margins = h.margins;
            low_uncollapsed = h.uncollapsed;
            numbers = h.numbers;
            low_depth = h.depth;
            short = h.prefix;
            below = h.below;
            low_peak = omega arith;
          }

pub state_more : {k j most more held less : ℕ} {S : State} → StateWithin k most held S → k ≤ j → most + 6 * less ≤ more + 6 * held → StateWithin j more less S
state_more h l m =
    record {
      margins = omega (arith, h.margins);
      uncollapsed = omega (arith, h.uncollapsed);
      numbers = λ i. omega (arith, h.numbers i);
      numbering = h.numbering;
      depth = h.depth;
      rows = h.rows;
      prefix = h.prefix;
      below = h.below;
      peak = omega (arith, h.peak);
    }

-- what is written fits a word
pub written_small : {k : ℕ} {S : State} → k ≤ most_events + 1 → StateBounded k S → S.out.peak < length_limit
written_small l h = omega (arith, h.peak)

pub need_small : {k : ℕ} {F : Fused} → k ≤ most_events → Bounded k F → F.note.peak < length_limit
need_small l h = omega (arith, h.need)

-- ---- a run, whose events add at most `adds` bytes to a text each, and `writes` to what is written

within_idle : {adds writes : ℕ} → FusedWithin adds writes 0 idle
within_idle =
    record {
      pre_depth = omega arith;
      below = omega arith;
      need = omega arith;
      run = record { margins = omega arith; uncollapsed = omega arith; numbers = λ i. omega arith; numbering = refl; depth = omega arith; rows = omega arith; prefix = omega arith; below = omega arith; peak = omega arith };
    }

pushed_length : (s : Bytes) (n : Out) → length (push_all s n).text ≡ length n.text + length s
pushed_length s n = ap length (push_all_text s n) ∙ length-append n.text s

module _ (o : ExtractOptions) {adds writes k : ℕ} {F : Fused} (h : FusedWithin adds writes k F) (few : k ≤ most_events) where
  within_closed : Going (StateWithin (k + 1) (k * writes + beside k) 0) (closed o F)
  unfolding closed
  within_closed =
      let P = StateWithin k (k * writes) (length F.note.text) in
      let Q = StateWithin (k + 1) (k * writes + beside k) 0 in
      by_cond (Going Q) F.any
      (λ e. going_taken P Q o.formatting o.list_bullets (open_entry o F) F.run
      (within_taken o.formatting o.list_bullets (open_entry o F) few) h.run)
      (λ e. going_more P Q (λ S g. state_more g (omega arith) (omega arith)) F.run h.run)

  pre_depth_low : (t : ℕ) (end : Bool) (before : ℕ) → before ≤ k → pre_depth_of t end before ≤ k + 1
  pre_depth_low t end before l =
      by_cond (λ (x : ℕ). x ≤ k + 1) (is_pre t || is_textarea t) (λ e. by_cond (λ (x : ℕ). x ≤ k + 1) end (λ d. omega arith) (λ d. omega arith)) (λ e. omega arith)

  pushed_low : (s : Bytes) (n : Out) → length n.text ≤ n.peak → n.peak ≤ k * adds → length s ≤ adds → (push_all s n).peak ≤ (k + 1) * adds
  pushed_low s n a b c = omega (arith, push_all_peak s n a, greater_max n.peak (length n.text + length s))

  within_fed : (e : Event) → 6 * adds + beside k ≤ writes → AddsAtMost adds o e → FusedWithin adds writes (k + 1) (fed o e F)
  unfolding fed opened grown
  within_fed e room adds_few =
      let first = added o e.node e.end (tag_number e.node) in
      let more = added o e.node e.end F.node.tag in
      let Q : ℕ → State → Type 0 = λ held. StateWithin (k + 1) ((k + 1) * writes) held in
      record {
        pre_depth = by_cond (λ (G : Fused). G.node.pre_depth ≤ k + 1) (pushes_on o F e) (λ p. pre_depth_low (tag_number e.node) e.end F.node.pre_depth h.pre_depth) (λ p. omega (arith, h.pre_depth));
        below = below_fed o e F h.below;
        need = by_cond (λ (G : Fused). G.note.peak ≤ (k + 1) * adds) (pushes_on o F e)
            (λ p. pushed_low first (emptied o F.note) (omega arith) h.need (adds_few.short (tag_number e.node)))
            (λ p. pushed_low more F.note h.below h.need (adds_few.short F.node.tag));
        run = by_cond (λ (G : Fused). Going (Q (length G.note.text)) G.run) (pushes_on o F e)
            (λ p. going_more (StateWithin (k + 1) (k * writes + beside k) 0) (Q (length (push_all first (emptied o F.note)).text))
            (λ S g. state_more g (omega arith) (omega (arith, pushed_length first (emptied o F.note), adds_few.short (tag_number e.node)))) (closed o F) within_closed)
            (λ p. going_more (StateWithin k (k * writes) (length F.note.text)) (Q (length (push_all more F.note).text))
            (λ S g. state_more g (omega arith) (omega (arith, pushed_length more F.note, adds_few.short F.node.tag))) F.run h.run);
      }

module _ (o : ExtractOptions) {adds writes : ℕ} where
  within_all : (es : List Event) (k : ℕ) (F : Fused) → k + length es ≤ most_events → 6 * adds + beside (k + length es) ≤ writes → Each (AddsAtMost adds o) es → FusedWithin adds writes k F
      → FusedWithin adds writes (k + length es) (fed_all o es F)
  unfolding fed_all
  within_all [] k F few room each h = let q : k + 0 ≡ k = omega arith in rw q h
  within_all (e ∷ es) k F few room each h =
      let q : k + suc (length es) ≡ k + 1 + length es = omega arith in
      rw q (within_all es (k + 1) (fed o e F) (omega arith) (omega arith) each.1 (within_fed o h (omega arith) e (omega arith) each.0))

  pub run_within : (es : List Event) → length es ≤ most_events → 6 * adds + beside (length es) ≤ writes → Each (AddsAtMost adds o) es → RunWithin adds writes o es
  run_within es few room each =
      let n = length es + 1 in
      let b : FusedWithin adds writes (length es) (fed_all o es idle) = rw (zero-add (length es)) at (within_all es 0 idle (omega arith) (omega arith) each within_idle) in
      record { fed = b; closing = going_more (StateWithin n (length es * writes + beside (length es)) 0) (StateWithin n (n * writes) 0) (λ S g. state_more g (omega arith) (omega arith)) (closed o (fed_all o es idle)) (within_closed o b few) }

-- ---- of any sheet

pub bounded_idle : Bounded 0 idle
bounded_idle = within_idle

module _ (o : ExtractOptions) {k : ℕ} {F : Fused} (h : Bounded k F) where
  pub bounded_closed : k ≤ most_events → Going (StateBounded (k + 1)) (closed o F)
  bounded_closed few = going_more (StateWithin (k + 1) (k * most_written + beside k) 0) (StateBounded (k + 1)) (λ S g. state_more g (omega arith) (omega arith)) (closed o F) (within_closed o h few)

  pub bounded_fed : (e : Event) → k ≤ most_events → Adds o e → Bounded (k + 1) (fed o e F)
  bounded_fed e few adds = within_fed o h few e (omega arith) adds

pub run_bounded : (o : ExtractOptions) (es : List Event) → length es ≤ most_events → EachAdds o es → RunBounded o es
run_bounded o es few each = run_within o es few (omega arith) each
