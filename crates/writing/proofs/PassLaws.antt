-- Along the whole pass: the walk stands at what is left of the events, and the pass for the run before them.
use Rattle.std.specs.Prelude.{Option, None, Some}
use mathlib.Core.Path.{◌≡◌, refl, sym, ap, ◌∙◌}
use mathlib.Core.Bool.{Bool, true, false, ◌&&◌, not, not-not}
use mathlib.Core.List.{List, [], ◌∷◌}
use Prim.Native.Nat.{ℕ, suc, ◌+◌, ◌≤◌, ◌<◌}
use native.Mathlib.Numerals.{add-one}
use native.Mathlib.Nat.{mul-le-mul_right}
use native.Mathlib.Omega.{arith}
use lib.Dec.{eqb, leb}
use lib.ListN.{length}
use borrow.Author.Tests.{eqb-true}
use Rattle.common.specs.Bytes.{Bytes, length_limit}
use Rattle.common.proofs.Choice.{by_test, absurd_test, and_parts}
use Rattle.common.proofs.TestLaws.{or_left, or_right, or_cases, or_neither}
use Rattle.options.specs.Options.{is_off}
use Rattle.options.specs.declared.ExtractOptions.{ExtractOptions}
use Rattle.sheet.specs.Accepted.{Accepted}
use Rattle.sheet.specs.Layout.{most_depth}
use Rattle.sheet.specs.declared.line.Layout.{Layout}
use Rattle.tags.specs.Tags.{is_tr, is_ul, is_ol, is_list, is_li, is_block_tag}
use Rattle.writer.specs.Writing.{Room}
use Rattle.html2text.specs.Bounds.{most_events, most_added, EachAdds, Along}
use Rattle.html2text.specs.Collect.{Event, added}
use Rattle.html2text.specs.Escapes.{escaped_by, bytes_escaped, fed_escaped}
use Rattle.html2text.specs.Extract.{Run, going, too_many_levels, too_many_rows, most_levels, most_open_rows}
use Rattle.html2text.specs.Fused.{Fused, idle, closed, pushes_on, fed}
use Rattle.html2text.specs.Serialize.{State, start, changes_level}
use Rattle.html2text.specs.Showing.{begun}
use Rattle.html2text.proofs.AlongLaws.{along_start, along_next, along_closed, along_end}
use Rattle.html2text.proofs.EscapesLaws.{escaped_fused, escaped_bounded}
use Rattle.html2text.proofs.OpenLaws.{begun_levels, begun_rows, closed_more, begun_onward, begun_written, fed_onward, fed_written, fed_need_small}
use Rattle.html2text.proofs.RiseLaws.{Onward}
use Rattle.html2text.proofs.ShowingLaws.{fed_in_two}
use Rattle.collect.specs.Entries.{opens_on}
use Rattle.collect.specs.Visits.{Visits, event_of}
use Rattle.collect.specs.declared.Visit.{Visit}
use Rattle.serializer.specs.Serializing.{Lent, lent}
use Rattle.serializer.proofs.StandsLaws.{stands_start}
use Rattle.walk.specs.Turns.{events_of}
use Rattle.walk.specs.declared.cursor.Walk.{Walk}
use Rattle.walk.specs.declared.cursor.Walk.TheVariants.{Root}
use Rattle.visits.specs.Visiting.{Walked, run_of, events_in, passes_of, passes_left, events_left, Sees}
use Rattle.visits.proofs.Walking.{Walking, seen, walking_start, walking_on, walking_end}
use Rattle.writing.specs.Passing.{no_pass, depth_passes_at, rows_pass_at, Passes, Levelled, OpenReady, Opens, PassReady, PassDoes, WriteReady, TextPassed, PassRefused}
use Rattle.writing.specs.declared.OpenEntry.{OpenEntry}
use Rattle.writing.proofs.BeginLaws.{pushes_is, levels_begun, rows_begun, run_begun, open_none}

-- ---- an entry that counts as a level or a row is a block, and opens

list_block : (t : ℕ) → is_list t ≡ true → is_block_tag t ≡ true
list_block t e = or_cases (is_ul t) (is_ol t) (λ p. ap is_block_tag (eqb-true t 3 p)) (λ p. ap is_block_tag (eqb-true t 4 p)) e

level_block : (t k : ℕ) → changes_level t k ≡ true → is_block_tag t ≡ true
level_block t k e =
    or_cases (is_list t) (is_li t && eqb k 0) (list_block t) (λ p. ap is_block_tag (eqb-true t 5 (and_parts (is_li t) (eqb k 0) p).0)) e

levels_block : (off end : Bool) (t k : ℕ) → (not off && (not end && (changes_level t k && leb most_levels k))) ≡ true → is_block_tag t ≡ true
levels_block off end t k e =
    let a = (and_parts (not off) _ e).1 in
    let b = (and_parts (not end) _ a).1 in
    level_block t k (and_parts (changes_level t k) (leb most_levels k) b).0

rows_block : (end : Bool) (t k : ℕ) → (is_tr t && (not end && leb most_open_rows k)) ≡ true → is_block_tag t ≡ true
rows_block end t k e = or_left (is_tr t) _ (and_parts (is_tr t) _ e).0

block_opens : (o : ExtractOptions) (any : Bool) (last : ℕ) (v : Visit) → is_block_tag v.tag ≡ true → opens_on o any last v ≡ true
block_opens o any last v e = or_right (not any) _ (or_left _ _ (or_left (is_block_tag v.tag) _ e))

-- ---- before a visit that passes no limit

-- a run that goes on
record GoesOn (R : Run) : Type 0 where
  state : State
  is : R ≡ going state

module _ {o : ExtractOptions} {write : Bool} {under : Bytes} {p : OpenEntry} {a : Lent} {F : Fused} (h : Passes o write under p a F)
    {s : Bytes} {l : Layout} {v : Visit} (visits : Visits s l v)
    (levels : depth_passes_at o.formatting v p.progress.serializer.depth ≡ false) (rows : rows_pass_at v p.progress.serializer.rows ≡ false) where
  abbrev event : Event
  event = event_of s l v

  is_open : pushes_on o F event ≡ false → F.any ≡ true
  is_open q = sym (not-not F.any) ∙ ap not (or_neither (not F.any) _ q).0

  -- its text too
  fed_goes_on : GoesOn (closed o (fed o event F))
  unfolding begun
  fed_goes_on =
      by_test (pushes_on o F event)
      (λ q.
      let c = closed_more o (added o event.node event.end (begun o event F).node.tag) (begun o event F) refl h.run (run_begun h visits levels rows) in
      record { state = _; is = ap (closed o) ((fed_in_two o event F).opens q) ∙ c })
      (λ q.
      let w = h.showing (is_open q) in
      let c = closed_more o (added o event.node event.end F.node.tag) F (is_open q) w.run h.run in
      record { state = _; is = ap (closed o) ((fed_in_two o event F).grows q) ∙ c })

-- ---- the loop

-- `under` and `room`: the buffer as it was lent, and the stack's length
pub record Passing (o : ExtractOptions) (s : Bytes) (l : Layout) (left : List Bool) (write : Bool) (under : Bytes) (room : ℕ) (stack : List ℕ) (a : Lent) (w : Walk) (visits : ℕ) (p : OpenEntry) : Type 0 where
  pub walking : Walking s l left room stack w visits
  pub fused : Fused
  pub along : Along o (run_of s l o left) (events_left s l left w stack) fused
  pub passes : Passes o write under p a fused
  pub levelled : Levelled a
  pub count : p.progress.read + fed_escaped o (events_left s l left w stack) fused ≡ bytes_escaped o [] (events_in s l (passes_of s l left))
  pub most : bytes_escaped o [] (events_in s l (passes_of s l left)) < length_limit

-- before the first visit nothing was read, and all that will be fits a word
all_read : (o : ExtractOptions) (es : List Event) → 0 + fed_escaped o es idle ≡ bytes_escaped o [] es
all_read o es = omega (arith, escaped_fused o es)

all_small : (o : ExtractOptions) (es : List Event) → length es ≤ most_events → EachAdds o es → bytes_escaped o [] es < length_limit
all_small o es few each = omega (arith, escaped_fused o es, escaped_bounded o es idle each, mul-le-mul_right most_added few)

-- a visit passes no limit, and the entry that it opens, if it opens one, is open
pub record Opened (o : ExtractOptions) (write : Bool) (v : Visit) (p : OpenEntry) (a : Lent) (p' : OpenEntry) (a' : Lent) : Type 0 where
  pub levels : depth_passes_at o.formatting v p.progress.serializer.depth ≡ false
  pub rows : rows_pass_at v p.progress.serializer.rows ≡ false
  pub opens : Opens o write v p a p' a'
  pub levelled : Levelled a'

module _ {o : ExtractOptions} {s : Bytes} {l : Layout} {left : List Bool} where
  pub passing_start : {write : Bool} {p : OpenEntry} (stack numbering : List ℕ) (cells : List Bool) (out : Bytes) → Accepted s l → Walked s l o left → most_depth < length stack
      → length numbering ≡ most_levels → length cells ≡ most_open_rows → p ≡ no_pass
      → Passing o s l left write out (length stack) stack (lent numbering cells out) (Root l.root) 0 p
  unfolding closed
  passing_start stack numbering cells out accepted walked deep n c is =
      record {
        walking = walking_start accepted walked stack deep;
        fused = idle;
        along = along_start walked.few walked.each;
        passes = rw is
            record {
              any = refl;
              depth = refl;
              nested = refl;
              tag = refl;
              len = λ t. refl;
              need = λ t. refl;
              below = omega arith;
              state = start;
              run = refl;
              stands = stands_start _ _ _ _;
              showing = λ q. absurd_test q refl;
            };
        levelled = record { numbering = n; cells = c };
        count = rw is (all_read o (events_in s l (passes_of s l left)));
        most = all_small o (events_in s l (passes_of s l left)) walked.few walked.each;
      }

  module _
      {write : Bool} {under : Bytes} {room : ℕ} {stack : List ℕ} {a : Lent} {w : Walk} {visits : ℕ} {p : OpenEntry} (h : Passing o s l left write under room stack a w visits p)
      {r : Option (Option Visit × Walk)} (after : List ℕ) (saw : Sees s l left (passes_left s l left w stack) r after) where
    -- a visit
    module _ {v : Visit} {x : Walk} (e : r ≡ Some (Some v, x)) where
      visited : Sees s l left (passes_left s l left w stack) (Some (Some v, x)) after
      visited = seen s l left (passes_left s l left w stack) after saw e

      here : Along o (run_of s l o left) (event_of s l v ∷ events_left s l left x after) h.fused
      here = rw visited.1 at h.along

      pub visit_less : length (passes_left s l left x after) < length (passes_left s l left w stack)
      visit_less = omega (arith, visited.2)

      pub visit_line : v.row < length_limit
      visit_line = omega (arith, visited.0.inside, visited.0.accepted.sized.nodes)

      -- what this visit reads, and what the others do
      count_here : p.progress.read + (length (escaped_by o (fed o (event_of s l v) h.fused).node (event_of s l v)) + fed_escaped o (events_left s l left x after) (fed o (event_of s l v) h.fused))
          ≡ bytes_escaped o [] (events_in s l (passes_of s l left))
      unfolding fed_escaped
      count_here = rw visited.1 at h.count

      -- where no entry opens, no limit is passed
      closed_levels : opens_on o p.any p.depth v ≡ false → depth_passes_at o.formatting v p.progress.serializer.depth ≡ false
      closed_levels n =
          by_test (depth_passes_at o.formatting v p.progress.serializer.depth)
          (λ t. absurd_test (block_opens o p.any p.depth v (levels_block (is_off o.formatting) v.end v.tag p.progress.serializer.depth t)) n) (λ t. t)

      closed_rows : opens_on o p.any p.depth v ≡ false → rows_pass_at v p.progress.serializer.rows ≡ false
      closed_rows n =
          by_test (rows_pass_at v p.progress.serializer.rows)
          (λ t. absurd_test (block_opens o p.any p.depth v (rows_block v.end v.tag p.progress.serializer.rows t)) n) (λ t. t)

      pub opened_none : opens_on o p.any p.depth v ≡ false → Opened o write v p a p a
      opened_none n = record { levels = closed_levels n; rows = closed_rows n; opens = open_none n; levelled = h.levelled }

      -- a limit is passed
      pushes : is_block_tag v.tag ≡ true → pushes_on o h.fused (event_of s l v) ≡ true
      pushes b = sym (pushes_is h.passes visited.0) ∙ block_opens o p.any p.depth v b

      pub refused_levels : depth_passes_at o.formatting v p.progress.serializer.depth ≡ true → PassRefused o s l left write under (too_many_levels (v.row + 1)) a.out
      refused_levels q =
          rw add-one
          record {
            run = (begun_onward here (pushes (levels_block (is_off o.formatting) v.end v.tag p.progress.serializer.depth q))).levels (suc v.row)
                (begun_levels o (event_of s l v) h.fused h.passes.run (levels_begun h.passes visited.0 q));
            still = h.passes.stands.held.still;
          }

      module _ (levels : depth_passes_at o.formatting v p.progress.serializer.depth ≡ false) where
        pub refused_rows : rows_pass_at v p.progress.serializer.rows ≡ true → PassRefused o s l left write under (too_many_rows (v.row + 1)) a.out
        refused_rows q =
            rw add-one
            record {
              run = (begun_onward here (pushes (rows_block v.end v.tag p.progress.serializer.rows q))).rows (suc v.row)
                  (begun_rows o (event_of s l v) h.fused h.passes.run (levels_begun h.passes visited.0 levels) (rows_begun h.passes visited.0 q));
              still = h.passes.stands.held.still;
            }

        -- none is
        module _ (rows : rows_pass_at v p.progress.serializer.rows ≡ false) (ready : WriteReady o s l left write under) where
          room_before : {R : Run} {S : State} → R ≡ going S → S.out.peak < length_limit → Onward R (closed o (run_of s l o left)) → Room write under S.out.peak
          room_before {S = S} is small onward =
              record {
                small = small;
                fits = λ q.
                    let t = ready q in
                    let b = onward.before t.state t.run in
                    let same : b.state ≡ S = cc (is, b.is) in
                    omega (arith, b.rises, t.fits, ap (λ (U : State). U.out.peak) same);
              }

          open_ready : OpenReady o write v p a
          open_ready =
              record {
                standing = record {
                  under = under;
                  fused = h.fused;
                  passes = h.passes;
                  count = here.count;
                  few = omega (arith, here.few);
                  bounded = along_closed here h.passes.run;
                  deep = omega (arith, here.few, here.bounded.pre_depth);
                  levelled = h.levelled;
                };
                levels = levels;
                rows = rows;
                room = λ q.
                    let pushed = sym (pushes_is h.passes visited.0) ∙ q in
                    let c = run_begun h.passes visited.0 levels rows in
                    room_before c (begun_written here pushed c) (begun_onward here pushed);
              }

          pub visit_ready : Visits s l v × PassReady o write (event_of s l v) v p a
          unfolding open_ready
          visit_ready =
              let g = fed_goes_on h.passes visited.0 levels rows in (
                visited.0,
                record { opens = open_ready; small = fed_need_small here; after = g.state; goes_on = g.is; room = room_before g.is (fed_written here g.is) (fed_onward here); count = omega (arith, count_here, h.most) },
              )

      pub passing_visit : {p' : OpenEntry} {a' : Lent} → length after ≡ length stack → PassDoes o write p a p' a' (fed o (event_of s l v))
          → p'.progress.read ≡ p.progress.read + length (escaped_by o (fed o (event_of s l v) h.fused).node (event_of s l v)) → Levelled a'
          → Passing o s l left write under room after a' x (visits + 1) p'
      passing_visit same does read levelled =
          record {
            walking = walking_on h.walking after saw same e;
            fused = fed o (event_of s l v) h.fused;
            along = along_next here;
            passes = does.run under h.fused h.passes;
            levelled = levelled;
            count = omega (arith, count_here, read);
            most = h.most;
          }

    -- a row that is left out
    module _ {x : Walk} (e : r ≡ Some (None, x)) where
      left_out : Sees s l left (passes_left s l left w stack) (Some (None, x)) after
      left_out = seen s l left (passes_left s l left w stack) after saw e

      pub left_out_less : length (passes_left s l left x after) < length (passes_left s l left w stack)
      left_out_less = omega (arith, left_out.2)

      pub passing_left_out : length after ≡ length stack → Passing o s l left write under room after a x (visits + 1) p
      passing_left_out same =
          record {
            walking = walking_on h.walking after saw same e;
            fused = h.fused;
            along = rw left_out.1 at h.along;
            passes = h.passes;
            levelled = h.levelled;
            count = rw left_out.1 at h.count;
            most = h.most;
          }

    -- behind the last
    pub passing_end : r ≡ None → TextPassed o s l left write under (record { need = p.progress.need; visits = visits; read = p.progress.read; writer = p.progress.serializer.writer }) a.out
    unfolding events_of fed_escaped
    passing_end e =
        let none = ap (events_in s l) (seen s l left (passes_left s l left w stack) after saw e) in
        let ended = along_end (rw none at h.along) in
        record {
          need_is = λ t. h.passes.need t ∙ ap (λ (F : Fused). F.note.peak) ended;
          visits_is = walking_end h.walking after saw e;
          read_is = omega (arith, rw none at h.count);
          state = h.passes.state;
          run = ap (closed o) (sym ended) ∙ h.passes.run;
          held = h.passes.stands.held;
        }
