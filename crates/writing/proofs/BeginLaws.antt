-- A visit opens an entry or not: what is asked for there, and what the pass stands for then.
use mathlib.Core.Path.{◌≡◌, refl, sym, ap, subst, ◌∙◌}
use mathlib.Core.Bool.{Bool, true, false, ◌&&◌, not, cond}
use mathlib.Core.List.{List, []}
use Prim.Native.Nat.{ℕ, ◌+◌, ◌≤◌, ◌<◌}
use native.Mathlib.Omega.{arith}
use lib.Dec.{leb}
use lib.ListN.{length, get_or}
use lib.Seq.{get_or-take}
use borrow.Author.Tests.{leb-false}
use Rattle.common.specs.Bytes.{Bytes, length_limit}
use Rattle.options.specs.Options.{is_off}
use Rattle.options.specs.declared.ExtractOptions.{ExtractOptions}
use Rattle.sheet.specs.declared.line.Layout.{Layout}
use Rattle.tags.specs.Tags.{is_tr}
use Rattle.tree.specs.Page.{node_at}
use Rattle.html2text.specs.Bounds.{StateBounded}
use Rattle.html2text.specs.Collect.{tag_number, pushed_node, marked}
use Rattle.html2text.specs.Extract.{going, most_levels, most_open_rows, depth_passes, rows_pass}
use Rattle.html2text.specs.Fused.{Fused, closed, pushes_on}
use Rattle.html2text.specs.Serialize.{step, changes_level}
use Rattle.html2text.specs.Showing.{showing_of, begun}
use Rattle.html2text.specs.declared.ExtractNode.{ExtractNode}
use Rattle.html2text.proofs.OpenLaws.{begun_steps}
use Rattle.html2text.proofs.ShowingLaws.{shown_in_pieces}
use Rattle.collect.specs.Entries.{opens_on, node_of}
use Rattle.collect.specs.Visits.{Visits, event_of}
use Rattle.collect.specs.declared.Visit.{Visit}
use Rattle.collect.proofs.EntryLaws.{opens_is, node_is}
use Rattle.serializer.specs.Progress.{Begins}
use Rattle.serializer.specs.Serializing.{Lent, Able, Limits}
use Rattle.serializer.specs.declared.Begun.{Begun}
use Rattle.writing.specs.Passing.{depth_passes_at, rows_pass_at, Passes, OpenReady, Opens}
use Rattle.writing.specs.declared.OpenEntry.{OpenEntry}

-- ---- the limits

row_left : (tr end : Bool) (k : ℕ) → (tr && (not end && leb most_open_rows k)) ≡ false → tr ≡ true → end ≡ false → k < most_open_rows
row_left tr end k e t f = leb-false most_open_rows k (rw (t, f) at e)

level_left : (off end changes : Bool) (k : ℕ) → (not off && (not end && (changes && leb most_levels k))) ≡ false → off ≡ false → changes ≡ true → end ≡ false → k < most_levels
level_left off end changes k e a b c = leb-false most_levels k (rw (a, b, c) at e)

-- the entry that a visit opens, by its numbers
abbrev pub node_after : ExtractOptions → OpenEntry → Visit → ExtractNode
node_after o p v = marked o v.tag (node_of o p.pre_depth v)

module _ {o : ExtractOptions} {write : Bool} {under : Bytes} {p : OpenEntry} {a : Lent} {F : Fused} (h : Passes o write under p a F) where
  numbers_small : {k : ℕ} → StateBounded k h.state → (i : ℕ) → i < p.progress.serializer.depth → get_or a.numbering i 0 ≤ k + 1
  numbers_small b i low =
      let d = p.progress.serializer.depth in
      omega (arith, b.numbers i, get_or-take d a.numbering i 0 low, ap (λ (l : List ℕ). get_or l i 0) h.stands.numbering)

  module _ {s : Bytes} {l : Layout} {v : Visit} (visits : Visits s l v) where
    pub pushes_is : opens_on o p.any p.depth v ≡ pushes_on o F (event_of s l v)
    pushes_is = opens_is o visits F h.any h.depth

    pub node_begun : node_after o p v ≡ (begun o (event_of s l v) F).node
    unfolding begun
    node_begun =
        node_is o visits p.pre_depth
        ∙ ap (λ (k : ℕ). marked o (tag_number (node_at s l v.row)) (pushed_node o k (event_of s l v))) h.nested

    pub levels_begun : {b : Bool} → depth_passes_at o.formatting v p.progress.serializer.depth ≡ b → depth_passes o.formatting (begun o (event_of s l v) F).node h.state.depth ≡ b
    levels_begun {b} e =
        subst (λ (n : ExtractNode). depth_passes o.formatting n h.state.depth ≡ b) node_begun
        (subst (λ (k : ℕ). depth_passes_at o.formatting v k ≡ b) h.stands.depth e)

    pub rows_begun : {b : Bool} → rows_pass_at v p.progress.serializer.rows ≡ b → rows_pass (begun o (event_of s l v) F).node (length h.state.row_has_cell) ≡ b
    rows_begun {b} e =
        subst (λ (n : ExtractNode). rows_pass n (length h.state.row_has_cell) ≡ b) node_begun
        (subst (λ (k : ℕ). rows_pass_at v k ≡ b) h.stands.rows e)

    -- the state behind an entry that passes no limit, before its text
    module _ (levels : depth_passes_at o.formatting v p.progress.serializer.depth ≡ false) (rows : rows_pass_at v p.progress.serializer.rows ≡ false) where
      pub run_begun : closed o (begun o (event_of s l v) F) ≡ going (step o.formatting o.list_bullets (node_after o p v) [] h.state)
      run_begun =
          subst (λ (n : ExtractNode). closed o (begun o (event_of s l v) F) ≡ going (step o.formatting o.list_bullets n [] h.state)) (sym node_begun)
          (begun_steps o (event_of s l v) F h.run (levels_begun levels) (rows_begun rows))

-- ---- an entry opens

-- the numbers of the entry that opens
abbrev pub opened_entry : OpenEntry → ExtractNode → Begun → OpenEntry
opened_entry p n b =
    record {
      progress = record { serializer = b.serializer; len = 0; need = p.progress.need; read = p.progress.read; showing = b.showing };
      depth = n.depth;
      pre_depth = n.pre_depth;
      tag = n.tag;
      any = true;
    }

module _ {o : ExtractOptions} {write : Bool} {v : Visit} {p : OpenEntry} {a : Lent} (r : OpenReady o write v p a) where
  pub open_nested : p.pre_depth < length_limit
  open_nested = omega (arith, r.standing.passes.nested, r.standing.deep)

  module _ {n : ExtractNode} (is : n ≡ node_after o p v) where
    pub open_limits : Limits o.formatting p.progress.serializer a.numbering a.cells n
    open_limits =
        let t = r.standing in
        let h = t.passes in
        let d = p.progress.serializer.depth in
        rw is
        record {
          margins = omega (arith, h.stands.margins, t.bounded.margins, t.few);
          uncollapsed = omega (arith, h.stands.uncollapsed, t.bounded.uncollapsed, t.few);
          row = λ tr f. omega (arith, t.levelled.cells, row_left (is_tr v.tag) v.end p.progress.serializer.rows r.rows tr f);
          level = λ off changes f. omega (arith, t.levelled.numbering, level_left (is_off o.formatting) v.end (changes_level v.tag d) d r.levels off changes f);
          numbers = λ i low. omega (arith, numbers_small h t.bounded i low, t.few);
        }

    module _ (yes : opens_on o p.any p.depth v ≡ true) where
      pub open_able : Able write p.progress.serializer a (step o.formatting o.list_bullets n [])
      open_able =
          let t = r.standing in
          rw is record { under = t.under; state = t.passes.state; stands = t.passes.stands; room = r.room yes }

      begun_passes : {b : Begun} {a' : Lent} {s : Bytes} {l : Layout} → Begins o.formatting o.list_bullets n write p.progress.serializer a b a' → Visits s l v → (under : Bytes) (F : Fused)
          → Passes o write under p a F → Passes o write under (opened_entry p n b) a' (begun o (event_of s l v) F)
      unfolding begun
      begun_passes {s = s} {l} d visits under F h =
          let node = is ∙ node_begun h visits in
          let w = showing_of o.formatting o.list_bullets (begun o (event_of s l v) F).node h.state in
          record {
            any = refl;
            depth = ap (λ (m : ExtractNode). m.depth) node;
            nested = ap (λ (m : ExtractNode). m.pre_depth) node;
            tag = ap (λ (m : ExtractNode). m.tag) node;
            len = λ t. refl;
            need = h.need;
            below = omega arith;
            state = step o.formatting o.list_bullets n [] h.state;
            run = rw is (run_begun h visits r.levels r.rows);
            stands = d.works.run under h.state h.stands;
            showing = λ any.
                record {
                  before = h.state;
                  run = h.run;
                  is = d.showing under h.state h.stands
                      ∙ ap (λ (m : ExtractNode). showing_of o.formatting o.list_bullets m h.state) node
                      ∙ sym ((shown_in_pieces o.formatting o.list_bullets).after_none w);
                };
          }

      pub open_begins : {b : Begun} {a' : Lent} → Begins o.formatting o.list_bullets n write p.progress.serializer a b a' → Opens o write v p a (opened_entry p n b) a'
      open_begins {b} {a'} d =
          record {
            at = λ s l visits.
                record {
                  run = λ under F h.
                      let e = event_of s l v in
                      subst (λ (c : Bool). Passes o write under (opened_entry p n b) a' (cond c (begun o e F) F)) (sym (sym (pushes_is h visits) ∙ yes))
                      (begun_passes d visits under F h);
                };
            read = refl;
          }

-- no entry opens
pub open_none : {o : ExtractOptions} {write : Bool} {v : Visit} {p : OpenEntry} {a : Lent} → opens_on o p.any p.depth v ≡ false → Opens o write v p a p a
open_none {o} {write} {v} {p} {a} none =
    record {
      at = λ s l visits.
          record {
            run = λ under F h.
                let e = event_of s l v in
                subst (λ (c : Bool). Passes o write under p a (cond c (begun o e F) F)) (sym (sym (pushes_is h visits) ∙ none)) h;
          };
      read = refl;
    }
