-- A visit adds to the text of the open entry, and what it adds is shown.
use mathlib.Core.Path.{◌≡◌, refl, sym, ap, ap₂, subst, ◌∙◌}
use mathlib.Core.Bool.{Bool, true, ◌&&◌, not, cond, not-not}
use Prim.Native.Nat.{ℕ, ◌+◌, ◌<◌}
use native.Mathlib.Omega.{arith}
use lib.ListN.{length, length-append}
use Rattle.common.specs.Bytes.{Bytes, length_limit}
use Rattle.common.proofs.Choice.{by_test}
use Rattle.common.proofs.TestLaws.{or_neither}
use Rattle.options.specs.declared.ExtractOptions.{ExtractOptions}
use Rattle.sheet.specs.declared.line.Layout.{Layout}
use Rattle.tags.specs.Tags.{is_cell}
use Rattle.tree.specs.Page.{node_at}
use Rattle.writer.specs.Out.{greater}
use Rattle.writer.specs.Writing.{Room}
use Rattle.writer.proofs.OutLaws.{greater_max, push_all_text, push_all_peak}
use Rattle.html2text.specs.Collect.{Event, added}
use Rattle.html2text.specs.Escapes.{escaped_by}
use Rattle.html2text.specs.Extract.{going}
use Rattle.html2text.specs.Fused.{Fused, closed, pushes_on, fed}
use Rattle.html2text.specs.Serialize.{State}
use Rattle.html2text.specs.Showing.{show_piece, showing_after, showing_of, begun, said_more}
use Rattle.html2text.specs.declared.ExtractNode.{ExtractNode}
use Rattle.html2text.specs.declared.Showing.{Showing}
use Rattle.html2text.proofs.EscapesLaws.{showing_dropped, showing_escapes, fed_node}
use Rattle.html2text.proofs.OpenLaws.{closed_more}
use Rattle.html2text.proofs.ShowingLaws.{shown_in_pieces, fed_in_two}
use Rattle.collect.specs.Reads.{read_by}
use Rattle.collect.specs.Visits.{Visits, event_of}
use Rattle.collect.specs.declared.Visit.{Visit}
use Rattle.serializer.specs.Progress.{ShowReady, Shows}
use Rattle.serializer.specs.Serializing.{Lent, lent}
use Rattle.serializer.specs.declared.Progress.{Progress}
use Rattle.writing.specs.Passing.{Passes, beginning, Opens, PassReady, PassDoes}
use Rattle.writing.specs.declared.OpenEntry.{OpenEntry}

-- ---- an event opens an entry or not, and adds to the open one

module _ (o : ExtractOptions) (e : Event) (F : Fused) where
  abbrev said : Bool → Fused
  said b = let G = cond b (begun o e F) F in said_more o (added o e.node e.end G.node.tag) G

  fed_said : fed o e F ≡ said (pushes_on o F e)
  fed_said =
      by_test (pushes_on o F e) (λ p. subst (λ (b : Bool). fed o e F ≡ said b) (sym p) ((fed_in_two o e F).opens p))
      (λ p. subst (λ (b : Bool). fed o e F ≡ said b) (sym p) ((fed_in_two o e F).grows p))

  beginning_any : (beginning o e F).any ≡ true
  unfolding begun
  beginning_any =
      by_test (pushes_on o F e) (λ p. subst (λ (b : Bool). (cond b (begun o e F) F).any ≡ true) (sym p) refl)
      (λ p. subst (λ (b : Bool). (cond b (begun o e F) F).any ≡ true) (sym p) (sym (not-not F.any) ∙ ap not (or_neither (not F.any) _ p).0))

-- ---- a piece

-- the numbers with the piece shown
abbrev pub said_entry : OpenEntry → Progress → OpenEntry
said_entry p q = record { progress = q; depth = p.depth; pre_depth = p.pre_depth; tag = p.tag; any = p.any }

module _ {o : ExtractOptions} {write : Bool} {under : Bytes} {p : OpenEntry} {a : Lent} {F : Fused} (h : Passes o write under p a F) (any : F.any ≡ true) (piece : Bytes) where
  said_run : closed o (said_more o piece F) ≡ going (show_piece o.formatting o.list_bullets p.progress.showing piece h.state)
  said_run =
      let w = h.showing any in
      subst (λ (x : Showing). closed o (said_more o piece F) ≡ going (show_piece o.formatting o.list_bullets x piece h.state)) (sym w.is) (closed_more o piece F any w.run h.run)

  said_ready : {S : State} {n : ℕ} → closed o (said_more o piece F) ≡ going S → Room write under S.out.peak → (said_more o piece F).note.peak < length_limit → p.progress.read + n < length_limit
      → ShowReady o.formatting o.list_bullets write p.progress a.out piece n
  said_ready {S} goes room small count =
      let T = show_piece o.formatting o.list_bullets p.progress.showing piece h.state in
      let same : S ≡ T = cc (goes, said_run) in
      record {
        able = record { numbering = a.numbering; cells = a.cells; able = record { under = under; state = h.state; stands = h.stands; room = subst (λ (U : State). Room write under U.out.peak) same room } };
        below = λ t. omega (arith, h.len t, h.need t, h.below);
        small = λ t. omega (arith, small, h.len t, push_all_peak piece F.note h.below, greater_max F.note.peak (length F.note.text + length piece));
        count = count;
      }

  said_passes : {q : Progress} {out : Bytes} {n : ℕ} → Shows o.formatting o.list_bullets write p.progress a.out q out piece n
      → Passes o write under (said_entry p q) (lent a.numbering a.cells out) (said_more o piece F)
  said_passes d =
      let w = h.showing any in
      let first = showing_of o.formatting o.list_bullets F.node w.before in
      let text = push_all_text piece F.note in
      let peak = push_all_peak piece F.note h.below in
      record {
        any = h.any;
        depth = h.depth;
        nested = h.nested;
        tag = h.tag;
        len = λ t. omega (arith, d.len t, h.len t, ap length text, length-append F.note.text piece);
        need = λ t. d.need t ∙ ap₂ (λ (k n : ℕ). greater k (n + length piece)) (h.need t) (h.len t) ∙ sym peak;
        below = omega (arith, ap length text, length-append F.note.text piece, peak, greater_max F.note.peak (length F.note.text + length piece));
        state = show_piece o.formatting o.list_bullets p.progress.showing piece h.state;
        run = said_run;
        stands = (d.works.at a.numbering a.cells).run under h.state h.stands;
        showing = λ _.
            record {
              before = w.before;
              run = w.run;
              is = d.showing
                  ∙ ap (λ (x : Showing). showing_after x piece) w.is
                  ∙ sym ((shown_in_pieces o.formatting o.list_bullets).after_append first F.note.text piece)
                  ∙ ap (showing_after first) (sym text);
            };
      }

-- what is read of it is what the event adds that is escaped
read_is : {o : ExtractOptions} {write : Bool} {under : Bytes} {p : OpenEntry} {a : Lent} {F : Fused} → Passes o write under p a F → F.any ≡ true → (e : Event)
    → read_by o p.progress.showing e.node e.end p.tag ≡ length (escaped_by o F.node e)
read_is {o} {p = p} {F = F} h any e =
    let w = h.showing any in
    let n = F.node in
    let dropped = ap (λ (x : Showing). x.dropped) w.is ∙ showing_dropped o.formatting o.list_bullets n w.before F.note.text in
    by_test (is_cell n.tag && n.end) (λ t. rw (dropped, t))
    (λ t. rw (dropped, t, h.tag, ap (λ (x : Showing). x.escapes) w.is ∙ showing_escapes o.formatting o.list_bullets n w.before F.note.text t))

-- ---- a visit

module _ (o : ExtractOptions) {write : Bool} {s : Bytes} {l : Layout} {v : Visit} {p q : OpenEntry} {a b : Lent} (visits : Visits s l v) (opens : Opens o write v p a q b) where
  begins : {under : Bytes} {F : Fused} → Passes o write under p a F → Passes o write under q b (beginning o (event_of s l v) F)
  begins {under} {F} h = (opens.at s l visits).run under F h

  module _ {under : Bytes} {F : Fused} (h₀ : Passes o write under p a F) where
    visit_reads : read_by o q.progress.showing (node_at s l v.row) v.end q.tag ≡ length (escaped_by o (fed o (event_of s l v) F).node (event_of s l v))
    visit_reads =
        let e = event_of s l v in
        read_is (begins h₀) (beginning_any o e F) e ∙ ap (λ (n : ExtractNode). length (escaped_by o n e)) (sym (fed_node o e F))

  pub visit_add : PassReady o write (event_of s l v) v p a
      → ShowReady o.formatting o.list_bullets write q.progress b.out (added o (node_at s l v.row) v.end q.tag) (read_by o q.progress.showing (node_at s l v.row) v.end q.tag)
  visit_add r =
      let t = r.opens.standing in
      let e = event_of s l v in
      let h = begins t.passes in
      let is = fed_said o e t.fused in
      rw h.tag
      (said_ready h (beginning_any o e t.fused) (added o e.node e.end (beginning o e t.fused).node.tag) (subst (λ (G : Fused). closed o G ≡ going r.after) is r.goes_on) r.room
      (subst (λ (G : Fused). G.note.peak < length_limit) is r.small)
      (omega (arith, r.count, opens.read, rw h.tag at (visit_reads t.passes))))

  module _ {q' : Progress} {out : Bytes}
      (d : Shows o.formatting o.list_bullets write q.progress b.out q' out (added o (node_at s l v.row) v.end q.tag) (read_by o q.progress.showing (node_at s l v.row) v.end q.tag)) where
    pub visit_added : PassDoes o write p a (said_entry q q') (lent b.numbering b.cells out) (fed o (event_of s l v))
    visit_added =
        record {
          run = λ under F h₀.
              let e = event_of s l v in
              let h = begins h₀ in
              subst (Passes o write under (said_entry q q') (lent b.numbering b.cells out)) (sym (fed_said o e F))
              (said_passes h (beginning_any o e F) (added o e.node e.end (beginning o e F).node.tag) (rw h.tag at d));
        }

    pub visit_read : {under : Bytes} {F : Fused} → Passes o write under p a F → q'.read ≡ p.progress.read + length (escaped_by o (fed o (event_of s l v) F).node (event_of s l v))
    visit_read h₀ = d.read_is ∙ ap₂ (λ (k n : ℕ). k + n) opens.read (visit_reads h₀)
