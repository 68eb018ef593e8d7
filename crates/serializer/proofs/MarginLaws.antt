-- Margins: the text between blocks, and the margin that a block asks for.
use mathlib.Core.Path.{◌≡◌, refl, sym, ◌∙◌}
use mathlib.Core.Bool.{Bool, true, false, ◌&&◌, cond}
use mathlib.Core.List.{[], ◌∷◌}
use Prim.Native.Nat.{ℕ, ◌+◌}
use native.Mathlib.Omega.{arith}
use lib.Dec.{eqb}
use lib.ListN.{length, replicate}
use borrow.Author.Tests.{eq-eqb, ne_eqb}
use Rattle.common.specs.Bytes.{Bytes}
use Rattle.html2text.specs.Serialize.{separated, margin_out, margin, block_margin}
use Rattle.html2text.specs.declared.ExtractNode.{ExtractNode}
use Rattle.text.specs.Text.{is_space}
use Rattle.writer.specs.Out.{Out, greater, push_all, strip}
use Rattle.writer.specs.Writing.{Held, Ready, Does, trimmed}
use Rattle.writer.specs.declared.Writer.{Writer}
use Rattle.writer.proofs.DoesLaws.{Grows, grows_none, grows_cond, grows_push_all, grows_strip, grows_then, does_none, does_then, does_by, ready_then, ready_by}
use Rattle.writer.proofs.HeldLaws.{trim_does}
use Rattle.serializer.specs.Serializing.{set_writer, set_margins, AbleOut, WorksAlone, WorksOut}
use Rattle.serializer.specs.declared.Serializer.{Serializer}
use Rattle.serializer.proofs.StandsLaws.{stands_out, stands_margins}
use Rattle.serializer.proofs.WorksLaws.{Rises, rises_none, rises_cond, works_none, works_by}

pub strip_if_does : (write : Bool) (buf : Bytes) (w : Writer) (bare : Bool) {b : Writer} → b ≡ cond bare (trimmed w) w → Does write w buf b buf (λ o. cond bare (strip o) o)
strip_if_does write buf w true e = rw e (trim_does write w buf)
strip_if_does write buf w false e = rw e (does_none write w buf)

-- ---- line ends, or a blank

abbrev pub gap : Bool → ℕ → Bytes
gap off size = cond off (0x20 ∷ []) (replicate size 0x0a)

module _ (write : Bool) (buf : Bytes) (off : Bool) (size : ℕ) (w : Writer) where
  pub separated_none : w.len ≡ 0 → Does write w buf w buf (separated off size)
  unfolding separated
  separated_none z = does_by (does_none write w buf) (λ under o h. sym (rw (eq-eqb (length o.text) 0 (sym h.len ∙ z))))

  module _ (n : w.len ≡ 0 → ⊥) where
    separated_is : (under : Bytes) (o : Out) → Held write under w buf o → separated off size o ≡ push_all (gap off size) o
    unfolding separated
    separated_is under o h = rw (ne_eqb (length o.text) 0 (λ z. n (h.len ∙ z)))

    pub separated_does : {w' : Writer} {buf' : Bytes} → Does write w buf w' buf' (push_all (gap off size)) → Does write w buf w' buf' (separated off size)
    separated_does d = does_by d (λ under o h. sym (separated_is under o h))

    pub separated_ready : Ready write w buf (separated off size) → Ready write w buf (push_all (gap off size))
    separated_ready r = ready_by r separated_is

  -- ---- the blanks before it away

  module _ (bare : Bool) where
    pub margin_none : size ≡ 0 → Does write w buf w buf (margin_out bare off size)
    unfolding margin_out
    margin_none z = does_by (does_none write w buf) (λ under o h. sym (rw (eq-eqb size 0 z)))

    module _ (n : size ≡ 0 → ⊥) {b : Writer} (b_is : b ≡ cond bare (trimmed w) w) where
      pub margin_does : {w' : Writer} {buf' : Bytes} → Does write b buf w' buf' (separated off size) → Does write w buf w' buf' (margin_out bare off size)
      unfolding margin_out
      margin_does d = does_by (does_then (strip_if_does write buf w bare b_is) d) (λ under o h. sym (rw (ne_eqb size 0 n)))

      pub margin_ready : Ready write w buf (margin_out bare off size) → Ready write b buf (separated off size)
      unfolding margin_out
      margin_ready r = ready_then (strip_if_does write buf w bare b_is) (ready_by r (λ under o h. rw (ne_eqb size 0 n)))

-- ---- `margin`

module _ {write : Bool} {s : Serializer} {buf : Bytes} (bare off : Bool) where
  pub margin_able : AbleOut write s buf (margin bare off) → Ready write s.writer buf (margin_out bare off s.margins)
  unfolding margin
  margin_able a = let r = a.able in record { under = r.under; out = r.state.out; held = r.stands.held; room = rw r.stands.margins r.room }

  pub margin_works : {w : Writer} {buf' : Bytes} → Does write s.writer buf w buf' (margin_out bare off s.margins) → WorksOut write s buf (set_margins 0 (set_writer w s)) buf' (margin bare off)
  unfolding margin
  margin_works d = record { at = λ numbering cells. record { run = λ under S h. stands_margins (stands_out h (rw h.margins at (d.run under S.out h.held))) refl } }

-- ---- a block

module _ (s : Serializer) (n : ExtractNode) (block : Bool) where
  pub block_collapse : block ≡ true → n.collapse_margins ≡ true → {m k : ℕ} → k ≡ cond (n.big_block && eqb n.pre_depth 0) 2 1 → m ≡ greater s.margins k
      → WorksAlone s (set_margins m s) (block_margin block n)
  unfolding block_margin
  block_collapse e f q p = record { at = λ write a. record { run = λ under S h. rw (e, f) (stands_margins h (p ∙ rw (q, h.margins))) } }

  pub block_add : block ≡ true → n.collapse_margins ≡ false → {k : ℕ} → k ≡ cond n.big_block 2 1 → WorksAlone s (set_margins (s.margins + k) s) (block_margin block n)
  unfolding block_margin
  block_add e f q = record { at = λ write a. record { run = λ under S h. rw (e, f) (stands_margins h (rw (q, h.margins))) } }

  pub block_none : block ≡ false → WorksAlone s s (block_margin block n)
  unfolding block_margin
  block_none e = record { at = λ write a. works_by works_none (λ under S h. sym (rw e)) }

-- ---- the greatest length never falls

pub grows_margin : (bare off : Bool) (size : ℕ) → Grows (margin_out bare off size)
unfolding margin_out separated
grows_margin bare off size =
    grows_cond (λ o. eqb size 0) grows_none
    (grows_then (grows_cond (λ o. bare) (grows_strip is_space) grows_none)
    (grows_cond (λ o. eqb (length o.text) 0) grows_none (grows_push_all (gap off size))))

pub rises_margin : (bare off : Bool) → Rises (margin bare off)
unfolding margin
rises_margin bare off = record { rise = λ S. (grows_margin bare off S.margins).grow S.out }

pub rises_block : (block : Bool) (n : ExtractNode) → Rises (block_margin block n)
unfolding block_margin
rises_block block n = rises_cond (λ S. block) (record { rise = λ S. omega arith }) rises_none
