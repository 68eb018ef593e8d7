-- The pass over the attribute lines.
use Rattle.std.specs.Prelude.{Option, None, Some, Ok, Err}
use mathlib.Core.Path.{◌≡◌, sym, ap, ◌∙◌}
use mathlib.Core.Bool.{Bool, true, false}
use Prim.Native.Nat.{ℕ, ◌+◌, ◌-◌, ◌≤◌, ◌<◌}
use native.Mathlib.Nat.{sub-zero}
use native.Mathlib.Omega.{arith}
use Rattle.common.specs.Bytes.{Bytes}
use Rattle.common.proofs.Choice.{by_test}
use Rattle.sheet.specs.Layout.{attribute_length, node_start, attribute_start, pool_of}
use Rattle.sheet.specs.Lines.{line_right, quad_from, attribute_of, short_line_of}
use Rattle.sheet.specs.Notes.{note_of, note_attribute, attributes_read}
use Rattle.sheet.specs.Verdict.{first_wrong, attribute_ranges, attribute_texts, attributes, attribute_format, attribute_range, attribute_text}
use Rattle.sheet.specs.declared.line.Layout.{Layout}
use Rattle.sheet.specs.declared.line.Quad.{Quad}
use Rattle.sheet.specs.declared.notes.AttributeNotes.{AttributeNotes}
use Rattle.sheet.proofs.LayoutLaws.{attribute_there}
use Rattle.sheet.proofs.FirstWrong.{Noting, first_right, first_wrong_law, first_end, noting_start, noting_more, noting_end, noted_as}

module _ (pool : Bytes) (n : AttributeNotes) (j : ℕ) (q : Quad) where
  pub note_attribute_is : {g e : Option ℕ} {c d : Bool} → g ≡ note_of n.range c j → c ≡ attribute_ranges pool (attribute_of q)
      → e ≡ note_of n.encoding d j → d ≡ attribute_texts pool (attribute_of q)
      → ◌≡◌ {A = AttributeNotes} (record { range = g; encoding = e }) (note_attribute pool n j q)
  unfolding note_attribute
  note_attribute_is eg ec ee ed k = record { range = noted_as n.range j eg ec k; encoding = noted_as n.encoding j ee ed k }

-- ---- a line of four numbers, or none

module _ (w : ℕ) (s : Bytes) (at : ℕ) where
  pub short_numbers : {q : Quad} → short_line_of w s at ≡ Some q → (line_right w s at 4 ≡ true) × (q ≡ quad_from w s at)
  unfolding short_line_of
  short_numbers {q} e = by_test (line_right w s at 4) (λ t. (t, numbers_are (rw t at e))) (λ t. not_bad (rw t at e))
    where
      numbers_are : Some (quad_from w s at) ≡ Some q → q ≡ quad_from w s at
      numbers_are h = cc

      not_bad : None ≡ Some q → (line_right w s at 4 ≡ true) × (q ≡ quad_from w s at)
      not_bad h = absurd (let z : ◌≡◌ {A = ℕ} 0 1 = cc in omega arith)

  pub short_bad : short_line_of w s at ≡ None → line_right w s at 4 ≡ false
  unfolding short_line_of
  short_bad e = by_test (line_right w s at 4) (λ t. not_numbers (rw t at e)) (λ t. t)
    where
      not_numbers : Some (quad_from w s at) ≡ None → line_right w s at 4 ≡ false
      not_numbers h = absurd (let z : ◌≡◌ {A = ℕ} 0 1 = cc in omega arith)

-- ---- the loop

module _ (s : Bytes) (l : Layout) where
  pub record Attributes (n : AttributeNotes) (at j : ℕ) : Type 0 where
    pub within : j ≤ l.attributes
    pub place : at ≡ attribute_start l j
    pub format : first_wrong (attribute_format s l) j (l.attributes - j) ≡ attributes s l (attribute_format s l)
    pub range : Noting (attribute_range s l) l.attributes j n.range
    pub encoding : Noting (attribute_text s l) l.attributes j n.encoding

  abbrev no_notes : AttributeNotes
  no_notes = record { range = None; encoding = None }

  pub attributes_start : Attributes no_notes (node_start l l.nodes) 0
  attributes_start = record { within = omega arith; place = omega arith; format = rw sub-zero; range = noting_start; encoding = noting_start }

  module _ {n : AttributeNotes} {at j : ℕ} (p : Attributes n at j) (h : j < l.attributes) where
    format_at : (b : Bool) → line_right l.width s at 4 ≡ b → attribute_format s l j ≡ b
    unfolding attribute_format
    format_at b e = ap (λ (k : ℕ). line_right l.width s k 4) (sym p.place) ∙ e

    pub attributes_bad : short_line_of l.width s at ≡ None → Err j ≡ attributes_read s l
    unfolding attributes_read
    attributes_bad e = rw (sym p.format ∙ first_wrong_law (attribute_format s l) l.attributes j h (format_at false (short_bad l.width s at e)), attributes_read)

    pub attributes_more : {q : Quad} {next : AttributeNotes} {pool : Bytes} {then : ℕ} → short_line_of l.width s at ≡ Some q → pool ≡ pool_of s l → next ≡ note_attribute pool n j q
        → then ≡ at + attribute_length l.width → Attributes next then (j + 1)
    unfolding note_attribute attribute_range attribute_text
    attributes_more {q} {next} {pool} {then} e of f t =
        let x = short_numbers l.width s at e in
        rw (f, of, x.1 ∙ ap (quad_from l.width s) p.place)
        (record {
          within = omega arith;
          place = omega (arith, t, p.place);
          format = sym (first_right (attribute_format s l) l.attributes j h (format_at true x.0)) ∙ p.format;
          range = noting_more h (λ u. rw (attribute_there s l j h)) p.range;
          encoding = noting_more h (λ u. rw (attribute_there s l j h)) p.encoding;
        })

  pub attributes_end : {n : AttributeNotes} {at j : ℕ} → Attributes n at j → l.attributes ≤ j → Ok n ≡ attributes_read s l
  unfolding attributes_read
  attributes_end {n} {at} {j} p h =
      rw (sym p.format ∙ first_end (attribute_format s l) l.attributes j h, attributes_read)
      (λ k. Ok (record { range = noting_end h p.range k; encoding = noting_end h p.encoding k }))
