-- Lines read in parts: four numbers, then four more, then LF.
use Rattle.std.specs.Prelude.{Some, None}
use mathlib.Core.Path.{◌≡◌, refl}
use mathlib.Core.Bool.{Bool, true, false, ◌&&◌, cond}
use Prim.Native.Nat.{ℕ}
use lib.ListN.{get_or}
use borrow.Author.Tests.{eq-eqb, ne_eqb}
use Rattle.common.specs.Bytes.{Bytes}
use Rattle.sheet.specs.Lines.{numbers_right, after, is_number, field_at, quad_from, row_of, four_of, short_line_of, node_line_of}
use Rattle.sheet.specs.declared.line.Quad.{Quad}

module _ (w : ℕ) (s : Bytes) (at : ℕ) where
  pub short_no_end : (get_or s (after w at 4) 0 ≡ 10 → ⊥) → None ≡ short_line_of w s at
  unfolding short_line_of
  short_no_end h = simp (ne_eqb _ _ h)

  pub short_end : get_or s (after w at 4) 0 ≡ 10 → four_of w s at ≡ short_line_of w s at
  unfolding short_line_of four_of
  short_end h = simp (eq-eqb _ _ h)

  eight : numbers_right w s at 8 ≡ (numbers_right w s at 4 && numbers_right w s (after w at 4) 4)
  eight = go (is_number (field_at w s at)) (is_number (field_at w s (after w at 1))) (is_number (field_at w s (after w at 2))) (is_number (field_at w s (after w at 3))) (numbers_right w s (after w at 4) 4)
    where
      go : (a b c d e : Bool) → (a && (b && (c && (d && e)))) ≡ ((a && (b && (c && (d && true)))) && e)
      go true true true true e = refl
      go true true true false e = refl
      go true true false d e = refl
      go true false c d e = refl
      go false b c d e = refl

  -- four numbers, or none
  four_right : (x : Quad) → four_of w s at ≡ Some x → (numbers_right w s at 4 ≡ true) × (x ≡ quad_from w s at)
  unfolding four_of
  four_right x e = go (numbers_right w s at 4) refl e
    where
      go : (b : Bool) → numbers_right w s at 4 ≡ b → cond b (Some (quad_from w s at)) None ≡ Some x → (numbers_right w s at 4 ≡ true) × (x ≡ quad_from w s at)
      go true q f = (q, (cc))
      go false q f = ((cc), (cc))

  four_wrong : four_of w s at ≡ None → numbers_right w s at 4 ≡ false
  unfolding four_of
  four_wrong e = go (numbers_right w s at 4) refl e
    where
      go : (b : Bool) → numbers_right w s at 4 ≡ b → cond b (Some (quad_from w s at)) None ≡ None → numbers_right w s at 4 ≡ false
      go true q f = cc
      go false q f = q

module _ (w : ℕ) (s : Bytes) (at : ℕ) where
  pub node_no_end : (get_or s (after w at 8) 0 ≡ 10 → ⊥) → None ≡ node_line_of w s at
  unfolding node_line_of
  node_no_end h = simp (ne_eqb _ _ h)

  module _ (h : get_or s (after w at 8) 0 ≡ 10) where
    pub node_first_bad : four_of w s at ≡ None → None ≡ node_line_of w s at
    unfolding node_line_of
    node_first_bad e = rw (eq-eqb _ _ h, eight w s at, four_wrong w s at e)

    pub node_second_bad : (x : Quad) → four_of w s at ≡ Some x → four_of w s (after w at 4) ≡ None → None ≡ node_line_of w s at
    unfolding node_line_of
    node_second_bad x e f = rw (eq-eqb _ _ h, eight w s at, (four_right w s at x e).0, four_wrong w s (after w at 4) f)

    pub node_numbers : (x y : Quad) → four_of w s at ≡ Some x → four_of w s (after w at 4) ≡ Some y → Some (row_of x y) ≡ node_line_of w s at
    unfolding node_line_of
    node_numbers x y e f =
        let p = four_right w s at x e in
        let q = four_right w s (after w at 4) y f in
        rw (eq-eqb _ _ h, eight w s at, p.0, q.0, p.1, q.1)
