-- What a slot says of the attribute that it holds.
use Rattle.std.specs.Prelude.{Option, None, Some, is_some}
use mathlib.Core.Path.{◌≡◌, refl, sym, ap, ◌∙◌}
use mathlib.Core.Bool.{Bool, true, false, ◌||◌}
use mathlib.Core.List.{List, []}
use Prim.Native.Nat.{ℕ, ◌≤◌}
use native.Mathlib.Omega.{arith}
use lib.ListN.{get_or, length, length-take}
use Rattle.common.specs.Bytes.{Bytes}
use Rattle.common.proofs.Choice.{absurd_test}
use Rattle.common.proofs.TestLaws.{or_yes}
use Rattle.sheet.specs.Accepted.{Accepted}
use Rattle.sheet.specs.Layout.{pool_limit}
use Rattle.sheet.specs.declared.line.Layout.{Layout}
use Rattle.tags.specs.Words.{one_of}
use Rattle.text.specs.Text.{trim, trim_by, trim_start_by, rstrip_by}
use Rattle.tree.specs.Attributes.{value_in, RangeInside}
use Rattle.tree.specs.Node.{is_there, or_empty}
use Rattle.tree.specs.declared.attributes.Span.{Span}
use Rattle.filters.specs.Gathered.{slot_value}

pub absent_among : (s : Bytes) (l : Layout) (a : Option Span) (ws : List Bytes) → is_some a ≡ false → one_of [] ws ≡ false → false ≡ one_of (trim (slot_value s l a)) ws
unfolding trim_by trim_start_by rstrip_by
absent_among s l None ws h e = sym e
absent_among s l (Some v) ws h e = absurd_test refl h

-- a value is at most the pool
pub slot_short : (s : Bytes) (l : Layout) → Accepted s l → (a : Option Span) → RangeInside l a → {v : Bytes} → v ≡ slot_value s l a → length v ≤ pool_limit l.width
slot_short s l w None h e = rw e (omega arith)
slot_short s l w (Some v) h e = rw e (simp length-take (omega (arith, w.sized.pool)))

there : (s : Bytes) (l : Layout) (a : Option Span) → is_some a ≡ is_there (value_in s l a)
there s l None = refl
there s l (Some v) = refl

-- slot k holds an attribute
pub there_is : (s : Bytes) (l : Layout) (slots : List (Option Span)) (k : ℕ) {v : Option Bytes}
    → value_in s l (get_or slots k None) ≡ v → {b : Bool} → b ≡ is_some (get_or slots k None) → b ≡ is_there v
there_is s l slots k e b_is = b_is ∙ there s l (get_or slots k None) ∙ ap is_there e

-- x, which a slot holds, is an attribute
module _ {x v : Option Bytes} (e : x ≡ v) where
  pub among_held : (ws : List Bytes) {r : Bool} → r ≡ one_of (trim (or_empty x)) ws → r ≡ one_of (trim (or_empty v)) ws
  among_held ws p = p ∙ ap (λ (y : Option Bytes). one_of (trim (or_empty y)) ws) e

  pub value_held : {text : Bytes} → text ≡ or_empty x → text ≡ or_empty v
  value_held p = p ∙ ap or_empty e

-- ---- tests that are joined from the left: what an outcome so far says of the next

pub so_far : {v a : Bool} (b : Bool) → v ≡ a → a ≡ true → v ≡ (a || b)
so_far b p e = p ∙ e ∙ or_yes b e

four : (h a b c : Bool) → (((h || a) || b) || c) ≡ (h || (a || (b || c)))
four true a b c = refl
four false true b c = refl
four false false b c = refl

pub joined_four : (h a b c : Bool) {first v w r : Bool} → first ≡ h → v ≡ (first || a) → w ≡ (v || b) → r ≡ (w || c) → r ≡ (h || (a || (b || c)))
joined_four h a b c e p q t = rw (t, q, p, e) (four h a b c)

pub joined_five : (h a b c d : Bool) {first v w x r : Bool} → first ≡ h → v ≡ (first || a) → w ≡ (v || b) → x ≡ (w || c) → r ≡ (x || d) → r ≡ (h || (a || (b || (c || d))))
joined_five h a b c d e p q s t = t ∙ ap (λ (y : Bool). y || d) (joined_four h a b c e p q s) ∙ shifted h a b c d
  where
    shifted : (h a b c d : Bool) → ((h || (a || (b || c))) || d) ≡ (h || (a || (b || (c || d))))
    shifted true a b c d = refl
    shifted false true b c d = refl
    shifted false false true c d = refl
    shifted false false false c d = refl
