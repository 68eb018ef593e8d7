-- Tests joined by or and by and, and a choice by a test: what an outcome says of the whole.
use mathlib.Core.Path.{◌≡◌, refl, sym, ap, ◌∙◌}
use mathlib.Core.Bool.{Bool, true, false, ◌&&◌, ◌||◌, cond}
use Rattle.common.proofs.Choice.{chosen, other, absurd_test}

pub or_left : (a b : Bool) → a ≡ true → (a || b) ≡ true
or_left true b e = refl
or_left false b e = absurd_test e refl

pub or_right : (a b : Bool) → b ≡ true → (a || b) ≡ true
or_right true b e = refl
or_right false b e = e

pub or_cases {ℓ} : {P : Type ℓ} (a b : Bool) → (a ≡ true → P) → (b ≡ true → P) → (a || b) ≡ true → P
or_cases true b f g e = f refl
or_cases false b f g e = g e

pub or_neither : (a b : Bool) → (a || b) ≡ false → (a ≡ false) × (b ≡ false)
or_neither true b e = absurd_test refl e
or_neither false b e = (refl, e)

pub or_mono : (a b c d : Bool) → (a ≡ true → c ≡ true) → (b ≡ true → d ≡ true) → (a || b) ≡ true → (c || d) ≡ true
or_mono a b c d f g = or_cases a b (λ e. or_left c d (f e)) (λ e. or_right c d (g e))

pub or_yes : {a : Bool} (b : Bool) → a ≡ true → true ≡ (a || b)
or_yes b e = sym (ap (λ (q : Bool). q || b) e)

pub or_no : {a r : Bool} (b : Bool) → a ≡ false → r ≡ b → r ≡ (a || b)
or_no b e h = h ∙ sym (ap (λ (q : Bool). q || b) e)

pub and_no : {a : Bool} (b : Bool) → a ≡ false → false ≡ (a && b)
and_no b e = sym (ap (λ (q : Bool). q && b) e)

pub and_yes : {a r : Bool} (b : Bool) → a ≡ true → r ≡ b → r ≡ (a && b)
and_yes b e h = h ∙ sym (ap (λ (q : Bool). q && b) e)

pub cond_yes : {a r x : Bool} (y : Bool) → a ≡ true → r ≡ x → r ≡ cond a x y
cond_yes {a} {x = x} y e h = h ∙ chosen a x y e

pub cond_no : {a r y : Bool} (x : Bool) → a ≡ false → r ≡ y → r ≡ cond a x y
cond_no {a} {y = y} x e h = h ∙ other a x y e
