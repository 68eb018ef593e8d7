-- What holds of the state as long as no entry is refused.
use mathlib.Core.Path.{◌≡◌, subst}
use mathlib.Core.Bool.{Bool, false}
use Rattle.common.proofs.Choice.{by_cond}
use Rattle.options.specs.declared.Formatting.{Formatting}
use Rattle.html2text.specs.Bounds.{Going}
use Rattle.html2text.specs.Collect.{Entry}
use Rattle.html2text.specs.Extract.{Run, going, too_many_levels, too_many_rows, passes_levels, passes_rows, taken}
use Rattle.html2text.specs.Serialize.{State, step}

pub going_at : (P : State → Type 0) {R : Run} {S : State} → Going P R → R ≡ going S → P S
going_at P g e = subst (Going P) e g

pub going_more : (P Q : State → Type 0) → ((S : State) → P S → Q S) → (R : Run) → Going P R → Going Q R
going_more P Q f (going S) g = f S g
going_more P Q f (too_many_levels line) g = tt
going_more P Q f (too_many_rows line) g = tt

-- an entry is taken only where it passes neither limit
pub going_taken : (P Q : State → Type 0) (f : Formatting) (bullets : Bool) (e : Entry) (R : Run)
    → ((S : State) → passes_levels f e.node S ≡ false → passes_rows e.node S ≡ false → P S → Q (step f bullets e.node e.text S))
    → Going P R → Going Q (taken f bullets e R)
going_taken P Q f bullets e (going S) s g =
    by_cond (Going Q) (passes_levels f e.node S) (λ a. tt) (λ a. by_cond (Going Q) (passes_rows e.node S) (λ b. tt) (λ b. s S a b g))
going_taken P Q f bullets e (too_many_levels line) s g = tt
going_taken P Q f bullets e (too_many_rows line) s g = tt
