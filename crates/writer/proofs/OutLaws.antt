-- A text that is written byte by byte: what a run of bytes makes of it, and of its greatest length.
use mathlib.Core.Path.{◌≡◌, refl, sym, ◌∙◌}
use mathlib.Core.List.{[], ◌∷◌, ◌++◌, append-nil, append_assoc}
use Prim.Native.Nat.{ℕ, suc, ◌+◌, ◌≤◌, max}
use native.Mathlib.Omega.{arith}
use lib.Dec.{ltb}
use lib.ListN.{length, length-append}
use borrow.Author.Tests.{ltb-true, ltb-false}
use Rattle.common.specs.Bytes.{Bytes}
use Rattle.common.proofs.Choice.{by_cond}
use Rattle.writer.specs.Out.{Out, greater, push, push_all}

pub greater_max : (a b : ℕ) → greater a b ≡ max a b
unfolding greater
greater_max a b = by_cond (λ (n : ℕ). n ≡ max a b) (ltb a b) (λ e. omega (arith, ltb-true a b e)) (λ e. omega (arith, ltb-false a b e))

pub push_all_append : (s t : Bytes) (o : Out) → push_all (s ++ t) o ≡ push_all t (push_all s o)
unfolding push_all
push_all_append [] t o = refl
push_all_append (c ∷ s) t o = push_all_append s t (push c o)

pub push_all_text : (s : Bytes) (o : Out) → (push_all s o).text ≡ o.text ++ s
unfolding push_all push
push_all_text [] o = sym (append-nil o.text)
push_all_text (c ∷ s) o = push_all_text s (push c o) ∙ append_assoc o.text (c ∷ []) s

pub push_all_peak : (s : Bytes) (o : Out) → length o.text ≤ o.peak → (push_all s o).peak ≡ greater o.peak (length o.text + length s)
unfolding push_all push
push_all_peak [] o h = omega (arith, greater_max o.peak (length o.text + 0))
push_all_peak (c ∷ s) o h =
    let n = length-append o.text (c ∷ []) in
    let m = greater_max o.peak (length o.text + 1) in
    push_all_peak s (push c o) (omega arith)
    ∙ omega (arith, greater_max (greater o.peak (length o.text + 1)) (length (o.text ++ c ∷ []) + length s), greater_max o.peak (length o.text + suc (length s)))

-- the greatest length never falls
pub push_all_rises : (s : Bytes) (o : Out) → o.peak ≤ (push_all s o).peak
unfolding push_all push
push_all_rises [] o = omega arith
push_all_rises (c ∷ s) o = omega (arith, push_all_rises s (push c o), greater_max o.peak (length o.text + 1))
