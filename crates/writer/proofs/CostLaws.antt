-- How far a function that writes can raise the greatest length.
use mathlib.Core.Path.{ap}
use mathlib.Core.Bool.{Bool, cond}
use Prim.Native.Nat.{ℕ, ◌+◌, ◌≤◌}
use native.Mathlib.Omega.{arith}
use lib.ListN.{length, length-append}
use Rattle.common.specs.Bytes.{Bytes}
use Rattle.common.proofs.Choice.{by_cond}
use Rattle.text.proofs.TrimLaws.{rstrip_length}
use Rattle.writer.specs.Out.{Out, greater, push_all, strip_by}
use Rattle.writer.proofs.OutLaws.{greater_max, push_all_text, push_all_peak}

-- by at most c; and the length stays at most the greatest
pub record Costs (F : Out → Out) (c : ℕ) : Type 0 where
  pub below : (o : Out) → length o.text ≤ o.peak → length (F o).text ≤ (F o).peak
  pub most : (o : Out) → length o.text ≤ o.peak → (F o).peak ≤ o.peak + c

pub costs_none : Costs (λ o. o) 0
costs_none = record { below = λ o h. h; most = λ o h. omega arith }

pub costs_push_all : (s : Bytes) → Costs (push_all s) (length s)
costs_push_all s =
    record {
      below = λ o h. omega (arith, ap length (push_all_text s o), length-append o.text s, push_all_peak s o h, greater_max o.peak (length o.text + length s));
      most = λ o h. omega (arith, push_all_peak s o h, greater_max o.peak (length o.text + length s));
    }

pub costs_strip : (blank : ℕ → Bool) → Costs (strip_by blank) 0
unfolding strip_by
costs_strip blank = record { below = λ o h. omega (arith, rstrip_length blank o.text); most = λ o h. omega arith }

pub costs_then : {F G : Out → Out} {c d : ℕ} → Costs F c → Costs G d → Costs (λ o. G (F o)) (c + d)
costs_then {F} a b = record { below = λ o h. b.below (F o) (a.below o h); most = λ o h. omega (arith, a.most o h, b.most (F o) (a.below o h)) }

pub costs_cond : {F G : Out → Out} {c d : ℕ} (t : Out → Bool) → Costs F c → Costs G d → Costs (λ o. cond (t o) (F o) (G o)) (greater c d)
costs_cond {c = c} {d = d} t a b =
    let m = greater_max c d in
    record {
      below = λ o h. by_cond (λ (x : Out). length x.text ≤ x.peak) (t o) (λ e. a.below o h) (λ e. b.below o h);
      most = λ o h. by_cond (λ (x : Out). x.peak ≤ o.peak + greater c d) (t o) (λ e. omega (arith, a.most o h)) (λ e. omega (arith, b.most o h));
    }

-- more is enough
pub costs_more : {F : Out → Out} {c d : ℕ} → c ≤ d → Costs F c → Costs F d
costs_more le a = record { below = a.below; most = λ o h. omega (arith, a.most o h) }
