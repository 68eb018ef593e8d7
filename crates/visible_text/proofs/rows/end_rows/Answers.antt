-- `end_rows` meets its contract.
use mathlib.Core.Path.{◌≡◌, refl}
use mathlib.Core.List.{List}
use Prim.Native.Nat.{ℕ, suc, ◌-◌, ◌≤◌, ◌<◌}
use native.Mathlib.Omega.{arith}
use lib.ListN.{get_or}
use Rattle.writer.specs.Out.{Out}
use Rattle.visible_text.specs.Inner.{insert_by, ends_of}
use Rattle.visible_text.proofs.LeftLaws.{left_start, left_more, left_part, left_done, left_length}
use Rattle.visible_text.proofs.RiseLaws.{ends_rise}
use Rattle.visible_text.proofs.rows.end_rows.Goals as goal

-- one end step, and those that are left
ends_more : (steps : List ℕ) (n left : ℕ) → left < n → (o : Out)
    → ends_of steps n (n - left) o ≡ ends_of steps (n - 1) (n - 1 - left) (insert_by (get_or steps (n - 1) 0) o)
unfolding ends_of
ends_more steps n left h o = let e : n - left ≡ suc (n - 1 - left) = omega arith in rw e

ends_none : (steps : List ℕ) (n left : ℕ) → n ≤ left → (o : Out) → ends_of steps n (n - left) o ≡ o
unfolding ends_of
ends_none steps n left h o = let e : n - left ≡ 0 = omega arith in rw e

pub loop-n-init : goal.loop-n-init
loop-n-init c = left_start _ (λ o. refl)

pub insert_block-q-requires : goal.insert_block-q-requires
insert_block-q-requires c =
    left_part c.loop-n.invariant _ _ (ends_more _ _ _ c.loop-n-test.true) (ends_rise _ _ _)
    c.requires.1

pub loop-n-preserved : goal.loop-n-preserved
loop-n-preserved c = left_more c.loop-n.invariant _ c.insert_block-q.ensures (ends_more _ _ _ c.loop-n-test.true)

pub shape_of-out : goal.shape_of-out
shape_of-out c = left_length c.loop-n.invariant c.requires.1

pub returns : goal.returns
returns c = left_done c.loop-n.invariant (ends_none _ _ _ c.loop-n-test.false)
