-- A text that is written: the answer and the buffer are those of `written_in` and `out_after`.
use mathlib.Core.Path.{◌≡◌, ◌∙◌}
use mathlib.Core.List.{◌++◌}
use Prim.Native.Nat.{ℕ, ◌-◌, ◌≤◌}
use native.Mathlib.Nat.{zero-add}
use lib.ListN.{length, take, replicate}
use borrow.Author.Tests.{le-ltb}
use Rattle.common.specs.Answer.{written, written_in, out_after}
use Rattle.common.specs.Bytes.{Bytes}
use Rattle.common.specs.Puts.{Puts}
use Rattle.common.proofs.Puts.{puts_padded}

module _ (text out : Bytes) where
  pub answer_written : {after final : Bytes} {n : ℕ} → length text ≤ length out → Puts out 0 text after n → final ≡ take n after ++ replicate (length after - n) 0
      → (written n ≡ written_in text (length out)) × (final ≡ out_after text out)
  answer_written h p e =
      let t = le-ltb (length out) (length text) h in
      (rw (t, p.place, zero-add), rw t (e ∙ puts_padded p h))
