-- `is_ascii` meets its contract.
use mathlib.Core.Path.{sym, ap, ◌∙◌}
use Prim.Native.Nat.{ℕ}
use lib.Bits.{bit_and}
use borrow.Author.Tests.{eqb-true}
use Rattle.utf8.proofs.Words.{word_ascii}
use Rattle.utf8.proofs.is_ascii.Goals as goal

pub returns : goal.returns
returns c = λ t. word_ascii c.args.s.now (λ k. (c.type_inv.s k).fits) c.args.i (ap (λ (w : ℕ). bit_and w 0x8080808080808080) (sym c.word_at.ensures) ∙ eqb-true _ 0 t)
