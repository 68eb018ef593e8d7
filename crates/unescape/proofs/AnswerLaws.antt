-- A text that is measured, and then refused or written: the answer and the output are those of `unescaped_in` and `unescaped_out`.
use mathlib.Core.Path.{◌≡◌, refl, sym, ◌∙◌}
use mathlib.Core.List.{◌++◌}
use Prim.Native.Nat.{ℕ, ◌-◌, ◌≤◌}
use native.Mathlib.Nat.{zero-add}
use native.Mathlib.Omega.{arith}
use lib.ListN.{length, take, replicate}
use borrow.Author.Tests.{le-ltb}
use Rattle.std.specs.Prelude.{Result, Ok, Option, None, Some}
use Rattle.common.specs.Bytes.{Bytes}
use Rattle.common.specs.Puts.{Puts}
use Rattle.common.proofs.Puts.{puts_length, puts_padded}
use Rattle.unescape.specs.Answers.{answered_in, holding}
use Rattle.unescape.specs.Inner.{measure}
use Rattle.unescape.specs.Unescape.{Reading, text, no_entity_from, unescaped, reading_by, unescape}
use Rattle.unescape.specs.declared.UnescapeError.{UnescapeError}

-- the answer and the output of a reading
abbrev Said : Reading → Bytes → Result ℕ UnescapeError → Bytes → Type 0
Said reading out r after = (r ≡ answered_in reading (length out)) × (after ≡ holding reading out)

-- a text that is measured is the one that is read back
read_back : (o : Option ℕ) (t : Bytes) {need : ℕ} → measure (reading_by o t) ≡ Ok need → (reading_by o t ≡ text t) × (need ≡ length t)
read_back None t e = (refl, cc)
read_back (Some at) t e = cc

module _ (s out : Bytes) {r : Result ℕ UnescapeError} (e : r ≡ measure (unescape s)) where
  module _ {need : ℕ} (f : r ≡ Ok need) where
    read : (unescape s ≡ text (unescaped s)) × (need ≡ length (unescaped s))
    unfolding unescape
    read = read_back (no_entity_from 0 s) (unescaped s) (sym e ∙ f)

    pub answer_fits : need ≤ length out → length (unescaped s) ≤ length out
    answer_fits h = omega (arith, read.1)

    pub answer_ends : {after : Bytes} {n : ℕ} → need ≤ length out → Puts out 0 (unescaped s) after n → n ≤ length after
    answer_ends h p = omega (arith, answer_fits h, p.place, puts_length p)

    pub answer_written : {after final : Bytes} {n : ℕ} → need ≤ length out → Puts out 0 (unescaped s) after n
        → final ≡ take n after ++ replicate (length after - n) 0 → Said (unescape s) out (Ok n) final
    answer_written h p q =
        let t = le-ltb (length out) (length (unescaped s)) (answer_fits h) in
        rw (read.0, t, p.place, zero-add) (refl, q ∙ puts_padded p (answer_fits h))
