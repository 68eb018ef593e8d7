-- A part of the buffer that becomes the bytes of a run; eight bytes of a number, as the library has them.
use mathlib.Core.Path.{◌≡◌, sym}
use mathlib.Core.List.{◌++◌}
use Prim.Native.Nat.{ℕ, ◌+◌, ◌-◌, ◌≤◌}
use native.Mathlib.Nat.{div-div-eq-div-mul}
use native.Mathlib.Omega.{arith}
use lib.ListN.{length, take, drop}
use lib.Seq.{sets, sets-eq, drop-drop}
use Rattle.std.proofs.Common.{append_assoc}
use Rattle.std.specs.Int.{w64, to_le_bytes}
use Rattle.common.specs.Bytes.{Bytes}
use Rattle.common.specs.Word.{octets}

pub part_stored : (out t : Bytes) (at n : ℕ) → length t ≡ n → at + n ≤ length out
    → take at out ++ (t ++ drop (at + n - at) (drop at out)) ≡ sets out at t
part_stored out t at n e h =
    let m : at + n - at ≡ length t = omega arith in
    let k : at + length t ≤ length out = omega arith in
    rw (m, drop-drop (length t) at out, ← append_assoc) (sym (sets-eq t out at k))

pub octets_bytes : (w : ℕ) → octets 8 w ≡ to_le_bytes w64 w
unfolding octets
octets_bytes w = simp div-div-eq-div-mul
