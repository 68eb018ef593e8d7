-- Parts of a list, as a part of a slice has them.
use mathlib.Core.Path.{◌≡◌, ap}
use Prim.Native.Nat.{ℕ, ◌+◌, ◌-◌, ◌≤◌}
use native.Mathlib.Omega.{arith}
use lib.ListN.{length, take, drop, length-take, length-drop}
use lib.Seq.{take_all}
use Rattle.common.specs.Bytes.{Bytes}

-- the part from a on, `&s[a..]`
pub part_from : (s : Bytes) (a : ℕ) → take (length s - a) (drop a s) ≡ drop a s
part_from s a = take_all (length s - a) (drop a s) (simp length-drop (omega arith))

-- a part of n elements from a on, `&s[a..a + n]`, has n elements
pub part_length : (s : Bytes) (a n : ℕ) → a + n ≤ length s → length (take n (drop a s)) ≡ n
part_length s a n h = simp (length-take, length-drop) (omega arith)

-- `&s[a..a + n]`, the end as the code has it
pub part_to : (s : Bytes) (a n : ℕ) → take (a + n - a) (drop a s) ≡ take n (drop a s)
part_to s a n = let e : a + n - a ≡ n = omega arith in ap (λ (k : ℕ). take k (drop a s)) e
