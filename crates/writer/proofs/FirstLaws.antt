-- The first byte of a text that is shown: what is left of the text where the blanks in front go.
use mathlib.Core.Path.{◌≡◌, refl}
use mathlib.Core.Bool.{Bool, true, false, ◌&&◌, cond}
use Prim.Native.Nat.{ℕ, ◌+◌, ◌≤◌, ◌<◌}
use lib.ListN.{length, drop, get_or}
use Rattle.common.specs.Bytes.{Bytes}
use Rattle.common.proofs.Choice.{absurd_test}
use Rattle.text.specs.Text.{is_space, trim_start_by}
use Rattle.text.proofs.TrimLaws.{trim_start_blank, trim_start_other, trim_start_end}

abbrev pub trimmed_if : Bool → Bytes → Bytes
trimmed_if trim s = cond trim (trim_start_by is_space s) s

pub first_more : (trim : Bool) (s : Bytes) (i : ℕ) → i < length s → (trim && is_space (get_or s i 0)) ≡ true → trimmed_if trim (drop i s) ≡ trimmed_if trim (drop (i + 1) s)
first_more true s i h e = trim_start_blank is_space s i h e
first_more false s i h e = absurd_test e refl

pub first_found : (trim : Bool) (s : Bytes) (i : ℕ) → i < length s → (trim && is_space (get_or s i 0)) ≡ false → trimmed_if trim (drop i s) ≡ drop i s
first_found true s i h e = trim_start_other is_space s i h e
first_found false s i h e = refl

pub first_none : (trim : Bool) (s : Bytes) (i : ℕ) → length s ≤ i → trimmed_if trim (drop i s) ≡ drop i s
first_none true s i h = trim_start_end is_space s i h
first_none false s i h = refl
