-- Eight bytes as one number, and a number as bytes.
use Rattle.std.specs.Prelude.{[], ◌∷◌, ℕ, zero, suc, ◌+◌, ◌*◌, ◌/◌, ◌%◌, get_or}
use Rattle.common.specs.Bytes.{Bytes}

-- the eight bytes at `at`, the first the lowest
unfoldable pub word_at : Bytes → ℕ → ℕ
word_at s at =
    ((((((get_or s (at + 7) 0 * 256 + get_or s (at + 6) 0) * 256 + get_or s (at + 5) 0) * 256 + get_or s (at + 4) 0) * 256 + get_or s (at + 3) 0) * 256 + get_or s (at + 2) 0) * 256 + get_or s (at + 1) 0) * 256
    + get_or s at 0

-- the k lowest bytes of w, the lowest first
unfoldable pub octets : ℕ → ℕ → Bytes
octets zero w = []
octets (suc k) w = w % 256 ∷ octets k (w / 256)
