-- The bytes of a number, each told and changed by itself.
use Rattle.std.specs.Prelude.{[], ◌∷◌, ℕ, zero, suc, ◌+◌, ◌*◌, ◌/◌, ◌%◌}
use Rattle.common.specs.Bytes.{Bytes}

-- the k lowest bytes of w, each as f has it
unfoldable pub lanes : (ℕ → ℕ) → ℕ → ℕ → ℕ
lanes f zero w = 0
lanes f (suc k) w = lanes f k (w / 256) * 256 + f (w % 256)

-- what holds of each byte
abbrev pub Each : (ℕ → Type 0) → Bytes → Type 0
Each P [] = Unit {0}
Each P (c ∷ s) = P c × Each P s
