-- Octets that are one character (RFC 3629, section 3).
use Rattle.std.specs.Prelude.{◌≡◌, Bool, true, ◌&&◌, [], ◌∷◌, ℕ, ◌+◌, ◌*◌, ◌%◌}
use Rattle.common.specs.Bytes.{Bytes, same}
use Rattle.utf8.specs.Encoding.{encode}

-- "Decoding a UTF-8 character": the bits x of the octets, put together; of more than four octets, those of the first four
abbrev pub number : Bytes → ℕ
number [] = 0
number (a ∷ []) = a % 128
number (a ∷ b ∷ []) = a % 32 * 64 + b % 64
number (a ∷ b ∷ c ∷ []) = a % 16 * 4096 + b % 64 * 64 + c % 64
number (a ∷ b ∷ c ∷ d ∷ s) = a % 8 * 262144 + b % 64 * 4096 + c % 64 * 64 + d % 64

-- octets that encode one character, and one that `test` takes
unfoldable pub is_character : (ℕ → Bool) → Bytes → Bool
unfolding encode
is_character test s = same s (encode (number s)) && test (number s)

-- the character that they encode
pub record OneCharacter (test : ℕ → Bool) (s : Bytes) : Type 0 where
  pub value : ℕ
  pub taken : test value ≡ true
  pub bytes : s ≡ encode value
