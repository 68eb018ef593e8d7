-- RFC 3629, section 3: what a character number is encoded as.
use Rattle.std.specs.Prelude.{◌≡◌, cond, List, [], ◌∷◌, ◌++◌, ℕ, ◌+◌, ◌/◌, ◌%◌, ◌≤◌, leb}
use Rattle.common.specs.Bytes.{Bytes}
use Rattle.utf8.specs.Abnf.{UTF8_octets}

-- "character numbers from U+0000 to U+10FFFF", and "The definition of UTF-8 prohibits encoding character numbers between U+D800 and U+DFFF"
pub record Scalar (c : ℕ) : Type 0 where
  pub most : c ≤ 0x10FFFF
  pub not_surrogate : 0xD800 ≤ c → c ≤ 0xDFFF → ⊥

-- 10xxxxxx, the x being the six bits of c that stand above `unit`
abbrev pub tail : ℕ → ℕ → ℕ
tail c unit = 0b1000_0000 + c / unit % 64

-- Char. number range  | UTF-8 octet sequence
-- 0000 0000-0000 007F | 0xxxxxxx
-- 0000 0080-0000 07FF | 110xxxxx 10xxxxxx
-- 0000 0800-0000 FFFF | 1110xxxx 10xxxxxx 10xxxxxx
-- 0001 0000-0010 FFFF | 11110xxx 10xxxxxx 10xxxxxx 10xxxxxx
unfoldable pub encode : ℕ → Bytes
encode c =
    cond (leb c 0x7F) (c ∷ [])
    (cond (leb c 0x7FF) ((0b1100_0000 + c / 64) ∷ tail c 1 ∷ [])
    (cond (leb c 0xFFFF) ((0b1110_0000 + c / 4096) ∷ tail c 64 ∷ tail c 1 ∷ [])
    ((0b1111_0000 + c / 262144) ∷ tail c 4096 ∷ tail c 64 ∷ tail c 1 ∷ [])))

unfoldable pub encode_all : List ℕ → Bytes
unfolding encode
encode_all [] = []
encode_all (c ∷ cs) = encode c ++ encode_all cs

abbrev pub Scalars : List ℕ → Type 0
Scalars [] = Unit {0}
Scalars (c ∷ cs) = Scalar c × Scalars cs

-- octets that encode scalar values, one after the other
pub record Encoded (s : Bytes) : Type 0 where
  pub scalars : List ℕ
  pub each : Scalars scalars
  pub bytes : s ≡ encode_all scalars

-- the grammar of section 4 accepts exactly the concatenations of encodings of scalar values
pub record GrammarIsEncoding : Type 0 where
  pub decodes : (s : Bytes) → UTF8_octets s → Encoded s
  pub accepts : (s : Bytes) → Encoded s → UTF8_octets s

-- UTF-8 by both sections
pub record UTF8 (s : Bytes) : Type 0 where
  pub grammar : UTF8_octets s
  pub encoded : Encoded s
