-- Eight bytes that are shown as they are.
use Rattle.std.specs.Prelude.{◌≡◌, Bool, cond, ℕ, ◌/◌, eqb, length}
use Rattle.common.specs.Word.{octets}
use Rattle.text.specs.Text.{is_space, rstrip, space_after}
use Rattle.writer.specs.Shown.{shown_times}

-- 0x80 for U+0020
abbrev pub mark : ℕ → ℕ
mark c = cond (eqb c 0x20) 0x80 0

-- the last of the eight bytes of w
abbrev pub last_octet : ℕ → ℕ
last_octet w = w / 0x100000000000000

-- `space`: a blank stands before them. At most their last byte is a blank of those at their end, and then it is U+0020.
pub record Plain (squeeze space : Bool) (times w : ℕ) : Type 0 where
  pub same : shown_times squeeze space times (octets 8 w) ≡ octets 8 w
  pub kept : length (rstrip (octets 8 w)) ≡ cond (eqb (last_octet w) 0x20) 7 8
  pub last : space_after is_space space (octets 8 w) ≡ eqb (last_octet w) 0x20
