-- What the functions that put a text of the sheet promise: its bytes, the places behind them, the blank before what follows, and how many
-- bytes were read.
use Rattle.std.specs.Prelude.{◌≡◌, Bool, false, cond, ℕ, ◌+◌, ◌≤◌, ◌<◌, eqb, ltb, length, drop, get_or}
use Rattle.common.specs.Bytes.{Bytes}
use Rattle.common.specs.Word.{octets}
use Rattle.text.specs.Text.{is_space, space_after, trim_start_by}
use Rattle.writer.specs.Out.{push_all}
use Rattle.writer.specs.Plain.{last_octet}
use Rattle.writer.specs.Shown.{shown_times}
use Rattle.writer.specs.Writing.{Does, StoredAt, kept_at}
use Rattle.writer.specs.declared.Writer.{Writer}
use Rattle.writer.specs.declared.texts.First.{First}
use Rattle.writer.specs.declared.texts.Places.{Places}
use Rattle.writer.specs.declared.texts.Put.{Put}

-- `t` is shown from `at` on; `read` bytes are read then
pub record PutsRead (write squeeze space : Bool) (times : ℕ) (buf : Bytes) (at kept : ℕ) (t : Bytes) (read : ℕ) (buf' : Bytes) (r : Places) : Type 0 where
  pub stores : StoredAt write buf at (shown_times squeeze space times t) buf' r.past
  pub kept_is : r.kept ≡ kept_at kept at (shown_times squeeze space times t)
  pub space_is : r.space ≡ space_after is_space space t
  pub read_is : r.read ≡ read

-- each of its bytes is read once
abbrev pub PutsPart : Bool → Bool → Bool → ℕ → Bytes → ℕ → ℕ → Bytes → Bytes → Places → Type 0
PutsPart write squeeze space times buf at kept t buf' r = PutsRead write squeeze space times buf at kept t (length t) buf' r

-- eight bytes that stand as they are, of which at most the last is a blank of those at their end
pub record PutsPlain (write : Bool) (buf : Bytes) (at word read : ℕ) (buf' : Bytes) (r : Places) : Type 0 where
  pub stores : StoredAt write buf at (octets 8 word) buf' r.past
  pub kept_is : r.kept ≡ at + cond (eqb (last_octet word) 0x20) 7 8
  pub space_is : r.space ≡ eqb (last_octet word) 0x20
  pub read_is : r.read ≡ read

-- the first byte that is shown, read with all before it; where `trim`, blanks in front are not shown
pub record BeginsAt (trim : Bool) (s : Bytes) (r : First) : Type 0 where
  pub within : r.at ≤ length s
  pub rest : drop r.at s ≡ cond trim (trim_start_by is_space s) s
  pub byte_is : r.at < length s → r.byte ≡ get_or s r.at 0
  pub read_is : r.read ≡ r.at + cond (ltb r.at (length s)) 1 0

-- the text from its first byte on, which is in hand
pub record PutsText (write squeeze : Bool) (times : ℕ) (w : Writer) (buf s : Bytes) (first : First) (r : Put) (buf' : Bytes) : Type 0 where
  pub does : Does write w buf r.writer buf' (push_all (shown_times squeeze false times (drop first.at s)))
  pub space_is : r.space ≡ space_after is_space false (drop first.at s)
  pub read_is : r.read + (first.at + 1) ≡ first.read + length s
