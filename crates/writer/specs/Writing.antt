-- A text that is written into a lent buffer, or only measured: what the writer's numbers and the buffer say of it,
-- and what a function that writes asks for and promises.
use Rattle.std.specs.Prelude.{◌≡◌, Bool, true, false, cond, ℕ, ◌+◌, ◌≤◌, ◌<◌, eqb, length, take}
use Rattle.std.proofs.lemmas.List.Edits.{sets}
use Rattle.common.specs.Bytes.{Bytes, length_limit}
use Rattle.text.specs.Text.{is_space, rstrip, rstrip_by}
use Rattle.writer.specs.Out.{Out, greater}
use Rattle.writer.specs.declared.Writer.{Writer}

-- Room for k bytes. The bound keeps sums of lengths below 2^64.
pub record Room (write : Bool) (under : Bytes) (k : ℕ) : Type 0 where
  pub small : k < length_limit
  pub fits : write ≡ true → k ≤ length under

-- over any set of blanks
module _ (blank : ℕ → Bool) where
  -- The numbers w and the buffer buf stand for the text o. Where `write`, the buffer begins with it; else it is as it was, `under`.
  pub record HeldBy (write : Bool) (under : Bytes) (w : Writer) (buf : Bytes) (o : Out) : Type 0 where
    pub len : w.len ≡ length o.text
    pub kept : w.kept ≡ length (rstrip_by blank o.text)
    pub peak : w.peak ≡ o.peak
    pub below : length o.text ≤ o.peak
    pub long : length buf ≡ length under
    pub text : write ≡ true → take (length o.text) buf ≡ o.text
    pub still : write ≡ false → buf ≡ under

  -- The numbers and the buffer stand for a text, and there is room for what F makes of it.
  pub record ReadyBy (write : Bool) (w : Writer) (buf : Bytes) (F : Out → Out) : Type 0 where
    pub under : Bytes
    pub out : Out
    pub held : HeldBy write under w buf out
    pub room : Room write under (F out).peak

  -- Of every text that the numbers and the buffer stand for at first, they stand for F of it at last.
  pub record DoesBy (write : Bool) (w : Writer) (buf : Bytes) (w' : Writer) (buf' : Bytes) (F : Out → Out) : Type 0 where
    pub run : (under : Bytes) (o : Out) → HeldBy write under w buf o → HeldBy write under w' buf' (F o)

abbrev pub Held : Bool → Bytes → Writer → Bytes → Out → Type 0
Held = HeldBy is_space

abbrev pub Ready : Bool → Writer → Bytes → (Out → Out) → Type 0
Ready = ReadyBy is_space

abbrev pub Does : Bool → Writer → Bytes → Writer → Bytes → (Out → Out) → Type 0
Does = DoesBy is_space

-- the numbers after n bytes more, of which k are left without the blanks at their end
abbrev pub grown : Writer → ℕ → ℕ → Writer
grown w n k = record { len = w.len + n; kept = cond (eqb k 0) w.kept (w.len + k); peak = greater w.peak (w.len + n) }

-- the numbers without the blanks at the end
abbrev pub trimmed : Writer → Writer
trimmed w = record { len = w.kept; kept = w.kept; peak = w.peak }

-- the buffer after a run of bytes
abbrev pub stored : Bool → Bytes → ℕ → Bytes → Bytes
stored write buf at s = cond write (sets buf at s) buf

-- ---- by numbers alone, along a text

-- room for the bytes t from `at` on
pub record RoomAt (write : Bool) (buf : Bytes) (at : ℕ) (t : Bytes) : Type 0 where
  pub small : at + length t < length_limit
  pub fits : write ≡ true → at + length t ≤ length buf

-- the bytes t from `at` on; `past` is the place behind them
pub record StoredAt (write : Bool) (buf : Bytes) (at : ℕ) (t buf' : Bytes) (past : ℕ) : Type 0 where
  pub bytes : buf' ≡ stored write buf at t
  pub place : past ≡ at + length t

-- the place behind the last of them that is no blank, or as it was before
abbrev pub kept_at : ℕ → ℕ → Bytes → ℕ
kept_at kept at t = cond (eqb (length (rstrip t)) 0) kept (at + length (rstrip t))
