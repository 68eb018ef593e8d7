-- A text that is written byte by byte, with the greatest length that it ever had (document 01, 31 and 32).
use Rattle.std.specs.Prelude.{Bool, cond, [], ◌∷◌, ◌++◌, ℕ, ◌+◌, ltb, length}
use Rattle.common.specs.Bytes.{Bytes}
use Rattle.text.specs.Text.{is_space, rstrip_by}

-- `a.max(b)`
unfoldable pub greater : ℕ → ℕ → ℕ
greater a b = cond (ltb a b) b a

pub record Out : Type 0 where
  pub text : Bytes
  pub peak : ℕ

abbrev pub nothing : Out
nothing = record { text = []; peak = 0 }

-- `out.push(c)`
unfoldable pub push : ℕ → Out → Out
push c o = record { text = o.text ++ (c ∷ []); peak = greater o.peak (length o.text + 1) }

-- `out.push_str(s)`, `out.extend(..)`: one byte after the other
unfoldable pub push_all : Bytes → Out → Out
push_all [] o = o
push_all (c ∷ s) o = push_all s (push c o)

-- `rstrip(out)`, over any set of blanks
unfoldable pub strip_by : (ℕ → Bool) → Out → Out
strip_by blank o = record { text = rstrip_by blank o.text; peak = o.peak }

abbrev pub strip : Out → Out
strip = strip_by is_space
