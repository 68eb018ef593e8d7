-- The column of depths: "A row's parent is the last earlier row one depth less" (document 01, "The sheet").
use Rattle.std.specs.Prelude.{true, false, List, ℕ, zero, suc, eqb, get_or, Option, None, Some}

-- the last of the rows before i that is one less deep than d
abbrev pub last_above : List ℕ → ℕ → ℕ → Option ℕ
last_above depths d zero = None
last_above depths d (suc j) = elim (eqb (suc (get_or depths j 0)) d) [ true ↦ Some j | false ↦ last_above depths d j ]

abbrev pub parent_of : List ℕ → ℕ → Option ℕ
parent_of depths i = last_above depths (get_or depths i 0) i
