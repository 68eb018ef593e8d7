-- Numbers in columns as they are written: the columns in front of a last digit, and a line of numbers.
use Rattle.std.specs.Prelude.{cond, List, [], ◌∷◌, ◌++◌, ℕ, zero, suc, ◌+◌, ◌%◌, eqb, replicate}
use Rattle.common.specs.Bytes.{Bytes}
use Rattle.sheet.specs.Columns.{columns}
use Rattle.sheet.specs.declared.line.Quad.{Quad}

-- the columns in front of the last digit, q being the number without it
unfoldable pub front : ℕ → ℕ → Bytes
front w q = elim q [ zero ↦ replicate w 32 | suc m ↦ columns w (suc m) ]

-- the last of them
abbrev pub column_of : ℕ → ℕ
column_of q = cond (eqb q 0) 32 (48 + q % 10)

-- four numbers in w columns each, with no line end
unfoldable pub four_columns : ℕ → Quad → Bytes
four_columns w q = columns w q.first ++ (columns w q.second ++ (columns w q.third ++ columns w q.fourth))

-- numbers in w columns each, and LF
unfoldable pub line : ℕ → List ℕ → Bytes
line w [] = 10 ∷ []
line w (n ∷ ns) = columns w n ++ line w ns

abbrev pub quad_line : ℕ → Quad → Bytes
quad_line w q = line w (q.first ∷ q.second ∷ q.third ∷ q.fourth ∷ [])
