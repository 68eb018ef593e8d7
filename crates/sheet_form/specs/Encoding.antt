-- A decoded sheet's bytes in columns of any width, and a sheet's bytes decoded.
use Rattle.std.specs.Prelude.{List, [], ◌∷◌, ◌++◌, ℕ, zero, suc, ◌^◌, ◌≤◌, ◌<◌, length}
use Rattle.common.specs.Bytes.{Bytes}
use Rattle.sheet.specs.Layout.{row_at, attribute_at, pool_of}
use Rattle.sheet.specs.Writing.{line}
use Rattle.sheet.specs.declared.line.Layout.{Layout}
use Rattle.sheet_form.specs.Decoded.{Decoded, header_numbers, row_numbers, attribute_numbers, row_in, attribute_in, layout_for}

-- ---- written

-- a line for each of a list of things that have numbers
unfoldable pub lines : {A : Type 0} → (A → List ℕ) → ℕ → List A → Bytes
lines numbers w [] = []
lines numbers w (a ∷ rest) = line w (numbers a) ++ lines numbers w rest

-- "Header", "N node lines", "A attribute lines", "The pool"
unfoldable pub encode : ℕ → Decoded → Bytes
encode w d =
    line w (header_numbers (layout_for w d)) ++ (lines row_numbers w d.rows ++ (lines attribute_numbers w d.attributes ++ d.pool))

-- ---- read

-- n things from the one at i on
unfoldable pub listed : {A : Type 0} → (ℕ → A) → ℕ → ℕ → List A
listed at i zero = []
listed at i (suc n) = at i ∷ listed at (suc i) n

unfoldable pub decode : Layout → Bytes → Decoded
decode l s =
    record {
      rows = listed (row_at s l) 0 l.nodes;
      attributes = listed (attribute_at s l) 0 l.attributes;
      pool = pool_of s l;
      root = l.root;
    }

-- ---- what the width has a say in

pub data Below (k : ℕ) : List ℕ → Type 0 where
  none : Below k []
  some : {n : ℕ} {ns : List ℕ} → n < k → Below k ns → Below k (n ∷ ns)

-- the numbers have room in columns of width w
pub record Fits (w : ℕ) (d : Decoded) : Type 0 where
  pub some_column : 1 ≤ w
  pub most_columns : w ≤ 10
  pub header : Below (10 ^ w) (header_numbers (layout_for w d))
  pub row : (i : ℕ) → i < length d.rows → Below (10 ^ w) (row_numbers (row_in d i))
  pub attribute : (j : ℕ) → j < length d.attributes → Below (10 ^ w) (attribute_numbers (attribute_in d j))
