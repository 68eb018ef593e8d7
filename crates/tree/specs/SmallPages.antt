-- Small pages, as the worked examples write them.
use Rattle.std.specs.Prelude.{Bool, false, ◌||◌, List, [], ◌∷◌, map, ℕ, eqb, get_or}
use Prim.Native.String.{String}
use Rattle.common.specs.Bytes.{codes}
use Rattle.tree.specs.Node.{element, text, comment, Attribute, Node}
use Rattle.tree.specs.Page.{Page}

-- the rows of a page, each with its depth
abbrev pub Rows : Type 0
Rows = List (ℕ × Node)

infix 90 ◌is◌
-- an attribute, a row with a name and attributes, a text, a comment
abbrev pub ◌is◌ : String → String → Attribute
name is value = record { name = codes name; value = codes value }

abbrev pub tagged : String → List Attribute → Node
tagged name attributes = record { kind = element; name = codes name; value = []; attributes = attributes }

abbrev pub plain : String → Node
plain name = tagged name []

abbrev pub words : String → Node
words value = record { kind = text; name = []; value = codes value; attributes = [] }

abbrev pub remark : String → Node
remark value = record { kind = comment; name = []; value = codes value; attributes = [] }

abbrev pub among : ℕ → List ℕ → Bool
among i [] = false
among i (j ∷ js) = eqb i j || among i js

-- the rows, those that are marked, and the root
abbrev pub page : Rows → List ℕ → ℕ → Page
page rows marks root =
    record { depths = map (λ (r : ℕ × Node). r.0) rows; node = λ i. (get_or rows i (0, plain "body")).1; marked = λ i. among i marks; root = root }
