-- Worked examples: of a rule (document 01, "Rule (0.2, 500), text 100: 20 link bytes no, 21 yes; text 500 measured, 501 too long"), and of the counts of a page.
use Rattle.std.specs.Prelude.{◌≡◌, ℕ, Bool, true, false, List, [], ◌∷◌, map, slice_index_or}
use Prim.Native.String.{String}
use Rattle.common.specs.Bytes.{codes}
use Rattle.quotient.specs.Quotient.{quotient}
use Rattle.tree.specs.Node.{Kind, element, text, comment, Node}
use Rattle.tree.specs.Rows.{rows_from}
use Rattle.links.specs.Links.{text_bytes, link_bytes, measure_of, exceeds, fifth_of500}
use Rattle.links.specs.declared.Measure.{Measure}
use Rattle.links.specs.declared.Measure.TheVariants.{NoText, TooLong, NoLinks, Share}

-- text bytes and link bytes, the measure, and whether it says yes
pub record Example : Type 0 where
  pub total : ℕ
  pub links : ℕ
  pub measure : Measure
  pub yes : Bool

abbrev pub example : ℕ → ℕ → Measure → Bool → Example
example total links m b = record { total = total; links = links; measure = m; yes = b }

abbrev pub computed : Example → Example
computed e = let m = measure_of fifth_of500 e.total e.links in example e.total e.links m (exceeds fifth_of500 m)

abbrev pub examples : List Example
examples =
    example 100 20 (Share (quotient 20 100)) false
    ∷ example 100 21 (Share (quotient 21 100)) true
    ∷ example 500 100 (Share (quotient 100 500)) false
    ∷ example 500 101 (Share (quotient 101 500)) true
    ∷ example 501 501 TooLong false
    ∷ example 0 0 NoText false
    ∷ example 100 0 NoLinks false
    ∷ []

abbrev pub ExamplesHold : Type 0
ExamplesHold = map computed examples ≡ examples

-- ---- text bytes and link bytes of each row of a page

abbrev pub named : String → Node
named name = record { kind = element; name = codes name; value = []; attributes = [] }

abbrev pub says : Kind → String → Node
says kind value = record { kind = kind; name = []; value = codes value; attributes = [] }

-- `x <a> y <b> z</b><a>w</a></a><!-- c -->  v`: a blank at the start of a link counts for it, though one stands before it; the inner link's byte counts in both
abbrev pub page : List (ℕ × Node)
page =
    (0, named "body")
    ∷ (1, says text "x ")
    ∷ (1, named "a")
    ∷ (2, says text " y ")
    ∷ (2, named "b")
    ∷ (3, says text " z")
    ∷ (2, named "a")
    ∷ (3, says text "w")
    ∷ (1, says comment " c ")
    ∷ (1, says text "  v")
    ∷ []

abbrev pub node_of : ℕ → Node
node_of i = slice_index_or (map (λ r. r.1) page) i (named "")

abbrev pub counts_at : ℕ → ℕ × ℕ
counts_at i = (text_bytes node_of (map (λ r. r.0) page) i, link_bytes node_of (map (λ r. r.0) page) i)

-- "x y zw v" and " y zw" + "w" for the body; of a row that is no element its value
abbrev pub CountsHold : Type 0
CountsHold = map counts_at (rows_from 0 10) ≡ (8, 6) ∷ (2, 0) ∷ (5, 1) ∷ (3, 0) ∷ (2, 0) ∷ (2, 0) ∷ (1, 0) ∷ (1, 0) ∷ (3, 0) ∷ (2, 0) ∷ []
