-- Worked examples: a pattern, a text, and whether it matches.
use Rattle.std.specs.Prelude.{Bool, true, ◌&&◌, not, List, [], ◌∷◌, ℕ, T}
use Prim.Native.String.{String}
use Rattle.common.specs.Bytes.{codes}
use Rattle.patterns.specs.Match.{matches_of}

pub data Example : Type 0 where
  yes : ℕ → String → Example
  no : ℕ → String → Example

abbrev pub is_right : Example → Bool
is_right (yes p s) = matches_of p (codes s)
is_right (no p s) = not (matches_of p (codes s))

abbrev pub are_right : List Example → Bool
are_right [] = true
are_right (e ∷ es) = is_right e && are_right es

unfoldable pub examples : List Example
examples =
    -- document 01: "Pattern 15 (ADS_CLS_REGEX): "ad" yes, "ad x" no"; its `$` stands inside a group, and the group behind it wants an end too
    yes 15 "ad" ∷ no 15 "ad x" ∷ yes 15 "x ad_0F3a" ∷ no 15 "ad_" ∷ yes 15 "advert-top"
    -- empty bytes give no
    ∷ no 18 "" ∷ no 0 ""
    -- letters of either case, but for pattern 20
    ∷ yes 0 "Main-CONTENT" ∷ yes 20 "spinner" ∷ no 20 "Spinner"
    -- the bare alternation of pattern 6: only its last way asks for an end, only its first for a beginning
    ∷ yes 6 "xmetadata" ∷ no 6 "metadatax" ∷ yes 6 "bylinex" ∷ no 6 "xbyline"
    -- and of pattern 20
    ∷ yes 20 "short-view-counter" ∷ no 20 "xshort-view-count" ∷ yes 20 "xspinner" ∷ no 20 "spinners"
    -- ^ and $ are the ends of the whole
    ∷ yes 3 "site-header" ∷ no 3 "site-header x" ∷ no 3 "x header" ∷ yes 13 "x carousel y"
    -- repetition, and what may be left out
    ∷ yes 4 "l__--header-wrapper" ∷ no 4 "header" ∷ yes 11 "color:red;  display : none" ∷ no 11 "display:  none"
    ∷ []

abbrev pub ExamplesAreRight : Type 0
ExamplesAreRight = T (are_right examples)
