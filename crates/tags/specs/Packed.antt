-- A name as one number, and the tag of that number.
use Rattle.std.specs.Prelude.{cond, List, [], ◌∷◌, ℕ, ◌+◌, ◌*◌, eqb}
use Rattle.common.specs.Bytes.{Bytes}
use Rattle.tags.specs.Tags.{tag_of}
use Rattle.tags.specs.Words.{words}

-- the bytes to base 256, the last one first, behind a 1
unfoldable pub pack_of : Bytes → ℕ
pack_of [] = 1
pack_of (c ∷ s) = pack_of s * 256 + c

-- what f says of the name with this number, if it is one of the list
unfoldable pub packed : {A : Type 0} → (Bytes → A) → A → List Bytes → ℕ → A
packed f other [] v = other
packed f other (w ∷ ws) v = cond (eqb v (pack_of w)) (f w) (packed f other ws v)

-- the tag
abbrev pub tag_packed : List Bytes → ℕ → ℕ
tag_packed ws v = packed tag_of 0 ws v

-- the names of up to 7 bytes that are told apart
abbrev pub short_names : List Bytes
short_names =
    words "tr td th ul ol li br h1 h2 h3 h4 h5 h6 p dd dt dl hr a pre aside div form main nav table img area input address article center details figure footer header hgroup section button"
