-- The functions on bytes of html2text.rs. All are stated over any set of blanks, of which `is_space` is one.
-- The Rust goes by characters; every character that these functions tell apart is ASCII, so that bytes do.
use Rattle.std.specs.Prelude.{Bool, true, ◌||◌, cond, [], ◌∷◌, ◌++◌, ℕ, eqb}
use Rattle.std.proofs.Math.Bool.{false}
use Rattle.common.specs.Bytes.{Bytes, codes}

-- `char::is_ascii_whitespace`: TAB, LF, FF, CR and SPACE, the Infra standard's ASCII whitespace
unfoldable pub is_ascii_whitespace : ℕ → Bool
is_ascii_whitespace c = eqb c 0x09 || eqb c 0x0a || eqb c 0x0c || eqb c 0x0d || eqb c 0x20

-- `is_space`: `c.is_ascii_whitespace() || c == '\u{000b}'`
unfoldable pub is_space : ℕ → Bool
unfolding is_ascii_whitespace
is_space c = is_ascii_whitespace c || eqb c 0x0b

-- what a character adds to `collapse`'s `out`, by whether it is a blank and whether one stood before it
abbrev pub squeezed : Bool → Bool → ℕ → Bytes
squeezed true true c = []
squeezed true false c = 0x20 ∷ []
squeezed false space c = c ∷ []

-- a character in front of a text without blanks at its end
abbrev pub keeping : Bool → ℕ → Bytes → Bytes
keeping blank c (d ∷ s) = c ∷ d ∷ s
keeping true c [] = []
keeping false c [] = c ∷ []

module _ (blank : ℕ → Bool) where
  -- `trim_start_matches`
  unfoldable pub trim_start_by : Bytes → Bytes
  trim_start_by [] = []
  trim_start_by (c ∷ s) = cond (blank c) (trim_start_by s) (c ∷ s)

  -- `rstrip`: `trim_end_matches`
  unfoldable pub rstrip_by : Bytes → Bytes
  rstrip_by [] = []
  rstrip_by (c ∷ s) = keeping (blank c) c (rstrip_by s)

  -- `trim`: `trim_matches`
  unfoldable pub trim_by : Bytes → Bytes
  unfolding trim_start_by rstrip_by
  trim_by s = rstrip_by (trim_start_by s)

  -- `collapse`'s loop, `space` being its variable
  unfoldable pub collapse_from : Bool → Bytes → Bytes
  collapse_from space [] = []
  collapse_from space (c ∷ s) = squeezed (blank c) space c ++ collapse_from (blank c) s

  -- its variable `space` behind a text
  abbrev pub space_after : Bool → Bytes → Bool
  space_after space [] = space
  space_after space (c ∷ s) = space_after (blank c) s

  -- `collapse`
  unfoldable pub collapse_by : Bytes → Bytes
  unfolding collapse_from
  collapse_by s = collapse_from false s

  -- document 01, "Pieces and the lost strip": the blanks struck out
  unfoldable pub struck_by : Bytes → Bytes
  struck_by [] = []
  struck_by (c ∷ s) = cond (blank c) (struck_by s) (c ∷ struck_by s)

abbrev pub trim : Bytes → Bytes
trim = trim_by is_space

abbrev pub rstrip : Bytes → Bytes
rstrip = rstrip_by is_space

abbrev pub collapse : Bytes → Bytes
collapse = collapse_by is_space

abbrev pub struck : Bytes → Bytes
struck = struck_by is_space

-- what a character adds to `escape`'s `out`
unfoldable pub escaped : ℕ → Bytes
unfolding codes
escaped c =
    cond (eqb c 0x26) (codes "&amp;")
    (cond (eqb c 0x22) (codes "&quot;")
    (cond (eqb c 0x3c) (codes "&lt;")
    (cond (eqb c 0x3e) (codes "&gt;")
    (c ∷ []))))

-- `escape`
unfoldable pub escape : Bytes → Bytes
unfolding escaped
escape [] = []
escape (c ∷ s) = escaped c ++ escape s
