-- What is to be shown of the functions on bytes, for any set of blanks. Where `collapse` writes U+0020, that has to be one of them.
use Rattle.std.specs.Prelude.{◌≡◌, Bool, true, [], ◌∷◌, ◌++◌, ℕ, ◌*◌, ◌≤◌, length}
use Rattle.common.specs.Bytes.{Bytes}
use Rattle.text.specs.Collapsed.{Collapsed, RunsCollapsed}
use Rattle.text.specs.Text.{rstrip_by, trim_by, collapse_by, struck_by, escape}

module _ (blank : ℕ → Bool) where
  -- document 01, "Pieces and the lost strip": the blanks are struck out of a text part by part, and what `trim`, `rstrip` and `collapse` change is blanks alone
  pub record StruckOut : Type 0 where
    pub append : (s t : Bytes) → struck_by blank (s ++ t) ≡ struck_by blank s ++ struck_by blank t
    pub trim : (s : Bytes) → struck_by blank (trim_by blank s) ≡ struck_by blank s
    pub rstrip : (s : Bytes) → struck_by blank (rstrip_by blank s) ≡ struck_by blank s
    pub collapse : blank 0x20 ≡ true → (s : Bytes) → struck_by blank (collapse_by blank s) ≡ struck_by blank s

  -- after `collapse` every blank is U+0020, and no two stand together
  abbrev pub Collapses : Type 0
  Collapses = blank 0x20 ≡ true → (s : Bytes) → Collapsed blank (collapse_by blank s)

  -- "each run of blanks becomes one U+0020, all other bytes stay in order"
  abbrev pub CollapsesRuns : Type 0
  CollapsesRuns = (s : Bytes) → RunsCollapsed blank s (collapse_by blank s)

  -- once more changes nothing
  pub record Idempotent : Type 0 where
    pub trim : (s : Bytes) → trim_by blank (trim_by blank s) ≡ trim_by blank s
    pub rstrip : (s : Bytes) → rstrip_by blank (rstrip_by blank s) ≡ rstrip_by blank s
    pub collapse : blank 0x20 ≡ true → (s : Bytes) → collapse_by blank (collapse_by blank s) ≡ collapse_by blank s

  -- no text grows
  pub record NotLonger : Type 0 where
    pub trim : (s : Bytes) → length (trim_by blank s) ≤ length s
    pub rstrip : (s : Bytes) → length (rstrip_by blank s) ≤ length s
    pub collapse : (s : Bytes) → length (collapse_by blank s) ≤ length s

  -- what is left of s, where t is left of the text behind it
  abbrev pub before : Bytes → Bytes → Bytes
  before s [] = rstrip_by blank s
  before s (c ∷ t) = s ++ c ∷ t

  -- `rstrip` of two texts: the first loses its blanks only where nothing is left of the second
  abbrev pub RstripAppends : Type 0
  RstripAppends = (s t : Bytes) → rstrip_by blank (s ++ t) ≡ before s (rstrip_by blank t)

-- `escape` goes character by character, and each becomes one to six bytes
pub record EscapeParts : Type 0 where
  pub append : (s t : Bytes) → escape (s ++ t) ≡ escape s ++ escape t
  pub long : (s : Bytes) → (length s ≤ length (escape s)) × (length (escape s) ≤ 6 * length s)
