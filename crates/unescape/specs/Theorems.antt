-- What is to be shown of `unescape` (document 02, request 5).
use Rattle.std.specs.Prelude.{◌≡◌, Bool, false, ◌||◌, [], ◌∷◌, ◌++◌, ℕ, ◌≤◌, ◌<◌, eqb, length, get_or, drop, Ok, None}
use Rattle.common.specs.Bytes.{Bytes, padded}
use Rattle.text.specs.Text.{escape, escaped}
use Rattle.unescape.specs.Answers.{unescaped_in, unescaped_out}
use Rattle.unescape.specs.Unescape.{ampersand, entity, unescaped, text, no_entity, unescape}

-- a quote or an angle bracket
abbrev pub is_bare : ℕ → Bool
is_bare c = eqb c 0x22 || eqb c 0x3c || eqb c 0x3e

-- whether a text has one; no name has one
unfoldable pub holds_bare : Bytes → Bool
holds_bare [] = false
holds_bare (c ∷ s) = is_bare c || holds_bare s

-- "Undoing after escaping gives the bytes back for every text."
pub record Undoes : Type 0 where
  pub back : (t : Bytes) → unescape (escape t) ≡ text t
  -- the same of the call, with room for the bytes
  pub called : (t out : Bytes) → length t ≤ length out
      → (unescaped_in (escape t) (length out) ≡ Ok (length t)) × (unescaped_out (escape t) out ≡ padded t (length out))

-- "Escaping after undoing gives them back exactly when the accepted text held no bare quote or angle bracket."
pub record Redoes : Type 0 where
  pub given : (s t : Bytes) → unescape s ≡ text t → holds_bare s ≡ false → escape t ≡ s
  pub only : (s t : Bytes) → unescape s ≡ text t → escape t ≡ s → holds_bare s ≡ false

-- "the four names become their characters, all else is copied": with these, and that an ampersand which starts none of the four refuses,
-- every text is read from left to right
pub record Parts : Type 0 where
  pub end : unescaped [] ≡ []
  pub character : (c : ℕ) (s : Bytes) → unescaped (escaped c ++ s) ≡ c ∷ unescaped s
  pub copied : (c : ℕ) (s : Bytes) → (c ≡ ampersand → ⊥) → unescaped (c ∷ s) ≡ c ∷ unescaped s
  pub not_longer : (s : Bytes) → length (unescaped s) ≤ length s

-- `i` is the offset of "the first ampersand that starts none of the four names"
pub record FirstNoEntity (s : Bytes) (i : ℕ) : Type 0 where
  pub there : i < length s
  pub is_ampersand : get_or s i 0 ≡ ampersand
  pub starts_none : entity (drop i s) ≡ None
  pub earlier : (k : ℕ) → k < i → get_or s k 0 ≡ ampersand → entity (drop k s) ≡ None → ⊥

-- a text is refused for that ampersand, and for nothing else
pub record Refuses : Type 0 where
  pub first : (s : Bytes) (i : ℕ) → FirstNoEntity s i → unescape s ≡ no_entity i
  pub only : (s : Bytes) (i : ℕ) → unescape s ≡ no_entity i → FirstNoEntity s i
