-- What `collapse` is for: "each run of blanks becomes one U+0020, all other bytes stay in order" (document 02, request 6).
use Rattle.std.specs.Prelude.{◌≡◌, Bool, true, false, [], ◌∷◌, ◌++◌, ℕ, suc, ◌<◌, length, get_or}
use Rattle.common.specs.Bytes.{Bytes}

-- every blank is U+0020, and no two stand together
pub record Collapsed (blank : ℕ → Bool) (s : Bytes) : Type 0 where
  pub spaces : (i : ℕ) → i < length s → blank (get_or s i 0) ≡ true → get_or s i 0 ≡ 0x20
  pub apart : (i : ℕ) → suc i < length s → blank (get_or s i 0) ≡ true → blank (get_or s (suc i) 0) ≡ true → ⊥

module _ (blank : ℕ → Bool) where
  abbrev pub AllBlank : Bytes → Type 0
  AllBlank [] = Unit {0}
  AllBlank (c ∷ s) = (blank c ≡ true) × AllBlank s

  abbrev pub starts_blank : Bytes → Bool
  starts_blank [] = false
  starts_blank (c ∷ s) = blank c

  -- the second text is the first with each run of blanks as one U+0020; a run ends before another byte or with the text
  pub data RunsCollapsed : Bytes → Bytes → Type 0 where
    end : RunsCollapsed [] []
    other : {c : ℕ} {s t : Bytes} → blank c ≡ false → RunsCollapsed s t → RunsCollapsed (c ∷ s) (c ∷ t)
    run : (c : ℕ) (r s : Bytes) {t : Bytes} → AllBlank (c ∷ r) → starts_blank s ≡ false → RunsCollapsed s t → RunsCollapsed ((c ∷ r) ++ s) (0x20 ∷ t)
