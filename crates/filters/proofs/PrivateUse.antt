-- With icons 1 exactly the private-use characters and "¶" are icons.
use mathlib.Core.Path.{◌≡◌}
use mathlib.Core.Bool.{true}
use Prim.Native.Nat.{ℕ, ◌≤◌, ◌<◌}
use native.Mathlib.Omega.{arith}
use borrow.Author.Tests.{eqb-true}
use Rattle.common.proofs.TestLaws.{or_cases}
use Rattle.utf8.specs.Abnf.{%x◌-◌}
use Rattle.utf8.specs.Encoding.{Scalar}
use Rattle.utf8.specs.Valid.{within}
use Rattle.utf8.proofs.CharacterLaws.{no_character, one_character, more_characters, only_character}
use Rattle.utf8.proofs.Parts.{within_bounds}
use Rattle.filters.specs.Icon.{is_icon_character, is_icon, IconsArePrivate}

-- a range that no surrogate is in
scalar_within : (low high c : ℕ) → 0xDFFF < low → high ≤ 0x10FFFF → within (%x low - high) c ≡ true → Scalar c
scalar_within low high c h k e =
    let both = within_bounds (%x low - high) c e in
    record { most = omega (arith, both.1); not_surrogate = λ p q. omega (arith, both.0) }

icon_scalar : (c : ℕ) → is_icon_character c ≡ true → Scalar c
unfolding is_icon_character
icon_scalar c =
    or_cases _ _ (scalar_within 0xE000 0xF8FF c (omega arith) (omega arith))
    (or_cases _ _
    (or_cases _ _ (scalar_within 0xF0000 0xFFFFD c (omega arith) (omega arith))
    (scalar_within 0x100000 0x10FFFD c (omega arith) (omega arith)))
    (λ e. let p = eqb-true c 0xB6 e in record { most = omega arith; not_surrogate = λ q r. omega arith }))

pub icons_are_private : IconsArePrivate
unfolding is_icon
icons_are_private =
    record {
      scalars = icon_scalar;
      none = no_character is_icon_character;
      one = one_character is_icon_character;
      more = more_characters is_icon_character;
      only = only_character is_icon_character;
    }
