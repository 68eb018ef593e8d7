-- Whether a regex is found in a text, as a function.
use Rattle.std.specs.Prelude.{◌≡◌, ◌↔◌, Bool, true, false, ◌&&◌, ◌||◌, [], ◌∷◌, T}
use Rattle.common.specs.Bytes.{Bytes}
use Rattle.byte_regex.specs.Regex.{Class, Regex, Found, in_class, nothing, one, many, ◌then◌, ◌or◌, optional, at_start, at_end}

-- a test of a place in a text: is it the text's start, and which bytes are left
abbrev pub Test : Type 0
Test = Bool → Bytes → Bool

abbrev pub always : Test
always b t = true

abbrev pub takes : Class → Test → Test
takes c k b [] = false
takes c k b (x ∷ t) = in_class c x && k false t

abbrev pub repeats : Class → Test → Test
repeats c k b [] = k b []
repeats c k b (x ∷ t) = k b (x ∷ t) || (in_class c x && repeats c k false t)

abbrev pub either : Test → Test → Test
either k l b t = k b t || l b t

abbrev pub if_start : Test → Test
if_start k b t = b && k b t

abbrev pub if_end : Test → Test
if_end k b [] = k b []
if_end k b (x ∷ t) = false

-- some run from here fits the expression, and k holds behind it
unfoldable pub fit : Regex → Test → Test
fit nothing k = k
fit (one c) k = takes c k
fit (many c) k = repeats c k
fit (r then s) k = fit r (fit s k)
fit (r or s) k = either (fit r k) (fit s k)
fit (optional r) k = either (fit r k) k
fit at_start k = if_start k
fit at_end k = if_end k

-- k holds here or at a later place
abbrev pub anywhere : Test → Test
anywhere k b [] = k b []
anywhere k b (x ∷ t) = k b (x ∷ t) || anywhere k false t

abbrev pub nonempty : Bytes → Bool
nonempty [] = false
nonempty (x ∷ t) = true

-- `matches`: `!s.is_empty() && regex.is_match(s)`
unfoldable pub finds : Regex → Bytes → Bool
finds r s = nonempty s && anywhere (fit r always) true s

-- yes exactly where the bytes are not empty and some run of them fits
abbrev pub FindsExactly : Type 0
FindsExactly = (r : Regex) (s : Bytes) → T (finds r s) ↔ ((s ≡ [] → ⊥) × Found r s)
