-- Sets of patterns, and which patterns can begin at a place by two bytes there.
use Rattle.std.specs.Prelude.{◌≡◌, Bool, true, false, ◌||◌, cond, List, [], ◌∷◌, ◌++◌, map, ℕ, zero, suc, ◌+◌, ◌-◌, ◌*◌, ◌/◌, ◌%◌, ◌^◌, ◌<◌, T, leb, eqb, get_or}
use Rattle.common.specs.Bytes.{Bytes}
use Rattle.text.specs.Text.{is_space}
use Rattle.byte_regex.specs.Regex.{Class, Regex, between, lower, exactly, letter, any_blank, any_dash, any_separator, any_hex_digit, nothing, one, many, ◌then◌, ◌or◌, optional, at_start, at_end}
use Rattle.byte_regex.specs.Match.{always, fit}
use Rattle.patterns.specs.Patterns.{pattern_count, patterns, pattern}
use Rattle.patterns.specs.Match.{matches_of}

-- a set of patterns is a number: bit p says whether p is in it
abbrev pub bit : ℕ → ℕ → Bool
bit n p = eqb (n / 2 ^ p % 2) 1

-- each pattern that matches s is in the set
abbrev pub Candidates : ℕ → Bytes → Type 0
Candidates set s = (p : ℕ) → p < pattern_count → T (matches_of p s) → T (bit set p)

-- each pattern that fits from here on is in the set
abbrev pub CanBegin : Bool → Bytes → ℕ → Type 0
CanBegin b t set = (p : ℕ) → p < pattern_count → T (fit (pattern p) always b t) → T (bit set p)

-- ---- codes of bytes
-- a byte by one of 32 codes: blanks 0, letters 1 to 26, `-` 27, `_` 28, digits 29, `:` and `;` 31, all others 30
unfoldable pub code_of : ℕ → ℕ
unfolding lower
code_of x =
    cond (is_space x) 0
    (cond (between 0x61 0x7a (lower x)) (lower x - 0x60)
    (cond (eqb x 0x2d) 27
    (cond (eqb x 0x5f) 28
    (cond (between 0x30 0x39 x) 29
    (cond (between 0x3a 0x3b x) 31
    30)))))

-- can a byte of this code be in the class
unfoldable pub code_in_class : Class → ℕ → Bool
unfolding code_of
code_in_class (exactly c) a = eqb a (code_of c)
code_in_class (letter c) a = eqb a (code_of c)
code_in_class any_blank a = eqb a 0
code_in_class any_dash a = between 27 28 a
code_in_class any_separator a = eqb a 0 || between 27 28 a
code_in_class any_hex_digit a = eqb a 29 || between 1 6 a

-- ---- the byte behind some places of which a code is known or nothing
pub data Known : Type 0 where
  some_byte : Known
  coded : ℕ → Known

unfoldable pub may_be_in : Class → Known → Bool
unfolding code_in_class
may_be_in c some_byte = true
may_be_in c (coded a) = code_in_class c a

-- it can be any byte, or one of a class
pub data Next : Type 0 where
  any_byte : Next
  one_of : Class → Next

unfoldable pub can_be : List Next → ℕ → Bool
unfolding code_in_class
can_be [] a = false
can_be (any_byte ∷ ns) a = true
can_be (one_of c ∷ ns) a = code_in_class c a || can_be ns a

-- what it can be, if from the known places on some run fits
abbrev pub Ahead : Type 0
Ahead = Bool → List Known → List Next

abbrev pub next_take : Class → Ahead → Ahead
next_take c k b [] = one_of c ∷ []
next_take c k b (a ∷ t) = elim (may_be_in c a) [ true ↦ k false t | false ↦ [] ]

abbrev pub next_repeat : Class → Ahead → Ahead
next_repeat c k b [] = one_of c ∷ k b []
next_repeat c k b (a ∷ t) = k b (a ∷ t) ++ elim (may_be_in c a) [ true ↦ next_repeat c k false t | false ↦ [] ]

abbrev pub next_start : Ahead → Ahead
next_start k true t = k true t
next_start k false t = []

unfoldable pub next_fit : Regex → Ahead → Ahead
unfolding may_be_in
next_fit nothing k b t = k b t
next_fit (one c) k b t = next_take c k b t
next_fit (many c) k b t = next_repeat c k b t
next_fit (r then s) k b t = next_fit r (next_fit s k) b t
next_fit (r or s) k b t = next_fit r k b t ++ next_fit s k b t
next_fit (optional r) k b t = next_fit r k b t ++ k b t
next_fit at_start k b t = next_start k b t
next_fit at_end k b t = []

abbrev pub next_of : Bool → List Known → Regex → List Next
next_of b known r = next_fit r (λ c t. any_byte ∷ []) b known

-- ---- the table of masks
unfoldable pub packed : List Bool → ℕ
packed [] = 0
packed (b ∷ bs) = packed bs * 2 + cond b 1 0

-- the set of patterns that can begin, by what the next byte can be for each, and its code
abbrev pub mask_of : List (List Next) → ℕ → ℕ
mask_of row y = packed (map (λ (ns : List Next). can_be ns y) row)

-- a code is known at the place, or behind two other bytes
abbrev pub known_at : Bool → ℕ → List Known
known_at false x = coded x ∷ []
known_at true x = some_byte ∷ some_byte ∷ coded x ∷ []

-- rows 0 to 31 and 32 to 63 past the text's start, 64 to 95 and 96 to 127 at it: the code at the place, and behind two bytes
unfoldable pub mask_row : ℕ → List (List Next)
unfolding next_fit
mask_row i = map (next_of (leb 64 i) (known_at (eqb (i / 32 % 2) 1) (i % 32))) patterns

-- which 32 rows are for the code at a place; the next 32 are for the code behind two bytes
abbrev pub group_at : ℕ → ℕ
group_at zero = 2
group_at (suc at) = 0

-- the codes of all bytes, then the rows
pub record MaskTable (table : List ℕ) : Type 0 where
  pub codes : (x : ℕ) → x < 256 → get_or table x 0 ≡ code_of x
  pub masks : (i y : ℕ) → i < 128 → y < 32 → get_or table (256 + (i * 32 + y)) 0 ≡ mask_of (mask_row i) y
