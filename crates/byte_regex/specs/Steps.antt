-- The steps that a regex is compiled to, and their numbers. Every successor of a step stands behind it.
use Rattle.std.specs.Prelude.{Bool, true, ◌&&◌, List, [], ◌∷◌, ◌++◌, ℕ, zero, suc, ◌+◌, ◌*◌, ltb, length}
use Rattle.byte_regex.specs.Regex.{Class, Regex, exactly, letter, any_blank, any_dash, any_separator, any_hex_digit, nothing, one, many, ◌then◌, ◌or◌, optional, at_start, at_end}

-- take a byte of the class; take as many as you like; go on here or n steps further; go on n steps further;
-- only at the text's start; only at its end; the pattern fits
pub data Step : Type 0 where
  take : Class → Step
  repeat : Class → Step
  fork : ℕ → Step
  skip : ℕ → Step
  first : Step
  last : Step
  done : Step

unfoldable pub compile : Regex → List Step
compile nothing = []
compile (one c) = take c ∷ []
compile (many c) = repeat c ∷ []
compile (a then b) = compile a ++ compile b
compile (a or b) = fork (suc (length (compile a))) ∷ (compile a ++ (skip (length (compile b)) ∷ compile b))
compile (optional a) = fork (length (compile a)) ∷ compile a
compile at_start = first ∷ []
compile at_end = last ∷ []

-- the steps of some patterns, one after the other
unfoldable pub program : List Regex → List Step
unfolding compile
program [] = []
program (r ∷ rs) = compile r ++ (done ∷ program rs)

-- where the steps of pattern p begin
unfoldable pub start_of : List Regex → ℕ → ℕ
unfolding compile
start_of rs zero = 0
start_of [] (suc p) = 0
start_of (r ∷ rs) (suc p) = suc (length (compile r)) + start_of rs p

-- ---- numbers
abbrev pub class_code : Class → ℕ
class_code any_blank = 0
class_code any_dash = 1
class_code any_separator = 2
class_code any_hex_digit = 3
class_code (exactly c) = c * 2 + 4
class_code (letter c) = c * 2 + 5

-- a step as one number: its kind, and eight times what goes with it
unfoldable pub encode : Step → ℕ
encode (take c) = class_code c * 8 + 0
encode (repeat c) = class_code c * 8 + 1
encode (fork n) = n * 8 + 2
encode (skip n) = n * 8 + 3
encode first = 0 * 8 + 4
encode last = 0 * 8 + 5
encode done = 0 * 8 + 6

-- ---- successors
-- how many steps are left of the pattern that goes on here, its `done` included
unfoldable pub steps_left : List Step → ℕ
steps_left [] = 0
steps_left (take c ∷ p) = suc (steps_left p)
steps_left (repeat c ∷ p) = suc (steps_left p)
steps_left (fork n ∷ p) = suc (steps_left p)
steps_left (skip n ∷ p) = suc (steps_left p)
steps_left (first ∷ p) = suc (steps_left p)
steps_left (last ∷ p) = suc (steps_left p)
steps_left (done ∷ p) = 1

-- the successors of a step are among the n steps behind it
abbrev pub stays_among : ℕ → Step → Bool
stays_among n (take c) = ltb 0 n
stays_among n (repeat c) = ltb 0 n
stays_among n (fork m) = ltb 0 n && ltb m n
stays_among n (skip m) = ltb m n
stays_among n first = ltb 0 n
stays_among n last = ltb 0 n
stays_among n done = true

unfoldable pub stay_inside : List Step → Bool
unfolding steps_left
stay_inside [] = true
stay_inside (s ∷ p) = stays_among (steps_left p) s && stay_inside p
