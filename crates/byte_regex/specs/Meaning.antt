-- What the steps of a table mean at a place of a text, and the move that a step makes there.
use Rattle.std.specs.Prelude.{Bool, true, false, not, cond, List, [], ◌∷◌, map, ℕ, zero, suc, ◌+◌, ◌/◌, ◌%◌, ◌≤◌, T, eqb, length, get_or, drop}
use Rattle.common.specs.Bytes.{Bytes}
use Rattle.byte_regex.specs.Regex.{Class, exactly, letter, any_blank, any_dash, any_separator, any_hex_digit, in_class}
use Rattle.byte_regex.specs.Match.{Test, always, takes, repeats, either, if_start, if_end}
use Rattle.byte_regex.specs.Steps.{Step, take, repeat, fork, skip, first, last, done, stay_inside}
use Rattle.byte_regex.specs.declared.Class.{Class as ClassRead}
use Rattle.byte_regex.specs.declared.Class.TheVariants.{Blank, Dash, Separator, HexDigit, Exactly, Letter}
use Rattle.byte_regex.specs.declared.Step.{Step as StepRead}
use Rattle.byte_regex.specs.declared.Step.TheVariants.{Take, Repeat, Fork, Skip, First, Last, Done}
use Rattle.byte_regex.specs.declared.Move.{Move}
use Rattle.byte_regex.specs.declared.Move.TheVariants.{Pass, Fail, Go, Try}

-- ---- meanings
abbrev pub never : Test
never b t = false

-- the meaning n steps on
abbrev pub ahead : List Test → ℕ → Test
ahead ks n = get_or ks n never

-- what a step means, from the meanings of the steps behind it
abbrev pub mean : Step → List Test → Test
mean (take c) ks = takes c (ahead ks 0)
mean (repeat c) ks = repeats c (ahead ks 0)
mean (fork n) ks = either (ahead ks 0) (ahead ks n)
mean (skip n) ks = ahead ks n
mean first ks = if_start (ahead ks 0)
mean last ks = if_end (ahead ks 0)
mean done ks = always

unfoldable pub means : List Step → List Test
means [] = []
means (s ∷ p) = mean s (means p) ∷ means p

-- is the place still the start, n bytes on
abbrev pub still : Bool → ℕ → Bool
still b zero = b
still b (suc n) = false

-- a test at a place of a text
abbrev pub test_at : Test → Bytes → ℕ → Bool
test_at k s at = k (still true at) (drop at s)

-- the step i, at a place of a text
unfoldable pub holds : List Step → ℕ → Bytes → ℕ → Bool
unfolding means
holds p i s at = test_at (ahead (means p) i) s at

-- ---- numbers
-- the class and the step of a number
abbrev pub class_of : ℕ → Class
class_of zero = any_blank
class_of (suc zero) = any_dash
class_of (suc (suc zero)) = any_separator
class_of (suc (suc (suc zero))) = any_hex_digit
class_of (suc (suc (suc (suc n)))) = cond (eqb (n % 2) 0) (exactly (n / 2)) (letter (n / 2))

abbrev pub step_of_kind : ℕ → ℕ → Step
step_of_kind zero a = take (class_of a)
step_of_kind (suc zero) a = repeat (class_of a)
step_of_kind (suc (suc zero)) a = fork a
step_of_kind (suc (suc (suc zero))) a = skip a
step_of_kind (suc (suc (suc (suc zero)))) a = first
step_of_kind (suc (suc (suc (suc (suc zero))))) a = last
step_of_kind (suc (suc (suc (suc (suc (suc k)))))) a = done

abbrev pub step_of : ℕ → Step
step_of n = step_of_kind (n % 8) (n / 8)

abbrev pub steps_of : List ℕ → List Step
steps_of codes = map step_of codes

-- the class and the step that the matcher has read from a number
abbrev pub class_meant : ClassRead → Class
class_meant Blank = any_blank
class_meant Dash = any_dash
class_meant Separator = any_separator
class_meant HexDigit = any_hex_digit
class_meant (Exactly c) = exactly c
class_meant (Letter c) = letter c

abbrev pub step_meant : StepRead → Step
step_meant (Take c) = take (class_meant c)
step_meant (Repeat c) = repeat (class_meant c)
step_meant (Fork n) = fork n
step_meant (Skip n) = skip n
step_meant First = first
step_meant Last = last
step_meant Done = done

-- what the matcher asks of a table: it is not too long, and no step leads out of its pattern
pub record StepTable (codes : List ℕ) : Type 0 where
  pub short : length codes ≤ 65536
  pub inside : T (stay_inside (steps_of codes))

-- ---- moves
-- a step fails at a place by itself, whatever the steps behind it say
unfoldable pub blocked_of : Step → Bytes → ℕ → Bool
blocked_of (take c) s at = cond (eqb at (length s)) true (not (in_class c (get_or s at 0)))
blocked_of (repeat c) s at = false
blocked_of (fork n) s at = false
blocked_of (skip n) s at = false
blocked_of first s at = not (eqb at 0)
blocked_of last s at = not (eqb at (length s))
blocked_of done s at = false

-- the move of a step that is not blocked; at a fork whose next step is, only the further one is left
unfoldable pub free_move : Step → Step → ℕ → Bytes → ℕ → Move
unfolding blocked_of
free_move (take c) next i s at = Go (i + 1) (at + 1)
free_move (repeat c) next i s at = cond (eqb at (length s)) (Go (i + 1) at) (cond (in_class c (get_or s at 0)) (Try i (at + 1)) (Go (i + 1) at))
free_move (fork n) next i s at = cond (blocked_of next s at) (Go (i + 1 + n) at) (Try (i + 1 + n) at)
free_move (skip n) next i s at = Go (i + 1 + n) at
free_move first next i s at = Go (i + 1) at
free_move last next i s at = Go (i + 1) at
free_move done next i s at = Pass

-- from step i at a place: the pattern fits; it does not; go on at a step and a place; or so, unless the next step holds here
unfoldable pub move_of : Step → Step → ℕ → Bytes → ℕ → Move
unfolding blocked_of free_move
move_of step next i s at = cond (blocked_of step s at) Fail (free_move step next i s at)
