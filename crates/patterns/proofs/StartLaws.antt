-- The table of steps is one for the matcher, and the steps where a pattern begins mean the pattern.
use mathlib.Core.Path.{◌≡◌, sym, ap, subst, ◌∙◌}
use mathlib.Core.List.{List}
use Prim.Native.Nat.{ℕ, ◌≤◌, ◌<◌}
use native.Mathlib.Omega.{arith}
use lib.Dec.{T, lit≤}
use lib.ListN.{length, length-map}
use Rattle.common.specs.Bytes.{Bytes}
use Rattle.byte_regex.specs.Match.{Test, always, fit}
use Rattle.byte_regex.specs.Steps.{Step, start_of, encode, stay_inside}
use Rattle.byte_regex.specs.Meaning.{test_at, holds, steps_of, StepTable}
use Rattle.byte_regex.proofs.StepLaws.{start_means, start_inside, decoded}
use Rattle.patterns.specs.Patterns.{pattern_count, patterns, pattern}
use Rattle.patterns.specs.Steps.{all_steps, step_codes}
use Rattle.patterns.proofs.Lengths.{patterns_long}
use Rattle.patterns.proofs.StepNumbers.{step_numbers, steps_are, stay_inside_law}

-- ---- the table
pub codes_long : length step_codes ≡ 2059
unfolding step_numbers
codes_long = ap length (sym steps_are)

codes_decoded : steps_of step_codes ≡ all_steps
unfolding step_codes
codes_decoded = decoded all_steps

module _ {codes : List ℕ} (e : codes ≡ step_codes) where
  pub table_long : 2059 ≡ length codes
  table_long = sym (ap length e ∙ codes_long)

  pub table_is : StepTable codes
  table_is =
      subst StepTable (sym e)
      (record { short = subst (λ (n : ℕ). n ≤ 65536) (sym codes_long) (lit≤ tt); inside = subst (λ (p : List Step). T (stay_inside p)) (sym codes_decoded) stay_inside_law })

  pub table_holds : (i : ℕ) (s : Bytes) (at : ℕ) → holds (steps_of codes) i s at ≡ holds all_steps i s at
  table_holds i s at = ap (λ (p : List Step). holds p i s at) (ap steps_of e ∙ codes_decoded)

-- ---- where the patterns begin
module _ (p : ℕ) (h : p < pattern_count) where
  pub start_lt : start_of patterns p < 2059
  unfolding step_codes all_steps
  start_lt = omega (arith, start_inside patterns p (omega (arith, patterns_long)), length-map all_steps encode, codes_long)

  pub start_holds : (s : Bytes) (at : ℕ) → holds all_steps (start_of patterns p) s at ≡ test_at (fit (pattern p) always) s at
  unfolding holds all_steps
  start_holds s at = ap (λ (k : Test). test_at k s at) (start_means patterns p (omega (arith, patterns_long)))
