-- The option line: "ten digits, formatting 0 to 2 in the order above, then nine 0 or 1, and LF" (document 01, "Pages and their texts"), and
-- missing_alt, "an eleventh digit of the program's line" (document 02, CR 4).
use Rattle.std.specs.Prelude.{Option, None, Some, Bool, true, ◌&&◌, cond, [], ◌∷◌, ℕ, ◌-◌, leb, eqb, length, get_or, take, drop}
use Rattle.common.specs.Answer.{Answer, refused, written}
use Rattle.common.specs.Bytes.{Bytes}
use Rattle.common.specs.Refusals.{wrong_options}
use Rattle.options.specs.Options.{place, options_by}
use Rattle.options.specs.declared.ExtractOptions.{ExtractOptions}
use Rattle.options.specs.declared.Formatting.{Formatting}
use Rattle.options.specs.declared.Formatting.TheVariants.{Off, Basic, MinimalHtml}

-- the digits and LF
abbrev pub line_length : ℕ
line_length = 12

abbrev pub is_formatting : ℕ → Bool
is_formatting b = leb 48 b && leb b 50

abbrev pub formatting_of : ℕ → Formatting
formatting_of b = cond (eqb b 48) Off (cond (eqb b 49) Basic MinimalHtml)

abbrev pub is_flag : ℕ → Bool
is_flag b = leb 48 b && leb b 49

unfoldable pub flags_right : Bytes → Bool
flags_right [] = true
flags_right (b ∷ s) = is_flag b && flags_right s

-- whether an option line stands at the start of s
unfoldable pub line_right : Bytes → Bool
line_right s =
    leb line_length (length s)
    && (eqb (get_or s (line_length - 1) 0) 10 && (is_formatting (get_or s 0 0) && flags_right (take (line_length - 2) (drop 1 s))))

abbrev pub flag_at : Bytes → ℕ → Bool
flag_at s i = eqb (get_or s i 0) 49

unfoldable pub options_in : Bytes → ExtractOptions
options_in s = options_by (formatting_of (get_or s 0 0)) (λ f. flag_at s (place f))

-- what follows the line is not looked at
abbrev pub line_of : Bytes → Option ExtractOptions
line_of s = cond (line_right s) (Some (options_in s)) None

-- "33: the program's option line is wrong; .. Second number 0."
abbrev pub numbers : Option ExtractOptions → Answer
numbers (Some o) = written 0
numbers None = refused wrong_options 0
