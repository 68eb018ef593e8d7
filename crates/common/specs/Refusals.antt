-- The number of each refusal (document 01, "Who can cause which number"; document 02), in the words of include/levzhada.h.
use Rattle.std.specs.Prelude.{ℕ}

-- ---- the sheet is wrong

abbrev pub wrong_length : ℕ
wrong_length = 11

abbrev pub wrong_format : ℕ
wrong_format = 12

abbrev pub wrong_counts : ℕ
wrong_counts = 13

abbrev pub wrong_tree : ℕ
wrong_tree = 14

abbrev pub wrong_kind : ℕ
wrong_kind = 15

abbrev pub wrong_range : ℕ
wrong_range = 16

abbrev pub not_utf8 : ℕ
not_utf8 = 17

-- ---- the page is past a limit

abbrev pub too_many_list_levels : ℕ
too_many_list_levels = 21

abbrev pub too_many_open_rows : ℕ
too_many_open_rows = 22

-- ---- what the call was given beside the sheet is too short, wrong or not there

abbrev pub work_too_short : ℕ
work_too_short = 31

abbrev pub out_too_short : ℕ
out_too_short = 32

abbrev pub wrong_options : ℕ
wrong_options = 33

abbrev pub input_too_long : ℕ
input_too_long = 34

abbrev pub no_row : ℕ
no_row = 35

abbrev pub no_pattern : ℕ
no_pattern = 36

-- ---- an escaped text is wrong, or what is read back of it does not fit

abbrev pub no_entity : ℕ
no_entity = 51

abbrev pub unescape_out_too_short : ℕ
unescape_out_too_short = 52

-- ---- the visible text of a row does not fit

abbrev pub visible_text_out_too_short : ℕ
visible_text_out_too_short = 53
