-- The five blanks of serialize.rs, those of `char::is_ascii_whitespace`: U+000B is none of them.
use Rattle.std.specs.Prelude.{Bool, ◌&&◌, cond, [], ◌∷◌, ◌++◌, ℕ, eqb}
use Rattle.common.specs.Bytes.{Bytes}
use Rattle.text.specs.Text.{is_ascii_whitespace, rstrip_by}

-- fn collapse_whitespace(s: &str) -> String {
--     let mut last_char = 'x';
--     s.chars()
--         .into_iter()
--         .map(|c| if c.is_ascii_whitespace() { ' ' } else { c })
abbrev pub spaced : ℕ → ℕ
spaced c = cond (is_ascii_whitespace c) 0x20 c

--         .filter(|c| {
--             let keep = c != &' ' || last_char != ' ';
--             last_char = c.clone();
--             keep
--         })
abbrev pub kept : ℕ → ℕ → Bytes
kept last c = cond (eqb c 0x20 && eqb last 0x20) [] (c ∷ [])

unfoldable pub kept_from : ℕ → Bytes → Bytes
kept_from last [] = []
kept_from last (c ∷ s) = kept last (spaced c) ++ kept_from (spaced c) s

--         .collect()
-- }
unfoldable pub collapse_whitespace : Bytes → Bytes
collapse_whitespace s = kept_from 0x78 s

-- the last byte, or another where there is none
abbrev pub last_or : ℕ → Bytes → ℕ
last_or c [] = c
last_or c (d ∷ s) = last_or d s

-- `text.chars().last().unwrap_or(' ').is_ascii_whitespace()`: the last character is one of the five where the last byte is
unfoldable pub ends_blank : Bytes → Bool
ends_blank s = is_ascii_whitespace (last_or 0x20 s)

-- `text.trim_end_matches(|c: char| c.is_ascii_whitespace())`
abbrev pub trim_end : Bytes → Bytes
trim_end = rstrip_by is_ascii_whitespace
