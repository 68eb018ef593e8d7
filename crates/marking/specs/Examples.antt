-- The marker on a page with names of all four lists, as an example.
use Rattle.std.specs.Prelude.{◌≡◌, Bool, true, false, List, [], ◌∷◌, map, ℕ, zero, suc, length}
use Rattle.common.specs.Bytes.{codes}
use Rattle.options.specs.Options.{standing, with_alt_texts, with_form_fields}
use Rattle.options.specs.declared.ExtractOptions.{ExtractOptions}
use Rattle.sheet.specs.declared.line.Row.{Row}
use Rattle.sheet_form.specs.Decoded.{Decoded}
use Rattle.marking.specs.Marks.{to_mark}

abbrev element_row : ℕ → ℕ → ℕ → ℕ → Row
element_row depth at len count =
    record { depth = depth; kind = 1; skip = 0; name_at = at; name_len = len; value_at = 0; value_len = 0; attributes = count }

abbrev other_row : ℕ → ℕ → ℕ → ℕ → Row
other_row kind depth at len =
    record { depth = depth; kind = kind; skip = 0; name_at = 0; name_len = 0; value_at = at; value_len = len; attributes = 0 }

-- `<script>a</script><p><noscript>n</noscript><img alt=i><label><input value=v></label>t</p><SCRIPT>S</SCRIPT><!--script-->style`
abbrev pub page : ℕ → Decoded
page root =
    record {
      rows =
          element_row 0 0 4 0
          ∷ element_row 1 4 6 0
          ∷ other_row 3 2 10 1
          ∷ element_row 1 11 1 0
          ∷ element_row 2 12 8 0
          ∷ other_row 3 3 20 1
          ∷ element_row 2 21 3 1
          ∷ element_row 2 28 5 0
          ∷ element_row 3 33 5 1
          ∷ other_row 3 2 44 1
          ∷ element_row 1 45 6 0
          ∷ other_row 3 2 51 1
          ∷ other_row 8 1 4 6
          ∷ other_row 3 1 52 5
          ∷ [];
      attributes =
          record { name_at = 24; name_len = 3; value_at = 27; value_len = 1 }
          ∷ record { name_at = 38; name_len = 5; value_at = 43; value_len = 1 }
          ∷ [];
      pool = codes "bodyscriptapnoscriptnimgaltilabelinputvaluevtSCRIPTSstyle";
      root = root;
    }

pub record Example : Type 0 where
  pub root : ℕ
  pub options : ExtractOptions
  pub noscript : Bool
  pub marks : List ℕ

-- rows: 1 script, 3 p, 4 noscript, 6 img, 7 label, 8 input, 10 SCRIPT
abbrev pub examples : List Example
examples =
    record { root = 0; options = standing; noscript = false; marks = 1 ∷ 4 ∷ 7 ∷ 8 ∷ [] }
    ∷ record { root = 0; options = standing; noscript = true; marks = 1 ∷ 7 ∷ 8 ∷ [] }
    ∷ record { root = 0; options = with_alt_texts false standing; noscript = false; marks = 1 ∷ 4 ∷ 6 ∷ 7 ∷ 8 ∷ [] }
    ∷ record { root = 0; options = with_form_fields true standing; noscript = false; marks = 1 ∷ 4 ∷ [] }
    ∷ record { root = 3; options = standing; noscript = false; marks = 4 ∷ 7 ∷ 8 ∷ [] }
    ∷ record { root = 1; options = standing; noscript = false; marks = [] }
    ∷ record { root = 7; options = standing; noscript = false; marks = 8 ∷ [] }
    ∷ []

-- of n numbers from i on, those that pass
unfoldable pub chosen_from : (ℕ → Bool) → ℕ → ℕ → List ℕ
chosen_from test i zero = []
chosen_from test i (suc n) = elim (test i) [ true ↦ i ∷ chosen_from test (suc i) n | false ↦ chosen_from test (suc i) n ]

abbrev pub marks_of : Example → List ℕ
marks_of e = chosen_from (to_mark e.options e.noscript (page e.root)) 0 (length (page e.root).rows)

abbrev pub ExamplesRight : Type 0
ExamplesRight = map marks_of examples ≡ map (λ e. e.marks) examples
