-- A text that is added: trimmed before it is collapsed, where a blank or nothing stands before it.
use mathlib.Core.Path.{◌≡◌, sym, ◌∙◌}
use mathlib.Core.Bool.{Bool, true, false, ◌||◌, not}
use Prim.Native.Nat.{ℕ, ◌<◌}
use lib.Dec.{eqb}
use lib.ListN.{get_or}
use Rattle.common.specs.Bytes.{Bytes}
use Rattle.text.specs.Text.{is_ascii_whitespace, collapse_by}
use Rattle.writer.specs.Out.{Out, push_all}
use Rattle.writer.specs.Writing.{HeldBy}
use Rattle.writer.specs.declared.Writer.{Writer}
use Rattle.visible_text.specs.CollapseWhitespace.{ends_blank}
use Rattle.visible_text.specs.VisibleText.{add_text}
use Rattle.visible_text.specs.WhiteSpace.{trim_start}
use Rattle.visible_text.proofs.BlankLaws.{collapses_by_five, ends_blank_law}
use Rattle.visible_text.proofs.TrimLaws.{trim_collapse}

-- whether a blank or nothing stands before, by the numbers of a writer
abbrev ends_by : Writer → Bool
ends_by w = eqb w.len 0 || not (eqb w.kept w.len)

-- what is done of a text: s of it, collapsed
abbrev Adds : Bool → Writer → Bytes → Bytes → Bytes → Type 0
Adds write w buf value s = (under : Bytes) (o : Out) → HeldBy is_ascii_whitespace write under w buf o
    → add_text value o ≡ push_all (collapse_by is_ascii_whitespace s) o

module _ {write : Bool} {w : Writer} {buf : Bytes} where
  held_ends : {under : Bytes} {o : Out} → HeldBy is_ascii_whitespace write under w buf o → ends_by w ≡ ends_blank o.text
  held_ends {o = o} h = rw (h.len, h.kept) (sym (ends_blank_law o.text))

  module _ (value : Bytes) {r : Bool} (r_is : r ≡ ends_by w) where
    pub adds_trimmed : {s : Bytes} → ((i : ℕ) → get_or value i 0 < 256) → r ≡ true → s ≡ trim_start value → Adds write w buf value s
    adds_trimmed k t e under o h = rw (sym (held_ends h) ∙ sym r_is ∙ t, collapses_by_five value, trim_collapse value k, ← e)

    pub adds_whole : r ≡ false → Adds write w buf value value
    adds_whole t under o h = rw (sym (held_ends h) ∙ sym r_is ∙ t, collapses_by_five value)
