-- Columns that hold the numbers of the rows are noted as the visits ask for.
use mathlib.Core.Path.{◌≡◌}
use mathlib.Core.List.{List}
use Prim.Native.Nat.{ℕ, ◌≤◌, ◌<◌}
use lib.ListN.{length, get_or}
use Rattle.common.specs.Bytes.{Bytes}
use Rattle.sheet.specs.Accepted.{Accepted}
use Rattle.sheet.specs.Layout as layout
use Rattle.sheet.specs.Layout.{row_at}
use Rattle.sheet.specs.Verdict.{counts_from}
use Rattle.sheet.specs.declared.line.Layout.{Layout}
use Rattle.tags.specs.Tags.{tag_of}
use Rattle.tree.specs.Node.{tag}
use Rattle.tree.specs.Page.{node_at}
use Rattle.visits.specs.Visiting.{Noted}

module _ {s : Bytes} {l : Layout} {depths tags attributes values lengths : List ℕ} where
  pub noted : Accepted s l → depths ≡ layout.depths s l
      → l.nodes ≤ length tags → l.nodes ≤ length attributes → l.nodes ≤ length values → l.nodes ≤ length lengths
      → ((i : ℕ) → i < l.nodes → get_or tags i 0 ≡ tag_of (tag (node_at s l i)))
      → ((i : ℕ) → i < l.nodes → get_or attributes i 0 ≡ counts_from s l 0 i)
      → ((i : ℕ) → i < l.nodes → get_or values i 0 ≡ (row_at s l i).value_at)
      → ((i : ℕ) → i < l.nodes → get_or lengths i 0 ≡ (row_at s l i).value_len)
      → Noted s l depths tags attributes values lengths
  noted accepted column tags_long attributes_long values_long lengths_long tag_number first value_at value_len =
      record {
        accepted = accepted;
        column = column;
        tags_long = tags_long;
        attributes_long = attributes_long;
        values_long = values_long;
        lengths_long = lengths_long;
        visits = λ i d children end row.
            record {
              accepted = accepted;
              inside = row.inside;
              tag_is = tag_number i row.inside;
              first_is = first i row.inside;
              value_at = value_at i row.inside;
              value_len = value_len i row.inside;
              shown = row.shown;
            };
      }
