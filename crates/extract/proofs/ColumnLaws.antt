-- From the columns of `take_rows` and the rows that are left out to what the passes ask for, and to the page's extraction.
use Rattle.std.specs.Prelude.{Result}
use mathlib.Core.Path.{◌≡◌}
use mathlib.Core.Bool.{Bool, true, false}
use mathlib.Core.List.{List, []}
use Prim.Native.Nat.{ℕ, ◌≤◌}
use lib.ListN.{length, take}
use Rattle.common.specs.Bytes.{Bytes}
use Rattle.options.specs.declared.ExtractOptions.{ExtractOptions}
use Rattle.sheet.specs.Accepted.{Accepted}
use Rattle.sheet.specs.declared.line.Layout.{Layout}
use Rattle.sheet.proofs.LayoutLaws.{depths_from_length}
use Rattle.tree.specs.Page.{node_at, page_of}
use Rattle.filters.specs.Filters.{filtered}
use Rattle.writer.specs.Out.{greater}
use Rattle.html2text.specs.Escapes.{bytes_escaped, escaped_length, read_in}
use Rattle.html2text.specs.Extract.{hidden, longest_names}
use Rattle.html2text.specs.Fused.{closed}
use Rattle.html2text.specs.declared.ExtractError.{ExtractError}
use Rattle.html2text.specs.declared.Extracted.{Extracted}
use Rattle.walk.specs.Rows.{Columns, RowsRead}
use Rattle.walk.proofs.RowLaws.{column_is}
use Rattle.visits.specs.Visiting.{Noted, Walked, events_in, passes_of, run_of}
use Rattle.visits.proofs.NotedLaws.{noted}
use Rattle.visits.proofs.WalkedLaws.{events_of_passes, visits_of_passes, walked}
use Rattle.left_out.specs.LeftOut.{LeftOutRows}
use Rattle.extract.specs.Concluding.{Concludes, names_need, Extracts}
use Rattle.extract.proofs.ExtractLaws.{extracts, reads}

module _ {s : Bytes} {l : Layout} {ds ts fs vs ls : List ℕ} {bs : List Bool} (room : Columns l.nodes ds ts fs vs ls bs) (read : RowsRead s l l.nodes ds ts fs vs ls bs) where
  pub visits_noted : Accepted s l → Noted s l (take l.nodes ds) ts fs vs ls
  visits_noted accepted =
      noted accepted (column_is s l read room.depths_long) room.tags_long room.attributes_long room.values_long room.lengths_long
      read.tag_number read.first read.value_at read.value_len

-- ---- what `work` must hold beside the texts

module _ (s : Bytes) (l : Layout) (o : ExtractOptions) where
  pub names_asked : {n : ℕ} → o.main_content ≡ true → n ≡ longest_names (node_at s l) l.nodes → n ≡ names_need (page_of s l) o
  names_asked e n = rw (e, depths_from_length s l 0 l.nodes) n

  pub names_not_asked : o.main_content ≡ false → 0 ≡ names_need (page_of s l) o
  names_not_asked e = rw e

-- ---- the rows that are left out

module _ (s : Bytes) (l : Layout) (o : ExtractOptions) (left : List Bool) (agree : LeftOutRows s l o left) where
  pub rows_walked : Accepted s l → l.nodes ≤ length left → Walked s l o left
  rows_walked accepted long = walked s l left (hidden (filtered (page_of s l) o) (page_of s l) o) agree o accepted long

  pub rows_extract : {names : ℕ} {out work out' work' : Bytes} {r : Result Extracted ExtractError} {n : ℕ} → names ≡ names_need (page_of s l) o
      → Concludes (greater (run_of s l o left).note.peak names) (length (passes_of s l left)) (closed o (run_of s l o left)) out work r out' work'
      → n ≡ read_in r (bytes_escaped o [] (events_in s l (passes_of s l left)))
      → Extracts (filtered (page_of s l) o) (page_of s l) o out work r out' work' × (n ≡ read_in r (escaped_length (filtered (page_of s l) o) (page_of s l) o))
  rows_extract {r = r} m k e =
      let h = hidden (filtered (page_of s l) o) (page_of s l) o in
      let same = events_of_passes s l left h agree in
      (extracts s l o (filtered (page_of s l) o) left same (visits_of_passes s l left h agree) m k, reads s l o (filtered (page_of s l) o) left same r e)
