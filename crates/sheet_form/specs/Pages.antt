-- What a decoded sheet shows: the page of its rows, with the bytes of its ranges.
use Rattle.std.specs.Prelude.{map, ℕ, eqb, take, drop}
use Rattle.sheet.specs.declared.line.Attribute as line
use Rattle.tree.specs.Node.{Node, Attribute}
use Rattle.tree.specs.Page.{Page, kind_of}
use Rattle.sheet_form.specs.Decoded.{Decoded, counts_of, row_in, range_in, depths_in}

module _ (d : Decoded) where
  abbrev pub shown : line.Attribute → Attribute
  shown a = record { name = range_in d a.name_at a.name_len; value = range_in d a.value_at a.value_len }

  -- a row's attributes stand behind those of the rows before it
  unfoldable pub node_in : ℕ → Node
  node_in i =
      record {
        kind = kind_of (row_in d i).kind;
        name = range_in d (row_in d i).name_at (row_in d i).name_len;
        value = range_in d (row_in d i).value_at (row_in d i).value_len;
        attributes = map shown (take (row_in d i).attributes (drop (counts_of (take i d.rows)) d.attributes));
      }

  abbrev pub page_in : Page
  page_in = record { depths = depths_in d; node = node_in; marked = λ i. eqb (row_in d i).skip 1; root = d.root }
