-- Whether a visit opens an entry, and the one that it opens, by its event.
use mathlib.Core.Path.{◌≡◌}
use mathlib.Core.Bool.{Bool}
use Prim.Native.Nat.{ℕ}
use Rattle.common.specs.Bytes.{Bytes}
use Rattle.options.specs.declared.ExtractOptions.{ExtractOptions}
use Rattle.sheet.specs.declared.line.Layout.{Layout}
use Rattle.tree.specs.Page.{node_at}
use Rattle.html2text.specs.Collect.{tag_number, pushed_node, marked}
use Rattle.html2text.specs.Fused.{Fused, pushes_on}
use Rattle.collect.specs.Entries.{opens_on, node_of}
use Rattle.collect.specs.Visits.{Visits, event_of}
use Rattle.collect.specs.declared.Visit.{Visit}

module _ (o : ExtractOptions) {s : Bytes} {l : Layout} {v : Visit} (p : Visits s l v) where
  pub opens_is : {any : Bool} {last : ℕ} (F : Fused) → any ≡ F.any → last ≡ F.node.depth → opens_on o any last v ≡ pushes_on o F (event_of s l v)
  opens_is F any_is last_is = rw (any_is, last_is, p.tag_is)

  pub node_is : (before : ℕ) → marked o v.tag (node_of o before v) ≡ marked o (tag_number (node_at s l v.row)) (pushed_node o before (event_of s l v))
  node_is before = rw p.tag_is
