-- The entry that a visit opens, by the visit's numbers.
use Rattle.std.specs.Prelude.{Bool, true, ◌||◌, not, ℕ}
use Rattle.options.specs.Options.{is_minimal_html}
use Rattle.options.specs.declared.ExtractOptions.{ExtractOptions}
use Rattle.tags.specs.Tags.{is_block_tag, is_big_block}
use Rattle.html2text.specs.Collect.{pushes_after, pre_depth_of}
use Rattle.html2text.specs.declared.ExtractNode.{ExtractNode}
use Rattle.collect.specs.declared.Visit.{Visit}

-- whether a visit opens an entry; `any`: whether one is open, at depth `last`
abbrev pub opens_on : ExtractOptions → Bool → ℕ → Visit → Bool
opens_on o any last v = not any || pushes_after o last v.tag v.depth

-- `pushed_node` of its event
abbrev pub node_of : ExtractOptions → ℕ → Visit → ExtractNode
node_of o before v =
    record {
      tag = v.tag;
      has_children = v.children;
      depth = v.depth;
      pre_depth = pre_depth_of v.tag v.end before;
      collapse_margins = true;
      block = is_block_tag v.tag;
      big_block = is_big_block v.tag;
      end = v.end;
      escape = is_minimal_html o.formatting;
    }
