-- What the Rust gives: `extract_plain_text` of html2text.rs from the point where root and blacklist are known, by `collect`, `serialize` and
-- `is_main_content` as html2text/specs and filters/specs have them. It has none of our limits and none of our added options.
use Rattle.std.specs.Prelude.{Bool, ◌&&◌, ◌||◌, not, List, [], ◌∷◌, get_or, None, Some}
use Rattle.std.proofs.Math.Bool.{true, false}
use Prim.Native.Nat.{ℕ, zero, suc, ◌+◌}
use Rattle.common.specs.Bytes.{Bytes}
use Rattle.filters.specs.Filters.{is_main_content}
use Rattle.filters.specs.Footer.{is_body}
use Rattle.html2text.specs.Collect.{Entry}
use Rattle.html2text.specs.Extract.{finished}
use Rattle.html2text.specs.Serialize.{State, start, step}
use Rattle.html2text.specs.Walk.{Sofar, loop}
use Rattle.options.specs.Options.{with_icons, with_missing_alt}
use Rattle.options.specs.declared.ExtractOptions.{ExtractOptions}
use Rattle.sheet.specs.Column.{parent_of}
use Rattle.tree.specs.Page.{Page}

module _ (p : Page) where
  -- `while tag(&parent) != "body"`, with so many rows above row i: how often `base_depth += 1` is met
  unfoldable pub base_from : ℕ → ℕ → ℕ
  unfolding is_body
  base_from zero i = 0
  base_from (suc above) i =
      elim (is_body (p.node i)) [ true ↦ 0 | false ↦ elim (parent_of p.depths i) [ None ↦ 0 | Some parent ↦ suc (base_from above parent) ] ]

  -- `base_depth`; a row at depth d has d rows above it
  abbrev pub base_depth : ℕ
  base_depth = base_from (get_or p.depths p.root 0) p.root

  module _ (o : ExtractOptions) where
    -- `blacklist.contains(&id) || (opts.main_content && !is_main_content(&node, depth + base_depth, opts))`
    abbrev pub rust_hidden : ℕ → ℕ → Bool
    rust_hidden i d = p.marked i || (o.main_content && not (is_main_content p.node p.depths o i (d + base_depth)))

    -- the loop over the rows: its entries and its passes
    abbrev pub rust_loop : Sofar
    rust_loop = loop p rust_hidden o

-- `serialize`, all entries, with no limit; entries are held newest first
unfoldable pub rust_state : ExtractOptions → List Entry → State
rust_state o [] = start
rust_state o (e ∷ before) = step o.formatting o.list_bullets e.node e.text (rust_state o before)

-- the options that the Rust has: our added ones at 0
abbrev pub rust_options : ExtractOptions → ExtractOptions
rust_options o = with_missing_alt false (with_icons false o)

-- `Ok(serialize(nodes, opts))`, with the last `rstrip(&mut out)`
unfoldable pub rust_text : Page → ExtractOptions → Bytes
unfolding rust_state
rust_text p o = finished (rust_state (rust_options o) (rust_loop p (rust_options o)).nodes)
