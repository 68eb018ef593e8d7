-- The Rust's loop hides what the filters leave out: the depth that it counts is the row's less that of the body.
use Rattle.std.specs.Prelude.{Option, None, Some}
use mathlib.Core.Path.{◌≡◌, refl, ap, ap₂}
use mathlib.Core.Bool.{Bool, false, ◌&&◌, ◌||◌, not}
use mathlib.Core.List.{List, [], ◌∷◌}
use Prim.Native.Nat.{ℕ, zero, suc, ◌+◌, ◌-◌}
use native.Mathlib.Nat.{zero-add}
use native.Mathlib.Omega.{arith}
use lib.ListN.{get_or}
use Rattle.common.proofs.Choice.{by_test}
use Rattle.filters.specs.Filters.{is_main_content, filter_depth, filtered}
use Rattle.filters.specs.Footer.{is_body, body_from}
use Rattle.html2text.specs.Bounds.{Going}
use Rattle.html2text.specs.Collect.{Entry}
use Rattle.html2text.specs.Extract.{hidden, serialized}
use Rattle.html2text.specs.Serialize.{step}
use Rattle.html2text.specs.Theorems.{HidesRows}
use Rattle.html2text.proofs.GoingLaws.{going_taken}
use Rattle.options.specs.Options.{with_icons, with_missing_alt}
use Rattle.options.specs.declared.ExtractOptions.{ExtractOptions}
use Rattle.sheet.specs.Column.{parent_of}
use Rattle.tree.specs.Page.{Page}
use Rattle.tree.proofs.Scans.{above_found}
use Rattle.reader.specs.Extraction.{filters}
use Rattle.reader.specs.Rust.{base_from, base_depth, rust_hidden, rust_state, rust_options}

module _ (p : Page) where
  -- the steps to the nearest body are the depths between
  abbrev Steps : ℕ → ℕ → Type 0
  Steps above i = base_from p above i + get_or p.depths (body_from p.node p.depths above i) 0 ≡ get_or p.depths i 0

  base_steps : (above i : ℕ) → Steps above i
  unfolding base_from body_from
  base_steps zero i = zero-add (get_or p.depths i 0)
  base_steps (suc above) i =
      by_test (is_body (p.node i)) (λ e. rw (e, base_from, body_from) (zero-add (get_or p.depths i 0))) (go (parent_of p.depths i) refl (base_steps above))
    where
      go : (q : Option ℕ) → parent_of p.depths i ≡ q → ((j : ℕ) → Steps above j) → is_body (p.node i) ≡ false → Steps (suc above) i
      go None u more e = rw (e, u, base_from, body_from) (zero-add (get_or p.depths i 0))
      go (Some q) u more e =
          rw (e, u, base_from, body_from) (omega (arith, (above_found p.depths (get_or p.depths i 0) i q u).1, more q))

  pub hides_rows : (o : ExtractOptions) → HidesRows p (rust_hidden p o) (hidden (filters p.node p.depths p.root o) p o)
  unfolding filtered filter_depth
  hides_rows o i d e =
      let body = get_or p.depths (body_from p.node p.depths (get_or p.depths p.root 0) p.root) 0 in
      let main : ℕ → Bool = λ k. is_main_content p.node p.depths o i k in
      let depth : d + base_depth p ≡ get_or p.depths i 0 - body = omega (arith, base_steps (get_or p.depths p.root 0) p.root) in
      ap (λ (k : ℕ). p.marked i || (o.main_content && not (main k))) depth

-- as long as no entry is refused, the run is the Rust's
pub going_serialized : (o : ExtractOptions) (es : List Entry) → Going (λ S. S ≡ rust_state o es) (serialized o es)
unfolding serialized rust_state
going_serialized o [] = refl
going_serialized o (e ∷ before) =
    let taken = step o.formatting o.list_bullets e.node e.text in
    going_taken (λ S. S ≡ rust_state o before) (λ S. S ≡ taken (rust_state o before)) o.formatting o.list_bullets e (serialized o before)
    (λ S a b q. ap taken q) (going_serialized o before)

-- with our added option at 0 the options are the Rust's
pub rust_options_law : (o : ExtractOptions) → o.icons ≡ false → o.missing_alt ≡ false → o ≡ rust_options o
rust_options_law o icons missing = ap₂ (λ (b c : Bool). with_missing_alt c (with_icons b o)) icons missing
