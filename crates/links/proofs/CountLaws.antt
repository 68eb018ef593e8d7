-- One row's step as the code makes it, that its sums stay small, and what the pass gives.
use Rattle.std.proofs.Common.{◌≡◌, ℕ, zero, suc, ◌+◌, ◌-◌, ◌*◌, ◌<◌, ◌≤◌, min, Bool, true, false, List, [], ◌∷◌, length, get_or, set, replicate, sym, refl, ap, ◌∙◌, le_trans, mul-le-mul_left, add-one, arith, length-set}
use lib.ListN.{length-replicate}
use Rattle.common.specs.Bytes.{Bytes}
use Rattle.sheet.specs.Accepted.{Accepted}
use Rattle.sheet.specs.Layout.{most_rows, most_depth, row_at, depths}
use Rattle.sheet.specs.declared.line.Layout.{Layout}
use Rattle.sheet.specs.declared.line.Row.{Row}
use Rattle.text.specs.Text.{is_space, collapse_from, space_after, collapse, collapse_by}
use Rattle.tree.specs.Node.{Node}
use Rattle.tree.specs.Page.{widest_pool, node_at}
use Rattle.tree.specs.TextContent.{text_data}
use Rattle.tree.proofs.Column.{below_length, past_length, depth_is, depth_small}
use Rattle.tree.proofs.SheetColumn.{well_formed}
use Rattle.tree.proofs.TextLengths.{length_small, whole_small}
use Rattle.links.specs.Counting.{with_text, count_row, around_after, Room, CountsUpTo}
use Rattle.links.specs.Links.{is_link, text_bytes, link_bytes}
use Rattle.links.specs.declared.counts.Counting.{Counting}
use Rattle.links.proofs.Counted.{Counted, counted_done, counted_stop, counted_more}
use Rattle.links.proofs.LinkBounds.{counts_bounded}
use Rattle.links.proofs.Paths.{below_mono, below_most}

-- ---- a text by itself, and behind a blank

pub own_empty : (space : Bool) (t : Bytes) → length t ≡ 0 → length (collapse_from is_space space t) ≡ length (collapse t)
unfolding collapse_by collapse_from
own_empty space [] e = refl
own_empty space (b ∷ t) e = absurd (omega arith)

pub own_blank : (space : Bool) (t : Bytes) → space ≡ true → (length t ≡ 0 → ⊥) → is_space (get_or t 0 0) ≡ true → length (collapse_from is_space space t) + 1 ≡ length (collapse t)
unfolding collapse_by collapse_from
own_blank space [] s n e = absurd (n refl)
own_blank space (b ∷ t) s n e = rw (s, e) (omega arith)

pub own_other : (space : Bool) (t : Bytes) → is_space (get_or t 0 0) ≡ false → length (collapse_from is_space space t) ≡ length (collapse t)
unfolding collapse_by collapse_from
own_other space [] e = refl
own_other space (b ∷ t) e = rw e

pub own_start : (space : Bool) (t : Bytes) → space ≡ false → length (collapse_from is_space space t) ≡ length (collapse t)
unfolding collapse_by
own_start space t e = rw e

-- ---- one text more

module _ (c : Counting) (depth above old : ℕ) (t : Bytes) where
  pub with_none : length t ≡ 0 → c ≡ with_text c depth above old t
  with_none e = go t e
    where
      go : (t : Bytes) → length t ≡ 0 → c ≡ with_text c depth above old t
      go [] e = refl
      go (b ∷ t) e = absurd (omega arith)

  module _ (some : length t ≡ 0 → ⊥) {len own : ℕ} (len_is : len ≡ length (collapse_from is_space c.space t)) (own_is : own ≡ length (collapse t)) where
    pub with_some : {links : ℕ} {space : Bool} → links ≡ c.links + old * len + (above - old) * own → space ≡ space_after is_space c.space t
        → record { text = c.text + len; links = links; space = space; low = depth } ≡ with_text c depth above old t
    with_some {links} {space} m s = rw (m, len_is, own_is, s) (go t some)
      where
        go : (t : Bytes) → (length t ≡ 0 → ⊥)
            → record { text = c.text + length (collapse_from is_space c.space t); links = c.links + old * length (collapse_from is_space c.space t) + (above - old) * length (collapse t); space = space_after is_space c.space t; low = depth }
            ≡ with_text c depth above old t
        go [] n = absurd (n refl)
        go (b ∷ t) n = refl

    pub some_text : (with_text c depth above old t).text ≡ c.text + len
    some_text = sym (ap (λ (k : Counting). k.text) (with_some refl refl))

    pub some_links : (with_text c depth above old t).links ≡ c.links + old * len + (above - old) * own
    some_links = sym (ap (λ (k : Counting). k.links) (with_some refl refl))

-- ---- one row more

module _ (n : Node) (depth : ℕ) (c : Counting) (around : List ℕ) {low : ℕ} (low_is : low ≡ min c.low depth) where
  pub row_other : text_data n ≡ [] → record { text = c.text; links = c.links; space = c.space; low = low } ≡ count_row n depth c around
  row_other e = rw (e, low_is)

  pub row_text : {t : Bytes} {r : Counting} {above old : ℕ} → text_data n ≡ t → above ≡ get_or around depth 0 → old ≡ get_or around low 0
      → r ≡ with_text (record { text = c.text; links = c.links; space = c.space; low = low }) depth above old t → r ≡ count_row n depth c around
  row_text e a o q = q ∙ rw (a, o, low_is, ← e)

  pub row_room : {t : Bytes} → text_data n ≡ t → Room n depth c around
      → let k = with_text (record { text = c.text; links = c.links; space = c.space; low = low }) depth (get_or around depth 0) (get_or around low 0) t in
      (get_or around low 0 ≤ get_or around depth 0) × (k.text ≤ most_rows * widest_pool) × (k.links ≤ most_depth * (most_rows * widest_pool))
  row_room {t} e r =
      let q = row_text e refl refl refl in
      (rw low_is r.ordered, rw q r.text, rw q r.links)

module _ (n : Node) (depth : ℕ) (around : List ℕ) where
  pub around_link : is_link n ≡ true → set around (depth + 1) (get_or around depth 0 + 1) ≡ around_after n depth around
  around_link e = rw (e, add-one, add-one)

  pub around_other : is_link n ≡ false → set around (depth + 1) (get_or around depth 0) ≡ around_after n depth around
  around_other e = rw (e, add-one)

pub zeros : (n e : ℕ) → ◌≡◌ {A = ℕ} (get_or (replicate n 0) e 0) 0
zeros zero e = refl
zeros (suc n) zero = refl
zeros (suc n) (suc e) = zeros n e

pub zeros_size : {around : List ℕ} → around ≡ replicate (most_depth + 2) 0 → length around ≡ most_depth + 2
zeros_size e = ap length e ∙ length-replicate {A = ℕ} (most_depth + 2) 0

-- ---- the sums stay small

module _ {s : Bytes} {l : Layout} (a : Accepted s l) where
  pub links_small : (i : ℕ) → i < l.nodes → link_bytes (node_at s l) (depths s l) i ≤ most_depth * (most_rows * widest_pool)
  links_small i h = le_trans (counts_bounded s l a i h).1 (mul-le-mul_left most_depth (whole_small a))

  -- ---- the pass: row i at depth d is measured, row j is the next

  module _ {i j d : ℕ} {c : Counting} {around : List ℕ} (h : i < l.nodes) (d_is : d ≡ get_or (depths s l) i 0) (k : Counted (node_at s l) (depths s l) i j c around) where
    abbrev Answers : ℕ → Type 0
    Answers most = CountsUpTo most (node_at s l) (depths s l) i (record { text = c.text; links = c.links })

    exact : (most : ℕ) → (c.text ≡ text_bytes (node_at s l) (depths s l) i) × (c.links ≡ link_bytes (node_at s l) (depths s l) i) → Answers most
    exact most e = record { within = λ g. rw (e.0, e.1); beyond = λ g. omega (arith, e.0) }

    pub pass_done : (most : ℕ) → l.nodes ≤ j → Answers most
    pass_done most g = exact most (counted_done (node_at s l) (depths s l) (well_formed a) i k (past_length s l j g))

    pub pass_beyond : {most : ℕ} → most < c.text → Answers most
    pass_beyond g = record { within = λ n. absurd (omega (arith, k.text_sum)); beyond = λ n. g }

    module _ {r : Row} (g : j < l.nodes) (r_is : r ≡ row_at s l j) where
      depth_here : r.depth ≡ get_or (depths s l) j 0
      depth_here = depth_is s l j g (ap (λ (r : Row). r.depth) r_is)

      pub pass_stop : (most : ℕ) → r.depth ≤ d → Answers most
      pass_stop most n = exact most (counted_stop (node_at s l) (depths s l) (well_formed a) i k r.depth (below_length s l j g) depth_here (omega arith))

      -- one that stands below row i
      module _ (size : length around ≡ most_depth + 2) (deeper : d < r.depth) where
        deep : r.depth ≤ most_depth
        deep = rw r_is (depth_small s l a j g)

        next : Counted (node_at s l) (depths s l) i (j + 1) (count_row (node_at s l j) r.depth c around) (around_after (node_at s l j) r.depth around)
        next = counted_more (node_at s l) (depths s l) (well_formed a) i k r.depth (below_length s l j g) depth_here (omega arith) (omega (arith, deep))

        pub pass_room : Room (node_at s l j) r.depth c around
        pass_room =
            let m = min c.low r.depth in
            let top : r.depth ≤ k.top = omega (arith, depth_here, k.next (below_length s l j g)) in
            record {
              deep = deep;
              size = size;
              ordered = omega (arith, k.around_is m (omega arith), k.around_is r.depth top, below_mono m r.depth k.path (omega arith));
              few = omega (arith, k.around_is r.depth top, below_most r.depth k.path, k.few, a.sized.nodes);
              text = omega (arith, next.text_sum, length_small a i h);
              links = omega (arith, next.links_sum, links_small i h);
            }

        pub pass_more : {n : Counting} {after : List ℕ} → n ≡ count_row (node_at s l j) r.depth c around → after ≡ around_after (node_at s l j) r.depth around
            → (length after ≡ most_depth + 2) × Counted (node_at s l) (depths s l) i (j + 1) n after
        pass_more p q = (ap length q ∙ simp length-set size, rw (p, q) next)
