-- Link bytes by depth: a text stands in at most as many links as its row is deep.
use Rattle.std.proofs.Common.{◌≡◌, ℕ, zero, suc, ◌+◌, ◌-◌, ◌*◌, ◌<◌, ◌≤◌, false, cond, List, [], ◌∷◌, ◌++◌, length, get_or, drop, refl, ap, ◌∙◌, le_trans, mul-le-mul_right, mul-le-mul_left, add-one, arith, length-append}
use Rattle.common.proofs.Choice.{by_test}
use Rattle.sheet.specs.Layout.{most_depth, depths}
use Rattle.sheet.proofs.LayoutLaws.{depths_from_length, depths_at}
use Rattle.text.specs.Text.{is_space}
use Rattle.text.proofs.CollapseLaws.{collapse_from_length}
use Rattle.tree.specs.Node.{Node}
use Rattle.tree.specs.Page.{node_at}
use Rattle.tree.specs.Rows.{WellFormed, rows_from, past_from}
use Rattle.tree.specs.TextContent.{text_data, concatenated}
use Rattle.tree.proofs.Column.{depth_small}
use Rattle.tree.proofs.Descendants.{descendants, rows_done, rows_more}
use Rattle.tree.proofs.PastLaws.{above_or_not, past_low, past_skip}
use Rattle.tree.proofs.Scans.{past_stop, past_more, past_done}
use Rattle.tree.proofs.SheetColumn.{well_formed}
use Rattle.tree.proofs.TextLaws.{concatenated_append}
use Rattle.tree.proofs.TextLengths.{length_below_of, below_small, length_in_pool}
use Rattle.links.specs.Exact.{LinksByDepth, CountsBounded}
use Rattle.links.specs.Links.{is_link, text_bytes, links_among, link_bytes}
use Rattle.links.proofs.LinkLaws.{link_element}

-- ---- runs of rows

rows_split : (k n m : ℕ) → rows_from k (n + m) ≡ rows_from k n ++ rows_from (k + n) m
unfolding rows_from
rows_split k zero m = let a : zero + m ≡ m = omega arith in let b : k + zero ≡ k = omega arith in rw (a, b)
rows_split k (suc n) m =
    let a : suc n + m ≡ suc (n + m) = omega arith in
    let b : k + suc n ≡ suc k + n = omega arith in
    rw (a, b) (ap (λ (t : List ℕ). k ∷ t) (rows_split (suc k) n m))

module _ (depths : List ℕ) where
  -- the rows from row k on, up to the first one that is not deeper than e
  abbrev pub run : ℕ → ℕ → List ℕ
  run e k = rows_from k (past_from e k (drop k depths) - k)

  -- first those that are deeper than d
  pub run_split : (e d k : ℕ) → e ≤ d → run e k ≡ run d k ++ run e (past_from d k (drop k depths))
  run_split e d k h =
      let p = past_from d k (drop k depths) in
      let q = past_from e p (drop p depths) in
      let low : k ≤ p = past_low d k (drop k depths) in
      let high : p ≤ q = past_low e p (drop p depths) in
      let whole : q - k ≡ (p - k) + (q - p) = omega arith in
      let start : k + (p - k) ≡ p = omega arith in
      rw (past_skip depths d e h k) (ap (rows_from k) whole ∙ rows_split k (p - k) (q - p) ∙ ap (λ (i : ℕ). rows_from k (p - k) ++ rows_from i (q - p)) start)

  module _ (k x : ℕ) (h : k < length depths) (x_is : x ≡ get_or depths k 0) where
    pub run_more : (e : ℕ) → e < x → run e k ≡ k ∷ run e (suc k)
    run_more e g =
        rw (past_more depths e k x h x_is g) (rw add-one (rows_more k (past_from e (suc k) (drop (suc k) depths)) (past_low e (suc k) (drop (suc k) depths))))

    -- a row, what stands below it, and what stands behind that
    pub run_here : (e : ℕ) → e < x → run e k ≡ k ∷ (run x (suc k) ++ run e (past_from x (suc k) (drop (suc k) depths)))
    run_here e g = run_more e g ∙ ap (λ (t : List ℕ). k ∷ t) (run_split e x (suc k) (omega arith))

-- ---- the bound

one_more : (a b r : ℕ) → suc a ≤ b → r + a * r ≤ b * r
one_more a b r h = let e : b ≡ suc a + (b - suc a) = omega arith in rw e (omega arith)

spread : {n : ℕ} (b whole one two : ℕ) → one + two ≤ whole → n ≤ b * one + b * two → n ≤ b * whole
spread b whole one two h g = let e : whole ≡ one + two + (whole - (one + two)) = omega arith in rw e (omega arith)

module _ (node_of : ℕ → Node) (depths : List ℕ) where
  -- what row j adds as a link
  abbrev own : ℕ → ℕ
  own j = cond (is_link (node_of j)) (text_bytes node_of depths j) 0

  links_cons : (j : ℕ) (rows : List ℕ) → links_among node_of depths (j ∷ rows) ≡ own j + links_among node_of depths rows
  unfolding links_among
  links_cons j rows = by_test (is_link (node_of j)) (λ e. rw (e, links_among)) (λ e. rw (e, links_among) (omega arith))

  pub links_append : (r t : List ℕ) → links_among node_of depths (r ++ t) ≡ links_among node_of depths r + links_among node_of depths t
  unfolding links_among
  links_append [] t = omega arith
  links_append (j ∷ r) t = omega (arith, links_cons j (r ++ t), links_cons j r, links_append r t)

  module _ (w : WellFormed depths) (most : ℕ) (deep : (j : ℕ) → j < length depths → get_or depths j 0 ≤ most) where
    -- the text of a run as it stands
    abbrev raw : ℕ → ℕ → ℕ
    raw e k = length (concatenated node_of (run depths e k))

    none_run : (e k : ℕ) → past_from e k (drop k depths) ≡ k → links_among node_of depths (run depths e k) ≤ (most - e) * raw e k
    unfolding links_among
    none_run e k h = rw (rows_done k (past_from e k (drop k depths)) (omega arith)) (omega arith)

    -- a link has at most the text below it
    own_bounded : (k : ℕ) → own k ≤ raw (get_or depths k 0) (suc k)
    own_bounded k =
        by_test (is_link (node_of k))
        (λ e.
        let t = rw add-one at (length_below_of node_of depths w k (link_element (node_of k) e)) in
        rw e (omega (arith, t, collapse_from_length is_space false (concatenated node_of (run depths (get_or depths k 0) (suc k))))))
        (λ e. rw e (omega arith))

    raw_two : (e k : ℕ) (inner outer : List ℕ) → run depths e k ≡ k ∷ (inner ++ outer)
        → length (concatenated node_of inner) + length (concatenated node_of outer) ≤ raw e k
    unfolding concatenated
    raw_two e k inner outer q =
        rw (q, concatenated_append node_of inner outer)
        (omega (arith, length-append (text_data (node_of k)) (concatenated node_of inner ++ concatenated node_of outer), length-append (concatenated node_of inner) (concatenated node_of outer)))

    run_bounded : (fuel e k : ℕ) → length depths ≤ k + fuel → links_among node_of depths (run depths e k) ≤ (most - e) * raw e k
    run_bounded zero e k f = none_run e k (past_done depths e k (omega arith))
    run_bounded (suc fuel) e k f =
        above_or_not (length depths) k
        (λ h.
        let x = get_or depths k 0 in
        above_or_not x e
        (λ g.
        let p = past_from x (suc k) (drop (suc k) depths) in
        let inner = run depths x (suc k) in
        let outer = run depths e p in
        let rows : run depths e k ≡ k ∷ (inner ++ outer) = run_here depths k x h refl e g in
        let first = run_bounded fuel x (suc k) (omega arith) in
        let rest = run_bounded fuel e p (omega (arith, past_low x (suc k) (drop (suc k) depths))) in
        let links = ap (links_among node_of depths) rows ∙ links_cons k (inner ++ outer) in
        let more = one_more (most - x) (most - e) (raw x (suc k)) (omega (arith, deep k h)) in
        spread (most - e) (raw e k) (raw x (suc k)) (raw e p) (raw_two e k inner outer rows)
        (omega (arith, links, links_append inner outer, first, rest, own_bounded k, more)))
        (λ g. none_run e k (past_stop depths e k x h refl g)))
        (λ h. none_run e k (past_done depths e k h))

pub links_by_depth : LinksByDepth
unfolding link_bytes
links_by_depth node_of depths w most deep i =
    let d = get_or depths i 0 in
    let less : most - d ≤ most = omega arith in
    rw (descendants depths w i)
    (le_trans (run_bounded node_of depths w most deep (length depths) d (suc i) (omega arith)) (mul-le-mul_right (raw node_of depths w most deep d (suc i)) less))

pub counts_bounded : CountsBounded
counts_bounded s l a i h =
    let d = depths s l in
    let rows : length d ≡ l.nodes = depths_from_length s l 0 l.nodes in
    let deep : (k : ℕ) → k < length d → get_or d k 0 ≤ most_depth = λ k g. let m : k < l.nodes = omega arith in omega (arith, depths_at s l k m, depth_small s l a k m) in
    (length_in_pool a i h, le_trans (links_by_depth (node_at s l) d (well_formed a) most_depth deep i) (mul-le-mul_left most_depth (below_small a i h)))
