-- Text bytes and link bytes counted together, row by row: what is counted and what is still to come are the counts of the whole.
use Rattle.std.proofs.Common.{◌≡◌, ℕ, suc, ◌+◌, ◌-◌, ◌*◌, ◌<◌, ◌≤◌, min, Bool, true, false, cond, ltb, List, [], ◌∷◌, length, get_or, drop, set, sym, refl, ap, ◌∙◌, add-one, arith, length-append, get_or-set_other, get_or-set_same, le-ltb, lt-ltb}
use Rattle.common.specs.Bytes.{Bytes}
use Rattle.common.proofs.Choice.{by_test}
use Rattle.text.specs.Text.{is_space, collapse_from, space_after, collapse_by}
use Rattle.text.proofs.CollapseLaws.{collapse_append}
use Rattle.tree.specs.Node.{element, Node}
use Rattle.tree.specs.Rows.{WellFormed, rows_from, past_from}
use Rattle.tree.specs.TextContent.{text_data}
use Rattle.tree.proofs.Descendants.{descendants, rows_done, rows_more}
use Rattle.tree.proofs.PastLaws.{past_low}
use Rattle.tree.proofs.Scans.{past_stop, past_more, past_done}
use Rattle.tree.proofs.TextLaws.{text_below, text_below_done, text_below_stop, text_below_more}
use Rattle.tree.proofs.TextLengths.{length_below_of, length_more}
use Rattle.links.specs.Counting.{with_text, lowered, count_row, around_after}
use Rattle.links.specs.Links.{is_link, text_bytes, links_among, link_bytes}
use Rattle.links.specs.declared.counts.Counting.{Counting}
use Rattle.links.proofs.LinkLaws.{link_element, link_no_data}
use Rattle.links.proofs.Paths.{below, kept, Deep, none, more, by_depth, below_yes, below_no, kept_yes, kept_no, below_mono, kept_most, kept_deep, below_kept, below_next}

-- one link more that has text already, or that has none
add_old : (a b k o : ℕ) → a ≤ b → suc a * k + (suc b - suc a) * o ≡ k + (a * k + (b - a) * o)
add_old a b k o h = let e : suc b - suc a ≡ b - a = omega arith in rw e (omega arith)

add_new : (a b k o : ℕ) → a ≤ b → a * k + (suc b - a) * o ≡ o + (a * k + (b - a) * o)
add_new a b k o h = let e : suc b - a ≡ suc (b - a) = omega arith in rw e (omega arith)

module _ (node_of : ℕ → Node) (depths : List ℕ) where
  -- ---- what is still to come of the links that are open

  -- whether a blank stands before it: not where the link has no text yet
  abbrev behind : Bool → ℕ → ℕ → Bool
  behind space low e = cond (ltb e low) space false

  -- of a link at depth e, from row j on
  abbrev to_come : Bool → ℕ → ℕ → ℕ → ℕ
  to_come space low j e = length (collapse_from is_space (behind space low e) (text_below node_of depths e j))

  unfoldable pub all_to_come : Bool → ℕ → ℕ → List ℕ → ℕ
  all_to_come space low j [] = 0
  all_to_come space low j (e ∷ path) = to_come space low j e + all_to_come space low j path

  module _ (space : Bool) (low j : ℕ) where
    none_to_come : (e : ℕ) → text_below node_of depths e j ≡ [] → to_come space low j e ≡ 0
    unfolding collapse_from
    none_to_come e q = rw q

    -- none where the rows end, or at a row that is less deep than all
    done_to_come : (path : List ℕ) → length depths ≤ j → all_to_come space low j path ≡ 0
    unfolding all_to_come
    done_to_come [] h = refl
    done_to_come (e ∷ path) h = omega (arith, none_to_come e (text_below_done node_of depths e j h), done_to_come path h)

    module _ (x : ℕ) (h : j < length depths) (x_is : x ≡ get_or depths j 0) where
      closed_to_come : (e : ℕ) → x ≤ e → to_come space low j e ≡ 0
      closed_to_come e g = none_to_come e (text_below_stop node_of depths e j x h x_is g)

      stop_to_come : (d : ℕ) (path : List ℕ) → x ≤ d → Deep d path → all_to_come space low j path ≡ 0
      unfolding all_to_come
      stop_to_come d [] g none = refl
      stop_to_come d (e ∷ path) g (more k p) = omega (arith, closed_to_come e (omega arith), stop_to_come d path g p)

      -- a row that is no text
      module _ (no_data : text_data (node_of j) ≡ []) where
        same_to_come : (e : ℕ) → e < x → to_come space low j e ≡ to_come space (min low x) (j + 1) e
        same_to_come e g =
            let t : text_below node_of depths e j ≡ text_below node_of depths e (j + 1) = text_below_more node_of depths e j x h x_is g ∙ rw no_data in
            rw t
            (by_depth e low
            (λ k. rw (lt-ltb e low k, lt-ltb e (min low x) (omega arith)))
            (λ k. rw (le-ltb e low k, le-ltb e (min low x) (omega arith))))

        all_same_to_come : (path : List ℕ) → all_to_come space low j path ≡ all_to_come space (min low x) (j + 1) (kept x path)
        unfolding all_to_come kept
        all_same_to_come [] = refl
        all_same_to_come (e ∷ path) =
            let r = all_same_to_come path in
            by_depth e x
            (λ g. rw (kept_yes x e path g) (omega (arith, same_to_come e g)))
            (λ g. rw (kept_no x e path g) (omega (arith, closed_to_come e g)))

      -- a text with some bytes
      module _ (b : ℕ) (t : Bytes) (data_is : text_data (node_of j) ≡ b ∷ t) where
        abbrev next : Bool
        next = space_after is_space space (b ∷ t)

        abbrev joined : ℕ
        joined = length (collapse_from is_space space (b ∷ t))

        abbrev alone : ℕ
        alone = length (collapse_from is_space false (b ∷ t))

        split_to_come : (before : Bool) (e : ℕ) → e < x → length (collapse_from is_space before (text_below node_of depths e j))
            ≡ length (collapse_from is_space before (b ∷ t)) + to_come next x (j + 1) e
        split_to_come before e g =
            rw (text_below_more node_of depths e j x h x_is g, data_is, collapse_append is_space before (b ∷ t) (text_below node_of depths e (j + 1)), lt-ltb e x g)
            (length-append (collapse_from is_space before (b ∷ t)) (collapse_from is_space next (text_below node_of depths e (j + 1))))

        old_to_come : (e : ℕ) → e < min low x → to_come space low j e ≡ joined + to_come next x (j + 1) e
        old_to_come e g = rw (lt-ltb e low (omega arith)) (split_to_come space e (omega arith))

        new_to_come : (e : ℕ) → min low x ≤ e → e < x → to_come space low j e ≡ alone + to_come next x (j + 1) e
        new_to_come e g k = rw (le-ltb e low (omega arith)) (split_to_come false e k)

        all_to_come_law : (path : List ℕ) → all_to_come space low j path
            ≡ below (min low x) path * joined + (below x path - below (min low x) path) * alone + all_to_come next x (j + 1) (kept x path)
        unfolding all_to_come below kept
        all_to_come_law [] = omega arith
        all_to_come_law (e ∷ path) =
            let m = min low x in
            let r = all_to_come_law path in
            let mono = below_mono m x path (omega arith) in
            by_depth e x
            (λ g.
            by_depth e m
            (λ k.
            rw (kept_yes x e path g, below_yes x e path g, below_yes m e path k, add_old (below m path) (below x path) joined alone mono)
            (omega (arith, old_to_come e k)))
            (λ k.
            rw (kept_yes x e path g, below_yes x e path g, below_no m e path k, add_new (below m path) (below x path) joined alone mono)
            (omega (arith, new_to_come e k g))))
            (λ g. rw (kept_no x e path g, below_no x e path g, below_no m e path (omega arith)) (omega (arith, closed_to_come e g)))

  -- ---- the links that begin at row j or behind it, below depth d

  abbrev pub links_below : ℕ → ℕ → ℕ
  links_below d j = links_among node_of depths (rows_from j (past_from d j (drop j depths) - j))

  module _ (d j : ℕ) where
    no_links : past_from d j (drop j depths) ≤ j → links_below d j ≡ 0
    unfolding links_among
    no_links h = rw (rows_done j (past_from d j (drop j depths)) h)

    links_done : length depths ≤ j → links_below d j ≡ 0
    links_done h = no_links (omega (arith, past_done depths d j h))

    module _ (x : ℕ) (h : j < length depths) (x_is : x ≡ get_or depths j 0) where
      links_stop : x ≤ d → links_below d j ≡ 0
      links_stop g = no_links (omega (arith, past_stop depths d j x h x_is g))

      rows_are : d < x → rows_from j (past_from d j (drop j depths) - j) ≡ j ∷ rows_from (j + 1) (past_from d (j + 1) (drop (j + 1) depths) - (j + 1))
      rows_are g =
          rw (past_more depths d j x h x_is g) (rw add-one (rows_more j (past_from d (suc j) (drop (suc j) depths)) (past_low d (suc j) (drop (suc j) depths))))

      links_here : d < x → is_link (node_of j) ≡ true → links_below d j ≡ text_bytes node_of depths j + links_below d (j + 1)
      unfolding links_among
      links_here g e = rw (rows_are g) (rw (e, links_among))

      links_next : d < x → is_link (node_of j) ≡ false → links_below d j ≡ links_below d (j + 1)
      unfolding links_among
      links_next g e = rw (rows_are g) (rw (e, links_among))

  -- ---- the loop

  -- row i is measured, row j is the next; `top` is the depth that row j has at most
  pub record Counted (i j : ℕ) (c : Counting) (around : List ℕ) : Type 0 where
    pub path : List ℕ
    pub top : ℕ
    pub deep : Deep (get_or depths i 0) path
    pub few : length path ≤ j
    pub next : j < length depths → get_or depths j 0 ≤ top
    pub low : c.low ≤ top
    pub around_is : (e : ℕ) → e ≤ top → get_or around e 0 ≡ below e path
    pub text_sum : c.text + length (collapse_from is_space c.space (text_below node_of depths (get_or depths i 0) j)) ≡ text_bytes node_of depths i
    pub links_sum : c.links + all_to_come c.space c.low j path + links_below (get_or depths i 0) j ≡ link_bytes node_of depths i

  module _ (w : WellFormed depths) (i : ℕ) where
    pub counted_start : {around : List ℕ} → i < length depths → (node_of i).kind ≡ element → ((e : ℕ) → get_or around e 0 ≡ 0)
        → Counted i (i + 1) (record { text = 0; links = 0; space = false; low = 0 }) around
    unfolding below all_to_come link_bytes
    counted_start h e z =
        let links : link_bytes node_of depths i ≡ links_below (get_or depths i 0) (i + 1) = ap (links_among node_of depths) (descendants depths w i) ∙ simp add-one in
        record {
          path = [];
          top = suc (get_or depths i 0);
          deep = none;
          few = omega arith;
          next = λ k. rw add-one (w.step i (rw add-one at k));
          low = omega arith;
          around_is = λ y k. z y;
          text_sum = omega (arith, length_below_of node_of depths w i e);
          links_sum = omega arith;
        }

    module _ {j : ℕ} {c : Counting} {around : List ℕ} (k : Counted i j c around) where
      pub counted_done : length depths ≤ j → (c.text ≡ text_bytes node_of depths i) × (c.links ≡ link_bytes node_of depths i)
      unfolding collapse_from
      counted_done h = (
        omega (arith, rw (text_below_done node_of depths (get_or depths i 0) j h) at k.text_sum),
        omega (arith, k.links_sum, done_to_come c.space c.low j k.path h, links_done (get_or depths i 0) j h),
      )

      module _ (x : ℕ) (h : j < length depths) (x_is : x ≡ get_or depths j 0) where
        pub counted_stop : x ≤ get_or depths i 0 → (c.text ≡ text_bytes node_of depths i) × (c.links ≡ link_bytes node_of depths i)
        unfolding collapse_from
        counted_stop g = (
          omega (arith, rw (text_below_stop node_of depths (get_or depths i 0) j x h x_is g) at k.text_sum),
          omega (arith, k.links_sum, stop_to_come c.space c.low j x h x_is (get_or depths i 0) k.path g k.deep, links_stop (get_or depths i 0) j x h x_is g),
        )

        module _ (g : get_or depths i 0 < x) (room : suc x < length around) where
          x_most : x ≤ k.top
          x_most = omega (arith, k.next h)

          step_down : j + 1 < length depths → get_or depths (j + 1) 0 ≤ suc x
          step_down q = rw (x_is, add-one) (w.step j (rw add-one at q))

          around_kept : (e : ℕ) → e ≤ suc x → get_or (set around (suc x) (get_or around x 0)) e 0 ≡ below e (kept x k.path)
          around_kept e q =
              by_depth e (suc x)
              (λ l. get_or-set_other around (suc x) e (get_or around x 0) 0 (omega arith) ∙ k.around_is e (omega (arith, x_most)) ∙ sym (below_kept e x k.path (omega arith)))
              (λ l.
              let e_is : e ≡ suc x = omega arith in
              rw e_is (get_or-set_same around (suc x) (get_or around x 0) 0 room ∙ k.around_is x x_most ∙ sym (below_next x k.path)))

          around_link : (e : ℕ) → e ≤ suc x → get_or (set around (suc x) (suc (get_or around x 0))) e 0 ≡ below e (x ∷ kept x k.path)
          around_link e q =
              by_depth e (suc x)
              (λ l.
              get_or-set_other around (suc x) e (suc (get_or around x 0)) 0 (omega arith) ∙ k.around_is e (omega (arith, x_most)) ∙ sym (below_kept e x k.path (omega arith))
              ∙ sym (below_no e x (kept x k.path) (omega arith)))
              (λ l.
              let e_is : e ≡ suc x = omega arith in
              rw e_is
              (get_or-set_same around (suc x) (suc (get_or around x 0)) 0 room ∙ ap suc (k.around_is x x_most ∙ sym (below_next x k.path))
              ∙ sym (below_yes (suc x) x (kept x k.path) (omega arith))))

          module _ (no_data : text_data (node_of j) ≡ []) where
            text_same : c.text + length (collapse_from is_space c.space (text_below node_of depths (get_or depths i 0) (j + 1))) ≡ text_bytes node_of depths i
            text_same =
                let t : text_below node_of depths (get_or depths i 0) j ≡ text_below node_of depths (get_or depths i 0) (j + 1) = text_below_more node_of depths (get_or depths i 0) j x h x_is g ∙ rw no_data in
                rw t at k.text_sum

            counted_other : is_link (node_of j) ≡ false → Counted i (j + 1) (lowered c x) (set around (suc x) (get_or around x 0))
            counted_other e =
                record {
                  path = kept x k.path;
                  top = suc x;
                  deep = kept_deep (get_or depths i 0) x k.path k.deep;
                  few = omega (arith, k.few, kept_most x k.path);
                  next = step_down;
                  low = omega arith;
                  around_is = around_kept;
                  text_sum = text_same;
                  links_sum = omega (arith, k.links_sum, all_same_to_come c.space c.low j x h x_is no_data k.path, links_next (get_or depths i 0) j x h x_is g e);
                }

            counted_link : is_link (node_of j) ≡ true → (node_of j).kind ≡ element → Counted i (j + 1) (lowered c x) (set around (suc x) (suc (get_or around x 0)))
            unfolding all_to_come
            counted_link e el =
                let m = min c.low x in
                let own : text_bytes node_of depths j ≡ to_come c.space m (j + 1) x =
                length_below_of node_of depths w j el ∙ rw (← x_is, le-ltb x m (omega arith)) in
                record {
                  path = x ∷ kept x k.path;
                  top = suc x;
                  deep = more {e = x} (omega arith) (kept_deep (get_or depths i 0) x k.path k.deep);
                  few = omega (arith, k.few, kept_most x k.path);
                  next = step_down;
                  low = omega arith;
                  around_is = around_link;
                  text_sum = text_same;
                  links_sum = omega (arith, k.links_sum, all_same_to_come c.space c.low j x h x_is no_data k.path, links_here (get_or depths i 0) j x h x_is g e, own);
                }

          counted_text : (b : ℕ) (t : Bytes) → text_data (node_of j) ≡ b ∷ t → is_link (node_of j) ≡ false
              → Counted i (j + 1) (with_text (lowered c x) x (get_or around x 0) (get_or around (min c.low x) 0) (b ∷ t)) (set around (suc x) (get_or around x 0))
          unfolding collapse_by
          counted_text b t d e =
              let m = min c.low x in
              let above = k.around_is x x_most in
              let old = k.around_is m (omega (arith, x_most)) in
              rw (above, old)
              record {
                path = kept x k.path;
                top = suc x;
                deep = kept_deep (get_or depths i 0) x k.path k.deep;
                few = omega (arith, k.few, kept_most x k.path);
                next = step_down;
                low = omega arith;
                around_is = rw (← above) around_kept;
                text_sum =
                    length_more node_of depths (get_or depths i 0) j _ (record { len = c.text; space = c.space }) k.text_sum x h x_is g (rw d);
                links_sum = omega (arith, k.links_sum, all_to_come_law c.space c.low j x h x_is b t d k.path, links_next (get_or depths i 0) j x h x_is g e);
              }

          pub counted_more : Counted i (j + 1) (count_row (node_of j) x c around) (around_after (node_of j) x around)
          counted_more =
              by_test (is_link (node_of j))
              (λ e. rw (link_no_data (node_of j) e, e) (counted_link (link_no_data (node_of j) e) e (link_element (node_of j) e)))
              (λ e. by_data e (text_data (node_of j)) refl)
            where
              by_data : is_link (node_of j) ≡ false → (t : Bytes) → text_data (node_of j) ≡ t → Counted i (j + 1) (count_row (node_of j) x c around) (around_after (node_of j) x around)
              by_data e [] q = rw (q, e) (counted_other q e)
              by_data e (b ∷ t) q = rw (q, e) (counted_text b t q e)
