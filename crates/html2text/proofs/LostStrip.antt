-- With formatting Off, what `collect` gathers over a tree is its pieces, where the condition on cells holds.
use mathlib.Core.Path.{◌≡◌, refl, sym, ap, ◌∙◌}
use mathlib.Core.Bool.{Bool, true, false, ◌||◌, cond, and-true, and-false}
use mathlib.Core.List.{List, [], ◌∷◌, ◌++◌, append-nil, append_assoc}
use Prim.Native.Nat.{ℕ, suc, ◌≤◌, ◌<◌}
use native.Mathlib.Nat.{le_refl}
use Rattle.common.specs.Bytes.{Bytes}
use Rattle.common.proofs.Choice.{absurd_test}
use Rattle.options.specs.declared.ExtractOptions.{ExtractOptions}
use Rattle.tags.specs.Tags.{is_cell}
use Rattle.text.specs.Text.{struck}
use Rattle.tree.specs.Forest.{Forest, empty, node, has_trees}
use Rattle.tree.specs.Node.{element, Node}
use Rattle.html2text.specs.Collect.{Event, Entry, tag_number, pushes, collect, collect_all}
use Rattle.html2text.specs.Demand.{is_cell_node, is_blank_text}
use Rattle.html2text.specs.Pieces.{Piece, row_pieces, along, pieces, struck_pieces}
use Rattle.html2text.specs.Walk.{is_comment, left_out, event_at, events}
use Rattle.html2text.proofs.CollectLaws.{collect_all_append, lost, depth_of, lost_pushed, depth_pushed, lost_stayed, depth_stayed, deep_pushes, cell_pushes, kept_collect}
use Rattle.html2text.proofs.OffLaws.{off, kept}
use Rattle.common.proofs.TestLaws.{or_left, or_right, or_cases, or_neither}
use Rattle.html2text.proofs.SaidLaws.{struck_all, said, cell_tag, cell_said, blank_said, blank_no_element}

-- ---- pieces, blanks struck out

pub struck_pieces_append : (a b : List Piece) → struck_pieces (a ++ b) ≡ struck_pieces a ++ struck_pieces b
unfolding struck_pieces
struck_pieces_append [] b = refl
struck_pieces_append (p ∷ a) b =
    ap (λ (u : Bytes). struck p.bytes ++ u) (struck_pieces_append a b) ∙ sym (append_assoc (struck p.bytes) (struck_pieces a) (struck_pieces b))

struck_along : (path : List ℕ) (bs : List Bytes) → struck_pieces (along path bs) ≡ struck_all bs
unfolding struck_pieces struck_all
struck_along path [] = refl
struck_along path (b ∷ bs) = ap (λ (u : Bytes). struck b ++ u) (struck_along path bs)

struck_choice : (b : Bool) (path : List ℕ) (bs : List Bytes) → struck_pieces (cond b (along path bs) []) ≡ cond b (struck_all bs) []
unfolding struck_pieces
struck_choice true path bs = struck_along path bs
struck_choice false path bs = refl

-- ---- entries

-- the entries es become es', and what is kept grows by w
record Grows (es es' : List Entry) (w : Bytes) : Type 0 where
  eq : kept es' ≡ kept es ++ w

grows_then : {a b c : List Entry} {v w : Bytes} → Grows a b v → Grows b c w → Grows a c (v ++ w)
grows_then {a} {b} {c} {v} {w} g h = record { eq = h.eq ∙ ap (λ (u : Bytes). u ++ w) g.eq ∙ append_assoc (kept a) v w }

-- the same of a stretch of the walk; where the last entry is then a cell's end, it is not above depth d
record Walked (es es' : List Entry) (d : ℕ) (w : Bytes) : Type 0 where
  grows : Grows es es' w
  deep : lost es' ≡ true → d ≤ depth_of es'

module _ (node_of : ℕ → Node) where
  -- 14: "a parent is not an element"
  abbrev pub Parents : Forest ℕ → Type 0
  Parents empty = Unit {0}
  Parents (node i children rest) = (has_trees children ≡ true → (node_of i).kind ≡ element) × Parents children × Parents rest

module _ (node_of : ℕ → Node) (hidden : ℕ → Bool) where
  -- a cell, a comment, blank text or a row that is left out
  abbrev pub may_follow : ℕ → Bool
  may_follow i = is_cell_node (node_of i) || (is_comment (node_of i).kind || (is_blank_text (node_of i) || hidden i))

  -- every later sibling of a cell may follow it; `after`: a cell stands among the earlier siblings
  abbrev pub Cells : Bool → Forest ℕ → Type 0
  Cells after empty = Unit {0}
  Cells after (node i children rest) = (after ≡ true → may_follow i ≡ true) × Cells false children × Cells (after || is_cell_node (node_of i)) rest

  module _ (o : ExtractOptions) where
    abbrev begins : ℕ → Bool → ℕ → Event
    begins i children d = event_at node_of hidden i children d false

    abbrev ends : ℕ → ℕ → Event
    ends i d = event_at node_of hidden i true d true

    abbrev is_cell_row : ℕ → Bool
    is_cell_row i = is_cell_node (node_of i)

    -- what is said is kept where the last entry is then no cell's end
    heard : (es : List Entry) (e : Event) → lost (collect (off o) es e) ≡ false → Grows es (collect (off o) es e) (said o e.node e.end)
    heard es e q = record { eq = kept_collect o es e ∙ ap (λ (b : Bool). kept es ++ cond b [] (said o e.node e.end)) q }

    -- nothing is said that could be lost
    silent : (es : List Entry) (e : Event) → said o e.node e.end ≡ [] → Grows es (collect (off o) es e) (said o e.node e.end)
    silent es e q = record { eq = kept_collect o es e ∙ ap (λ (u : Bytes). kept es ++ u) (none (lost (collect (off o) es e))) }
      where
        none : (b : Bool) → cond b [] (said o e.node e.end) ≡ said o e.node e.end
        none true = sym q
        none false = refl

    -- ---- a row begins

    record Started (es : List Entry) (i : ℕ) (children : Bool) (d : ℕ) : Type 0 where
      grows : Grows es (collect (off o) es (begins i children d)) (said o (node_of i) false)
      still : lost (collect (off o) es (begins i children d)) ≡ true
          → (children ≡ false) × (lost es ≡ true) × (depth_of (collect (off o) es (begins i children d)) ≡ depth_of es)

    started : (es : List Entry) (i : ℕ) (children : Bool) (d : ℕ) → left_out node_of hidden i ≡ false → (lost es ≡ true → may_follow i ≡ true)
        → (children ≡ true → (node_of i).kind ≡ element) → Started es i children d
    started es i children d shown follow parent = go (pushes (off o) es e) refl (lost es) refl
      where
        e : Event
        e = begins i children d

        out : (is_comment (node_of i).kind ≡ false) × (hidden i ≡ false)
        out = or_neither (is_comment (node_of i).kind) (hidden i) shown

        as_heard : lost (collect (off o) es e) ≡ false → Started es i children d
        as_heard q = record { grows = heard es e q; still = λ h. absurd_test h q }

        childless : (b : Bool) → children ≡ b → is_blank_text (node_of i) ≡ true → b ≡ false
        childless true c h = absurd (blank_no_element (node_of i) h (parent c))
        childless false c h = refl

        go : (b : Bool) → pushes (off o) es e ≡ b → (c : Bool) → lost es ≡ c → Started es i children d
        go true p c l = as_heard (lost_pushed (off o) es e p ∙ and-false (is_cell (tag_number (node_of i))))
        go false p false l = as_heard (lost_stayed (off o) es e p ∙ l)
        go false p true l =
            or_cases (is_cell_row i) _ (λ h. absurd_test (cell_pushes (off o) es e (cell_tag (node_of i) ∙ h)) p)
            (or_cases (is_comment (node_of i).kind) _ (λ h. absurd_test h out.0)
            (or_cases (is_blank_text (node_of i)) _
            (λ h. record { grows = silent es e (blank_said o (node_of i) false h); still = λ q. (childless children refl h, l, depth_stayed (off o) es e p) })
            (λ h. absurd_test h out.1))) (follow l)

    -- ---- a row with children ends

    record Ended (es : List Entry) (i d : ℕ) : Type 0 where
      grows : Grows es (collect (off o) es (ends i d)) (said o (node_of i) true)
      still : lost (collect (off o) es (ends i d)) ≡ true → (is_cell_row i ≡ true) × (d ≤ depth_of (collect (off o) es (ends i d)))

    ended : (es : List Entry) (i d : ℕ) → (lost es ≡ true → d < depth_of es) → Ended es i d
    ended es i d deep = go (pushes (off o) es e) refl
      where
        e : Event
        e = ends i d

        cell_lost : pushes (off o) es e ≡ true → lost (collect (off o) es e) ≡ is_cell_row i
        cell_lost p = lost_pushed (off o) es e p ∙ and-true (is_cell (tag_number (node_of i))) ∙ cell_tag (node_of i)

        pushed : pushes (off o) es e ≡ true → (c : Bool) → is_cell_row i ≡ c → Grows es (collect (off o) es e) (said o (node_of i) true)
        pushed p true c = silent es e (cell_said o (node_of i) true c)
        pushed p false c = heard es e (cell_lost p ∙ c)

        stayed : pushes (off o) es e ≡ false → (c : Bool) → lost es ≡ c → lost (collect (off o) es e) ≡ false
        stayed p true c = absurd_test (deep_pushes (off o) es e (deep c)) p
        stayed p false c = lost_stayed (off o) es e p ∙ c

        go : (b : Bool) → pushes (off o) es e ≡ b → Ended es i d
        go true p = record {
          grows = pushed p (is_cell_row i) refl;
          still = λ h. (sym (cell_lost p) ∙ h, rw (depth_pushed (off o) es e p) (le_refl d));
        }
        go false p = let q = stayed p (lost es) refl in record { grows = heard es e q; still = λ h. absurd_test h q }

    -- ---- a row, with what is below it

    -- the walk over f from es, at depth d
    abbrev gathered : List Entry → ℕ → Forest ℕ → List Entry
    gathered es d f = collect_all (off o) es (events node_of hidden d f)

    abbrev row_events : ℕ → Forest ℕ → ℕ → List Event
    row_events i children d = begins i (has_trees children) d ∷ (events node_of hidden (suc d) children ++ cond (has_trees children) (ends i d ∷ []) [])

    abbrev row_said : ℕ → Forest ℕ → List ℕ → Bytes
    row_said i children up = said o (node_of i) false ++ (struck_pieces (pieces node_of hidden o up children) ++ cond (has_trees children) (said o (node_of i) true) [])

    -- `after`: a cell stands among the earlier siblings
    record RowWalked (es es' : List Entry) (i d : ℕ) (w : Bytes) (after : Bool) : Type 0 where
      grows : Grows es es' w
      safe : lost es' ≡ true → ((after || is_cell_row i) ≡ true) × (d ≤ depth_of es')

    -- K, what lies between its two events, adds v
    entered : (es : List Entry) (i d : ℕ) (after : Bool) (K : List Event) (v : Bytes)
        → Grows es (collect (off o) es (begins i true d)) (said o (node_of i) false)
        → Walked (collect (off o) es (begins i true d)) (collect_all (off o) (collect (off o) es (begins i true d)) K) (suc d) v
        → RowWalked es (collect_all (off o) es (begins i true d ∷ (K ++ (ends i d ∷ [])))) i d (said o (node_of i) false ++ (v ++ said o (node_of i) true)) after
    unfolding collect_all
    entered es i d after K v g w =
        let es₁ = collect (off o) es (begins i true d) in
        let es₂ = collect_all (off o) es₁ K in
        let en = ended es₂ i d w.deep in
        rw (collect_all_append (off o) es₁ K (ends i d ∷ []))
        (record {
          grows = grows_then g (grows_then w.grows en.grows);
          safe = λ h. let q = en.still h in (or_right after (is_cell_row i) q.0, q.1);
        })

    row_walked : (children : Forest ℕ) (i : ℕ) (es : List Entry) (d : ℕ) (up : List ℕ) (after : Bool)
        → left_out node_of hidden i ≡ false → (after ≡ true → may_follow i ≡ true) → (has_trees children ≡ true → (node_of i).kind ≡ element)
        → ((es' : List Entry) → (lost es' ≡ true → (false ≡ true) × (suc d ≤ depth_of es'))
        → Walked es' (gathered es' (suc d) children) (suc d) (struck_pieces (pieces node_of hidden o up children)))
        → (lost es ≡ true → (after ≡ true) × (d ≤ depth_of es))
        → RowWalked es (collect_all (off o) es (row_events i children d)) i d (row_said i children up) after
    unfolding collect_all events pieces struck_pieces
    row_walked empty i es d up after shown follow parent below safe =
        let st = started es i false d shown (λ l. follow (safe l).0) parent in
        record {
          grows = record { eq = st.grows.eq ∙ ap (λ (u : Bytes). kept es ++ u) (sym (append-nil (said o (node_of i) false))) };
          safe = λ h. let q = st.still h in (or_left after (is_cell_row i) (safe q.1).0, rw q.2 (safe q.1).1);
        }
    row_walked (node a b c) i es d up after shown follow parent below safe =
        let st = started es i true d shown (λ l. follow (safe l).0) parent in
        entered es i d after (events node_of hidden (suc d) (node a b c)) (struck_pieces (pieces node_of hidden o up (node a b c))) st.grows
        (below (collect (off o) es (begins i true d)) (λ h. absurd_test refl (st.still h).0))

    -- ---- a forest

    abbrev row_pieces_all : ℕ → Forest ℕ → List ℕ → List Piece
    row_pieces_all i children up =
        along (i ∷ up) (row_pieces o (node_of i) false)
        ++ (pieces node_of hidden o (i ∷ up) children ++ cond (has_trees children) (along (i ∷ up) (row_pieces o (node_of i) true)) [])

    row_said_law : (i : ℕ) (children : Forest ℕ) (up : List ℕ) → struck_pieces (row_pieces_all i children up) ≡ row_said i children (i ∷ up)
    row_said_law i children up = simp (struck_pieces_append, struck_along, struck_choice)

    -- a stretch of the walk and the rest of it
    joined : (es : List Entry) (E R : List Event) (d : ℕ) (ps qs : List Piece)
        → Grows es (collect_all (off o) es E) (struck_pieces ps)
        → Walked (collect_all (off o) es E) (collect_all (off o) (collect_all (off o) es E) R) d (struck_pieces qs)
        → Walked es (collect_all (off o) es (E ++ R)) d (struck_pieces (ps ++ qs))
    joined es E R d ps qs g w =
        rw (collect_all_append (off o) es E R, struck_pieces_append ps qs) (record { grows = grows_then g w.grows; deep = w.deep })

    node_walked : (i : ℕ) (children rest : Forest ℕ) (es : List Entry) (d : ℕ) (up : List ℕ) (after : Bool)
        → (after ≡ true → may_follow i ≡ true) → (has_trees children ≡ true → (node_of i).kind ≡ element)
        → ((es' : List Entry) → (lost es' ≡ true → (false ≡ true) × (suc d ≤ depth_of es'))
        → Walked es' (gathered es' (suc d) children) (suc d) (struck_pieces (pieces node_of hidden o (i ∷ up) children)))
        → ((es' : List Entry) → (lost es' ≡ true → ((after || is_cell_row i) ≡ true) × (d ≤ depth_of es'))
        → Walked es' (gathered es' d rest) d (struck_pieces (pieces node_of hidden o up rest)))
        → (lost es ≡ true → (after ≡ true) × (d ≤ depth_of es))
        → (b : Bool) → left_out node_of hidden i ≡ b
        → Walked es (collect_all (off o) es (cond b [] (row_events i children d) ++ events node_of hidden d rest)) d
        (struck_pieces (cond b [] (row_pieces_all i children up) ++ pieces node_of hidden o up rest))
    node_walked i children rest es d up after follow parent below later safe true l = later es (λ h. (or_left after (is_cell_row i) (safe h).0, (safe h).1))
    node_walked i children rest es d up after follow parent below later safe false l =
        let w = row_walked children i es d (i ∷ up) after l follow parent below safe in
        joined es (row_events i children d) (events node_of hidden d rest) d (row_pieces_all i children up) (pieces node_of hidden o up rest)
        (rw row_said_law w.grows)
        (later (collect_all (off o) es (row_events i children d)) w.safe)

    walked : (f : Forest ℕ) (es : List Entry) (d : ℕ) (up : List ℕ) (after : Bool) → Cells after f → Parents node_of f
        → (lost es ≡ true → (after ≡ true) × (d ≤ depth_of es)) → Walked es (gathered es d f) d (struck_pieces (pieces node_of hidden o up f))
    unfolding collect_all events pieces struck_pieces
    walked empty es d up after c p safe = record { grows = record { eq = sym (append-nil (kept es)) }; deep = λ h. (safe h).1 }
    walked (node i children rest) es d up after c p safe =
        node_walked i children rest es d up after c.0 p.0
        (λ es' s. walked children es' (suc d) (i ∷ up) false c.1 p.1 s)
        (λ es' s. walked rest es' d up (after || is_cell_row i) c.2 p.2 s)
        safe (left_out node_of hidden i) refl

    -- what is kept of all entries is the pieces
    pub kept_pieces : (f : Forest ℕ) → Cells false f → Parents node_of f → kept (collect_all (off o) [] (events node_of hidden 0 f)) ≡ struck_pieces (pieces node_of hidden o [] f)
    unfolding kept
    kept_pieces f c p = (walked f [] 0 [] false c p (λ h. absurd_test h refl)).grows.eq
