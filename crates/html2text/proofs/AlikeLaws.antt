-- Trees that are alike give the same events, visits and pieces but for row numbers, and pages that are alike the same extraction; pages of
-- the same rows are alike.
use Rattle.std.specs.Prelude.{Result, Ok, Err}
use mathlib.Core.Path.{◌≡◌, refl, sym, ap, ap₂, subst, ◌∙◌}
use mathlib.Core.Bool.{Bool, true, false, ◌&&◌, ◌||◌, cond}
use mathlib.Core.List.{List, [], ◌∷◌, ◌++◌, map, map-append, map-id}
use Prim.Native.Nat.{ℕ, zero, suc, ◌+◌, ◌≤◌, ◌<◌}
use native.Mathlib.Omega.{arith}
use lib.Dec.{ltb, lit≤}
use lib.ListN.{length, get_or, drop, length-drop}
use Rattle.common.specs.Bytes.{Bytes}
use Rattle.common.proofs.Choice.{by_test, absurd_test}
use Rattle.options.specs.declared.ExtractOptions.{ExtractOptions}
use Rattle.options.specs.declared.Formatting.{Formatting}
use Rattle.sheet.specs.Verdict.{verdict}
use Rattle.sheet.specs.declared.line.Layout.{Layout}
use Rattle.sheet.proofs.Acceptance.{accepts}
use Rattle.tree.specs.Forest.{Forest, empty, node, has_trees}
use Rattle.tree.specs.Node.{Node}
use Rattle.tree.specs.Page.{Page, page_of, SamePage}
use Rattle.tree.specs.Rows.{build, numbered, children_of}
use Rattle.tree.proofs.Order.{trichotomy, build_deeper, build_here, build_less}
use Rattle.writer.specs.Out.{greater}
use Rattle.html2text.specs.Alike.{event_by, entry_by, piece_by, line_by, run_by, error_by, extraction_by, SameNumbers, RowsAlike, Alike, SameWalk, PagesAlike, SameExtraction, SameAnswers}
use Rattle.html2text.specs.Collect.{Event, Entry, pushes, pushed, amended, on_last, collect, collect_all}
use Rattle.html2text.specs.Extract.{Run, going, too_many_levels, too_many_rows, passes_levels, passes_rows, taken, serialized, longest_text, names_length, longest_names, concluded, out_then, work_then, hidden, entries, passes, work_need, extraction, out_after, work_after, filtered_by, extraction_of, out_after_of, work_after_of}
use Rattle.html2text.specs.Pieces.{Piece, row_pieces, along, pieces}
use Rattle.html2text.specs.Serialize.{one}
use Rattle.html2text.specs.Walk.{is_comment, left_out, events, visits, tree_of}
use Rattle.html2text.specs.declared.Extracted.{Extracted}
use Rattle.html2text.specs.declared.ExtractError.{ExtractError}
use Rattle.html2text.proofs.PageLaws.{page_right}
use Rattle.html2text.specs.declared.ExtractError.TheVariants.{Refused, ListLevels, OpenRows, WorkTooShort, OutTooShort}

-- ---- where no number changes

line_unchanged : (line : ℕ) → line_by (λ i. i) line ≡ line
line_unchanged zero = refl
line_unchanged (suc i) = refl

pieces_unchanged : (ps : List Piece) → map (piece_by (λ i. i)) ps ≡ ps
pieces_unchanged [] = refl
pieces_unchanged (p ∷ ps) = λ k. record { path = map-id p.path k; bytes = p.bytes } ∷ pieces_unchanged ps k

error_unchanged : (e : ExtractError) → error_by (λ i. i) e ≡ e
error_unchanged (Refused e) = refl
error_unchanged (ListLevels line) = ap ListLevels (line_unchanged line)
error_unchanged (OpenRows line) = ap OpenRows (line_unchanged line)
error_unchanged (WorkTooShort need) = refl
error_unchanged (OutTooShort need) = refl

answer_unchanged : (x : Result Extracted ExtractError) → extraction_by (λ i. i) x ≡ x
answer_unchanged (Ok x) = refl
answer_unchanged (Err e) = ap Err (error_unchanged e)

pub same_numbers : SameNumbers
same_numbers = record { pieces = pieces_unchanged; answer = answer_unchanged }

-- ---- trees

-- two choices by the same test, where what is chosen without it is the same
without_same : {A : Type 0} (z : A) {x y : A} (b c : Bool) → b ≡ c → (b ≡ false → x ≡ y) → cond b z x ≡ cond c z y
without_same z {y = y} true c e f = ap (λ (q : Bool). cond q z y) e
without_same z {y = y} false c e f = f refl ∙ ap (λ (q : Bool). cond q z y) e

pub map_cond : {A B : Type 0} (f : A → B) (b : Bool) (x y : List A) → map f (cond b x y) ≡ cond b (map f x) (map f y)
map_cond f true x y = refl
map_cond f false x y = refl

-- the events of a row that is not left out, those below it K
abbrev row_events : ℕ → Node → Bool → ℕ → List Event → List Event
row_events i n has d K =
    record { row = i; node = n; children = has; depth = d; end = false } ∷ (K ++ cond has (record { row = i; node = n; children = true; depth = d; end = true } ∷ []) [])

-- its pieces, those below it K
abbrev own_pieces : ExtractOptions → ℕ → List ℕ → Node → Bool → List Piece → List Piece
own_pieces o i up n has K = along (i ∷ up) (row_pieces o n false) ++ (K ++ cond has (along (i ∷ up) (row_pieces o n true)) [])

module _ (old : ℕ → ℕ) where
  along_by : (path : List ℕ) (bs : List Bytes) → map (piece_by old) (along path bs) ≡ along (map old path) bs
  along_by path [] = refl
  along_by path (b ∷ bs) = ap (λ (ps : List Piece). record { path = map old path; bytes = b } ∷ ps) (along_by path bs)

  -- with the rows behind it
  events_by : (b : Bool) (i : ℕ) (n : Node) (has : Bool) (d : ℕ) (K R : List Event)
      → map (event_by old) (cond b [] (row_events i n has d K) ++ R) ≡ cond b [] (row_events (old i) n has d (map (event_by old) K)) ++ map (event_by old) R
  events_by b i n has d K R = simp (map-append, map_cond)

  pieces_by : (o : ExtractOptions) (b : Bool) (i : ℕ) (up : List ℕ) (n : Node) (has : Bool) (K R : List Piece)
      → map (piece_by old) (cond b [] (own_pieces o i up n has K) ++ R) ≡ cond b [] (own_pieces o (old i) (map old up) n has (map (piece_by old) K)) ++ map (piece_by old) R
  pieces_by o b i up n has K R = simp (map-append, map_cond, along_by)

module _ (old : ℕ → ℕ) (node₁ : ℕ → Node) (hidden₁ : ℕ → Bool) (node₂ : ℕ → Node) (hidden₂ : ℕ → Bool) where
  abbrev TreesAlike : Forest ℕ → Forest ℕ → Type 0
  TreesAlike = Alike old node₁ hidden₁ node₂ hidden₂

  abbrev out₁ : ℕ → Bool
  out₁ = left_out node₁ hidden₁

  abbrev out₂ : ℕ → Bool
  out₂ = left_out node₂ hidden₂

  has_trees_same : (f g : Forest ℕ) → TreesAlike f g → has_trees f ≡ has_trees g
  has_trees_same empty empty a = refl
  has_trees_same empty (node j c r) a = absurd a
  has_trees_same (node i c r) empty a = absurd a
  has_trees_same (node i c r) (node j c' r') a = refl

  events_same : (d : ℕ) (f g : Forest ℕ) → TreesAlike f g → events node₁ hidden₁ d f ≡ map (event_by old) (events node₂ hidden₂ d g)
  unfolding events
  events_same d empty empty a = refl
  events_same d empty (node j c r) a = absurd a
  events_same d (node i c r) empty a = absurd a
  events_same d (node i c r) (node j c' r') a =
      ap₂ (λ (x y : List Event). x ++ y)
      (without_same [] (out₁ i) (out₂ j) a.0.out
      (λ e k. row_events (a.0.row e k) (a.0.same e k) (has_trees_same c c' (a.1 e) k) d (events_same (suc d) c c' (a.1 e) k)))
      (events_same d r r' a.2)
      ∙ sym (events_by old (out₂ j) j (node₂ j) (has_trees c') d (events node₂ hidden₂ (suc d) c') (events node₂ hidden₂ d r'))

  visits_same : (f g : Forest ℕ) → TreesAlike f g → visits node₁ hidden₁ f ≡ visits node₂ hidden₂ g
  unfolding visits
  visits_same empty empty a = refl
  visits_same empty (node j c r) a = absurd a
  visits_same (node i c r) empty a = absurd a
  visits_same (node i c r) (node j c' r') a =
      ap₂ (λ (x y : ℕ). x + y)
      (without_same 1 (out₁ i) (out₂ j) a.0.out (λ e k. 1 + one (has_trees_same c c' (a.1 e) k) + visits_same c c' (a.1 e) k))
      (visits_same r r' a.2)

  pieces_same : (o : ExtractOptions) (up : List ℕ) (f g : Forest ℕ) → TreesAlike f g → pieces node₁ hidden₁ o (map old up) f ≡ map (piece_by old) (pieces node₂ hidden₂ o up g)
  unfolding pieces
  pieces_same o up empty empty a = refl
  pieces_same o up empty (node j c r) a = absurd a
  pieces_same o up (node i c r) empty a = absurd a
  pieces_same o up (node i c r) (node j c' r') a =
      ap₂ (λ (x y : List Piece). x ++ y)
      (without_same [] (out₁ i) (out₂ j) a.0.out
      (λ e.
      ap (λ (q : ℕ). own_pieces o q (map old up) (node₁ i) (has_trees c) (pieces node₁ hidden₁ o (q ∷ map old up) c)) (a.0.row e)
      ∙ (λ k. own_pieces o (old j) (map old up) (a.0.same e k) (has_trees_same c c' (a.1 e) k) (pieces_same o (j ∷ up) c c' (a.1 e) k))))
      (pieces_same o up r r' a.2)
      ∙ sym (pieces_by old o (out₂ j) j up (node₂ j) (has_trees c') (pieces node₂ hidden₂ o (j ∷ up) c') (pieces node₂ hidden₂ o up r'))

  pub same_walk : (o : ExtractOptions) (f g : Forest ℕ) → TreesAlike f g → SameWalk old node₁ hidden₁ node₂ hidden₂ o f g
  same_walk o f g a = record { events = λ d. events_same d f g a; visits = visits_same f g a; pieces = λ up. pieces_same o up f g a }

-- ---- entries, whatever the numbers of their rows

module _ (old : ℕ → ℕ) (o : ExtractOptions) where
  collect_by : (es : List Entry) (e : Event) → collect o (map (entry_by old) es) (event_by old e) ≡ map (entry_by old) (collect o es e)
  unfolding collect
  collect_by [] e = refl
  collect_by (n ∷ es) e = go (pushes o (n ∷ es) e)
    where
      ns : List Entry
      ns = map (entry_by old) (n ∷ es)

      go : (b : Bool)
          → on_last (amended o (event_by old e)) (cond b (pushed o ns (event_by old e) ∷ ns) ns)
          ≡ map (entry_by old) (on_last (amended o e) (cond b (pushed o (n ∷ es) e ∷ n ∷ es) (n ∷ es)))
      go true = refl
      go false = refl

  collect_all_by : (es : List Entry) (E : List Event) → collect_all o (map (entry_by old) es) (map (event_by old) E) ≡ map (entry_by old) (collect_all o es E)
  unfolding collect_all
  collect_all_by es [] = refl
  collect_all_by es (e ∷ E) = ap (λ (ns : List Entry). collect_all o ns (map (event_by old) E)) (collect_by es e) ∙ collect_all_by (collect o es e) E

  taken_by : (f : Formatting) (bullets : Bool) (e : Entry) (r : Run) → taken f bullets (entry_by old e) (run_by old r) ≡ run_by old (taken f bullets e r)
  taken_by f bullets e (too_many_levels line) = refl
  taken_by f bullets e (too_many_rows line) = refl
  taken_by f bullets e (going S) =
      by_test (passes_levels f e.node S) (λ p. rw p) (λ p. by_test (passes_rows e.node S) (λ q. rw (p, q)) (λ q. rw (p, q)))

  serialized_by : (es : List Entry) → serialized o (map (entry_by old) es) ≡ run_by old (serialized o es)
  unfolding serialized
  serialized_by [] = refl
  serialized_by (e ∷ es) =
      ap (taken o.formatting o.list_bullets (entry_by old e)) (serialized_by es) ∙ taken_by o.formatting o.list_bullets e (serialized o es)

  longest_by : (es : List Entry) → longest_text (map (entry_by old) es) ≡ longest_text es
  unfolding longest_text
  longest_by [] = refl
  longest_by (e ∷ es) = ap (λ (n : ℕ). greater n (length e.text)) (longest_by es)

module _ (old : ℕ → ℕ) (need visits : ℕ) where
  concluded_by : (r : Run) (out work : ℕ) → concluded need visits (run_by old r) out work ≡ extraction_by old (concluded need visits r out work)
  concluded_by (too_many_levels line) out work = refl
  concluded_by (too_many_rows line) out work = refl
  concluded_by (going S) out work =
      by_test (ltb work need) (λ p. rw p) (λ p. by_test (ltb out S.out.peak) (λ q. rw (p, q)) (λ q. rw (p, q)))

  out_by : (r : Run) (out work : Bytes) → out_then need visits (run_by old r) out work ≡ out_then need visits r out work
  out_by (going S) out work = refl
  out_by (too_many_levels line) out work = refl
  out_by (too_many_rows line) out work = refl

  work_by : (r : Run) (work : Bytes) → work_then need visits (run_by old r) work ≡ work_then need visits r work
  work_by (going S) work = refl
  work_by (too_many_levels line) work = refl
  work_by (too_many_rows line) work = refl

-- ---- pages

module _ (old : ℕ → ℕ) (filtered₁ : ℕ → Bool) (p₁ : Page) (filtered₂ : ℕ → Bool) (p₂ : Page) (o : ExtractOptions) (alike : PagesAlike old filtered₁ p₁ filtered₂ p₂ o) where
  walk_same : SameWalk old p₁.node (hidden filtered₁ p₁ o) p₂.node (hidden filtered₂ p₂ o) o (tree_of p₁) (tree_of p₂)
  walk_same = same_walk old p₁.node (hidden filtered₁ p₁ o) p₂.node (hidden filtered₂ p₂ o) o (tree_of p₁) (tree_of p₂) alike.tree

  entries_same : entries filtered₁ p₁ o ≡ map (entry_by old) (entries filtered₂ p₂ o)
  entries_same = ap (collect_all o []) (walk_same.events 0) ∙ collect_all_by old o [] (events p₂.node (hidden filtered₂ p₂ o) 0 (tree_of p₂))

  names_same : (main : Bool) → o.main_content ≡ main
      → cond main (longest_names p₁.node (length p₁.depths)) 0 ≡ cond main (longest_names p₂.node (length p₂.depths)) 0
  names_same true e = alike.names e
  names_same false e = refl

  need_same : work_need filtered₁ p₁ o ≡ work_need filtered₂ p₂ o
  need_same = ap₂ greater (ap longest_text entries_same ∙ longest_by old o (entries filtered₂ p₂ o)) (names_same o.main_content refl)

  run_same : serialized o (entries filtered₁ p₁ o) ≡ run_by old (serialized o (entries filtered₂ p₂ o))
  run_same = ap (serialized o) entries_same ∙ serialized_by old o (entries filtered₂ p₂ o)

  pub same_extraction : SameExtraction old filtered₁ p₁ filtered₂ p₂ o
  unfolding extraction out_after work_after
  same_extraction =
      let need = work_need filtered₂ p₂ o in
      let visits = passes filtered₂ p₂ o in
      let run = serialized o (entries filtered₂ p₂ o) in
      let visits_same = walk_same.visits in
      record {
        entries = entries_same;
        visits = visits_same;
        need = need_same;
        run = run_same;
        answer = λ out work. (λ k. concluded (need_same k) (visits_same k) (run_same k) out work) ∙ concluded_by old need visits run out work;
        out = λ out work. (λ k. out_then (need_same k) (visits_same k) (run_same k) out work) ∙ out_by old need visits run out work;
        work = λ work. (λ k. work_then (need_same k) (visits_same k) (run_same k) work) ∙ work_by old need visits run work;
      }

-- ---- pages of the same rows: the trees of one depth column, where its rows are alike

module _ (node₁ : ℕ → Node) (hidden₁ : ℕ → Bool) (node₂ : ℕ → Node) (hidden₂ : ℕ → Bool) where
  abbrev RowsSame : ℕ → Type 0
  RowsSame i = RowsAlike (λ j. j) node₁ hidden₁ node₂ hidden₂ i i

  column_alike : (depths : List ℕ) (k d : ℕ) → ((i : ℕ) → k ≤ i → i < k + length depths → RowsSame i)
      → Alike (λ j. j) node₁ hidden₁ node₂ hidden₂ (build (numbered k depths) d) (build (numbered k depths) d)
  unfolding build numbered
  column_alike [] k d h = tt
  column_alike (x ∷ depths) k d h =
      let later : (i : ℕ) → suc k ≤ i → i < suc k + length depths → RowsSame i = λ i a b. h i (omega arith) (omega arith) in
      let rows = numbered (suc k) depths in
      trichotomy x d
      (λ g. rw (build_deeper (x, k) rows d g) (column_alike depths (suc k) d later))
      (λ g. rw (build_here (x, k) rows d g) (h k (omega arith) (omega arith), (λ e. column_alike depths (suc k) (suc d) later), column_alike depths (suc k) d later))
      (λ g. rw (build_less (x, k) rows d g) tt)

and_same : (a : Bool) {b c : Bool} → (a ≡ true → b ≡ c) → (a && b) ≡ (a && c)
and_same true e = e refl
and_same false e = refl

module _ (filtered₁ : ℕ → Bool) (p₁ : Page) (filtered₂ : ℕ → Bool) (p₂ : Page) (o : ExtractOptions)
    (same : SamePage p₁ p₂) (inside : p₁.root < length p₁.depths) (filtered_same : o.main_content ≡ true → (i : ℕ) → i < length p₁.depths → filtered₁ i ≡ filtered₂ i) where
  row_same : (i : ℕ) → i < length p₁.depths → RowsAlike (λ j. j) p₁.node (hidden filtered₁ p₁ o) p₂.node (hidden filtered₂ p₂ o) i i
  row_same i h = record {
    out =
        let filters = and_same o.main_content (λ e. filtered_same e i h) in
        λ k. is_comment (same.node i h k).kind || (same.marked i h k || filters k);
    row = λ e. refl;
    same = λ e. same.node i h;
  }

  tree_same : Alike (λ j. j) p₁.node (hidden filtered₁ p₁ o) p₂.node (hidden filtered₂ p₂ o) (tree_of p₁) (tree_of p₂)
  tree_same =
      let i = p₁.root in
      let ds = p₁.depths in
      subst (Alike (λ j. j) p₁.node (hidden filtered₁ p₁ o) p₂.node (hidden filtered₂ p₂ o) (tree_of p₁))
      (λ k. node (same.root k) (children_of (same.depths k) (same.root k)) empty) (
        row_same i inside,
        (λ e.
            column_alike p₁.node (hidden filtered₁ p₁ o) p₂.node (hidden filtered₂ p₂ o) (drop (suc i) ds) (suc i) (suc (get_or ds i 0))
            (λ j a b. row_same j (omega (arith, length-drop (suc i) ds)))),
        tt,
      )

  longest_same : (k : ℕ) → k ≤ length p₁.depths → longest_names p₁.node k ≡ longest_names p₂.node k
  unfolding longest_names
  longest_same zero h = refl
  longest_same (suc k) h = ap₂ greater (longest_same k (omega arith)) (ap names_length (same.node k (omega arith)))

  pub same_pages_alike : PagesAlike (λ i. i) filtered₁ p₁ filtered₂ p₂ o
  same_pages_alike = record {
    tree = tree_same;
    names = λ e. longest_same (length p₁.depths) (omega arith) ∙ ap (λ (ds : List ℕ). longest_names p₂.node (length ds)) same.depths;
  }

-- ---- byte strings

module _ (filters : (ℕ → Node) → List ℕ → ℕ → ExtractOptions → ℕ → Bool) where
  pub same_answers : (s₁ s₂ : Bytes) (l₁ l₂ : Layout) (o : ExtractOptions) → verdict s₁ ≡ Ok l₁ → verdict s₂ ≡ Ok l₂
      → SamePage (page_of s₁ l₁) (page_of s₂ l₂) → o.main_content ≡ false → SameAnswers filters s₁ s₂ o
  unfolding extraction_of out_after_of work_after_of
  same_answers s₁ s₂ l₁ l₂ o first second same off =
      let p₁ = page_of s₁ l₁ in
      let p₂ = page_of s₂ l₂ in
      let f₁ = filtered_by filters p₁ o in
      let f₂ = filtered_by filters p₂ o in
      let x =
      same_extraction (λ i. i) f₁ p₁ f₂ p₂ o
      (same_pages_alike f₁ p₁ f₂ p₂ o same (page_right (accepts (lit≤ tt) first).1).root (λ e. absurd_test e off)) in
      record {
        answer = λ out work. rw (first, second) (x.answer out work ∙ answer_unchanged (extraction f₂ p₂ o out work));
        out = λ out work. rw (first, second) (x.out out work);
        work = λ work. rw (first, second) (x.work work);
      }
