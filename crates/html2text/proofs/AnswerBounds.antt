-- How large the numbers of an extraction's answer can grow, by the rows and the pool of its sheet.
use Rattle.std.specs.Prelude.{Result}
use mathlib.Core.Path.{subst}
use mathlib.Core.Bool.{Bool, cond}
use mathlib.Core.List.{List, [], ◌∷◌}
use Prim.Native.Nat.{ℕ, zero, suc, ◌+◌, ◌*◌, ◌≤◌, ◌<◌}
use native.Mathlib.Nat.{mul-le-mul_right}
use native.Mathlib.Omega.{arith}
use lib.Dec.{ltb}
use lib.ListN.{length}
use borrow.Author.Tests.{ltb-false}
use Rattle.common.specs.Bytes.{Bytes, codes}
use Rattle.common.proofs.Choice.{by_cond}
use Rattle.options.specs.declared.ExtractOptions.{ExtractOptions}
use Rattle.sheet.specs.Accepted.{Accepted}
use Rattle.sheet.specs.declared.line.Layout.{Layout}
use Rattle.text.specs.Text.{is_space}
use Rattle.text.proofs.TrimLaws.{rstrip_length}
use Rattle.tree.specs.Node.{Node}
use Rattle.tree.specs.Page.{node_at, page_of}
use Rattle.tree.proofs.NodeLaws.{by_kind}
use Rattle.writer.proofs.OutLaws.{greater_max}
use Rattle.html2text.specs.Bounds.{Going, StateWithin, Each, RunWithin, added_in, written_by, AnswerBounded}
use Rattle.html2text.specs.Collect.{Event, Entry, pushes, amended, on_last, collect, collect_all}
use Rattle.html2text.specs.Extract.{Run, going, too_many_levels, too_many_rows, passes_levels, passes_rows, taken, serialized, longest_text, names_length, longest_names, concluded, hidden, entries, passes, work_need, extraction, numbers}
use Rattle.html2text.specs.Fused.{idle, closed, fed_all}
use Rattle.html2text.specs.Walk.{events, tree_of}
use Rattle.html2text.specs.declared.ExtractError.{ExtractError}
use Rattle.html2text.specs.declared.Extracted.{Extracted}
use Rattle.html2text.proofs.BoundLaws.{state_more, run_within}
use Rattle.html2text.proofs.FusionLaws.{fusion}
use Rattle.html2text.proofs.GoingLaws.{going_more}
use Rattle.html2text.proofs.PageBounds.{Short, node_short, events_in, visits_most, events_most, events_add}

-- ---- 21 and 22: the entry's row is one of the sheet's, of which there are n

abbrev EntryIn : ℕ → Entry → Type 0
EntryIn n e = e.row < n

abbrev EventIn : ℕ → Event → Type 0
EventIn n e = e.row < n

-- the line of the entry that is refused
abbrev LineIn : ℕ → Run → Type 0
LineIn n (going S) = Unit {0}
LineIn n (too_many_levels line) = line ≤ n
LineIn n (too_many_rows line) = line ≤ n

module _ (o : ExtractOptions) (n : ℕ) where
  last_in : (e : Event) (nodes : List Entry) → Each (EntryIn n) nodes → Each (EntryIn n) (on_last (amended o e) nodes)
  last_in e [] h = tt
  last_in e (x ∷ before) h = h

  collect_in : (nodes : List Entry) (e : Event) → Each (EntryIn n) nodes → EventIn n e → Each (EntryIn n) (collect o nodes e)
  unfolding collect
  collect_in nodes e h k =
      by_cond (λ (xs : List Entry). Each (EntryIn n) (on_last (amended o e) xs)) (pushes o nodes e) (λ p. (k, h)) (λ p. last_in e nodes h)

  collected_in : (es : List Event) (nodes : List Entry) → Each (EntryIn n) nodes → Each (EventIn n) es → Each (EntryIn n) (collect_all o nodes es)
  unfolding collect_all
  collected_in [] nodes h k = h
  collected_in (e ∷ es) nodes h k = collected_in es (collect o nodes e) (collect_in nodes e h k.0) k.1

  taken_in : (e : Entry) → EntryIn n e → (R : Run) → LineIn n R → LineIn n (taken o.formatting o.list_bullets e R)
  taken_in e h (going S) l =
      let line : suc e.row ≤ n = omega (arith, h) in
      by_cond (LineIn n) (passes_levels o.formatting e.node S) (λ a. line) (λ a. by_cond (LineIn n) (passes_rows e.node S) (λ b. line) (λ b. tt))
  taken_in e h (too_many_levels line) l = l
  taken_in e h (too_many_rows line) l = l

  serialized_in : (nodes : List Entry) → Each (EntryIn n) nodes → LineIn n (serialized o nodes)
  unfolding serialized
  serialized_in [] h = tt
  serialized_in (e ∷ before) h = taken_in e h.0 (serialized o before) (serialized_in before h.1)

-- ---- 31: class and id

names_short : (p : ℕ) (n : Node) → Short p n → names_length n ≤ 2 * p + 1
unfolding names_length
names_short p n short =
    by_kind n.kind (λ e. rw (e, names_length) (omega (arith, short.attributes (codes "class"), short.attributes (codes "id")))) (λ e. rw (e, names_length) (omega arith))
    (λ e. rw (e, names_length) (omega arith))

longest_short : (p : ℕ) (node_of : ℕ → Node) → ((i : ℕ) → Short p (node_of i)) → (k : ℕ) → longest_names node_of k ≤ 2 * p + 1
unfolding longest_names
longest_short p node_of short zero = omega arith
longest_short p node_of short (suc k) =
    omega (arith, greater_max (longest_names node_of k) (names_length (node_of k)), longest_short p node_of short k, names_short p (node_of k) (short k))

-- ---- the answer

-- the most that a need can be
abbrev most : Layout → ℕ
most l = (2 * l.nodes + 1) * written_by l

concluded_bounded : (l : Layout) (k need visited : ℕ) (R : Run) (out work : ℕ) → need ≤ most l → visited ≤ 2 * l.nodes → LineIn l.nodes R → Going (StateWithin k (most l) 0) R
    → AnswerBounded l out (numbers (concluded need visited R out work))
concluded_bounded l k need visited (going S) out work n v i h =
    let P : Result Extracted ExtractError → Type 0 = λ x. AnswerBounded l out (numbers x) in
    by_cond P (ltb work need) (λ e. record { number = omega arith; second = n; visits = omega arith; length = omega arith })
    (λ e. by_cond P (ltb out S.out.peak) (λ d. record { number = omega arith; second = omega (arith, h.peak); visits = omega arith; length = omega arith })
    (λ d. record { number = omega arith; second = omega arith; visits = v; length = omega (arith, rstrip_length is_space S.out.text, h.below, ltb-false out S.out.peak d) }))
concluded_bounded l k need visited (too_many_levels line) out work n v i h = record { number = omega arith; second = omega (arith, i); visits = omega arith; length = omega arith }
concluded_bounded l k need visited (too_many_rows line) out work n v i h = record { number = omega arith; second = omega (arith, i); visits = omega arith; length = omega arith }

module _ {s : Bytes} {l : Layout} (accepted : Accepted s l) (filtered : ℕ → Bool) (o : ExtractOptions) where
  abbrev hides : ℕ → Bool
  hides = hidden filtered (page_of s l) o

  abbrev walked : List Event
  walked = events (node_at s l) hides 0 (tree_of (page_of s l))

  few : length walked ≤ 2 * l.nodes
  few = events_most accepted hides o

  run : RunWithin (added_in l) (written_by l) o walked
  run = run_within o walked (omega (arith, few, accepted.sized.nodes)) (omega (arith, few)) (events_add accepted hides o (omega arith))

  need_low : work_need filtered (page_of s l) o ≤ most l
  need_low =
      let names = longest_names (node_at s l) (length (page_of s l).depths) in
      let other = cond o.main_content names 0 in
      let low : other ≤ 2 * l.pool + 1 = by_cond (λ (x : ℕ). x ≤ 2 * l.pool + 1) o.main_content (λ e. longest_short l.pool (node_at s l) (node_short accepted.sized) (length (page_of s l).depths)) (λ e. omega arith) in
      omega (arith, greater_max (longest_text (entries filtered (page_of s l) o)) other, low, (fusion o walked).need, run.fed.need, mul-le-mul_right (added_in l) few)

  ended : Going (StateWithin (length walked + 1) (most l) 0) (serialized o (entries filtered (page_of s l) o))
  ended =
      let n = length walked + 1 in
      let longer : n ≤ 2 * l.nodes + 1 = omega (arith, few) in
      subst (Going (StateWithin n (most l) 0)) (fusion o walked).run
      (going_more (StateWithin n (n * written_by l) 0) (StateWithin n (most l) 0) (λ S g. state_more g (omega arith) (omega (arith, mul-le-mul_right (written_by l) longer)))
      (closed o (fed_all o walked idle)) run.closing)

  pub extraction_bounded : (out work : ℕ) → AnswerBounded l out (numbers (extraction filtered (page_of s l) o out work))
  unfolding extraction
  extraction_bounded out work =
      concluded_bounded l (length walked + 1) (work_need filtered (page_of s l) o) (passes filtered (page_of s l) o) (serialized o (entries filtered (page_of s l) o)) out work need_low (visits_most accepted hides o)
      (serialized_in o l.nodes (entries filtered (page_of s l) o) (collected_in o l.nodes walked [] tt (events_in accepted hides (EventIn l.nodes) (λ i children d end h. h)))) ended
