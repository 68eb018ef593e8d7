-- Where formatting is not Off, `serialize` comes to every li with a list level open: the `expect` is never met without one.
use mathlib.Core.Path.{◌≡◌, refl, sym, ap, ◌∙◌}
use mathlib.Core.Bool.{Bool, true, false, ◌&&◌, ◌||◌, cond}
use mathlib.Core.List.{List, [], ◌∷◌, ◌++◌}
use Prim.Native.Nat.{ℕ, zero, suc, ◌+◌, ◌-◌, ◌≤◌}
use native.Mathlib.Nat.{le_refl, le_trans}
use native.Mathlib.Omega.{arith}
use lib.Dec.{eqb}
use lib.ListN.{length}
use borrow.Author.Tests.{eqb-true}
use Rattle.common.specs.Bytes.{Bytes}
use Rattle.common.proofs.Choice.{by_cond, by_test, absurd_test, and_parts}
use Rattle.options.specs.Options.{is_off}
use Rattle.options.specs.declared.ExtractOptions.{ExtractOptions}
use Rattle.options.specs.declared.Formatting.{Formatting}
use Rattle.tags.specs.Tags.{is_ul, is_ol, is_list, is_li, is_block_tag}
use Rattle.tree.specs.Forest.{Forest, empty, node, has_trees}
use Rattle.tree.specs.Node.{Node}
use Rattle.tree.specs.Page.{Page}
use Rattle.html2text.specs.Collect.{Event, Entry, tag_number, pushes, pushed, amended, on_last, collect, collect_all}
use Rattle.html2text.specs.Extract.{going, serialized}
use Rattle.html2text.specs.Levels.{depth_after}
use Rattle.html2text.specs.Serialize.{State, count_uncollapsed, changes_level, level, step}
use Rattle.html2text.specs.Theorems.{LevelMet}
use Rattle.html2text.specs.Walk.{left_out, event_at, events, tree_of}
use Rattle.html2text.specs.declared.ExtractNode.{ExtractNode}
use Rattle.html2text.proofs.CollectLaws.{collect_all_append, block_pushes}
use Rattle.html2text.proofs.LevelLaws.{step_levels, level_long}
use Rattle.common.proofs.TestLaws.{or_cases}
use Rattle.html2text.proofs.RunLaws.{serialized_from, serialized_start}

-- d levels are open
record Level (d : ℕ) (S : State) : Type 0 where
  depth : S.depth ≡ d
  numbers : length S.numbering ≡ d

-- ---- the level after an entry

abbrev raised : Bool → Bool → Bool → ℕ → ℕ
raised list li end d = cond (list || (li && eqb d 0)) (cond end (d - 1) (d + 1)) d

abbrev level_after : ℕ → Bool → ℕ → ℕ
level_after t end d = raised (is_list t) (is_li t) end d

level_step : (f : Formatting) (bullets : Bool) (n : ExtractNode) (t : Bytes) (d : ℕ) (S : State) → is_off f ≡ false → Level d S
    → Level (level_after n.tag n.end d) (step f bullets n t S)
level_step f bullets n t d S shows h =
    let q = step_levels n bullets t f S in
    let k : depth_after f n S.depth ≡ level_after n.tag n.end d = rw (shows, h.depth) in
    record { depth = q.depth ∙ k; numbers = sym (q.numbering (h.depth ∙ sym h.numbers)) ∙ q.depth ∙ k }

-- ---- the level after all entries

abbrev level_of : List Entry → ℕ
level_of [] = 0
level_of (e ∷ before) = level_after e.node.tag e.node.end (level_of before)

-- an li's end finds a level
abbrev Held : List Entry → Type 0
Held [] = Unit {0}
Held (e ∷ before) = (is_li e.node.tag ≡ true → e.node.end ≡ true → 1 ≤ level_of before) × Held before

held_at : (later before : List Entry) → Held (later ++ before) → Held before
held_at [] before h = h
held_at (e ∷ later) before h = held_at later before h.1

-- ---- along the walk

list_blocks : (t d : ℕ) → changes_level t d ≡ true → is_block_tag t ≡ true
list_blocks t d =
    or_cases (is_list t) (is_li t && eqb d 0)
    (or_cases (is_ul t) (is_ol t) (λ e. ap is_block_tag (eqb-true t 3 e)) (λ e. ap is_block_tag (eqb-true t 4 e)))
    (λ e. ap is_block_tag (eqb-true t 5 (and_parts (is_li t) (eqb d 0) e).0))

start_up : (list li : Bool) (d : ℕ) → d ≤ raised list li false d
start_up list li d = by_cond (λ (k : ℕ). d ≤ k) (list || (li && eqb d 0)) (λ e. omega arith) (λ e. le_refl d)

not_zero : (d : ℕ) → eqb d 0 ≡ false → 1 ≤ d
not_zero zero e = absurd_test refl e
not_zero (suc d) e = omega arith

start_li : (list : Bool) (d : ℕ) → 1 ≤ raised list true false d
start_li true d = omega arith
start_li false d = by_cond (λ (k : ℕ). 1 ≤ k) (eqb d 0) (λ e. omega arith) (not_zero d)

end_up : (list li : Bool) (d m : ℕ) → raised list li false d ≤ m → d ≤ raised list li true m
end_up true li d m h = omega arith
end_up false false d m h = h
end_up false true d m h =
    by_cond (λ (k : ℕ). d ≤ k) (eqb m 0) (λ e. absurd (omega (arith, start_li false d, eqb-true m 0 e))) (λ e. le_trans (start_up false true d) h)

li_level : (t d : ℕ) (end : Bool) → is_li t ≡ true → (end ≡ true → 1 ≤ d) → 1 ≤ level_after t end d
li_level t d false l h = rw (eqb-true t 5 l) (start_li false d)
li_level t d true l h = rw (eqb-true t 5 l) (by_cond (λ (k : ℕ). 1 ≤ k) (eqb d 0) (λ e. absurd (omega (arith, h refl, eqb-true d 0 e))) (λ e. h refl))

module _ (o : ExtractOptions) where
  collect_level : (es : List Entry) (e : Event) → level_of (collect o es e) ≡ level_after (tag_number e.node) e.end (level_of es)
  unfolding collect
  collect_level es e = go (pushes o es e) refl es refl
    where
      t : ℕ
      t = tag_number e.node

      stays : (d : ℕ) → pushes o es e ≡ false → level_after t e.end d ≡ d
      stays d q = by_test (changes_level t d) (λ c. absurd_test (block_pushes o es e (list_blocks t d c)) q) (λ c. rw c)

      go : (b : Bool) → pushes o es e ≡ b → (ns : List Entry) → ns ≡ es → level_of (on_last (amended o e) (cond b (pushed o ns e ∷ ns) ns)) ≡ level_after t e.end (level_of ns)
      go true q ns s = refl
      go false q [] s = sym (stays 0 q)
      go false q (n ∷ ns) s = sym (stays (level_of (n ∷ ns)) q)

  held_collect : (es : List Entry) (e : Event) → Held es → (is_li (tag_number e.node) ≡ true → e.end ≡ true → 1 ≤ level_of es) → Held (collect o es e)
  unfolding collect
  held_collect es e h l = by_cond (λ (ns : List Entry). Held (on_last (amended o e) ns)) (pushes o es e) (λ q. (l, h)) (λ q. stayed es h)
    where
      stayed : (ns : List Entry) → Held ns → Held (on_last (amended o e) ns)
      stayed [] g = tt
      stayed (n ∷ ns) g = g

  record Rises (es es' : List Entry) : Type 0 where
    held : Held es'
    up : level_of es ≤ level_of es'

  rises_then : {a b c : List Entry} → Rises a b → Rises b c → Rises a c
  rises_then x y = record { held = y.held; up = le_trans x.up y.up }

  module _ (node_of : ℕ → Node) (hidden : ℕ → Bool) where
    abbrev tag_at : ℕ → ℕ
    tag_at i = tag_number (node_of i)

    begin_rises : (es : List Entry) (i : ℕ) (children : Bool) (d : ℕ) → Held es → Rises es (collect o es (event_at node_of hidden i children d false))
    begin_rises es i children d h =
        let e = event_at node_of hidden i children d false in
        record {
          held = held_collect es e h (λ l q. absurd_test q refl);
          up = rw (collect_level es e) (start_up (is_list (tag_at i)) (is_li (tag_at i)) (level_of es));
        }

    -- a row with children, K between its two events
    entered_rises : (es : List Entry) (i d : ℕ) (K : List Event) → Held es → ((ns : List Entry) → Held ns → Rises ns (collect_all o ns K))
        → Rises es (collect_all o es (event_at node_of hidden i true d false ∷ (K ++ (event_at node_of hidden i true d true ∷ []))))
    unfolding collect_all
    entered_rises es i d K h below =
        let s = event_at node_of hidden i true d false in
        let e = event_at node_of hidden i true d true in
        let list = is_list (tag_at i) in
        let li = is_li (tag_at i) in
        let es₁ = collect o es s in
        let es₂ = collect_all o es₁ K in
        let r = below es₁ (begin_rises es i true d h).held in
        let low : raised list li false (level_of es) ≤ level_of es₂ = rw (collect_level es s) at r.up in
        let some_level : li ≡ true → 1 ≤ level_of es₂ = λ l. le_trans (start_li list (level_of es)) (rw l at low) in
        rw (collect_all_append o es₁ K (e ∷ []))
        (record {
          held = held_collect es₂ e r.held (λ l q. some_level l);
          up = rw (collect_level es₂ e) (end_up list li (level_of es) (level_of es₂) low);
        })

    row_rises : (children : Forest ℕ) (es : List Entry) (i d : ℕ) → Held es → ((ns : List Entry) → Held ns → Rises ns (collect_all o ns (events node_of hidden (suc d) children)))
        → Rises es
        (collect_all o es
        (event_at node_of hidden i (has_trees children) d false
        ∷ (events node_of hidden (suc d) children ++ cond (has_trees children) (event_at node_of hidden i true d true ∷ []) [])))
    unfolding collect_all events
    row_rises empty es i d h below = begin_rises es i false d h
    row_rises (node j c r) es i d h below = entered_rises es i d (events node_of hidden (suc d) (node j c r)) h below

    forest_rises : (f : Forest ℕ) (es : List Entry) (d : ℕ) → Held es → Rises es (collect_all o es (events node_of hidden d f))
    unfolding collect_all events
    forest_rises empty es d h = record { held = h; up = le_refl (level_of es) }
    forest_rises (node i children rest) es d h =
        go (left_out node_of hidden i) (λ ns g. forest_rises children ns (suc d) g) (λ ns g. forest_rises rest ns d g)
      where
        E : List Event
        E =
            event_at node_of hidden i (has_trees children) d false
            ∷ (events node_of hidden (suc d) children ++ cond (has_trees children) (event_at node_of hidden i true d true ∷ []) [])

        go : (b : Bool) → ((ns : List Entry) → Held ns → Rises ns (collect_all o ns (events node_of hidden (suc d) children)))
            → ((ns : List Entry) → Held ns → Rises ns (collect_all o ns (events node_of hidden d rest)))
            → Rises es (collect_all o es (cond b [] E ++ events node_of hidden d rest))
        go true below later = later es h
        go false below later =
            let x = row_rises children es i d h below in
            rw (collect_all_append o es E (events node_of hidden d rest)) (rises_then x (later (collect_all o es E) x.held))

  module _ (shows : is_off o.formatting ≡ false) where
    level_serialized : (es : List Entry) (S : State) → serialized o es ≡ going S → Level (level_of es) S
    level_serialized [] S e = rw (serialized_start o S e) (record { depth = refl; numbers = refl })
    level_serialized (n ∷ es) S e =
        let f = serialized_from o n es S e in
        rw f.after
        (level_step o.formatting o.list_bullets n.node n.text (level_of es) f.state shows (level_serialized es f.state f.before))

pub level_met : (p : Page) (hidden : ℕ → Bool) (o : ExtractOptions) → LevelMet p hidden o
level_met p hidden o = record {
  met = λ later before e S split shows going_is li.
      let held : Held (later ++ (e ∷ before)) = rw split at (forest_rises o p.node hidden (tree_of p) [] 0 tt).held in
      let h = level_serialized o shows before S going_is in
      let x : length (level e.node (count_uncollapsed e.node S)).numbering ≡ level_after e.node.tag e.node.end (level_of before) = level_long e.node S ∙ rw (h.depth, h.numbers) in
      omega (arith, x, li_level e.node.tag (level_of before) e.node.end li ((held_at later (e ∷ before) held).0 li));
}
