-- List levels, and the prefixes of items.
use mathlib.Core.Path.{◌≡◌, refl, sym, ap, ◌∙◌}
use mathlib.Core.Bool.{Bool, true, false, ◌&&◌, not, cond}
use mathlib.Core.List.{List}
use Prim.Native.Nat.{ℕ, ◌+◌, ◌-◌, ◌≤◌, ◌<◌}
use native.Mathlib.Omega.{arith}
use lib.Dec.{eqb}
use lib.ListN.{length, get_or, set, length-set, get_or-eq_default}
use lib.Seq.{get_or-set_same, get_or-set_other}
use borrow.Author.Tests.{eq-eqb, ne_eqb, eqb-true, eqb-false}
use Rattle.common.specs.Bytes.{Bytes, length_limit}
use Rattle.common.proofs.Choice.{by_cond, by_test}
use Rattle.tags.specs.Tags.{is_li, is_ol}
use Rattle.html2text.specs.Serialize.{State, with_uncollapsed, one, number_text, count_uncollapsed, changes_level, level, number_of, item}
use Rattle.html2text.specs.declared.ExtractNode.{ExtractNode}
use Rattle.serializer.specs.Serializing.{set_prefix, set_bullet, set_depth, set_uncollapsed, Lent, lent, Stands, WorksAlone, WorksLevels, Numbers, counted, last_number, levels, prefix_text}
use Rattle.serializer.specs.declared.Serializer.{Serializer}
use Rattle.serializer.proofs.StandsLaws.{stands_prefix, stands_bullet, stands_uncollapsed, stands_levels, stack_pop, stack_pop_length, stack_push, stack_push_length, stack_top, stack_set, stack_set_length}
use Rattle.serializer.proofs.WorksLaws.{Rises, rises_none, rises_then, rises_cond, works_none, works_then, works_by}

-- ---- a level opens or closes

module _ (s : Serializer) (n : ExtractNode) (nums : List ℕ) where
  test_is : {t : Bool} → changes_level n.tag s.depth ≡ t → {write : Bool} {under : Bytes} {a : Lent} {S : State} → Stands write under s a S → changes_level n.tag S.depth ≡ t
  test_is e h = ap (changes_level n.tag) (sym h.depth) ∙ e

  pub level_close : changes_level n.tag s.depth ≡ true → n.end ≡ true → WorksLevels s nums (set_bullet false (set_prefix 0 (set_depth (s.depth - 1) s))) nums (level n)
  unfolding level
  level_close e f =
      record {
        at = λ write cells out. record {
          run = λ under S h. rw (test_is e h, f)
              (stands_prefix (stands_bullet (stands_levels h (ap (λ (d : ℕ). d - 1) h.depth)
              (stack_pop_length nums S.numbering s.depth h.deep h.numbering) (stack_pop nums S.numbering s.depth h.deep h.numbering)) false) refl);
        };
      }

  pub level_open : changes_level n.tag s.depth ≡ true → n.end ≡ false → s.depth < length nums → {k : ℕ} → k ≡ one (is_ol n.tag)
      → WorksLevels s nums (set_depth (s.depth + 1) s) (set nums s.depth k) (level n)
  unfolding level
  level_open e f room q =
      record {
        at = λ write cells out. record {
          run = λ under S h. rw (test_is e h, f, q)
              (stands_levels h (ap (λ (d : ℕ). d + 1) h.depth)
              (stack_push_length nums S.numbering s.depth h.deep h.numbering (one (is_ol n.tag))) (stack_push nums S.numbering s.depth h.deep h.numbering (one (is_ol n.tag)) room));
        };
      }

  pub level_none : changes_level n.tag s.depth ≡ false → WorksLevels s nums s nums (level n)
  unfolding level
  level_none e = record { at = λ write cells out. works_by works_none (λ under S h. sym (rw (test_is e h))) }

-- ---- the count of explicit line ends

pub count_works : (s : Serializer) (n : ExtractNode) → WorksAlone s (counted s n) (count_uncollapsed n)
unfolding count_uncollapsed
count_works s n = record { at = λ write a. record { run = λ under S h. go (n.block && not n.collapse_margins) h } }
  where
    go : (t : Bool) {write : Bool} {under : Bytes} {a : Lent} {S : State} → Stands write under s a S
        → Stands write under (cond t (set_uncollapsed (s.uncollapsed + 1) s) s) a (cond t (with_uncollapsed (S.uncollapsed + 1) S) S)
    go true h = stands_uncollapsed h (ap (λ (k : ℕ). k + 1) h.uncollapsed)
    go false h = h

pub count_depth : (s : Serializer) (n : ExtractNode) → (counted s n).depth ≡ s.depth
count_depth s n = by_cond (λ (x : Serializer). x.depth ≡ s.depth) (n.block && not n.collapse_margins) (λ e. refl) (λ e. refl)

pub levels_works : {s s' : Serializer} {nums nums' : List ℕ} (n : ExtractNode) → WorksLevels (counted s n) nums s' nums' (level n) → WorksLevels s nums s' nums' (levels n)
unfolding levels
levels_works {s = s} n d = record { at = λ write cells out. works_then ((count_works s n).at write _) (d.at write cells out) }

-- ---- the numbers of the open levels

pub numbers_close : {s : Serializer} {nums : List ℕ} → Numbers s nums → Numbers (set_bullet false (set_prefix 0 (set_depth (s.depth - 1) s))) nums
numbers_close h = record { within = omega (arith, h.within); small = λ i l. h.small i (omega arith) }

one_small : (b : Bool) → one b < length_limit
one_small true = omega arith
one_small false = omega arith

set_small : (nums : List ℕ) (k v : ℕ) → v < length_limit → ((i : ℕ) → i < k → get_or nums i 0 < length_limit) → k < length nums → (i : ℕ) → i < k + 1 → get_or (set nums k v) i 0 < length_limit
set_small nums k v small h l i below =
    by_test (eqb i k)
    (λ e. rw (eqb-true i k e, get_or-set_same nums k v 0 l) small)
    (λ e. let z = eqb-false i k e in rw (get_or-set_other nums k i v 0 z) (h i (omega arith)))

pub numbers_open : {s : Serializer} {nums : List ℕ} {k : ℕ} (b : Bool) → k ≡ one b → s.depth < length nums → Numbers s nums → Numbers (set_depth (s.depth + 1) s) (set nums s.depth k)
numbers_open {s = s} {nums = nums} b q l h =
    rw q record { within = omega (arith, length-set nums s.depth (one b)); small = set_small nums s.depth (one b) (one_small b) h.small l }

pub numbers_count : {s : Serializer} {nums : List ℕ} (n : ExtractNode) → Numbers s nums → Numbers (counted s n) nums
numbers_count {s = s} {nums = nums} n h = by_cond (λ (x : Serializer). Numbers x nums) (n.block && not n.collapse_margins) (λ e. record { within = h.within; small = h.small }) (λ e. h)

pub last_open : (nums : List ℕ) (d : ℕ) {k : ℕ} → k ≡ last_number nums d → (k ≡ 0 → ⊥) → 0 < d
last_open nums d q n = by_test (eqb d 0) (λ e. absurd (n (q ∙ rw e))) (λ e. let z = eqb-false d 0 e in omega arith)

pub last_small : {s : Serializer} {nums : List ℕ} {k : ℕ} → k ≡ last_number nums s.depth → Numbers s nums → k < length_limit
last_small {s = s} q h =
    by_test (eqb s.depth 0) (λ e. omega (arith, rw e at q))
    (λ e. let z = eqb-false s.depth 0 e in omega (arith, rw e at q, h.small (s.depth - 1) (omega arith)))

-- ---- items

-- a number as a prefix
prefix_of : (k : ℕ) → (k ≡ 0 → ⊥) → prefix_text (k + 1) ≡ number_text k
prefix_of k z = let e : k + 1 - 1 ≡ k = omega arith in rw (ne_eqb (k + 1) 0 (λ q. omega arith), ne_eqb (k + 1) 1 (λ q. z (omega arith)), e)

module _ {write : Bool} {under : Bytes} {s : Serializer} {a : Lent} {S : State} (h : Stands write under s a S) where
  number_is : number_of S ≡ last_number a.numbering s.depth
  unfolding number_of
  number_is =
      by_test (eqb s.depth 0)
      (λ e. rw e (let q : length S.numbering ≤ length S.numbering - 1 = omega (arith, eqb-true s.depth 0 e, h.deep) in get_or-eq_default S.numbering 0 {n = length S.numbering - 1} q))
      (λ e. rw e (let z = eqb-false s.depth 0 e in sym (stack_top a.numbering S.numbering s.depth h.deep h.numbering 0 (omega arith))))

module _ (s : Serializer) (n : ExtractNode) (nums : List ℕ) (bullets : Bool) where
  pub item_none : (bullets && is_li n.tag) ≡ false → WorksLevels s nums s nums (item bullets n)
  unfolding item
  item_none e = record { at = λ write cells out. works_by works_none (λ under S h. sym (rw e)) }

  module _ (e : (bullets && is_li n.tag) ≡ true) {k : ℕ} (q : k ≡ last_number nums s.depth) where
    pub item_bullet : k ≡ 0 → {b : Bool} → b ≡ not n.end → WorksLevels s nums (set_bullet b (set_prefix 1 s)) nums (item bullets n)
    unfolding item
    item_bullet z f = record { at = λ write cells out. record { run = λ under S h. rw (e, eq-eqb (number_of S) 0 (number_is h ∙ sym q ∙ z), f) (stands_bullet (stands_prefix h refl) (not n.end)) } }

    module _ (z : k ≡ 0 → ⊥) where
      number_not : {write : Bool} {under : Bytes} {cells : List Bool} {out : Bytes} {S : State} → Stands write under s (lent nums cells out) S → eqb (number_of S) 0 ≡ false
      number_not {S = S} h = ne_eqb (number_of S) 0 (λ y. z (q ∙ sym (number_is h) ∙ y))

      pub item_end : n.end ≡ true → WorksLevels s nums (set_bullet false (set_prefix (k + 1) s)) nums (item bullets n)
      unfolding item
      item_end f =
          record { at = λ write cells out. record { run = λ under S h. rw (e, number_not h, f) (stands_bullet (stands_prefix h (prefix_of k z ∙ ap number_text (q ∙ sym (number_is h)))) false) } }

      pub item_number : n.end ≡ false → WorksLevels s nums (set_bullet true (set_prefix (k + 1) s)) (set nums (s.depth - 1) (k + 1)) (item bullets n)
      unfolding item
      item_number f =
          record {
            at = λ write cells out. record {
              run = λ under S h.
                  let m : k ≡ number_of S = q ∙ sym (number_is h) in
                  rw (e, number_not h, f, ← m)
                  (stands_bullet (stands_prefix (stands_levels h h.depth
                  (stack_set_length nums S.numbering s.depth h.deep h.numbering (k + 1)) (stack_set nums S.numbering s.depth h.deep h.numbering (k + 1) (last_open nums s.depth q z))) (prefix_of k z)) true);
            };
          }

-- ---- the greatest length never falls

pub rises_level : (n : ExtractNode) → Rises (level n)
unfolding level
rises_level n = rises_cond (λ S. changes_level n.tag S.depth) (rises_cond (λ S. n.end) (record { rise = λ S. omega arith }) (record { rise = λ S. omega arith })) rises_none

rises_count : (n : ExtractNode) → Rises (count_uncollapsed n)
unfolding count_uncollapsed
rises_count n = rises_cond (λ S. n.block && not n.collapse_margins) (record { rise = λ S. omega arith }) rises_none

pub rises_levels : (n : ExtractNode) → Rises (levels n)
unfolding levels
rises_levels n = rises_then (rises_count n) (rises_level n)

pub rises_item : (bullets : Bool) (n : ExtractNode) → Rises (item bullets n)
unfolding item
rises_item bullets n =
    record {
      rise = λ S. by_cond (λ (T : State). S.out.peak ≤ T.out.peak) (bullets && is_li n.tag)
          (λ e. by_cond (λ (T : State). S.out.peak ≤ T.out.peak) (eqb (number_of S) 0) (λ z. omega arith)
          (λ z. by_cond (λ (T : State). S.out.peak ≤ T.out.peak) n.end (λ f. omega arith) (λ f. omega arith)))
          (λ e. omega arith);
    }

-- ---- margins stay as they are

pub margins_levels : (n : ExtractNode) (S : State) → (levels n S).margins ≤ S.margins
unfolding levels level count_uncollapsed
margins_levels n S = omega (arith, of_level (count_uncollapsed n S), of_count)
  where
    of_level : (T : State) → (level n T).margins ≤ T.margins
    of_level T =
        by_cond (λ (R : State). R.margins ≤ T.margins) (changes_level n.tag T.depth) (λ e. by_cond (λ (R : State). R.margins ≤ T.margins) n.end (λ f. omega arith) (λ f. omega arith)) (λ e. omega arith)

    of_count : (count_uncollapsed n S).margins ≤ S.margins
    of_count = by_cond (λ (R : State). R.margins ≤ S.margins) (n.block && not n.collapse_margins) (λ e. omega arith) (λ e. omega arith)

pub margins_item : (bullets : Bool) (n : ExtractNode) (S : State) → (item bullets n S).margins ≤ S.margins
unfolding item
margins_item bullets n S =
    by_cond (λ (T : State). T.margins ≤ S.margins) (bullets && is_li n.tag)
    (λ e. by_cond (λ (T : State). T.margins ≤ S.margins) (eqb (number_of S) 0) (λ z. omega arith)
    (λ z. by_cond (λ (T : State). T.margins ≤ S.margins) n.end (λ f. omega arith) (λ f. omega arith)))
    (λ e. omega arith)
