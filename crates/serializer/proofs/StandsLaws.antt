-- The numbers stand for the state at the start; a part of both set anew, they go on standing for each other.
use mathlib.Core.Path.{◌≡◌, refl, sym, ap, ◌∙◌}
use mathlib.Core.Bool.{Bool}
use mathlib.Core.List.{List, ◌∷◌, [], ◌++◌}
use Prim.Native.Nat.{ℕ, ◌+◌, ◌-◌, ◌≤◌, ◌<◌}
use native.Mathlib.Numerals.{add-one}
use native.Mathlib.Omega.{arith}
use lib.Dec.{leb}
use lib.ListN.{length, get_or, take, set, length-append, length-set}
use lib.Seq.{take_all, take-take, take-suc-set, take-set-lt, length-take-le, get_or-take}
use borrow.Author.Tests.{leb-true, leb-false}
use Rattle.common.specs.Bytes.{Bytes}
use Rattle.common.proofs.Choice.{by_test}
use Rattle.html2text.specs.Serialize.{State, start, on_out, with_prefix, with_bullet, with_levels, with_margins, with_uncollapsed, with_rows, pop}
use Rattle.writer.specs.Out.{Out}
use Rattle.writer.specs.Writing.{Held}
use Rattle.writer.specs.declared.Writer.{Writer}
use Rattle.writer.proofs.HeldLaws.{held_none}
use Rattle.serializer.specs.Serializing.{no_serializer, set_writer, set_prefix, set_bullet, set_depth, set_margins, set_uncollapsed, set_rows, Lent, lent, Stands, Able, prefix_text}
use Rattle.serializer.specs.declared.Serializer.{Serializer}

-- ---- the first k elements of an array as a stack, its top last

module _ {A : Type 0} (l t : List A) (k : ℕ) (same : k ≡ length t) (taken : take k l ≡ t) where
  pub stack_long : k ≤ length l
  stack_long =
      by_test (leb k (length l)) (leb-true k (length l))
      (λ e. let h = leb-false k (length l) e in let m : length l ≤ k = omega arith in absurd (omega (arith, same, ap length (sym (take_all k l m) ∙ taken))))

  pub stack_pop : take (k - 1) l ≡ pop t
  stack_pop = sym (take-take (k - 1) k l (omega arith)) ∙ ap (take (k - 1)) taken ∙ ap (λ (n : ℕ). take (n - 1) t) same

  pub stack_pop_length : k - 1 ≡ length (pop t)
  stack_pop_length = omega (arith, same, length-take-le (length t - 1) t (omega arith))

  pub stack_push : (x : A) → k < length l → take (k + 1) (set l k x) ≡ t ++ (x ∷ [])
  stack_push x h = rw add-one (take-suc-set l k x h ∙ ap (λ (r : List A). r ++ (x ∷ [])) taken)

  pub stack_push_length : (x : A) → k + 1 ≡ length (t ++ (x ∷ []))
  stack_push_length x = omega (arith, same, length-append t (x ∷ []))

  pub stack_top : (d : A) → 0 < k → get_or l (k - 1) d ≡ get_or t (length t - 1) d
  stack_top d h = sym (get_or-take k l (k - 1) d (omega arith)) ∙ ap (λ (r : List A). get_or r (k - 1) d) taken ∙ ap (λ (n : ℕ). get_or t (n - 1) d) same

  pub stack_set : (x : A) → 0 < k → take k (set l (k - 1) x) ≡ set t (length t - 1) x
  stack_set x h = take-set-lt k l (k - 1) x (omega arith) ∙ ap (λ (r : List A). set r (k - 1) x) taken ∙ ap (λ (n : ℕ). set t (n - 1) x) same

  pub stack_set_length : (x : A) → k ≡ length (set t (length t - 1) x)
  stack_set_length x = same ∙ sym (length-set t (length t - 1) x)

-- ---- set in the numbers, set in the state

module _ {write : Bool} {under : Bytes} {s : Serializer} {a : Lent} {S : State} (h : Stands write under s a S) where
  pub stands_out : {w : Writer} {buf : Bytes} {o : Out} → Held write under w buf o → Stands write under (set_writer w s) (lent a.numbering a.cells buf) (on_out (λ _. o) S)
  stands_out k = record { held = k; prefix = h.prefix; bullet = h.bullet; depth = h.depth; margins = h.margins; uncollapsed = h.uncollapsed; deep = h.deep; numbering = h.numbering; rows = h.rows; cells = h.cells }

  pub stands_prefix : {p : ℕ} {t : Bytes} → prefix_text p ≡ t → Stands write under (set_prefix p s) a (with_prefix t S)
  stands_prefix e = record { held = h.held; prefix = e; bullet = h.bullet; depth = h.depth; margins = h.margins; uncollapsed = h.uncollapsed; deep = h.deep; numbering = h.numbering; rows = h.rows; cells = h.cells }

  pub stands_bullet : (b : Bool) → Stands write under (set_bullet b s) a (with_bullet b S)
  stands_bullet b = record { held = h.held; prefix = h.prefix; bullet = refl; depth = h.depth; margins = h.margins; uncollapsed = h.uncollapsed; deep = h.deep; numbering = h.numbering; rows = h.rows; cells = h.cells }

  pub stands_margins : {m m' : ℕ} → m ≡ m' → Stands write under (set_margins m s) a (with_margins m' S)
  stands_margins e = record { held = h.held; prefix = h.prefix; bullet = h.bullet; depth = h.depth; margins = e; uncollapsed = h.uncollapsed; deep = h.deep; numbering = h.numbering; rows = h.rows; cells = h.cells }

  pub stands_uncollapsed : {k k' : ℕ} → k ≡ k' → Stands write under (set_uncollapsed k s) a (with_uncollapsed k' S)
  stands_uncollapsed e = record { held = h.held; prefix = h.prefix; bullet = h.bullet; depth = h.depth; margins = h.margins; uncollapsed = e; deep = h.deep; numbering = h.numbering; rows = h.rows; cells = h.cells }

  pub stands_levels : {d d' : ℕ} {nums l : List ℕ} → d ≡ d' → d ≡ length l → take d nums ≡ l → Stands write under (set_depth d s) (lent nums a.cells a.out) (with_levels d' l S)
  stands_levels e k t = record { held = h.held; prefix = h.prefix; bullet = h.bullet; depth = e; margins = h.margins; uncollapsed = h.uncollapsed; deep = k; numbering = t; rows = h.rows; cells = h.cells }

  pub stands_rows : {k : ℕ} {cs l : List Bool} → k ≡ length l → take k cs ≡ l → Stands write under (set_rows k s) (lent a.numbering cs a.out) (with_rows l S)
  stands_rows k t = record { held = h.held; prefix = h.prefix; bullet = h.bullet; depth = h.depth; margins = h.margins; uncollapsed = h.uncollapsed; deep = h.deep; numbering = h.numbering; rows = k; cells = t }

-- ---- at the start

pub stands_start : (write : Bool) (out : Bytes) (numbering : List ℕ) (cells : List Bool) → Stands write out no_serializer (lent numbering cells out) start
stands_start write out numbering cells = record { held = held_none refl refl (λ w. refl); prefix = refl; bullet = refl; depth = refl; margins = refl; uncollapsed = refl; deep = refl; numbering = refl; rows = refl; cells = refl }

-- ---- the stacks lie inside their arrays

pub rows_long : {write : Bool} {s : Serializer} {a : Lent} {F : State → State} → Able write s a F → s.rows ≤ length a.cells
rows_long {s = s} {a = a} r = stack_long a.cells r.state.row_has_cell s.rows r.stands.rows r.stands.cells

pub depth_long : {write : Bool} {s : Serializer} {a : Lent} {F : State → State} → Able write s a F → s.depth ≤ length a.numbering
depth_long {s = s} {a = a} r = stack_long a.numbering r.state.numbering s.depth r.stands.deep r.stands.numbering
