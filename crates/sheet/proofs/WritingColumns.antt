-- Numbers are written in columns from the right, and a line of them from the left.
use mathlib.Core.Path.{◌≡◌, refl, sym, ap, subst, ◌∙◌}
use mathlib.Core.List.{List, [], ◌∷◌, ◌++◌, append_assoc}
use Prim.Native.Nat.{ℕ, zero, suc, ◌+◌, ◌-◌, ◌*◌, ◌/◌, ◌%◌, ◌≤◌, ◌<◌}
use native.Mathlib.Numerals.{add-one}
use native.Mathlib.Omega.{arith}
use lib.ListN.{length, set, length-set, replicate, replicate-append-replicate, length-append, length-replicate}
use lib.Seq.{sets, set_comm}
use borrow.Author.Tests.{ne_eqb}
use Rattle.common.specs.Bytes.{Bytes}
use Rattle.common.specs.Puts.{Puts}
use Rattle.common.proofs.Puts.{sets_append, puts_none, puts_then, puts_length}
use Rattle.sheet.specs.Columns.{columns}
use Rattle.sheet.specs.Writing.{front, column_of, four_columns, line, quad_line}
use Rattle.sheet.specs.declared.line.Quad.{Quad}

-- ---- lengths

front_of : (w q : ℕ) → ((m : ℕ) → length (columns w (suc m)) ≡ w) → length (front w q) ≡ w
unfolding front
front_of w zero known = length-replicate w 32
front_of w (suc m) known = known m

pub columns_length : (w n : ℕ) → length (columns w n) ≡ w
unfolding columns front
columns_length zero n = refl
columns_length (suc w) n = length-append (front w (n / 10)) _ ∙ rw (front_of w (n / 10) (λ m. columns_length w (suc m))) (add-one w)

pub front_length : (w q : ℕ) → length (front w q) ≡ w
front_length w q = front_of w q (λ m. columns_length w (suc m))

-- ---- from the right

front_last : (w q : ℕ) → front (suc w) q ≡ front w (q / 10) ++ column_of q ∷ []
unfolding columns front
front_last w zero = ap (λ (k : ℕ). replicate k 32) (sym (add-one w)) ∙ sym (replicate-append-replicate w 1 32)
front_last w (suc m) = rw (ne_eqb (suc m) 0 (omega arith))

-- a store behind a run of stores can come before it
sets_behind : (out : Bytes) (at : ℕ) (s : Bytes) (j x : ℕ) → at + length s ≤ j → sets (set out j x) at s ≡ set (sets out at s) j x
sets_behind out at [] j x h = refl
sets_behind out at (y ∷ s) j x h =
    ap (λ (l : Bytes). sets l (suc at) s) (set_comm out j at x y (λ e. absurd (omega arith))) ∙ sets_behind (set out at y) (suc at) s j x (omega arith)

last_first : (out : Bytes) (at rest w : ℕ) → sets (set out (at + w) (column_of rest)) at (front w (rest / 10)) ≡ sets out at (front (suc w) rest)
last_first out at rest w =
    sets_behind out at (front w (rest / 10)) (at + w) (column_of rest) (omega (arith, front_length w (rest / 10)))
    ∙ rw (front_last w rest, sets_append out at (front w (rest / 10)) (column_of rest ∷ []), front_length w (rest / 10))

front_done : (out : Bytes) (at rest : ℕ) → sets out at (front 0 rest) ≡ out
unfolding columns front
front_done out at zero = refl
front_done out at (suc m) = refl

-- what is left of the columns, written behind those that stand, gives what the whole gives
pub record Fronting (before : Bytes) (at width q : ℕ) (out : Bytes) (rest left : ℕ) : Type 0 where
  pub most : left ≤ width
  pub bytes : sets out at (front left rest) ≡ sets before at (front width q)
  pub same : length out ≡ length before

module _ {before : Bytes} {at width q : ℕ} where
  pub fronting_start : Fronting before at width q before q width
  fronting_start = record { most = omega arith; bytes = refl; same = refl }

  pub fronting_more : {out : Bytes} {rest left x : ℕ} → Fronting before at width q out rest left → 0 < left → x ≡ column_of rest
      → Fronting before at width q (set out (at + (left - 1)) x) (rest / 10) (left - 1)
  fronting_more {out} {rest} {left} {x} f h e =
      let long : left ≡ suc (left - 1) = omega arith in
      record {
        most = omega (arith, f.most);
        bytes = rw e (last_first out at rest (left - 1)) ∙ ap (λ (k : ℕ). sets out at (front k rest)) (sym long) ∙ f.bytes;
        same = length-set out (at + (left - 1)) x ∙ f.same;
      }

  pub fronting_end : {out : Bytes} {rest left past : ℕ} → Fronting before at width q out rest left → left ≤ 0 → past ≡ at + width → Puts before at (front width q) out past
  fronting_end {out} {rest} {left} f h e =
      let none : left ≡ 0 = omega arith in
      record {
        bytes = sym (front_done out at rest) ∙ ap (λ (k : ℕ). sets out at (front k rest)) (sym none) ∙ f.bytes;
        place = omega (arith, front_length width q);
      }

-- ---- a number, and a line of numbers

module _ (w n : ℕ) where
  pub number_put : {before middle after : Bytes} {at m past : ℕ} → (w ≡ 0 → ⊥) → Puts before at (front (w - 1) (n / 10)) middle m → Puts middle m ((48 + n % 10) ∷ []) after past → Puts before at (columns w n) after past
  unfolding columns front
  number_put {before} {middle} {after} {at} {m} {past} h p q =
      let long : w ≡ suc (w - 1) = omega arith in
      subst (λ (k : ℕ). Puts before at (columns k n) after past) (sym long) (puts_then p q)

  pub none_put : {before : Bytes} {at : ℕ} → w ≡ 0 → Puts before at (columns w n) before at
  unfolding columns front
  none_put {before} {at} e = subst (λ (k : ℕ). Puts before at (columns k n) before at) (sym e) puts_none

  -- where what comes next goes
  pub front_past : {before after : Bytes} {at past : ℕ} → Puts before at (front w n) after past → (past ≡ at + w) × (length after ≡ length before)
  front_past p = (omega (arith, p.place, front_length w n), puts_length p)

  pub number_past : {before after : Bytes} {at past : ℕ} → Puts before at (columns w n) after past → (past ≡ at + w) × (length after ≡ length before)
  number_past p = (omega (arith, p.place, columns_length w n), puts_length p)

module _ (w : ℕ) (q : Quad) where
  pub four_put : {s0 s1 s2 s3 s4 : Bytes} {at a1 a2 a3 a4 : ℕ}
      → Puts s0 at (columns w q.first) s1 a1
      → Puts s1 a1 (columns w q.second) s2 a2
      → Puts s2 a2 (columns w q.third) s3 a3
      → Puts s3 a3 (columns w q.fourth) s4 a4
      → Puts s0 at (four_columns w q) s4 a4
  unfolding four_columns
  four_put p1 p2 p3 p4 = puts_then p1 (puts_then p2 (puts_then p3 p4))

  four_length : length (four_columns w q) ≡ 4 * w
  unfolding four_columns
  four_length = simp (length-append, columns_length) (omega arith)

  pub four_past : {before after : Bytes} {at past : ℕ} → Puts before at (four_columns w q) after past → (past ≡ at + 4 * w) × (length after ≡ length before)
  four_past p = (omega (arith, p.place, four_length), puts_length p)

  pub line_put : {s0 s1 s2 : Bytes} {at end past : ℕ} → Puts s0 at (four_columns w q) s1 end → Puts s1 end (10 ∷ []) s2 past → Puts s0 at (quad_line w q) s2 past
  unfolding four_columns line
  line_put p e = simp append_assoc at (puts_then p e)

pub line_length : (w : ℕ) (ns : List ℕ) → length (line w ns) ≡ length ns * w + 1
unfolding line
line_length w [] = omega arith
line_length w (n ∷ ns) = length-append (columns w n) (line w ns) ∙ omega (arith, columns_length w n, line_length w ns)
