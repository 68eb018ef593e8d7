-- The last row at each depth, entered row by row: the rows that the next row stands in are at hand.
use Rattle.std.specs.Prelude.{Some}
use mathlib.Core.Path.{◌≡◌, refl, sym, ap, ◌∙◌}
use mathlib.Core.Bool.{Bool}
use mathlib.Core.List.{List}
use Prim.Native.Nat.{ℕ, suc, ◌+◌, ◌≤◌, ◌<◌}
use native.Mathlib.Numerals.{add-one}
use native.Mathlib.Omega.{arith}
use lib.ListN.{length, get_or, set, drop, length-set, get_or-eq_default}
use lib.Seq.{get_or-set_same, get_or-set_other}
use Rattle.common.proofs.Choice.{by_cond}
use Rattle.filters.specs.Footer.{Above}
use Rattle.sheet.specs.Column.{last_above}
use Rattle.tree.specs.Rows.{WellFormed, past_from}
use Rattle.tree.proofs.PastLaws.{above_or_not, past_at, above_skip}
use Rattle.tree.proofs.Scans.{above_suc_hit, above_suc_more}
use Rattle.left_out.specs.LeftOut.{Fits, next_row}

module _ (column : List ℕ) where
  -- the rows before row k are entered
  pub record Entered (start stack : List ℕ) (k : ℕ) : Type 0 where
    pub above : Above column k stack
    pub fits : Fits column stack
    pub same : length stack ≡ length start

  pub entered_none : WellFormed column → {stack : List ℕ} → Fits column stack → Entered stack stack 0
  entered_none w f = record { above = record { long = omega (arith, w.root); row = λ d h. absurd (omega (arith, w.root)) }; fits = f; same = refl }

  module _ (w : WellFormed column) {start before after : List ℕ} {k : ℕ} (g : Entered start before k) (h : k < length column) (stored : after ≡ set before (get_or column k 0) k) where
    entered_same : length after ≡ length before
    entered_same = rw stored (length-set before (get_or column k 0) k)

    -- up to row k's own depth
    entered : (d : ℕ) → d ≤ get_or column k 0 → last_above column (suc d) (suc k) ≡ Some (get_or after d 0)
    entered d l =
        above_or_not (get_or column k 0) d
        (λ m.
        above_suc_more column (suc d) k (get_or column k 0) refl (omega arith)
        ∙ g.above.row d m
        ∙ ap Some (sym (rw stored (get_or-set_other before (get_or column k 0) d k 0 (omega arith)))))
        (λ m.
        let e : d ≡ get_or column k 0 = omega arith in
        above_suc_hit column (suc d) k (get_or column k 0) refl (omega arith)
        ∙ ap Some (sym (rw (stored, e) (get_or-set_same before (get_or column k 0) k 0 (g.fits.place k h)))))

    -- row n stands in rows up to row k
    entered_at : (n x : ℕ) → get_or column n 0 ≡ x → x ≤ suc (get_or column k 0) → ((d : ℕ) → d < x → last_above column (suc d) n ≡ last_above column (suc d) (suc k)) → Entered start after n
    entered_at n x e low same =
        record {
          above = record { long = omega (arith, entered_same, g.fits.place k h); row = λ d m. same d (omega arith) ∙ entered d (omega arith) };
          fits = record { place = λ i m. omega (arith, entered_same, g.fits.place i m) };
          same = entered_same ∙ g.same;
        }

    pub entered_more : Entered start after (k + 1)
    entered_more =
        rw (add-one k)
        (above_or_not (length column) (suc k)
        (λ m. entered_at (suc k) (get_or column (suc k) 0) refl (w.step k m) (λ d l. refl))
        (λ m. entered_at (suc k) 0 (get_or-eq_default column 0 {n = suc k} m) (omega arith) (λ d l. refl)))

    entered_past : Entered start after (past_from (get_or column k 0) (k + 1) (drop (k + 1) column))
    entered_past =
        let past = past_from (get_or column k 0) (suc k) (drop (suc k) column) in
        let same : (d : ℕ) → d ≤ get_or column k 0 → last_above column (suc d) past ≡ last_above column (suc d) (suc k) =
        λ d l. above_skip column (get_or column k 0) (suc d) (omega arith) (suc k) in
        rw (add-one k)
        (above_or_not (length column) past
        (λ m.
        let low = past_at column (get_or column k 0) (suc k) m in
        entered_at past (get_or column past 0) refl (omega arith) (λ d l. same d (omega arith)))
        (λ m. entered_at past 0 (get_or-eq_default column 0 {n = past} m) (omega arith) (λ d l. absurd (omega arith))))

    pub entered_next : (out : Bool) {next : ℕ} → next ≡ next_row column out k → Entered start after next
    entered_next out e = rw e (by_cond (λ (n : ℕ). Entered start after n) out (λ _. entered_past) (λ _. entered_more))

  pub entered_all : {start stack : List ℕ} {k n : ℕ} → Entered start stack k → k ≡ n → Above column n stack
  entered_all g e = rw e at g.above

  pub entered_root : WellFormed column → {before after : List ℕ} {root : ℕ} → Fits column before → Above column root before → root < length column → after ≡ set before (get_or column root 0) root
      → (out : Bool) {next : ℕ} → next ≡ next_row column out root → Entered after after next
  entered_root w {before} {after} f a h stored out e =
      let before_root : Entered before before _ = record { above = a; fits = f; same = refl } in
      let g = entered_next w before_root h stored out e in
      record { above = g.above; fits = g.fits; same = refl }
