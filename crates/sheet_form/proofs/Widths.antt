-- What is right has room at every width that has room for its pool.
use mathlib.Core.Path.{◌≡◌}
use mathlib.Core.List.{List, [], ◌∷◌}
use mathlib.Core.Logic.{◌⊎◌, inl, inr}
use Prim.Native.Nat.{ℕ, zero, suc, ◌^◌, ◌≤◌, ◌<◌}
use native.Mathlib.Nat.{pow-le-pow_right}
use native.Mathlib.Omega.{arith}
use lib.Dec.{lit<}
use lib.ListN.{length, get_or}
use Rattle.sheet.specs.Layout.{most_depth, no_row}
use Rattle.sheet.specs.declared.line.Row.{Row}
use Rattle.sheet_form.specs.Encoding.{Fits, Below, none, some}
use Rattle.sheet_form.specs.Decoded.{Decoded, counts_of, row_in}
use Rattle.sheet_form.specs.Right.{Right}

pub counts_at : (rs : List Row) (i : ℕ) → i < length rs → (get_or rs i no_row).attributes ≤ counts_of rs
unfolding counts_of
counts_at [] i h = absurd (omega arith)
counts_at (r ∷ rs) zero h = omega arith
counts_at (r ∷ rs) (suc i) h = omega (arith, counts_at rs i (omega arith))

kind_small : (k : ℕ) → (k ≡ 1) ⊎ ((k ≡ 3) ⊎ (k ≡ 8)) → k ≤ 8
kind_small k (inl e) = omega arith
kind_small k (inr (inl e)) = omega arith
kind_small k (inr (inr e)) = omega arith

below_four : {k a b c e : ℕ} → a < k → b < k → c < k → e < k → Below k (a ∷ b ∷ c ∷ e ∷ [])
below_four p q r s = some p (some q (some r (some s none)))

below_eight : {k a b c e a' b' c' e' : ℕ} → a < k → b < k → c < k → e < k → a' < k → b' < k → c' < k → e' < k → Below k (a ∷ b ∷ c ∷ e ∷ a' ∷ b' ∷ c' ∷ e' ∷ [])
below_eight p q r s p' q' r' s' = some p (some q (some r (some s (below_four p' q' r' s'))))

module _ {d : Decoded} (r : Right d) where
  pub depth_small : (i : ℕ) → i < length d.rows → (row_in d i).depth ≤ most_depth
  depth_small zero h = omega (arith, r.body_depth)
  depth_small (suc i) h = (r.later i h).depth_within

  pub right_fits : {w : ℕ} → 5 ≤ w → w ≤ 10 → length d.pool < 10 ^ w → Fits w d
  right_fits {w} wide most h =
      let large : 100000 ≤ 10 ^ w = pow-le-pow_right {n = 10} (lit< tt) {i = 5} {j = w} wide in
      record {
        some_column = omega arith;
        most_columns = most;
        header = below_four (omega (arith, r.rows)) (omega (arith, r.attributes)) h (omega (arith, r.root_row, r.rows));
        row = λ i k.
            let name = (r.name i k).inside in
            let value = (r.value i k).inside in
            let mark = (r.kind i k).mark in
            let kind = kind_small (row_in d i).kind (r.kind i k).listed in
            let depth = depth_small i k in
            let count = counts_at d.rows i k in
            below_eight (omega arith) (omega arith) (omega arith) (omega arith) (omega arith) (omega arith) (omega arith) (omega (arith, r.counts, r.attributes));
        attribute = λ j k.
            let name = (r.attribute_name j k).inside in
            let value = (r.attribute_value j k).inside in
            below_four (omega arith) (omega arith) (omega arith) (omega arith);
      }
