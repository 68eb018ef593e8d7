-- The measure by its tests.
use Rattle.std.proofs.Common.{◌≡◌, ℕ, true, false, eq-eqb, ne_eqb}
use Rattle.quotient.specs.Quotient.{quotient}
use Rattle.links.specs.Links.{is_too_long, measure_of}
use Rattle.links.specs.declared.Measure.TheVariants.{NoText, TooLong, NoLinks, Share}
use Rattle.links.specs.declared.Rule.{Rule}

module _ (rule : Rule) (total links : ℕ) where
  pub measure_too_long : is_too_long rule total ≡ true → TooLong ≡ measure_of rule total links
  unfolding measure_of
  measure_too_long e = rw (measure_of, e)

  pub measure_no_text : is_too_long rule total ≡ false → total ≡ 0 → NoText ≡ measure_of rule total links
  unfolding measure_of
  measure_no_text e z = rw (measure_of, e, eq-eqb total 0 z)

  pub measure_no_links : is_too_long rule total ≡ false → (total ≡ 0 → ⊥) → links ≡ 0 → NoLinks ≡ measure_of rule total links
  unfolding measure_of
  measure_no_links e n z = rw (measure_of, e, ne_eqb total 0 n, eq-eqb links 0 z)

  pub measure_share : is_too_long rule total ≡ false → (total ≡ 0 → ⊥) → (links ≡ 0 → ⊥) → Share (quotient links total) ≡ measure_of rule total links
  unfolding measure_of
  measure_share e n m = rw (measure_of, e, ne_eqb total 0 n, ne_eqb links 0 m)
