-- Each of the four rules says yes exactly when the whole-number comparison does.
use Rattle.std.proofs.Common.{◌≡◌, ℕ, zero, suc, ◌*◌, ◌<◌, ◌≤◌, Bool, true, false, ◌&&◌, eqb, ltb, ◌↔◌, sym, refl, ap, ◌∙◌, le_trans, lt_of_le_of_lt, mul-le-mul_right, mul_comm, mul-le-mul_left, one-mul, mul-zero, arith, lit<, lit≤, ltb-false, ltb-true, le-ltb, lt-ltb, eqb-true}
use lib.Ieee.{Float, lt}
use borrow.Author.Tests.{eqb-false}
use Rattle.common.proofs.Choice.{by_test, absurd_test}
use Rattle.quotient.specs.Quotient.{quotient}
use Rattle.quotient.proofs.QuotientLaws.{quotient_lt, fifth_is, three_fifths_is}
use Rattle.sheet.specs.Layout.{most_rows, depths}
use Rattle.tree.specs.Page.{widest_pool, node_at}
use Rattle.tree.proofs.TextLengths.{length_small}
use Rattle.links.specs.Exact.{Possible, says_yes, RulesAreExact, ElementsAreExact}
use Rattle.links.specs.Links.{text_bytes, link_bytes, is_too_long, exceeds, link_cluster, fifth_of_any, fifth_of500, three_fifths_of800, three_fifths_of1500}
use Rattle.links.specs.declared.Rule.{Rule}
use Rattle.links.proofs.ClusterLaws.{cluster_of_element}
use Rattle.links.proofs.CountLaws.{links_small}
use Rattle.links.proofs.MeasureLaws.{measure_too_long, measure_no_text, measure_no_links, measure_share}

product_pos : (a d n : ℕ) → n < d * a → 0 < a
product_pos zero d n h = absurd (omega (arith, mul-zero d))
product_pos (suc a) d n h = omega arith

-- a rule whose ratio is c / d
module _ (rule : Rule) (c d : ℕ) (ratio : rule.ratio ≡ quotient c d) (proper : c ≤ d) (positive : 0 < d) (small : d ≤ 1000) (total links : ℕ) (p : Possible total links) where
  -- a share exceeds it as the fractions compare
  share_exact : 0 < total → lt rule.ratio (quotient links total) ≡ ltb (c * total) (d * links)
  share_exact h =
      ap (λ (q : Float). lt q (quotient links total)) ratio
      ∙ quotient_lt links total c d h positive (le_trans p.links_most (lit≤ tt)) proper
      (lt_of_le_of_lt (le_trans (mul-le-mul_right d p.total_most) (mul-le-mul_left (most_rows * widest_pool) small)) (lit< tt))
      ∙ ap (ltb (c * total)) (mul_comm links d)

  yes_at : 0 < total → 0 < links → is_too_long rule total ≡ false → says_yes rule total links ≡ ltb (c * total) (d * links)
  yes_at h k e = ap (exceeds rule) (sym (measure_share rule total links e (λ z. omega arith) (λ z. omega arith))) ∙ share_exact h

  yes_exact : (says_yes rule total links ≡ true) ↔ ((0 < total) × (is_too_long rule total ≡ false) × (c * total < d * links))
  yes_exact = (
    λ y.
        by_test (is_too_long rule total) (λ e. absurd_test y (ap (exceeds rule) (sym (measure_too_long rule total links e))))
        (λ e.
        by_test (eqb total 0) (λ z. absurd_test y (ap (exceeds rule) (sym (measure_no_text rule total links e (eqb-true total 0 z)))))
        (λ n.
        let h : 0 < total = omega (arith, eqb-false total 0 n) in
        by_test (eqb links 0) (λ z. absurd_test y (ap (exceeds rule) (sym (measure_no_links rule total links e (eqb-false total 0 n) (eqb-true links 0 z)))))
        (λ m. (h, e, ltb-true (c * total) (d * links) (sym (yes_at h (omega (arith, eqb-false links 0 m)) e) ∙ y))))),
    λ q. yes_at q.0 (product_pos links d (c * total) q.2) q.1 ∙ lt-ltb (c * total) (d * links) q.2,
  )

  -- with a limit
  within : 0 < rule.limit → (is_too_long rule total ≡ false) ↔ (total ≤ rule.limit)
  within h = (
    λ e. ltb-false rule.limit total (sym (ap (λ (b : Bool). b && ltb rule.limit total) (lt-ltb 0 rule.limit h)) ∙ e),
    λ l. rw (lt-ltb 0 rule.limit h, le-ltb rule.limit total l),
  )

  yes_within : 0 < rule.limit → (says_yes rule total links ≡ true) ↔ ((0 < total) × (total ≤ rule.limit) × (c * total < d * links))
  yes_within h = simp (within h) at yes_exact

pub rules_are_exact : RulesAreExact
rules_are_exact =
    record {
      a_fifth_of_any = λ total links p.
          let x = yes_exact fifth_of_any 1 5 fifth_is (lit≤ tt) (lit< tt) (lit≤ tt) total links p in
          (λ y. ((x.0 y).0, rw one-mul at (x.0 y).2), λ q. x.1 (q.0, refl, rw one-mul q.1));
      fifth_of_500 = λ total links p. rw one-mul at (yes_within fifth_of500 1 5 fifth_is (lit≤ tt) (lit< tt) (lit≤ tt) total links p (lit< tt));
      three_fifths_of_800 = λ total links p. yes_within three_fifths_of800 3 5 three_fifths_is (lit≤ tt) (lit< tt) (lit≤ tt) total links p (lit< tt);
      three_fifths_of_1500 = λ total links p. yes_within three_fifths_of1500 3 5 three_fifths_is (lit≤ tt) (lit< tt) (lit≤ tt) total links p (lit< tt);
    }

-- the counts of a row of an accepted sheet are possible
pub elements_are_exact : ElementsAreExact
elements_are_exact s l a i h e =
    let n = node_at s l in
    let d = depths s l in
    let p : Possible (text_bytes n d i) (link_bytes n d i) = record { total_most = length_small a i h; links_most = links_small a i h } in
    let at : (rule : Rule) → link_cluster n d rule i ≡ says_yes rule (text_bytes n d i) (link_bytes n d i) = λ rule. sym (cluster_of_element rule n d i e) in
    record {
      a_fifth_of_any = rw (at fifth_of_any) (rules_are_exact.a_fifth_of_any _ _ p);
      fifth_of_500 = rw (at fifth_of500) (rules_are_exact.fifth_of_500 _ _ p);
      three_fifths_of_800 = rw (at three_fifths_of800) (rules_are_exact.three_fifths_of_800 _ _ p);
      three_fifths_of_1500 = rw (at three_fifths_of1500) (rules_are_exact.three_fifths_of_1500 _ _ p);
    }
