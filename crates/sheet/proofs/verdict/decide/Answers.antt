-- `verdict::decide` meets its contract.
use mathlib.Core.Path.{refl, sym, ◌∙◌}
use native.Mathlib.Omega.{arith}
use Rattle.sheet.specs.Verdict.{node_kind, node_tree, node_range, attribute_range, node_text, attribute_text}
use Rattle.sheet.proofs.Judging.{node_below, attribute_below, judged_kind, judged_tree, judged_root, judged_node_range, judged_attribute_range, judged_counts, judged_node_text, judged_attribute_text, judged_sheet}
use Rattle.sheet.proofs.verdict.decide.Goals as goal

pub overflow_add-result : goal.overflow_add-result
overflow_add-result c = let p = c.requires in omega (arith, node_below _ _ p.1 p.2 p.3 (λ x. x.kind) (node_kind _ _) refl c.in-Some.is, p.0.nodes)

pub returns-in-Some : goal.returns-in-Some
returns-in-Some c = let p = c.requires in judged_kind _ _ p.1 p.2 p.3 c.in-Some.is

pub overflow_add-result-in-Some-tree : goal.overflow_add-result-in-Some-tree
overflow_add-result-in-Some-tree c = let p = c.requires in omega (arith, node_below _ _ p.1 p.2 p.3 (λ x. x.tree) (node_tree _ _) refl c.in-Some-tree.is, p.0.nodes)

pub returns-in-Some-tree : goal.returns-in-Some-tree
returns-in-Some-tree c = let p = c.requires in judged_tree _ _ p.1 p.2 p.3 c.in_default.is c.in-Some-tree.is

pub returns-then-kind_at-ne1 : goal.returns-then-kind_at-ne1
returns-then-kind_at-ne1 c =
    let p = c.requires in
    judged_root _ _ p.1 p.2 p.3 c.in_default.is c.in_default-tree.is (λ e. c.if-kind_at-ne1.true (c.kind_at.ensures ∙ e))

pub overflow_add-result-in-Some-range : goal.overflow_add-result-in-Some-range
overflow_add-result-in-Some-range c = let p = c.requires in omega (arith, node_below _ _ p.1 p.2 p.3 (λ x. x.range) (node_range _ _) refl c.in-Some-range.is, p.0.nodes)

pub returns-in-Some-range : goal.returns-in-Some-range
returns-in-Some-range c =
    let p = c.requires in
    judged_node_range _ _ p.1 p.2 p.3 c.in_default.is c.in_default-tree.is (sym c.kind_at.ensures ∙ c.if-kind_at-ne1.false) c.in-Some-range.is

pub overflow_add-result-in-Some-range-2 : goal.overflow_add-result-in-Some-range-2
overflow_add-result-in-Some-range-2 c = let p = c.requires in omega (arith, attribute_below _ _ p.1 p.2 p.3 (λ x. x.range) (attribute_range _ _) refl c.in-Some-range-2.is, p.0.nodes, p.0.attributes)

pub overflow_add-result-in-Some-range-2-2 : goal.overflow_add-result-in-Some-range-2-2
overflow_add-result-in-Some-range-2-2 c = let p = c.requires in omega (arith, attribute_below _ _ p.1 p.2 p.3 (λ x. x.range) (attribute_range _ _) refl c.in-Some-range-2.is, p.0.nodes, p.0.attributes)

pub returns-in-Some-range-2 : goal.returns-in-Some-range-2
returns-in-Some-range-2 c =
    let p = c.requires in
    judged_attribute_range _ _ p.1 p.2 p.3 c.in_default.is c.in_default-tree.is (sym c.kind_at.ensures ∙ c.if-kind_at-ne1.false) c.in_default-range.is c.in-Some-range-2.is

pub returns-then-n-l : goal.returns-then-n-l
returns-then-n-l c =
    let p = c.requires in
    judged_counts _ _ p.1 p.2 p.3 c.in_default.is c.in_default-tree.is (sym c.kind_at.ensures ∙ c.if-kind_at-ne1.false) c.in_default-range.is c.in_default-range-2.is c.if-n-l.true

pub overflow_add-result-in-Some-encoding : goal.overflow_add-result-in-Some-encoding
overflow_add-result-in-Some-encoding c = let p = c.requires in omega (arith, node_below _ _ p.1 p.2 p.3 (λ x. x.encoding) (node_text _ _) refl c.in-Some-encoding.is, p.0.nodes)

pub returns-in-Some-encoding : goal.returns-in-Some-encoding
returns-in-Some-encoding c =
    let p = c.requires in
    judged_node_text _ _ p.1 p.2 p.3 c.in_default.is c.in_default-tree.is (sym c.kind_at.ensures ∙ c.if-kind_at-ne1.false) c.in_default-range.is c.in_default-range-2.is c.if-n-l.false c.in-Some-encoding.is

pub overflow_add-result-in-Some-encoding-2 : goal.overflow_add-result-in-Some-encoding-2
overflow_add-result-in-Some-encoding-2 c = let p = c.requires in omega (arith, attribute_below _ _ p.1 p.2 p.3 (λ x. x.encoding) (attribute_text _ _) refl c.in-Some-encoding-2.is, p.0.nodes, p.0.attributes)

pub overflow_add-result-in-Some-encoding-2-2 : goal.overflow_add-result-in-Some-encoding-2-2
overflow_add-result-in-Some-encoding-2-2 c = let p = c.requires in omega (arith, attribute_below _ _ p.1 p.2 p.3 (λ x. x.encoding) (attribute_text _ _) refl c.in-Some-encoding-2.is, p.0.nodes, p.0.attributes)

pub returns-in-Some-encoding-2 : goal.returns-in-Some-encoding-2
returns-in-Some-encoding-2 c =
    let p = c.requires in
    judged_attribute_text _ _ p.1 p.2 p.3 c.in_default.is c.in_default-tree.is (sym c.kind_at.ensures ∙ c.if-kind_at-ne1.false) c.in_default-range.is c.in_default-range-2.is c.if-n-l.false c.in_default-encoding.is c.in-Some-encoding-2.is

pub returns : goal.returns
returns c =
    let p = c.requires in
    judged_sheet _ _ p.1 p.2 p.3 c.in_default.is c.in_default-tree.is (sym c.kind_at.ensures ∙ c.if-kind_at-ne1.false) c.in_default-range.is c.in_default-range-2.is c.if-n-l.false c.in_default-encoding.is c.in_default-encoding-2.is
