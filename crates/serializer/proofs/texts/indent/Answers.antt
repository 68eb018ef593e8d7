-- `indent` meets its contract.
use mathlib.Core.Path.{sym, ◌∙◌}
use native.Mathlib.Omega.{arith}
use Rattle.serializer.proofs.TextLaws.{indent_ready, indent_small, indent_works, indent_none}
use Rattle.serializer.proofs.texts.indent.Goals as goal

pub overflow_add-s : goal.overflow_add-s
overflow_add-s c = omega (arith, c.without_bullet-more.ensures, indent_small _ _ (sym c.is_indented.ensures ∙ c.if-is_indented.true) c.requires)

pub overflow_mul-s : goal.overflow_mul-s
overflow_mul-s c = omega (arith, c.without_bullet-more.ensures, indent_small _ _ (sym c.is_indented.ensures ∙ c.if-is_indented.true) c.requires)

pub pad-w-requires : goal.pad-w-requires
pad-w-requires c = rw c.without_bullet-more.ensures (indent_ready _ _ (sym c.is_indented.ensures ∙ c.if-is_indented.true) c.requires)

pub returns-then-is_indented : goal.returns-then-is_indented
returns-then-is_indented c = indent_works _ _ (sym c.is_indented.ensures ∙ c.if-is_indented.true) (rw c.without_bullet-more.ensures at c.pad-w.ensures)

pub returns : goal.returns
returns c = indent_none _ _ (sym c.is_indented.ensures ∙ c.if-is_indented.false)
