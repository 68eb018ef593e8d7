-- `attributes::or_empty` meets its contract.
use Rattle.std.specs.Prelude.{Option}
use mathlib.Core.Path.{sym, ap, subst, ◌∙◌}
use Rattle.common.specs.Bytes.{Bytes}
use Rattle.tree.specs.Attributes.{value_in, RangeInside}
use Rattle.tree.specs.Node.{or_empty}
use Rattle.tree.specs.declared.attributes.Span.{Span}
use Rattle.tree.proofs.attributes.or_empty.Goals as goal

pub part-requires : goal.part-requires
part-requires c = (c.requires.0.lined, subst (RangeInside c.args.l) c.in-Some.is c.requires.1)

pub returns-in-Some : goal.returns-in-Some
returns-in-Some c =
    let read : Option Span → Bytes = λ a. or_empty (value_in c.args.s.now c.args.l a) in
    c.part.ensures ∙ ap read (sym c.in-Some.is)
