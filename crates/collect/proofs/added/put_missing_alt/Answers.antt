-- `added::put_missing_alt` meets its contract.
use mathlib.Core.Path.{refl, ap, ◌∙◌}
use mathlib.Core.Bool.{Bool, false}
use mathlib.Core.List.{[]}
use Rattle.common.specs.Bytes.{codes}
use Rattle.serializer.specs.Progress.{read_of}
use Rattle.serializer.proofs.ShowingLaws.{ready_less}
use Rattle.html2text.specs.Collect.{missing_alt}
use Rattle.collect.proofs.PieceLaws.{show_same, shows_same, shows_nothing}
use Rattle.collect.proofs.ReadLaws.{read_empty}
use Rattle.collect.proofs.added.put_missing_alt.Goals as goal

pub show-requires : goal.show-requires
unfolding codes
show-requires c =
    let on = c.if-o.true in
    let read = ap (λ (b : Bool). read_of c.args.p.showing false (missing_alt b)) on in
    ready_less _ (show_same (ap missing_alt on) read c.requires)

pub returns-then-o : goal.returns-then-o
unfolding codes
returns-then-o c =
    let on = c.if-o.true in
    let read = ap (λ (b : Bool). read_of c.args.p.showing false (missing_alt b)) on in
    shows_same (ap missing_alt on) read c.show.ensures

pub returns : goal.returns
returns c =
    let off = c.if-o.false in
    let read = ap (λ (b : Bool). read_of c.args.p.showing false (missing_alt b)) off in
    shows_nothing (ap missing_alt off) (read ∙ read_empty c.args.p.showing false [] refl) c.requires
