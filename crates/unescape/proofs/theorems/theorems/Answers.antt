-- `theorems` meets its contract.
use mathlib.Core.Path.{refl}
use Rattle.unescape.specs.Theorems.{Undoes, Redoes, Parts, Refuses}
use Rattle.unescape.specs.Unescape.{unescaped_from}
use Rattle.unescape.proofs.ExampleLaws.{examples_right}
use Rattle.unescape.proofs.InverseLaws.{undoes, undoes_called, redoes, not_longer}
use Rattle.unescape.proofs.RefusalLaws.{refused_first, refused_only}
use Rattle.unescape.proofs.UnescapeLaws.{unescaped_escaped, unescaped_other}
use Rattle.unescape.proofs.theorems.theorems.Goals as goal

pub returns : goal.returns
unfolding unescaped_from
returns c =
    let inverse : Undoes = record { back = undoes; called = undoes_called } in
    let again : Redoes = record { given = λ s t e. (redoes s t e).0; only = λ s t e. (redoes s t e).1 } in
    let parts : Parts =
    record { end = refl; character = unescaped_escaped; copied = λ c s n. unescaped_other c n s; not_longer = not_longer } in
    let refuses : Refuses = record { first = refused_first; only = refused_only } in
    record { undoes = inverse; redoes = again; parts = parts; refuses = refuses; examples = examples_right }
