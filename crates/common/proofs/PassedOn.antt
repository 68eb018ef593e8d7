-- What `?` hands on: the error itself, where it is of the function's own type.
use Rattle.std.specs.Prelude.{◌≡◌, Result, Ok, Err}
use Rattle.std.specs.Result.{IsErrAnd}
use mathlib.Core.Path.{ap}

pub passed_on : {T E : Type 0} (r : Result T E) {e : E} → IsErrAnd r (λ y. y ≡ e) → r ≡ Err e
passed_on (Ok x) h = absurd h
passed_on (Err y) h = ap Err h
