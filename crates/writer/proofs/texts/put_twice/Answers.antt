-- `put_twice` meets its contract.
use Rattle.common.specs.Bytes.{codes}
use Rattle.text.proofs.EscapeLaws.{escaped_other}
use Rattle.writer.proofs.PlacesLaws.{room_as, stored_as}
use Rattle.writer.proofs.TimesLaws.{twice_ampersand, twice_quote, twice_less, twice_greater, twice_other}
use Rattle.writer.proofs.texts.put_twice.Goals as goal

pub put_run-requires : goal.put_run-requires
unfolding codes
put_run-requires c = room_as (twice_ampersand _ c.in-38.is) c.requires

pub put_run-requires-in-34 : goal.put_run-requires-in-34
unfolding codes
put_run-requires-in-34 c = room_as (twice_quote _ c.in-34.is) c.requires

pub put_run-requires-in-60 : goal.put_run-requires-in-60
unfolding codes
put_run-requires-in-60 c = room_as (twice_less _ c.in-60.is) c.requires

pub put_run-requires-in-62 : goal.put_run-requires-in-62
unfolding codes
put_run-requires-in-62 c = room_as (twice_greater _ c.in-62.is) c.requires

pub put_one-requires : goal.put_one-requires
put_one-requires c = let n = c.in_default.in_default-own.rest in room_as (twice_other _ (escaped_other _ n.0.0.0.1 n.0.0.1 n.0.1 n.1)) c.requires

pub returns-in-38 : goal.returns-in-38
unfolding codes
returns-in-38 c = stored_as (twice_ampersand _ c.in-38.is) c.put_run.ensures

pub returns-in-34 : goal.returns-in-34
unfolding codes
returns-in-34 c = stored_as (twice_quote _ c.in-34.is) c.put_run-in-34.ensures

pub returns-in-60 : goal.returns-in-60
unfolding codes
returns-in-60 c = stored_as (twice_less _ c.in-60.is) c.put_run-in-60.ensures

pub returns-in-62 : goal.returns-in-62
unfolding codes
returns-in-62 c = stored_as (twice_greater _ c.in-62.is) c.put_run-in-62.ensures

pub returns-in_default : goal.returns-in_default
returns-in_default c = let n = c.in_default.in_default-own.rest in stored_as (twice_other _ (escaped_other _ n.0.0.0.1 n.0.0.1 n.0.1 n.1)) c.put_one.ensures
