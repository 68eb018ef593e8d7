-- `after_basic` meets its contract.
use mathlib.Core.Path.{sym}
use native.Mathlib.Omega.{arith}
use Rattle.serializer.proofs.StepLaws.{after_basic_none, margins_listed}
use Rattle.serializer.proofs.WorksLaws.{margins_after, works_then, works_by}
use Rattle.serializer.proofs.step.after_basic.Goals as goal

pub levels-a-requires : goal.levels-a-requires
levels-a-requires c = record { uncollapsed_in_bounds = c.requires.list_limits.0.uncollapsed; depth_in_bounds = c.requires.list_limits.0.level }

pub item-b-requires : goal.item-b-requires
item-b-requires c = c.levels-a.ensures.numbers c.requires.list_limits.1

pub block_margin-requires : goal.block_margin-requires
block_margin-requires c =
    omega (arith, margins_after (margins_listed _ _) c.requires.able_levels.able (works_then (c.levels-a.ensures.works_levels.at _ _ _) (c.item-b.ensures.at _ _ _)), c.requires.list_limits.0.margins)

pub returns : goal.returns
returns c =
    record {
      at = λ write cells out.
          works_by (works_then (works_then (c.levels-a.ensures.works_levels.at write cells out) (c.item-b.ensures.at _ _ _)) (c.block_margin.ensures.at _ _)) (λ under S h. sym (after_basic_none _ _ S));
    }
