-- `levels` meets its contract.
use Rattle.serializer.proofs.LevelLaws.{levels_works, count_depth, numbers_count}
use Rattle.serializer.proofs.lists.levels.Goals as goal

pub level-requires : goal.level-requires
level-requires c = rw (c.count_uncollapsed.ensures, count_depth) c.requires.depth_in_bounds

pub returns : goal.returns
returns c =
    let works = rw c.count_uncollapsed.ensures at c.level.ensures.works_levels in
    let numbers = rw c.count_uncollapsed.ensures at c.level.ensures.numbers in
    record { works_levels = levels_works _ works; numbers = λ h. numbers (numbers_count c.args.n h) }
