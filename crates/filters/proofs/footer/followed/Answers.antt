-- `footer::followed` meets its contract.
use Rattle.filters.proofs.RowLaws.{past_in_sheet, climbed_start, climbed_end, parent_inside, climbed_body, climbed_followed, climbed_more}
use Rattle.filters.proofs.footer.followed.Goals as goal

pub loop-depth-init : goal.loop-depth-init
loop-depth-init c = climbed_start c.requires.1 c.depth_at-depth.ensures c.past-end.ensures c.requires.2

pub is_body-requires : goal.is_body-requires
is_body-requires c = (c.requires.0, parent_inside c.loop-depth.invariant c.loop-depth-test.true)

pub returns-then-is_body : goal.returns-then-is_body
returns-then-is_body c = climbed_body c.loop-depth.invariant c.loop-depth-test.true c.is_body.ensures c.if-is_body.true

pub returns-then-content_follows : goal.returns-then-content_follows
returns-then-content_follows c = climbed_followed c.loop-depth.invariant c.loop-depth-test.true c.is_body.ensures c.if-is_body.false c.content_follows.ensures c.if-content_follows.true

pub past_from-end-requires : goal.past_from-end-requires
past_from-end-requires c = (c.requires.0, past_in_sheet _ _ _ c.loop-depth.invariant.inside c.loop-depth.invariant.past)

pub loop-depth-preserved : goal.loop-depth-preserved
loop-depth-preserved c = climbed_more c.loop-depth.invariant c.loop-depth-test.true c.is_body.ensures c.if-is_body.false c.content_follows.ensures c.requires.0 c.if-content_follows.false c.past_from-end.ensures

pub returns : goal.returns
returns c = climbed_end c.loop-depth.invariant c.loop-depth-test.false
