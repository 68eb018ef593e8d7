-- `after_html` meets its contract.
use mathlib.Core.Path.{sym}
use native.Mathlib.Omega.{arith}
use Rattle.serializer.proofs.HtmlLaws.{rises_finish}
use Rattle.serializer.proofs.StepLaws.{after_html_is, margins_marked}
use Rattle.serializer.proofs.WorksLaws.{margins_after, able_by, able_first, able_then, able_out, works_then, works_by}
use Rattle.serializer.proofs.step.after_html.Goals as goal

pub levels-a-requires : goal.levels-a-requires
levels-a-requires c = record { uncollapsed_in_bounds = c.requires.list_limits.uncollapsed; depth_in_bounds = c.requires.list_limits.level }

pub html_marks-b-requires : goal.html_marks-b-requires
html_marks-b-requires c =
    able_out (able_first (rises_finish _ _ _) (able_then (c.levels-a.ensures.works_levels.at _ _ _) (able_by c.requires.able_listed.able (λ under S h. after_html_is _ _ _ S))))

pub finish_html-requires : goal.finish_html-requires
finish_html-requires c =
    let d = works_then (c.levels-a.ensures.works_levels.at _ _ _) (c.html_marks-b.ensures.at _ _) in
    record { margins_in_bounds = omega (arith, margins_after (margins_marked _ _) c.requires.able_listed.able d, c.requires.list_limits.margins); able_out = able_out (able_then d (able_by c.requires.able_listed.able (λ under S h. after_html_is _ _ _ S))) }

pub returns : goal.returns
returns c =
    record {
      at = λ cells.
          works_by (works_then (works_then (c.levels-a.ensures.works_levels.at _ cells _) (c.html_marks-b.ensures.at _ _)) (c.finish_html.ensures.at _ _)) (λ under S h. sym (after_html_is _ _ _ S));
    }
