-- `after` meets its contract.
use Rattle.serializer.proofs.step.after.Goals as goal

pub after_basic-requires : goal.after_basic-requires
after_basic-requires c =
    record { list_limits = (c.requires.margins_in_bounds.1 (rw c.in-Basic.is), c.requires.margins_in_bounds.2); able_levels = record { write = _; cells = _; out = _; able = rw c.in-Basic.is at c.requires.able_listed.able } }

pub after_html-requires : goal.after_html-requires
after_html-requires c =
    record { list_limits = c.requires.margins_in_bounds.1 (rw c.in-MinimalHtml.is); able_listed = record { cells = _; able = rw c.in-MinimalHtml.is at c.requires.able_listed.able } }

pub returns-in-Off : goal.returns-in-Off
returns-in-Off c = record { at = λ cells. rw c.in-Off.is (c.after_off.ensures.at _ _) }

pub returns-in-Basic : goal.returns-in-Basic
returns-in-Basic c = record { at = λ cells. rw c.in-Basic.is (c.after_basic.ensures.at _ cells _) }

pub returns-in-MinimalHtml : goal.returns-in-MinimalHtml
returns-in-MinimalHtml c = record { at = λ cells. rw c.in-MinimalHtml.is (c.after_html.ensures.at cells) }
