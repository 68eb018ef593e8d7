-- `is_skip_name` meets its contract: each arm says what its list does.
use Rattle.marking.proofs.NameLaws.{left_by_list}
use Rattle.marking.proofs.names.is_skip_name.Goals as goal

pub returns-in-Always : goal.returns-in-Always
returns-in-Always c =
    let a = c.args in
    left_by_list a.name.now a.options a.noscript c.list_of.ensures c.in-Always.is

pub returns-in-Media : goal.returns-in-Media
returns-in-Media c =
    let a = c.args in
    left_by_list a.name.now a.options a.noscript c.list_of.ensures c.in-Media.is

pub returns-in-Noscript : goal.returns-in-Noscript
returns-in-Noscript c =
    let a = c.args in
    left_by_list a.name.now a.options a.noscript c.list_of.ensures c.in-Noscript.is

pub returns-in-Fields : goal.returns-in-Fields
returns-in-Fields c =
    let a = c.args in
    left_by_list a.name.now a.options a.noscript c.list_of.ensures c.in-Fields.is

pub returns-in-Unlisted : goal.returns-in-Unlisted
returns-in-Unlisted c =
    let a = c.args in
    left_by_list a.name.now a.options a.noscript c.list_of.ensures c.in-Unlisted.is
