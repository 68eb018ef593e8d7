-- `classes::signin_meta_or_social` meets its contract.
use borrow.Author.Tests.{lt-ltb, le-ltb}
use Rattle.patterns.specs.Match.{matches_of}
use Rattle.patterns.specs.Patterns.{patterns}
use Rattle.filters.specs.Classes.{any_match}
use Rattle.filters.specs.Filters.{signin_meta_or_social}
use Rattle.common.proofs.TestLaws.{and_yes, and_no}
use Rattle.filters.proofs.classes.signin_meta_or_social.Goals as goal

pub returns-then-depth-le2 : goal.returns-then-depth-le2
unfolding signin_meta_or_social
returns-then-depth-le2 c = and_no _ (le-ltb _ _ c.if-depth-le2.true)

pub returns-then-post_meta : goal.returns-then-post_meta
unfolding signin_meta_or_social any_match matches_of patterns
returns-then-post_meta c = and_yes _ (lt-ltb _ _ c.if-depth-le2.false) (rw c.if-post_meta.true c.any_among.ensures)

pub returns : goal.returns
unfolding signin_meta_or_social any_match matches_of patterns
returns c = and_yes _ (lt-ltb _ _ c.if-depth-le2.false) (rw c.if-post_meta.false c.any_among-2.ensures)
