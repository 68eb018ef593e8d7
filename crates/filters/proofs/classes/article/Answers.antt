-- `classes::article` meets its contract.
use borrow.Author.Tests.{ne_eqb}
use Rattle.patterns.specs.Match.{matches_of}
use Rattle.patterns.specs.Patterns.{patterns}
use Rattle.common.proofs.TestLaws.{or_no}
use Rattle.filters.proofs.classes.article.Goals as goal

pub returns-else-tag-eq-ARTICLE : goal.returns-else-tag-eq-ARTICLE
unfolding matches_of patterns
returns-else-tag-eq-ARTICLE c = or_no _ (ne_eqb _ _ c.if-tag-eq-ARTICLE.false) c.matches_among.ensures
