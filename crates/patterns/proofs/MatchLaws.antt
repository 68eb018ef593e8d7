-- `matches_of` answers yes exactly where the bytes are not empty and some run of them fits.
use Rattle.byte_regex.proofs.MatchLaws.{finds_exactly}
use Rattle.patterns.specs.Patterns.{pattern}
use Rattle.patterns.specs.Match.{matches_of, MatchesExactly}

pub matches_exactly : MatchesExactly
unfolding matches_of
matches_exactly p s = finds_exactly (pattern p) s
