-- `theorems` meets its contract.
use Rattle.utf8.proofs.Encodings.{grammar_is_encoding}
use Rattle.utf8.proofs.Grammar.{valid_is_grammar}
use Rattle.utf8.proofs.theorems.theorems.Goals as goal

pub returns : goal.returns
returns c = (valid_is_grammar, grammar_is_encoding)
