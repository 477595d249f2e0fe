use Rattle.std.proofs.Common.{◌≡◌, ◌++◌, length}
use Rattle.pg_file_tokens.specs.View.{placed_tokens_of}
use Rattle.pg_server_names.specs.Surroundings.{at_first}
use Rattle.pg_server_names.specs.Senses.{names_in}
use Rattle.pg_server_names.proofs.listing.names.Given as goal

abbrev pub invariant-loop-first : goal.invariant-loop-first
invariant-loop-first l = l.found.items ++ names_in l.surroundings (placed_tokens_of l.rest) ≡ names_in at_first (placed_tokens_of l.lexemes)

abbrev pub decreases-loop-first : goal.decreases-loop-first
decreases-loop-first l = length l.rest
