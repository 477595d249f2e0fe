use Rattle.std.proofs.Common.{◌∷◌, length}
use Rattle.json.specs.Token.{key}
use Rattle.pg_trail.specs.Choices.{key_of}
use Rattle.pg_trail.proofs.Members.{Latest}
use Rattle.pg_trail.proofs.item.read_last.Given as goal

abbrev pub invariant-again : goal.invariant-again
invariant-again l = Latest (key_of l.choice) (key (key_of l.choice) ∷ l.fn.reader) l.reader l.item

abbrev pub decreases-again : goal.decreases-again
decreases-again l = length l.reader
