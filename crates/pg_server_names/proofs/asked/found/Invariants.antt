use Rattle.std.proofs.Common.{◌≡◌, ◌++◌, drop}
use Rattle.pg_server_names.specs.Asked.{found}
use Rattle.pg_server_names.proofs.asked.found.Given as goal

abbrev pub invariant-loop-name : goal.invariant-loop-name
invariant-loop-name l = l.spans.items ++ found l.text (drop l.name-index l.names) l.which l.kind l.characters ≡ found l.text l.names l.which l.kind l.characters
