use Rattle.std.proofs.Common.{◌≡◌, true, take}
use Rattle.std.specs.Str.{all_scalars}
use Rattle.pg_grammar.proofs.spelled.go_through.Given as goal

abbrev pub invariant-loop-character : goal.invariant-loop-character
invariant-loop-character l = all_scalars (take l.character-index l.characters) ≡ true
