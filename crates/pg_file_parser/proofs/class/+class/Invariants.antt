use Rattle.std.proofs.Common.{◌≡◌, ◌+◌, ◌-◌, ◌*◌, length}
use Rattle.pg_file_tokens.specs.declared.token.Mark.TheVariants.{Bar}
use Rattle.pg_file_tokens.specs.View.{tokens_of}
use Rattle.pg_file_parser.specs.Rests.{EndsWith}
use Rattle.pg_file_parser.specs.Given.{classes_of}
use Rattle.pg_file_parser.specs.Reading.{more_at, atom_at, group_at}
use Rattle.pg_file_parser.proofs.ParserLemmas.Loop.{with_front}
use Rattle.pg_file_parser.proofs.class.+class.Given as goal

abbrev pub decreases-plain_atom : goal.decreases-plain_atom
decreases-plain_atom l = 7 * l.depth + 1

abbrev pub decreases-group : goal.decreases-group
decreases-group l = 7 * l.depth

abbrev pub decreases-atom : goal.decreases-atom
decreases-atom l = 7 * l.depth + 2

abbrev pub decreases-more_atoms : goal.decreases-more_atoms
decreases-more_atoms l = 7 * l.depth + 3

abbrev pub decreases-atoms : goal.decreases-atoms
decreases-atoms l = 7 * l.depth + 4

abbrev pub decreases-class : goal.decreases-class
decreases-class l = 7 * l.depth + 5

abbrev pub invariant-atom-loop-after : goal.invariant-atom-loop-after
invariant-atom-loop-after l = record {
  read : with_front l.parts.items (atom_at (group_at l.depth) (tokens_of l.rest)) ≡ atom_at (group_at l.depth) (tokens_of l.tokens);
  rest : EndsWith l.tokens l.rest;
}

abbrev pub decreases-atom-loop-after : goal.decreases-atom-loop-after
decreases-atom-loop-after l = length l.rest

abbrev pub invariant-more_atoms-loop : goal.invariant-more_atoms-loop
invariant-more_atoms-loop l = record {
  read : with_front (classes_of l.atoms.items) (more_at Bar (atom_at (group_at l.depth)) (l.most - l.counter) (tokens_of l.rest)) ≡ more_at Bar (atom_at (group_at l.depth)) l.most (tokens_of l.tokens);
  rest : EndsWith l.tokens l.rest;
}
