use Rattle.std.proofs.Common.{◌≡◌, ◌++◌, ◌∷◌, [], sym, ◌∙◌}
use Rattle.std.proofs.lemmas.Result.{err_from_is_err_and}
use Rattle.std.proofs.lemmas.List.{map_push}
use Rattle.pg_file_tokens.specs.declared.token.Mark.TheVariants.{Bar}
use Rattle.pg_file_tokens.specs.View.{tokens_of}
use Rattle.pg_file_parser.specs.Given.{classes_of}
use Rattle.pg_file_parser.specs.Reading.{atom_at, group_at}
use Rattle.pg_file_parser.proofs.ParserLemmas.Rests.{ends_on, ends_after, answer_ends}
use Rattle.pg_file_parser.proofs.ParserLemmas.Loop.{goes_on, stops, is_full, ends, not_read, plain_read, front_read, front_fails}
use Rattle.pg_file_parser.proofs.class.+class.Goals as goal

pub more_atoms-returns-in_default-clause-read : goal.more_atoms-returns-in_default-clause-read
more_atoms-returns-in_default-clause-read t c =
    stops Bar (atom_at (group_at c.args.depth)) (classes_of c.loop.atoms.items) _ c.loop.counter (tokens_of c.loop.rest.now) _ c.loop-test.true (sym c.in_default.ensures.read) c.loop.invariant.read

pub more_atoms-returns-in_err-next-clause-read : goal.more_atoms-returns-in_err-next-clause-read
more_atoms-returns-in_err-next-clause-read t c =
    let p = err_from_is_err_and c.from_residual.result c.from_residual.ensures.1 in
    rw (p.1, p.2) (ends c.in_err-next.field-0.0 Bar (atom_at (group_at c.args.depth)) (classes_of c.loop.atoms.items) _ c.loop.counter (tokens_of c.loop.rest.now) _ _ c.loop-test.true (sym c.in-Some.ensures.read) c.in_err-next.ensures.read c.loop.invariant.read)

pub more_atoms-loop-preserved : goal.more_atoms-loop-preserved
more_atoms-loop-preserved t c =
    let e : classes_of c.push.new.self.items ≡ classes_of c.loop.atoms.items ++ c.in_ok-next.next.items ∷ [] = rw c.in_ok-push.ensures.items (map_push _ c.loop.atoms.items c.in_ok-next.next) in
    record {
      read = rw e (goes_on Bar (atom_at (group_at c.args.depth)) (classes_of c.loop.atoms.items) _ c.loop.counter (tokens_of c.loop.rest.now) _ c.in_ok-next.next.items (tokens_of c.in_ok-next.after.now) _ c.loop-test.true (sym c.in-Some.ensures.read) c.in_ok-next.ensures.read c.loop.invariant.read);
      rest = ends_on _ _ _ (ends_on _ _ _ c.loop.invariant.rest c.in-Some.ensures.rest) c.in_ok-next.ensures.rest;
    }

pub more_atoms-returns-clause-read : goal.more_atoms-returns-clause-read
more_atoms-returns-clause-read t c = is_full Bar (atom_at (group_at c.args.depth)) (classes_of c.loop.atoms.items) _ c.loop.counter (tokens_of c.loop.rest.now) _ c.loop-test.false c.loop.invariant.read

pub atom-loop-after-preserved : goal.atom-loop-after-preserved
atom-loop-after-preserved t c =
    record {
      read = rw c.in_ok-push.ensures.items (not_read (group_at c.args.depth) c.loop-after.parts.items (tokens_of c.loop-after.rest.now) (tokens_of c.in-Some.after.now) _ (sym c.in-Some.ensures.read) c.loop-after.invariant.read);
      rest = ends_on _ _ _ c.loop-after.invariant.rest c.in-Some.ensures.rest;
    }

pub atom-returns-in_err-atom-clause-read : goal.atom-returns-in_err-atom-clause-read
atom-returns-in_err-atom-clause-read t c =
    let p = err_from_is_err_and c.from_residual-in_err-atom.result c.from_residual-in_err-atom.ensures.1 in
    let plain = plain_read (group_at c.args.depth) (tokens_of c.loop-after.rest.now) (sym c.in_default.ensures.read) in
    rw (p.1, p.2) (front_fails c.in_err-atom.field-0.0 c.loop-after.parts.items (atom_at (group_at c.args.depth) (tokens_of c.loop-after.rest.now)) _ (rw plain c.in_err-atom.ensures.read) c.loop-after.invariant.read)

pub atom-returns-clause-read : goal.atom-returns-clause-read
atom-returns-clause-read t c =
    let plain = plain_read (group_at c.args.depth) (tokens_of c.loop-after.rest.now) (sym c.in_default.ensures.read) in
    rw c.in_ok-append.ensures.items (front_read c.loop-after.parts.items c.in_ok-atom.atom.items (tokens_of c.in_ok-atom.rest.now) (atom_at (group_at c.args.depth) (tokens_of c.loop-after.rest.now)) _ (plain ∙ c.in_ok-atom.ensures.read) c.loop-after.invariant.read)

pub plain_atom-returns-in-Name-clause-rest : goal.plain_atom-returns-in-Name-clause-rest
plain_atom-returns-in-Name-clause-rest t c = answer_ends _ _ c.named.result (ends_after c.args.tokens.now) c.named.ensures.rest

pub plain_atom-returns-in-Mark-Open-clause-rest : goal.plain_atom-returns-in-Mark-Open-clause-rest
plain_atom-returns-in-Mark-Open-clause-rest t c = answer_ends _ _ c.group.result (ends_after c.args.tokens.now) c.group.ensures.rest
