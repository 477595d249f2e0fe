use Rattle.std.proofs.Common.{sym, ◌∙◌}
use Rattle.std.proofs.lemmas.Result.{err_from_is_err_and}
use Rattle.pg_file_tokens.specs.View.{tokens_of}
use Rattle.pg_file_parser.proofs.ParserLemmas.Rests.{ends_on}
use Rattle.pg_file_parser.proofs.ParserLemmas.Texts.{literal_read, literal_fails, literals_end}
use Rattle.pg_file_parser.proofs.reserved.literals.Goals as goal

pub returns-in_err-text-clause-read : goal.returns-in_err-text-clause-read
returns-in_err-text-clause-read c =
    let p = err_from_is_err_and c.from_residual.result c.from_residual.ensures.1 in
    rw (p.1, p.2) (literal_fails c.in_err-text.field-0.0 c.loop-alloc.texts.items (tokens_of c.loop-alloc.rest.now) _ (sym c.has_literal.ensures ∙ c.loop-alloc-test.true) c.in_err-text.ensures.read c.loop-alloc.invariant.read)

pub loop-alloc-preserved : goal.loop-alloc-preserved
loop-alloc-preserved c =
    record {
      read = rw c.in_ok-push.ensures.items (literal_read c.loop-alloc.texts.items (tokens_of c.loop-alloc.rest.now) c.in_ok-text.text (tokens_of c.in_ok-text.after.now) _ c.in_ok-text.ensures.read c.loop-alloc.invariant.read);
      rest = ends_on _ _ _ c.loop-alloc.invariant.rest c.in_ok-text.ensures.rest;
    }

pub returns-clause-read : goal.returns-clause-read
returns-clause-read c = literals_end c.loop-alloc.texts.items (tokens_of c.loop-alloc.rest.now) _ (sym c.has_literal.ensures ∙ c.loop-alloc-test.false) c.loop-alloc.invariant.read
