use Rattle.std.proofs.lemmas.Result.{err_from_is_err_and}
use Rattle.pg_file_tokens.specs.View.{tokens_of}
use Rattle.pg_file_items.specs.Entries.{entries_of}
use Rattle.pg_file_parser.proofs.ParserLemmas.Files.{only_items, faulty_items}
use Rattle.pg_file_parser.proofs.items.read_items.Goals as goal

pub returns-in_err-items-clause-refused : goal.returns-in_err-items-clause-refused
returns-in_err-items-clause-refused c =
    let p = err_from_is_err_and c.from_residual.result c.from_residual.ensures.1 in
    rw (p.1, p.2) (faulty_items (tokens_of c.args.lexemes.now) c.in_err-items.field-0.0 c.in_err-items.ensures.read)

pub returns-clause-only : goal.returns-clause-only
returns-clause-only c = only_items (tokens_of c.args.lexemes.now) (entries_of c.in_ok-items.items.items) c.in_ok-items.ensures.read
