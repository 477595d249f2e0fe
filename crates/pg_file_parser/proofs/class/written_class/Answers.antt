use Rattle.pg_file_tokens.specs.View.{tokens_of}
use Rattle.pg_file_parser.proofs.ParserLemmas.Spelled.{is_class}
use Rattle.pg_file_parser.proofs.class.written_class.Goals as goal

pub new-requires : goal.new-requires
new-requires c = is_class c.args.depth (tokens_of c.args.tokens.now) (c.in_ok-parts.parts.items, tokens_of c.in_ok-parts.rest.now) c.in_ok-parts.ensures.read
