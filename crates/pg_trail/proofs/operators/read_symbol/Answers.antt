use Rattle.std.proofs.Common.{◌∙◌}
use Rattle.pg_trail.proofs.Parts.{symbol_found}
use Rattle.pg_trail.proofs.operators.read_symbol.Goals as goal

pub returns : goal.returns
returns c = symbol_found c.args.text.now c.new.result c.utf8.text (c.new.ensures ∙ c.in_ok-characters.ensures.value)
