use Rattle.std.specs.Str.{chars}
use Rattle.pg_file.proofs.ReadLemmas.Unique.{one_grammar}
use Rattle.pg_file.proofs.laws.files_spell_one_grammar.Goals as goal

pub returns : goal.returns
returns c offer bytes one other h k = one_grammar offer (chars bytes) one other h.spelled k.spelled
