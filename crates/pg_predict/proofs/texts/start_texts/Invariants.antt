use Rattle.std.proofs.Common.{◌≡◌, map, take, string_bytes}
use Rattle.pg_sets_own.specs.PrintedStarts.{start_text}
use Rattle.pg_predict.proofs.texts.start_texts.Given as goal

abbrev pub invariant-loop-listed : goal.invariant-loop-listed
invariant-loop-listed l = map string_bytes l.texts.items ≡ map (start_text l.grammar) (take l.listed-index l.starts)
