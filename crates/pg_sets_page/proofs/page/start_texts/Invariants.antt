use Rattle.std.proofs.Common.{◌≡◌, map, take, string_bytes}
use Rattle.pg_sets_own.specs.PrintedStarts.{start_text}
use Rattle.pg_sets_page.proofs.page.start_texts.Given as goal

abbrev pub invariant-loop-start : goal.invariant-loop-start
invariant-loop-start l = map string_bytes l.texts.items ≡ map (start_text l.grammar) (take l.start-index l.starts)
