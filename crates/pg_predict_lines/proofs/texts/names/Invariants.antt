use Rattle.std.proofs.Common.{◌≡◌, map, take, string_bytes}
use Rattle.pg_predict.specs.Findings.{name_text}
use Rattle.pg_predict_lines.proofs.texts.names.Given as goal

abbrev pub invariant-loop-rule : goal.invariant-loop-rule
invariant-loop-rule l = map string_bytes l.names.items ≡ map name_text (take l.rule-index l.rules)
