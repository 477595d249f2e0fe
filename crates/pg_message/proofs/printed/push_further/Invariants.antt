use Rattle.std.proofs.Common.{◌≡◌, ◌++◌, map, drop, string_bytes}
use Rattle.pg_message.specs.Printed.{further_texts}
use Rattle.pg_message.proofs.printed.push_further.Given as goal

abbrev pub invariant-loop-index : goal.invariant-loop-index
invariant-loop-index l =
    string_bytes l.text ++ further_texts (map (λ one. one.now) (drop l.index l.rest)) ≡ string_bytes l.initial.text ++ further_texts (map (λ one. one.now) l.rest)
