use Rattle.std.proofs.Common.{◌≡◌, map, drop, filter}
use Rattle.pg_message.specs.Messages.{with_texts}
use Rattle.pg_message.specs.Printed.{shown_texts, has_bytes}
use Rattle.pg_message.proofs.printed.shown.Given as goal

abbrev pub invariant-loop-text : goal.invariant-loop-text
invariant-loop-text l =
    with_texts (map (λ one. one.now) l.shown.items) (filter has_bytes (drop l.text-index l.texts)) ≡ shown_texts l.texts
