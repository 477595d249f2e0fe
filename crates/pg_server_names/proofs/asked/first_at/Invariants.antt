use Rattle.std.proofs.Common.{◌≡◌, drop, find}
use Rattle.pg_server_names.specs.Asked.{is_at}
use Rattle.pg_server_names.proofs.asked.first_at.Given as goal

abbrev pub invariant-loop-name : goal.invariant-loop-name
invariant-loop-name l = find (λ o. is_at l.place o) (drop l.name-index l.names) ≡ find (λ o. is_at l.place o) l.names
