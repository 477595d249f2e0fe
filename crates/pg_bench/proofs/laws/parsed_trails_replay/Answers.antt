-- One derivation along the trail, from a table that comes from the grammar.
use Rattle.pg_table.proofs.Added.{own_table}
use Rattle.pg_bench.proofs.Parses.{under_table}
use Rattle.pg_bench.proofs.laws.parsed_trails_replay.Goals as goal

pub returns : goal.returns
returns c = λ g text table forest trail done is initially parsed.
    let derived = under_table g text table forest trail done initially parsed in
    c.trails_tell_derivations.ensures g text table derived.0 forest trail (own_table g table initially) is derived.1
