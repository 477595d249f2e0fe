use Rattle.std.proofs.Common.{◌∷◌}
use Rattle.json.specs.Reads.{token_of}
use Rattle.pg_trail.specs.Ahead.{data_at}
use Rattle.pg_trail.specs.TrailJson.{count_value}
use Rattle.pg_trail.proofs.Turns.{count_read, no_count, passed}
use Rattle.pg_trail.proofs.count.count_from.Goals as goal

pub returns-in-Some : goal.returns-in-Some
returns-in-Some c = count_read 125 (token_of c.args.token) c.in-Some.text.now c.args.reader.now c.count_of.result c.in-Some.ensures c.count_of.ensures

pub returns-in_ok-skip_rest-in-None : goal.returns-in_ok-skip_rest-in-None
returns-in_ok-skip_rest-in-None c =
    passed count_value (data_at 125 (token_of c.args.token ∷ c.args.reader.now)) c.skip_rest.new.reader c.in_ok-skip_rest-in-None.field-0 (no_count 125 (token_of c.args.token) c.args.reader.now c.in-None.ensures) c.in_ok-skip_rest-in-None.ensures
