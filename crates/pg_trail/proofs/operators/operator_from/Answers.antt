use Rattle.std.proofs.Common.{◌∷◌}
use Rattle.json.specs.Reads.{token_of}
use Rattle.pg_trail.specs.Ahead.{data_at}
use Rattle.pg_trail.specs.TrailJson.{operator_value}
use Rattle.pg_trail.proofs.Turns.{no_array_from, passed}
use Rattle.pg_trail.proofs.operators.operator_from.Goals as goal

pub returns : goal.returns
returns c =
    passed operator_value (data_at 124 (token_of c.args.token ∷ c.args.reader.now)) c.skip_rest.new.reader c.in_ok-skip_rest.field-0 (λ o rest e. no_array_from 124 (token_of c.args.token) c.args.reader.now c.if-opens_array.ensures _ rest e) c.in_ok-skip_rest.ensures
