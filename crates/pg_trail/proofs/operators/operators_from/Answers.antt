use Rattle.std.proofs.Common.{◌∷◌, List, map, ap, arith}
use Rattle.json.specs.Reads.{token_of}
use Rattle.serde_json.specs.View.{items_of}
use Rattle.pg_grammar_value.specs.declared.trail.AppliedOperator.{AppliedOperator}
use Rattle.pg_trail.specs.Ahead.{data_at}
use Rattle.pg_trail.specs.TrailJson.{operator_value, operators_value}
use Rattle.pg_trail.proofs.Turns.{list_read, no_array_from, passed}
use Rattle.pg_trail.proofs.operators.operators_from.Goals as goal

pub returns-then-opens_array : goal.returns-then-opens_array
returns-then-opens_array c =
    let old = c.args.reader.now in
    list_read (λ (os : List AppliedOperator). items_of (map operator_value os)) 125 (token_of c.args.token ∷ old) old c.read_each_operator.new.reader c.read_each_operator.result (omega arith) (ap (λ t. t ∷ old) c.if-opens_array.ensures) c.read_each_operator.ensures

pub returns : goal.returns
returns c =
    passed operators_value (data_at 125 (token_of c.args.token ∷ c.args.reader.now)) c.skip_rest.new.reader c.in_ok-skip_rest.field-0 (λ os rest e. no_array_from 125 (token_of c.args.token) c.args.reader.now c.if-opens_array.ensures _ rest e) c.in_ok-skip_rest.ensures
