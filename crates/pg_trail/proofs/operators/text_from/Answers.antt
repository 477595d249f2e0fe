use Rattle.std.proofs.Common.{◌∷◌, ap, ◌∙◌}
use Rattle.json.specs.Reads.{token_of}
use Rattle.serde_json.specs.Data.{string}
use Rattle.pg_trail.specs.Ahead.{data_at}
use Rattle.pg_trail.proofs.Ahead.{data_string}
use Rattle.pg_trail.proofs.Turns.{no_text, passed}
use Rattle.pg_trail.proofs.operators.text_from.Goals as goal

pub returns-in-Some : goal.returns-in-Some
returns-in-Some c = (ap (λ t. data_at 123 (t ∷ c.args.reader.now)) c.in-Some.ensures ∙ data_string 123 c.in-Some.text.now c.args.reader.now, λ other e. cc)

pub returns-in_ok-skip_rest-in-None : goal.returns-in_ok-skip_rest-in-None
returns-in_ok-skip_rest-in-None c =
    passed string (data_at 123 (token_of c.args.token ∷ c.args.reader.now)) c.skip_rest.new.reader c.in_ok-skip_rest-in-None.field-0 (no_text 123 (token_of c.args.token) c.args.reader.now c.in-None.ensures) c.in_ok-skip_rest-in-None.ensures
