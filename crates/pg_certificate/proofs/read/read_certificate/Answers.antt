use Rattle.serde_json.specs.View.{view}
use Rattle.pg_certificate.proofs.Claims.{not_said}
use Rattle.pg_certificate.proofs.read.read_certificate.Goals as goal

pub returns-clause-not_a_certificate : goal.returns-clause-not_a_certificate
returns-clause-not_a_certificate c =
    not_said c.args.grammar.now c.args.bytes.now (view c.in-Ok.value) c.read_value.result c.in-Ok.ensures.ok.1 c.read_value.ensures
