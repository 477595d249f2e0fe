use Rattle.std.proofs.Common.{sym}
use Rattle.serde_json.specs.View.{view}
use Rattle.pg_certificate.specs.Claims.{SaysEach, SaysStart}
use Rattle.pg_certificate.proofs.Parts.{under_gives}
use Rattle.pg_certificate.proofs.read_start.starts_under.Goals as goal

pub returns-in-Some : goal.returns-in-Some
returns-in-Some c =
    under_gives (SaysEach (SaysStart c.args.grammar.now)) c.args.key.now (view c.in-Some.inner.now) (view c.args.value.now) c.read_starts.result (sym c.in-Some.ensures) c.read_starts.ensures
