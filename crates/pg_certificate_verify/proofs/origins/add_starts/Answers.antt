use Rattle.pg_certificate_verify.proofs.Coming.{claims_there}
use Rattle.pg_certificate_verify.proofs.origins.add_starts.Goals as goal

pub returns-clause-there : goal.returns-clause-there
returns-clause-there c = claims_there c.args.grammar.now c.args.claimed.now c.args.starts.items c.args.origins.now c.add_own.new.origins c.requires c.in_ok-add_own.ensures.there
