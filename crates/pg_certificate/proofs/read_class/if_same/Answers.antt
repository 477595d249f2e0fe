use Rattle.std.proofs.Common.{true≢false, ◌∙◌, sym}
use Rattle.pg_certificate.proofs.Classes.{not_as_is}
use Rattle.pg_certificate.proofs.read_class.if_same.Goals as goal

pub returns-else-are_same : goal.returns-else-are_same
returns-else-are_same c = λ other said.
    not_as_is c.args.class c.args.ranges.now other c.ranges-2.ensures.class c.requires
    (λ same. true≢false (sym (c.are_same.ensures.1 (c.ranges-2.ensures.same ∙ same)) ∙ c.if-are_same.false)) said
