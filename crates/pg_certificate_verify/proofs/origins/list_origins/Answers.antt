use Rattle.std.proofs.Common.{sym, subst}
use Rattle.std.specs.BTreeMap.{keys}
use Rattle.std.proofs.lemmas.Result.{IfOk-weaker}
use Rattle.pg_certificate_verify.specs.SetsBy.{AreListedBy}
use Rattle.pg_certificate_verify.proofs.Coming.{are_listed_by}
use Rattle.pg_certificate_verify.proofs.origins.list_origins.Goals as goal

pub returns : goal.returns
returns c =
    let g = c.args.grammar.now in
    let claims = c.args.claims.now in
    let all = c.add_end.new.origins in
    let are = are_listed_by g claims c.in_ok-origins.origins c.add_claims.new.origins all c.in_ok-origins.ensures c.in_ok-add_claims.ensures.held c.in_ok-add_claims.ensures.there
    c.in_ok-add_end.ensures.held c.in_ok-add_end.ensures.there c.listed.ensures.ordered in
    IfOk-weaker c.listed.result _ _
    (λ listing same. subst (λ starts. AreListedBy g claims starts listing.origins.items) (sym same.0) (subst (AreListedBy g claims (keys all)) (sym same.1) are))
    c.listed.ensures.entries
