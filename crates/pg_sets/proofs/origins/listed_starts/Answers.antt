use Rattle.std.proofs.Common.{sym, subst}
use Rattle.std.specs.BTreeMap.{keys}
use Rattle.std.proofs.lemmas.Result.{IfOk-weaker}
use Rattle.pg_sets.specs.Origins.{AreListed}
use Rattle.pg_sets.proofs.InOrder.{are_listed}
use Rattle.pg_sets.proofs.origins.listed_starts.Goals as goal

pub returns : goal.returns
returns c =
    let g = c.args.grammar.now in
    let origins = c.add_end.new.origins in
    let are = are_listed g origins c.in_ok-add_end.ensures c.listed.ensures.ordered in
    IfOk-weaker c.listed.result _ _
    (λ listing same. subst (λ starts. AreListed g starts listing.origins.items) (sym same.0) (subst (AreListed g (keys origins)) (sym same.1) are))
    c.listed.ensures.entries
