use Rattle.std.proofs.Common.{◌≡◌, ℕ, length, take, drop, sym, ap, subst, ◌∙◌, arith}
use Rattle.std.proofs.lemmas.Result.{IfOk-weaker}
use Rattle.pg_graph.specs.Graphs.{AreSpread}
use Rattle.pg_sets_own.specs.OwnStarts.{MarksKeys}
use Rattle.pg_certificate_verify.specs.SetsBy.{AreListedBy, AreSetsBy, SetsBy}
use Rattle.pg_certificate_verify.proofs.SpreadBy.{size, are_sets_by}
use Rattle.pg_certificate_verify.proofs.sets_by.sets_by_claims.Goals as goal

pub divided-requires : goal.divided-requires
divided-requires c =
    let g = c.args.grammar.now in
    let graph = c.in_ok-graph.graph.items in
    let starts = c.in_ok-listing.listing.starts.items in
    let roots = c.in_ok-listing.listing.origins.items in
    let sets = c.in_ok-sets.sets.items in
    let tries = subst (MarksKeys g) (sym c.as_slice.ensures.value) c.in_ok-keys.ensures in
    let spread : AreSpread graph roots sets =
    subst (λ gr. AreSpread gr roots sets) c.as_slice-2.ensures.value (subst (λ rs. AreSpread c.as_slice-2.result.now rs sets) c.as_slice-3.ensures.value c.in_ok-sets.ensures) in
    let listed : AreListedBy g c.args.certificate.now starts roots = subst (λ cs. AreListedBy g cs starts roots) c.claims.ensures c.in_ok-listing.ensures in
    let long = size g c.args.certificate.now c.args.nullable.now c.as_slice.result.now tries c.in_ok-graph.ensures.grammar graph roots sets c.in_ok-graph.ensures.graph starts listed spread in
    let whole = spread.long in
    let counted = ap length c.nodes-count.ensures.all in
    omega arith

pub returns : goal.returns
returns c =
    let g = c.args.grammar.now in
    let claims = c.args.certificate.now in
    let nullable = c.args.nullable.now in
    let graph = c.in_ok-graph.graph.items in
    let starts = c.in_ok-listing.listing.starts.items in
    let roots = c.in_ok-listing.listing.origins.items in
    let sets = c.in_ok-sets.sets.items in
    let tries = subst (MarksKeys g) (sym c.as_slice.ensures.value) c.in_ok-keys.ensures in
    let spread : AreSpread graph roots sets =
    subst (λ gr. AreSpread gr roots sets) c.as_slice-2.ensures.value (subst (λ rs. AreSpread c.as_slice-2.result.now rs sets) c.as_slice-3.ensures.value c.in_ok-sets.ensures) in
    let listed : AreListedBy g claims starts roots = subst (λ cs. AreListedBy g cs starts roots) c.claims.ensures c.in_ok-listing.ensures in
    let are = are_sets_by g claims nullable c.as_slice.result.now tries c.in_ok-graph.ensures.grammar graph roots sets c.in_ok-graph.ensures.graph starts listed spread in
    let in_three : ℕ → SetsBy = λ n. record { starts = starts; firsts = take n sets; follows = take n (drop n sets); of_rules = drop n (drop n sets) } in
    let count : length c.nodes-count.result.now ≡ length g.nodes = ap length c.nodes-count.ensures.all in
    IfOk-weaker c.divided.result _ _ (λ divided same. subst (AreSetsBy g claims nullable) (sym (same ∙ ap in_three count)) are) c.divided.ensures
