use Rattle.std.proofs.Common.{rules, ◌≡◌, length, take, drop, sym, ap, subst, ◌∙◌, arith}
use Rattle.pg_graph.specs.Graphs.{AreSpread}
use Rattle.pg_sets_own.specs.OwnStarts.{MarksKeys}
use Rattle.pg_sets.specs.Sets.{AreStartSets}
use Rattle.pg_sets.proofs.StartSets.{graph_size, are_start_sets}
use Rattle.pg_sets.proofs.start_sets.start_sets.Goals as goal

pub prove-unreachable-requires : goal.prove-unreachable-requires
prove-unreachable-requires c =
    let g = c.args.grammar.now in
    let graph = c.in_ok-graph.graph.items in
    let roots = c.in_ok-listing.listing.origins.items in
    let sets = c.in_ok-firsts.firsts.items in
    let tries = subst (MarksKeys g) (sym c.as_slice.ensures.value) c.in_ok-keys.ensures in
    let spread : AreSpread graph roots sets =
    subst (λ gr. AreSpread gr roots sets) c.as_slice-2.ensures.value (subst (λ rs. AreSpread c.as_slice-2.result.now rs sets) c.as_slice-3.ensures.value c.in_ok-firsts.ensures) in
    let size = graph_size g c.args.nullable.now c.as_slice.result.now c.requires tries c.in_ok-graph.ensures.grammar graph roots sets c.in_ok-graph.ensures.graph
    c.in_ok-listing.listing.starts.items c.in_ok-listing.ensures spread in
    let long = spread.long in
    let counted = ap length c.nodes-count.ensures.all in
    let few = c.if-prove.true in
    let length_is : c.len.result ≡ length sets = search rules in
    absurd (omega arith)

pub returns : goal.returns
returns c =
    let g = c.args.grammar.now in
    let graph = c.in_ok-graph.graph.items in
    let starts = c.in_ok-listing.listing.starts.items in
    let roots = c.in_ok-listing.listing.origins.items in
    let sets = c.in_ok-firsts.firsts.items in
    let tries = subst (MarksKeys g) (sym c.as_slice.ensures.value) c.in_ok-keys.ensures in
    let spread : AreSpread graph roots sets =
    subst (λ gr. AreSpread gr roots sets) c.as_slice-2.ensures.value (subst (λ rs. AreSpread c.as_slice-2.result.now rs sets) c.as_slice-3.ensures.value c.in_ok-firsts.ensures) in
    let are = are_start_sets g c.args.nullable.now c.as_slice.result.now c.requires tries c.in_ok-graph.ensures.grammar graph roots sets c.in_ok-graph.ensures.graph
    starts c.in_ok-listing.ensures spread in
    let count : length c.nodes-count.result.now ≡ length g.nodes = ap length c.nodes-count.ensures.all in
    let firsts : c.split_off.new.self.items ≡ take (length g.nodes) sets = c.in_ok-follows.ensures.items ∙ ap (λ n. take n sets) count in
    let follows : c.in_ok-follows.follows.items ≡ drop (length g.nodes) sets = c.in_ok-follows.ensures.tail ∙ ap (λ n. drop n sets) count in
    subst (λ xs. AreStartSets g starts xs c.in_ok-follows.follows.items) (sym firsts) (subst (AreStartSets g starts (take (length g.nodes) sets)) (sym follows) are)
