use Rattle.std.proofs.Common.{◌≡◌, ◌≤◌, length, map, sym, ap, subst, ◌∙◌, arith}
use Rattle.std.proofs.lemmas.Grind.{common_steps}
use Rattle.std.proofs.lemmas.List.{take_all}
use Rattle.pg_grammar_value.specs.Follows.{BodiesAreNodes}
use Rattle.pg_graph.specs.Graphs.{numbers_at, IsGathered}
use Rattle.pg_sets_nullable.specs.Reached.{AreHeads}
use Rattle.pg_sets_nullable.proofs.Heading.{heads_are}
use Rattle.pg_sets_nullable.proofs.heads.heads_of_rules.Goals as goal

pub returns-clause-heads : goal.returns-clause-heads
returns-clause-heads c =
    let g = c.args.grammar.now in
    let graph = c.in_ok-graph.graph.items in
    let uses = c.in_ok-uses.uses.items in
    let reaching = c.in_ok-reaching.reaching.items in
    let rules = c.rules-rule-items.ensures.all in
    let long = ap length rules in
    let ended : length g.rules ≤ c.loop-rule.rule-index = omega arith in
    let all : c.loop-rule.heads.items ≡ map (λ rule. numbers_at reaching rule.body) g.rules =
    c.loop-rule.invariant ∙ ap (map (λ rule. numbers_at reaching rule.body)) (take_all c.loop-rule.rule-index g.rules ended) in
    let from = c.deref.ensures.value in
    let to = c.deref-2.ensures.value in
    let met : IsGathered graph uses (length uses) reaching =
    subst (λ gr. IsGathered gr uses (length uses) reaching) from (subst (λ us. IsGathered c.deref.result.now us (length us) reaching) to c.in_ok-reaching.ensures) in
    subst (AreHeads g) (sym all)
    (heads_are g c.args.nullable.now c.requires graph uses c.in_ok-graph.ensures.graph c.in_ok-uses.ensures reaching
    c.reached_from.ensures.grammar (subst (BodiesAreNodes (length g.nodes)) rules c.rules-rule-items.ensures.bodies) met)

pub loop-rule-preserved : goal.loop-rule-preserved
loop-rule-preserved c = grind (arith, common_steps)
