use Rattle.pg_grammar.proofs.Making.{counted_parts, counted_bodies, are_numbered, is_grammar, says_made, classes_of_nodes}
use Rattle.pg_grammar.proofs.maker.Maker.grammar.Goals as goal

pub nodes_of-nodes-requires-clause-parts : goal.nodes_of-nodes-requires-clause-parts
nodes_of-nodes-requires-clause-parts c = counted_parts _ _ _ _ (rw (← c.self.view_is) at c.requires.numbers)

pub rules_of-rules-requires-clause-bodies : goal.rules_of-rules-requires-clause-bodies
rules_of-rules-requires-clause-bodies c = counted_bodies _ _ _ _ c.self.invariant (rw (← c.self.view_is) at c.requires.numbers)

pub new-requires-clause-grammar : goal.new-requires-clause-grammar
new-requires-clause-grammar c =
    let numbers = rw (← c.self.view_is) at c.requires.numbers in
    let nodes = rw (c.as_slice.ensures.value, c.as_slice-2.ensures.value) at c.nodes_of-nodes.ensures in
    is_grammar _ _ _ _ c.self.invariant (are_numbered _ _ _ _ _ _ numbers nodes c.rules_of-rules.ensures.names c.rules_of-rules.ensures.bodies)

pub new-requires-clause-sets : goal.new-requires-clause-sets
new-requires-clause-sets c =
    let numbers = rw (← c.self.view_is) at c.requires.numbers in
    let sets = rw (← c.self.view_is) at c.requires.sets in
    let nodes = rw (c.as_slice.ensures.value, c.as_slice-2.ensures.value) at c.nodes_of-nodes.ensures in
    rw (← classes_of_nodes _ _ _ _ c.self.invariant (are_numbered _ _ _ _ _ _ numbers nodes c.rules_of-rules.ensures.names c.rules_of-rules.ensures.bodies)) sets

pub returns : goal.returns
returns c =
    let numbers = rw (← c.self.view_is) at c.requires.numbers in
    let nodes = rw (c.as_slice.ensures.value, c.as_slice-2.ensures.value) at c.nodes_of-nodes.ensures in
    rw (c.new.ensures, ← c.self.view_is)
    (says_made _ _ _ _ c.self.invariant (are_numbered _ _ _ _ _ _ numbers nodes c.rules_of-rules.ensures.names c.rules_of-rules.ensures.bodies))
