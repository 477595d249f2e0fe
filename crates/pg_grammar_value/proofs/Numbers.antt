-- Where the parts of nodes and the bodies of rules lie.
use Rattle.std.proofs.Common.{◌≡◌, ℕ, zero, suc, ◌+◌, ◌<◌, List, [], ◌∷◌, length, map, Some, slice_get, sym, subst, arith}
use Rattle.std.proofs.lemmas.List.{length-map}
use Rattle.std.specs.List.{AllByRecursion}
use Rattle.pg_grammar_form.specs.Preorder.{roots}
use Rattle.pg_grammar_form.specs.Forms.{Node, parts_of, node_part_count, InPreorder}
use Rattle.pg_grammar_value.specs.Follows.{PartsFollow, BodiesAreNodes}
use Rattle.pg_grammar_value.specs.Grammar.{rule_body}
use Rattle.pg_grammar_value.specs.declared.grammar.Rule.{Rule}
use Rattle.pg_grammar_form.proofs.Each.{all-take, all-weaker, all-map}
use Rattle.pg_grammar_form.proofs.Preorder.{roots_within}

-- the parts of a node stand after it
pub parts_follow : (i : ℕ) (nodes : List Node) (k : ℕ) (n : Node) → InPreorder i nodes → slice_get nodes k ≡ Some n
    → PartsFollow (i + k) (i + length nodes) (parts_of n)
parts_follow i [] zero n h e = absurd cc
parts_follow i [] (suc k) n h e = absurd cc
parts_follow i (m ∷ nodes) zero n h e =
    let same : m ≡ n = cc in
    let counts = length-map nodes node_part_count in
    let after = all-take _ (node_part_count m) _ (roots_within (suc i) (map node_part_count nodes)) in
    let parts = subst (AllByRecursion _) (sym h.0) after in
    subst (λ x. PartsFollow (i + 0) (i + suc (length nodes)) (parts_of x)) same
    (all-weaker _ _ (λ q w. (omega (arith, w.0), omega (arith, w.1, counts))) _ parts)
parts_follow i (m ∷ nodes) (suc k) n h e =
    let after = parts_follow (suc i) nodes k n h.1 e in
    all-weaker _ _ (λ q w. (omega (arith, w.0), omega (arith, w.1))) _ after

-- the same, the first node having the number 0
pub parts_are_after : (nodes : List Node) (k : ℕ) (n : Node) → InPreorder 0 nodes → slice_get nodes k ≡ Some n
    → PartsFollow k (length nodes) (parts_of n)
parts_are_after nodes k n h e =
    all-weaker _ _ (λ q w. (omega (arith, w.0), omega (arith, w.1))) _ (parts_follow 0 nodes k n h e)

-- the bodies of rules are nodes
pub bodies_are_nodes : (rules : List Rule) (nodes : List Node) → map rule_body rules ≡ roots 0 (map node_part_count nodes)
    → BodiesAreNodes (length nodes) rules
bodies_are_nodes rules nodes e =
    let counts = length-map nodes node_part_count in
    let within = all-weaker _ (λ q. q < length nodes) (λ q w. omega (arith, w.1, counts)) _ (roots_within 0 (map node_part_count nodes)) in
    all-map (λ q. q < length nodes) rule_body rules (subst (AllByRecursion _) (sym e) within)
