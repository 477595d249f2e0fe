-- Chains of heads, and walks from head to head.
use Rattle.std.proofs.Common.{◌≡◌, ℕ, ◌<◌, ◌≤◌, ◌+◌, Bool, true, List, Option, Some, slice_get, slice_set, length, sym, ap, subst, ◌∙◌, inl, inr, arith}
use Rattle.std.specs.Prelude.{◌↔◌}
use Rattle.std.proofs.lemmas.Bool.{cases_eq}
use Rattle.std.proofs.lemmas.Option.{same_Some, slice_get_within}
use Rattle.std.proofs.lemmas.List.{length-set}
use Rattle.pg_grammar_value.specs.Grammar.{Grammar}
use Rattle.pg_grammar_value.specs.declared.grammar.Rule as declared
use Rattle.pg_graph.specs.Graphs.{numbers_at, IsReached, root, onward}
use Rattle.pg_graph.specs.Marks.{is_marked}
use Rattle.pg_sets_nullable.specs.Ranks.{Chain, head, heads, AreRanks, on_cycle, rank_at}
use Rattle.pg_sets_nullable.specs.Reached.{Heads, AreHeads}
use Rattle.pg_graph.proofs.Marking.{marked_same, marked_kept, marked_others}
use Rattle.pg_sets_nullable.proofs.RankLaws.{chain_on}
use Rattle.pg_predict_conditions.specs.Conditions.{least_facts}
use Rattle.pg_predict_conditions.specs.Shown.{IsRecursive}

-- whatever is reached from the heads of a rule, a chain leads to
pub reached_chain : (g : Grammar) (lists : List (List ℕ)) (a v : ℕ) → AreHeads g lists → IsReached lists (numbers_at lists a) v → Chain g a v
reached_chain g lists a v are (root is below) = head ((are.members a v).0 is)
reached_chain g lists a v are (onward {w} from edge below) = chain_on (reached_chain g lists a w are from) ((are.members w v).0 edge)

below_length : (g : Grammar) (lists : List (List ℕ)) (a b : ℕ) → AreHeads g lists → Heads g a b → b < length lists
below_length g lists a b are h = let long = are.long in let below = are.rules a b ((are.members a b).1 h) in omega arith

reached_on : (g : Grammar) (lists : List (List ℕ)) (roots : List ℕ) (w b : ℕ) → AreHeads g lists → IsReached lists roots w → Chain g w b → IsReached lists roots b
reached_on g lists roots w b are from (head h) = onward from ((are.members w b).1 h) (below_length g lists w b are h)
reached_on g lists roots w b are from (heads {b = v} h rest) = reached_on g lists roots v b are (onward from ((are.members w v).1 h) (below_length g lists w v are h)) rest

pub chain_reached : (g : Grammar) (lists : List (List ℕ)) (a b : ℕ) → AreHeads g lists → Chain g a b → IsReached lists (numbers_at lists a) b
chain_reached g lists a b are (head h) = root ((are.members a b).1 h) (below_length g lists a b are h)
chain_reached g lists a b are (heads {b = v} h rest) = reached_on g lists (numbers_at lists a) v b are (root ((are.members a v).1 h) (below_length g lists a v are h)) rest

-- a rule with a rank doesn't head itself
pub ranked_no_chain : (g : Grammar) (ranks : List (Option ℕ)) (a r : ℕ) → AreRanks g ranks → a < length g.rules → rank_at ranks a ≡ Some r → Chain g a a → ⊥
ranked_no_chain g ranks a r are below ranked chain = let none = (are.cyclic a below).1 (on_cycle chain) in absurd cc

-- ---- marks on bodies

-- the node is one of the first `count` and the body of a rule that heads itself
pub record RecursiveBelow (g : Grammar) (count p : ℕ) : Type 0 where
  pub recursive : IsRecursive g (least_facts g) p
  pub below : recursive.number < count

pub record MarksBelow (g : Grammar) (count : ℕ) (marks : List Bool) : Type 0 where
  pub long : length marks ≡ length g.nodes
  pub right : (p : ℕ) → (is_marked marks p ≡ true) ↔ RecursiveBelow g count p

wider : (g : Grammar) (k p : ℕ) → RecursiveBelow g k p → RecursiveBelow g (k + 1) p
wider g k p is = let below = is.below in record { recursive = is.recursive; below = omega arith }

pub marks_more : (g : Grammar) (k : ℕ) (rule : declared.Rule) (marks : List Bool) → MarksBelow g k marks → slice_get g.rules k ≡ Some rule → rule.body < length marks → Chain g k k
    → MarksBelow g (k + 1) (slice_set marks rule.body true)
marks_more g k rule marks before there inside chain = record {
  long = length-set marks rule.body true ∙ before.long;
  right = λ p. (
    λ h.
        elim (cases_eq p rule.body) [
          | inl same ↦ record { recursive = record { number = k; rule = rule; there = there; body = sym same; heads_itself = chain }; below = omega arith }
          | inr other ↦ wider g k p ((before.right p).0 (sym (marked_others marks rule.body p other) ∙ h))
        ],
    λ is.
        elim (cases_eq is.recursive.number k) [
          | inl same ↦
              let one : is.recursive.rule ≡ rule = same_Some is.recursive.rule rule (sym is.recursive.there ∙ (ap (slice_get g.rules) same ∙ there)) in
              let at : rule.body ≡ p = sym (ap (λ (r : declared.Rule). r.body) one) ∙ is.recursive.body in
              subst (λ q. is_marked (slice_set marks rule.body true) q ≡ true) at (marked_same marks rule.body inside)
          | inr other ↦
              let below = is.below in
              marked_kept marks rule.body p inside ((before.right p).1 (record { recursive = is.recursive; below = omega arith }))
        ],
  );
}

pub marks_same : (g : Grammar) (k : ℕ) (marks : List Bool) → MarksBelow g k marks → (Chain g k k → ⊥) → MarksBelow g (k + 1) marks
marks_same g k marks before none = record {
  long = before.long;
  right = λ p. (
    λ h. wider g k p ((before.right p).0 h),
    λ is.
        elim (cases_eq is.recursive.number k) [
          | inl same ↦ absurd (none (subst (λ n. Chain g n n) same is.recursive.heads_itself))
          | inr other ↦ let below = is.below in (before.right p).1 (record { recursive = is.recursive; below = omega arith })
        ],
  );
}

pub marks_all : (g : Grammar) (count : ℕ) (marks : List Bool) → MarksBelow g count marks → length g.rules ≤ count → (p : ℕ) → (is_marked marks p ≡ true) ↔ IsRecursive g (least_facts g) p
marks_all g count marks are all p = (
  λ h. ((are.right p).0 h).recursive,
  λ is. let inside = slice_get_within g.rules is.number is.rule is.there in (are.right p).1 (record { recursive = is; below = omega arith }),
)
