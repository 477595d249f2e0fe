-- The least certificate of a grammar: its sets and its costs, as claims about each rule.
use Rattle.std.specs.Prelude.{◌≡◌, ℕ, suc, Bool, nat_lt, if◌then◌else◌, List, [], ◌∷◌, Some, map, length}
use Rattle.pg_graph_bits.specs.Numbers.{contains, set_at}
use Rattle.pg_certificate.specs.declared.certificate.ClaimedStart.{ClaimedStart}
use Rattle.pg_certificate.specs.declared.certificate.ClaimedStart.TheVariants as claimed
use Rattle.pg_certificate.specs.declared.certificate.RuleClaim.{RuleClaim}
use Rattle.pg_predict_costs.specs.Steps.{number_at}
use Rattle.pg_graph.specs.Marks.{is_marked}
use Rattle.pg_sets_nullable.specs.Ranks.{rank_at}
use Rattle.pg_sets_own.specs.declared.listed.ListedStart.{ListedStart}
use Rattle.pg_sets.specs.Sets.{Sets}
use Rattle.pg_start.specs.declared.kind.StartKind.{StartKind}
use Rattle.pg_start.specs.declared.kind.StartKind.TheVariants.{Class, Key, Word, End}
use Rattle.pg_grammar_value.specs.Grammar.{Grammar}
use Rattle.pg_grammar_value.specs.declared.grammar.Rule.{Rule}

-- ---- starts

-- words are claimed by the number of their item, or as operators if there is no such item
abbrev pub claimed_word : Grammar → ℕ → ClaimedStart
claimed_word g w = if nat_lt w (length g.words) then claimed.Word w else claimed.Operator

abbrev pub claimed_kind : Grammar → ℕ → StartKind → ClaimedStart
claimed_kind g w (Class ranges) = claimed.Class ranges
claimed_kind g w (Key text excluded) = claimed.Key text excluded
claimed_kind g w (Word heads rest reserved) = claimed_word g w
claimed_kind g w End = claimed.End

-- a start of the sets as a claim: a word by the number of its item, or as operators if it has none
abbrev pub claimed_start : Grammar → ListedStart → ClaimedStart
claimed_start g listed = claimed_kind g listed.word listed.start

-- the starts whose numbers are in the set, where the first start has the number k
abbrev pub starts_from : ℕ → List ListedStart → List Bool → List ListedStart
starts_from k [] set = []
starts_from k (listed ∷ starts) set = if contains set k then listed ∷ starts_from (suc k) starts set else starts_from (suc k) starts set

-- their claims, in order
abbrev pub claims_from : Grammar → ℕ → List ListedStart → List Bool → List ClaimedStart
claims_from g k starts set = map (claimed_start g) (starts_from k starts set)

-- the claims of the starts whose numbers are in the set
abbrev pub claimed_starts : Grammar → List ListedStart → List Bool → List ClaimedStart
claimed_starts g starts set = claims_from g 0 starts set

-- ---- rules

-- the sets and the costs as claims about a rule of this rank
abbrev pub least_claim : Grammar → Sets → List ℕ → ℕ → Rule → RuleClaim
least_claim g sets costs rank rule = record {
  rule = rule.name;
  nullable = is_marked sets.nullable rule.body;
  rank = rank;
  cost = number_at costs rule.body;
  first = claimed_starts g sets.starts (set_at sets.firsts rule.body);
  follow = claimed_starts g sets.starts (set_at sets.follows rule.body);
}

-- these are the claims about the rules, where the first has the number r; each has a rank
abbrev pub AreLeast : Grammar → Sets → List ℕ → ℕ → List Rule → List RuleClaim → Type 0
AreLeast g sets costs r [] [] = Unit {0}
AreLeast g sets costs r [] (claim ∷ claims) = ⊥
AreLeast g sets costs r (rule ∷ rules) [] = ⊥
AreLeast g sets costs r (rule ∷ rules) (claim ∷ claims) =
    ((rank : ℕ) × (rank_at sets.ranks r ≡ Some rank) × (claim ≡ least_claim g sets costs rank rule)) × AreLeast g sets costs (suc r) rules claims
