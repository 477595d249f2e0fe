-- Claims one after another.
use Rattle.std.proofs.Common.{◌≡◌, ◌+◌, ◌<◌, ◌≤◌, ℕ, zero, suc, Bool, true, false, List, [], ◌∷◌, ◌++◌, take, drop, get_or, length, Some, refl, ap, sym, ◌∙◌, subst, arith}
use Rattle.std.proofs.lemmas.List.{append_assoc, drop_more, take_more}
use Rattle.std.proofs.Math.ListN.{drop_of_length-le}
use Rattle.pg_graph_bits.specs.Numbers.{contains}
use Rattle.pg_certificate.specs.declared.certificate.ClaimedStart.{ClaimedStart}
use Rattle.pg_certificate.specs.declared.certificate.RuleClaim.{RuleClaim}
use Rattle.pg_sets_nullable.specs.Ranks.{rank_at}
use Rattle.pg_sets_own.specs.declared.listed.ListedStart.{ListedStart}
use Rattle.pg_sets.specs.Sets.{Sets}
use Rattle.pg_grammar_value.specs.Grammar.{Grammar}
use Rattle.pg_grammar_value.specs.declared.grammar.Rule.{Rule}
use Rattle.pg_certificate_own.specs.Least.{claimed_start, claims_from, claimed_starts, least_claim, AreLeast}

-- ---- starts

-- the first of the remaining starts is claimed if it is in the set
claimed_next : (g : Grammar) (starts : List ListedStart) (set : List Bool) (k : ℕ) (listed : ListedStart) → k < length starts → listed ≡ get_or starts k listed
    → contains set k ≡ true → claims_from g k (drop k starts) set ≡ claimed_start g listed ∷ claims_from g (k + 1) (drop (k + 1) starts) set
claimed_next g starts set k listed within is has =
    let next : suc k ≡ k + 1 = omega arith in
    rw (drop_more starts k listed within, has, next, ← is) refl

some_start : (starts : List ListedStart) (k : ℕ) → k < length starts → ListedStart
some_start [] k within = absurd (omega arith)
some_start (x ∷ xs) k within = x

-- and is not, where it isn't
passed_next : (g : Grammar) (starts : List ListedStart) (set : List Bool) (k : ℕ) → k < length starts
    → contains set k ≡ false → claims_from g k (drop k starts) set ≡ claims_from g (k + 1) (drop (k + 1) starts) set
passed_next g starts set k within has =
    let next : suc k ≡ k + 1 = omega arith in
    rw (drop_more starts k (some_start starts k within) within, has, next) refl

-- what was claimed and what is left are all, one further
pub after_taken : (g : Grammar) (starts : List ListedStart) (set : List Bool) (k : ℕ) (listed : ListedStart) (claim : ClaimedStart) (claimed now : List ClaimedStart)
    → k < length starts → listed ≡ get_or starts k listed → contains set k ≡ true → claim ≡ claimed_start g listed → now ≡ claimed ++ claim ∷ []
    → claimed ++ claims_from g k (drop k starts) set ≡ claimed_starts g starts set → now ++ claims_from g (k + 1) (drop (k + 1) starts) set ≡ claimed_starts g starts set
after_taken g starts set k listed claim claimed now within same has is pushed before =
    ap (λ x. x ++ claims_from g (k + 1) (drop (k + 1) starts) set) (pushed ∙ ap (λ x. claimed ++ x ∷ []) is)
    ∙ (append_assoc claimed (claimed_start g listed ∷ []) (claims_from g (k + 1) (drop (k + 1) starts) set)
    ∙ (ap (λ x. claimed ++ x) (sym (claimed_next g starts set k listed within same has)) ∙ before))

pub after_passed : (g : Grammar) (starts : List ListedStart) (set : List Bool) (k : ℕ) (claimed now : List ClaimedStart)
    → k < length starts → contains set k ≡ false → now ≡ claimed
    → claimed ++ claims_from g k (drop k starts) set ≡ claimed_starts g starts set → now ++ claims_from g (k + 1) (drop (k + 1) starts) set ≡ claimed_starts g starts set
after_passed g starts set k claimed now within has same before =
    ap (λ x. x ++ claims_from g (k + 1) (drop (k + 1) starts) set) same
    ∙ (ap (λ x. claimed ++ x) (sym (passed_next g starts set k within has)) ∙ before)

pub none_left : (g : Grammar) (starts : List ListedStart) (set : List Bool) (k : ℕ) → length starts ≤ k → claims_from g k (drop k starts) set ≡ []
none_left g starts set k whole = rw (drop_of_length-le starts whole) refl

-- ---- rules

least_last : (g : Grammar) (sets : Sets) (costs : List ℕ) (r : ℕ) (rules : List Rule) (claims : List RuleClaim) (rank : ℕ) (rule : Rule) (claim : RuleClaim)
    → AreLeast g sets costs r rules claims → rank_at sets.ranks (r + length rules) ≡ Some rank → claim ≡ least_claim g sets costs rank rule
    → AreLeast g sets costs r (rules ++ rule ∷ []) (claims ++ claim ∷ [])
least_last g sets costs r [] [] rank rule claim h ranked is = ((rank, subst (λ a. rank_at sets.ranks a ≡ Some rank) (omega arith) ranked, is), tt)
least_last g sets costs r [] (c ∷ cs) rank rule claim h ranked is = elim h [ ]
least_last g sets costs r (x ∷ xs) [] rank rule claim h ranked is = elim h [ ]
least_last g sets costs r (x ∷ xs) (c ∷ cs) rank rule claim h ranked is =
    let same : r + suc (length xs) ≡ suc r + length xs = omega arith in
    (h.0, least_last g sets costs (suc r) xs cs rank rule claim h.1 (subst (λ a. rank_at sets.ranks a ≡ Some rank) same ranked) is)

taken_long : (rules : List Rule) (i : ℕ) → i < length rules → length (take i rules) ≡ i
taken_long [] i within = absurd (omega arith)
taken_long (x ∷ xs) zero within = refl
taken_long (x ∷ xs) (suc i) within = ap suc (taken_long xs i (omega arith))

-- one more
pub least_more : (g : Grammar) (sets : Sets) (costs : List ℕ) (rules : List Rule) (claims : List RuleClaim) (i rank : ℕ) (rule : Rule) (claim : RuleClaim)
    → i < length rules → rule ≡ get_or rules i rule → AreLeast g sets costs 0 (take i rules) claims → rank_at sets.ranks i ≡ Some rank
    → claim ≡ least_claim g sets costs rank rule → AreLeast g sets costs 0 (take (i + 1) rules) (claims ++ claim ∷ [])
least_more g sets costs rules claims i rank rule claim within same before ranked is =
    let long : i ≡ 0 + length (take i rules) = omega (arith, taken_long rules i within) in
    let there : rank_at sets.ranks (0 + length (take i rules)) ≡ Some rank = subst (λ a. rank_at sets.ranks a ≡ Some rank) long ranked in
    subst (λ rs. AreLeast g sets costs 0 rs (claims ++ claim ∷ [])) (sym (take_more rules i rule within ∙ ap (λ y. take i rules ++ y ∷ []) (sym same)))
    (least_last g sets costs 0 (take i rules) claims rank rule claim before there is)
