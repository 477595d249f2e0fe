-- Where the starts of sets come from, and that what is claimed of them is the grammar's.
use Rattle.std.proofs.Common.{◌≡◌, ◌⊎◌, inl, inr, ◌<◌, ◌≤◌, ◌+◌, ℕ, suc, Bool, true, false, if◌then◌else◌, nat_lt, List, [], ◌∷◌, map, Option, Some, None, slice_get, length, refl, ap, ap₂, sym, subst, arith}
use Rattle.std.specs.Prelude.{IsSome}
use Rattle.std.specs.List.{AllByRecursion}
use Rattle.std.proofs.lemmas.Bool.Decides.{nat_tests}
use Rattle.std.proofs.lemmas.Option.{slice_get_within}
use Rattle.pg_graph_bits.specs.Numbers.{contains, set_at}
use Rattle.pg_certificate.specs.Certificates.{claim_rule}
use Rattle.pg_certificate.specs.Fitting.{FitsStart, FitsClaim, FitsGrammar}
use Rattle.pg_certificate.specs.declared.certificate.ClaimedStart.TheVariants as claimed
use Rattle.pg_certificate.specs.declared.certificate.RuleClaim.{RuleClaim}
use Rattle.pg_class.specs.Ranges.{Range}
use Rattle.pg_grammar_form.specs.Forms.{Node}
use Rattle.pg_grammar_form.specs.declared.decl.Role.{Role}
use Rattle.pg_grammar_form.specs.declared.decl.Role.TheVariants.{InfixLeft, InfixRight, InfixNone, Prefix, Postfix}
use Rattle.pg_sets_own.specs.Listed.{IsFirstReader, IsNumbered}
use Rattle.pg_sets_own.specs.OwnStarts as own_by
use Rattle.pg_sets_own.specs.OwnStarts.{OwnStart, IsOperatorStart, ReadsWords, ReservedAs, role_keyword}
use Rattle.pg_sets_own.specs.declared.listed.ListedStart.{ListedStart}
use Rattle.pg_sets_own.proofs.Owned.{spelled}
use Rattle.pg_sets.specs.First as first_by
use Rattle.pg_sets.specs.First.{IsFirst, IsFirstOf}
use Rattle.pg_sets.specs.Follow as follow_by
use Rattle.pg_sets.specs.Follow.{IsFollow}
use Rattle.pg_sets.specs.Sets.{Sets, AreSets}
use Rattle.pg_start.specs.declared.kind.StartKind.{StartKind}
use Rattle.pg_start.specs.declared.kind.StartKind.TheVariants.{Class, Key, Word, End}
use Rattle.pg_grammar_value.specs.Follows.{BodiesAreNodes}
use Rattle.pg_grammar_value.specs.Grammar.{Grammar, IsGrammar, rule_name}
use Rattle.pg_grammar_value.specs.declared.grammar.Rule.{Rule}
use Rattle.pg_certificate_own.specs.Least.{claimed_kind, claimed_start, claims_from, starts_from, least_claim, AreLeast}

-- ---- where starts come from

-- the start is the end or the operators, or a node gives it by itself
abbrev pub HasOrigin : Grammar → StartKind → Type 0
HasOrigin g start = (start ≡ End) ⊎ (IsOperatorStart g start ⊎ ((n : Node) × OwnStart g n start))

pub first_origin : {g : Grammar} {start : StartKind} {p : ℕ} → IsFirst g start p → HasOrigin g start
first_origin (first_by.own {n = n} at own) = inr (inr (n, own))
first_origin (first_by.part at plain reached first) = first_origin first
first_origin (first_by.rule at there first) = first_origin first

first_of_origin : {g : Grammar} {start : StartKind} {ps : List ℕ} → IsFirstOf g start ps → HasOrigin g start
first_of_origin (first_by.here first) = first_origin first
first_of_origin (first_by.after nullable more) = first_of_origin more

pub follow_origin : {g : Grammar} {start : StartKind} {p : ℕ} → IsFollow g start p → HasOrigin g start
follow_origin (follow_by.at_end there) = inl refl
follow_origin (follow_by.used at there follow) = follow_origin follow
follow_origin (follow_by.next p at before first) = first_of_origin first
follow_origin (follow_by.last at before nullable follow) = follow_origin follow
follow_origin (follow_by.alternative k at there follow) = follow_origin follow
follow_origin (follow_by.next_round p at first) = first_origin first
follow_origin (follow_by.last_round at follow) = follow_origin follow
follow_origin (follow_by.next_link p at chain first) = first_of_origin first
follow_origin (follow_by.last_link at chain follow) = follow_origin follow
follow_origin (follow_by.operand p at chain first) = first_origin first
follow_origin (follow_by.over_operand p at chain nullable first) = first_of_origin first
follow_origin (follow_by.last_operand at chain nullable follow) = follow_origin follow
follow_origin (follow_by.operator p at operator) = inr (inl operator)
follow_origin (follow_by.last_term at follow) = follow_origin follow
follow_origin (follow_by.only at part follow) = follow_origin follow

-- ---- keys have a character

keyword_long : (role : Role) → 0 < length (role_keyword role)
keyword_long InfixLeft = omega arith
keyword_long InfixRight = omega arith
keyword_long InfixNone = omega arith
keyword_long Prefix = omega arith
keyword_long Postfix = omega arith

no_operator_key : {g : Grammar} {text : List ℕ} {excluded : List Range} → IsOperatorStart g (Key text excluded) → ⊥
no_operator_key operator = elim operator [ ]

key_long : {g : Grammar} {n : Node} {text : List ℕ} {excluded : List Range} → IsGrammar g → OwnStart g n (Key text excluded) → 0 < length text
key_long {g} grammar (own_by.key {part} {characters} at) = spelled g part characters grammar at
key_long {g} grammar (own_by.key_that_ends {characters = characters} keyed class) = spelled g keyed.first characters grammar keyed.string
key_long grammar (own_by.declare role excluded) = keyword_long role
key_long grammar (own_by.expression operator) = elim (no_operator_key operator) [ ]

key_fits : {g : Grammar} (text : List ℕ) (excluded : List Range) → IsGrammar g → HasOrigin g (Key text excluded) → 0 < length text
key_fits text excluded grammar (inl e) = cc
key_fits text excluded grammar (inr (inl operator)) = elim (no_operator_key operator) [ ]
key_fits text excluded grammar (inr (inr own)) = key_long grammar own.1

-- ---- words have an item, or are the operators

there_is : {A : Type 0} (found : Option A) (x : A) → found ≡ Some x → IsSome found
there_is None x e = cc
there_is (Some y) x e = refl

pub operators_there : {g : Grammar} {start : StartKind} → IsOperatorStart g start → IsSome g.operators
operators_there {g} (own_by.operator {item} there class reserved) = there_is g.operators item there

pub reader_of : {g : Grammar} {heads rest : List Range} {texts reserved : List (List ℕ)} {w : ℕ} → ReadsWords g heads rest texts w → ReservedAs g heads rest texts reserved
    → (v : ℕ) × ReadsWords g heads rest reserved v
reader_of reads (own_by.as_item {w = v} found before) =
    (v, record { item = found.item; there = found.there; first_characters = found.first_characters; other_characters = found.other_characters; texts = λ text. refl })
reader_of {w = w} reads (own_by.as_written none) = (w, reads)

own_reader : {g : Grammar} {n : Node} {heads rest : List Range} {reserved : List (List ℕ)} → OwnStart g n (Word heads rest reserved)
    → ((v : ℕ) × ReadsWords g heads rest reserved v) ⊎ IsSome g.operators
own_reader (own_by.word {item = item} there head rest kept) =
    inl (reader_of (record { item = item; there = there; first_characters = head; other_characters = rest; texts = λ text. refl }) kept)
own_reader (own_by.expression operator) = inr (operators_there operator)

past_all : {g : Grammar} {heads rest : List Range} {reserved : List (List ℕ)} (w : ℕ) → IsFirstReader g heads rest reserved w → length g.words ≤ w
    → HasOrigin g (Word heads rest reserved) → IsSome g.operators
past_all w reader past (inl e) = cc
past_all w reader past (inr (inl operator)) = operators_there operator
past_all {g} w reader past (inr (inr own)) = elim (own_reader own.1) [
  | inl reads ↦
      let within = slice_get_within g.words reads.0 reads.1.item reads.1.there in
      absurd (reader.none_before reads.0 (omega (arith, within, past)) reads.1)
  | inr there ↦ there
]

word_fits : (g : Grammar) (w : ℕ) (b : Bool) → (b ≡ true → w < length g.words) → (b ≡ false → IsSome g.operators)
    → FitsStart g (if b then claimed.Word w else claimed.Operator)
word_fits g w true within past = within refl
word_fits g w false within past = past refl

-- ---- starts

fits_kind : (g : Grammar) (w : ℕ) (start : StartKind) → IsGrammar g → IsNumbered g start w → HasOrigin g start → FitsStart g (claimed_kind g w start)
fits_kind g w (Class ranges) grammar numbered origin = tt
fits_kind g w (Key text excluded) grammar numbered origin = key_fits text excluded grammar origin
fits_kind g w (Word heads rest reserved) grammar numbered origin =
    word_fits g w (nat_lt w (length g.words)) (λ e. grind (arith, nat_tests, e))
    (λ e. let past : length g.words ≤ w = grind (arith, nat_tests, e) in past_all w numbered past origin)
fits_kind g w End grammar numbered origin = tt

if_fits : {A B : Type 0} (P : B → Type 0) (f : A → B) (b : Bool) (x : A) (xs : List A) → (b ≡ true → P (f x)) → AllByRecursion P (map f xs)
    → AllByRecursion P (map f (if b then x ∷ xs else xs))
if_fits P f true x xs this rest = (this refl, rest)
if_fits P f false x xs this rest = rest

all_fit : (g : Grammar) (starts : List ListedStart) (set : List Bool) (k : ℕ)
    → ((j : ℕ) (listed : ListedStart) → slice_get starts j ≡ Some listed → contains set (k + j) ≡ true → FitsStart g (claimed_start g listed))
    → AllByRecursion (FitsStart g) (claims_from g k starts set)
all_fit g [] set k each = tt
all_fit g (x ∷ xs) set k each =
    if_fits (FitsStart g) (claimed_start g) (contains set k) x (starts_from (suc k) xs set)
    (λ e. let here : k ≡ k + 0 = omega arith in each 0 x refl (subst (λ n. contains set n ≡ true) here e))
    (all_fit g xs set (suc k) (λ j listed there e.
    let same : suc k + j ≡ k + suc j = omega arith in
    each (suc j) listed there (subst (λ n. contains set n ≡ true) same e)))

pub from_none : (set : List Bool) (j : ℕ) → contains set (0 + j) ≡ true → contains set j ≡ true
from_none set j has = let same : 0 + j ≡ j = omega arith in subst (λ n. contains set n ≡ true) same has

-- ---- claims

claim_fits : (g : Grammar) (sets : Sets) (costs : List ℕ) (rank : ℕ) (rule : Rule) → IsGrammar g → AreSets g sets → rule.body < length g.nodes
    → FitsClaim g (least_claim g sets costs rank rule)
claim_fits g sets costs rank rule grammar are inside =
    let listed = are.start_sets.listed in (
      all_fit g sets.starts (set_at sets.firsts rule.body) 0 (λ j one there has.
          fits_kind g one.word one.start grammar (listed j one there)
          (first_origin ((are.start_sets.first rule.body one.start inside).0 (record { number = j; listed = one; member = from_none _ j has; there = there; same = refl })))),
      all_fit g sets.starts (set_at sets.follows rule.body) 0 (λ j one there has.
          fits_kind g one.word one.start grammar (listed j one there)
          (follow_origin ((are.start_sets.follow rule.body one.start inside).0 (record { number = j; listed = one; member = from_none _ j has; there = there; same = refl })))),
    )

each_fits : (g : Grammar) (sets : Sets) (costs : List ℕ) (r : ℕ) (rules : List Rule) (claims : List RuleClaim) → IsGrammar g → AreSets g sets
    → BodiesAreNodes (length g.nodes) rules → AreLeast g sets costs r rules claims → AllByRecursion (FitsClaim g) claims
each_fits g sets costs r [] [] grammar are bodies least = tt
each_fits g sets costs r [] (c ∷ cs) grammar are bodies least = elim least [ ]
each_fits g sets costs r (x ∷ xs) [] grammar are bodies least = elim least [ ]
each_fits g sets costs r (x ∷ xs) (c ∷ cs) grammar are bodies least =
    (subst (FitsClaim g) (sym least.0.2) (claim_fits g sets costs least.0.0 x grammar are bodies.0), each_fits g sets costs (suc r) xs cs grammar are bodies.1 least.1)

same_names : (g : Grammar) (sets : Sets) (costs : List ℕ) (r : ℕ) (rules : List Rule) (claims : List RuleClaim) → AreLeast g sets costs r rules claims
    → map claim_rule claims ≡ map rule_name rules
same_names g sets costs r [] [] least = refl
same_names g sets costs r [] (c ∷ cs) least = elim least [ ]
same_names g sets costs r (x ∷ xs) [] least = elim least [ ]
same_names g sets costs r (x ∷ xs) (c ∷ cs) least = ap₂ (λ n ns. n ∷ ns) (ap claim_rule least.0.2) (same_names g sets costs (suc r) xs cs least.1)

-- the least certificate of a grammar may be the grammar's
pub least_fits : (g : Grammar) (sets : Sets) (costs : List ℕ) (claims : List RuleClaim) → IsGrammar g → BodiesAreNodes (length g.nodes) g.rules → AreSets g sets
    → AreLeast g sets costs 0 g.rules claims → FitsGrammar g claims
least_fits g sets costs claims grammar bodies are least =
    record { each = each_fits g sets costs 0 g.rules claims grammar are bodies least; all = same_names g sets costs 0 g.rules claims least }
