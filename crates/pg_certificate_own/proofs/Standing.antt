-- The claims of listed starts stand for those starts alone.
use Rattle.std.proofs.Common.{◌≡◌, ◌⊎◌, inl, inr, ◌<◌, ◌≤◌, ◌+◌, ℕ, zero, suc, Bool, true, false, true≢false, if◌then◌else◌, nat_lt, List, [], ◌∷◌, map, Some, slice_get, length, refl, ap, sym, ◌∙◌, subst, arith}
use Rattle.std.specs.Prelude.{◌↔◌}
use Rattle.std.proofs.lemmas.Bool.Decides.{nat_tests}
use Rattle.std.proofs.lemmas.Option.{slice_get_within, same_Some}
use Rattle.pg_graph_bits.specs.Numbers.{contains, set_at}
use Rattle.pg_certificate.specs.declared.certificate.ClaimedStart.TheVariants as claimed
use Rattle.pg_certificate.specs.declared.certificate.RuleClaim.{RuleClaim}
use Rattle.pg_class.specs.Ranges.{Range}
use Rattle.pg_grammar_form.specs.Forms.{Node}
use Rattle.pg_grammar_form.specs.declared.form.Form.TheVariants as form
use Rattle.pg_grammar_form.specs.declared.form.Leaf.TheVariants as leaf
use Rattle.pg_sets_nullable.specs.Ranks.{rank_at}
use Rattle.pg_sets_own.specs.Listed.{IsFirstReader, IsNumbered, IsListed}
use Rattle.pg_sets_own.specs.OwnStarts as own_by
use Rattle.pg_sets_own.specs.OwnStarts.{OwnStart, IsOperatorStart, IsClassOf, ReadsWords, ReservedAs, SameTexts}
use Rattle.pg_sets_own.specs.declared.listed.ListedStart.{ListedStart}
use Rattle.pg_sets_own.proofs.Owned.{one_operator, reads_like, one_reserved}
use Rattle.pg_sets_own.proofs.Reading.{one_class}
use Rattle.pg_sets.specs.Sets.{Sets, HasStart, AreSets}
use Rattle.pg_start.specs.declared.kind.StartKind.{StartKind}
use Rattle.pg_start.specs.declared.kind.StartKind.TheVariants.{Class, Key, Word, End}
use Rattle.pg_grammar_value.specs.Follows.{BodiesAreNodes}
use Rattle.pg_grammar_value.specs.Grammar.{Grammar}
use Rattle.pg_grammar_value.specs.declared.grammar.Rule.{Rule}
use Rattle.pg_certificate_own.specs.Claimed.{StandsFor, IsClaimedIn, ClaimsTheSets}
use Rattle.pg_certificate_own.specs.Least.{claimed_kind, claimed_start, claims_from, starts_from, least_claim, AreLeast}
use Rattle.pg_certificate_own.proofs.Origin.{HasOrigin, first_origin, follow_origin, from_none, reader_of}
use Rattle.pg_predict_conditions.proofs.Facts.{both}

-- ---- words

-- what some texts are reserved as, the same texts are reserved as, where an item reads the words
reserved_like : {g : Grammar} {heads rest : List Range} {texts reserved : List (List ℕ)} (w : ℕ) (reads : ReadsWords g heads rest reserved w)
    → ReservedAs g heads rest texts reserved → ReservedAs g heads rest reads.item.reserved reserved
reserved_like w reads (own_by.as_item {w = v} found before) =
    let back : SameTexts found.item.reserved reads.item.reserved = λ text. sym (reads.texts text) in
    let there : SameTexts reads.item.reserved found.item.reserved = reads.texts in
    own_by.as_item {w = v} (record { item = found.item; there = found.there; first_characters = found.first_characters; other_characters = found.other_characters; texts = back })
    (λ u below other. before u below (reads_like (λ text. reads.texts text ∙ found.texts text) other))
reserved_like w reads (own_by.as_written none) = elim (none w reads) [ ]

operator_kept : {g : Grammar} {heads rest : List Range} {reserved : List (List ℕ)} → IsOperatorStart g (Word heads rest reserved)
    → (texts : List (List ℕ)) × ReservedAs g heads rest texts reserved
operator_kept (own_by.operator {item = item} there class kept) = (item.reserved, kept)

own_kept : {g : Grammar} {n : Node} {heads rest : List Range} {reserved : List (List ℕ)} → OwnStart g n (Word heads rest reserved)
    → (texts : List (List ℕ)) × ReservedAs g heads rest texts reserved
own_kept (own_by.word {item = item} there head rest kept) = (item.reserved, kept)
own_kept (own_by.expression operator) = operator_kept operator

-- a word start has texts that are reserved so
kept_so : {g : Grammar} (heads rest : List Range) (reserved : List (List ℕ)) → HasOrigin g (Word heads rest reserved) → (texts : List (List ℕ)) × ReservedAs g heads rest texts reserved
kept_so heads rest reserved (inl e) = cc
kept_so heads rest reserved (inr (inl operator)) = operator_kept operator
kept_so heads rest reserved (inr (inr own)) = own_kept own.1

word_path : (heads h rest r : List Range) (reserved res : List (List ℕ)) → h ≡ heads → r ≡ rest → res ≡ reserved → Word heads rest reserved ≡ Word h r res
word_path heads h rest r reserved res e f d =
    ap (λ x. Word x rest reserved) (sym e) ∙ (ap (λ x. Word h x reserved) (sym f) ∙ ap (λ x. Word h r x) (sym d))

-- the words of an item are one start
word_only : {g : Grammar} {heads rest : List Range} {reserved : List (List ℕ)} {w : ℕ} {other : StartKind} (reads : ReadsWords g heads rest reserved w)
    → ReservedAs g heads rest reads.item.reserved reserved → OwnStart g (form.Leaf (leaf.Word w)) other → Word heads rest reserved ≡ other
word_only {g} {heads} {rest} {reserved} reads kept (own_by.word {item = also} {heads = h} {rest = r} {reserved = res} there begins goes is) =
    let one : also ≡ reads.item = same_Some also reads.item (sym there ∙ reads.there) in
    let same_heads : h ≡ heads = one_class (subst (λ i. IsClassOf g i.head h) one begins) reads.first_characters in
    let same_rest : r ≡ rest = one_class (subst (λ i. IsClassOf g i.rest r) one goes) reads.other_characters in
    let kept_too : ReservedAs g heads rest reads.item.reserved res =
    subst (λ i. ReservedAs g heads rest i.reserved res) one (subst (λ x. ReservedAs g heads x also.reserved res) same_rest (subst (λ x. ReservedAs g x r also.reserved res) same_heads is)) in
    word_path heads h rest r reserved res same_heads same_rest (one_reserved res reserved kept_too kept)

own_operator : {g : Grammar} {n : Node} {heads rest : List Range} {reserved : List (List ℕ)} {w : ℕ} → IsFirstReader g heads rest reserved w → length g.words ≤ w
    → OwnStart g n (Word heads rest reserved) → IsOperatorStart g (Word heads rest reserved)
own_operator {g} reader past (own_by.word {item = item} there head rest kept) =
    let found = reader_of (record { item = item; there = there; first_characters = head; other_characters = rest; texts = λ text. refl }) kept in
    let within = slice_get_within g.words found.0 found.1.item found.1.there in
    absurd (reader.none_before found.0 (omega (arith, within, past)) found.1)
own_operator reader past (own_by.expression operator) = operator

-- a word start that no item reads is the operators
operator_of : {g : Grammar} (heads rest : List Range) (reserved : List (List ℕ)) (w : ℕ) → IsFirstReader g heads rest reserved w → length g.words ≤ w
    → HasOrigin g (Word heads rest reserved) → IsOperatorStart g (Word heads rest reserved)
operator_of heads rest reserved w reader past (inl e) = cc
operator_of heads rest reserved w reader past (inr (inl operator)) = operator
operator_of heads rest reserved w reader past (inr (inr own)) = own_operator reader past own.1

if_stands : (g : Grammar) (w : ℕ) (start other : StartKind) (b : Bool) → (b ≡ true → OwnStart g (form.Leaf (leaf.Word w)) other ↔ (start ≡ other))
    → (b ≡ false → IsOperatorStart g other ↔ (start ≡ other)) → StandsFor g (if b then claimed.Word w else claimed.Operator) other ↔ (start ≡ other)
if_stands g w start other true word operator = word refl
if_stands g w start other false word operator = operator refl

word_stands : (g : Grammar) (w : ℕ) (heads rest : List Range) (reserved : List (List ℕ)) (other : StartKind) → IsFirstReader g heads rest reserved w
    → HasOrigin g (Word heads rest reserved) → w < length g.words → OwnStart g (form.Leaf (leaf.Word w)) other ↔ (Word heads rest reserved ≡ other)
word_stands g w heads rest reserved other reader origin within =
    let reads = reader.reads within in
    let kept = reserved_like w reads (kept_so heads rest reserved origin).1 in (
      λ own. word_only reads kept own,
      λ e. subst (OwnStart g (form.Leaf (leaf.Word w))) e (own_by.word reads.there reads.first_characters reads.other_characters kept),
    )

operator_stands : (g : Grammar) (w : ℕ) (heads rest : List Range) (reserved : List (List ℕ)) (other : StartKind) → IsFirstReader g heads rest reserved w
    → HasOrigin g (Word heads rest reserved) → length g.words ≤ w → IsOperatorStart g other ↔ (Word heads rest reserved ≡ other)
operator_stands g w heads rest reserved other reader origin past =
    let operator = operator_of heads rest reserved w reader past origin in
    (λ also. one_operator operator also, λ e. subst (IsOperatorStart g) e operator)

-- ---- starts

stands_kind : (g : Grammar) (w : ℕ) (start other : StartKind) → IsNumbered g start w → HasOrigin g start → StandsFor g (claimed_kind g w start) other ↔ (start ≡ other)
stands_kind g w (Class ranges) other numbered origin = (λ e. e, λ e. e)
stands_kind g w (Key text excluded) other numbered origin = (λ e. e, λ e. e)
stands_kind g w (Word heads rest reserved) other numbered origin =
    if_stands g w (Word heads rest reserved) other (nat_lt w (length g.words))
    (λ e. let within : w < length g.words = grind (arith, nat_tests, e) in word_stands g w heads rest reserved other numbered origin within)
    (λ e. let past : length g.words ≤ w = grind (arith, nat_tests, e) in operator_stands g w heads rest reserved other numbered origin past)
stands_kind g w End other numbered origin = (λ e. e, λ e. e)

-- the start is listed under a number of the set, the first of these having the number k
pub record IsListedFrom (k : ℕ) (starts : List ListedStart) (set : List Bool) (start : StartKind) : Type 0 where
  pub place : ℕ
  pub listed : ListedStart
  pub there : slice_get starts place ≡ Some listed
  pub member : contains set (k + place) ≡ true
  pub same : listed.start ≡ start

if_claimed : (g : Grammar) (b : Bool) (x : ListedStart) (xs : List ListedStart) (start : StartKind) → IsClaimedIn g (map (claimed_start g) (if b then x ∷ xs else xs)) start
    → ((b ≡ true) × StandsFor g (claimed_start g x) start) ⊎ IsClaimedIn g (map (claimed_start g) xs) start
if_claimed g true x xs start (inl stands) = inl (refl, stands)
if_claimed g true x xs start (inr more) = inr more
if_claimed g false x xs start more = inr more

claimed_if : (g : Grammar) (b : Bool) (x : ListedStart) (xs : List ListedStart) (start : StartKind) → ((b ≡ true) × StandsFor g (claimed_start g x) start) ⊎ IsClaimedIn g (map (claimed_start g) xs) start
    → IsClaimedIn g (map (claimed_start g) (if b then x ∷ xs else xs)) start
claimed_if g true x xs start (inl here) = inl here.1
claimed_if g true x xs start (inr more) = inr more
claimed_if g false x xs start (inl here) = absurd (true≢false (sym here.0))
claimed_if g false x xs start (inr more) = more

-- what is claimed of these starts stands for them
abbrev Stand : Grammar → ℕ → List ListedStart → List Bool → StartKind → Type 0
Stand g k starts set start = (j : ℕ) (listed : ListedStart) → slice_get starts j ≡ Some listed → contains set (k + j) ≡ true → StandsFor g (claimed_start g listed) start ↔ (listed.start ≡ start)

further : (set : List Bool) (k j : ℕ) → contains set (suc k + j) ≡ true → contains set (k + suc j) ≡ true
further set k j has = let same : suc k + j ≡ k + suc j = omega arith in subst (λ n. contains set n ≡ true) same has

nearer : (set : List Bool) (k j : ℕ) → contains set (k + suc j) ≡ true → contains set (suc k + j) ≡ true
nearer set k j has = let same : k + suc j ≡ suc k + j = omega arith in subst (λ n. contains set n ≡ true) same has

at_first : (set : List Bool) (k : ℕ) → contains set k ≡ true → contains set (k + 0) ≡ true
at_first set k has = let same : k ≡ k + 0 = omega arith in subst (λ n. contains set n ≡ true) same has

from_first : (set : List Bool) (k : ℕ) → contains set (k + 0) ≡ true → contains set k ≡ true
from_first set k has = let same : k + 0 ≡ k = omega arith in subst (λ n. contains set n ≡ true) same has

claimed_is : (g : Grammar) (k : ℕ) (starts : List ListedStart) (set : List Bool) (start : StartKind) → Stand g k starts set start
    → IsClaimedIn g (claims_from g k starts set) start → IsListedFrom k starts set start
claimed_is g k [] set start stand claimed = elim claimed [ ]
claimed_is g k (x ∷ xs) set start stand claimed =
    elim (if_claimed g (contains set k) x (starts_from (suc k) xs set) start claimed) [
      | inl here ↦ let has = at_first set k here.0 in record { place = 0; listed = x; there = refl; member = has; same = (stand 0 x refl has).0 here.1 }
      | inr more ↦
          let rest = claimed_is g (suc k) xs set start (λ j listed there has. stand (suc j) listed there (further set k j has)) more in
          record { place = suc rest.place; listed = rest.listed; there = rest.there; member = further set k rest.place rest.member; same = rest.same }
    ]

is_claimed : (g : Grammar) (k : ℕ) (starts : List ListedStart) (set : List Bool) (start : StartKind) → Stand g k starts set start
    → (j : ℕ) (listed : ListedStart) → slice_get starts j ≡ Some listed → contains set (k + j) ≡ true → listed.start ≡ start
    → IsClaimedIn g (claims_from g k starts set) start
is_claimed g k [] set start stand j listed there has same = cc
is_claimed g k (x ∷ xs) set start stand zero listed there has same =
    let one : listed ≡ x = same_Some listed x (sym there) in
    let stands = (stand 0 x refl has).1 (subst (λ y. y.start ≡ start) one same) in
    claimed_if g (contains set k) x (starts_from (suc k) xs set) start (inl (from_first set k has, stands))
is_claimed g k (x ∷ xs) set start stand (suc j) listed there has same =
    claimed_if g (contains set k) x (starts_from (suc k) xs set) start
    (inr (is_claimed g (suc k) xs set start (λ i one at in_set. stand (suc i) one at (further set k i in_set)) j listed there (nearer set k j has) same))

-- the claims of a set stand for what is in it
claims_stand : (g : Grammar) (starts : List ListedStart) (set : List Bool) (start : StartKind) → ((k : ℕ) (listed : ListedStart) → slice_get starts k ≡ Some listed → IsListed g listed)
    → ((one : StartKind) → HasStart starts set one → HasOrigin g one) → IsClaimedIn g (claims_from g 0 starts set) start ↔ HasStart starts set start
claims_stand g starts set start listed origin =
    let stand : Stand g 0 starts set start = λ j one there has.
    stands_kind g one.word one.start start (listed j one there) (origin one.start (record { number = j; listed = one; member = from_none set j has; there = there; same = refl })) in (
      λ claimed.
          let found = claimed_is g 0 starts set start stand claimed in
          record { number = found.place; listed = found.listed; member = from_none set found.place found.member; there = found.there; same = found.same },
      λ has.
          let plain : has.number ≡ 0 + has.number = omega arith in
          is_claimed g 0 starts set start stand has.number has.listed has.there (subst (λ n. contains set n ≡ true) plain has.member) has.same,
    )

-- ---- rules

claim_is_so : (g : Grammar) (sets : Sets) (costs : List ℕ) (r rank : ℕ) (rule : Rule) → AreSets g sets → rule.body < length g.nodes → r < length g.rules
    → rank_at sets.ranks r ≡ Some rank → ClaimsTheSets g r rule (least_claim g sets costs rank rule)
claim_is_so g sets costs r rank rule are inside within ranked =
    let so = are.start_sets in
    record {
      nullable = are.nullable rule.body;
      rank = (are.ranks.ranked r rank within).0 ranked;
      first = λ start. both (claims_stand g sets.starts (set_at sets.firsts rule.body) start so.listed (λ one has. first_origin ((so.first rule.body one inside).0 has)))
          (so.first rule.body start inside);
      follow = λ start. both (claims_stand g sets.starts (set_at sets.follows rule.body) start so.listed (λ one has. follow_origin ((so.follow rule.body one inside).0 has)))
          (so.follow rule.body start inside);
    }

each_is_so : (g : Grammar) (sets : Sets) (costs : List ℕ) (k : ℕ) (rules : List Rule) (claims : List RuleClaim) → AreSets g sets → BodiesAreNodes (length g.nodes) rules
    → k + length rules ≡ length g.rules → AreLeast g sets costs k rules claims
    → (j : ℕ) (rule : Rule) (claim : RuleClaim) → slice_get rules j ≡ Some rule → slice_get claims j ≡ Some claim → ClaimsTheSets g (k + j) rule claim
each_is_so g sets costs k [] claims are bodies long least j rule claim at there = cc
each_is_so g sets costs k (x ∷ xs) [] are bodies long least j rule claim at there = cc
each_is_so g sets costs k (x ∷ xs) (c ∷ cs) are bodies long least zero rule claim at there =
    let one : x ≡ rule = same_Some x rule at in
    let this : c ≡ claim = same_Some c claim there in
    let same : k ≡ k + 0 = omega arith in
    let within : k < length g.rules = omega (arith, long) in
    subst (λ n. ClaimsTheSets g n rule claim) same (subst (λ y. ClaimsTheSets g k y claim) one
    (subst (ClaimsTheSets g k x) (sym least.0.2 ∙ this) (claim_is_so g sets costs k least.0.0 x are bodies.0 within least.0.1)))
each_is_so g sets costs k (x ∷ xs) (c ∷ cs) are bodies long least (suc j) rule claim at there =
    let same : suc k + j ≡ k + suc j = omega arith in
    let rest : suc k + length xs ≡ length g.rules = omega (arith, long) in
    subst (λ n. ClaimsTheSets g n rule claim) same (each_is_so g sets costs (suc k) xs cs are bodies.1 rest least.1 j rule claim at there)

-- what is claimed of each rule is what is so
pub claims_are_so : (g : Grammar) (sets : Sets) (costs : List ℕ) (claims : List RuleClaim) → BodiesAreNodes (length g.nodes) g.rules → AreSets g sets
    → AreLeast g sets costs 0 g.rules claims → (r : ℕ) (rule : Rule) (claim : RuleClaim) → slice_get g.rules r ≡ Some rule → slice_get claims r ≡ Some claim
    → ClaimsTheSets g r rule claim
claims_are_so g sets costs claims bodies are least r rule claim at there =
    let plain : 0 + r ≡ r = omega arith in
    subst (λ n. ClaimsTheSets g n rule claim) plain (each_is_so g sets costs 0 g.rules claims are bodies (omega arith) least r rule claim at there)
