-- Each edge of the claims leads to a set that contains the edge's source.
use Rattle.std.proofs.Common.{◌≡◌, inl, inr, ℕ, zero, suc, ◌+◌, ◌*◌, ◌<◌, Bool, true, false, true≢false, cond, List, [], ◌∷◌, ◌++◌, Some, slice_get, length, refl, sym, ap, subst, ◌∙◌, arith}
use Rattle.std.proofs.lemmas.Bool.{cases_lt, lt-ltb, le-ltb}
use Rattle.std.proofs.lemmas.Option.{slice_get_within}
use Rattle.pg_certificate.specs.declared.certificate.RuleClaim.{RuleClaim}
use Rattle.pg_grammar_form.specs.Forms.{Node, parts_of, NamesRule}
use Rattle.pg_grammar_form.specs.declared.form.Around.{Around}
use Rattle.pg_grammar_form.specs.declared.form.Around.TheVariants as kind
use Rattle.pg_grammar_form.specs.declared.form.Form.TheVariants as form
use Rattle.pg_grammar_form.proofs.Each.{all-get}
use Rattle.pg_graph.specs.Graphs.{has}
use Rattle.pg_graph.specs.Marks.{is_marked}
use Rattle.pg_graph.proofs.Lists.{has_first, has_cases}
use Rattle.pg_sets_nullable.specs.Parts.{up_to_unmarked, reached_parts}
use Rattle.pg_sets_own.specs.OwnStarts.{IsKeyTry, MarksKeys}
use Rattle.pg_sets_own.specs.declared.listed.ListedStart.{ListedStart}
use Rattle.pg_sets.specs.Flows.{Flow, follow_of, flows_of_all, flows_of_some, flows_after_parts, flows_of_only, flows_of_use, around_flows, node_flows}
use Rattle.pg_sets.specs.Follow.{StandsBefore, IsChain}
use Rattle.pg_sets.specs.Follow as follow
use Rattle.pg_sets.proofs.Flowing.{IsIn, here, further, in_cases}
use Rattle.pg_sets.proofs.FlowSound.{follow_is}
use Rattle.pg_grammar_value.specs.Follows.{PartsFollow}
use Rattle.pg_grammar_value.specs.Grammar.{Grammar, IsGrammar}
use Rattle.pg_grammar_value.specs.declared.grammar.Rule.{Rule}
use Rattle.pg_grammar_value.proofs.Numbers.{parts_are_after}
use Rattle.pg_certificate_verify.specs.Claimed.{claimed_first, claimed_follow}
use Rattle.pg_certificate_verify.specs.Edges.{rule_set, of_first, of_follow, of_behind, use_flows, claim_flows, body_flows}
use Rattle.pg_certificate_verify.specs.First as by_first
use Rattle.pg_certificate_verify.specs.First.{IsFirstBy}
use Rattle.pg_certificate_verify.specs.Follow as by_follow
use Rattle.pg_certificate_verify.specs.Follow.{IsFollowBy, IsBehind}
use Rattle.pg_certificate_verify.specs.Standing.{IsClaimedAs}
use Rattle.pg_certificate_verify.proofs.EdgeLists.{some_is, IsNext, last, next, over, after_is, alternative_is}
use Rattle.pg_certificate_verify.proofs.ReachedParts.{reached_after}

-- ---- numbers of sets

pub no_follow_is : (count p : ℕ) → count < p + 1 → follow_of count p ≡ count + count
no_follow_is count p past = ap (λ b. cond b (count + p) (count + count)) (le-ltb p count (omega arith))

pub set_is : (count rules k r : ℕ) → r < rules → rule_set count rules k r ≡ count + count + 1 + k * rules + r
set_is count rules k r below = ap (λ b. cond b (count + count + 1 + k * rules + r) (count + count)) (lt-ltb r rules below)

pub no_set_is : (count rules k r : ℕ) → rules < r + 1 → rule_set count rules k r ≡ count + count
no_set_is count rules k r past = ap (λ b. cond b (count + count + 1 + k * rules + r) (count + count)) (le-ltb r rules (omega arith))

-- parts lie below the number of nodes
pub member_below : (k count : ℕ) (ps : List ℕ) (q : ℕ) → PartsFollow k count ps → has ps q ≡ true → q < count
member_below k count [] q after h = cc
member_below k count (p ∷ ps) q after h = elim (has_cases ps p q h) [ inl same ↦ subst (λ x. x < count) same after.0.1 | inr later ↦ member_below k count ps q after.1 later ]

-- the parts below a number that are reached
abbrev AllBelow : ℕ → List ℕ → Type 0
AllBelow count [] = Unit {0}
AllBelow count (q ∷ qs) = (q < count) × AllBelow count qs

low : (count : ℕ) (nullable : List Bool) (ps : List ℕ) (v : ℕ) → AllBelow count ps → has (up_to_unmarked nullable ps) v ≡ true → v < count
low count nullable [] v below h = cc
low count nullable (q ∷ qs) v below h =
    elim (has_cases (cond (is_marked nullable q) (up_to_unmarked nullable qs) []) q v h) [
      | inl same ↦ subst (λ y. y < count) same below.0
      | inr later ↦ go (is_marked nullable q) later (λ l. low count nullable qs v below.1 l)
    ]
  where
    go : (b : Bool) → has (cond b (up_to_unmarked nullable qs) []) v ≡ true → (has (up_to_unmarked nullable qs) v ≡ true → v < count) → v < count
    go true later rest = rest later
    go false later rest = cc

none_some_else : (b : Bool) (s u : ℕ) → has (cond b [] []) u ≡ true → s ≡ u
none_some_else true s u h = cc
none_some_else false s u h = cc

one_some : (nullable : List Bool) (s u : ℕ) → has (up_to_unmarked nullable (s ∷ [])) u ≡ true → s ≡ u
one_some nullable s u h =
    elim (has_cases (cond (is_marked nullable s) [] []) s u h) [ inl same ↦ same | inr none ↦ none_some_else (is_marked nullable s) s u none ]

pub no_use : (count p r : ℕ) → flows_of_use [] count p r ≡ []
no_use count p zero = refl
no_use count p (suc r) = refl

module _ (g : Grammar) (claims : List RuleClaim) (nullable keys : List Bool) (listed : ListedStart) where
  -- the start is in the set with this number
  pub record Holds (v : ℕ) : Type 0 where
    pub first : v < length g.nodes → IsFirstBy g claims nullable listed v
    pub follow : (q : ℕ) → q < length g.nodes → v ≡ length g.nodes + q → IsFollowBy g claims nullable listed q
    pub first_claim : (r : ℕ) → r < length g.rules → v ≡ length g.nodes + length g.nodes + 1 + 0 * length g.rules + r → IsClaimedAs g (claimed_first claims r) listed
    pub follow_claim : (r : ℕ) → r < length g.rules → v ≡ length g.nodes + length g.nodes + 1 + 1 * length g.rules + r → IsClaimedAs g (claimed_follow claims r) listed
    pub behind : (r : ℕ) → r < length g.rules → v ≡ length g.nodes + length g.nodes + 1 + 2 * length g.rules + r → IsBehind g claims nullable listed r

  -- ---- to and from sets

  pub to_first : (p : ℕ) → p < length g.nodes → IsFirstBy g claims nullable listed p → Holds p
  to_first p below is = record {
    first = λ inside. is;
    follow = λ q few e. absurd (omega arith);
    first_claim = λ r few e. absurd (omega arith);
    follow_claim = λ r few e. absurd (omega arith);
    behind = λ r few e. absurd (omega arith);
  }

  spare : (v : ℕ) → v ≡ length g.nodes + length g.nodes → Holds v
  spare v e = record {
    first = λ inside. absurd (omega arith);
    follow = λ q few same. absurd (omega arith);
    first_claim = λ r few same. absurd (omega arith);
    follow_claim = λ r few same. absurd (omega arith);
    behind = λ r few same. absurd (omega arith);
  }

  pub to_follow : (p : ℕ) → (p < length g.nodes → IsFollowBy g claims nullable listed p) → Holds (follow_of (length g.nodes) p)
  to_follow p is =
      elim (cases_lt p (length g.nodes)) [
        | inr past ↦ spare (follow_of (length g.nodes) p) (no_follow_is (length g.nodes) p (omega arith))
        | inl below ↦
            let e = follow_is (length g.nodes) p below in
            record {
              first = λ inside. absurd (omega arith);
              follow = λ q few same. let one : p ≡ q = omega arith in subst (IsFollowBy g claims nullable listed) one (is below);
              first_claim = λ r few same. absurd (omega arith);
              follow_claim = λ r few same. absurd (omega arith);
              behind = λ r few same. absurd (omega arith);
            }
      ]

  pub to_first_claim : (r : ℕ) → (r < length g.rules → IsClaimedAs g (claimed_first claims r) listed) → Holds (rule_set (length g.nodes) (length g.rules) of_first r)
  to_first_claim r is =
      elim (cases_lt r (length g.rules)) [
        | inr past ↦ spare (rule_set (length g.nodes) (length g.rules) of_first r) (no_set_is (length g.nodes) (length g.rules) of_first r (omega arith))
        | inl below ↦
            let e = set_is (length g.nodes) (length g.rules) 0 r below in
            record {
              first = λ inside. absurd (omega arith);
              follow = λ q few same. absurd (omega arith);
              first_claim = λ s few same. let one : r ≡ s = omega arith in subst (λ x. IsClaimedAs g (claimed_first claims x) listed) one (is below);
              follow_claim = λ s few same. absurd (omega arith);
              behind = λ s few same. absurd (omega arith);
            }
      ]

  pub to_follow_claim : (r : ℕ) → (r < length g.rules → IsClaimedAs g (claimed_follow claims r) listed) → Holds (rule_set (length g.nodes) (length g.rules) of_follow r)
  to_follow_claim r is =
      elim (cases_lt r (length g.rules)) [
        | inr past ↦ spare (rule_set (length g.nodes) (length g.rules) of_follow r) (no_set_is (length g.nodes) (length g.rules) of_follow r (omega arith))
        | inl below ↦
            let e = set_is (length g.nodes) (length g.rules) 1 r below in
            record {
              first = λ inside. absurd (omega arith);
              follow = λ q few same. absurd (omega arith);
              first_claim = λ s few same. absurd (omega arith);
              follow_claim = λ s few same. let one : r ≡ s = omega arith in subst (λ x. IsClaimedAs g (claimed_follow claims x) listed) one (is below);
              behind = λ s few same. absurd (omega arith);
            }
      ]

  pub to_behind : (r : ℕ) → (r < length g.rules → IsBehind g claims nullable listed r) → Holds (rule_set (length g.nodes) (length g.rules) of_behind r)
  to_behind r is =
      elim (cases_lt r (length g.rules)) [
        | inr past ↦ spare (rule_set (length g.nodes) (length g.rules) of_behind r) (no_set_is (length g.nodes) (length g.rules) of_behind r (omega arith))
        | inl below ↦
            let e = set_is (length g.nodes) (length g.rules) 2 r below in
            record {
              first = λ inside. absurd (omega arith);
              follow = λ q few same. absurd (omega arith);
              first_claim = λ s few same. absurd (omega arith);
              follow_claim = λ s few same. absurd (omega arith);
              behind = λ s few same. let one : r ≡ s = omega arith in subst (IsBehind g claims nullable listed) one (is below);
            }
      ]

  pub from_follow : (p : ℕ) → p < length g.nodes → Holds (follow_of (length g.nodes) p) → IsFollowBy g claims nullable listed p
  from_follow p below holds = holds.follow p below (follow_is (length g.nodes) p below)

  -- ---- the parts of a node

  module _ (tries : MarksKeys g keys) (grammar : IsGrammar g) where
    follows_node : (p : ℕ) (n : Node) → slice_get g.nodes p ≡ Some n → PartsFollow p (length g.nodes) (parts_of n)
    follows_node p n at = parts_are_after g.nodes p n grammar.preorder at

    -- an edge from the first set of a part that is reached
    lifts : (p q : ℕ) (n : Node) → slice_get g.nodes p ≡ Some n → (IsKeyTry g n → ⊥) → has (reached_parts nullable n) q ≡ true → q < length g.nodes
        → Holds q → Holds p
    lifts p q n at no_key h below from = to_first p (slice_get_within g.nodes p n at) (by_first.part at no_key h (from.first below))

    -- of the one part of a form
    only_sound : (p q : ℕ) (n : Node) → slice_get g.nodes p ≡ Some n → (IsKeyTry g n → ⊥) → has (reached_parts nullable n) q ≡ true → q < length g.nodes
        → (IsFollowBy g claims nullable listed p → IsFollowBy g claims nullable listed q)
        → (u x : ℕ) → IsIn u x (flows_of_only (length g.nodes) p q) → Holds u → Holds x
    only_sound p q n at no_key h below back u x here from = lifts p q n at no_key h below from
    only_sound p q n at no_key h below back u x (further here) from = to_follow q (λ few. back (from_follow p (slice_get_within g.nodes p n at) from))
    only_sound p q n at no_key h below back u x (further (further none)) from = elim none [ ]

    -- of a sequence
    next_sound : (p : ℕ) (parts : List ℕ) → slice_get g.nodes p ≡ Some (form.Seq parts) → (q u x : ℕ) (rest : List ℕ) → StandsBefore q rest parts
        → PartsFollow p (length g.nodes) rest → IsNext nullable (length g.nodes) p q u x rest → Holds u → Holds x
    next_sound p parts at q u x [] stands below (last e f) from =
        subst Holds f (to_follow q (λ few. by_follow.last at stands (from_follow p (slice_get_within g.nodes p (form.Seq parts) at) (subst Holds (sym e) from))))
    next_sound p parts at q u x (r ∷ rest) stands below (next e f) from =
        let held : Holds r = subst Holds (sym e) from in
        subst Holds f (to_follow q (λ few. by_follow.next p at stands (held.first below.0.1)))
    next_sound p parts at q u x (r ∷ rest) stands below (over null e f) from =
        subst Holds f (to_follow q (λ few. by_follow.over p at stands null (from_follow r below.0.1 (subst Holds (sym e) from))))

    rest_follow : (p q : ℕ) (rest parts : List ℕ) → StandsBefore q rest parts → PartsFollow p (length g.nodes) parts → PartsFollow p (length g.nodes) rest
    rest_follow p q rest parts follow.here after = after.1
    rest_follow p q rest parts (follow.further {parts = ps} stands) after = rest_follow p q rest ps stands after.1

    seq_sound : (p : ℕ) (parts : List ℕ) → slice_get g.nodes p ≡ Some (form.Seq parts) → (u x : ℕ)
        → IsIn u x (flows_of_some nullable parts p ++ flows_after_parts nullable (length g.nodes) p parts) → Holds u → Holds x
    seq_sound p parts at u x is from =
        let after = follows_node p (form.Seq parts) at in
        elim (in_cases u x (flows_of_some nullable parts p) (flows_after_parts nullable (length g.nodes) p parts) is) [
          | inl first ↦
              let some = some_is nullable parts p u x first in
              subst Holds some.1 (lifts p u (form.Seq parts) at (λ k. elim k [ ]) some.0 (member_below p (length g.nodes) (up_to_unmarked nullable parts) u (reached_after nullable p (length g.nodes) parts after) some.0) from)
          | inr later ↦
              let told = after_is nullable (length g.nodes) p parts u x later in
              next_sound p parts at told.part u x told.rest told.stands (rest_follow p told.part told.rest parts told.stands after) told.told from
        ]

    choice_sound : (p : ℕ) (parts : List ℕ) → slice_get g.nodes p ≡ Some (form.Choice parts) → (u x : ℕ)
        → IsIn u x (node_flows [] nullable keys (length g.nodes) p (form.Choice parts)) → Holds u → Holds x
    choice_sound p parts at u x is from =
        let inside = slice_get_within g.nodes p (form.Choice parts) at in
        let told = alternative_is (length g.nodes) p parts u x is in
        let below = member_below p (length g.nodes) parts told.part (follows_node p (form.Choice parts) at) told.among in
        elim told.told [
          | inl up ↦ subst Holds up.1 (lifts p told.part (form.Choice parts) at (λ k. elim k [ ]) told.among below (subst Holds (sym up.0) from))
          | inr down ↦ subst Holds down.1 (to_follow told.part (λ few. by_follow.alternative at told.among (from_follow p inside (subst Holds (sym down.0) from))))
        ]

    -- of a chain
    chain_sound : (p o s : ℕ) (n : Node) → slice_get g.nodes p ≡ Some n → IsChain o s n → (IsKeyTry g n → ⊥) → has (reached_parts nullable n) ≡ has (up_to_unmarked nullable (o ∷ s ∷ []))
        → o < length g.nodes → s < length g.nodes → (u x : ℕ) → IsIn u x (node_flows [] nullable keys (length g.nodes) p n)
        → node_flows [] nullable keys (length g.nodes) p n
        ≡ (flows_of_some nullable (o ∷ s ∷ []) p ++ flows_of_some nullable (s ∷ o ∷ []) (follow_of (length g.nodes) o)
        ++ flows_of_all nullable (o ∷ []) (follow_of (length g.nodes) p) (follow_of (length g.nodes) s)
        ++ ((follow_of (length g.nodes) p, follow_of (length g.nodes) o) ∷ [])
        ++ cond (is_marked nullable o) (flows_of_some nullable (s ∷ []) (follow_of (length g.nodes) s)) [])
        → Holds u → Holds x
    chain_sound p o s n at joins no_key reached operand separator u x told same from =
        let count = length g.nodes in
        let after = follow_of count p in
        let after_operand = follow_of count o in
        let after_separator = follow_of count s in
        let a = flows_of_some nullable (o ∷ s ∷ []) p in
        let b = flows_of_some nullable (s ∷ o ∷ []) after_operand in
        let c = flows_of_all nullable (o ∷ []) after after_separator in
        let d : List Flow = (after, after_operand) ∷ [] in
        let e = cond (is_marked nullable o) (flows_of_some nullable (s ∷ []) after_separator) [] in
        elim (in_cases u x (a ++ b ++ c ++ d) e (subst (IsIn u x) same told)) [
          | inr again ↦ round_again (is_marked nullable o) refl again
          | inl four ↦
              elim (in_cases u x (a ++ b ++ c) d four) [
                | inr link ↦ linked link
                | inl three ↦
                    elim (in_cases u x (a ++ b) c three) [
                      | inr third ↦ past_separator third
                      | inl two ↦
                          elim (in_cases u x a b two) [
                            | inl first ↦
                                let some = some_is nullable (o ∷ s ∷ []) p u x first in
                                subst Holds some.1 (lifts p u n at no_key (ap (λ f. f u) reached ∙ some.0) (low (length g.nodes) nullable (o ∷ s ∷ []) u (operand, (separator, tt)) some.0) from)
                            | inr second ↦
                                let some = some_is nullable (s ∷ o ∷ []) after_operand u x second in
                                subst Holds some.1 (to_follow o (λ few. by_follow.next_link p at joins some.0 (from.first (low (length g.nodes) nullable (s ∷ o ∷ []) u (separator, (operand, tt)) some.0))))
                          ]
                    ]
              ]
        ]
      where
        inside : p < length g.nodes
        inside = slice_get_within g.nodes p n at

        linked : IsIn u x ((follow_of (length g.nodes) p, follow_of (length g.nodes) o) ∷ []) → Holds x
        linked link = one link from
          where
            one : {u x : ℕ} → IsIn u x ((follow_of (length g.nodes) p, follow_of (length g.nodes) o) ∷ []) → Holds u → Holds x
            one here h = to_follow o (λ few. by_follow.last_link at joins (from_follow p inside h))
            one (further none) h = elim none [ ]

        past_separator : IsIn u x (flows_of_all nullable (o ∷ []) (follow_of (length g.nodes) p) (follow_of (length g.nodes) s)) → Holds x
        past_separator third = one third from
          where
            two : {u x : ℕ} (b : Bool) → is_marked nullable o ≡ b → IsIn u x (cond b ((follow_of (length g.nodes) p, follow_of (length g.nodes) s) ∷ []) []) → Holds u → Holds x
            two true e here h = to_follow s (λ few. by_follow.last_operand at joins e (from_follow p inside h))
            two true e (further none) h = elim none [ ]
            two false e none h = elim none [ ]

            one : {u x : ℕ} → IsIn u x (flows_of_all nullable (o ∷ []) (follow_of (length g.nodes) p) (follow_of (length g.nodes) s)) → Holds u → Holds x
            one here h = to_follow s (λ few. by_follow.operand p at joins (h.first operand))
            one (further is) h = two (is_marked nullable o) refl is h

        round_again : (b : Bool) → is_marked nullable o ≡ b → IsIn u x (cond b (flows_of_some nullable (s ∷ []) (follow_of (length g.nodes) s)) []) → Holds x
        round_again true e i =
            let some = some_is nullable (s ∷ []) (follow_of (length g.nodes) s) u x i in
            subst Holds some.1 (to_follow s (λ few. by_follow.over_operand p at joins e (subst (IsFirstBy g claims nullable listed) (sym (one_some nullable s u some.0)) (from.first (subst (λ y. y < length g.nodes) (one_some nullable s u some.0) separator)))))
        round_again false e i = elim i [ ]

    try_sound : (p q : ℕ) → slice_get g.nodes p ≡ Some (form.Around kind.Try q) → q < length g.nodes → (b : Bool) → is_marked keys p ≡ b → (u x : ℕ)
        → IsIn u x (cond b ((follow_of (length g.nodes) p, follow_of (length g.nodes) q) ∷ []) (flows_of_only (length g.nodes) p q)) → Holds u → Holds x
    try_sound p q at below true e u x here from =
        to_follow q (λ few. by_follow.only at follow.around (from_follow p (slice_get_within g.nodes p (form.Around kind.Try q) at) from))
    try_sound p q at below true e u x (further none) from = elim none [ ]
    try_sound p q at below false e u x is from =
        only_sound p q (form.Around kind.Try q) at (λ k. true≢false (sym ((tries p (form.Around kind.Try q) at).1 k) ∙ e)) (has_first [] q) below
        (λ f. by_follow.only at follow.around f) u x is from

    around_sound : (around : Around) (p q : ℕ) → slice_get g.nodes p ≡ Some (form.Around around q) → q < length g.nodes → (u x : ℕ)
        → IsIn u x (around_flows keys (length g.nodes) p around q) → Holds u → Holds x
    around_sound kind.Try p q at below u x is from = try_sound p q at below (is_marked keys p) refl u x is from
    around_sound k p q at below u x is from = only_sound p q (form.Around k q) at (λ k. elim k [ ]) (has_first [] q) below (λ f. by_follow.only at follow.around f) u x is from

    many_sound : (p q : ℕ) → slice_get g.nodes p ≡ Some (form.Many q) → q < length g.nodes → (u x : ℕ)
        → IsIn u x (node_flows [] nullable keys (length g.nodes) p (form.Many q)) → Holds u → Holds x
    many_sound p q at below u x here from = to_follow q (λ few. by_follow.next_round p at (from.first below))
    many_sound p q at below u x (further is) from =
        only_sound p q (form.Many q) at (λ k. elim k [ ]) (has_first [] q) below (λ f. by_follow.last_round at f) u x is from

    part_sound : (p : ℕ) (n : Node) → slice_get g.nodes p ≡ Some n → (u x : ℕ) → IsIn u x (node_flows [] nullable keys (length g.nodes) p n) → Holds u → Holds x
    part_sound p (form.Leaf leaf) at u x is from = elim is [ ]
    part_sound p (form.Seq parts) at u x is from = seq_sound p parts at u x is from
    part_sound p (form.Choice parts) at u x is from = choice_sound p parts at u x is from
    part_sound p (form.Many q) at u x is from = many_sound p q at (follows_node p (form.Many q) at).0.1 u x is from
    part_sound p (form.Chain side used o s) at u x is from =
        let below = follows_node p (form.Chain side used o s) at in
        chain_sound p o s (form.Chain side used o s) at follow.chain (λ k. elim k [ ]) refl below.0.1 below.1.0.1 u x is refl from
    part_sound p (form.Rule r) at u x is from = elim (subst (IsIn u x) (no_use (length g.nodes) p r) is) [ ]
    part_sound p (form.Expression builders q) at u x is from =
        only_sound p q (form.Expression builders q) at (λ k. elim k [ ]) (has_first [] q) (follows_node p (form.Expression builders q) at).0.1
        (λ f. by_follow.last_term at f) u x is from
    part_sound p (form.Around around q) at u x is from = around_sound around p q at (follows_node p (form.Around around q) at).0.1 u x is from

    use_sound : (p : ℕ) (n : Node) → slice_get g.nodes p ≡ Some n → (u x : ℕ) → IsIn u x (use_flows (length g.nodes) (length g.rules) p n) → Holds u → Holds x
    use_sound p (form.Leaf leaf) at u x is from = elim is [ ]
    use_sound p (form.Seq parts) at u x is from = elim is [ ]
    use_sound p (form.Choice parts) at u x is from = elim is [ ]
    use_sound p (form.Many q) at u x is from = elim is [ ]
    use_sound p (form.Chain side used o s) at u x is from = elim is [ ]
    use_sound p (form.Rule r) at u x here from =
        let named : r < length g.rules = all-get (NamesRule (length g.rules)) g.nodes p (form.Rule r) grammar.named at in
        to_first p (slice_get_within g.nodes p (form.Rule r) at) (by_first.used at (from.first_claim r named (set_is (length g.nodes) (length g.rules) 0 r named)))
    use_sound p (form.Rule r) at u x (further here) from =
        to_behind r (λ few. by_follow.at_use at (from_follow p (slice_get_within g.nodes p (form.Rule r) at) from))
    use_sound p (form.Rule r) at u x (further (further none)) from = elim none [ ]
    use_sound p (form.Expression builders q) at u x is from = elim is [ ]
    use_sound p (form.Around around q) at u x is from = elim is [ ]

    pub node_sound : (p : ℕ) (n : Node) → slice_get g.nodes p ≡ Some n → (u x : ℕ) → IsIn u x (claim_flows nullable keys (length g.nodes) (length g.rules) p n)
        → Holds u → Holds x
    node_sound p n at u x is from =
        elim (in_cases u x (node_flows [] nullable keys (length g.nodes) p n) (use_flows (length g.nodes) (length g.rules) p n) is) [
          | inl part ↦ part_sound p n at u x part from
          | inr of_use ↦ use_sound p n at u x of_use from
        ]

    pub body_sound : (r : ℕ) (rule : Rule) → slice_get g.rules r ≡ Some rule → (u x : ℕ) → IsIn u x (body_flows (length g.nodes) (length g.rules) r rule)
        → Holds u → Holds x
    body_sound r rule at u x here from =
        let inside = slice_get_within g.rules r rule at in
        to_follow rule.body (λ few. by_follow.claimed r at (from.follow_claim r inside (set_is (length g.nodes) (length g.rules) 1 r inside)))
    body_sound r rule at u x (further none) from = elim none [ ]
