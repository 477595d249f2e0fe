-- Whatever is wrong with a grammar is wrong by the claims of a certificate that hold.
use Rattle.std.proofs.Common.{◌≡◌, ◌<◌, ◌≤◌, inl, inr, ℕ, List, Bool, true, length, refl, sym, ap, ◌∙◌, subst, arith}
use Rattle.std.proofs.lemmas.Option.{slice_get_within, same_Some}
use Rattle.pg_graph_bits.specs.Numbers.{set_at}
use Rattle.pg_certificate.specs.declared.certificate.RuleClaim.{RuleClaim}
use Rattle.pg_predict_costs.specs.Steps.{cut_off}
use Rattle.pg_graph.specs.Marks.{is_marked}
use Rattle.pg_sets_nullable.specs.Nullable.{Nullable}
use Rattle.pg_sets_nullable.specs.Ranks.{Chain}
use Rattle.pg_sets_nullable.specs.Ranks as ranks
use Rattle.pg_sets_own.proofs.Owned.{one_operator}
use Rattle.pg_sets_own.proofs.Reading.{one_class}
use Rattle.pg_sets_own.specs.Listed.{IsListed}
use Rattle.pg_sets_own.specs.OperatorStarts.{IsGapStart}
use Rattle.pg_sets_own.specs.OperatorStarts as gaps
use Rattle.pg_sets_own.specs.OwnStarts.{IsOperatorStart, IsClassOf}
use Rattle.pg_sets_own.specs.declared.listed.ListedStart.{ListedStart}
use Rattle.pg_grammar_form.specs.declared.operators_item.OperatorsItem.{OperatorsItem}
use Rattle.pg_predict.specs.Conditions.{AreFirstToMeet, NoneMeet, IsFirstToMeetGap, BeginsNothing, BeginsLink, EndsNullable, HasStepCost, NodeFacts, IsFaultless, cost_limit, claimed_facts, least_facts}
use Rattle.pg_predict.specs.Conditions as wrong
use Rattle.pg_sets.specs.First.{IsFirst}
use Rattle.pg_sets.specs.First as first_by
use Rattle.pg_sets.specs.Follow.{IsFollow}
use Rattle.pg_sets.specs.Sets.{HasStart}
use Rattle.pg_start.specs.Apart.{Apart}
use Rattle.pg_start.specs.declared.kind.StartKind.{StartKind}
use Rattle.pg_start.specs.declared.kind.StartKind.TheVariants.{Class}
use Rattle.pg_grammar_value.specs.Grammar.{Grammar, IsGrammar}
use Rattle.pg_certificate_verify.proofs.Costly.{costs_enough}
use Rattle.pg_certificate_verify.proofs.Dearer.{dearer}
use Rattle.pg_certificate_verify.proofs.Enough.{nullable_enough, ranks_fall, no_cycle}
use Rattle.pg_certificate_verify.proofs.SetsEnough.{first_covered, follow_covered}
use Rattle.pg_certificate_verify.specs.Enough.{CoversKind}
use Rattle.pg_certificate_verify.specs.Refuted.{IsVerified, judged_sets}
use Rattle.pg_certificate_verify.specs.NodeSets.{HasListed}
use Rattle.pg_certificate_verify.specs.declared.verify_fault.Condition.TheVariants as claim
use Rattle.pg_derive.proofs.Least.{decided_true}
use Rattle.pg_derive.proofs.Meetings.{IsListable, apart_all}
use Rattle.pg_certificate_laws.proofs.Listable.{set_listable, either_listable}
use Rattle.pg_certificate_laws.proofs.Narrower.{IsSpelled, narrower_apart}
use Rattle.pg_certificate_laws.proofs.OneMeeting.{apart_from}
use Rattle.pg_certificate_laws.proofs.Spelled.{SpellsCharacters, strings_spelled, first_spelled, follow_spelled, operator_spelled, gap_spelled}

-- ---- kinds that are covered by others

-- a start of this kind covers the start
pub record HasWide (More : StartKind → Type 0) (start : StartKind) : Type 0 where
  pub one : StartKind
  pub is : More one
  pub covers : CoversKind one start

-- each start of the first kind is covered by one of the second, and spelled
pub record AreCovered (Least More : StartKind → Type 0) : Type 0 where
  pub wide : (start : StartKind) → Least start → HasWide More start
  pub spelled : (start : StartKind) → Least start → IsSpelled start

-- if the covering starts are apart, no covered ones meet
pub none_meet : (g : Grammar) {One Other OneBy OtherBy : StartKind → Type 0} → AreCovered One OneBy → AreCovered Other OtherBy
    → ((s t : StartKind) → OneBy s → OtherBy t → Apart s t) → NoneMeet g One Other
none_meet g ones others apart s t meet =
    let s_wide = ones.wide s.start meet.one in
    let t_wide = others.wide t.start meet.other in
    meet.together (
    narrower_apart s_wide.one t_wide.one s.start t.start s_wide.covers t_wide.covers (ones.spelled s.start meet.one) (others.spelled t.start meet.other)
    (apart s_wide.one t_wide.one s_wide.is t_wide.is)
    )

-- if the covering starts are apart from the only start of a kind, no covered one meets it
pub none_meet_one : (g : Grammar) {One OneBy Other : StartKind → Type 0} → AreCovered One OneBy → ((start : StartKind) → Other start → IsSpelled start)
    → ((t : ListedStart) → IsListed g t → Other t.start → (s : StartKind) → OneBy s → Apart s t.start) → NoneMeet g One Other
none_meet_one g ones spelled apart s t meet =
    let s_wide = ones.wide s.start meet.one in
    meet.together (
    narrower_apart s_wide.one t.start s.start t.start s_wide.covers (inr refl) (ones.spelled s.start meet.one) (spelled t.start meet.other)
    (apart t meet.other_listed meet.other s_wide.one s_wide.is)
    )

one_gap : {g : Grammar} (s t : StartKind) → IsGapStart g s → IsGapStart g t → s ≡ t
one_gap {g} s t (gaps.gap {item} at is) (gaps.gap {item = other} {class = class} there also) =
    let same : other ≡ item = same_Some other item (sym there ∙ at) in
    ap Class (one_class is (subst (λ (i : OperatorsItem). IsClassOf g i.gap class) same also))

module _ (g : Grammar) (bytes : List ℕ) (grammar : IsGrammar g) (shown : IsVerified g bytes) where
  spells : SpellsCharacters g
  spells = strings_spelled g grammar

  claims : List RuleClaim
  claims = shown.hold.certificate

  abbrev Asked : NodeFacts
  Asked = claimed_facts (judged_sets shown.said shown.sets) shown.cost

  on : (p : ℕ) → Nullable g p → is_marked shown.said.nullable p ≡ true
  on = nullable_enough g shown.hold.certificate shown.said.nullable shown.hold.said_so.nullable (λ r rule at. shown.hold.hold r rule at claim.Nullable)

  -- ---- starts

  has_start : (set : List Bool) (listed : ListedStart) → HasListed shown.sets.starts set listed → HasStart shown.sets.starts set listed.start
  has_start set listed h = record { number = h.number; listed = listed; member = h.member; there = h.there; same = refl }

  first_inside : {start : StartKind} {p : ℕ} → IsFirst g start p → p < length g.nodes
  first_inside (first_by.own {p} {n} at owns) = slice_get_within g.nodes p n at
  first_inside (first_by.part {p} {n = n} at plain reached is) = slice_get_within g.nodes p n at
  first_inside (first_by.rule {p} at there is) = slice_get_within g.nodes p _ at

  firsts : (p : ℕ) → AreCovered (λ start. IsFirst g start p) (Asked.first p)
  firsts p = record { wide = wide; spelled = λ start is. first_spelled g spells is }
    where
      wide : (start : StartKind) → IsFirst g start p → HasWide (Asked.first p) start
      wide start is =
          let covering = first_covered g shown.hold.certificate shown.said.nullable on (λ r rule at. shown.hold.hold r rule at claim.First) (λ r rule at. shown.hold.hold r rule at claim.Follow) is in
          record {
            one = covering.0.start;
            is = has_start (set_at shown.sets.firsts p) covering.0 ((shown.hold.are_sets.first p covering.0 (first_inside is)).1 covering.1);
            covers = covering.2;
          }

  follows : (p : ℕ) → p < length g.nodes → AreCovered (λ start. IsFollow g start p) (Asked.follow p)
  follows p inside = record { wide = wide; spelled = λ start is. follow_spelled g spells is }
    where
      wide : (start : StartKind) → IsFollow g start p → HasWide (Asked.follow p) start
      wide start is =
          let covering = follow_covered g shown.hold.certificate shown.said.nullable on (λ r rule at. shown.hold.hold r rule at claim.First) (λ r rule at. shown.hold.hold r rule at claim.Follow) is in
          record {
            one = covering.0.start;
            is = has_start (set_at shown.sets.follows p) covering.0 ((shown.hold.are_sets.follow p covering.0 inside).1 covering.1);
            covers = covering.2;
          }

  links : (operand separator : ℕ) → AreCovered (BeginsLink (least_facts g) operand separator) (BeginsLink Asked operand separator)
  links operand separator = record { wide = wide; spelled = spelled }
    where
      wide : (start : StartKind) → BeginsLink (least_facts g) operand separator start → HasWide (BeginsLink Asked operand separator) start
      wide start (inl is) = let found = (firsts separator).wide start is in record { one = found.one; is = inl found.is; covers = found.covers }
      wide start (inr is) = let found = (firsts operand).wide start is.1 in record { one = found.one; is = inr (on separator is.0, found.is); covers = found.covers }

      spelled : (start : StartKind) → BeginsLink (least_facts g) operand separator start → IsSpelled start
      spelled start (inl is) = first_spelled g spells is
      spelled start (inr is) = first_spelled g spells is.1

  nothing : AreCovered BeginsNothing BeginsNothing
  nothing = record { wide = λ start h. absurd h; spelled = λ start h. absurd h }

  -- ---- meetings

  listable : (set : List Bool) → IsListable shown.sets.starts (HasStart shown.sets.starts set)
  listable = set_listable g shown.sets.starts shown.hold.are_sets.ordered shown.hold.are_sets.named

  links_listable : (operand separator : ℕ) → IsListable shown.sets.starts (BeginsLink Asked operand separator)
  links_listable operand separator =
      either_listable g shown.sets.starts shown.hold.are_sets.ordered shown.hold.are_sets.named (set_at shown.sets.firsts separator) (set_at shown.sets.firsts operand)
      (is_marked shown.said.nullable separator ≡ true) (decided_true (is_marked shown.said.nullable separator))

  nothing_listable : IsListable shown.sets.starts BeginsNothing
  nothing_listable = record { decide = λ k x e. inr (λ h. h); stands = λ s h. absurd h }

  no_meeting : (One Other OneBy OtherBy : StartKind → Type 0) → AreCovered One OneBy → AreCovered Other OtherBy → IsListable shown.sets.starts OneBy → IsListable shown.sets.starts OtherBy
      → ((x y : ListedStart) → AreFirstToMeet g OneBy OtherBy x y → ⊥) → NoneMeet g One Other
  no_meeting One Other OneBy OtherBy ones others listed others_listed none =
      none_meet g ones others (apart_all g shown.sets.starts shown.hold.are_sets.ordered shown.hold.are_sets.named OneBy OtherBy listed others_listed none)

  -- with the one start of operators, or of gaps
  no_meeting_one : (One OneBy Other : StartKind → Type 0) → AreCovered One OneBy → IsListable shown.sets.starts OneBy → ((s t : StartKind) → Other s → Other t → s ≡ t)
      → ((start : StartKind) → Other start → IsSpelled start) → ((x y : ListedStart) → AreFirstToMeet g OneBy Other x y → ⊥) → NoneMeet g One Other
  no_meeting_one One OneBy Other ones listed once spelled none =
      none_meet_one g ones spelled
      (λ t t_listed other s h. apart_from g shown.sets.starts shown.hold.are_sets.ordered shown.hold.are_sets.named OneBy Other listed once t t_listed other none s h)

  -- a start covered by starts that don't meet the gap doesn't meet it
  no_gap_meeting : (One OneBy : StartKind → Type 0) → AreCovered One OneBy → IsListable shown.sets.starts OneBy → ((x y : ListedStart) → AreFirstToMeet g OneBy (IsGapStart g) x y → ⊥)
      → NoneMeet g One (IsGapStart g)
  no_gap_meeting One OneBy ones listed none = no_meeting_one One OneBy (IsGapStart g) ones listed one_gap (λ start is. gap_spelled is) none

  itself : (Kind : StartKind → Type 0) → ((start : StartKind) → Kind start → IsSpelled start) → AreCovered Kind Kind
  itself Kind spelled = record { wide = λ start is. record { one = start; is = is; covers = inr refl }; spelled = spelled }

  no_operator_meeting : (One OneBy : StartKind → Type 0) → AreCovered One OneBy → IsListable shown.sets.starts OneBy → ((x y : ListedStart) → AreFirstToMeet g OneBy (IsOperatorStart g) x y → ⊥)
      → NoneMeet g One (IsOperatorStart g)
  no_operator_meeting One OneBy ones listed none = no_meeting_one One OneBy (IsOperatorStart g) ones listed (λ s t is also. one_operator is also) (λ start is. operator_spelled is) none

  no_gap : (Term TermBy After AfterBy : StartKind → Type 0) → AreCovered Term TermBy → AreCovered After AfterBy → IsListable shown.sets.starts TermBy → IsListable shown.sets.starts AfterBy
      → ((x : ListedStart) → IsFirstToMeetGap g TermBy AfterBy x → ⊥) → (s : ListedStart) → IsFirstToMeetGap g Term After s → ⊥
  no_gap Term TermBy After AfterBy terms afters terms_listed afters_listed none s (wrong.operator meets) = none s (wrong.operator meets)
  no_gap Term TermBy After AfterBy terms afters terms_listed afters_listed none s (wrong.term {t} apart meets) =
      no_gap_meeting Term TermBy terms terms_listed (λ x y first. none x (wrong.term apart first)) s t meets.meet
  no_gap Term TermBy After AfterBy terms afters terms_listed afters_listed none s (wrong.after {t} apart terms_apart meets) =
      no_gap_meeting After AfterBy afters afters_listed (λ x y first. none x (wrong.after apart by_claims first)) s t meets.meet
    where
      by_claims : NoneMeet g TermBy (IsGapStart g)
      by_claims x y meet =
          meet.together
          (apart_from g shown.sets.starts shown.hold.are_sets.ordered shown.hold.are_sets.named TermBy (IsGapStart g) terms_listed one_gap y meet.other_listed meet.other
          (λ v w first. none v (wrong.term apart first)) x.start meet.one)

  -- ---- heads and the step cost

  no_chain : (r : ℕ) → Chain g r r → ⊥
  no_chain r chain =
      no_cycle shown.hold.certificate
      (ranks_fall g shown.hold.certificate shown.said.nullable shown.said.ranks shown.hold.said_so.nullable (λ r rule at. shown.hold.hold r rule at claim.Nullable) shown.hold.said_so.ranks
      (λ r rule at. shown.hold.hold r rule at claim.Rank))
      (ranks.on_cycle chain)

  no_less : (k : ℕ) → HasStepCost g k → cut_off k ≤ shown.cost
  no_less k has =
      dearer g has.cost.costs shown.said.costs shown.cost k
      (costs_enough g shown.hold.certificate shown.said.nullable shown.said.costs shown.hold.said_so.nullable (λ r rule at. shown.hold.hold r rule at claim.Nullable) shown.hold.said_so.costs
      (λ r rule at. shown.hold.hold r rule at claim.Cost) has.marks has.nullable has.cost.costs has.cost.are_costs)
      shown.is_cost has.cost.sizes has.cost.are_sizes has.cost.is

  over : (k cost : ℕ) → cut_off k ≤ cost → cost_limit < k → cost_limit < cost
  over k cost less above = omega arith

  -- ---- conditions

  ends : (parts : List ℕ) → EndsNullable (least_facts g) parts → EndsNullable Asked parts
  ends parts h = record { before = h.before; last = h.last; is_last = h.is_last; there = h.there; nullable = on h.last h.nullable }

  pub accepted : IsFaultless g
  accepted p kind (wrong.left_recursion {r} at chain) = no_chain r chain
  accepted p kind (wrong.empty_round {q = q} at null) = shown.faultless p _ (wrong.empty_round at (on q null))
  accepted p kind (wrong.empty_link {operand = operand} {separator} at is null empty) = shown.faultless p _ (wrong.empty_link at is (on separator null) (on operand empty))
  accepted p kind (wrong.empty_alternative {q = q} at part before null) = shown.faultless p _ (wrong.empty_alternative at part before (on q null))
  accepted p kind (wrong.alternatives_meet {q = q} {r} {s = s} {t} at before one other meets) =
      no_meeting (λ start. IsFirst g start q) (λ start. IsFirst g start r) (Asked.first q) (Asked.first r) (firsts q) (firsts r) (listable (set_at shown.sets.firsts q)) (listable (set_at shown.sets.firsts r))
      (λ x y first. shown.faultless p _ (wrong.alternatives_meet at before one other first)) s t meets.meet
  accepted p kind (wrong.alternative_meets_follow {q = q} {parts} {s} {t} at part before empty meets) =
      no_meeting (λ start. IsFirst g start q) (λ start. IsFollow g start p) (Asked.first q) (Asked.follow p) (firsts q) (follows p (slice_get_within g.nodes p _ at))
      (listable (set_at shown.sets.firsts q)) (listable (set_at shown.sets.follows p))
      (λ x y first. shown.faultless p _ (wrong.alternative_meets_follow at part before (ends parts empty) first)) s t meets.meet
  accepted p kind (wrong.round_meets_follow {q = q} {s} {t} at meets) =
      no_meeting (λ start. IsFirst g start q) (λ start. IsFollow g start p) (Asked.first q) (Asked.follow p) (firsts q) (follows p (slice_get_within g.nodes p _ at))
      (listable (set_at shown.sets.firsts q)) (listable (set_at shown.sets.follows p)) (λ x y first. shown.faultless p _ (wrong.round_meets_follow at first)) s t meets.meet
  accepted p kind (wrong.link_meets_follow {operand = operand} {separator} {s = s} {t} at is meets) =
      no_meeting (BeginsLink (least_facts g) operand separator) (λ start. IsFollow g start p) (BeginsLink Asked operand separator) (Asked.follow p) (links operand separator)
      (follows p (slice_get_within g.nodes p _ at)) (links_listable operand separator) (listable (set_at shown.sets.follows p))
      (λ x y first. shown.faultless p _ (wrong.link_meets_follow at is first)) s t meets.meet
  accepted p kind (wrong.empty_operand {term = term} at null) = shown.faultless p _ (wrong.empty_operand at (on term null))
  accepted p kind (wrong.operand_meets_operators {term = term} {s = s} {t} at meets) =
      no_operator_meeting (λ start. IsFirst g start term) (Asked.first term) (firsts term) (listable (set_at shown.sets.firsts term))
      (λ x y first. shown.faultless p _ (wrong.operand_meets_operators at first)) s t meets.meet
  accepted p kind (wrong.follow_meets_operators {s = s} {t} at meets) =
      no_operator_meeting (λ start. IsFollow g start p) (Asked.follow p) (follows p (slice_get_within g.nodes p _ at)) (listable (set_at shown.sets.follows p))
      (λ x y first. shown.faultless p _ (wrong.follow_meets_operators at first)) s t meets.meet
  accepted p kind (wrong.expression_gap_meets {term = term} {s = s} at meets) =
      no_gap (λ start. IsFirst g start term) (Asked.first term) (λ start. IsFollow g start p) (Asked.follow p) (firsts term) (follows p (slice_get_within g.nodes p _ at))
      (listable (set_at shown.sets.firsts term)) (listable (set_at shown.sets.follows p)) (λ x first. shown.faultless p _ (wrong.expression_gap_meets at first)) s meets
  accepted p kind (wrong.gap_meets {s = s} at meets) =
      no_gap BeginsNothing BeginsNothing (λ start. IsFollow g start p) (Asked.follow p) nothing (follows p (slice_get_within g.nodes p _ at)) nothing_listable
      (listable (set_at shown.sets.follows p)) (λ x first. shown.faultless p _ (wrong.gap_meets at first)) s meets
  accepted p kind (wrong.step_cost_over {k = k} at has above) = shown.faultless p _ (wrong.step_cost_over at refl (over k shown.cost (no_less k has) above))
