-- Sets of claims that are closed cover the sets of the grammar.
use Rattle.std.proofs.Common.{◌≡◌, inl, inr, ℕ, Bool, true, if◌then◌else◌, List, [], Some, slice_get, refl, sym, subst}
use Rattle.pg_certificate.specs.declared.certificate.RuleClaim.{RuleClaim}
use Rattle.pg_grammar_form.specs.Forms.{Node}
use Rattle.pg_grammar_form.specs.declared.form.Form.TheVariants as form
use Rattle.pg_graph.specs.Graphs.{has}
use Rattle.pg_graph.specs.Marks.{is_marked}
use Rattle.pg_graph.proofs.Lists.{has_first, has_after, has_at}
use Rattle.pg_sets_nullable.specs.Nullable.{Nullable, AllNullable}
use Rattle.pg_sets_nullable.specs.Nullable as nullable_of
use Rattle.pg_sets_nullable.specs.Parts.{up_to_unmarked, reached_parts}
use Rattle.pg_sets_nullable.specs.Reached as reached_by
use Rattle.pg_sets_nullable.specs.Reached.{ReachedIn, ReachedPart}
use Rattle.pg_sets_nullable.proofs.Heading.{again_left}
use Rattle.pg_sets_own.specs.declared.listed.ListedStart.{ListedStart}
use Rattle.pg_sets.specs.First as first_by
use Rattle.pg_sets.specs.First.{IsFirst, IsFirstOf}
use Rattle.pg_sets.specs.Follow as follow_by
use Rattle.pg_sets.specs.Follow.{StandsBefore, IsFollow}
use Rattle.pg_sets.proofs.InOrder.{own_numbered, operator_numbered}
use Rattle.pg_sets.proofs.Placing.{stands_next}
use Rattle.pg_start.specs.declared.kind.StartKind.{StartKind}
use Rattle.pg_start.specs.declared.kind.StartKind.TheVariants.{Class, Key, Word, End}
use Rattle.pg_grammar_value.specs.Grammar.{Grammar}
use Rattle.pg_grammar_value.specs.declared.grammar.Rule.{Rule}
use Rattle.pg_certificate_verify.specs.Closed.{IsFirstClosed, IsFollowClosed}
use Rattle.pg_certificate_verify.specs.Covering.{IsWiderClass, CoversStart}
use Rattle.pg_certificate_verify.specs.Enough.{CoversKind, HasCovering}
use Rattle.pg_certificate_verify.specs.First as by_first
use Rattle.pg_certificate_verify.specs.First.{IsFirstBy}
use Rattle.pg_certificate_verify.specs.Follow as by_follow
use Rattle.pg_certificate_verify.specs.Follow.{IsFollowBy, IsBehind}

-- ---- covering

wider_still : (one other start : StartKind) → IsWiderClass one other → IsWiderClass other start → IsWiderClass one start
wider_still (Class a) (Class b) (Class c) first second = λ x scalar member. first x scalar (second x scalar member)
wider_still (Class a) (Class b) (Key text excluded) first second = elim second [ ]
wider_still (Class a) (Class b) (Word heads rest reserved) first second = elim second [ ]
wider_still (Class a) (Class b) End first second = elim second [ ]
wider_still (Class a) (Key text excluded) start first second = elim first [ ]
wider_still (Class a) (Word heads rest reserved) start first second = elim first [ ]
wider_still (Class a) End start first second = elim first [ ]
wider_still (Key text excluded) other start first second = elim first [ ]
wider_still (Word heads rest reserved) other start first second = elim first [ ]
wider_still End other start first second = elim first [ ]

covers_still : (one listed : ListedStart) (start : StartKind) → CoversStart one listed → CoversKind listed.start start → CoversKind one.start start
covers_still one listed start (inl wider) (inl second) = inl (wider_still one.start listed.start start wider second)
covers_still one listed start (inl wider) (inr same) = inl (subst (IsWiderClass one.start) same wider)
covers_still one listed start (inr same) second = subst (λ x. CoversKind x.start start) (sym same) second

module _ (g : Grammar) (claims : List RuleClaim) (marks : List Bool) (on : (p : ℕ) → Nullable g p → is_marked marks p ≡ true)
    (first_closed : (r : ℕ) (rule : Rule) → slice_get g.rules r ≡ Some rule → IsFirstClosed g claims marks r rule)
    (follow_closed : (r : ℕ) (rule : Rule) → slice_get g.rules r ≡ Some rule → IsFollowClosed g claims marks r) where
  abbrev Follow : StartKind → ℕ → Type 0
  Follow start p = HasCovering (λ listed. IsFollowBy g claims marks listed p) start

  -- ---- parts that are reached

  reached_in : {ps : List ℕ} {q : ℕ} → ReachedIn g ps q → has (up_to_unmarked marks ps) q ≡ true
  reached_in (reached_by.first {part} {parts}) = has_first (if is_marked marks part then up_to_unmarked marks parts else []) part
  reached_in (reached_by.later {part} {reached} {parts} nullable is) =
      has_after (if is_marked marks part then up_to_unmarked marks parts else []) part reached
      (subst (λ b. has (if b then up_to_unmarked marks parts else []) reached ≡ true) (sym (on part nullable)) (reached_in is))

  reached_has : {n : Node} {q : ℕ} → ReachedPart g n q → has (reached_parts marks n) q ≡ true
  reached_has (reached_by.seq r) = reached_in r
  reached_has (reached_by.choice {parts} k {part} at) = has_at parts k part at
  reached_has (reached_by.chain r) = reached_in (again_left r)
  reached_has (reached_by.many {part}) = has_first [] part
  reached_has (reached_by.expression {term = term}) = has_first [] term
  reached_has (reached_by.around {part = part}) = has_first [] part

  -- the first of some nodes are those of the ones that are reached
  first_of : {start : StartKind} {parts : List ℕ} → IsFirstOf g start parts → (q : ℕ) × (has (up_to_unmarked marks parts) q ≡ true) × IsFirst g start q
  first_of (first_by.here {part} {parts} is) = (part, has_first (if is_marked marks part then up_to_unmarked marks parts else []) part, is)
  first_of (first_by.after {part} {parts} null later) =
      let rest = first_of later in (
        rest.0,
        has_after (if is_marked marks part then up_to_unmarked marks parts else []) part rest.0
            (subst (λ b. has (if b then up_to_unmarked marks parts else []) rest.0 ≡ true) (sym (on part null)) rest.1),
        rest.2,
      )

  -- ---- first sets

  pub first_covered : {start : StartKind} {p : ℕ} → IsFirst g start p → HasCovering (λ listed. IsFirstBy g claims marks listed p) start
  first_covered {start} (first_by.own at owns) =
      let named = own_numbered owns in
      (record { start = start; word = named.0 }, by_first.own at (record { own = owns; named = named.1 }), inr refl)
  first_covered (first_by.part at plain reached is) = let inner = first_covered is in (inner.0, by_first.part at plain (reached_has reached) inner.1, inner.2)
  first_covered {start} (first_by.rule {r = r} {named} at there is) =
      let inner = first_covered is in
      let covering = first_closed r named there inner.0 inner.1 in
      (covering.0, by_first.used at covering.1, covers_still covering.0 inner.0 start covering.2 inner.2)

  -- ---- follow sets

  behind_claimed : (start : StartKind) (r : ℕ) (named : Rule) → slice_get g.rules r ≡ Some named → (listed : ListedStart) → IsBehind g claims marks listed r → CoversKind listed.start start
      → Follow start named.body
  behind_claimed start r named at listed behind covers =
      let covering = follow_closed r named at listed behind in
      (covering.0, by_follow.claimed r at covering.1, covers_still covering.0 listed start covering.2 covers)

  next_covered : {start : StartKind} {q : ℕ} {rest parts : List ℕ} (p : ℕ) → slice_get g.nodes p ≡ Some (form.Seq parts) → StandsBefore q rest parts → IsFirstOf g start rest → Follow start q
  next_covered p at stands (first_by.here is) = let inner = first_covered is in (inner.0, by_follow.next p at stands inner.1, inner.2)
  next_covered p at stands (first_by.after {part = r} null later) =
      let inner = next_covered p at (stands_next stands) later in (inner.0, by_follow.over p at stands (on r null) inner.1, inner.2)

  last_covered : (start : StartKind) {q : ℕ} {rest parts : List ℕ} (p : ℕ) → slice_get g.nodes p ≡ Some (form.Seq parts) → StandsBefore q rest parts → AllNullable g rest → Follow start p → Follow start q
  last_covered start p at stands nullable_of.none inner = (inner.0, by_follow.last at stands inner.1, inner.2)
  last_covered start p at stands (nullable_of.first {part = r} null all) inner =
      let later = last_covered start p at (stands_next stands) all inner in (later.0, by_follow.over p at stands (on r null) later.1, later.2)

  pub follow_covered : {start : StartKind} {p : ℕ} → IsFollow g start p → HasCovering (λ listed. IsFollowBy g claims marks listed p) start
  follow_covered (follow_by.at_end {named} at) = behind_claimed End g.start named at (record { start = End; word = 0 }) (by_follow.at_end refl refl) (inr refl)
  follow_covered {start} (follow_by.used {r = r} {named} at there is) =
      let inner = follow_covered is in behind_claimed start r named there inner.0 (by_follow.at_use at inner.1) inner.2
  follow_covered (follow_by.next p at stands is) = next_covered p at stands is
  follow_covered {start} (follow_by.last {p = p} at stands all is) = last_covered start p at stands all (follow_covered is)
  follow_covered (follow_by.alternative {p = p} {q = q} {parts = parts} k at e is) =
      let inner = follow_covered is in (inner.0, by_follow.alternative at (has_at parts k q e) inner.1, inner.2)
  follow_covered (follow_by.next_round p at is) = let inner = first_covered is in (inner.0, by_follow.next_round p at inner.1, inner.2)
  follow_covered (follow_by.last_round at is) = let inner = follow_covered is in (inner.0, by_follow.last_round at inner.1, inner.2)
  follow_covered (follow_by.next_link p at joins is) =
      let found = first_of is in
      let inner = first_covered found.2 in
      (inner.0, by_follow.next_link p at joins found.1 inner.1, inner.2)
  follow_covered (follow_by.last_link at joins is) = let inner = follow_covered is in (inner.0, by_follow.last_link at joins inner.1, inner.2)
  follow_covered (follow_by.operand p at joins is) = let inner = first_covered is in (inner.0, by_follow.operand p at joins inner.1, inner.2)
  follow_covered (follow_by.over_operand p {o = o} at joins null (first_by.here is)) = let inner = first_covered is in (inner.0, by_follow.over_operand p at joins (on o null) inner.1, inner.2)
  follow_covered (follow_by.over_operand p at joins null (first_by.after other (first_by.here is))) = let inner = first_covered is in (inner.0, by_follow.operand p at joins inner.1, inner.2)
  follow_covered (follow_by.over_operand p at joins null (first_by.after other (first_by.after again none))) = elim none [ ]
  follow_covered (follow_by.last_operand {o = o} at joins null is) = let inner = follow_covered is in (inner.0, by_follow.last_operand at joins (on o null) inner.1, inner.2)
  follow_covered {start} (follow_by.operator p at is) =
      let named = operator_numbered is in
      (record { start = start; word = named.0 }, by_follow.operator p at is named.1, inr refl)
  follow_covered (follow_by.last_term at is) = let inner = follow_covered is in (inner.0, by_follow.last_term at inner.1, inner.2)
  follow_covered (follow_by.only at has_only is) = let inner = follow_covered is in (inner.0, by_follow.only at has_only inner.1, inner.2)
