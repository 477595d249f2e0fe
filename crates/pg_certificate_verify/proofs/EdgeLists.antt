-- Edges in lists: the edges of parts, and of each of some things.
use Rattle.std.proofs.Common.{◌≡◌, ◌⊎◌, inl, inr, ℕ, zero, suc, ◌+◌, ◌<◌, Bool, true, false, cond, List, [], ◌∷◌, ◌++◌, Some, slice_get, get_or, length, drop, refl, sym, ap, subst, ◌∙◌, arith}
use Rattle.std.proofs.lemmas.List.{drop_more}
use Rattle.std.proofs.Math.Numerals.{add-one}
use Rattle.pg_graph.specs.Graphs.{has}
use Rattle.pg_graph.specs.Marks.{is_marked}
use Rattle.pg_graph.proofs.Lists.{has_first, has_after, has_cases}
use Rattle.pg_sets_nullable.specs.Parts.{up_to_unmarked}
use Rattle.pg_sets.specs.Flows.{Flow, follow_of, with_flows, flows_of_some, flows_of_next, flows_after_parts, flows_of_alternatives}
use Rattle.pg_sets.specs.Follow.{StandsBefore}
use Rattle.pg_sets.specs.Follow as follow
use Rattle.pg_sets.proofs.Flowing.{IsIn, here, further, in_left, in_right, in_cases, with_flows-append}
use Rattle.pg_certificate_verify.specs.Edges.{flows_of_each}

-- ---- of each of some things

pub record ToldOf {A : Type 0} (flows : ℕ → A → List Flow) (k : ℕ) (xs : List A) (u x : ℕ) : Type 0 where
  pub place : ℕ
  pub one : A
  pub there : slice_get xs place ≡ Some one
  pub told : IsIn u x (flows (k + place) one)

pub told_each : {A : Type 0} (flows : ℕ → A → List Flow) (k : ℕ) (xs : List A) (u x : ℕ) → IsIn u x (flows_of_each flows k xs) → ToldOf flows k xs u x
told_each flows k [] u x is = elim is [ ]
told_each flows k (y ∷ ys) u x is =
    elim (in_cases u x (flows k y) (flows_of_each flows (suc k) ys) is) [
      | inl own ↦
          let zeroth : k ≡ k + zero = omega arith in
          record { place = zero; one = y; there = refl; told = subst (λ q. IsIn u x (flows q y)) zeroth own }
      | inr later ↦
          let rest = told_each flows (suc k) ys u x later in
          let next : suc k + rest.place ≡ k + suc rest.place = omega arith in
          record { place = suc rest.place; one = rest.one; there = rest.there; told = subst (λ q. IsIn u x (flows q rest.one)) next rest.told }
    ]

pub in_each : {A : Type 0} (flows : ℕ → A → List Flow) (k : ℕ) (xs : List A) (i : ℕ) (one : A) (u x : ℕ) → slice_get xs i ≡ Some one → IsIn u x (flows (k + i) one)
    → IsIn u x (flows_of_each flows k xs)
in_each flows k [] zero one u x at is = absurd cc
in_each flows k [] (suc i) one u x at is = absurd cc
in_each {A} flows k (y ∷ ys) zero one u x at is =
    let same : ◌≡◌ {A = A} one y = cc in
    let zeroth : k + zero ≡ k = omega arith in
    in_left (flows_of_each flows (suc k) ys) (subst (λ q. IsIn u x (flows q y)) zeroth (subst (λ o. IsIn u x (flows (k + zero) o)) same is))
in_each flows k (y ∷ ys) (suc i) one u x at is =
    let next : k + suc i ≡ suc k + i = omega arith in
    in_right (flows k y) (in_each flows (suc k) ys i one u x at (subst (λ q. IsIn u x (flows q one)) next is))

-- ---- from the first of some nodes, one after another

pub some_is : (nullable : List Bool) (ps : List ℕ) (to u x : ℕ) → IsIn u x (flows_of_some nullable ps to) → (has (up_to_unmarked nullable ps) u ≡ true) × (to ≡ x)
some_is nullable [] to u x is = elim is [ ]
some_is nullable (q ∷ qs) to u x here = (has_first (cond (is_marked nullable q) (up_to_unmarked nullable qs) []) q, refl)
some_is nullable (q ∷ qs) to u x (further is) = go (is_marked nullable q) is (λ i. some_is nullable qs to u x i)
  where
    go : (b : Bool) → IsIn u x (cond b (flows_of_some nullable qs to) []) → (IsIn u x (flows_of_some nullable qs to) → (has (up_to_unmarked nullable qs) u ≡ true) × (to ≡ x))
        → (has (q ∷ cond b (up_to_unmarked nullable qs) []) u ≡ true) × (to ≡ x)
    go true i later = let rest = later i in (has_after (up_to_unmarked nullable qs) q u rest.0, rest.1)
    go false i later = elim i [ ]

pub in_some : (nullable : List Bool) (ps : List ℕ) (to u : ℕ) → has (up_to_unmarked nullable ps) u ≡ true → IsIn u to (flows_of_some nullable ps to)
in_some nullable [] to u h = cc
in_some nullable (q ∷ qs) to u h =
    elim (has_cases (cond (is_marked nullable q) (up_to_unmarked nullable qs) []) q u h) [
      | inl same ↦ subst (λ a. IsIn a to ((q, to) ∷ cond (is_marked nullable q) (flows_of_some nullable qs to) [])) same here
      | inr later ↦ further (go (is_marked nullable q) later (λ l. in_some nullable qs to u l))
    ]
  where
    go : (b : Bool) → has (cond b (up_to_unmarked nullable qs) []) u ≡ true → (has (up_to_unmarked nullable qs) u ≡ true → IsIn u to (flows_of_some nullable qs to))
        → IsIn u to (cond b (flows_of_some nullable qs to) [])
    go true later rest = rest later
    go false later rest = cc

-- ---- to what follows the parts of a sequence

module _ (nullable : List Bool) (count p : ℕ) where
  -- a part before these gives the edge from u to x
  pub data IsNext (q u x : ℕ) : List ℕ → Type 0 where
    last : follow_of count p ≡ u → follow_of count q ≡ x → IsNext q u x []
    next : {r : ℕ} {rest : List ℕ} → r ≡ u → follow_of count q ≡ x → IsNext q u x (r ∷ rest)
    over : {r : ℕ} {rest : List ℕ} → is_marked nullable r ≡ true → follow_of count r ≡ u → follow_of count q ≡ x → IsNext q u x (r ∷ rest)

  pub next_is : (q u x : ℕ) (rest : List ℕ) → IsIn u x (flows_of_next nullable count rest (follow_of count p) (follow_of count q)) → IsNext q u x rest
  next_is q u x [] here = last refl refl
  next_is q u x [] (further none) = elim none [ ]
  next_is q u x (r ∷ rest) here = next refl refl
  next_is q u x (r ∷ rest) (further is) = go (is_marked nullable r) refl is
    where
      go : {u x : ℕ} (b : Bool) → is_marked nullable r ≡ b → IsIn u x (cond b ((follow_of count r, follow_of count q) ∷ []) []) → IsNext q u x (r ∷ rest)
      go true e here = over e refl refl
      go true e (further none) = elim none [ ]
      go false e none = elim none [ ]

  pub record ToldAfter (parts : List ℕ) (u x : ℕ) : Type 0 where
    pub part : ℕ
    pub rest : List ℕ
    pub stands : StandsBefore part rest parts
    pub told : IsNext part u x rest

  pub after_is : (parts : List ℕ) (u x : ℕ) → IsIn u x (flows_after_parts nullable count p parts) → ToldAfter parts u x
  after_is [] u x is = elim is [ ]
  after_is (q ∷ qs) u x is =
      elim (in_cases u x (flows_of_next nullable count qs (follow_of count p) (follow_of count q)) (flows_after_parts nullable count p qs) is) [
        | inl own ↦ record { part = q; rest = qs; stands = follow.here; told = next_is q u x qs own }
        | inr later ↦ let after = after_is qs u x later in record { part = after.part; rest = after.rest; stands = follow.further after.stands; told = after.told }
      ]

  pub in_after : {q : ℕ} {rest parts : List ℕ} (u x : ℕ) → StandsBefore q rest parts → IsIn u x (flows_of_next nullable count rest (follow_of count p) (follow_of count q))
      → IsIn u x (flows_after_parts nullable count p parts)
  in_after {q} {rest} u x follow.here is = in_left (flows_after_parts nullable count p rest) is
  in_after u x (follow.further {first = r} {parts = ps} stands) is =
      in_right (flows_of_next nullable count ps (follow_of count p) (follow_of count r)) (in_after u x stands is)

  pub over_next : (q r : ℕ) (rest : List ℕ) → is_marked nullable r ≡ true
      → IsIn (follow_of count r) (follow_of count q) (flows_of_next nullable count (r ∷ rest) (follow_of count p) (follow_of count q))
  over_next q r rest null = further (subst (λ b. IsIn (follow_of count r) (follow_of count q) (cond b ((follow_of count r, follow_of count q) ∷ []) [])) (sym null) here)

-- ---- of alternatives

module _ (count p : ℕ) where
  pub record ToldOfOne (parts : List ℕ) (u x : ℕ) : Type 0 where
    pub part : ℕ
    pub among : has parts part ≡ true
    pub told : ((part ≡ u) × (p ≡ x)) ⊎ ((follow_of count p ≡ u) × (follow_of count part ≡ x))

  pub alternative_is : (parts : List ℕ) (u x : ℕ) → IsIn u x (flows_of_alternatives count p parts) → ToldOfOne parts u x
  alternative_is [] u x is = elim is [ ]
  alternative_is (q ∷ qs) u x here = record { part = q; among = has_first qs q; told = inl (refl, refl) }
  alternative_is (q ∷ qs) u x (further here) = record { part = q; among = has_first qs q; told = inr (refl, refl) }
  alternative_is (q ∷ qs) u x (further (further is)) =
      let rest = alternative_is qs u x is in record { part = rest.part; among = has_after qs q rest.part rest.among; told = rest.told }

  pub alternative_first : (parts : List ℕ) (q : ℕ) → has parts q ≡ true → IsIn q p (flows_of_alternatives count p parts)
  alternative_first [] q h = cc
  alternative_first (r ∷ rs) q h =
      elim (has_cases rs r q h) [
        | inl same ↦ subst (λ a. IsIn a p (flows_of_alternatives count p (r ∷ rs))) same here
        | inr later ↦ further (further (alternative_first rs q later))
      ]

  pub alternative_follow : (parts : List ℕ) (q : ℕ) → has parts q ≡ true → IsIn (follow_of count p) (follow_of count q) (flows_of_alternatives count p parts)
  alternative_follow [] q h = cc
  alternative_follow (r ∷ rs) q h =
      elim (has_cases rs r q h) [
        | inl same ↦ subst (λ a. IsIn (follow_of count p) (follow_of count a) (flows_of_alternatives count p (r ∷ rs))) same (further here)
        | inr later ↦ further (further (alternative_follow rs q later))
      ]

-- ---- edges that are added

pub both_joined : (graph between after : List (List ℕ)) (flows others : List Flow) → between ≡ with_flows graph flows → after ≡ with_flows between others
    → after ≡ with_flows graph (flows ++ others)
both_joined graph between after flows others first second =
    second ∙ (ap (λ gr. with_flows gr others) first ∙ sym (with_flows-append graph flows others))

-- those of one thing more
pub each_step : {A : Type 0} (flows : ℕ → A → List Flow) (graph new total : List (List ℕ)) (k : ℕ) (xs : List A) (x : A) → k < length xs → x ≡ get_or xs k x
    → new ≡ with_flows graph (flows k x) → with_flows graph (flows_of_each flows k (drop k xs)) ≡ total
    → with_flows new (flows_of_each flows (k + 1) (drop (k + 1) xs)) ≡ total
each_step flows graph new total k xs x inside is added known =
    let rest : drop k xs ≡ x ∷ drop (k + 1) xs = drop_more xs k x inside ∙ ap (λ y. y ∷ drop (k + 1) xs) (sym is) in
    ap (λ n. with_flows new (flows_of_each flows n (drop (k + 1) xs))) (add-one k)
    ∙ (ap (λ gr. with_flows gr (flows_of_each flows (suc k) (drop (k + 1) xs))) added
    ∙ (sym (with_flows-append graph (flows k x) (flows_of_each flows (suc k) (drop (k + 1) xs)))
    ∙ (ap (λ ys. with_flows graph (flows_of_each flows k ys)) (sym rest) ∙ known)))
