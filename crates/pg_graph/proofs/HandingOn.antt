-- What handing a set on along one edge more does.
use Rattle.std.proofs.Common.{◌≡◌, ◌≢◌, ℕ, ◌+◌, ◌<◌, ◌≤◌, Bool, true, false, not, cond, ◌||◌, ◌⊎◌, inl, inr, List, [], ◌∷◌, ◌++◌, length, count_by, slice_set, refl, sym, ap, subst, ◌∙◌, arith, length-set}
use Rattle.std.specs.List.{sum_by}
use Rattle.std.proofs.lemmas.Bool.{cases_eq, cases_Bool, true≢false, or_cases, or_left, or_right, eq-eqb, eqb-true}
use Rattle.std.proofs.lemmas.List.{get_or-set_same, get_or-set_other}
use Rattle.std.proofs.lemmas.List.Sums.{sum_by-set}
use Rattle.std.specs.Prelude.{◌==◌}
use Rattle.pg_graph_bits.specs.Numbers.{contains, set_at, Adds}
use Rattle.pg_graph.specs.Graphs.{has}
use Rattle.pg_graph.specs.Marks.{is_marked}
use Rattle.pg_graph.specs.Spread.{IsHandedOn}
use Rattle.pg_graph.proofs.Growing.{lacks_no_more, lacks_fewer}
use Rattle.pg_graph.proofs.Lists.{has_push}

-- along an edge to nowhere
pub hands_past : (edges : List ℕ) (from to : ℕ) (sets : List (List Bool)) (waits : List Bool) (new : List (List Bool)) (marks : List Bool)
    → IsHandedOn edges from sets waits new marks → length new ≤ to → IsHandedOn (edges ++ to ∷ []) from sets waits new marks
hands_past edges from to sets waits new marks handed past = record {
  long = handed.long;
  marks = handed.marks;
  limit = handed.limit;
  kept = handed.kept;
  given = λ v k h below has_it.
      elim (or_cases (has edges v) (to == v) (sym (has_push edges to v) ∙ h)) [
        | inl before ↦ handed.given v k before below has_it
        | inr last ↦ let same = eqb-true to v last in let long = handed.long in absurd (omega arith)
      ];
  only = λ v k h. elim (handed.only v k h) [ inl had ↦ inl had | inr edge ↦ inr (has_push edges to v ∙ or_left (has edges v) (to == v) edge.0, edge.1) ];
  still = handed.still;
  fewer = handed.fewer;
}

module _ (edges : List ℕ) (from to : ℕ) (sets : List (List Bool)) (waits : List Bool) (old : List (List Bool)) (marks : List Bool) (new : List (List Bool))
    (handed : IsHandedOn edges from sets waits old marks) (inside : to < length old)
    (others : new ≡ slice_set old to (set_at new to)) (same_limit : length (set_at new to) ≡ length (set_at old to))
    (united : (k : ℕ) → contains (set_at new to) k ≡ (contains (set_at old to) k || contains (set_at old from) k)) where
  elsewhere : (v : ℕ) → v ≢ to → set_at new v ≡ set_at old v
  elsewhere v ne = ap (λ xs. set_at xs v) others ∙ get_or-set_other old to v (set_at new to) [] ne

  as_long : length new ≡ length old
  as_long = ap length others ∙ length-set old to (set_at new to)

  limits : (v : ℕ) → length (set_at new v) ≡ length (set_at old v)
  limits v = elim (cases_eq v to) [ inl e ↦ subst (λ u. length (set_at new u) ≡ length (set_at old u)) (sym e) same_limit | inr ne ↦ ap length (elsewhere v ne) ]

  stays_at : (k : ℕ) → contains (set_at old to) k ≡ true → contains (set_at new to) k ≡ true
  stays_at k h = united k ∙ or_left (contains (set_at old to) k) (contains (set_at old from) k) h

  stays : (v k : ℕ) → contains (set_at old v) k ≡ true → contains (set_at new v) k ≡ true
  stays v k h = elim (cases_eq v to) [
    | inl e ↦ subst (λ u. contains (set_at new u) k ≡ true) (sym e) (stays_at k (subst (λ u. contains (set_at old u) k ≡ true) e h))
    | inr ne ↦ ap (λ set. contains set k) (elsewhere v ne) ∙ h
  ]

  from_had : (k : ℕ) → contains (set_at old from) k ≡ true → contains (set_at sets from) k ≡ true
  from_had k h = elim (handed.only from k h) [ inl had ↦ had | inr edge ↦ edge.1 ]

  in_more : (v : ℕ) → has edges v ≡ true → has (edges ++ to ∷ []) v ≡ true
  in_more v h = has_push edges to v ∙ or_left (has edges v) (to == v) h

  at_last : has (edges ++ to ∷ []) to ≡ true
  at_last = has_push edges to to ∙ or_right (has edges to) (to == to) (eq-eqb to to refl)

  gives : (v k : ℕ) → has (edges ++ to ∷ []) v ≡ true → v < length sets → contains (set_at sets from) k ≡ true → contains (set_at new v) k ≡ true
  gives v k h below from_has =
      elim (or_cases (has edges v) (to == v) (sym (has_push edges to v) ∙ h)) [
        | inl before ↦ stays v k (handed.given v k before below from_has)
        | inr last ↦
            subst (λ u. contains (set_at new u) k ≡ true) (eqb-true to v last)
            (united k ∙ or_right (contains (set_at old to) k) (contains (set_at old from) k) (handed.kept from k from_has))
      ]

  before : (v k : ℕ) → contains (set_at old v) k ≡ true
      → (contains (set_at sets v) k ≡ true) ⊎ ((has (edges ++ to ∷ []) v ≡ true) × (contains (set_at sets from) k ≡ true))
  before v k h = elim (handed.only v k h) [ inl had ↦ inl had | inr edge ↦ inr (in_more v edge.0, edge.1) ]

  comes : (v k : ℕ) → contains (set_at new v) k ≡ true
      → (contains (set_at sets v) k ≡ true) ⊎ ((has (edges ++ to ∷ []) v ≡ true) × (contains (set_at sets from) k ≡ true))
  comes v k h =
      elim (cases_eq v to) [
        | inr ne ↦ before v k (ap (λ set. contains set k) (sym (elsewhere v ne)) ∙ h)
        | inl e ↦
            elim (or_cases (contains (set_at old to) k) (contains (set_at old from) k) (sym (united k) ∙ subst (λ u. contains (set_at new u) k ≡ true) e h)) [
              | inl had ↦ before v k (subst (λ u. contains (set_at old u) k ≡ true) (sym e) had)
              | inr got ↦ inr (subst (λ u. has (edges ++ to ∷ []) u ≡ true) (sym e) at_last, from_had k got)
            ]
      ]

  sum_is : sum_by (count_by not) new + count_by not (set_at old to) ≡ sum_by (count_by not) old + count_by not (set_at new to)
  sum_is = ap (λ xs. sum_by (count_by not) xs + count_by not (set_at old to)) others ∙ sum_by-set (count_by not) old to (set_at new to) [] inside

  -- where the set there grows, it waits then
  pub hands_grown : Adds (set_at old to) (set_at old from) → to < length marks → IsHandedOn (edges ++ to ∷ []) from sets waits new (slice_set marks to true)
  hands_grown adds marked = record {
    long = as_long ∙ handed.long;
    marks = length-set marks to true ∙ handed.marks;
    limit = λ v. limits v ∙ handed.limit v;
    kept = λ v k h. stays v k (handed.kept v k h);
    given = gives;
    only = comes;
    still = λ v out.
        elim (cases_eq v to) [
          | inl e ↦ absurd (true≢false (sym (get_or-set_same marks to true false marked) ∙ subst (λ u. is_marked (slice_set marks to true) u ≡ false) e out))
          | inr ne ↦
              let was = handed.still v (sym (get_or-set_other marks to v true false ne) ∙ out) in
              (was.0, λ k h. was.1 k (ap (λ set. contains set k) (sym (elsewhere v ne)) ∙ h))
        ];
    fewer =
        let one = lacks_fewer (set_at old to) (set_at new to) adds.number same_limit stays_at adds.new
        (united adds.number ∙ or_right (contains (set_at old to) adds.number) (contains (set_at old from) adds.number) adds.given) in
        let sum = sum_is in
        let wait : count_by (λ wait. wait) (slice_set marks to true) + cond {A = ℕ} (is_marked marks to) 1 0 ≡ count_by (λ wait. wait) marks + 1 = sum_by-set (λ b. cond b 1 0) marks to true false marked in
        let few = handed.fewer in
        omega arith;
  }

  -- where it doesn't, nothing new came
  pub hands_same : (Adds (set_at old to) (set_at old from) → ⊥) → IsHandedOn (edges ++ to ∷ []) from sets waits new marks
  hands_same none = record {
    long = as_long ∙ handed.long;
    marks = handed.marks;
    limit = λ v. limits v ∙ handed.limit v;
    kept = λ v k h. stays v k (handed.kept v k h);
    given = gives;
    only = comes;
    still = λ v out. let was = handed.still v out in (was.0, λ k h. was.1 k (had v k h));
    fewer =
        let no_more = lacks_no_more (set_at old to) (set_at new to) same_limit stays_at in
        let sum = sum_is in
        let few = handed.fewer in
        omega arith;
  }
    where
      had : (v k : ℕ) → contains (set_at new v) k ≡ true → contains (set_at old v) k ≡ true
      had v k h =
          elim (cases_eq v to) [
            | inr ne ↦ ap (λ set. contains set k) (sym (elsewhere v ne)) ∙ h
            | inl e ↦
                subst (λ u. contains (set_at old u) k ≡ true) (sym e)
                (elim (cases_Bool (contains (set_at old to) k)) [
                  | inl is ↦ is
                  | inr out ↦
                      elim (or_cases (contains (set_at old to) k) (contains (set_at old from) k) (sym (united k) ∙ subst (λ u. contains (set_at new u) k ≡ true) e h)) [
                        | inl is ↦ is
                        | inr got ↦ absurd (none (record { number = k; new = out; given = got }))
                      ]
                ])
          ]
