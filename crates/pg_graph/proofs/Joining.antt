-- What lists hold after numbers were added to them.
use Rattle.std.proofs.Common.{◌≡◌, ◌≢◌, ℕ, ◌+◌, ◌<◌, Bool, true, false, cond, ◌⊎◌, inl, inr, List, [], ◌∷◌, ◌++◌, slice_index, length, refl, sym, ap, subst, ◌∙◌, arith, length-append, length-set, replicate}
use Rattle.std.specs.Prelude.{◌==◌, ◌↔◌}
use Rattle.std.specs.List.Sorted.{IsStrictlyIncreasing}
use Rattle.std.proofs.lemmas.Bool.{cases_eq, cases_lt, true≢false, eqb-true, or_cases, or_left, or_right, eq-eqb}
use Rattle.std.proofs.lemmas.List.{get_or-set_same, get_or-set_other, get_or_past, get_or_push, get_or_append_left, get_or-replicate, length-replicate}
use Rattle.std.proofs.lemmas.Option.{slice_get-get_or}
use Rattle.pg_graph.specs.Graphs.{has, AreOnce, numbers_at, joined, joined_each, IsReached, IsGathered}
use Rattle.pg_graph.proofs.Lists.{has_push, has_first, has_after, has_cases, has_other, has_at}

-- ---- one number more

joined_length : (lists : List (List ℕ)) (k n : ℕ) → length (joined lists k n) ≡ length lists
joined_length lists k n = length-set lists k (numbers_at lists k ++ n ∷ [])

-- in its own list, and in no other
pub joined_same : (lists : List (List ℕ)) (k n : ℕ) → k < length lists → numbers_at (joined lists k n) k ≡ numbers_at lists k ++ n ∷ []
joined_same lists k n below = get_or-set_same lists k (numbers_at lists k ++ n ∷ []) [] below

pub joined_other : (lists : List (List ℕ)) (k n u : ℕ) → u ≢ k → numbers_at (joined lists k n) u ≡ numbers_at lists u
joined_other lists k n u ne = get_or-set_other lists k u (numbers_at lists k ++ n ∷ []) [] ne

pub each_length : (lists : List (List ℕ)) (ks : List ℕ) (n : ℕ) → length (joined_each lists ks n) ≡ length lists
each_length lists [] n = refl
each_length lists (k ∷ ks) n = each_length (joined lists k n) ks n ∙ joined_length lists k n

-- a list that each number is added to once
pub each_at : (lists : List (List ℕ)) (ks : List ℕ) (n u : ℕ) → AreOnce ks → u < length lists
    → numbers_at (joined_each lists ks n) u ≡ cond (has ks u) (numbers_at lists u ++ n ∷ []) (numbers_at lists u)
each_at lists [] n u once below = refl
each_at lists (k ∷ ks) n u once below =
    let inside : u < length (joined lists k n) = subst (λ m. u < m) (sym (joined_length lists k n)) below in
    let rest = each_at (joined lists k n) ks n u once.1 inside in
    elim (cases_eq u k) [
      | inl e ↦
          let out : has ks u ≡ false = ap (has ks) e ∙ once.0 in
          let here : numbers_at (joined lists k n) u ≡ numbers_at lists u ++ n ∷ [] =
          ap (numbers_at (joined lists k n)) e ∙ (joined_same lists k n (subst (λ m. m < length lists) e below) ∙ ap (λ m. numbers_at lists m ++ n ∷ []) (sym e)) in
          let first : has (k ∷ ks) u ≡ true = ap (has (k ∷ ks)) e ∙ has_first ks k in
          rest ∙ (ap (λ b. cond b (numbers_at (joined lists k n) u ++ n ∷ []) (numbers_at (joined lists k n) u)) out
          ∙ (here ∙ ap (λ b. cond b (numbers_at lists u ++ n ∷ []) (numbers_at lists u)) (sym first)))
      | inr ne ↦
          let same = joined_other lists k n u ne in
          let after : has ks u ≡ has (k ∷ ks) u = sym (has_other ks k u (λ e. ne (sym e))) in
          rest ∙ (ap (λ xs. cond (has ks u) (xs ++ n ∷ []) xs) same ∙ ap (λ b. cond b (numbers_at lists u ++ n ∷ []) (numbers_at lists u)) after)
    ]

-- what stands in a list then: what stood there, or the number, if it was added there
pub each_cases : (lists : List (List ℕ)) (ks : List ℕ) (n u x : ℕ) → has (numbers_at (joined_each lists ks n) u) x ≡ true
    → (has (numbers_at lists u) x ≡ true) ⊎ ((has ks u ≡ true) × (n ≡ x))
each_cases lists [] n u x h = inl h
each_cases lists (k ∷ ks) n u x h =
    elim (each_cases (joined lists k n) ks n u x h) [
      | inr new ↦ inr (has_after ks k u new.0, new.1)
      | inl old ↦
          elim (cases_eq u k) [
            | inr ne ↦ inl (ap (λ xs. has xs x) (sym (joined_other lists k n u ne)) ∙ old)
            | inl e ↦
                elim (cases_lt k (length lists)) [
                  | inl below ↦
                      let at : has (numbers_at lists k ++ n ∷ []) x ≡ true = ap (λ xs. has xs x) (sym (joined_same lists k n below)) ∙ (ap (λ m. has (numbers_at (joined lists k n) m) x) (sym e) ∙ old) in
                      elim (or_cases (has (numbers_at lists k) x) (n == x) (sym (has_push (numbers_at lists k) n x) ∙ at)) [
                        | inl before ↦ inl (ap (λ m. has (numbers_at lists m) x) e ∙ before)
                        | inr new ↦ inr (ap (has (k ∷ ks)) e ∙ has_first ks k, eqb-true n x new)
                      ]
                  | inr past ↦
                      let long = joined_length lists k n in
                      let none : numbers_at (joined lists k n) k ≡ [] = get_or_past (joined lists k n) k [] (omega arith) in
                      absurd (true≢false (sym old ∙ (ap (λ m. has (numbers_at (joined lists k n) m) x) e ∙ ap (λ xs. has xs x) none)))
                ]
          ]
    ]

-- nothing goes
pub each_kept : (lists : List (List ℕ)) (ks : List ℕ) (n u x : ℕ) → has (numbers_at lists u) x ≡ true → has (numbers_at (joined_each lists ks n) u) x ≡ true
each_kept lists [] n u x h = h
each_kept lists (k ∷ ks) n u x h = each_kept (joined lists k n) ks n u x (one_kept lists k n u x h)
  where
    one_kept : (lists : List (List ℕ)) (k n u x : ℕ) → has (numbers_at lists u) x ≡ true → has (numbers_at (joined lists k n) u) x ≡ true
    one_kept lists k n u x h =
        elim (cases_eq u k) [
          | inr ne ↦ ap (λ xs. has xs x) (joined_other lists k n u ne) ∙ h
          | inl e ↦
              elim (cases_lt k (length lists)) [
                | inl below ↦
                    ap (λ m. has (numbers_at (joined lists k n) m) x) e
                    ∙ (ap (λ xs. has xs x) (joined_same lists k n below)
                    ∙ (has_push (numbers_at lists k) n x ∙ or_left (has (numbers_at lists k) x) (n == x) (ap (λ m. has (numbers_at lists m) x) (sym e) ∙ h)))
                | inr past ↦ absurd (true≢false (sym h ∙ (ap (λ m. has (numbers_at lists m) x) e ∙ ap (λ xs. has xs x) (get_or_past lists k [] past))))
              ]
        ]

-- and the number is there where it was added
pub each_new : (lists : List (List ℕ)) (ks : List ℕ) (n u : ℕ) → has ks u ≡ true → u < length lists → has (numbers_at (joined_each lists ks n) u) n ≡ true
each_new lists [] n u h below = absurd (true≢false (sym h))
each_new lists (k ∷ ks) n u h below =
    elim (has_cases ks k u h) [
      | inr later ↦ each_new (joined lists k n) ks n u later (subst (λ m. u < m) (sym (joined_length lists k n)) below)
      | inl e ↦
          let inside : k < length lists = subst (λ m. m < length lists) (sym e) below in
          let at : has (numbers_at (joined lists k n) u) n ≡ true =
          ap (λ m. has (numbers_at (joined lists k n) m) n) (sym e)
          ∙ (ap (λ xs. has xs n) (joined_same lists k n inside) ∙ (has_push (numbers_at lists k) n n ∙ or_right (has (numbers_at lists k) n) (n == n) (eq-eqb n n refl))) in
          each_kept (joined lists k n) ks n u n at
    ]

-- ---- gathered sets

-- a greater number at the end
pub increasing_push : (xs : List ℕ) (n : ℕ) → IsStrictlyIncreasing xs → ((m : ℕ) → has xs m ≡ true → m < n) → IsStrictlyIncreasing (xs ++ n ∷ [])
increasing_push xs n up below = λ k within.
    let long : length (xs ++ n ∷ []) ≡ length xs + 1 = length-append xs (n ∷ []) in
    let before : k < length xs = omega arith in
    let left : slice_index (xs ++ n ∷ []) k ≡ slice_index xs k = get_or_append_left xs (n ∷ []) 0 k before in
    elim (cases_lt (k + 1) (length xs)) [
      | inl inside ↦
          let right : slice_index (xs ++ n ∷ []) (k + 1) ≡ slice_index xs (k + 1) = get_or_append_left xs (n ∷ []) 0 (k + 1) inside in
          let rising = up k inside in
          omega arith
      | inr last ↦
          let right : slice_index (xs ++ n ∷ []) (k + 1) ≡ n = get_or_push xs n 0 (k + 1) (omega arith) in
          let less = below (slice_index xs k) (has_at xs k (slice_index xs k) (slice_get-get_or xs k 0 before)) in
          omega arith
    ]

-- lists without a number hold none
pub none_at : (n u : ℕ) → numbers_at (replicate n []) u ≡ []
none_at n u =
    elim (cases_lt u n) [
      | inl below ↦ get_or-replicate n u [] [] below
      | inr past ↦ let long = length-replicate {A = List ℕ} n [] in get_or_past (replicate n []) u [] (omega arith)
    ]

pub gather_none : (graph roots sets : List (List ℕ)) → sets ≡ replicate (length graph) [] → IsGathered graph roots 0 sets
gather_none graph roots sets empty =
    let at : (u : ℕ) → numbers_at sets u ≡ [] = λ u. ap (λ ls. numbers_at ls u) empty ∙ none_at (length graph) u in
    record {
      long = ap length empty ∙ length-replicate {A = List ℕ} (length graph) [];
      members = λ v k below. (λ h. absurd (true≢false (sym h ∙ ap (λ xs. has xs k) (at v))), λ h. let few = h.0 in absurd (omega arith));
      ascending = λ v. subst IsStrictlyIncreasing (sym (at v)) (λ k few. absurd (omega arith));
    }

-- the vertices that are reached from one list of roots more
pub gather_more : (graph roots : List (List ℕ)) (n : ℕ) (sets : List (List ℕ)) (met : List ℕ) → IsGathered graph roots n sets → AreOnce met
    → ((v : ℕ) → (has met v ≡ true) ↔ IsReached graph (numbers_at roots n) v) → IsGathered graph roots (n + 1) (joined_each sets met n)
gather_more graph roots n sets met gathered once reached = record {
  long = each_length sets met n ∙ gathered.long;
  members = λ v k below.
      let inside : v < length sets = subst (λ m. v < m) (sym gathered.long) below in
      let old = gathered.members v k below in (
        λ h.
            elim (each_cases sets met n v k h) [
              | inl before ↦ let was = old.0 before in let few = was.0 in (omega arith, was.1)
              | inr new ↦ (let e = new.1 in omega arith, subst (λ m. IsReached graph (numbers_at roots m) v) new.1 ((reached v).0 new.0))
            ],
        λ h.
            elim (cases_eq k n) [
              | inl e ↦
                  subst (λ m. has (numbers_at (joined_each sets met n) v) m ≡ true) (sym e)
                  (each_new sets met n v ((reached v).1 (subst (λ m. IsReached graph (numbers_at roots m) v) e h.1)) inside)
              | inr ne ↦ let few = h.0 in let lower : k < n = omega arith in each_kept sets met n v k (old.1 (lower, h.1))
            ],
      );
  ascending = λ v.
      elim (cases_lt v (length sets)) [
        | inl inside ↦
            let at = each_at sets met n v once inside in
            let below : v < length graph = subst (λ m. v < m) gathered.long inside in
            subst IsStrictlyIncreasing (sym at) (either (has met v) v (increasing_push (numbers_at sets v) n (gathered.ascending v) (λ m h. ((gathered.members v m below).0 h).0)))
        | inr past ↦
            let long = each_length sets met n in
            let none : numbers_at (joined_each sets met n) v ≡ [] = get_or_past (joined_each sets met n) v [] (omega arith) in
            subst IsStrictlyIncreasing (sym none) (λ k few. absurd (omega arith))
      ];
}
  where
    either : (b : Bool) (v : ℕ) → IsStrictlyIncreasing (numbers_at sets v ++ n ∷ []) → IsStrictlyIncreasing (cond b (numbers_at sets v ++ n ∷ []) (numbers_at sets v))
    either true v up = up
    either false v up = gathered.ascending v
