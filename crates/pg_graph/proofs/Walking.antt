-- What is known while a graph is walked, and what is when the walk has ended.
use Rattle.std.proofs.Common.{◌≡◌, ℕ, zero, suc, ◌+◌, ◌<◌, ◌≤◌, Bool, true, false, not, cond, ◌||◌, inl, inr, List, [], ◌∷◌, ◌++◌, Some, slice_get, slice_set, slice_index_or, length, count_by, refl, sym, ap, subst, ◌∙◌, arith, append-nil, append_assoc, length-append, length-set, replicate}
use Rattle.std.specs.Prelude.{◌==◌}
use Rattle.std.proofs.Math.Bool.{or-false}
use Rattle.std.proofs.lemmas.Bool.{cases_eq, cases_lt, true≢false, eq-eqb, ne_eqb, or_cases, or_right, not-true, not-false}
use Rattle.std.proofs.lemmas.List.{get_or_past, get_or_default, get_or-replicate, length-replicate}
use Rattle.std.proofs.lemmas.Option.{slice_get_within}
use Rattle.pg_graph.specs.Graphs.{has, numbers_at, AreOnce, IsReached, root, onward}
use Rattle.pg_graph.specs.Marks.{is_marked}
use Rattle.pg_graph.specs.Walk.{Met, is_new, with_all_met}
use Rattle.pg_graph.proofs.Lists.{has_push, has_append, has_first, has_after, has_cases, has_at, stands, once_push}
use Rattle.pg_graph.proofs.Marking.{marked_same, marked_kept, marked_others, one_fewer}

-- the vertices that are marked are those that were met, each once
pub record IsTidy (m : Met) : Type 0 where
  pub agrees : (v : ℕ) → has m.met v ≡ is_marked m.marks v
  pub once : AreOnce m.met

-- what meeting these vertices does
pub record Meets (vs : List ℕ) (m after : Met) : Type 0 where
  pub tidy : IsTidy after
  pub long : length after.marks ≡ length m.marks
  pub kept : (u : ℕ) → is_marked m.marks u ≡ true → is_marked after.marks u ≡ true
  pub further : List ℕ
  pub following : after.met ≡ m.met ++ further
  pub only : (u : ℕ) → has further u ≡ true → has vs u ≡ true
  pub below : (u : ℕ) → has further u ≡ true → u < length m.marks
  pub all : (u : ℕ) → has vs u ≡ true → u < length m.marks → is_marked after.marks u ≡ true
  pub fewer : count_by not after.marks + length after.met ≡ count_by not m.marks + length m.met

new_below : (marks : List Bool) (v : ℕ) → is_new marks v ≡ true → v < length marks
new_below marks v h = elim (cases_lt v (length marks)) [ inl below ↦ below | inr past ↦ absurd (true≢false (sym h ∙ ap not (get_or_past marks v true past))) ]

new_unmarked : (marks : List Bool) (v : ℕ) → is_new marks v ≡ true → is_marked marks v ≡ false
new_unmarked marks v h = get_or_default marks v false true (new_below marks v h) ∙ not-true (slice_index_or marks v true) h

old_marked : (marks : List Bool) (v : ℕ) → is_new marks v ≡ false → v < length marks → is_marked marks v ≡ true
old_marked marks v h below = get_or_default marks v false true below ∙ not-false (slice_index_or marks v true) h

-- a vertex without a mark is met
abbrev met_more : ℕ → Met → Met
met_more v m = record { marks = slice_set m.marks v true; met = m.met ++ v ∷ [] }

tidy_more : (v : ℕ) (m : Met) → IsTidy m → is_new m.marks v ≡ true → IsTidy (met_more v m)
tidy_more v m tidy new =
    let below = new_below m.marks v new in
    let out : has m.met v ≡ false = tidy.agrees v ∙ new_unmarked m.marks v new in
    record {
      agrees = λ u.
          elim (cases_eq u v) [
            | inl e ↦
                let left : has (m.met ++ v ∷ []) u ≡ true = has_push m.met v u ∙ or_right (has m.met u) (v == u) (eq-eqb v u (sym e)) in
                let right : is_marked (slice_set m.marks v true) u ≡ true = ap (is_marked (slice_set m.marks v true)) e ∙ marked_same m.marks v below in
                left ∙ sym right
            | inr ne ↦
                let left : has (m.met ++ v ∷ []) u ≡ (has m.met u || false) = has_push m.met v u ∙ ap (λ b. has m.met u || b) (ne_eqb v u (λ e. ne (sym e))) in
                left ∙ (or-false (has m.met u) ∙ (tidy.agrees u ∙ sym (marked_others m.marks v u ne)))
          ];
      once = once_push m.met v tidy.once out;
    }

-- meeting vertices one after another
pub meets_all : (vs : List ℕ) (m : Met) → IsTidy m → Meets vs m (with_all_met vs m)
meets_all [] m tidy = record {
  tidy = tidy;
  long = refl;
  kept = λ u h. h;
  further = [];
  following = sym (append-nil m.met);
  only = λ u h. absurd (true≢false (sym h));
  below = λ u h. absurd (true≢false (sym h));
  all = λ u h. absurd (true≢false (sym h));
  fewer = refl;
}
meets_all (v ∷ vs) m tidy = go (is_new m.marks v) refl (λ n t. meets_all vs n t)
  where
    go : (b : Bool) → is_new m.marks v ≡ b → ((n : Met) → IsTidy n → Meets vs n (with_all_met vs n)) → Meets (v ∷ vs) m (with_all_met vs (cond b (met_more v m) m))
    go true new ih =
        let below = new_below m.marks v new in
        let rest = ih (met_more v m) (tidy_more v m tidy new) in
        let same : length (slice_set m.marks v true) ≡ length m.marks = length-set m.marks v true in
        let one = one_fewer m.marks v below (new_unmarked m.marks v new) in
        let long : length (m.met ++ v ∷ []) ≡ length m.met + 1 = length-append m.met (v ∷ []) in
        record {
          tidy = rest.tidy;
          long = rest.long ∙ same;
          kept = λ u h. rest.kept u (marked_kept m.marks v u below h);
          further = v ∷ rest.further;
          following = rest.following ∙ append_assoc m.met (v ∷ []) rest.further;
          only = λ u h. elim (has_cases rest.further v u h) [ inl e ↦ subst (λ w. has (v ∷ vs) w ≡ true) e (has_first vs v) | inr later ↦ has_after vs v u (rest.only u later) ];
          below = λ u h. elim (has_cases rest.further v u h) [ inl e ↦ subst (λ w. w < length m.marks) e below | inr later ↦ subst (λ n. u < n) same (rest.below u later) ];
          all = λ u h within.
              elim (has_cases vs v u h) [
                | inl e ↦ rest.kept u (subst (λ w. is_marked (slice_set m.marks v true) w ≡ true) e (marked_same m.marks v below))
                | inr later ↦ rest.all u later (subst (λ n. u < n) (sym same) within)
              ];
          fewer = let few = rest.fewer in omega arith;
        }
    go false old ih =
        let rest = ih m tidy in
        record {
          tidy = rest.tidy;
          long = rest.long;
          kept = rest.kept;
          further = rest.further;
          following = rest.following;
          only = λ u h. has_after vs v u (rest.only u h);
          below = rest.below;
          all = λ u h within.
              elim (has_cases vs v u h) [
                | inl e ↦ rest.kept u (old_marked m.marks u (ap (is_new m.marks) (sym e) ∙ old) within)
                | inr later ↦ rest.all u later within
              ];
          fewer = rest.fewer;
        }

-- ---- the walk

-- a walk from the roots has met these vertices, and has followed the edges after the first of them, so many
pub record HasWalked (graph : List (List ℕ)) (roots : List ℕ) (m : Met) (next : ℕ) : Type 0 where
  pub tidy : IsTidy m
  pub long : length m.marks ≡ length graph
  pub reached : (v : ℕ) → has m.met v ≡ true → IsReached graph roots v
  pub rooted : (v : ℕ) → has roots v ≡ true → v < length graph → is_marked m.marks v ≡ true
  pub followed : (k w v : ℕ) → k < next → slice_get m.met k ≡ Some w → has (numbers_at graph w) v ≡ true → v < length graph → is_marked m.marks v ≡ true

-- a vertex that is reached is one
pub reached_below : {graph : List (List ℕ)} {roots : List ℕ} {v : ℕ} → IsReached graph roots v → v < length graph
reached_below (root is below) = below
reached_below (onward from is below) = below

-- an element that stood at a place still does
front_at : (xs ys : List ℕ) (k x : ℕ) → k < length xs → slice_get (xs ++ ys) k ≡ Some x → slice_get xs k ≡ Some x
front_at [] ys k x below e = absurd (omega arith)
front_at (z ∷ xs) ys zero x below e = e
front_at (z ∷ xs) ys (suc k) x below e = let inside : k < length xs = omega arith in front_at xs ys k x inside e

-- the roots are met first
pub walk_begins : (graph : List (List ℕ)) (roots : List ℕ) (m : Met) → IsTidy m → length m.marks ≡ length graph → m.met ≡ []
    → HasWalked graph roots (with_all_met roots m) 0
walk_begins graph roots m tidy long nothing =
    let meets = meets_all roots m tidy in
    let all : (with_all_met roots m).met ≡ meets.further = meets.following ∙ ap (λ xs. xs ++ meets.further) nothing in
    record {
      tidy = meets.tidy;
      long = meets.long ∙ long;
      reached = λ v h.
          let new : has meets.further v ≡ true = sym (ap (λ xs. has xs v) all) ∙ h in
          root (meets.only v new) (subst (λ n. v < n) long (meets.below v new));
      rooted = λ v h within. meets.all v h (subst (λ n. v < n) (sym long) within);
      followed = λ k w v few. absurd (omega arith);
    }

-- where nothing is marked yet
no_marks : (n v : ℕ) → is_marked (replicate n false) v ≡ false
no_marks n v =
    elim (cases_lt v n) [
      | inl below ↦ get_or-replicate n v false false below
      | inr past ↦ let long = length-replicate n false in get_or_past (replicate n false) v false (omega arith)
    ]

pub walk_starts : (graph : List (List ℕ)) (roots : List ℕ) (marks : List Bool) (met : List ℕ) → marks ≡ replicate (length graph) false → met ≡ []
    → HasWalked graph roots (with_all_met roots (record { marks = marks; met = met })) 0
walk_starts graph roots marks met unmarked nothing =
    let tidy : IsTidy (record { marks = marks; met = met }) = record {
      agrees = λ v. ap (λ xs. has xs v) nothing ∙ sym (ap (λ ms. is_marked ms v) unmarked ∙ no_marks (length graph) v);
      once = subst AreOnce (sym nothing) tt;
    } in
    walk_begins graph roots (record { marks = marks; met = met }) tidy (ap length unmarked ∙ length-replicate (length graph) false) nothing

-- the edges after one vertex more are followed
pub walk_goes_on : (graph : List (List ℕ)) (roots : List ℕ) (m : Met) (next at : ℕ) → HasWalked graph roots m next → slice_get m.met next ≡ Some at
    → HasWalked graph roots (with_all_met (numbers_at graph at) m) (next + 1)
walk_goes_on graph roots m next at walked there =
    let meets = meets_all (numbers_at graph at) m walked.tidy in
    let within = slice_get_within m.met next at there in
    let after = with_all_met (numbers_at graph at) m in
    let is_reached : IsReached graph roots at = walked.reached at (has_at m.met next at there) in
    record {
      tidy = meets.tidy;
      long = meets.long ∙ walked.long;
      reached = λ v h.
          let either : (has m.met v || has meets.further v) ≡ true = sym (has_append m.met meets.further v) ∙ (sym (ap (λ xs. has xs v) meets.following) ∙ h) in
          elim (or_cases (has m.met v) (has meets.further v) either) [
            | inl before ↦ walked.reached v before
            | inr new ↦ onward is_reached (meets.only v new) (subst (λ n. v < n) walked.long (meets.below v new))
          ];
      rooted = λ v h inside. meets.kept v (walked.rooted v h inside);
      followed = λ k w v few e edge inside.
          let first : k < length m.met = omega arith in
          let stood : slice_get m.met k ≡ Some w = front_at m.met meets.further k w first (sym (ap (λ xs. slice_get xs k) meets.following) ∙ e) in
          elim (cases_eq k next) [
            | inl last ↦
                let same : Some at ≡ Some w = sym there ∙ (sym (ap (slice_get m.met) last) ∙ stood) in
                let here : at ≡ w = cc in
                meets.all v (subst (λ x. has (numbers_at graph x) v ≡ true) (sym here) edge) (subst (λ n. v < n) (sym walked.long) inside)
            | inr other ↦
                let lower : k < next = omega arith in
                meets.kept v (walked.followed k w v lower stood edge inside)
          ];
    }

-- when the edges after all were followed, whatever is reached was met
all_met : {graph : List (List ℕ)} {roots : List ℕ} (m : Met) {v : ℕ} → HasWalked graph roots m (length m.met) → IsReached graph roots v → has m.met v ≡ true
all_met m walked (root {v} is below) = walked.tidy.agrees v ∙ walked.rooted v is below
all_met {graph} m walked (onward {w} {v} from edge below) =
    let at = stands m.met w (all_met m walked from) in
    let inside = slice_get_within m.met at.place w at.there in
    walked.tidy.agrees v ∙ walked.followed at.place w v inside at.there edge below

pub walk_ends : (graph : List (List ℕ)) (roots : List ℕ) (m : Met) (next : ℕ) → HasWalked graph roots m next → length m.met ≤ next
    → (v : ℕ) → IsReached graph roots v → has m.met v ≡ true
walk_ends graph roots m next walked ended v is =
    let whole : HasWalked graph roots m (length m.met) = record {
      tidy = walked.tidy;
      long = walked.long;
      reached = walked.reached;
      rooted = walked.rooted;
      followed = λ k w u few. walked.followed k w u (omega arith);
    } in
    all_met m whole is
