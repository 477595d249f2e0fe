-- What came of parts can be joined as they answer: joining is associative.
use Rattle.std.proofs.Common.{◌≡◌, ℕ, suc, ◌+◌, List, [], ◌∷◌, ◌++◌, Bool, true, false, refl, ap, sym, ◌∙◌, append_assoc, append-nil, arith}
use Rattle.std.proofs.Math.Bool.{or_assoc, or-false, or-true}
use Rattle.std.specs.Prelude.{◌||◌, ◌&&◌, nat_lt, if◌then◌else◌, not}
use Rattle.pg_tree.specs.Trees.{Tree}
use Rattle.pg_grammar_value.specs.declared.trail.TrailItem.{TrailItem}
use Rattle.pg_grammar_value.specs.declared.trail.TrailItem.TheVariants.{Rounds}
use Rattle.pg_message.specs.Messages.{is_empty, with_messages}
use Rattle.pg_message.specs.Errors.{merged}
use Rattle.pg_message.specs.declared.error.ParseError.{ParseError}
use Rattle.pg_message.proofs.Merging.{merged_assoc}
use Rattle.pg_text.specs.Position.{start}
use Rattle.pg_language.specs.Derives.{Spot}
use Rattle.pg_language.specs.Errors.{Error, merge, with_position, without_position}
use Rattle.pg_language.specs.Outcomes.{Outcome, ok, failed, empty_round}
use Rattle.pg_language.specs.Reactions.{error_after, then_rest, then_round, noted, after_failure, unless_consumed, as_finished}
use Rattle.pg_machine_turns.specs.Frames.{Before, none_before, before, after_parts, with_part, Tried, none_tried, failed_tried, ok_tried, after_tried, with_failure, with_empty_ok, after_rounds, Chain, Linked, folded, after_links}
use Rattle.pg_machine_turns.specs.Turns.{with_link}

-- ---- errors

-- merging leaves the position alone
placed : (e f : Error) → with_position start (merge e f) ≡ merged (with_position start e) (with_position start f)
placed e f = by_tests (is_empty e.messages && not (is_empty f.messages)) (is_empty f.messages && not (is_empty e.messages)) (nat_lt e.place f.place) (nat_lt f.place e.place)
  where
    one : ParseError
    one = with_position start e

    other : ParseError
    other = with_position start f

    by_tests : (a b c d : Bool) → (let m : ParseError = if a then with_position start f else if b then with_position start e else
        if c then with_position start f else if d then with_position start e else record (with_position start e) { messages = with_messages e.messages f.messages } in
        with_position start (without_position m) ≡ m)
    by_tests true b c d = refl
    by_tests false true c d = refl
    by_tests false false true d = refl
    by_tests false false false true = refl
    by_tests false false false false = refl

pub merge_assoc : (e f g : Error) → merge e (merge f g) ≡ merge (merge e f) g
merge_assoc e f g =
    ap (λ (x : ParseError). without_position (merged (with_position start e) x)) (placed f g)
    ∙ ap without_position (merged_assoc (with_position start e) (with_position start f) (with_position start g))
    ∙ ap (λ (x : ParseError). without_position (merged x (with_position start g))) (sym (placed e f))

error_assoc : (d b : Bool) (e f g : Error) → error_after (d || b) e (error_after b f g) ≡ error_after b (error_after d e f) g
error_assoc true true e f g = refl
error_assoc false true e f g = refl
error_assoc true false e f g = refl
error_assoc false false e f g = merge_assoc e f g

-- ---- sequences

pub rest_rest : (c d : Bool) (v w : List Tree) (t u : List TrailItem) (e f : Error) (x : Outcome) →
    then_rest c v t e (then_rest d w u f x) ≡ then_rest (c || d) (v ++ w) (t ++ u) (error_after d e f) x
rest_rest c d v w t u e f (ok b y z s g) =
    let a = or_assoc c d b in let k = append_assoc v w z in let h = append_assoc t u s in let q = error_assoc d b e f g in cc
rest_rest c d v w t u e f (failed b g) = let a = or_assoc c d b in let q = error_assoc d b e f g in cc
rest_rest c d v w t u e f empty_round = refl

pub after_part : (done : Before) (c : Bool) (v : List Tree) (t : List TrailItem) (e : Error) (o : Outcome) →
    after_parts done (then_rest c v t e o) ≡ after_parts (with_part done c v t e) o
after_part none_before c v t e o = refl
after_part (before d w u f) c v t e o = rest_rest d c w v u t f e o

pub stuck_parts : (done : Before) → after_parts done empty_round ≡ empty_round
stuck_parts none_before = refl
stuck_parts (before c v t e) = refl

-- ---- choices

pub past_failure : (tried : Tried) (f : Error) (o : Outcome) → after_tried tried (after_failure f o) ≡ after_tried (with_failure tried f) o
past_failure none_tried f o = refl
past_failure (failed_tried e) f (ok true b v t g) = refl
past_failure (failed_tried e) f (ok false b v t g) = ap (ok false b v t) (merge_assoc e f g)
past_failure (failed_tried e) f (failed true g) = refl
past_failure (failed_tried e) f (failed false g) = ap (failed false) (merge_assoc e f g)
past_failure (failed_tried e) f empty_round = refl
past_failure (ok_tried b v t e) f (ok true d w u g) = refl
past_failure (ok_tried b v t e) f (ok false d w u g) = ap (ok false b v t) (merge_assoc e f g)
past_failure (ok_tried b v t e) f (failed true g) = refl
past_failure (ok_tried b v t e) f (failed false g) = ap (ok false b v t) (merge_assoc e f g)
past_failure (ok_tried b v t e) f empty_round = refl

pub after_empty_ok : (tried : Tried) (b : Spot) (v : List Tree) (t : List TrailItem) (f : Error) (o : Outcome) →
    after_tried tried (unless_consumed b v t f o) ≡ after_tried (with_empty_ok tried b v t f) o
after_empty_ok none_tried b v t f o = refl
after_empty_ok (failed_tried e) b v t f (ok true d w u g) = refl
after_empty_ok (failed_tried e) b v t f (ok false d w u g) = ap (ok false b v t) (merge_assoc e f g)
after_empty_ok (failed_tried e) b v t f (failed true g) = refl
after_empty_ok (failed_tried e) b v t f (failed false g) = ap (ok false b v t) (merge_assoc e f g)
after_empty_ok (failed_tried e) b v t f empty_round = refl
after_empty_ok (ok_tried a x y e) b v t f (ok true d w u g) = refl
after_empty_ok (ok_tried a x y e) b v t f (ok false d w u g) = ap (ok false a x y) (merge_assoc e f g)
after_empty_ok (ok_tried a x y e) b v t f (failed true g) = refl
after_empty_ok (ok_tried a x y e) b v t f (failed false g) = ap (ok false a x y) (merge_assoc e f g)
after_empty_ok (ok_tried a x y e) b v t f empty_round = refl

pub stuck_tried : (tried : Tried) → after_tried tried empty_round ≡ empty_round
stuck_tried none_tried = refl
stuck_tried (failed_tried e) = refl
stuck_tried (ok_tried b v t e) = refl

-- ---- repetitions

pub after_round : (c : Bool) (v w : List Tree) (t u : List TrailItem) (o : Outcome) →
    after_rounds c v t (then_round w u o) ≡ after_rounds true (v ++ w) (t ++ u) o
after_round true v w t u (ok d b x y g) = let k = append_assoc v w x in let h = append_assoc t u y in cc
after_round false v w t u (ok d b x y g) = let k = append_assoc v w x in let h = append_assoc t u y in cc
after_round true v w t u (failed d g) = refl
after_round false v w t u (failed d g) = refl
after_round c v w t u empty_round = refl

pub no_round : (c : Bool) (b : Spot) (v : List Tree) (t : List TrailItem) (e : Error) → after_rounds c v t (ok false b [] [] e) ≡ ok c b v t e
no_round c b v t e = let f = append-nil v in let h = append-nil t in let o = or-false c in cc

pub round_failed_so : (c : Bool) (v : List Tree) (t : List TrailItem) (e : Error) → after_rounds c v t (failed true e) ≡ failed true e
round_failed_so true v t e = refl
round_failed_so false v t e = refl

pub rounds_none : (o : Outcome) → after_rounds false [] [] o ≡ o
rounds_none (ok c b v t e) = refl
rounds_none (failed c e) = refl
rounds_none empty_round = refl

-- ---- chains

-- a forest is folded apart from the rest of an outcome
pub folded_rest : (chain : Chain) (waiting : List (List Tree × List Tree)) (c : Bool) (t : List TrailItem) (e : Error) (o : Outcome) →
    folded chain waiting (then_rest c [] t e o) ≡ then_rest c [] t e (folded chain waiting o)
folded_rest chain [] c t e o = refl
folded_rest chain (x ∷ waiting) c t e o =
    ap (folded chain waiting) (apart o) ∙ folded_rest chain waiting c t e (as_finished chain.side chain.shape x.0 x.1 o)
  where
    apart : (o : Outcome) → as_finished chain.side chain.shape x.0 x.1 (then_rest c [] t e o) ≡ then_rest c [] t e (as_finished chain.side chain.shape x.0 x.1 o)
    apart (ok d b v u f) = refl
    apart (failed d f) = refl
    apart empty_round = refl

-- the trails and errors of a link that consumed
link_rest : (c d k : Bool) (t u s : List TrailItem) (e f g : Error) (o : Outcome) → (c || d) ≡ true →
    then_rest k [] s g (then_rest c [] t e (then_rest d [] u f o)) ≡ then_rest true [] (s ++ (t ++ u)) (error_after d e f) o
link_rest c d k t u s e f g o h =
    ap (then_rest k [] s g) (rest_rest c d [] [] t u e f o)
    ∙ rest_rest k (c || d) [] [] s (t ++ u) g (error_after d e f) o
    ∙ ap (λ b. then_rest (k || b) [] (s ++ (t ++ u)) (error_after b g (error_after d e f)) o) h
    ∙ ap (λ b. then_rest b [] (s ++ (t ++ u)) (error_after d e f) o) (or-true k)

pub after_link : (chain : Chain) (linked : Linked) (v w : List Tree) (t u : List TrailItem) (e f : Error) (c d : Bool) (o : Outcome) → (c || d) ≡ true →
    after_links chain linked (then_rest c [] t e (then_rest d [] u f (as_finished chain.side chain.shape linked.left v o))) ≡
    after_links chain (with_link chain linked v t e d w u f) o
after_link chain linked v w t u e f c d o h =
    let x = as_finished chain.side chain.shape linked.left v o in
    ap (then_rest linked.consumed [] linked.trail linked.error)
    (folded_rest chain linked.waiting c t e (then_rest d [] u f x) ∙ ap (then_rest c [] t e) (folded_rest chain linked.waiting d u f x))
    ∙ link_rest c d linked.consumed t u linked.trail e f linked.error (folded chain linked.waiting x) h

pub stuck_links : (chain : Chain) (linked : Linked) → after_links chain linked empty_round ≡ empty_round
stuck_links chain linked = ap (then_rest linked.consumed [] linked.trail linked.error) (stuck linked.waiting)
  where
    stuck : (waiting : List (List Tree × List Tree)) → folded chain waiting empty_round ≡ empty_round
    stuck [] = refl
    stuck (x ∷ waiting) = stuck waiting

pub noted_more : (k l : ℕ) (o : Outcome) → noted (Rounds (k + suc l)) o ≡ noted (Rounds (suc k + l)) o
noted_more k l o = let e : k + suc l ≡ suc k + l = omega arith in ap (λ n. noted (Rounds n) o) e
