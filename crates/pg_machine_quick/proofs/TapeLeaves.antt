-- What leaves do to tapes: they leave the table, and put the trees at the end.
use Rattle.std.proofs.Common.{◌≡◌, ◌∙◌, ◌+◌, ◌==◌, ℕ, suc, List, [], ◌∷◌, ◌++◌, Bool, true, false, ◌||◌, refl, sym, ap, subst, Option, Some, None, length, slice_get, if◌then◌else◌}
use Rattle.std.specs.Prelude.{nat_lt, codes}
use Rattle.std.specs.List.{list_any}
use Rattle.std.specs.Str.{bytes_eq}
use Rattle.pg_grammar_value.specs.Grammar.{Grammar}
use Rattle.pg_grammar_form.specs.ClassItems.{has_character}
use Rattle.pg_grammar_form.specs.declared.class.ClassPart.{ClassPart}
use Rattle.pg_grammar_form.specs.declared.word_item.WordItem.{WordItem}
use Rattle.pg_grammar_form.specs.Forms.{Node}
use Rattle.pg_grammar_form.specs.declared.form.Form.TheVariants as form
use Rattle.pg_grammar_form.specs.declared.form.Leaf.{Leaf}
use Rattle.pg_grammar_form.specs.declared.form.Leaf.TheVariants as leaf
use Rattle.pg_language.specs.Answers.{Given}
use Rattle.pg_language.specs.Derives.{Spot, after}
use Rattle.pg_language.specs.Errors.{stopped_by, stopped_before, refused, refused_before, seen_at, quote}
use Rattle.pg_language.specs.Leaves.{leaf_outcome, satisfy_next, not_followed_next, word_next, word_read, some_word_outcome, string_outcome, end_outcome, matched, taken}
use Rattle.pg_language.specs.Outcomes.{Outcome, ok, failed, empty_round}
use Rattle.pg_language.specs.Runs.{run_at}
use Rattle.pg_table.specs.Tables.{Table}
use Rattle.pg_machine_quick.specs.Tape.{tape, tape_goes, spot_at, tape_has_read, tape_declares, tape_reads, tape_spans}
use Rattle.pg_machine_quick.specs.Turns.{State, state, goes, added, has_read, reads, spans, leaves_of, is_some_character}
use Rattle.pg_machine_plan.specs.declared.instruction.Keep.{Keep}
use Rattle.pg_machine_quick.proofs.TapeStates.{below, waiting, flat, IsFine, Follows, joined_trees, added_fine, back_follows}

-- ---- leaves

-- an outcome leaves the table of a spot
abbrev pub Leaves : Spot → Option Outcome → Type 0
Leaves a (Some (ok c b v t e)) = b.table ≡ a.table
Leaves a (Some (failed c e)) = Unit {0}
Leaves a (Some empty_round) = Unit {0}
Leaves a None = Unit {0}

pub either : (a : Spot) (o q : Outcome) (b : Bool) → Leaves a (Some o) → Leaves a (Some q) → Leaves a (Some (if b then o else q))
either a o q true h r = h
either a o q false h r = r

pub satisfy_leaves : (g : Grammar) (class : List ClassPart) (a : Spot) (x : Option ℕ) → Leaves a (Some (satisfy_next g class a x))
satisfy_leaves g class a None = tt
satisfy_leaves g class a (Some c) =
    either a (taken a (c ∷ [])) (failed false (stopped_by (quote (c ∷ [])) a.place)) (has_character g.classes class c) refl tt

pub not_followed_leaves : (g : Grammar) (class : List ClassPart) (a : Spot) (x : Option ℕ) → Leaves a (Some (not_followed_next g class a x))
not_followed_leaves g class a None = refl
not_followed_leaves g class a (Some c) =
    either a (failed false (refused (quote (c ∷ [])) a.place)) (ok false a [] [] (stopped_by (quote (c ∷ [])) a.place)) (has_character g.classes class c) tt refl

pub read_word : (item : WordItem) (a : Spot) (s : List ℕ) → Leaves a (Some (word_read item a s))
read_word item a s = either a (failed false (refused (codes "reserved word " ++ quote s) a.place)) (taken a s)
    (list_any (λ reserved. bytes_eq reserved s) item.reserved) tt refl

pub word_leaves : (g : Grammar) (text : List ℕ) (item : WordItem) (a : Spot) (x : Option ℕ) → Leaves a (Some (word_next g text item a x))
word_leaves g text item a None = tt
word_leaves g text item a (Some c) =
    either a (word_read item a (c ∷ run_at g text item.rest (suc a.place))) (failed false (stopped_by (quote (c ∷ [])) a.place)) (has_character g.classes item.head c)
    (read_word item a (c ∷ run_at g text item.rest (suc a.place))) tt

pub some_word_leaves : (g : Grammar) (text : List ℕ) (a : Spot) (item : Option WordItem) → Leaves a (some_word_outcome g text a item)
some_word_leaves g text a None = tt
some_word_leaves g text a (Some item) = word_leaves g text item a (slice_get text a.place)

pub string_leaves : (text s : List ℕ) (a : Spot) → Leaves a (Some (string_outcome text s a))
string_leaves text s a = either a (taken a s)
    (failed (nat_lt 0 (matched text s a.place)) (stopped_before (quote s) (seen_at text (a.place + matched text s a.place)) a.place))
    (matched text s a.place == length s) refl tt

pub end_leaves : (text : List ℕ) (a : Spot) → Leaves a (Some (end_outcome text a))
end_leaves text a = either a (ok false a [] [] (stopped_before (codes "end of input") [] a.place))
    (failed false (refused_before (codes "end of input") (seen_at text a.place) a.place)) (a.place == length text) refl tt

-- ---- what leaves do

pub one_spot : (table : Table) (a : Spot) → a.table ≡ table → spot_at table a.place ≡ a
one_spot table a e = ap (λ t. spot_at t a.place) (sym e)

pub outcome_follows : (table : Table) (keep : Keep) (s : State) (o : Option Outcome) → IsFine table s → Leaves s.spot o →
    Follows table (tape_has_read keep (flat s) o) (has_read keep s o)
outcome_follows table keep s None fine h = tt
outcome_follows table keep s (Some (ok c b v t e)) fine h =
    let z : State = state (s.pc + 1) b s.stack (added keep s.forest v) (s.nodes + 1) (s.taken || c) in (
      z,
      refl,
      ap (λ f. tape (s.pc + 1) b.place (waiting s.stack) f (s.nodes + 1) (s.taken || c)) (joined_trees keep (below s.stack) s.forest v),
      record { spot = h ∙ fine.spot; stack = added_fine keep table s.forest v s.stack fine.stack },
    )
outcome_follows table keep s (Some (failed c e)) fine h = back_follows table (s.taken || c) (s.nodes + 1) (below s.stack ++ s.forest) s.forest s.stack refl fine.stack
outcome_follows table keep s (Some empty_round) fine h = tt

pub leaf_follows : (G : Given) (table : Table) (keep : Keep) (s : State) (l : Leaf ℕ) → IsFine table s → Leaves s.spot (leaf_outcome G.grammar G.text l s.spot) →
    Follows table (tape_has_read keep (flat s) (leaf_outcome G.grammar G.text l (spot_at table s.spot.place))) (has_read keep s (leaf_outcome G.grammar G.text l s.spot))
leaf_follows G table keep s l fine h =
    subst (λ (a : Spot). Follows table (tape_has_read keep (flat s) (leaf_outcome G.grammar G.text l a)) (has_read keep s (leaf_outcome G.grammar G.text l s.spot)))
    (sym (one_spot table s.spot fine.spot)) (outcome_follows table keep s (leaf_outcome G.grammar G.text l s.spot) fine h)

-- a declaration that fails
declares_follow : (table : Table) (keep : Keep) (s : State) (x : Option Outcome) → IsFine table s → Follows table (tape_declares (flat s) x) (has_read keep s x)
declares_follow table keep s (Some (failed c e)) fine = outcome_follows table keep s (Some (failed c e)) fine tt
declares_follow table keep s (Some (ok c b v t e)) fine = tt
declares_follow table keep s (Some empty_round) fine = tt
declares_follow table keep s None fine = tt

pub reads_follow : (G : Given) (table : Table) (keep : Keep) (s : State) (n : Option Node) → IsFine table s → Follows table (tape_reads G table keep (flat s) n) (reads G keep s n)
reads_follow G table keep s None fine = tt
reads_follow G table keep s (Some (form.Leaf (leaf.Satisfy class))) fine =
    leaf_follows G table keep s (leaf.Satisfy class) fine (satisfy_leaves G.grammar class s.spot (slice_get G.text s.spot.place))
reads_follow G table keep s (Some (form.Leaf (leaf.String x))) fine = leaf_follows G table keep s (leaf.String x) fine (string_leaves G.text x s.spot)
reads_follow G table keep s (Some (form.Leaf (leaf.Word w))) fine =
    leaf_follows G table keep s (leaf.Word w) fine (some_word_leaves G.grammar G.text s.spot (slice_get G.grammar.words w))
reads_follow G table keep s (Some (form.Leaf (leaf.NotFollowedBy class))) fine =
    leaf_follows G table keep s (leaf.NotFollowedBy class) fine (not_followed_leaves G.grammar class s.spot (slice_get G.text s.spot.place))
reads_follow G table keep s (Some (form.Leaf leaf.EndOfText)) fine = leaf_follows G table keep s leaf.EndOfText fine (end_leaves G.text s.spot)
reads_follow G table keep s (Some (form.Leaf (leaf.Declare class))) fine =
    subst (λ (a : Spot). Follows table (tape_declares (flat s) (leaf_outcome G.grammar G.text (leaf.Declare class) a)) (has_read keep s (leaf_outcome G.grammar G.text (leaf.Declare class) s.spot)))
    (sym (one_spot table s.spot fine.spot)) (declares_follow table keep s (leaf_outcome G.grammar G.text (leaf.Declare class) s.spot) fine)
reads_follow G table keep s (Some (form.Seq ps)) fine = tt
reads_follow G table keep s (Some (form.Choice ps)) fine = tt
reads_follow G table keep s (Some (form.Many p)) fine = tt
reads_follow G table keep s (Some (form.Chain side used p q)) fine = tt
reads_follow G table keep s (Some (form.Rule r)) fine = tt
reads_follow G table keep s (Some (form.Expression builders p)) fine = tt
reads_follow G table keep s (Some (form.Around k p)) fine = tt

pub class_follows : (table : Table) (keep : Keep) (s : State) (cs : List ℕ) → IsFine table s →
    Follows table (tape_goes (tape (s.pc + 1) (s.spot.place + length cs) (waiting s.stack) (added keep (below s.stack ++ s.forest) (leaves_of cs)) (s.nodes + (2 + length cs))
    (s.taken || is_some_character cs)))
    (goes (state (s.pc + 1) (after s.spot (length cs)) s.stack (added keep s.forest (leaves_of cs)) (s.nodes + (2 + length cs)) (s.taken || is_some_character cs)))
class_follows table keep s cs fine = (
  state (s.pc + 1) (after s.spot (length cs)) s.stack (added keep s.forest (leaves_of cs)) (s.nodes + (2 + length cs)) (s.taken || is_some_character cs),
  refl,
  ap (λ f. tape (s.pc + 1) (s.spot.place + length cs) (waiting s.stack) f (s.nodes + (2 + length cs)) (s.taken || is_some_character cs))
      (joined_trees keep (below s.stack) s.forest (leaves_of cs)),
  record { spot = fine.spot; stack = added_fine keep table s.forest (leaves_of cs) s.stack fine.stack },
)

pub spans_follow : (G : Given) (table : Table) (keep : Keep) (s : State) (n : Option Node) → IsFine table s → Follows table (tape_spans G keep (flat s) n) (spans G keep s n)
spans_follow G table keep s None fine = tt
spans_follow G table keep s (Some (form.Leaf (leaf.Satisfy class))) fine = class_follows table keep s (run_at G.grammar G.text class s.spot.place) fine
spans_follow G table keep s (Some (form.Leaf (leaf.String x))) fine = tt
spans_follow G table keep s (Some (form.Leaf (leaf.Word w))) fine = tt
spans_follow G table keep s (Some (form.Leaf (leaf.NotFollowedBy class))) fine = tt
spans_follow G table keep s (Some (form.Leaf leaf.EndOfText)) fine = tt
spans_follow G table keep s (Some (form.Leaf (leaf.Declare class))) fine = tt
spans_follow G table keep s (Some (form.Seq ps)) fine = tt
spans_follow G table keep s (Some (form.Choice ps)) fine = tt
spans_follow G table keep s (Some (form.Many p)) fine = tt
spans_follow G table keep s (Some (form.Chain side used p q)) fine = tt
spans_follow G table keep s (Some (form.Rule r)) fine = tt
spans_follow G table keep s (Some (form.Expression builders p)) fine = tt
spans_follow G table keep s (Some (form.Around k p)) fine = tt
