-- A run that has read a whole text has derived it.
use Rattle.std.proofs.Common.{◌≡◌, ℕ, List, length, Bool, subst}
use Rattle.std.specs.Prelude.{Option, Some, None, Result, Ok, Err, IfOk, IfSome, slice_get}
use Rattle.pg_tree.specs.Trees.{Tree}
use Rattle.pg_grammar_value.specs.Grammar.{Grammar}
use Rattle.pg_grammar_value.specs.declared.grammar.Rule as declared
use Rattle.pg_table.specs.Tables.{Table}
use Rattle.pg_language.specs.Derives.{Derives}
use Rattle.pg_language.specs.Answers.{given}
use Rattle.pg_language.specs.Errors.{Error, without_position}
use Rattle.pg_language.specs.declared.reading.Reading.TheVariants.{Library}
use Rattle.pg_machine_turns.specs.Spots.{spot_at}
use Rattle.pg_machine.specs.Outcomes.{IsDerived, IsOutcome, outcome_with}
use Rattle.pg_machine.specs.declared.answer.Answer.{Answer}
use Rattle.pg_machine.specs.declared.answer.Success.{Success}
use Rattle.pg_machine.specs.declared.answer.Outcome.{Outcome}
use Rattle.pg_machine.specs.declared.answer.Outcome.TheVariants.{Answered}
use Rattle.pg_explain_comparison.specs.Kept.{AreAlike, IsAnsweredSo, IsDerivedTo, IsFate, IsReadSo, IsUnread, IsWhole}
use Rattle.pg_explain_comparison.specs.declared.fate.Fate.{Fate}
use Rattle.pg_explain_comparison.specs.declared.fate.Fate.TheVariants.{SameTrees, OtherTrees, Unread, Lost, Unknown}

-- what was read up to the end of the text is derived
derived_to : (g : Grammar) (text : List ℕ) (table : Table) (IsSo : List Tree → Type 0) (s : Success) (start : declared.Rule) → slice_get g.rules g.start ≡ Some start →
    Derives g text start.body (spot_at table 0) (spot_at s.table s.place) s.forest s.trail → s.place ≡ length text → IsSo s.forest → IsDerivedTo g table text IsSo
derived_to g text table IsSo s start is d end so =
    let body = subst (λ (p : ℕ). Derives g text start.body (spot_at table 0) (spot_at s.table p) s.forest s.trail) end d in
    record { trail = s.trail; forest = s.forest; derived = record { after = s.table; derived = record { start = start; is_start = is; body = body } }; so = so }

of_success : (g : Grammar) (text : List ℕ) (table : Table) (forest : List Tree) (consumed : Bool) (e : Error) (found : Option Success) (fate : Fate) (start : declared.Rule) → slice_get g.rules g.start ≡ Some start →
    IsDerived (given Library g text) start.body (spot_at table 0) (outcome_with consumed e found) → IsAnsweredSo text forest found fate → IsFate g table text forest fate
of_success g text table forest consumed e None SameTrees start is d so = elim so [ ]
of_success g text table forest consumed e None OtherTrees start is d so = elim so [ ]
of_success g text table forest consumed e None Unread start is d so = tt
of_success g text table forest consumed e None Lost start is d so = tt
of_success g text table forest consumed e None Unknown start is d so = tt
of_success g text table forest consumed e (Some s) SameTrees start is d so = derived_to g text table (AreAlike forest) s start is d so.0 so.1
of_success g text table forest consumed e (Some s) OtherTrees start is d so = derived_to g text table (λ other. AreAlike forest other → ⊥) s start is d so.0 so.1
of_success g text table forest consumed e (Some s) Unread start is d so = tt
of_success g text table forest consumed e (Some s) Lost start is d so = tt
of_success g text table forest consumed e (Some s) Unknown start is d so = tt

-- a fate that agrees with a run's answer is the fate of the text
pub answered_is_fate : (g : Grammar) (text : List ℕ) (table : Table) (forest : List Tree) (most : ℕ) (a : Answer) (fate : Fate) →
    IsOutcome (given Library g text) table most (Answered a) → IsAnsweredSo text forest a.success fate → IsFate g table text forest fate
answered_is_fate g text table forest most a fate is so =
    of_success g text table forest a.consumed (without_position a.error) a.success fate is.0.answers.start is.0.answers.is_start is.0.derived so

-- a run that was ok and has read the whole text has derived it, with its trail and its forest
of_run : (g : Grammar) (text : List ℕ) (table : Table) (s : Success) (consumed : Bool) (e : Error) (start : declared.Rule) → slice_get g.rules g.start ≡ Some start →
    IsDerived (given Library g text) start.body (spot_at table 0) (outcome_with consumed e (Some s)) → s.place ≡ length text → IsReadSo g table text s
of_run g text table s consumed e start is d end =
    let body = subst (λ (p : ℕ). Derives g text start.body (spot_at table 0) (spot_at s.table p) s.forest s.trail) end d in
    record { after = s.table; derived = record { start = start; is_start = is; body = body } }

of_whole : (g : Grammar) (text : List ℕ) (table : Table) (found : Option Success) (s : Success) (consumed : Bool) (e : Error) (start : declared.Rule) → slice_get g.rules g.start ≡ Some start →
    IsDerived (given Library g text) start.body (spot_at table 0) (outcome_with consumed e found) → IsWhole text found s → IsReadSo g table text s
of_whole g text table found s consumed e start is d whole =
    of_run g text table s consumed e start is (subst (λ (f : Option Success). IsDerived (given Library g text) start.body (spot_at table 0) (outcome_with consumed e f)) whole.0 d) whole.1

of_answer : (g : Grammar) (text : List ℕ) (table : Table) (most : ℕ) (a : Answer) (s : Success) →
    IsOutcome (given Library g text) table most (Answered a) → IsWhole text a.success s → IsReadSo g table text s
of_answer g text table most a s is whole =
    of_whole g text table a.success s a.consumed (without_position a.error) is.0.answers.start is.0.answers.is_start is.0.derived whole

-- what a run's answer gives, if it has read the whole text
pub if_whole : (g : Grammar) (text : List ℕ) (table : Table) (most : ℕ) {o : Outcome} {a : Answer} (found : Option Success) →
    IsOutcome (given Library g text) table most o → o ≡ Answered a → IfSome found (IsWhole text a.success) → IfSome found (IsReadSo g table text)
if_whole g text table most {a = a} found is answers so = of_found found so (subst (IsOutcome (given Library g text) table most) answers is)
  where
    of_found : (f : Option Success) → IfSome f (IsWhole text a.success) → IsOutcome (given Library g text) table most (Answered a) → IfSome f (IsReadSo g table text)
    of_found (Some s) so is = of_answer g text table most a s is so
    of_found None so is = tt

pub unread_is_fate : (g : Grammar) (text : List ℕ) (table : Table) (forest : List Tree) (fate : Fate) → IsUnread fate → IsFate g table text forest fate
unread_is_fate g text table forest SameTrees is = elim is [ ]
unread_is_fate g text table forest OtherTrees is = elim is [ ]
unread_is_fate g text table forest Unread is = tt
unread_is_fate g text table forest Lost is = tt
unread_is_fate g text table forest Unknown is = tt

-- as `answered_is_fate`, for a call that may run out of memory
pub if_answered : {F : Type 0} (g : Grammar) (text : List ℕ) (table : Table) (forest : List Tree) (most : ℕ) {o : Outcome} {a : Answer} (told : Result Fate F) →
    IsOutcome (given Library g text) table most o → o ≡ Answered a → IfOk told (IsAnsweredSo text forest a.success) → IfOk told (IsFate g table text forest)
if_answered {F = F} g text table forest most {a = a} told is answers so = of_told told so (subst (IsOutcome (given Library g text) table most) answers is)
  where
    of_told : (r : Result Fate F) → IfOk r (IsAnsweredSo text forest a.success) → IsOutcome (given Library g text) table most (Answered a) → IfOk r (IsFate g table text forest)
    of_told (Ok fate) so is = answered_is_fate g text table forest most a fate is so
    of_told (Err e) so is = tt
