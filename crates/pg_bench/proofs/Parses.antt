-- What a run of an accepted grammar says of a text, in terms of the promise and of the bytes that spell the text.
use Rattle.std.proofs.Common.{◌≡◌, ◌≤◌, ◌+◌, ◌*◌, ℕ, Bool, false, length, List, Option, None, Some, refl, sym, ap, ◌∙◌, subst}
use Rattle.std.specs.Prelude.{IfSome, IfNone}
use Rattle.std.specs.Io.KnownBytes.{Consumes, IsAtEnd}
use Rattle.pg_tree.specs.Meter.{Metered}
use Rattle.pg_tree.specs.Trees.{Tree}
use Rattle.pg_grammar_value.specs.Grammar.{Grammar}
use Rattle.pg_grammar_value.specs.declared.trail.TrailItem.{TrailItem}
use Rattle.pg_table.specs.Tables.{Table, Added, initial, whole}
use Rattle.pg_table.specs.Tables as tables
use Rattle.pg_language.specs.Derives.{DerivesText}
use Rattle.pg_language.specs.Answers.{given}
use Rattle.pg_language.specs.Errors.{without_position}
use Rattle.pg_language.specs.Outcomes.{ok}
use Rattle.pg_language.specs.declared.reading.Reading.TheVariants.{Library}
use Rattle.pg_machine.specs.CheckedRuns.{IsTextAnswer, IsOnlyDerivation, IsUnderivable}
use Rattle.pg_machine.specs.Outcomes.{outcome_of, outcome_with}
use Rattle.pg_machine.specs.declared.answer.Answer.{Answer}
use Rattle.pg_machine.specs.declared.answer.Success.{Success}
use Rattle.pg_predict.specs.Checked.{GrammarWithSets, IsChecked}
use Rattle.pg_bench_grammar.specs.declared.bench_fault.BenchFault.{BenchFault}
use Rattle.pg_bench_grammar.specs.declared.bench_fault.BenchFault.TheVariants.{Reader, NotUtf8, TooLong, ParseError, Memory}
use Rattle.pg_bench.specs.Parsed.{IsSpelledBy, IsForestOfBytes}
use Rattle.pg_bench.specs.Refusals.{IsErrorOfAnswer, IsWell, IsReadRefusal, IsTextRefusal, IsParseRefusal, IsRunRefusal, IsTextFault}
use Rattle.pg_derive.specs.LeastSets.{node_sets}
use Rattle.pg_derive.specs.PredictiveLaws.{LosesNoAlternative, EachRoundConsumes, EachLinkConsumes}
use Rattle.pg_derive_backtracking.specs.Backtracking.{StartReadsNothingTwice}
use Rattle.pg_bench.specs.declared.done.Done.{Done}
use Rattle.pg_bench.specs.Promise.{IsAnsweredIn, CommitsRightly, IsForestOfText, IsErrorOfText, most_steps}

commits_rightly : (checked : GrammarWithSets) (text : List ℕ) → IsChecked checked
    → LosesNoAlternative (given Library checked.grammar text) (node_sets checked.grammar checked.sets) → EachRoundConsumes (given Library checked.grammar text)
    → EachLinkConsumes (given Library checked.grammar text) → StartReadsNothingTwice (given Library checked.grammar text) → CommitsRightly checked.grammar text
commits_rightly checked text is choices rounds links once =
    record { sets = checked.sets; least = is.sets; choices = choices; rounds = rounds; links = links; once = once }

answered_in : (checked : GrammarWithSets) (text : List ℕ) (table : Table) (a : Answer) (planned : Bool) → IsChecked checked → IsTextAnswer (given Library checked.grammar text) table a
    → a.steps ≤ checked.cost * (length text + 1) → IsAnsweredIn checked.grammar text table (outcome_of a) (record { steps = a.steps; cost = checked.cost; most = most_steps checked.cost (length text + 1); planned = planned })
answered_in checked text table a planned is h few = record {
  nodes = h.nodes;
  answers = h.answers;
  steps = h.steps;
  cost = record { marks = checked.sets.nullable; nullable = is.sets.nullable; cost = is.cost };
  few = few;
  most = refl;
}

pub found_forest : (checked : GrammarWithSets) (text : List ℕ) (table : Table) (a : Answer) (s : Success) (done : Done) (planned : Bool) → IsChecked checked
    → initial checked.grammar ≡ whole table → IsTextAnswer (given Library checked.grammar text) table a → a.steps ≤ checked.cost * (length text + 1)
    → IfSome a.success (IsOnlyDerivation checked.grammar text table)
    → LosesNoAlternative (given Library checked.grammar text) (node_sets checked.grammar checked.sets) → EachRoundConsumes (given Library checked.grammar text)
    → EachLinkConsumes (given Library checked.grammar text) → StartReadsNothingTwice (given Library checked.grammar text) → a.success ≡ Some s → done ≡ record { steps = a.steps; cost = checked.cost; most = most_steps checked.cost (length text + 1); planned = planned }
    → IsForestOfText checked.grammar text s.forest s.trail done
found_forest checked text table a s done planned is initially reply few derived choices rounds links once answered took =
    let g = checked.grammar in
    let h = subst (λ o. IfSome o (IsOnlyDerivation g text table)) answered derived in
    let taken : Done = record { steps = a.steps; cost = checked.cost; most = most_steps checked.cost (length text + 1); planned = planned } in
    let shown = subst (λ o. IsAnsweredIn g text table (outcome_with a.consumed (without_position a.error) o) taken) answered (answered_in checked text table a planned is reply few) in
    record {
      table = table;
      is_table = initially;
      after = s.table;
      consumed = a.consumed;
      error = without_position a.error;
      answered =
          subst (IsAnsweredIn g text table (ok a.consumed (record { place = length text; table = s.table }) s.forest s.trail (without_position a.error))) (sym took)
          (subst (λ (n : ℕ). IsAnsweredIn g text table (ok a.consumed (record { place = n; table = s.table }) s.forest s.trail (without_position a.error)) taken) h.end shown);
      derives = h.derives;
      only = h.only;
      commits = commits_rightly checked text is choices rounds links once;
    }

found_error : (checked : GrammarWithSets) (text : List ℕ) (table : Table) (a : Answer) → IsChecked checked → initial checked.grammar ≡ whole table
    → a.success ≡ None → IsTextAnswer (given Library checked.grammar text) table a → a.steps ≤ checked.cost * (length text + 1) → IsUnderivable checked.grammar text table
    → LosesNoAlternative (given Library checked.grammar text) (node_sets checked.grammar checked.sets) → EachRoundConsumes (given Library checked.grammar text)
    → EachLinkConsumes (given Library checked.grammar text) → StartReadsNothingTwice (given Library checked.grammar text) → IsErrorOfText checked.grammar text a.error
found_error checked text table a is initially none h few underivable choices rounds links once =
    let taken : Done = record { steps = a.steps; cost = checked.cost; most = most_steps checked.cost (length text + 1); planned = false } in
    record {
      table = table;
      is_table = initially;
      none = underivable;
      consumed = a.consumed;
      error = without_position a.error;
      done = taken;
      answered =
          subst (λ (s : Option Success). IsAnsweredIn checked.grammar text table (outcome_with a.consumed (without_position a.error) s) taken) none
          (answered_in checked text table a false is h few);
      stands = subst (λ p. record { place = a.error.place; position = p; messages = a.error.messages } ≡ a.error) h.position refl;
      commits = commits_rightly checked text is choices rounds links once;
    }

pub found_refused : (checked : GrammarWithSets) (text : List ℕ) (table : Table) (a : Answer) (fault : BenchFault) → IsChecked checked
    → initial checked.grammar ≡ whole table → IsTextAnswer (given Library checked.grammar text) table a → a.steps ≤ checked.cost * (length text + 1)
    → IfNone a.success (IsUnderivable checked.grammar text table)
    → LosesNoAlternative (given Library checked.grammar text) (node_sets checked.grammar checked.sets) → EachRoundConsumes (given Library checked.grammar text)
    → EachLinkConsumes (given Library checked.grammar text) → StartReadsNothingTwice (given Library checked.grammar text) → IsErrorOfAnswer a fault → IsRunRefusal checked.grammar text fault
found_refused checked text table a (ParseError error) is initially h few refused choices rounds links once answered =
    let underivable = subst (λ o. IfNone o (IsUnderivable checked.grammar text table)) answered.0 refused in
    subst (IsErrorOfText checked.grammar text) (sym answered.1) (found_error checked text table a is initially answered.0 h few underivable choices rounds links once)
found_refused checked text table a _ is initially h few refused choices rounds links once answered = absurd answered

pub bytes_forest : (g : Grammar) (bytes text : List ℕ) (forest : List Tree) (trail : List TrailItem) (done : Done) → IsSpelledBy bytes text
    → IsForestOfText g text forest trail done → IsForestOfBytes g bytes forest trail done
bytes_forest g bytes text forest trail done spelled h =
    record { utf8 = spelled.utf8; within = spelled.within; text = subst (λ (t : List ℕ). IsForestOfText g t forest trail done) spelled.same h }

pub bytes_refused : (g : Grammar) (bytes text : List ℕ) (fault : BenchFault) → IsSpelledBy bytes text → IsRunRefusal g text fault
    → IsParseRefusal g bytes fault
bytes_refused g bytes text (ParseError error) spelled h =
    record { utf8 = spelled.utf8; within = spelled.within; text = subst (λ (t : List ℕ). IsErrorOfText g t error) spelled.same h }
bytes_refused g bytes text Memory spelled h = tt
bytes_refused g bytes text _ spelled h = absurd h

pub text_refused : (g : Grammar) (bytes : List ℕ) (fault : BenchFault) → IsTextRefusal bytes fault → IsParseRefusal g bytes fault
text_refused g bytes NotUtf8 h = h
text_refused g bytes TooLong h = h
text_refused g bytes Memory h = tt
text_refused g bytes _ h = absurd h

-- ---- by the steps of a parse

pub read_refused : {R : Type 0} (g : Grammar) (before after : Metered R) (reader left : Option (List ℕ)) (fault : BenchFault)
    → IsReadRefusal before after fault → IsTextFault g before after reader left fault
read_refused g before after reader left Reader h = h
read_refused g before after reader left Memory h = tt
read_refused g before after reader left _ h = absurd h

pub parse_refused : {R : Type 0} (g : Grammar) (before after : Metered R) (reader left : Option (List ℕ)) (bytes : List ℕ) (fault : BenchFault)
    → Consumes reader left bytes → IsAtEnd left → IsWell before after → IsParseRefusal g bytes fault → IsTextFault g before after reader left fault
parse_refused g before after reader left bytes NotUtf8 read end well h = (well, (bytes, read, end, h))
parse_refused g before after reader left bytes TooLong read end well h = (well, (bytes, read, end, h))
parse_refused g before after reader left bytes (ParseError error) read end well h = (well, (bytes, read, end, h))
parse_refused g before after reader left bytes Memory read end well h = tt
parse_refused g before after reader left bytes _ read end well h = absurd h

-- ---- under a table that is the initial one

-- the text is derived from it
pub under_table : (g : Grammar) (text : List ℕ) (table : Table) (forest : List Tree) (trail : List TrailItem) (done : Done) → initial g ≡ whole table
    → IsForestOfText g text forest trail done → (after : Table) × DerivesText g text table after forest trail
under_table g text table forest trail done initially h =
    let same : h.table ≡ table = one_table (sym h.is_table ∙ initially) in
    (h.after, subst (λ (t : Table). DerivesText g text t h.after forest trail) same h.derives)
  where
    table_in : Table → Added → Table
    table_in other (whole t) = t
    table_in other (tables.refused k fault) = other

    one_table : {a b : Table} → whole a ≡ whole b → a ≡ b
    one_table {a} h = ap (table_in a) h
