-- Grammars that aren't accepted.
use Rattle.std.specs.Prelude.{◌≡◌, ◌<◌, ℕ, nat_eq, List, length, map}
use Rattle.std.specs.List.{filter}
use Rattle.pg_grammar_value.specs.Grammar.{Grammar}
use Rattle.pg_sets.specs.Sets.{Sets}
use Rattle.pg_sets_own.specs.declared.listed.ListedStart.{ListedStart}
use Rattle.pg_predict_conditions.specs.Conditions.{least_facts}
use Rattle.pg_predict.specs.Findings.{Finding, AreFindings, AreViolations, finding_of}
use Rattle.pg_predict_conditions.specs.Judged.{Facts, all_starts, noted_grammar}
use Rattle.pg_predict_conditions.specs.Shown.{SetsSay}
use Rattle.pg_predict.specs.Found.{Found}
use Rattle.pg_predict.specs.Texts.{IsSource}
use Rattle.pg_predict_conditions.specs.Violations.{Violation, kinds_of}
use Rattle.pg_predict_conditions.specs.WithStarts.{with_starts}
use Rattle.pg_predict.specs.declared.source.Source.{Source}
use Rattle.pg_predict_conditions.specs.declared.violation.ViolationKind.{ViolationKind}

-- a grammar with its sets, the operator start, which needn't be in them, and everything that is wrong with it: as findings, and
-- as violations with the numbers of starts
pub record RefusedGrammar : Type 0 where
  pub grammar : Grammar
  pub sets : Sets
  pub operator : ListedStart
  pub findings : List Finding
  pub violations : List (Violation ℕ)

-- the findings are made from this, and there is at least one
pub record IsRefusal (source : Source) : Type 0 where
  pub is_source : IsSource source
  pub any : 0 < length (noted_grammar source.grammar source.judge)

-- the findings of the computed violations of a grammar
abbrev pub findings_noted : Grammar → Facts → List Finding
findings_noted g facts = map (finding_of g) (map (with_starts (all_starts facts)) (noted_grammar g facts))

-- the refused grammar of this source
abbrev pub refused_by : Source → RefusedGrammar
refused_by source = record {
  grammar = source.grammar;
  sets = source.judge.sets;
  operator = (all_starts source.judge).own;
  findings = findings_noted source.grammar source.judge;
  violations = noted_grammar source.grammar source.judge;
}

-- a grammar with everything that is wrong with it, which is something
pub record IsRefused (g : Grammar) (refused : RefusedGrammar) : Type 0 where
  pub same : refused.grammar ≡ g
  pub sets : SetsSay g (least_facts g) refused.sets
  pub findings : AreFindings g refused.findings
  pub violations : AreViolations g (map (with_starts (record { listed = refused.sets.starts; own = refused.operator })) refused.violations)
  pub some : 0 < length refused.findings

-- the violations at a node
abbrev pub violations_at : ℕ → List (Violation ℕ) → List (Violation ℕ)
violations_at p violations = filter (λ v. nat_eq v.node p) violations

abbrev pub kinds_at : ℕ → List (Violation ℕ) → List (ViolationKind ℕ)
kinds_at p violations = kinds_of (violations_at p violations)

-- a violation with its finding
abbrev pub found_of : RefusedGrammar → Violation ℕ → Found
found_of refused v = record {
  violation = v;
  finding = finding_of refused.grammar (with_starts (record { listed = refused.sets.starts; own = refused.operator }) v);
}
