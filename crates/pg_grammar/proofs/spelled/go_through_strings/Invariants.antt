use Rattle.std.proofs.Common.{◌≡◌, false, take}
use Rattle.std.specs.List.{list_any}
use Rattle.pg_grammar_value.specs.Grammar.{is_misspelled}
use Rattle.pg_grammar.proofs.spelled.go_through_strings.Given as goal

abbrev pub invariant-loop-form : goal.invariant-loop-form
invariant-loop-form l = list_any is_misspelled (take l.form-index l.forms) ≡ false
