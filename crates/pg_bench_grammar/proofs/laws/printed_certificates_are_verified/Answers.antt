use Rattle.std.proofs.Common.{ℕ, List, true}
use Rattle.pg_certificate_laws.specs.Certified.{OwnCertificateLinesAreVerified}
use Rattle.pg_certificate_verify.specs.Refuted.{IsVerified}
use Rattle.pg_grammar_value.specs.Grammar.{Grammar, IsGrammar}
use Rattle.pg_bench_grammar.specs.Checking.{IsJudged, is_certified}
use Rattle.pg_bench_grammar.proofs.laws.printed_certificates_are_verified.Goals as goal

printed : OwnCertificateLinesAreVerified → (g : Grammar) (said : List ℕ) → IsGrammar g → IsJudged g true true said → IsVerified g said
printed law g said grammar (is_certified {certificate} faultless own) = law g certificate grammar faultless own

pub returns : goal.returns
returns c = λ offer file said judged.
    (judged.grammar, judged.spelled, printed c.own_certificate_lines_are_verified.ensures judged.grammar said judged.spelled.spells.spelled.grammar.says.sound judged.judged)
