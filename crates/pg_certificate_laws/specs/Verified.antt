-- What a verified certificate shows of its grammar.
use Rattle.std.specs.Prelude.{◌≡◌, ℕ, List}
use Rattle.pg_predict.specs.Conditions.{IsFaultless}
use Rattle.pg_grammar_value.specs.Grammar.{Grammar, IsGrammar}
use Rattle.pg_certificate_verify.specs.Refuted.{IsVerified, IsRefuted}
use Rattle.pg_certificate_verify.specs.declared.verify_fault.VerifyFault.{VerifyFault}
use Rattle.pg_certificate_verify.specs.declared.verify_fault.VerifyFault.TheVariants.{Memory}

-- if bytes are verified as a certificate of a grammar, nothing is wrong with it by its least sets and its step cost
abbrev pub VerifiedGrammarsAreAccepted : Type 0
VerifiedGrammarsAreAccepted = (g : Grammar) (bytes : List ℕ) → IsGrammar g → IsVerified g bytes → IsFaultless g

-- the only fault of verified bytes can be that memory ran out
abbrev pub VerifiedBytesAreNotRefuted : Type 0
VerifiedBytesAreNotRefuted = (g : Grammar) (bytes : List ℕ) (fault : VerifyFault) → IsGrammar g → IsVerified g bytes → IsRefuted g bytes fault → fault ≡ Memory
