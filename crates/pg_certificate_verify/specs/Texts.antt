-- The printed form of the faults of certificates.
use Rattle.std.specs.Prelude.{ℕ, List, ◌++◌, codes}
use Rattle.pg_predict.specs.Broken.{broken_text}
use Rattle.pg_predict.specs.Findings.{name_of}
use Rattle.pg_grammar_value.specs.Grammar.{Grammar}
use Rattle.pg_certificate_verify.specs.declared.verify_fault.Condition.{Condition}
use Rattle.pg_certificate_verify.specs.declared.verify_fault.Condition.TheVariants.{Nullable, First, Follow, Rank, Cost}
use Rattle.pg_certificate_verify.specs.declared.verify_fault.VerifyFault.{VerifyFault}
use Rattle.pg_certificate_verify.specs.declared.verify_fault.VerifyFault.TheVariants as fault

-- a condition by the key of the claim that fails
abbrev pub key_text : Condition → List ℕ
key_text Nullable = codes "nullable"
key_text First = codes "first"
key_text Follow = codes "follow"
key_text Rank = codes "rank"
key_text Cost = codes "h"

-- a rule's name and a condition
abbrev pub claim_text : List ℕ → Condition → List ℕ
claim_text name condition = codes "V3 " ++ (name ++ (codes " " ++ key_text condition))

-- the printed form of each fault
abbrev pub fault_text : Grammar → VerifyFault → List ℕ
fault_text g fault.NotJson = codes "V1 not JSON"
fault_text g fault.NotACertificate = codes "V2 not a certificate"
fault_text g (fault.NotClosed failing) = claim_text (name_of g.rules failing.rule) failing.condition
fault_text g (fault.Broken broken) = codes "V4 " ++ broken_text g broken
fault_text g fault.Memory = codes "out of memory"
