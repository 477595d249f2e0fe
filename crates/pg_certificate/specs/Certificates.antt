-- Which JSON values, and which bytes, are a certificate of a grammar.
use Rattle.std.specs.Prelude.{◌≡◌, ℕ, List, map, codes, Some}
use Rattle.std.specs.Str.{IsUtf8}
use Rattle.serde_json.specs.Data.{Data}
use Rattle.serde_json.specs.Read.{read}
use Rattle.pg_grammar_form.specs.Names.{Name}
use Rattle.pg_grammar_value.specs.Grammar.{Grammar, rule_names}
use Rattle.pg_certificate.specs.Claims.{SaysEach, SaysUnder, key_count, SaysFlag, SaysNumber, SaysRank, SaysText, SaysStart}
use Rattle.pg_certificate.specs.declared.certificate.RuleClaim.{RuleClaim}

-- an object of six keys, with a claim about a rule under each
pub record SaysClaim (g : Grammar) (d : Data) (claim : RuleClaim) : Type 0 where
  pub keys : key_count d ≡ 6
  pub first : SaysUnder (codes "first") (SaysEach (SaysStart g)) d claim.first
  pub follow : SaysUnder (codes "follow") (SaysEach (SaysStart g)) d claim.follow
  pub cost : SaysUnder (codes "h") SaysNumber d claim.cost
  pub nullable : SaysUnder (codes "nullable") SaysFlag d claim.nullable
  pub rank : SaysUnder (codes "rank") SaysRank d claim.rank
  pub rule : SaysUnder (codes "rule") SaysText d claim.rule

abbrev pub claim_rule : RuleClaim → Name
claim_rule claim = claim.rule

-- an array with a claim for each rule of the grammar, in file order
abbrev pub SaysRules : Grammar → Data → List RuleClaim → Type 0
SaysRules g d claims = SaysEach (SaysClaim g) d claims × (map claim_rule claims ≡ rule_names g)

-- an object with one key and that array as its value
abbrev pub SaysCertificate : Grammar → Data → List RuleClaim → Type 0
SaysCertificate g d claims = (key_count d ≡ 1) × SaysUnder (codes "rules") (SaysRules g) d claims

-- the bytes are UTF-8 and a JSON text of this value; the last value of a key that is given twice counts
abbrev pub IsJsonOf : List ℕ → Data → Type 0
IsJsonOf bytes d = IsUtf8 bytes × (read bytes ≡ Some d)

-- the bytes are the JSON of a certificate of the grammar
abbrev pub IsCertificateText : Grammar → List ℕ → List RuleClaim → Type 0
IsCertificateText g bytes claims = (d : Data) × IsJsonOf bytes d × SaysCertificate g d claims
