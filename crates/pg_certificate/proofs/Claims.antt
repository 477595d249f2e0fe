-- Claims of rules, from what the values under their keys say.
use Rattle.std.proofs.Common.{◌≡◌, ℕ, Bool, List, map, codes, Some, Ok, Err, Result, IsErrOf, ap, sym, ◌∙◌, subst}
use Rattle.serde_json.specs.Data.{Data}
use Rattle.serde_json.specs.Read.{read}
use Rattle.pg_grammar_form.specs.Names.{Name}
use Rattle.pg_grammar_value.specs.Grammar.{Grammar, rule_name}
use Rattle.pg_certificate.specs.declared.certificate.ClaimedStart.{ClaimedStart}
use Rattle.pg_certificate.specs.declared.certificate.RuleClaim.{RuleClaim}
use Rattle.pg_certificate.specs.declared.certificate_fault.CertificateFault.{CertificateFault}
use Rattle.pg_certificate.specs.declared.certificate_fault.CertificateFault.TheVariants.{NotJson, NotACertificate, Memory}
use Rattle.pg_certificate.specs.Claims.{key_count, SaysEach, SaysUnder, SaysFlag, SaysNumber, SaysRank, SaysText, SaysStart}
use Rattle.pg_certificate.specs.Certificates.{claim_rule, SaysClaim, SaysRules, SaysCertificate, IsCertificateText}
use Rattle.pg_certificate.specs.Readings.{Gives}
use Rattle.pg_certificate.proofs.Found.{refused_in}
use Rattle.pg_certificate.proofs.Parts.{same_data}

-- what is said under each key
abbrev SaysStarts : Grammar → Data → List ClaimedStart → Type 0
SaysStarts g = SaysEach (SaysStart g)

pub first_refused : (g : Grammar) (d : Data) (e : CertificateFault) → Gives (SaysUnder (codes "first") (SaysEach (SaysStart g))) d (Err e) → Gives (SaysClaim g) d (Err e)
first_refused g d e h = refused_in (SaysUnder (codes "first") (SaysStarts g)) d (SaysClaim g) d e (λ whole said. (whole.first, said.first)) h

pub follow_refused : (g : Grammar) (d : Data) (e : CertificateFault) → Gives (SaysUnder (codes "follow") (SaysEach (SaysStart g))) d (Err e) → Gives (SaysClaim g) d (Err e)
follow_refused g d e h = refused_in (SaysUnder (codes "follow") (SaysStarts g)) d (SaysClaim g) d e (λ whole said. (whole.follow, said.follow)) h

pub cost_refused : (g : Grammar) (d : Data) (e : CertificateFault) → Gives (SaysUnder (codes "h") SaysNumber) d (Err e) → Gives (SaysClaim g) d (Err e)
cost_refused g d e h = refused_in (SaysUnder (codes "h") SaysNumber) d (SaysClaim g) d e (λ whole said. (whole.cost, said.cost)) h

pub nullable_refused : (g : Grammar) (d : Data) (e : CertificateFault) → Gives (SaysUnder (codes "nullable") SaysFlag) d (Err e) → Gives (SaysClaim g) d (Err e)
nullable_refused g d e h = refused_in (SaysUnder (codes "nullable") SaysFlag) d (SaysClaim g) d e (λ whole said. (whole.nullable, said.nullable)) h

pub rank_refused : (g : Grammar) (d : Data) (e : CertificateFault) → Gives (SaysUnder (codes "rank") SaysRank) d (Err e) → Gives (SaysClaim g) d (Err e)
rank_refused g d e h = refused_in (SaysUnder (codes "rank") SaysRank) d (SaysClaim g) d e (λ whole said. (whole.rank, said.rank)) h

pub rule_refused : (g : Grammar) (d : Data) (e : CertificateFault) → Gives (SaysUnder (codes "rule") SaysText) d (Err e) → Gives (SaysClaim g) d (Err e)
rule_refused g d e h = refused_in (SaysUnder (codes "rule") SaysText) d (SaysClaim g) d e (λ whole said. (whole.rule, said.rule)) h

-- a claim is its six parts
abbrev claim_of : Name → Bool → ℕ → ℕ → List ClaimedStart → List ClaimedStart → RuleClaim
claim_of rule nullable rank cost first follow = record { rule = rule; nullable = nullable; rank = rank; cost = cost; first = first; follow = follow }

same_claim : (a b : RuleClaim) → a.rule ≡ b.rule → a.nullable ≡ b.nullable → a.rank ≡ b.rank → a.cost ≡ b.cost → a.first ≡ b.first → a.follow ≡ b.follow → a ≡ b
same_claim a b r n k c i o =
    ap (λ x. claim_of x a.nullable a.rank a.cost a.first a.follow) r ∙ (ap (λ x. claim_of b.rule x a.rank a.cost a.first a.follow) n
    ∙ (ap (λ x. claim_of b.rule b.nullable x a.cost a.first a.follow) k ∙ (ap (λ x. claim_of b.rule b.nullable b.rank x a.first a.follow) c
    ∙ (ap (λ x. claim_of b.rule b.nullable b.rank b.cost x a.follow) i ∙ ap (λ x. claim_of b.rule b.nullable b.rank b.cost b.first x) o))))

-- what is said under the six keys is the claim
pub claim_given : (g : Grammar) (d : Data) (claim : RuleClaim) → key_count d ≡ 6
    → Gives (SaysUnder (codes "first") (SaysEach (SaysStart g))) d (Ok claim.first)
    → Gives (SaysUnder (codes "follow") (SaysEach (SaysStart g))) d (Ok claim.follow)
    → Gives (SaysUnder (codes "h") SaysNumber) d (Ok claim.cost)
    → Gives (SaysUnder (codes "nullable") SaysFlag) d (Ok claim.nullable)
    → Gives (SaysUnder (codes "rank") SaysRank) d (Ok claim.rank)
    → Gives (SaysUnder (codes "rule") SaysText) d (Ok claim.rule)
    → Gives (SaysClaim g) d (Ok claim)
claim_given g d claim keys first follow cost nullable rank rule = (
  record { keys = keys; first = first.0; follow = follow.0; cost = cost.0; nullable = nullable.0; rank = rank.0; rule = rule.0 },
  λ other said. same_claim other claim (rule.1 other.rule said.rule) (nullable.1 other.nullable said.nullable) (rank.1 other.rank said.rank)
      (cost.1 other.cost said.cost) (first.1 other.first said.first) (follow.1 other.follow said.follow),
)

-- ---- the claims of all rules

pub rules_refused : (g : Grammar) (d : Data) (e : CertificateFault) → Gives (SaysEach (SaysClaim g)) d (Err e) → Gives (SaysRules g) d (Err e)
rules_refused g d e h = refused_in (SaysEach (SaysClaim g)) d (SaysRules g) d e (λ whole said. (whole, said.0)) h

pub rules_given : (g : Grammar) (d : Data) (claims : List RuleClaim) → Gives (SaysEach (SaysClaim g)) d (Ok claims) → map claim_rule claims ≡ map rule_name g.rules
    → Gives (SaysRules g) d (Ok claims)
rules_given g d claims h all = ((h.0, all), λ other said. h.1 other said.0)

pub not_rules : (g : Grammar) (d : Data) (claims : List RuleClaim) → Gives (SaysEach (SaysClaim g)) d (Ok claims) → (map claim_rule claims ≡ map rule_name g.rules → ⊥)
    → (other : List RuleClaim) → SaysRules g d other → ⊥
not_rules g d claims h differ other said = differ (ap (map claim_rule) (sym (h.1 other said.0)) ∙ said.1)

-- ---- texts

-- a text whose value is no certificate is the text of no certificate
pub no_text_of : (g : Grammar) (bytes : List ℕ) (d : Data) → read bytes ≡ Some d → ((other : List RuleClaim) → SaysCertificate g d other → ⊥)
    → (claims : List RuleClaim) → IsCertificateText g bytes claims → ⊥
no_text_of g bytes d is none claims (e, json, said) = none claims (subst (λ x. SaysCertificate g x claims) (same_data e d (sym json.1 ∙ is)) said)

-- a text for which the readers report that is one of these
pub not_said : (g : Grammar) (bytes : List ℕ) (d : Data) (r : Result (List RuleClaim) CertificateFault) → read bytes ≡ Some d → Gives (SaysCertificate g) d r
    → IsErrOf r NotACertificate → (claims : List RuleClaim) → IsCertificateText g bytes claims → ⊥
not_said g bytes d (Ok found) is h refused = cc
not_said g bytes d (Err NotACertificate) is h refused = no_text_of g bytes d is h
not_said g bytes d (Err NotJson) is h refused = elim h [ ]
not_said g bytes d (Err Memory) is h refused = cc
