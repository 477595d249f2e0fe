-- Certificates that can belong to a grammar, whatever they claim.
use Rattle.std.specs.Prelude.{◌≡◌, ◌<◌, ◌^◌, List, map, length, IsSome}
use Rattle.std.specs.List.{AllByRecursion}
use Rattle.std.specs.Str.{encode_utf8_all, IsUtf8}
use Rattle.pg_class.specs.Ranges.{IsClass}
use Rattle.pg_grammar_value.specs.Grammar.{Grammar, rule_names}
use Rattle.pg_certificate.specs.Certificates.{claim_rule}
use Rattle.pg_certificate.specs.Values.{word_name_at}
use Rattle.pg_certificate.specs.declared.certificate.ClaimedStart.{ClaimedStart}
use Rattle.pg_certificate.specs.declared.certificate.ClaimedStart.TheVariants.{Class, Key, Word, Operator, End}
use Rattle.pg_certificate.specs.declared.certificate.RuleClaim.{RuleClaim}

-- ---- conditions on makers of certificates

-- a key has a character, and the word item or the operators item exists
abbrev pub FitsStart : Grammar → ClaimedStart → Type 0
FitsStart g (Class ranges) = Unit {0}
FitsStart g (Key text excluded) = 0 < length text
FitsStart g (Word w) = w < length g.words
FitsStart g Operator = IsSome g.operators
FitsStart g End = Unit {0}

-- the claim can belong to a rule of the grammar: its starts can be the grammar's
abbrev pub FitsClaim : Grammar → RuleClaim → Type 0
FitsClaim g claim = AllByRecursion (FitsStart g) claim.first × AllByRecursion (FitsStart g) claim.follow

-- each rule has a claim, in file order, whose starts are the grammar's
pub record FitsGrammar (g : Grammar) (claims : List RuleClaim) : Type 0 where
  pub each : AllByRecursion (FitsClaim g) claims
  pub all : map claim_rule claims ≡ rule_names g

-- ---- facts about every `Certificate`

-- ranges are a class's, and texts are UTF-8, as all encoded characters are
abbrev pub IsStorableStart : Grammar → ClaimedStart → Type 0
IsStorableStart g (Class ranges) = IsClass ranges
IsStorableStart g (Key text excluded) = IsUtf8 (encode_utf8_all text) × IsClass excluded
IsStorableStart g (Word w) = IsUtf8 (encode_utf8_all (word_name_at g w))
IsStorableStart g Operator = Unit {0}
IsStorableStart g End = Unit {0}

-- starts can be stored, and numbers fit into their bits
pub record IsStorableClaim (g : Grammar) (claim : RuleClaim) : Type 0 where
  pub first : AllByRecursion (IsStorableStart g) claim.first
  pub follow : AllByRecursion (IsStorableStart g) claim.follow
  pub cost : claim.cost < 2 ^ 64
  pub rank : claim.rank < 2 ^ 32
  pub rule : IsUtf8 (encode_utf8_all claim.rule)
