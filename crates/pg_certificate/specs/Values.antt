-- The JSON value of a certificate, and its text. Keys are in order.
use Rattle.std.specs.Prelude.{ℕ, List, [], map, codes, slice_get}
use Rattle.std.specs.Option.{option_map_or}
use Rattle.std.specs.Str.{encode_utf8_all}
use Rattle.serde_json.specs.Data.{Data, unsigned, boolean, number, string, array, object, item, no_items, Members, member, no_members}
use Rattle.serde_json.specs.View.{items_of}
use Rattle.serde_json.specs.Written.{compact_text}
use Rattle.pg_class.specs.Ranges.{Range}
use Rattle.pg_grammar_form.specs.Names.{Name}
use Rattle.pg_grammar_form.specs.WordItems.{word_name}
use Rattle.pg_grammar_value.specs.Grammar.{Grammar}
use Rattle.pg_certificate.specs.declared.certificate.ClaimedStart.{ClaimedStart}
use Rattle.pg_certificate.specs.declared.certificate.ClaimedStart.TheVariants.{Class, Key, Word, Operator, End}
use Rattle.pg_certificate.specs.declared.certificate.RuleClaim.{RuleClaim}

-- an object with one member
abbrev pub lone : List ℕ → Data → Data
lone key value = object (member key value no_members)

abbrev pub number_value : ℕ → Data
number_value n = number (unsigned n)

abbrev pub text_value : List ℕ → Data
text_value text = string (encode_utf8_all text)

-- the first and the last character of a range
abbrev pub range_value : Range → Data
range_value range = array (item (number_value range.0) (item (number_value range.1) no_items))

-- a class by its ranges
abbrev pub class_value : List Range → Data
class_value ranges = array (items_of (map range_value ranges))

-- the name of the word item with this number; empty if there is none
abbrev pub word_name_at : Grammar → ℕ → Name
word_name_at g w = option_map_or word_name (slice_get g.words w) []

-- the text of a key, and the class that may not follow it
abbrev pub key_value : List ℕ → List Range → Data
key_value text excluded = object (member (codes "key") (text_value text) (member (codes "not") (class_value excluded) no_members))

-- the JSON value of a claimed start
abbrev pub start_value : Grammar → ClaimedStart → Data
start_value g (Class ranges) = lone (codes "class") (class_value ranges)
start_value g (Key text excluded) = key_value text excluded
start_value g (Word w) = lone (codes "word") (text_value (word_name_at g w))
start_value g Operator = string (codes "operator")
start_value g End = string (codes "end")

abbrev pub starts_value : Grammar → List ClaimedStart → Data
starts_value g starts = array (items_of (map (start_value g) starts))

-- the members after the sets of a claim
abbrev pub other_members : RuleClaim → Members
other_members claim =
    member (codes "h") (number_value claim.cost) (member (codes "nullable") (boolean claim.nullable)
    (member (codes "rank") (number_value claim.rank) (member (codes "rule") (text_value claim.rule) no_members)))

-- the JSON value of a claim, with its keys in order
abbrev pub claim_value : Grammar → RuleClaim → Data
claim_value g claim = object
    (member (codes "first") (starts_value g claim.first) (member (codes "follow") (starts_value g claim.follow) (other_members claim)))

abbrev pub claims_value : Grammar → List RuleClaim → Data
claims_value g claims = array (items_of (map (claim_value g) claims))

-- the JSON value of a certificate
abbrev pub certificate_value : Grammar → List RuleClaim → Data
certificate_value g claims = lone (codes "rules") (claims_value g claims)

-- the text of a certificate, without blanks
abbrev pub certificate_json : Grammar → List RuleClaim → List ℕ
certificate_json g claims = compact_text (certificate_value g claims)
