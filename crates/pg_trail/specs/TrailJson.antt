-- The JSON of a trail: its value, its text, and which bytes are the text of one.
use Rattle.std.specs.Prelude.{◌≡◌, ℕ, List, map, codes, Some}
use Rattle.std.specs.Str.{encode_utf8_all, IsUtf8}
use Rattle.serde_json.specs.Data.{Data, unsigned, number, string, array, object, Items, item, no_items, member, no_members}
use Rattle.serde_json.specs.View.{items_of}
use Rattle.serde_json.specs.Read.{read}
use Rattle.serde_json.specs.Written.{compact_text}
use Rattle.pg_grammar_value.specs.declared.trail.Fixity.{Fixity}
use Rattle.pg_grammar_value.specs.declared.trail.Fixity.TheVariants.{Prefix, Infix, Postfix}
use Rattle.pg_grammar_value.specs.declared.trail.AppliedOperator.{AppliedOperator}
use Rattle.pg_grammar_value.specs.declared.trail.TrailItem.{TrailItem}
use Rattle.pg_grammar_value.specs.declared.trail.TrailItem.TheVariants.{Alt, Rounds, Ops}

-- the word for an operator's role
abbrev pub role : Fixity → List ℕ
role Prefix = codes "prefix"
role Infix = codes "infix"
role Postfix = codes "postfix"

-- two texts, one after another
abbrev pub two_items : List ℕ × List ℕ → Items
two_items texts = item (string texts.0) (item (string texts.1) no_items)

-- an array of two texts
abbrev pub two_texts : List ℕ → List ℕ → Data
two_texts first second = array (two_items (first, second))

-- an operator: its role and its symbol
abbrev pub operator_value : AppliedOperator → Data
operator_value o = two_texts (role o.fixity) (encode_utf8_all o.symbol)

-- operators: an array of them
abbrev pub operators_value : List AppliedOperator → Data
operators_value os = array (items_of (map operator_value os))

-- a count
abbrev pub count_value : ℕ → Data
count_value n = number (unsigned n)

-- an object with one member
abbrev pub lone : List ℕ → Data → Data
lone key value = object (member key value no_members)

-- an item of a trail: an object whose key names the kind of choice
abbrev pub item_value : TrailItem → Data
item_value (Alt k) = lone (codes "alt") (count_value k)
item_value (Rounds k) = lone (codes "rounds") (count_value k)
item_value (Ops os) = lone (codes "ops") (operators_value os)

-- a trail: an array of its items
abbrev pub trail_value : List TrailItem → Data
trail_value items = array (items_of (map item_value items))

-- the text of a trail, without blanks
abbrev pub trail_json : List TrailItem → List ℕ
trail_json trail = compact_text (trail_value trail)

-- the bytes are UTF-8 and a JSON text, and its value is that of a trail
abbrev pub IsTrailText : List ℕ → List TrailItem → Type 0
IsTrailText bytes trail = IsUtf8 bytes × (read bytes ≡ Some (trail_value trail))
