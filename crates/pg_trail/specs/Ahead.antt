-- What stands at the front of tokens, as `serde_json` reads it.
use Rattle.std.specs.Prelude.{ℕ, List, length, Option, option_map}
use Rattle.json.specs.Token.{Token}
use Rattle.json.specs.Json as json
use Rattle.serde_json.specs.Data.{Data, Items, Members}
use Rattle.serde_json.specs.Read.{of_json, of_items, of_members, converted}

-- the value at the front, if its arrays and objects nest no deeper than this, and the tokens after it
unfoldable pub data_at : ℕ → List Token → Option (Data × List Token)
data_at depth ts = converted of_json (json.value depth ts)

-- the values up to the end of an array
unfoldable pub items_at : ℕ → List Token → Option (Items × List Token)
items_at depth ts = converted of_items (json.items (json.value depth) (length ts) ts)

-- the members up to the end of an object, added to those that were found before
unfoldable pub members_at : ℕ → Members → List Token → Option (Members × List Token)
members_at depth found ts = converted (λ ms. of_members ms found) (json.members (json.value depth) (length ts) ts)

-- the tokens after the part that was read
abbrev pub after : {B : Type 0} → Option (B × List Token) → Option (List Token)
after read = option_map (λ p. p.1) read
