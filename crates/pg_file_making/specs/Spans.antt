-- The spans of the base forms that items stand for.
use Rattle.std.specs.Prelude.{List, [], map}
use Rattle.pg_file_items.specs.Joined.{joined}
use Rattle.pg_file_items.specs.declared.item.Item.{Item}
use Rattle.pg_file_items.specs.declared.item.Item.TheVariants.{Class, Word, Operators, Table, Start, Rule}
use Rattle.pg_file_meaning.specs.Spans.{Spans, value_spans}

-- of a rule those of its value, of another item none
abbrev pub item_spans : Item → Spans
item_spans (Class name place c) = []
item_spans (Word name place head rest reserved) = []
item_spans (Operators c gap reserved most place) = []
item_spans (Table role precedence symbol place symbol_place) = []
item_spans (Start name place name_place) = []
item_spans (Rule name place body) = value_spans body.items

-- of the items, one after another
abbrev pub items_spans : List Item → Spans
items_spans items = joined (map item_spans items)
