-- How many items of a kind a file may have.
use Rattle.std.specs.Prelude.{ℕ, suc, ◌+◌, ◌-◌, ◌≤◌, ◌&&◌, nat_le, if◌then◌else◌, List, [], ◌∷◌, Option, Some, None}
use Rattle.pg_file_parser.specs.declared.allowance.Allowance.{Allowance}
use Rattle.pg_file_items.specs.Sizes.{counted, body_size}
use Rattle.pg_file_items.specs.Entries.{Entry, class, word, operators, table, start, rule}

abbrev pub class_count : List Entry → ℕ
class_count [] = 0
class_count (class name parts ∷ entries) = suc (class_count entries)
class_count (word name head after reserved ∷ entries) = class_count entries
class_count (operators parts gap reserved most ∷ entries) = class_count entries
class_count (table role precedence symbol ∷ entries) = class_count entries
class_count (start name ∷ entries) = class_count entries
class_count (rule name body ∷ entries) = class_count entries

abbrev pub word_count : List Entry → ℕ
word_count [] = 0
word_count (class name parts ∷ entries) = word_count entries
word_count (word name head after reserved ∷ entries) = suc (word_count entries)
word_count (operators parts gap reserved most ∷ entries) = word_count entries
word_count (table role precedence symbol ∷ entries) = word_count entries
word_count (start name ∷ entries) = word_count entries
word_count (rule name body ∷ entries) = word_count entries

abbrev pub rule_count : List Entry → ℕ
rule_count [] = 0
rule_count (class name parts ∷ entries) = rule_count entries
rule_count (word name head after reserved ∷ entries) = rule_count entries
rule_count (operators parts gap reserved most ∷ entries) = rule_count entries
rule_count (table role precedence symbol ∷ entries) = rule_count entries
rule_count (start name ∷ entries) = rule_count entries
rule_count (rule name body ∷ entries) = suc (rule_count entries)

-- how many base forms all rules stand for; a rule with more than 8,192 is counted as 8,193
abbrev pub node_count : List Entry → ℕ
node_count [] = 0
node_count (class name parts ∷ entries) = node_count entries
node_count (word name head after reserved ∷ entries) = node_count entries
node_count (operators parts gap reserved most ∷ entries) = node_count entries
node_count (table role precedence symbol ∷ entries) = node_count entries
node_count (start name ∷ entries) = node_count entries
node_count (rule name body ∷ entries) = counted (body_size body) + node_count entries

-- the items are within the allowance
pub record KeepWithin (allowance : Allowance) (entries : List Entry) : Type 0 where
  pub few_classes : class_count entries ≤ allowance.classes
  pub few_words : word_count entries ≤ allowance.words
  pub few_rules : rule_count entries ≤ allowance.rules
  pub few_nodes : node_count entries ≤ allowance.nodes

-- the allowance of a file without items
abbrev pub full_allowance : Allowance
full_allowance = record { classes = 256; words = 64; rules = 512; nodes = 8192 }

-- the allowance left after a class item, if there is room for it
abbrev pub after_class : Allowance → Option Allowance
after_class allowance = if nat_le 1 allowance.classes then Some (record { classes = allowance.classes - 1; words = allowance.words; rules = allowance.rules; nodes = allowance.nodes }) else None

abbrev pub after_word : Allowance → Option Allowance
after_word allowance = if nat_le 1 allowance.words then Some (record { classes = allowance.classes; words = allowance.words - 1; rules = allowance.rules; nodes = allowance.nodes }) else None

-- the allowance left after a rule of this many base forms, if there is room for it
abbrev pub after_rule : Allowance → ℕ → Option Allowance
after_rule allowance size =
    if nat_le 1 allowance.rules && nat_le size allowance.nodes then Some (record { classes = allowance.classes; words = allowance.words; rules = allowance.rules - 1; nodes = allowance.nodes - size }) else None

-- the allowance left after an item, if there is room for it
abbrev pub allowance_after : Allowance → Entry → Option Allowance
allowance_after allowance (class name parts) = after_class allowance
allowance_after allowance (word name head after reserved) = after_word allowance
allowance_after allowance (operators parts gap reserved most) = Some allowance
allowance_after allowance (table role precedence symbol) = Some allowance
allowance_after allowance (start name) = Some allowance
allowance_after allowance (rule name body) = after_rule allowance (counted (body_size body))
