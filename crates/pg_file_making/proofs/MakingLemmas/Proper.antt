-- The item that a proper entry is of.
use Rattle.std.proofs.Common.{◌≡◌, ◌≤◌, ℕ, List, Option, Some, None, subst, arith}
use Rattle.std.specs.List.{AllByRecursion}
use Rattle.pg_file_items.specs.declared.written.WrittenPart.{WrittenPart}
use Rattle.pg_file_items.specs.declared.written.WrittenForm.{WrittenForm}
use Rattle.pg_file_items.specs.Tree.{Class, Value, Item, Class_item, Word_item, Operators, Table, Start, Rule_item}
use Rattle.pg_file_items.specs.Proper.{IsFreeName, IsFilled, IsProperClass, IsProper, IsMost, IsProperItem}
use Rattle.pg_file_items.specs.Heads.{class_parts, heads, most_of, entry_of_item}
use Rattle.pg_file_items.specs.Entries.{class, word, operators, rule}
use Rattle.pg_file_making.specs.Spells.{max_meant}
use Rattle.pg_file_making.specs.Making.{IsProperEntry}

pub record OfClass (s : List ℕ) (parts : List WrittenPart) : Type 0 where
  pub tree : Class
  pub free : IsFreeName s
  pub proper : IsProperClass tree
  pub parts_are : parts ≡ class_parts tree

pub of_class : (s : List ℕ) (parts : List WrittenPart) → IsProperEntry (class s parts) → OfClass s parts
of_class s parts h = go h.item h.proper h.meant
  where
    go : (item : Item) → IsProperItem item → class s parts ≡ entry_of_item item → OfClass s parts
    go (Class_item t c) p e =
        let same : t ≡ s = cc in
        record { tree = c; free = subst IsFreeName same p.0; proper = p.1; parts_are = cc }
    go (Word_item t head after reserved) p e = absurd cc
    go (Operators c gap reserved most) p e = absurd cc
    go (Table role precedence symbol) p e = absurd cc
    go (Start t) p e = absurd cc
    go (Rule_item t v) p e = absurd cc

pub record OfWord (s : List ℕ) (head rest : List WrittenPart) (reserved : List (List ℕ)) : Type 0 where
  pub head_tree : Class
  pub rest_tree : Class
  pub free : IsFreeName s
  pub head_proper : IsProperClass head_tree
  pub rest_proper : IsProperClass rest_tree
  pub filled : AllByRecursion IsFilled reserved
  pub head_is : head ≡ class_parts head_tree
  pub rest_is : rest ≡ class_parts rest_tree

pub of_word : (s : List ℕ) (head rest : List WrittenPart) (reserved : List (List ℕ)) → IsProperEntry (word s head rest reserved) → OfWord s head rest reserved
of_word s head rest reserved h = go h.item h.proper h.meant
  where
    go : (item : Item) → IsProperItem item → word s head rest reserved ≡ entry_of_item item → OfWord s head rest reserved
    go (Class_item t c) p e = absurd cc
    go (Word_item t first after texts) p e =
        let same : t ≡ s = cc in
        let kept : texts ≡ reserved = cc in
        record {
          head_tree = first;
          rest_tree = after;
          free = subst IsFreeName same p.0;
          head_proper = p.1;
          rest_proper = p.2;
          filled = subst (AllByRecursion IsFilled) kept p.3;
          head_is = cc;
          rest_is = cc;
        }
    go (Operators c gap texts most) p e = absurd cc
    go (Table role precedence symbol) p e = absurd cc
    go (Start t) p e = absurd cc
    go (Rule_item t v) p e = absurd cc

-- a most number of operators is from 1 to 64
most_is : (most : Option (List ℕ)) → IsMost most → (1 ≤ max_meant (most_of most)) × (max_meant (most_of most) ≤ 64)
most_is None h = (omega arith, omega arith)
most_is (Some digits) h = (h.above, h.below)

pub record OfOperators (parts gap : List WrittenPart) (reserved : List (List ℕ)) (most : Option ℕ) : Type 0 where
  pub class_tree : Class
  pub gap_tree : Class
  pub class_proper : IsProperClass class_tree
  pub gap_proper : IsProperClass gap_tree
  pub filled : AllByRecursion IsFilled reserved
  pub least : 1 ≤ max_meant most
  pub most_within : max_meant most ≤ 64
  pub class_is : parts ≡ class_parts class_tree
  pub gap_is : gap ≡ class_parts gap_tree

pub of_operators : (parts gap : List WrittenPart) (reserved : List (List ℕ)) (most : Option ℕ) → IsProperEntry (operators parts gap reserved most) → OfOperators parts gap reserved most
of_operators parts gap reserved most h = go h.item h.proper h.meant
  where
    go : (item : Item) → IsProperItem item → operators parts gap reserved most ≡ entry_of_item item → OfOperators parts gap reserved most
    go (Class_item t c) p e = absurd cc
    go (Word_item t first after texts) p e = absurd cc
    go (Operators c between texts number) p e =
        let kept : texts ≡ reserved = cc in
        let same : most_of number ≡ most = cc in
        let ends = most_is number p.3 in
        record {
          class_tree = c;
          gap_tree = between;
          class_proper = p.0;
          gap_proper = p.1;
          filled = subst (AllByRecursion IsFilled) kept p.2;
          least = subst (λ m. 1 ≤ max_meant m) same ends.0;
          most_within = subst (λ m. max_meant m ≤ 64) same ends.1;
          class_is = cc;
          gap_is = cc;
        }
    go (Table role precedence symbol) p e = absurd cc
    go (Start t) p e = absurd cc
    go (Rule_item t v) p e = absurd cc

pub record OfRule (s : List ℕ) (forms : List WrittenForm) : Type 0 where
  pub tree : Value
  pub free : IsFreeName s
  pub proper : IsProper tree
  pub forms_are : forms ≡ heads tree

pub of_rule : (s : List ℕ) (forms : List WrittenForm) → IsProperEntry (rule s forms) → OfRule s forms
of_rule s forms h = go h.item h.proper h.meant
  where
    go : (item : Item) → IsProperItem item → rule s forms ≡ entry_of_item item → OfRule s forms
    go (Class_item t c) p e = absurd cc
    go (Word_item t first after texts) p e = absurd cc
    go (Operators c between texts number) p e = absurd cc
    go (Table role precedence symbol) p e = absurd cc
    go (Start t) p e = absurd cc
    go (Rule_item t v) p e =
        let same : t ≡ s = cc in
        record { tree = v; free = subst IsFreeName same p.0; proper = p.1; forms_are = cc }
