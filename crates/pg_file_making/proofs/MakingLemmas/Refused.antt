-- A maker refuses no item that may follow, if a grammar comes of it and of what stands after it.
use Rattle.std.proofs.Common.{◌≡◌, ◌≤◌, ◌<◌, ◌+◌, ℕ, Bool, true, false, nat_lt, nat_le, if◌then◌else◌, List, [], ◌∷◌, ◌++◌, length, Option, Some, None, Result, Ok, Err, MatchOption, refl, sym, ap, subst, ◌∙◌, arith}
use Rattle.std.proofs.lemmas.Bool.Decides.{nat_tests}
use Rattle.std.proofs.lemmas.List.{length-append, length-map}
use Rattle.std.specs.List.{AllByRecursion, list_any}
use Rattle.std.specs.Option.{is_some}
use Rattle.std.specs.Result.{IsOkUnless}
use Rattle.std.specs.Str.{bytes_eq}
use Rattle.pg_pred.specs.Offer.{Offer}
use Rattle.pg_grammar_form.specs.Names.{Name, has_name}
use Rattle.pg_grammar_form.specs.Literals.{is_empty_literal, is_long_literal}
use Rattle.pg_grammar_form.specs.Classes.{descends, is_long, lacks_item}
use Rattle.pg_grammar_form.specs.ClassItems.{item_name, has_item}
use Rattle.pg_grammar_form.specs.WordItems.{word_name, has_word}
use Rattle.pg_grammar_form.specs.Forms.{BaseForm, has_unknown_class, IsBody}
use Rattle.pg_grammar_value.specs.Grammar.{Grammar}
use Rattle.pg_grammar.specs.Made.{Made, Says, made_words, class_fault, word_fault, operators_fault, rule_fault}
use Rattle.pg_grammar_form.specs.declared.class.ClassPart.{ClassPart}
use Rattle.pg_grammar_form.specs.declared.word_item.WordItem.{WordItem}
use Rattle.pg_grammar.specs.declared.maker_fault.MakerFault.{MakerFault}
use Rattle.pg_grammar.specs.declared.maker_fault.MakerFault.TheVariants.{Memory}
use Rattle.pg_grammar_form.proofs.Each.{any-map}
use Rattle.pg_file_items.specs.declared.written.WrittenPart.{WrittenPart}
use Rattle.pg_file_items.specs.declared.written.WrittenForm.{WrittenForm}
use Rattle.pg_file_items.specs.Tree.{Class}
use Rattle.pg_file_items.specs.Proper.{IsFreeName, IsFilled, IsProperClass}
use Rattle.pg_file_items.specs.Heads.{class_parts}
use Rattle.pg_file_meaning.specs.Meaning.{class_meant, meant}
use Rattle.pg_file_meaning.specs.Bodies.{parts_meant, body_meant}
use Rattle.pg_file_items.specs.Entries.{Entry, class, word, operators, rule}
use Rattle.pg_file_making.specs.Spells.{made_classes, max_meant}
use Rattle.pg_file_making.specs.Making.{with_entry, with_entries, MayFollow, IsProperEntry}
use Rattle.pg_file_meaning.proofs.MeaningLemmas.Meant.{class_parts_meant, heads_meant}
use Rattle.pg_file_meaning.proofs.MeaningLemmas.Proper.{class_ascends, class_is_short, class_lacks_none, meant_is_body, meant_has_no_bad_literal, meant_has_no_long_text, meant_has_no_unknown_class}
use Rattle.pg_file_making.proofs.MakingLemmas.Growth.{front_in_limits}
use Rattle.pg_file_making.proofs.MakingLemmas.Proper.{of_class, of_word, of_operators, of_rule}

-- ---- class expressions

-- what a maker asks of the parts of a class expression, where there are so many class items
record IsTaken (count : ℕ) (parts : List ClassPart) : Type 0 where
  known : list_any (lacks_item count) parts ≡ false
  ascend : list_any descends parts ≡ false
  short : list_any is_long parts ≡ false

-- it is so of what a proper class expression stands for
class_taken : (offer : Offer) (made : Made) (tree : Class) (parts : List WrittenPart) → IsProperClass tree → parts ≡ class_parts tree
    → IsTaken (length made.classes) (parts_meant offer (made_classes made) parts)
class_taken offer made tree parts proper are =
    let classes = made_classes made in
    let meant : parts_meant offer classes parts ≡ class_meant offer classes tree = ap (parts_meant offer classes) are ∙ class_parts_meant offer classes tree in
    let count : length classes ≡ length made.classes = length-map made.classes item_name in
    rw meant (record {
      known = subst (λ k. list_any (lacks_item k) (class_meant offer classes tree) ≡ false) count (class_lacks_none offer classes tree);
      ascend = class_ascends offer classes tree proper;
      short = class_is_short offer classes tree proper;
    })

-- ---- lengths

short_name : (s : Name) → IsFreeName s → nat_lt 64 (length s) ≡ false
short_name s free = let short = free.short in grind (arith, nat_tests)

none_empty : (texts : List (List ℕ)) → AllByRecursion IsFilled texts → list_any is_empty_literal texts ≡ false
none_empty [] h = refl
none_empty (s ∷ texts) h =
    let some : 0 < length s = h.0.0 in
    let first : is_empty_literal s ≡ false = grind (arith, nat_tests) in
    rw first (none_empty texts h.1)

none_long : (texts : List (List ℕ)) → AllByRecursion IsFilled texts → list_any is_long_literal texts ≡ false
none_long [] h = refl
none_long (s ∷ texts) h =
    let few : length s ≤ 1024 = h.0.1 in
    let first : is_long_literal s ≡ false = grind (arith, nat_tests) in
    rw first (none_long texts h.1)

-- one more is within the limit, so these are below it
below : {A : Type 0} (most : ℕ) (xs : List A) (x : A) → length (xs ++ x ∷ []) ≤ most → nat_le most (length xs) ≡ false
below most xs x h =
    let more = length-append xs (x ∷ []) in
    let less : length xs < most = omega (arith, more, h) in
    grind (arith, nat_tests)

-- ---- refusals

pub class_no_fault : (offer : Offer) (made : Made) (s : Name) (parts : List WrittenPart) (entries : List Entry) (g : Grammar)
    → IsProperEntry (class s parts) → MayFollow offer made (class s parts) → Says (with_entries offer (with_entry offer made (class s parts)) entries) g
    → class_fault made s (parts_meant offer (made_classes made) parts) ≡ None
class_no_fault offer made s parts entries g proper may says =
    let of = of_class s parts proper in
    let taken = class_taken offer made of.tree parts of.proper of.parts_are in
    let limits = front_in_limits offer (with_entry offer made (class s parts)) entries g says in
    let new : has_item made.classes s ≡ false = sym (any-map (λ other. bytes_eq other s) item_name made.classes) ∙ may.new.0 in
    let few = below 256 made.classes _ limits.classes in
    rw (taken.known, new, taken.ascend, short_name s of.free, taken.short, few) refl

pub word_no_fault : (offer : Offer) (made : Made) (s : Name) (head rest : List WrittenPart) (reserved : List (List ℕ)) (entries : List Entry) (g : Grammar)
    → IsProperEntry (word s head rest reserved) → MayFollow offer made (word s head rest reserved)
    → Says (with_entries offer (with_entry offer made (word s head rest reserved)) entries) g
    → word_fault made (record { name = s; head = parts_meant offer (made_classes made) head; rest = parts_meant offer (made_classes made) rest; reserved = reserved }) ≡ None
word_no_fault offer made s head rest reserved entries g proper may says =
    let of = of_word s head rest reserved proper in
    let first = class_taken offer made of.head_tree head of.head_proper of.head_is in
    let after = class_taken offer made of.rest_tree rest of.rest_proper of.rest_is in
    let limits = front_in_limits offer (with_entry offer made (word s head rest reserved)) entries g says in
    let new : has_word made.words s ≡ false = sym (any-map (λ other. bytes_eq other s) word_name made.words) ∙ may.new in
    let few = below 64 made.words _ limits.words in
    rw (first.known, after.known, new, first.ascend, after.ascend, none_empty reserved of.filled, short_name s of.free, first.short, after.short, none_long reserved of.filled, few) refl

pub operators_no_fault : (offer : Offer) (made : Made) (parts gap : List WrittenPart) (reserved : List (List ℕ)) (most : Option ℕ)
    → IsProperEntry (operators parts gap reserved most) → MayFollow offer made (operators parts gap reserved most)
    → operators_fault made (record { class = parts_meant offer (made_classes made) parts; gap = parts_meant offer (made_classes made) gap; reserved = reserved; max = max_meant most }) ≡ None
operators_no_fault offer made parts gap reserved most proper may =
    let of = of_operators parts gap reserved most proper in
    let first = class_taken offer made of.class_tree parts of.class_proper of.class_is in
    let after = class_taken offer made of.gap_tree gap of.gap_proper of.gap_is in
    let new : is_some made.operators ≡ false = rw may.new refl in
    let least = of.least in
    let within = of.most_within in
    let low : nat_lt (max_meant most) 1 ≡ false = grind (arith, nat_tests) in
    let high : nat_lt 64 (max_meant most) ≡ false = grind (arith, nat_tests) in
    rw (first.known, after.known, new, first.ascend, after.ascend, none_empty reserved of.filled, first.short, after.short, none_long reserved of.filled, low, high) refl

-- the base forms of a proper rule are one whole form
pub rule_is_body : (offer : Offer) (classes : List Name) (s : Name) (forms : List WrittenForm) → IsProperEntry (rule s forms)
    → IsBody (body_meant offer classes forms)
rule_is_body offer classes s forms proper =
    let of = of_rule s forms proper in
    rw (of.forms_are, heads_meant offer classes of.tree) (meant_is_body offer classes of.tree)

pub rule_no_fault : (offer : Offer) (made : Made) (s : Name) (forms : List WrittenForm) (entries : List Entry) (g : Grammar)
    → IsProperEntry (rule s forms) → MayFollow offer made (rule s forms) → Says (with_entries offer (with_entry offer made (rule s forms)) entries) g
    → rule_fault made s (body_meant offer (made_classes made) forms) ≡ None
rule_no_fault offer made s forms entries g proper may says =
    let of = of_rule s forms proper in
    let classes = made_classes made in
    let body : body_meant offer classes forms ≡ meant offer classes of.tree = ap (body_meant offer classes) of.forms_are ∙ heads_meant offer classes of.tree in
    let count : length classes ≡ length made.classes = length-map made.classes item_name in
    let known = subst (λ k. list_any (has_unknown_class k) (meant offer classes of.tree) ≡ false) count (meant_has_no_unknown_class offer classes of.tree) in
    let good = meant_has_no_bad_literal offer classes of.tree of.proper in
    let short = meant_has_no_long_text offer classes of.tree of.proper in
    let limits = front_in_limits offer (with_entry offer made (rule s forms)) entries g says in
    let few = below 512 made.names _ limits.names in
    let more = length-append made.forms (body_meant offer classes forms) in
    let within : length made.forms + length (body_meant offer classes forms) ≤ 8192 = omega (arith, more, limits.forms) in
    let fits : length made.forms + length (meant offer classes of.tree) ≤ 8192 = subst (λ b. length made.forms + length b ≤ 8192) body within in
    let room : nat_lt 8192 (length made.forms + length (meant offer classes of.tree)) ≡ false = grind (arith, nat_tests) in
    rw (body, known, may.new, good, short_name s of.free, short, few, room) refl

-- ---- what a maker's answer says

-- what is so where no fault is found
pub where_none : {A : Type 0} (found : Option A) (P : Type 0) (Q : A → Type 0) → found ≡ None → MatchOption found P Q → P
where_none None P Q e h = h
where_none (Some x) P Q e h = absurd cc

abbrev taken : (T : Type 0) → T → Result T MakerFault
taken T x = Ok x

abbrev refused : (T : Type 0) → MakerFault → Result T MakerFault
refused T fault = Err fault

-- a maker that takes an item finds no fault
pub no_fault : (T : Type 0) (found : Option MakerFault) (x : T) → MatchOption found (IsOkUnless (taken T x) Memory) (λ f. taken T x ≡ refused T f) → found ≡ None
no_fault T None x h = refl
no_fault T (Some f) x h = absurd cc

-- with no fault found, the second test, of the name, failed
second_fails : (a b : Bool) (x y : MakerFault) (rest : Option MakerFault) → (if a then Some x else if b then Some y else rest) ≡ None → b ≡ false
second_fails true b x y rest h = absurd cc
second_fails false true x y rest h = absurd cc
second_fails false false x y rest h = refl

-- ---- what a maker took was new

pub class_is_new : (made : Made) (s : Name) (parts : List ClassPart) → class_fault made s parts ≡ None → has_name (made_classes made) s ≡ false
class_is_new made s parts none = any-map (λ other. bytes_eq other s) item_name made.classes ∙ second_fails _ (has_item made.classes s) _ _ _ none

pub word_is_new : (made : Made) (item : WordItem) → word_fault made item ≡ None → has_name (made_words made) item.name ≡ false
word_is_new made item none = any-map (λ other. bytes_eq other item.name) word_name made.words ∙ second_fails _ (has_word made.words item.name) _ _ _ none

pub rule_is_new : (made : Made) (s : Name) (body : List BaseForm) → rule_fault made s body ≡ None → has_name made.names s ≡ false
rule_is_new made s body none = second_fails _ (has_name made.names s) _ _ _ none

no_others : {A : Type 0} (o : Option A) → is_some o ≡ false → o ≡ None
no_others None e = refl
no_others (Some x) e = absurd cc

second_fails_where_taken : (T : Type 0) (x : T) (b : Bool) (g : MakerFault) (rest : Option MakerFault) (P : Type 0)
    → MatchOption (if b then Some g else rest) P (λ f. taken T x ≡ refused T f) → b ≡ false
second_fails_where_taken T x true g rest P h = absurd cc
second_fails_where_taken T x false g rest P h = refl

-- a maker that takes the operators item had none
pub operators_are_new : (T : Type 0) (x : T) (made : Made) (a : Bool) (f g : MakerFault) (rest : Option MakerFault) (P : Type 0)
    → MatchOption (if a then Some f else if is_some made.operators then Some g else rest) P (λ f. taken T x ≡ refused T f) → made.operators ≡ None
operators_are_new T x made true f g rest P h = absurd cc
operators_are_new T x made false f g rest P h = no_others made.operators (second_fails_where_taken T x (is_some made.operators) g rest P h)
