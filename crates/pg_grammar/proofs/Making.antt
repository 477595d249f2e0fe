-- What a maker keeps true, and what is true of the grammar that is made.
use Rattle.std.proofs.Common.{◌≡◌, ℕ, suc, ◌+◌, ◌<◌, ◌≤◌, if◌then◌else◌, Bool, true, false, ◌||◌, nat_lt, nat_le, List, [], ◌∷◌, ◌++◌, length, map, take, Option, Some, None, option_and_then, refl, sym, ap, subst, arith, ◌∙◌}
use Rattle.std.proofs.lemmas.Bool.{or_parts}
use Rattle.std.proofs.lemmas.Bool.Decides.{nat_tests}
use Rattle.std.proofs.lemmas.List.{length-append, length-map, map-append}
use Rattle.std.specs.Str.{bytes_eq}
use Rattle.std.specs.Option.{option_map_or}
use Rattle.std.specs.List.{AllByRecursion, list_any}
use Rattle.pg_grammar_form.specs.Preorder.{roots, parts_from}
use Rattle.pg_grammar_form.specs.Names.{Name, has_name, place_of_name, number_of, name_at, AreDistinct}
use Rattle.pg_grammar_form.specs.Forms.{BaseForm, Node, part_count, has_bad_literal, has_unknown_class, has_unknown_name, lacks_alternative, IsBody}
use Rattle.pg_grammar_form.specs.Classes.{lacks_item, descends}
use Rattle.pg_grammar_form.specs.ClassItems.{item_name, has_item, NameEarlier}
use Rattle.pg_grammar_form.specs.Contents.{class_parts}
use Rattle.pg_grammar_form.specs.WordItems.{word_name, has_word, word_lacks_item, word_has_bad_literal, AreWords}
use Rattle.pg_grammar_form.specs.OperatorsItems.{lacks_operators, AreOperators}
use Rattle.pg_grammar_value.specs.Grammar.{Grammar, IsGrammar, rule_name, rule_body, rule_names, word_names, is_misspelled}
use Rattle.pg_grammar_value.proofs.Sites.{nodes_classes}
use Rattle.pg_grammar.specs.Made.{Made, IsMade, IsReady, AreNumbers, Says, with_rule, with_class, with_word, rule_fault, class_fault, word_fault, finish_fault, is_incomplete, made_words, passes_limit, class_passes_limit, word_passes_limit}
use Rattle.pg_grammar.specs.Numbering.{node_of, nodes_with, nodes_from}
use Rattle.pg_grammar_form.specs.declared.class.ClassPart.{ClassPart}
use Rattle.pg_grammar_form.specs.declared.class.ClassPart.TheVariants.{Literal, Range, Union, Complement, Class, Predicate}
use Rattle.pg_grammar_form.specs.declared.class_item.ClassItem.{ClassItem}
use Rattle.pg_grammar_value.specs.declared.grammar.Rule.{Rule}
use Rattle.pg_grammar_form.specs.declared.operators_item.OperatorsItem.{OperatorsItem}
use Rattle.pg_grammar_form.specs.declared.word_item.WordItem.{WordItem}
use Rattle.pg_grammar.specs.declared.maker_fault.MakerFault.{MakerFault}
use Rattle.pg_grammar.specs.declared.maker_fault.MakerFault.TheVariants.{NoStart}
use Rattle.pg_grammar_form.proofs.Each.{any-map}
use Rattle.pg_grammar_form.proofs.Lookup.{number_is_found, place_is_number, place_is_none}
use Rattle.pg_grammar_form.proofs.Preorder.{SpellForms-append, length-roots}
use Rattle.pg_grammar.proofs.Numbers.{counts-nodes_from, preorder-nodes_from, forms-nodes_from, named-nodes_from, words_named-nodes_from, length-nodes_from}

-- a test that fails in two lists fails in both together
any-append : {X : Type 0} (p : X → Bool) (xs ys : List X) → list_any p xs ≡ false → list_any p ys ≡ false → list_any p (xs ++ ys) ≡ false
any-append p [] ys h e = e
any-append p (x ∷ xs) ys h e =
    let k = or_parts (p x) (list_any p xs) h in rw k.0 (any-append p xs ys k.1 e)

-- a fact of each element, and of one more at the end
all-push : {X : Type 0} (P : X → Type 0) (xs : List X) (y : X) → AllByRecursion P xs → P y → AllByRecursion P (xs ++ y ∷ [])
all-push P [] y h p = (p, tt)
all-push P (x ∷ xs) y h p = (h.0, all-push P xs y h.1 p)

-- a new name after distinct ones
AreDistinct-push : (names : List Name) (name : Name) → AreDistinct names → has_name names name ≡ false → AreDistinct (names ++ name ∷ [])
AreDistinct-push [] name h e = (tt, tt)
AreDistinct-push (other ∷ names) name h e =
    let k = or_parts (bytes_eq other name) (has_name names name) e in
    (all-push _ names name h.0 k.0, AreDistinct-push names name h.1 k.1)

-- none of four tests finds a fault
record NoFault (a b c d : Bool) : Type 0 where
  first : a ≡ false
  second : b ≡ false
  third : c ≡ false
  fourth : d ≡ false

-- where no fault is found, none of the four tests is true
no_fault : (a b c d : Bool) (w x y z : MakerFault)
    → (if a then Some w else if b then Some x else if c then Some y else if d then Some z else None) ≡ None → NoFault a b c d
no_fault true b c d w x y z h = absurd cc
no_fault false true c d w x y z h = absurd cc
no_fault false false true d w x y z h = absurd cc
no_fault false false false true w x y z h = absurd cc
no_fault false false false false w x y z h = record { first = refl; second = refl; third = refl; fourth = refl }

-- where no limit is passed, there is room for one rule more and for its nodes
limits : (made : Made) (name : Name) (body : List BaseForm) → passes_limit made name body ≡ false
    → (length made.names < 512) × (length made.forms + length body ≤ 8192)
limits made name body e =
    let k = or_parts _ (nat_le 512 (length made.names) || nat_lt 8192 (length made.forms + length body)) e in
    let l = or_parts (nat_le 512 (length made.names)) (nat_lt 8192 (length made.forms + length body)) k.1 in
    let rules = l.0 in
    let nodes = l.1 in
    (grind (arith, nat_tests), grind (arith, nat_tests))

-- a maker may take a rule that has no fault
pub made_with_rule : (made : Made) (name : Name) (body : List BaseForm) → IsMade made → IsBody body → list_any is_misspelled body ≡ false
    → rule_fault made name body ≡ None → IsMade (with_rule made name body)
made_with_rule made name body m b s e =
    let no = no_fault (list_any (has_unknown_class (length made.classes)) body) (has_name made.names name) (list_any has_bad_literal body) (passes_limit made name body) _ _ _ _ e in
    let few = limits made name body no.fourth in
    let more = length-append made.names (name ∷ []) in
    let one : length (made.names ++ name ∷ []) ≡ length made.names + 1 = omega (arith, more) in
    record {
      whole = rw (one, map-append part_count made.forms body) (SpellForms-append (length made.names) 1 (map part_count made.forms) (map part_count body) m.whole b.whole);
      distinct = AreDistinct-push made.names name m.distinct no.second;
      literals = any-append has_bad_literal made.forms body m.literals no.third;
      alternatives = any-append lacks_alternative made.forms body m.alternatives b.alternatives;
      spelled = any-append is_misspelled made.forms body m.spelled s;
      classes = m.classes;
      words = m.words;
      operators = m.operators;
      initials = m.initials;
      classes_named = any-append (has_unknown_class (length made.classes)) made.forms body m.classes_named no.first;
      few_rules = omega (arith, one, few.0);
      few_nodes = omega (arith, length-append made.forms body, few.1);
    }

-- ---- class items

-- an item among so many is among one more
lacks_item_less : (count : ℕ) (part : ClassPart) → lacks_item count part ≡ false → lacks_item (suc count) part ≡ false
lacks_item_less count (Literal s) h = refl
lacks_item_less count (Range low high) h = refl
lacks_item_less count (Union n) h = refl
lacks_item_less count Complement h = refl
lacks_item_less count (Class k) h = grind (arith, nat_tests)
lacks_item_less count (Predicate used) h = refl

-- where a test that fails fails another, none of those it fails for passes the other
any-weaker : {X : Type 0} (p q : X → Bool) → ((x : X) → p x ≡ false → q x ≡ false) → (xs : List X) → list_any p xs ≡ false → list_any q xs ≡ false
any-weaker p q w [] h = refl
any-weaker p q w (x ∷ xs) h =
    let k = or_parts (p x) (list_any p xs) h in rw (w x k.0) (any-weaker p q w xs k.1)

-- a form that names items among so many names items among one more
has_unknown_class_less : (count : ℕ) (form : BaseForm) → has_unknown_class count form ≡ false → has_unknown_class (suc count) form ≡ false
has_unknown_class_less count form h = any-weaker (lacks_item count) (lacks_item (suc count)) (lacks_item_less count) (class_parts form) h

-- a pair of expressions that name items among so many names items among one more
lacks_item_less-pair : (count : ℕ) (class other : List ClassPart) → (list_any (lacks_item count) class || list_any (lacks_item count) other) ≡ false
    → (list_any (lacks_item (suc count)) class || list_any (lacks_item (suc count)) other) ≡ false
lacks_item_less-pair count class other h =
    let k = or_parts (list_any (lacks_item count) class) (list_any (lacks_item count) other) h in
    rw (any-weaker (lacks_item count) (lacks_item (suc count)) (lacks_item_less count) class k.0)
    (any-weaker (lacks_item count) (lacks_item (suc count)) (lacks_item_less count) other k.1)

-- word items over so many class items are word items over one more
AreWords_less : (count : ℕ) (words : List WordItem) → AreWords count words → AreWords (suc count) words
AreWords_less count words h = record {
  distinct = h.distinct;
  known = any-weaker (word_lacks_item count) (word_lacks_item (suc count)) (λ (item : WordItem). lacks_item_less-pair count item.head item.rest) words h.known;
  literals = h.literals;
  few = h.few;
}

-- an operators item over so many class items is one over one more
AreOperators_less : (count : ℕ) (operators : Option OperatorsItem) → AreOperators count operators → AreOperators (suc count) operators
AreOperators_less count None h = tt
AreOperators_less count (Some item) h =
    record { known = lacks_item_less-pair count item.class item.gap h.known; literals = h.literals; least = h.least; most = h.most }

-- an item after others that names only those, and those each only the ones before it
NameEarlier-push : (count : ℕ) (items : List ClassItem) (item : ClassItem) → NameEarlier count items
    → list_any (lacks_item (count + length items)) item.class ≡ false → NameEarlier count (items ++ item ∷ [])
NameEarlier-push count [] item h e =
    let same : count + 0 ≡ count = omega arith in (rw same at e, tt)
NameEarlier-push count (other ∷ items) item h e =
    let same : count + suc (length items) ≡ suc count + length items = omega arith in
    (h.0, NameEarlier-push (suc count) items item h.1 (rw same at e))

-- a maker may take a class item that has no fault
pub made_with_class : (made : Made) (name : Name) (class : List ClassPart) → IsMade made → class_fault made name class ≡ None
    → IsMade (with_class made name class)
made_with_class made name class m e =
    let item : ClassItem = record { name = name; class = class } in
    let no = no_fault (list_any (lacks_item (length made.classes)) class) (has_item made.classes name) (list_any descends class)
    (class_passes_limit made name class) _ _ _ _ e in
    let new = any-map (λ other. bytes_eq other name) item_name made.classes ∙ no.second in
    let zero : length made.classes ≡ 0 + length made.classes = omega arith in
    let known = subst (λ k. list_any (lacks_item k) class ≡ false) zero no.first in
    let room = (or_parts _ (nat_le 256 (length made.classes)) no.fourth).1 in
    let more = length-append made.classes (item ∷ []) in
    let next : length (made.classes ++ item ∷ []) ≡ suc (length made.classes) = omega (arith, more) in
    record {
      whole = m.whole;
      distinct = m.distinct;
      literals = m.literals;
      alternatives = m.alternatives;
      spelled = m.spelled;
      classes = record {
        distinct = rw (map-append item_name made.classes (item ∷ [])) (AreDistinct-push (map item_name made.classes) name m.classes.distinct new);
        earlier = NameEarlier-push 0 made.classes item m.classes.earlier known;
        ascend = all-push _ made.classes item m.classes.ascend no.third;
        few = grind (arith, nat_tests);
      };
      words = rw next (AreWords_less (length made.classes) made.words m.words);
      operators = rw next (AreOperators_less (length made.classes) made.operators m.operators);
      initials = m.initials;
      classes_named = rw next (any-weaker _ _ (has_unknown_class_less (length made.classes)) made.forms m.classes_named);
      few_rules = m.few_rules;
      few_nodes = m.few_nodes;
    }

-- ---- word items, the operators item and initial declarations

-- a maker may take a word item that has no fault
pub made_with_word : (made : Made) (item : WordItem) → IsMade made → word_fault made item ≡ None → IsMade (with_word made item)
made_with_word made item m e =
    let no = no_fault (word_lacks_item (length made.classes) item) (has_word made.words item.name) (word_has_bad_literal item)
    (word_passes_limit made item) _ _ _ _ e in
    let new = any-map (λ other. bytes_eq other item.name) word_name made.words ∙ no.second in
    let room = (or_parts _ (nat_le 64 (length made.words)) no.fourth).1 in
    let more = length-append made.words (item ∷ []) in
    record {
      whole = m.whole;
      distinct = m.distinct;
      literals = m.literals;
      alternatives = m.alternatives;
      spelled = m.spelled;
      classes = m.classes;
      words = record {
        distinct = rw (map-append word_name made.words (item ∷ [])) (AreDistinct-push (made_words made) item.name m.words.distinct new);
        known = any-append (word_lacks_item (length made.classes)) made.words (item ∷ []) m.words.known (rw no.first refl);
        literals = any-append word_has_bad_literal made.words (item ∷ []) m.words.literals (rw no.third refl);
        few = grind (arith, nat_tests);
      };
      operators = m.operators;
      initials = m.initials;
      classes_named = m.classes_named;
      few_rules = m.few_rules;
      few_nodes = m.few_nodes;
    }

-- ---- the grammar

-- the grammar of what was made, with these nodes and rules
abbrev pub grammar_with : Made → List Node → List Rule → ℕ → Grammar
grammar_with made nodes rules start = record {
  classes = made.classes;
  words = made.words;
  operators = made.operators;
  initials = made.initials;
  nodes = nodes;
  rules = rules;
  start = start;
}

-- these are the nodes and the rules of what was made, and the number of the rule to start with
pub record IsNumbered (made : Made) (nodes : List Node) (rules : List Rule) (start : ℕ) : Type 0 where
  pub ready : IsReady made start
  pub of_forms : nodes ≡ nodes_from made.names (made_words made) 0 made.forms
  pub names : map rule_name rules ≡ made.names
  pub bodies : map rule_body rules ≡ roots 0 (map part_count made.forms)

-- the nodes of forms with their own parts
nodes_with-parts : (rules words : List Name) (i : ℕ) (forms : List BaseForm)
    → nodes_with rules words forms (parts_from i (map part_count forms)) ≡ nodes_from rules words i forms
nodes_with-parts rules words i [] = refl
nodes_with-parts rules words i (f ∷ forms) =
    ap (λ ns. node_of rules words f (take (part_count f) (roots (suc i) (map part_count forms))) ∷ ns) (nodes_with-parts rules words (suc i) forms)

-- each form has its list of parts
length-parts_from : (i : ℕ) (counts : List ℕ) → length (parts_from i counts) ≡ length counts
length-parts_from i [] = refl
length-parts_from i (n ∷ counts) = ap suc (length-parts_from (suc i) counts)

-- there are as many lists of parts as forms
pub counted_parts : (made : Made) (parts : List (List ℕ)) (bodies : List ℕ) (start : ℕ) → AreNumbers made parts bodies start
    → length parts ≡ length made.forms
counted_parts made parts bodies start n = rw n.own (length-parts_from 0 (map part_count made.forms) ∙ length-map made.forms part_count)

-- there are as many bodies as names
pub counted_bodies : (made : Made) (parts : List (List ℕ)) (bodies : List ℕ) (start : ℕ) → IsMade made → AreNumbers made parts bodies start
    → length bodies ≡ length made.names
counted_bodies made parts bodies start m n = rw n.roots (length-roots 0 _ _ m.whole)

-- with these numbers, the nodes and the rules are those of what was made
pub are_numbered : (made : Made) (parts : List (List ℕ)) (bodies : List ℕ) (start : ℕ) (nodes : List Node) (rules : List Rule)
    → AreNumbers made parts bodies start → nodes ≡ nodes_with made.names (made_words made) made.forms parts
    → map rule_name rules ≡ made.names → map rule_body rules ≡ bodies → IsNumbered made nodes rules start
are_numbered made parts bodies start nodes rules n formed named embodied =
    let own = n.own in
    record {
      ready = n.ready;
      of_forms = rw (formed, own) (nodes_with-parts made.names (made_words made) 0 made.forms);
      names = named;
      bodies = embodied ∙ n.roots;
    }

-- every rule and word item that is named is there, and so is the operators item where operators are used
known_parts : (made : Made) → is_incomplete made ≡ false
    → (list_any (has_unknown_name made.names (made_words made)) made.forms ≡ false) × (lacks_operators made.operators made.initials made.forms ≡ false)
known_parts made h =
    or_parts (list_any (has_unknown_name made.names (made_words made)) made.forms) (lacks_operators made.operators made.initials made.forms) h

-- there are as many rules as names
length-rules : (names : List Name) (rules : List Rule) → map rule_name rules ≡ names → length rules ≡ length names
length-rules names [] e = ap length e
length-rules [] (rule ∷ rules) e = absurd cc
length-rules (name ∷ names) (rule ∷ rules) e = let rest : map rule_name rules ≡ names = cc in ap suc (length-rules names rules rest)

-- what was made is a grammar, once nothing is in its way
pub is_grammar : (made : Made) (nodes : List Node) (rules : List Rule) (start : ℕ) → IsMade made → IsNumbered made nodes rules start
    → IsGrammar (grammar_with made nodes rules start)
is_grammar made nodes rules start m n =
    let known = known_parts made n.ready.known in
    let counts = counts-nodes_from made.names (made_words made) 0 _ made.forms m.whole in
    let forms = forms-nodes_from made.names (made_words made) 0 _ made.forms m.whole known.0 in
    let count = length-rules made.names rules n.names in
    let below = n.ready.below in
    rw n.of_forms
    (record {
      preorder = preorder-nodes_from made.names (made_words made) 0 _ made.forms m.whole;
      bodies = n.bodies ∙ ap (roots 0) (sym counts);
      named = rw count (named-nodes_from made.names (made_words made) 0 made.forms known.0);
      words_named = rw (← length-map made.words word_name) (words_named-nodes_from made.names (made_words made) 0 made.forms known.0);
      start = omega (arith, count, below);
      distinct = rw n.names m.distinct;
      classes = m.classes;
      words = m.words;
      operators = m.operators;
      initials = m.initials;
      operators_there = rw (n.names, forms) known.1;
      classes_named = rw (n.names, forms) m.classes_named;
      literals = rw (n.names, forms) m.literals;
      alternatives = rw (n.names, forms) m.alternatives;
      spelled = rw (n.names, forms) m.spelled;
      few_rules = omega (arith, count, m.few_rules);
      few_nodes = omega (arith, length-nodes_from made.names (made_words made) 0 made.forms, m.few_nodes);
    })

-- that grammar says what was made
pub says_made : (made : Made) (nodes : List Node) (rules : List Rule) (start : ℕ) → IsMade made → IsNumbered made nodes rules start
    → Says made (grammar_with made nodes rules start)
says_made made nodes rules start m n =
    let known = known_parts made n.ready.known in
    let forms = forms-nodes_from made.names (made_words made) 0 _ made.forms m.whole known.0 in
    record {
      sound = is_grammar made nodes rules start m n;
      start = rw n.names n.ready.named;
      classes = refl;
      words = refl;
      operators = refl;
      initials = refl;
      names = sym n.names;
      forms = rw (n.names, n.of_forms) (sym forms);
    }

-- its nodes have the class expressions of the forms
pub classes_of_nodes : (made : Made) (nodes : List Node) (rules : List Rule) (start : ℕ) → IsMade made → IsNumbered made nodes rules start
    → map class_parts made.forms ≡ map class_parts nodes
classes_of_nodes made nodes rules start m n =
    let g = grammar_with made nodes rules start in
    ap (map class_parts) (says_made made nodes rules start m n).forms ∙ nodes_classes (rule_names g) (word_names g) nodes

-- ---- the start

-- the start names the rule with this number
record IsThere (names : List Name) (start : Option Name) (r : ℕ) : Type 0 where
  below : r < length names
  named : start ≡ Some (name_at names r)
  there : option_map_or (has_name names) start false ≡ true

-- a start that is found names a rule
start_is_there : (names : List Name) (start : Option Name) (r : ℕ) → option_and_then (place_of_name names) start ≡ Some r → IsThere names start r
start_is_there names None r e = absurd cc
start_is_there names (Some name) r e = go (has_name names name) refl
  where
    go : (b : Bool) → has_name names name ≡ b → IsThere names (Some name) r
    go true h =
        let found = number_is_found names name h in
        let place = place_is_number names name h in
        let same : number_of names name ≡ r = cc in
        let below = found.below in
        record {
          below = subst (λ k. k < length names) same below;
          named = ap Some (sym (subst (λ k. name_at names k ≡ name) same found.named));
          there = h;
        }
    go false h = let none = place_is_none names name h in absurd cc

-- a start that is not found names none
start_is_missing : (names : List Name) (start : Option Name) → option_and_then (place_of_name names) start ≡ None → option_map_or (has_name names) start false ≡ false
start_is_missing names None e = refl
start_is_missing names (Some name) e = go (has_name names name) refl
  where
    go : (b : Bool) → has_name names name ≡ b → has_name names name ≡ false
    go true h = let some = place_is_number names name h in absurd cc
    go false h = h

-- a maker with all names known and its start found is ready
pub is_ready : (made : Made) (r : ℕ) → is_incomplete made ≡ false → option_and_then (place_of_name made.names) made.start ≡ Some r → IsReady made r
is_ready made r known e =
    let there = start_is_there made.names made.start r e in
    record { known = known; below = there.below; named = there.named }

-- then it has no fault
pub ready_fault : (made : Made) (r : ℕ) → is_incomplete made ≡ false → option_and_then (place_of_name made.names) made.start ≡ Some r → finish_fault made ≡ None
ready_fault made r known e = rw (known, (start_is_there made.names made.start r e).there) refl

-- with all names known and no start found, that is its fault
pub no_start_fault : (made : Made) → is_incomplete made ≡ false → option_and_then (place_of_name made.names) made.start ≡ None → finish_fault made ≡ Some NoStart
no_start_fault made known e = rw (known, start_is_missing made.names made.start e) refl
