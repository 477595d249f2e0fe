-- What is answered for a class item is what its own expression says, over the same answers.
use Rattle.std.proofs.Common.{◌≡◌, ◌∙◌, ℕ, zero, suc, ◌+◌, ◌<◌, ◌≤◌, Bool, false, ◌&&◌, ◌==◌, nat_le, List, [], ◌∷◌, ◌++◌, length, take, drop, Some, Option, None, slice_get, get_or, set, replicate, inl, inr, ◌⊎◌, refl, sym, ap, subst, arith, length-append}
use Rattle.std.proofs.lemmas.Bool.{or_parts}
use Rattle.std.proofs.lemmas.Bool.Decides.{nat_tests}
use Rattle.std.proofs.lemmas.Option.{slice_get_within}
use Rattle.std.specs.List.{list_any}
use Rattle.pg_class.specs.Ranges.{has}
use Rattle.pg_pred.specs.Offer.{Offer}
use Rattle.pg_grammar_form.specs.Classes.{memberships, is_member, one_holds, first_negated, answer_at, lacks_item}
use Rattle.pg_grammar_form.specs.ClassItems.{answers_after, item_answers, item_class, NameEarlier}
use Rattle.pg_grammar_form.specs.Names.{Name}
use Rattle.pg_grammar_form.specs.Contents.{class_parts}
use Rattle.pg_grammar_value.specs.Fits.{ClassFits, WordFits, OperatorsFit, NodeFits, Fits, IsClassIn, in_item, in_head, in_rest, in_operators, in_gap, in_node}
use Rattle.pg_grammar_form.specs.Forms.{Node, form_of, has_unknown_class}
use Rattle.pg_grammar_value.specs.Grammar.{Grammar, IsGrammar, rule_names, word_names}
use Rattle.pg_grammar_form.specs.WordItems.{word_lacks_item}
use Rattle.pg_grammar_form.specs.OperatorsItems.{AreOperators}
use Rattle.pg_grammar_value.specs.Membership.{Knows}
use Rattle.pg_grammar_form.specs.declared.class.ClassPart.{ClassPart}
use Rattle.pg_grammar_form.specs.declared.class.ClassPart.TheVariants.{Literal, Range, Union, Complement, Class, Predicate}
use Rattle.pg_grammar_form.specs.declared.class_item.ClassItem.{ClassItem}
use Rattle.pg_grammar_form.specs.declared.form.Form.TheVariants as form
use Rattle.pg_grammar_form.specs.declared.form.Leaf.TheVariants as leaf
use Rattle.pg_grammar_form.proofs.Each.{all-get, none-get, none-at}

-- ---- answers in a list

-- an answer stays where further answers come after it
answer_at-front : (known more : List Bool) (k : ℕ) → k < length known → answer_at (known ++ more) k ≡ answer_at known k
answer_at-front [] more k h = absurd (omega arith)
answer_at-front (b ∷ bs) more zero h = refl
answer_at-front (b ∷ bs) more (suc k) h = let below : k < length bs = omega arith in answer_at-front bs more k below

-- the last answer has the number of answers before it
answer_at-last : (known : List Bool) (b : Bool) → answer_at (known ++ b ∷ []) (length known) ≡ b
answer_at-last [] b = refl
answer_at-last (a ∷ known) b = answer_at-last known b

-- what is answered first stays
answers_after-known : (known : List Bool) (items : List ClassItem) (c k : ℕ) → k < length known
    → answer_at (answers_after known items c) k ≡ answer_at known k
answers_after-known known [] c k h = refl
answers_after-known known (item ∷ items) c k h =
    let b = is_member known item.class c in
    let below : k < length (known ++ b ∷ []) = omega (arith, length-append known (b ∷ [])) in
    answers_after-known (known ++ b ∷ []) items c k below ∙ answer_at-front known (b ∷ []) k h

-- ---- expressions

-- an item that isn't lacking has a number below
not_lacking : (below k : ℕ) → nat_le below k ≡ false → k < below
not_lacking below k h = grind (arith, nat_tests)

-- an expression over items below some number is answered alike by answers that are alike below it
memberships-same : (below : ℕ) (a b : List Bool) → ((k : ℕ) → k < below → answer_at a k ≡ answer_at b k)
    → (parts : List ClassPart) (c : ℕ) → list_any (lacks_item below) parts ≡ false → memberships a parts c ≡ memberships b parts c
memberships-same below a b same [] c h = refl
memberships-same below a b same (Literal s ∷ parts) c h = ap (λ ms. list_any (λ x. x == c) s ∷ ms) (memberships-same below a b same parts c h)
memberships-same below a b same (Range low high ∷ parts) c h = ap (λ ms. (nat_le low c && nat_le c high) ∷ ms) (memberships-same below a b same parts c h)
memberships-same below a b same (Union n ∷ parts) c h = ap (λ ms. one_holds (take n ms) ∷ drop n ms) (memberships-same below a b same parts c h)
memberships-same below a b same (Complement ∷ parts) c h = ap first_negated (memberships-same below a b same parts c h)
memberships-same below a b same (Class k ∷ parts) c h =
    let rest = list_any (lacks_item below) parts in
    let number : k < below = not_lacking below k (or_parts (nat_le below k) rest h).0 in
    let first = same k number in
    let after = memberships-same below a b same parts c (or_parts (nat_le below k) rest h).1 in
    rw (first, after) refl
memberships-same below a b same (Predicate used ∷ parts) c h = ap (λ ms. has used.class c ∷ ms) (memberships-same below a b same parts c h)

-- ---- class items

-- an item's answer, after those of the items before these
answer_is_after : (known : List Bool) (items : List ClassItem) (c k : ℕ) (item : ClassItem) → NameEarlier (length known) items
    → slice_get items k ≡ Some item
    → answer_at (answers_after known items c) (length known + k) ≡ is_member (answers_after known items c) item.class c
answer_is_after known [] c zero item h e = absurd cc
answer_is_after known [] c (suc k) item h e = absurd cc
answer_is_after known (first ∷ items) c zero item h e =
    let b = is_member known first.class c in
    let more = known ++ b ∷ [] in
    let long : length more ≡ length known + 1 = omega (arith, length-append known (b ∷ [])) in
    let all = answers_after more items c in
    let same = λ (k : ℕ) (below : k < length known).
    let inside : k < length more = omega arith in
    answers_after-known more items c k inside ∙ answer_at-front known (b ∷ []) k below in
    let is : first ≡ item = cc in
    let own : length known < length more = omega arith in
    let zero_is : length known + 0 ≡ length known = omega arith in
    rw (zero_is, ← is)
    (answers_after-known more items c (length known) own
    ∙ (answer_at-last known b ∙ sym (ap (λ ms. one_holds (take 1 ms)) (memberships-same (length known) all known same first.class c h.0))))
answer_is_after known (first ∷ items) c (suc k) item h e =
    let b = is_member known first.class c in
    let more = known ++ b ∷ [] in
    let long : length more ≡ suc (length known) = omega (arith, length-append known (b ∷ [])) in
    let next : length more + k ≡ length known + suc k = omega arith in
    let earlier : NameEarlier (length more) items = rw long h.1 in
    let ih = answer_is_after more items c k item earlier e in
    rw (← next) ih

-- what is answered for an item is what its expression says
answer_is : (items : List ClassItem) (c k : ℕ) (item : ClassItem) → NameEarlier 0 items → slice_get items k ≡ Some item
    → answer_at (item_answers items c) k ≡ is_member (item_answers items c) item.class c
answer_is items c k item h e =
    let zero_is : 0 + k ≡ k = omega arith in
    rw zero_is at (answer_is_after [] items c k item h e)

-- an expression that lacks no item of few lacks none of more
pub lacks_item-more : (few more : ℕ) → few ≤ more → (parts : List ClassPart) → list_any (lacks_item few) parts ≡ false
    → list_any (lacks_item more) parts ≡ false
lacks_item-more few more le [] h = refl
lacks_item-more few more le (Literal s ∷ parts) h = lacks_item-more few more le parts h
lacks_item-more few more le (Range low high ∷ parts) h = lacks_item-more few more le parts h
lacks_item-more few more le (Union n ∷ parts) h = lacks_item-more few more le parts h
lacks_item-more few more le (Complement ∷ parts) h = lacks_item-more few more le parts h
lacks_item-more few more le (Class k ∷ parts) h =
    let rest = list_any (lacks_item few) parts in
    let number : k < few = not_lacking few k (or_parts (nat_le few k) rest h).0 in
    let test : nat_le more k ≡ false = grind (arith, nat_tests) in
    let after = lacks_item-more few more le parts (or_parts (nat_le few k) rest h).1 in
    rw (test, after) refl
lacks_item-more few more le (Predicate used ∷ parts) h = lacks_item-more few more le parts h

-- an item names only items before it
names_earlier : (count : ℕ) (items : List ClassItem) (k : ℕ) (item : ClassItem) → NameEarlier count items → slice_get items k ≡ Some item
    → list_any (lacks_item (count + k)) item.class ≡ false
names_earlier count [] zero item h e = absurd cc
names_earlier count [] (suc k) item h e = absurd cc
names_earlier count (first ∷ items) zero item h e =
    let zero_is : count + 0 ≡ count = omega arith in
    let is : first ≡ item = cc in
    rw (zero_is, ← is) h.0
names_earlier count (first ∷ items) (suc k) item h e =
    let next : suc count + k ≡ count + suc k = omega arith in
    rw (← next) (names_earlier (suc count) items k item h.1 e)

-- of all items, an item names only those before it
pub names_before : (items : List ClassItem) (k : ℕ) (item : ClassItem) → NameEarlier 0 items → slice_get items k ≡ Some item
    → list_any (lacks_item k) item.class ≡ false
names_before items k item h e =
    let zero_is : 0 + k ≡ k = omega arith in
    rw zero_is at (names_earlier 0 items k item h e)

-- how long so many items are together, each counted with its name
abbrev pub weight : List ClassItem → ℕ → ℕ
weight [] count = 0
weight (item ∷ items) zero = 0
weight (item ∷ items) (suc count) = suc (length (item_class item)) + weight items count

-- an item and those before it weigh no more than the items below a later one
pub weight-item : (items : List ClassItem) (below k : ℕ) (item : ClassItem) → slice_get items k ≡ Some item → k < below
    → length item.class + weight items k < weight items below
weight-item [] below zero item e h = absurd cc
weight-item [] below (suc k) item e h = absurd cc
weight-item (first ∷ items) zero k item e h = absurd (omega arith)
weight-item (first ∷ items) (suc below) zero item e h =
    let is : first ≡ item = cc in
    let long : length first.class ≡ length item.class = ap (λ (i : ClassItem). length i.class) is in
    omega arith
weight-item (first ∷ items) (suc below) (suc k) item e h =
    let less : k < below = omega arith in
    let ih = weight-item items below k item e less in
    omega arith

-- ---- parts of an expression

-- the first part names an item below
pub item_is_below : (below k : ℕ) (all parts after : List ClassPart) (part : ClassPart) → list_any (lacks_item below) parts ≡ list_any (lacks_item below) all
    → list_any (lacks_item below) all ≡ false → parts ≡ part ∷ after → part ≡ Class k → k < below
item_is_below below k all parts after part same none are is =
    let lacks : list_any (lacks_item below) (Class k ∷ after) ≡ false = rw (are, is) at (same ∙ none) in
    not_lacking below k (or_parts (nat_le below k) (list_any (lacks_item below) after) lacks).0

-- the parts after the first lack no item
pub none_after : (below : ℕ) (all parts after : List ClassPart) (part : ClassPart) → list_any (lacks_item below) parts ≡ list_any (lacks_item below) all
    → list_any (lacks_item below) all ≡ false → parts ≡ part ∷ after → list_any (lacks_item below) after ≡ false
none_after below all parts after part same none are =
    let lacks : list_any (lacks_item below) (part ∷ after) ≡ false = rw are at (same ∙ none) in
    (or_parts (lacks_item below part) (list_any (lacks_item below) after) lacks).1

-- ---- answers that are noted

-- one answer more is noted: each is either that one or was noted before
set-get : {X : Type 0} (noted : List X) (n : ℕ) (x : X) (k : ℕ) (y : X) → slice_get (set noted n x) k ≡ Some y
    → ((k ≡ n) × (y ≡ x)) ⊎ (slice_get noted k ≡ Some y)
set-get [] zero x k y e = inr e
set-get [] (suc n) x k y e = inr e
set-get (z ∷ zs) zero x zero y e = inl (refl, cc)
set-get (z ∷ zs) zero x (suc k) y e = inr e
set-get (z ∷ zs) (suc n) x zero y e = inr e
set-get (z ∷ zs) (suc n) x (suc k) y e = elim (set-get zs n x k y e) [ inl h ↦ inl (ap suc h.0, h.1) | inr h ↦ inr h ]

-- an item's answer is noted for it
pub knows-next : (items : List ClassItem) (c : ℕ) (noted : List (Option Bool)) (n : ℕ) (b : Bool) → Knows items c noted
    → b ≡ answer_at (item_answers items c) n → Knows items c (set noted n (Some b))
knows-next items c noted n b knows is k has e =
    elim (set-get noted n (Some b) k (Some has) e) [
      | inl h ↦ (let same : has ≡ b = cc in same ∙ (is ∙ ap (answer_at (item_answers items c)) (sym h.0)))
      | inr h ↦ knows k has h
    ]

-- an answer that was noted
pub noted_is : (items : List ClassItem) (c : ℕ) (noted : List (Option Bool)) (n : ℕ) (b : Bool) → Knows items c noted → get_or noted n None ≡ Some b
    → b ≡ answer_at (item_answers items c) n
noted_is items c noted n b knows e = knows n b (get-noted noted n e)
  where
    get-noted : (noted : List (Option Bool)) (n : ℕ) → get_or noted n None ≡ Some b → slice_get noted n ≡ Some (Some b)
    get-noted [] n e = absurd cc
    get-noted (o ∷ os) zero e = ap Some e
    get-noted (o ∷ os) (suc n) e = get-noted os n e

-- an answer that an item's expression gave
pub asked_is : (items : List ClassItem) (c n : ℕ) (item : ClassItem) (parts : List ClassPart) (b : Bool) → NameEarlier 0 items
    → slice_get items n ≡ Some item → parts ≡ item.class → b ≡ is_member (item_answers items c) parts c → b ≡ answer_at (item_answers items c) n
asked_is items c n item parts b earlier at own is =
    is ∙ (ap (λ ps. is_member (item_answers items c) ps c) own ∙ sym (answer_is items c n item earlier at))

-- nothing is noted yet
pub knows-none : (items : List ClassItem) (c n : ℕ) → Knows items c (replicate n None)
knows-none items c zero k has e = absurd cc
knows-none items c (suc n) zero has e = absurd cc
knows-none items c (suc n) (suc k) has e = absurd (no_answer n k has e)
  where
    no_answer : (n k : ℕ) (has : Bool) → slice_get (replicate n None) k ≡ Some (Some has) → ⊥
    no_answer zero k has e = cc
    no_answer (suc n) zero has e = cc
    no_answer (suc n) (suc k) has e = no_answer n k has e

-- ---- expressions of a grammar

-- the class expression of a node stands in its base form
pub class_parts-form_of : (rules words : List Name) (n : Node) → class_parts (form_of rules words n) ≡ class_parts n
class_parts-form_of rules words (form.Leaf (leaf.Word word)) = refl
class_parts-form_of rules words _ = refl

-- an expression of a grammar names only its class items
pub lacks_none : (g : Grammar) {class : List ClassPart} → IsGrammar g → IsClassIn g class → list_any (lacks_item (length g.classes)) class ≡ false
lacks_none g grammar (in_item k {item} e) =
    let within = slice_get_within g.classes k item e in
    let few : k ≤ length g.classes = omega arith in
    lacks_item-more k (length g.classes) few item.class (names_before g.classes k item grammar.classes.earlier e)
lacks_none g grammar (in_head k {item} e) =
    (or_parts _ (list_any (lacks_item (length g.classes)) item.rest) (none-at (word_lacks_item (length g.classes)) g.words k item grammar.words.known e)).0
lacks_none g grammar (in_rest k {item} e) =
    (or_parts (list_any (lacks_item (length g.classes)) item.head) _ (none-at (word_lacks_item (length g.classes)) g.words k item grammar.words.known e)).1
lacks_none g grammar (in_operators {item} e) =
    (or_parts _ (list_any (lacks_item (length g.classes)) item.gap) (subst (AreOperators (length g.classes)) e grammar.operators).known).0
lacks_none g grammar (in_gap {item} e) =
    (or_parts (list_any (lacks_item (length g.classes)) item.class) _ (subst (AreOperators (length g.classes)) e grammar.operators).known).1
lacks_none g grammar (in_node p {node = n} e) =
    let known = none-get (has_unknown_class (length g.classes)) (form_of (rule_names g) (word_names g)) g.nodes p n grammar.classes_named e in
    rw (class_parts-form_of (rule_names g) (word_names g) n) at known

-- what an expression of a grammar names is offered
pub class_is_offered : (offer : Offer) (g : Grammar) {class : List ClassPart} → Fits offer g → IsClassIn g class → ClassFits offer class
class_is_offered offer g fits (in_item k {item} e) = all-get (λ i. ClassFits offer (item_class i)) g.classes k item fits.classes e
class_is_offered offer g fits (in_head k {item} e) = (all-get (WordFits offer) g.words k item fits.words e).0
class_is_offered offer g fits (in_rest k {item} e) = (all-get (WordFits offer) g.words k item fits.words e).1
class_is_offered offer g fits (in_operators e) = (subst (OperatorsFit offer) e fits.operators).0
class_is_offered offer g fits (in_gap e) = (subst (OperatorsFit offer) e fits.operators).1
class_is_offered offer g fits (in_node p {node = n} e) = (all-get (NodeFits offer) g.nodes p n fits.nodes e).0
