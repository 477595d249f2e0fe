-- The text of a trail is read as the trail's value.
use Rattle.std.proofs.Common.{◌≡◌, ◌≤◌, ◌<◌, ◌+◌, ◌-◌, ◌^◌, ℕ, take, drop, get_or, List, [], ◌∷◌, ◌++◌, Bool, true, false, map, codes, Option, Some, option_map, option_and_then, length, refl, ap, sym, ◌∙◌, subst, arith, append-nil}
use Rattle.std.specs.Str.{encode_utf8_all, IsUtf8}
use Rattle.std.proofs.lemmas.Str.{IsUtf8-append, IsUtf8-nil, IsUtf8-from_ascii}
use Rattle.std.proofs.lemmas.List.{take_more, take_all}
use Rattle.std.proofs.lemmas.Fmt.{IsAscii-decimal}
use Rattle.json.specs.Json as json
use Rattle.json.specs.Lex.{tokens}
use Rattle.json.specs.Token.{Token}
use Rattle.json.specs.Print.{quoted}
use Rattle.json.specs.Tree as tree
use Rattle.json.proofs.Printed.Trees.{value-json_tokens, ArePrintable-json_tokens}
use Rattle.json.proofs.Printed.Tokens.{tokens-print}
use Rattle.json.proofs.Printed.Decimals.{IsNumber-decimal}
use Rattle.json.proofs.Printed.Utf8.{IsUtf8-quoted, IsUtf8-are_ascii, are_ascii}
use Rattle.serde_json.specs.Data.{Data, array, Items, item}
use Rattle.serde_json.specs.View.{items_of}
use Rattle.serde_json.specs.Read.{read, of_json, of_items, max_depth}
use Rattle.serde_json.specs.Written.{compact_text, items_text, comma_if, outline, items_outline}
use Rattle.serde_json.proofs.Texts.{print-outline}
use Rattle.serde_json.proofs.Numbers.{number_of-decimal}
use Rattle.pg_grammar_value.specs.declared.trail.Fixity.{Fixity}
use Rattle.pg_grammar_value.specs.declared.trail.Fixity.TheVariants.{Prefix, Infix, Postfix}
use Rattle.pg_grammar_value.specs.declared.trail.AppliedOperator.{AppliedOperator}
use Rattle.pg_grammar_value.specs.declared.trail.TrailItem.{TrailItem}
use Rattle.pg_grammar_value.specs.declared.trail.TrailItem.TheVariants.{Alt, Rounds, Ops}
use Rattle.pg_trail.specs.TrailJson.{role, two_texts, operator_value, operators_value, count_value, lone, item_value, trail_value, trail_json, IsTrailText}
use Rattle.pg_trail.specs.Storable.{AreSymbolsText, IsStorable, AreStorable}

-- the value of the whole text, whose first value and the tokens after it these are
abbrev whole : Option (json.Json × List Token) → Option Data
whole o = option_and_then of_json (option_and_then (λ p. json.if_last p.0 p.1) o)

-- a value comes back from what is written for it, where its numbers are numbers and it isn't deep
value_again : (d : Data) → tree.HasNumbers (outline d) → tree.depth (outline d) ≤ max_depth → of_json (outline d) ≡ Some d → read (compact_text d) ≡ Some d
value_again d numbers shallow back =
    let spelled : tokens (compact_text d) ≡ tree.json_tokens (outline d) ++ [] =
    ap tokens (sym (print-outline d)) ∙ tokens-print (tree.json_tokens (outline d)) (ArePrintable-json_tokens (outline d) numbers) ∙ sym (append-nil _) in
    ap whole (ap (json.value max_depth) spelled ∙ value-json_tokens (outline d) max_depth [] shallow) ∙ back

one_item : (d : Data) (ds : Items) (j : json.Json) (js : json.Items) → of_json j ≡ Some d → of_items js ≡ Some ds → of_items (json.item j js) ≡ Some (item d ds)
one_item d ds j js e es = rw (e, es) refl

-- ---- operators

operators_back : (os : List AppliedOperator) → of_items (items_outline (items_of (map operator_value os))) ≡ Some (items_of (map operator_value os))
operators_back [] = refl
operators_back (o ∷ os) = one_item (operator_value o) (items_of (map operator_value os)) (outline (operator_value o)) (items_outline (items_of (map operator_value os))) refl (operators_back os)

operators_have_numbers : (os : List AppliedOperator) → tree.ItemsHaveNumbers (items_outline (items_of (map operator_value os)))
operators_have_numbers [] = tt
operators_have_numbers (o ∷ os) = ((tt, (tt, tt)), operators_have_numbers os)

operators_shallow : (os : List AppliedOperator) → tree.items_depth (items_outline (items_of (map operator_value os))) ≤ 1
operators_shallow [] = omega arith
operators_shallow (o ∷ os) = omega (arith, operators_shallow os)

-- ---- items

count_back : (k : List ℕ) (n : ℕ) → n < 2 ^ 64 → of_json (outline (lone k (count_value n))) ≡ Some (lone k (count_value n))
count_back k n fits = rw (number_of-decimal n fits) refl

item_back : (i : TrailItem) → IsStorable i → of_json (outline (item_value i)) ≡ Some (item_value i)
item_back (Alt n) fits = count_back (codes "alt") n fits
item_back (Rounds n) fits = count_back (codes "rounds") n fits
item_back (Ops os) fits = rw (operators_back os) refl

item_has_numbers : (i : TrailItem) → IsStorable i → tree.HasNumbers (outline (item_value i))
item_has_numbers (Alt n) fits = (IsNumber-decimal n fits, tt)
item_has_numbers (Rounds n) fits = (IsNumber-decimal n fits, tt)
item_has_numbers (Ops os) fits = (operators_have_numbers os, tt)

item_shallow : (i : TrailItem) → tree.depth (outline (item_value i)) ≤ 3
item_shallow (Alt n) = omega arith
item_shallow (Rounds n) = omega arith
item_shallow (Ops os) = omega (arith, operators_shallow os)

items_back : (is : List TrailItem) → AreStorable is → of_items (items_outline (items_of (map item_value is))) ≡ Some (items_of (map item_value is))
items_back [] fit = refl
items_back (i ∷ is) fit = one_item (item_value i) (items_of (map item_value is)) (outline (item_value i)) (items_outline (items_of (map item_value is))) (item_back i fit.0) (items_back is fit.1)

items_have_numbers : (is : List TrailItem) → AreStorable is → tree.ItemsHaveNumbers (items_outline (items_of (map item_value is)))
items_have_numbers [] fit = tt
items_have_numbers (i ∷ is) fit = (item_has_numbers i fit.0, items_have_numbers is fit.1)

items_shallow : (is : List TrailItem) → tree.items_depth (items_outline (items_of (map item_value is))) ≤ 3
items_shallow [] = omega arith
items_shallow (i ∷ is) = omega (arith, item_shallow i, items_shallow is)

pub trail_again : (t : List TrailItem) → AreStorable t → read (trail_json t) ≡ Some (trail_value t)
trail_again t fit = value_again (trail_value t) (items_have_numbers t fit) (omega (arith, items_shallow t)) (ap (option_map array) (items_back t fit))

-- ---- the text is UTF-8

ascii_first : (xs ys : List ℕ) → are_ascii xs ≡ true → IsUtf8 ys → IsUtf8 (xs ++ ys)
ascii_first xs ys e u = IsUtf8-append xs ys (IsUtf8-are_ascii xs e) u

comma_is_utf8 : (later : Bool) → IsUtf8 (comma_if later)
comma_is_utf8 true = IsUtf8-are_ascii (44 ∷ []) refl
comma_is_utf8 false = IsUtf8-nil

role_is_utf8 : (f : Fixity) → IsUtf8 (role f)
role_is_utf8 Prefix = IsUtf8-are_ascii (codes "prefix") refl
role_is_utf8 Infix = IsUtf8-are_ascii (codes "infix") refl
role_is_utf8 Postfix = IsUtf8-are_ascii (codes "postfix") refl

texts_are_utf8 : (a b : List ℕ) → IsUtf8 a → IsUtf8 b → IsUtf8 (compact_text (two_texts a b))
texts_are_utf8 a b u v = ascii_first (91 ∷ []) _ refl (IsUtf8-append (quoted a) _ (IsUtf8-quoted a u) (ascii_first (44 ∷ []) _ refl
    (IsUtf8-append (quoted b) _ (IsUtf8-quoted b v) (IsUtf8-are_ascii (93 ∷ []) refl))))

lone_is_utf8 : (k : List ℕ) (d : Data) → IsUtf8 k → IsUtf8 (compact_text d) → IsUtf8 (compact_text (lone k d))
lone_is_utf8 k d u v = ascii_first (123 ∷ []) _ refl (IsUtf8-append (quoted k) _ (IsUtf8-quoted k u) (ascii_first (58 ∷ []) _ refl
    (IsUtf8-append (compact_text d) _ v (IsUtf8-are_ascii (125 ∷ []) refl))))

operators_are_utf8 : (os : List AppliedOperator) (later : Bool) → AreSymbolsText os → IsUtf8 (items_text later (items_of (map operator_value os)))
operators_are_utf8 [] later h = IsUtf8-are_ascii (93 ∷ []) refl
operators_are_utf8 (o ∷ os) later h = IsUtf8-append (comma_if later) _ (comma_is_utf8 later)
    (IsUtf8-append _ _ (texts_are_utf8 _ _ (role_is_utf8 o.fixity) h.0) (operators_are_utf8 os true h.1))

item_is_utf8 : (i : TrailItem) → IsStorable i → IsUtf8 (compact_text (item_value i))
item_is_utf8 (Alt n) fits = lone_is_utf8 (codes "alt") (count_value n) (IsUtf8-are_ascii (codes "alt") refl) (IsUtf8-from_ascii _ (IsAscii-decimal n fits))
item_is_utf8 (Rounds n) fits = lone_is_utf8 (codes "rounds") (count_value n) (IsUtf8-are_ascii (codes "rounds") refl) (IsUtf8-from_ascii _ (IsAscii-decimal n fits))
item_is_utf8 (Ops os) fits = lone_is_utf8 (codes "ops") (operators_value os) (IsUtf8-are_ascii (codes "ops") refl)
    (ascii_first (91 ∷ []) _ refl (operators_are_utf8 os false fits))

items_are_utf8 : (is : List TrailItem) (later : Bool) → AreStorable is → IsUtf8 (items_text later (items_of (map item_value is)))
items_are_utf8 [] later fit = IsUtf8-are_ascii (93 ∷ []) refl
items_are_utf8 (i ∷ is) later fit = IsUtf8-append (comma_if later) _ (comma_is_utf8 later) (IsUtf8-append _ _ (item_is_utf8 i fit.0) (items_are_utf8 is true fit.1))

pub trail_is_text : (t : List TrailItem) → AreStorable t → IsTrailText (trail_json t) t
trail_is_text t fit = (ascii_first (91 ∷ []) _ refl (items_are_utf8 t false fit), trail_again t fit)

-- ---- what a list holds, one by one

pub symbols_more : (os : List AppliedOperator) (i : ℕ) (o : AppliedOperator) → i < length os → o ≡ get_or os i o → AreSymbolsText (take i os) → IsUtf8 (encode_utf8_all o.symbol)
    → AreSymbolsText (take (i + 1) os)
symbols_more os i o within is before this = subst AreSymbolsText (sym (take_more os i o within ∙ ap (λ x. take i os ++ x ∷ []) (sym is))) (symbols_last (take i os) before)
  where
    symbols_last : (us : List AppliedOperator) → AreSymbolsText us → AreSymbolsText (us ++ o ∷ [])
    symbols_last [] h = (this, tt)
    symbols_last (u ∷ us) h = (h.0, symbols_last us h.1)

pub items_more : (is : List TrailItem) (i : ℕ) (x : TrailItem) → i < length is → x ≡ get_or is i x → AreStorable (take i is) → IsStorable x → AreStorable (take (i + 1) is)
items_more is i x within same before this = subst AreStorable (sym (take_more is i x within ∙ ap (λ y. take i is ++ y ∷ []) (sym same))) (items_last (take i is) before)
  where
    items_last : (us : List TrailItem) → AreStorable us → AreStorable (us ++ x ∷ [])
    items_last [] h = (this, tt)
    items_last (u ∷ us) h = (h.0, items_last us h.1)

pub symbols_none : (os : List AppliedOperator) → length os < 1 → AreSymbolsText os
symbols_none [] few = tt
symbols_none (x ∷ os) few = absurd (omega arith)

-- a list is its first and the others
pub symbols_all : (os : List AppliedOperator) (i : ℕ) (o : AppliedOperator) → 1 ≤ length os → o ≡ get_or os 0 o → IsUtf8 (encode_utf8_all o.symbol)
    → length (take (length os - 1) (drop 1 os)) ≤ i → AreSymbolsText (take i (take (length os - 1) (drop 1 os))) → AreSymbolsText os
symbols_all [] i o some is this whole rest = absurd (omega arith)
symbols_all (x ∷ os) i o some is this whole rest = (
  subst (λ y. IsUtf8 (encode_utf8_all y.symbol)) is this,
  subst AreSymbolsText (take_all i (take (length (x ∷ os) - 1) os) whole ∙ take_all (length (x ∷ os) - 1) os (omega arith)) rest,
)
