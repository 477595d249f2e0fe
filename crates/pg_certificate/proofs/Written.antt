-- Values that are read again from their text.
use Rattle.std.proofs.Common.{◌≡◌, ◌≤◌, ◌<◌, ◌^◌, ℕ, suc, List, [], ◌∷◌, ◌++◌, Bool, true, false, map, codes, Option, Some, option_map, option_and_then, refl, ap, sym, ◌∙◌, arith, append-nil}
use Rattle.std.specs.List.{AllByRecursion}
use Rattle.std.specs.Str.{IsUtf8}
use Rattle.std.proofs.lemmas.Str.{IsUtf8-append, IsUtf8-nil, IsUtf8-from_ascii}
use Rattle.std.proofs.lemmas.Fmt.{IsAscii-decimal}
use Rattle.json.specs.Json as json
use Rattle.json.specs.Lex.{tokens}
use Rattle.json.specs.Token.{Token}
use Rattle.json.specs.Print.{quoted}
use Rattle.json.specs.Tree as tree
use Rattle.json.proofs.Printed.Trees.{value-json_tokens, ArePrintable-json_tokens}
use Rattle.json.proofs.Printed.Tokens.{tokens-print}
use Rattle.json.proofs.Printed.Decimals.{IsNumber-decimal}
use Rattle.json.proofs.Printed.Utf8.{IsUtf8-quoted, IsUtf8-are_ascii, are_ascii}
use Rattle.serde_json.specs.Data.{Data, unsigned, boolean, number, string, array, Items, item, no_items}
use Rattle.serde_json.specs.View.{items_of}
use Rattle.serde_json.specs.Read.{read, of_json, of_items, max_depth}
use Rattle.serde_json.specs.Written.{compact_text, items_text, comma_if, outline, items_outline}
use Rattle.serde_json.proofs.Texts.{print-outline}
use Rattle.serde_json.proofs.Numbers.{number_of-decimal}
use Rattle.pg_certificate.specs.Values.{lone}

-- the value whose first value and the tokens after it these are
abbrev whole : Option (json.Json × List Token) → Option Data
whole o = option_and_then of_json (option_and_then (λ p. json.if_last p.0 p.1) o)

-- what is written for the value is UTF-8 and JSON of it, so deep at most
pub record IsWritten (deep : ℕ) (d : Data) : Type 0 where
  pub numbers : tree.HasNumbers (outline d)
  pub shallow : tree.depth (outline d) ≤ deep
  pub back : of_json (outline d) ≡ Some d
  pub utf8 : IsUtf8 (compact_text d)

-- and so of values in an array
pub record AreWritten (deep : ℕ) (ds : Items) : Type 0 where
  pub numbers : tree.ItemsHaveNumbers (items_outline ds)
  pub shallow : tree.items_depth (items_outline ds) ≤ deep
  pub back : of_items (items_outline ds) ≡ Some ds
  pub utf8 : (later : Bool) → IsUtf8 (items_text later ds)

-- a value that isn't deep comes back
pub read_again : (deep : ℕ) (d : Data) → deep ≤ max_depth → IsWritten deep d → read (compact_text d) ≡ Some d
read_again deep d limit w =
    let spelled : tokens (compact_text d) ≡ tree.json_tokens (outline d) ++ [] =
    ap tokens (sym (print-outline d)) ∙ tokens-print (tree.json_tokens (outline d)) (ArePrintable-json_tokens (outline d) w.numbers) ∙ sym (append-nil _) in
    let shallow : tree.depth (outline d) ≤ max_depth = omega (arith, limit, w.shallow) in
    ap whole (ap (json.value max_depth) spelled ∙ value-json_tokens (outline d) max_depth [] shallow) ∙ w.back

-- ---- numbers, marks and texts

pub number_written : (n : ℕ) → n < 2 ^ 64 → IsWritten 0 (number (unsigned n))
number_written n fits = record {
  numbers = IsNumber-decimal n fits;
  shallow = omega arith;
  back = rw (number_of-decimal n fits) refl;
  utf8 = IsUtf8-from_ascii _ (IsAscii-decimal n fits);
}

pub flag_written : (b : Bool) → IsWritten 0 (boolean b)
flag_written true = record { numbers = tt; shallow = omega arith; back = refl; utf8 = IsUtf8-are_ascii (codes "true") refl }
flag_written false = record { numbers = tt; shallow = omega arith; back = refl; utf8 = IsUtf8-are_ascii (codes "false") refl }

pub text_written : (s : List ℕ) → IsUtf8 s → IsWritten 0 (string s)
text_written s valid = record { numbers = tt; shallow = omega arith; back = refl; utf8 = IsUtf8-quoted s valid }

-- ---- arrays

ascii_first : (xs ys : List ℕ) → are_ascii xs ≡ true → IsUtf8 ys → IsUtf8 (xs ++ ys)
ascii_first xs ys e u = IsUtf8-append xs ys (IsUtf8-are_ascii xs e) u

comma_is_utf8 : (later : Bool) → IsUtf8 (comma_if later)
comma_is_utf8 true = IsUtf8-are_ascii (44 ∷ []) refl
comma_is_utf8 false = IsUtf8-nil

none_written : (deep : ℕ) → AreWritten deep no_items
none_written deep = record { numbers = tt; shallow = omega arith; back = refl; utf8 = λ later. IsUtf8-are_ascii (93 ∷ []) refl }

pub one_more_written : (deep : ℕ) (d : Data) (ds : Items) → IsWritten deep d → AreWritten deep ds → AreWritten deep (item d ds)
one_more_written deep d ds w ws = record {
  numbers = (w.numbers, ws.numbers);
  shallow = omega (arith, w.shallow, ws.shallow);
  back = rw (w.back, ws.back) refl;
  utf8 = λ later. IsUtf8-append (comma_if later) _ (comma_is_utf8 later) (IsUtf8-append _ _ w.utf8 (ws.utf8 true));
}

pub each_written : {A : Type 0} (deep : ℕ) (value : A → Data) (xs : List A) → AllByRecursion (λ x. IsWritten deep (value x)) xs → AreWritten deep (items_of (map value xs))
each_written deep value [] h = none_written deep
each_written deep value (x ∷ xs) h = one_more_written deep (value x) _ h.0 (each_written deep value xs h.1)

pub array_written : (deep : ℕ) (ds : Items) → AreWritten deep ds → IsWritten (suc deep) (array ds)
array_written deep ds ws = record {
  numbers = ws.numbers;
  shallow = omega (arith, ws.shallow);
  back = ap (option_map array) ws.back;
  utf8 = ascii_first (91 ∷ []) _ refl (ws.utf8 false);
}

pub pair_written : (deep : ℕ) (d e : Data) → IsWritten deep d → IsWritten deep e → IsWritten (suc deep) (array (item d (item e no_items)))
pair_written deep d e w v = array_written deep _ (one_more_written deep d _ w (one_more_written deep e _ v (none_written deep)))

-- ---- objects

-- a member, before what is UTF-8
pub member_is_utf8 : (later : Bool) (k text rest : List ℕ) → IsUtf8 k → IsUtf8 text → IsUtf8 rest → IsUtf8 (comma_if later ++ (quoted k ++ 58 ∷ (text ++ rest)))
member_is_utf8 later k text rest u v w = IsUtf8-append (comma_if later) _ (comma_is_utf8 later) (IsUtf8-append (quoted k) _ (IsUtf8-quoted k u)
    (ascii_first (58 ∷ []) _ refl (IsUtf8-append text rest v w)))

pub object_is_utf8 : (members : List ℕ) → IsUtf8 members → IsUtf8 (123 ∷ members)
object_is_utf8 members u = ascii_first (123 ∷ []) members refl u

pub end_is_utf8 : IsUtf8 (125 ∷ [])
end_is_utf8 = IsUtf8-are_ascii (125 ∷ []) refl

pub lone_written : (deep : ℕ) (k : List ℕ) (d : Data) → IsUtf8 k → IsWritten deep d → IsWritten (suc deep) (lone k d)
lone_written deep k d u w = record {
  numbers = (w.numbers, tt);
  shallow = omega (arith, w.shallow);
  back = rw w.back refl;
  utf8 = object_is_utf8 _ (member_is_utf8 false k (compact_text d) _ u w.utf8 end_is_utf8);
}
