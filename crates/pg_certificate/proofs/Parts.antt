-- What values consist of, by what `serde_json` answers of them.
use Rattle.std.proofs.Common.{◌≡◌, ℕ, List, [], ◌∷◌, length, String, Global, Some, Ok, Err, Result, refl, ap, sym, ◌∙◌, subst}
use Rattle.std.specs.Str.{encode_utf8_all, IsUtf8, chars}
use Rattle.std.proofs.lemmas.Str.{chars_from_encodes, encodes-chars}
use Rattle.serde_json.specs.Data.{Data, null, boolean, number, string, array, object, Items, item, no_items, Members}
use Rattle.serde_json.specs.Events.{items_len, members_len}
use Rattle.serde_json.specs.Find.{as_array, as_object, as_str, get}
use Rattle.serde_json.specs.View.{items_of, items_view, members_view}
use Rattle.serde_json.specs.declared.value.Value.{Value}
use Rattle.serde_json.proofs.Views.{items_len-items_view, members_len-members_view}
use Rattle.pg_certificate.specs.declared.certificate_fault.CertificateFault.{CertificateFault}
use Rattle.pg_certificate.specs.Claims.{Each, key_count, SaysEach, SaysUnder, SaysText, two_values}
use Rattle.pg_certificate.specs.Readings.{Gives}
use Rattle.pg_certificate.proofs.Found.{refused_in}

-- ---- arrays

pub an_array : (d : Data) (ds : Items) → as_array d ≡ Some ds → array ds ≡ d
an_array (array es) ds h = let same : es ≡ ds = cc in ap array (sym same)
an_array null ds h = cc
an_array (boolean b) ds h = cc
an_array (number n) ds h = cc
an_array (string s) ds h = cc
an_array (object ms) ds h = cc

same_items : (xs ys : Items) → Some xs ≡ Some ys → xs ≡ ys
same_items xs ys e = cc

-- an array of two values has two
pub two_long : (vs : List Value) (d : Data) (a b : Data) → Some (items_view vs) ≡ as_array d → two_values a b ≡ d → length vs ≡ 2
two_long vs d a b has is =
    sym (items_len-items_view vs) ∙ ap items_len (same_items _ _ (has ∙ ap as_array (sym is)))

items_in : Data → Items
items_in (array ds) = ds
items_in null = no_items
items_in (boolean b) = no_items
items_in (number n) = no_items
items_in (string s) = no_items
items_in (object ms) = no_items

listed : Items → List Data
listed no_items = []
listed (item d ds) = d ∷ listed ds

listed-items_of : (ds : List Data) → listed (items_of ds) ≡ ds
unfolding listed
listed-items_of [] = refl
listed-items_of (d ∷ ds) = ap (λ es. d ∷ es) (listed-items_of ds)

pub same_list : (xs ys : List Data) → array (items_of xs) ≡ array (items_of ys) → xs ≡ ys
unfolding items_in
same_list xs ys e = sym (listed-items_of xs) ∙ (ap (λ d. listed (items_in d)) e ∙ listed-items_of ys)

-- what is given for the values of an array is given for the array
pub list_gives : {A : Type 0} (Says : Data → A → Type 0) (bs : List Data) (d : Data) (r : Result (List A) CertificateFault) → array (items_of bs) ≡ d
    → Gives (Each Says) bs r → Gives (SaysEach Says) d r
list_gives Says bs d (Ok found) is h =
    ((bs, is, h.0), λ other said. h.1 other (subst (λ ds. Each Says ds other) (same_list said.0 bs (said.1 ∙ sym is)) said.2))
list_gives Says bs d (Err e) is h =
    refused_in (Each Says) bs (SaysEach Says) d e (λ whole said. (whole, subst (λ ds. Each Says ds whole) (same_list said.0 bs (said.1 ∙ sym is)) said.2)) h

-- ---- objects

-- data in an option are the same
pub same_data : (x y : Data) → Some x ≡ Some y → x ≡ y
same_data x y e = cc

-- what is given for the value under a key is given for the object
pub under_gives : {A : Type 0} (Says : Data → A → Type 0) (key : List ℕ) (inner d : Data) (r : Result A CertificateFault) → get key d ≡ Some inner
    → Gives Says inner r → Gives (SaysUnder key Says) d r
under_gives Says key inner d (Ok found) there h =
    ((inner, there, h.0), λ other said. h.1 other (subst (λ x. Says x other) (same_data _ _ (sym said.1 ∙ there)) said.2))
under_gives Says key inner d (Err e) there h =
    refused_in Says inner (SaysUnder key Says) d e (λ whole said. (whole, subst (λ x. Says x whole) (same_data _ _ (sym said.1 ∙ there)) said.2)) h

same_members : (xs ys : Members) → Some xs ≡ Some ys → xs ≡ ys
same_members xs ys e = cc

-- how many entries an object's map has
pub counted : (es : List (String Global × Value)) (d : Data) → Some (members_view es) ≡ as_object d → length es ≡ key_count d
counted es (object ms) has = sym (members_len-members_view es) ∙ ap members_len (same_members _ _ has)
counted es null has = cc
counted es (boolean b) has = cc
counted es (number n) has = cc
counted es (string s) has = cc
counted es (array ds) has = cc

-- ---- texts

pub a_string : (d : Data) (s : List ℕ) → Some s ≡ as_str d → d ≡ string s
a_string (string t) s has = let same : s ≡ t = cc in ap string (sym same)
a_string null s has = cc
a_string (boolean b) s has = cc
a_string (number n) s has = cc
a_string (array ds) s has = cc
a_string (object ms) s has = cc

-- a string has one text
pub same_text : (s t : List ℕ) → string s ≡ string t → s ≡ t
same_text s t e = cc

-- the characters of a text are the one thing that it says
pub text_found : (t cs : List ℕ) → IsUtf8 t → cs ≡ chars t → Gives SaysText (string t) (Ok cs)
text_found t cs valid is = (
  ap string (sym (ap encode_utf8_all is ∙ encodes-chars t valid)),
  λ other said. chars_from_encodes other t valid (same_text _ _ (sym said)) ∙ sym is,
)
