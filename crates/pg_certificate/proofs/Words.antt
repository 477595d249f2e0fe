-- Word items by their names.
use Rattle.std.proofs.Common.{◌≡◌, ℕ, zero, suc, true, false, List, [], ◌∷◌, map, slice_get, Some, Ok, refl, ap, sym, ◌∙◌, subst}
use Rattle.std.specs.List.{AllByRecursion}
use Rattle.std.specs.Str.{bytes_eq}
use Rattle.std.proofs.lemmas.Slice.Eq.{bytes_eq-Decides}
use Rattle.pg_grammar_form.specs.Names.{Name, AreDistinct}
use Rattle.pg_grammar_form.specs.WordItems.{word_name}
use Rattle.pg_grammar_form.specs.declared.word_item.WordItem.{WordItem}
use Rattle.serde_json.specs.Data.{Data}
use Rattle.pg_grammar_value.specs.Grammar.{Grammar}
use Rattle.pg_certificate.specs.Claims.{SaysText, SaysWord}
use Rattle.pg_certificate.specs.Readings.{Gives}

same_item : (x y : WordItem) → Some x ≡ Some y → x ≡ y
same_item x y e = cc

none_named : (words : List WordItem) (name : Name) (i : ℕ) (item : WordItem) → AllByRecursion (λ other. bytes_eq name other ≡ false) (map word_name words)
    → slice_get words i ≡ Some item → item.name ≡ name → ⊥
none_named [] name i item h there is = cc
none_named (x ∷ xs) name zero item h there is =
    let equal : bytes_eq name x.name ≡ true = (bytes_eq-Decides name x.name).1 (sym is ∙ ap word_name (sym (same_item x item there))) in
    absurd cc
none_named (x ∷ xs) name (suc i) item h there is = none_named xs name i item h.1 there is

-- two word items of one name are one
one_place : (words : List WordItem) (name : Name) (v w : ℕ) (one other : WordItem) → AreDistinct (map word_name words)
    → slice_get words v ≡ Some one → one.name ≡ name → slice_get words w ≡ Some other → other.name ≡ name → v ≡ w
one_place [] name v w one other h at_v is_v at_w is_w = cc
one_place (x ∷ xs) name zero zero one other h at_v is_v at_w is_w = refl
one_place (x ∷ xs) name zero (suc w) one other h at_v is_v at_w is_w =
    elim (none_named xs x.name w other h.0 at_w (is_w ∙ (sym is_v ∙ ap word_name (sym (same_item x one at_v))))) [ ]
one_place (x ∷ xs) name (suc v) zero one other h at_v is_v at_w is_w =
    elim (none_named xs x.name v one h.0 at_v (is_v ∙ (sym is_w ∙ ap word_name (sym (same_item x other at_w))))) [ ]
one_place (x ∷ xs) name (suc v) (suc w) one other h at_v is_v at_w is_w = ap suc (one_place xs name v w one other h.1 at_v is_v at_w is_w)

-- the word item of the name that is said
pub word_found : (g : Grammar) (d : Data) (name : Name) (w : ℕ) (item : WordItem) → AreDistinct (map word_name g.words) → Gives SaysText d (Ok name)
    → slice_get g.words w ≡ Some item → item.name ≡ name → Gives (SaysWord g) d (Ok w)
word_found g d name w item distinct said there is = (
  (item, there, subst (SaysText d) (sym is) said.0),
  λ v other. one_place g.words name v w other.0 item distinct other.1 (said.1 other.0.name other.2) there is,
)

pub no_word : (g : Grammar) (d : Data) (name : Name) → Gives SaysText d (Ok name)
    → ((w : ℕ) (item : WordItem) → slice_get g.words w ≡ Some item → item.name ≡ name → ⊥) → (w : ℕ) → SaysWord g d w → ⊥
no_word g d name said none w other = none w other.0 other.1 (said.1 other.0.name other.2)
