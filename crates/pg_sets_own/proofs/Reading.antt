-- Which words are read alike.
use Rattle.std.proofs.Common.{◌≡◌, ℕ, true, inl, inr, List, [], ◌∷◌, refl, sym, subst, ◌∙◌}
use Rattle.std.specs.List.{list_all}
use Rattle.std.specs.Str.{bytes_eq}
use Rattle.std.proofs.lemmas.Bool.{true≢false, cases_Bool, both_ways, or_cases, or_left, or_right, and_from}
use Rattle.std.proofs.lemmas.Slice.Eq.{bytes_eq-Decides}
use Rattle.std.specs.Cmp.{first_so, second_so}
use Rattle.pg_class.specs.Ranges.{Range}
use Rattle.pg_class.proofs.Unique.{same_class}
use Rattle.pg_grammar_value.specs.Grammar.{Grammar}
use Rattle.pg_grammar_form.specs.declared.class.ClassPart.{ClassPart}
use Rattle.pg_text.specs.Texts.{is_among}
use Rattle.pg_sets_own.specs.OwnStarts.{IsClassOf, SameTexts}

-- a class expression has one class
pub one_class : {g : Grammar} {expression : List ClassPart} {class other : List Range} → IsClassOf g expression class → IsClassOf g expression other → class ≡ other
one_class {g} {expression} {class} {other} is also = same_class class other is.ranges also.ranges (λ c s. is.members c s ∙ sym (also.members c s))

-- ---- texts

pub all_reserved : (texts others : List (List ℕ)) → list_all (is_among others) texts ≡ true → (text : List ℕ) → is_among texts text ≡ true → is_among others text ≡ true
all_reserved [] others all text is = absurd (true≢false (sym is))
all_reserved (t ∷ ts) others all text is =
    elim (or_cases (bytes_eq t text) (is_among ts text) is) [
      | inl same ↦ subst (λ s. is_among others s ≡ true) ((bytes_eq-Decides t text).0 same) (first_so (is_among others t) (list_all (is_among others) ts) all)
      | inr later ↦ all_reserved ts others (second_so (is_among others t) (list_all (is_among others) ts) all) text later
    ]

pub reserved_all : (texts others : List (List ℕ)) → ((text : List ℕ) → is_among texts text ≡ true → is_among others text ≡ true) → list_all (is_among others) texts ≡ true
reserved_all [] others each = refl
reserved_all (t ∷ ts) others each =
    and_from (is_among others t) (list_all (is_among others) ts) (each t (or_left (bytes_eq t t) (is_among ts t) ((bytes_eq-Decides t t).1 refl)))
    (reserved_all ts others (λ text is. each text (or_right (bytes_eq t text) (is_among ts text) is)))

pub same_from_both : (texts others : List (List ℕ)) → list_all (is_among others) texts ≡ true → list_all (is_among texts) others ≡ true → SameTexts texts others
same_from_both texts others there back text =
    elim (cases_Bool (is_among texts text)) [
      | inl is ↦ is ∙ sym (all_reserved texts others there text is)
      | inr not ↦
          elim (cases_Bool (is_among others text)) [
            | inl also ↦ absurd (both_ways (is_among texts text) not (all_reserved others texts back text also))
            | inr none ↦ not ∙ sym none
          ]
    ]

pub both_from_same : (texts others : List (List ℕ)) → SameTexts texts others → list_all (is_among others) texts ≡ true
both_from_same texts others same = reserved_all texts others (λ text is. sym (same text) ∙ is)
