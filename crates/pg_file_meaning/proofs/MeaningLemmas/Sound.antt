-- What a value stands for is one whole form, each choice in it with an alternative, and each class item that is named
-- is there.
use Rattle.std.proofs.Common.{◌≡◌, ℕ, ◌+◌, false, List, [], ◌∷◌, ◌++◌, length, map, refl, sym, subst, arith}
use Rattle.std.proofs.Math.Dec.{eqb-suc-zero}
use Rattle.std.specs.List.{list_any, AllByRecursion}
use Rattle.pg_pred.specs.Offer.{Offer}
use Rattle.pg_grammar_form.proofs.Each.{all-weaker}
use Rattle.pg_grammar_form.specs.Names as names
use Rattle.pg_grammar_form.specs.Preorder.{SpellForms}
use Rattle.pg_grammar_form.specs.Classes.{lacks_item}
use Rattle.pg_grammar_form.specs.Forms.{BaseForm, part_count, lacks_alternative, has_unknown_class}
use Rattle.pg_grammar_form.specs.declared.class.ClassPart.{ClassPart}
use Rattle.pg_grammar_form.specs.declared.form.Form.TheVariants as form
use Rattle.pg_grammar_form.specs.declared.used.ChainBuilder.{ChainBuilder}
use Rattle.pg_file_items.specs.declared.words.ClassForm.{ClassForm}
use Rattle.pg_file_items.specs.declared.words.ClassForm.TheVariants as class_form
use Rattle.pg_grammar_form.specs.declared.side.Side.{Side}
use Rattle.pg_file_items.specs.Tree.{Value, Of_class, String, Seq, Of_some, Of_one, Of_two, Between, Chain, Chain_symbol, Expression, Build, Build_symbol, Label, End_of_text, Word, Rule, Values, No_value, And}
use Rattle.pg_file_meaning.specs.Names.{chain_builder_named}
use Rattle.pg_file_meaning.specs.Meaning.{Body, class_of, chain_of, class_meant, meant, all_meant}
use Rattle.pg_file_meaning.proofs.MeaningLemmas.Composing.{Composes, composes_some, composes_one, composes_two, composes_between, IsWhole, whole_composes, whole_two, IsFree, free_front, free_none, free_append, free_composes}
use Rattle.pg_file_meaning.proofs.MeaningLemmas.ProperClasses.{known}

pub record IsSound (count : ℕ) (body : Body) : Type 0 where
  pub whole : IsWhole body
  pub alternatives : IsFree lacks_alternative body
  pub known : IsFree (has_unknown_class count) body

-- a form with so many parts, which isn't a choice without an alternative and names no class item that isn't there
record IsSoundForm (count n : ℕ) (form : BaseForm) : Type 0 where
  parts : part_count form ≡ n
  alternatives : lacks_alternative form ≡ false
  known : has_unknown_class count form ≡ false

alone : (count : ℕ) (form : BaseForm) → IsSoundForm count 0 form → IsSound count (form ∷ [])
alone count form h = record {
  whole = record { whole = let none = h.parts in omega arith };
  alternatives = free_front _ form [] h.alternatives (free_none _);
  known = free_front _ form [] h.known (free_none _);
}

wrap : (count : ℕ) (form : BaseForm) (body : Body) → IsSoundForm count 1 form → IsSound count body → IsSound count (form ∷ body)
wrap count form body h e = record {
  whole = record { whole = subst (λ (n : ℕ). SpellForms (n + 0) (map part_count body)) (sym h.parts) e.whole.whole };
  alternatives = free_front _ form body h.alternatives e.alternatives;
  known = free_front _ form body h.known e.known;
}

two : (count : ℕ) (form : BaseForm) (one other : Body) → IsSoundForm count 2 form → IsSound count one → IsSound count other → IsSound count (form ∷ (one ++ other))
two count form one other h e f = record {
  whole = record { whole = subst (λ (n : ℕ). SpellForms (n + 0) (map part_count (one ++ other))) (sym h.parts) (whole_two one other e.whole f.whole) };
  alternatives = free_front _ form _ h.alternatives (free_append _ one other e.alternatives f.alternatives);
  known = free_front _ form _ h.known (free_append _ one other e.known f.known);
}

choices_compose : Composes (IsFree lacks_alternative)
choices_compose = free_composes lacks_alternative (record { seq = λ n. refl; choice = eqb-suc-zero; many = refl; around = λ k bare. refl })

known_composes : (count : ℕ) → Composes (IsFree (has_unknown_class count))
known_composes count = free_composes (has_unknown_class count) (record { seq = λ n. refl; choice = λ n. refl; many = refl; around = λ k bare. refl })

sound_composes : (count : ℕ) → Composes (IsSound count)
sound_composes count = record {
  seq = λ bodies h. record {
    whole = whole_composes.seq bodies (all-weaker (IsSound count) IsWhole (λ body e. e.whole) bodies h);
    alternatives = choices_compose.seq bodies (all-weaker (IsSound count) (IsFree lacks_alternative) (λ body e. e.alternatives) bodies h);
    known = (known_composes count).seq bodies (all-weaker (IsSound count) (IsFree (has_unknown_class count)) (λ body e. e.known) bodies h);
  };
  choice = λ body bodies h. record {
    whole = whole_composes.choice body bodies (all-weaker (IsSound count) IsWhole (λ b e. e.whole) (body ∷ bodies) h);
    alternatives = choices_compose.choice body bodies (all-weaker (IsSound count) (IsFree lacks_alternative) (λ b e. e.alternatives) (body ∷ bodies) h);
    known = (known_composes count).choice body bodies (all-weaker (IsSound count) (IsFree (has_unknown_class count)) (λ b e. e.known) (body ∷ bodies) h);
  };
  many = λ body h. wrap count (form.Many (record {})) body (record { parts = refl; alternatives = refl; known = refl }) h;
  around = λ k bare body h. wrap count (form.Around k (record {})) body (record { parts = refl; alternatives = refl; known = refl }) h;
}

class_form_sound : (count : ℕ) (form : ClassForm) (parts : List ClassPart) → list_any (lacks_item count) parts ≡ false → IsSoundForm count 0 (class_of form parts)
class_form_sound count class_form.Satisfy parts h = record { parts = refl; alternatives = refl; known = h }
class_form_sound count class_form.NotFollowedBy parts h = record { parts = refl; alternatives = refl; known = h }
class_form_sound count class_form.Declare parts h = record { parts = refl; alternatives = refl; known = h }

chain_form_sound : (count : ℕ) (side : Side) (used : ChainBuilder) → IsSoundForm count 2 (chain_of side used)
chain_form_sound count side used = record { parts = refl; alternatives = refl; known = refl }

mutual
  pub sound_value : (offer : Offer) (items : List names.Name) (v : Value) → IsSound (length items) (meant offer items v)
  sound_value offer items (Of_class form c) = alone _ _ (class_form_sound (length items) form (class_meant offer items c) (known offer items c))
  sound_value offer items (String s) = alone _ _ (record { parts = refl; alternatives = refl; known = refl })
  sound_value offer items (Seq vs) = (sound_composes (length items)).seq _ (sound_values offer items vs)
  sound_value offer items (Of_some form v vs) = composes_some (IsSound (length items)) (sound_composes (length items)) form _ _ (sound_value offer items v, sound_values offer items vs)
  sound_value offer items (Of_one form v) = composes_one (IsSound (length items)) (sound_composes (length items)) form _ (sound_value offer items v)
  sound_value offer items (Of_two form v separator) = composes_two (IsSound (length items)) (sound_composes (length items)) form _ _ (sound_value offer items v) (sound_value offer items separator)
  sound_value offer items (Between before after inner) =
      composes_between (IsSound (length items)) (sound_composes (length items)) _ _ _ (sound_value offer items before) (sound_value offer items after) (sound_value offer items inner)
  sound_value offer items (Chain form builder operand separator) =
      two _ _ _ _ (chain_form_sound (length items) form (chain_builder_named offer builder [])) (sound_value offer items operand) (sound_value offer items separator)
  sound_value offer items (Chain_symbol form builder symbol operand separator) =
      two _ _ _ _ (chain_form_sound (length items) form (chain_builder_named offer builder symbol)) (sound_value offer items operand) (sound_value offer items separator)
  sound_value offer items (Expression infixes prefixes postfixes term) = wrap _ _ _ (record { parts = refl; alternatives = refl; known = refl }) (sound_value offer items term)
  sound_value offer items (Build builder v) = wrap _ _ _ (record { parts = refl; alternatives = refl; known = refl }) (sound_value offer items v)
  sound_value offer items (Build_symbol builder symbol v) = wrap _ _ _ (record { parts = refl; alternatives = refl; known = refl }) (sound_value offer items v)
  sound_value offer items (Label v message) = wrap _ _ _ (record { parts = refl; alternatives = refl; known = refl }) (sound_value offer items v)
  sound_value offer items End_of_text = alone _ _ (record { parts = refl; alternatives = refl; known = refl })
  sound_value offer items (Word s) = alone _ _ (record { parts = refl; alternatives = refl; known = refl })
  sound_value offer items (Rule s) = alone _ _ (record { parts = refl; alternatives = refl; known = refl })

  sound_values : (offer : Offer) (items : List names.Name) (vs : Values) → AllByRecursion (IsSound (length items)) (all_meant offer items vs)
  sound_values offer items No_value = tt
  sound_values offer items (And v vs) = (sound_value offer items v, sound_values offer items vs)
