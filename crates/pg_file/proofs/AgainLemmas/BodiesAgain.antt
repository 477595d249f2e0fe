-- The value that is printed of a body means the body again.
use Rattle.std.proofs.Common.{◌≡◌, ◌≤◌, ℕ, zero, suc, ◌+◌, false, List, [], ◌∷◌, ◌++◌, length, take, drop, map, refl, sym, ap, ◌∙◌, arith}
use Rattle.std.proofs.lemmas.Bool.{or_parts}
use Rattle.std.proofs.lemmas.List.{append-nil, length-map, length-take-le, map-append, take-append-drop}
use Rattle.std.specs.List.{list_any, AllByRecursion}
use Rattle.std.specs.Str.{chars, encode_utf8_all}
use Rattle.pg_pred.specs.Offer.{Offer}
use Rattle.pg_grammar_form.specs.Names as names
use Rattle.pg_grammar_form.specs.Preorder.{SpellForms}
use Rattle.pg_grammar_form.specs.Forms.{BaseForm, part_count, lacks_alternative}
use Rattle.pg_grammar_form.specs.declared.class.ClassPart.{ClassPart}
use Rattle.pg_grammar_form.specs.declared.form.Form.TheVariants as form
use Rattle.pg_grammar_form.specs.declared.form.Leaf.{Leaf}
use Rattle.pg_grammar_form.specs.declared.form.Leaf.TheVariants as leaf
use Rattle.pg_grammar_form.specs.declared.form.Around.{Around}
use Rattle.pg_grammar_form.specs.declared.form.Around.TheVariants as around
use Rattle.pg_grammar_form.specs.declared.side.Side.{Side}
use Rattle.pg_grammar_form.specs.declared.used.BuilderUse.{BuilderUse}
use Rattle.pg_grammar_form.specs.declared.used.ChainBuilder.{ChainBuilder}
use Rattle.pg_file_items.specs.Tree.{Value}
use Rattle.pg_file_meaning.specs.Names.{builder_named, chain_builder_named}
use Rattle.pg_file_items.specs.Joined.{joined}
use Rattle.pg_file_meaning.specs.Meaning.{Body, meant, all_meant}
use Rattle.pg_file_print.specs.Canonical.{values_from, choice_from, build_from, chain_from, value_at, leaf_value, around_value, value_of_form, values_of}
use Rattle.pg_file.proofs.AgainLemmas.PrintedNames.{IsNamedForm, IsNamedBuilder}
use Rattle.pg_file_print.proofs.PrinterLemmas.Bodies.{values_counted}
use Rattle.pg_file.proofs.AgainLemmas.ClassesAgain.{class_again, joined_both}

all_again : (offer : Offer) (above : List names.Name) (vs : List Value) → all_meant offer above (values_from vs) ≡ map (meant offer above) vs
all_again offer above [] = refl
all_again offer above (v ∷ vs) = ap (λ (l : List Body). meant offer above v ∷ l) (all_again offer above vs)

seq_again : (offer : Offer) (items above : List names.Name) (n : ℕ) (vs : List Value) → length vs ≡ n
    → meant offer above (value_of_form items (form.Seq n) vs) ≡ form.Seq n ∷ joined (map (meant offer above) vs)
seq_again offer items above n vs e =
    ap (λ (l : List Body). form.Seq (length l) ∷ joined l) (all_again offer above vs)
    ∙ ap (λ (m : ℕ). form.Seq m ∷ joined (map (meant offer above) vs)) (length-map vs (meant offer above) ∙ e)

choice_again : (offer : Offer) (above : List names.Name) (n : ℕ) (vs : List Value) → length vs ≡ n → lacks_alternative (form.Choice n) ≡ false
    → meant offer above (choice_from vs) ≡ form.Choice n ∷ joined (map (meant offer above) vs)
choice_again offer above zero [] e k = absurd cc
choice_again offer above (suc n) [] e k = absurd (omega (arith, e))
choice_again offer above n (v ∷ vs) e k =
    ap (λ (l : List Body). form.Choice (suc (length l)) ∷ (meant offer above v ++ joined l)) (all_again offer above vs)
    ∙ ap (λ (m : ℕ). form.Choice m ∷ joined (map (meant offer above) (v ∷ vs))) (ap suc (length-map vs (meant offer above)) ∙ e)

-- a base form before the first value
one_again : (offer : Offer) (above : List names.Name) (form : BaseForm) (vs : List Value) → length vs ≡ 1
    → form ∷ meant offer above (value_at 0 vs) ≡ form ∷ joined (map (meant offer above) vs)
one_again offer above form [] e = absurd (omega (arith, e))
one_again offer above form (v ∷ []) e = ap (λ (l : Body). form ∷ l) (sym (append-nil (meant offer above v)))
one_again offer above form (v ∷ w ∷ vs) e = absurd (omega (arith, e))

-- and before the first two
two_again : (offer : Offer) (above : List names.Name) (form : BaseForm) (vs : List Value) → length vs ≡ 2
    → form ∷ (meant offer above (value_at 0 vs) ++ meant offer above (value_at 1 vs)) ≡ form ∷ joined (map (meant offer above) vs)
two_again offer above form [] e = absurd (omega (arith, e))
two_again offer above form (v ∷ []) e = absurd (omega (arith, e))
two_again offer above form (v ∷ w ∷ []) e = ap (λ (l : Body). form ∷ (meant offer above v ++ l)) (sym (append-nil (meant offer above w)))
two_again offer above form (v ∷ w ∷ x ∷ vs) e = absurd (omega (arith, e))

build_again : (offer : Offer) (above : List names.Name) (used : BuilderUse) (symbol s : List ℕ) (v : Value) → IsNamedBuilder offer used → encode_utf8_all s ≡ symbol
    → meant offer above (build_from (chars used.name) s v) ≡ form.Around (around.Build used symbol) (record {}) ∷ meant offer above v
build_again offer above used symbol [] v h e =
    ap (λ (u : BuilderUse). form.Around (around.Build u []) (record {}) ∷ meant offer above v) h
    ∙ ap (λ (t : List ℕ). form.Around (around.Build used t) (record {}) ∷ meant offer above v) e
build_again offer above used symbol (c ∷ s) v h e =
    ap (λ (u : BuilderUse). form.Around (around.Build u (encode_utf8_all (c ∷ s))) (record {}) ∷ meant offer above v) h
    ∙ ap (λ (t : List ℕ). form.Around (around.Build used t) (record {}) ∷ meant offer above v) e

chain_again : (offer : Offer) (above : List names.Name) (side : Side) (used : ChainBuilder) (s : List ℕ) (v w : Value) → chain_builder_named offer (chars used.name) s ≡ used
    → meant offer above (chain_from side (chars used.name) s v w) ≡ form.Chain side used (record {}) (record {}) ∷ (meant offer above v ++ meant offer above w)
chain_again offer above side used [] v w h = ap (λ (u : ChainBuilder). form.Chain side u (record {}) (record {}) ∷ (meant offer above v ++ meant offer above w)) h
chain_again offer above side used (c ∷ s) v w h = ap (λ (u : ChainBuilder). form.Chain side u (record {}) (record {}) ∷ (meant offer above v ++ meant offer above w)) h

leaf_again : (offer : Offer) (items above : List names.Name) (l : Leaf names.Name) → IsNamedForm offer items above (form.Leaf l) → meant offer above (leaf_value items l) ≡ form.Leaf l ∷ []
leaf_again offer items above (leaf.Satisfy class) h = ap (λ (c : List ClassPart). form.Leaf (leaf.Satisfy c) ∷ []) (class_again offer items above class h.whole h.named)
leaf_again offer items above (leaf.NotFollowedBy class) h = ap (λ (c : List ClassPart). form.Leaf (leaf.NotFollowedBy c) ∷ []) (class_again offer items above class h.whole h.named)
leaf_again offer items above (leaf.Declare class) h = ap (λ (c : List ClassPart). form.Leaf (leaf.Declare c) ∷ []) (class_again offer items above class h.whole h.named)
leaf_again offer items above _ h = refl

around_again : (offer : Offer) (items above : List names.Name) (k : Around) (v : Value) → IsNamedForm offer items above (form.Around k (record {}))
    → meant offer above (around_value k v) ≡ form.Around k (record {}) ∷ meant offer above v
around_again offer items above (around.Build used symbol) v h = build_again offer above used symbol (chars symbol) v h.0 h.1
around_again offer items above _ v h = refl

-- a base form without parts
none_again : (offer : Offer) (above : List names.Name) (form : BaseForm) (vs : List Value) → length vs ≡ 0 → form ∷ [] ≡ form ∷ joined (map (meant offer above) vs)
none_again offer above form [] e = refl
none_again offer above form (v ∷ vs) e = absurd (omega (arith, e))

form_again : (offer : Offer) (items above : List names.Name) (form : BaseForm) (vs : List Value) → length vs ≡ part_count form → lacks_alternative form ≡ false → IsNamedForm offer items above form
    → meant offer above (value_of_form items form vs) ≡ form ∷ joined (map (meant offer above) vs)
form_again offer items above (form.Leaf l) vs e k h = leaf_again offer items above l h ∙ none_again offer above (form.Leaf l) vs e
form_again offer items above (form.Seq n) vs e k h = seq_again offer items above n vs e
form_again offer items above (form.Choice n) vs e k h = choice_again offer above n vs e k
form_again offer items above (form.Many part) vs e k h = one_again offer above (form.Many (record {})) vs e
form_again offer items above (form.Chain s used operand separator) vs e k h =
    chain_again offer above s used (chars used.symbol) (value_at 0 vs) (value_at 1 vs) h
    ∙ two_again offer above (form.Chain s used (record {}) (record {})) vs e
form_again offer items above (form.Rule s) vs e k h = none_again offer above (form.Rule s) vs e
form_again offer items above (form.Expression builders part) vs e k h =
    let term = meant offer above (value_at 0 vs) in
    let postfixes = builder_named offer (chars builders.postfix.name) in
    ap (λ (u : BuilderUse). form.Expression (record { «infix» = u; prefix = builder_named offer (chars builders.prefix.name); postfix = postfixes }) (record {}) ∷ term) h.0
    ∙ ap (λ (u : BuilderUse). form.Expression (record { «infix» = builders.«infix»; prefix = u; postfix = postfixes }) (record {}) ∷ term) h.1
    ∙ ap (λ (u : BuilderUse). form.Expression (record { «infix» = builders.«infix»; prefix = builders.prefix; postfix = u }) (record {}) ∷ term) h.2
    ∙ one_again offer above (form.Expression builders (record {})) vs e
form_again offer items above (form.Around a part) vs e k h = around_again offer items above a (value_at 0 vs) h ∙ one_again offer above (form.Around a (record {})) vs e

split_again : (offer : Offer) (above : List names.Name) (n : ℕ) (vs : List Value)
    → joined (map (meant offer above) (take n vs)) ++ joined (map (meant offer above) (drop n vs)) ≡ joined (map (meant offer above) vs)
split_again offer above n vs =
    let mean = meant offer above in
    sym (joined_both (map mean (take n vs)) (map mean (drop n vs)))
    ∙ ap (λ (l : List Body). joined l) (sym (map-append mean (take n vs) (drop n vs)) ∙ ap (map mean) (take-append-drop n vs))

-- what is printed of bodies means them again
pub bodies_again : (offer : Offer) (items above : List names.Name) (j : ℕ) (forms : List BaseForm) → SpellForms j (map part_count forms) → list_any lacks_alternative forms ≡ false
    → AllByRecursion (IsNamedForm offer items above) forms → joined (map (meant offer above) (values_of items forms)) ≡ forms
bodies_again offer items above j [] h k named = refl
bodies_again offer items above zero (form ∷ forms) h k named = absurd h
bodies_again offer items above (suc j) (form ∷ forms) h k named =
    let vs = values_of items forms in
    let n = part_count form in
    let counted : length vs ≡ n + j = values_counted items (n + j) forms h in
    let enough : n ≤ length vs = omega (arith, counted) in
    let none = or_parts (lacks_alternative form) (list_any lacks_alternative forms) k in
    let rest = bodies_again offer items above (n + j) forms h none.1 named.1 in
    ap (λ (l : Body). l ++ joined (map (meant offer above) (drop n vs))) (form_again offer items above form (take n vs) (length-take-le n vs enough) none.0 named.0)
    ∙ ap (λ (l : Body). form ∷ l) (split_again offer above n vs ∙ rest)
