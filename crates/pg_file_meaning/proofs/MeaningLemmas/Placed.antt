-- Placed base forms and forms without their places.
use Rattle.std.proofs.Common.{◌≡◌, ℕ, List, [], ◌∷◌, ◌++◌, length, take, drop, sym, ap, subst, ◌∙◌}
use Rattle.std.proofs.lemmas.List.{map-append, map_push, take-map, drop-map}
use Rattle.std.specs.Global.{Vec}
use Rattle.std.specs.List.{AllByRecursion}
use Rattle.pg_pred.specs.Offer.{Offer}
use Rattle.pg_grammar_form.proofs.Each.{all-drop}
use Rattle.pg_grammar_form.specs.Names.{Name}
use Rattle.pg_file_meaning.specs.declared.body.PlacedBase.{PlacedBase}
use Rattle.pg_file_items.specs.declared.item.PlacedForm.{PlacedForm}
use Rattle.pg_file_items.specs.declared.written.WrittenForm.{WrittenForm}
use Rattle.pg_file_items.specs.Entries.{forms_of}
use Rattle.pg_file_items.specs.Joined.{joined}
use Rattle.pg_file_items.proofs.ItemLemmas.Joined.{joined_push}
use Rattle.pg_file_meaning.specs.Meaning.{Body}
use Rattle.pg_file_items.specs.Sizes.{part_count}
use Rattle.pg_file_meaning.specs.Bodies.{bases_of, all_bases_of, body_of_form, bodies}
use Rattle.pg_file_meaning.specs.Spans.{Spans, spans_of, all_spans_of, spans_of_form, all_spans}
use Rattle.pg_file_items.proofs.ItemLemmas.Backwards.{IsOneBack}

-- joined bodies, and one more
pub bases_joined : (bodies : List (Vec PlacedBase)) (body : Vec PlacedBase) (all after : List PlacedBase)
    → after ≡ all ++ body.items → bases_of all ≡ joined (all_bases_of bodies) → bases_of after ≡ joined (all_bases_of (bodies ++ body ∷ []))
bases_joined bodies body all after e h =
    ap bases_of e ∙ map-append (λ (b : PlacedBase). b.form) all body.items ∙ ap (λ (forms : Body). forms ++ bases_of body.items) h
    ∙ sym (joined_push (all_bases_of bodies) (bases_of body.items))
    ∙ ap (λ (lists : List Body). joined lists) (sym (map_push (λ (b : Vec PlacedBase). bases_of b.items) bodies body))

pub bases_taken : (n : ℕ) (items bodies : List (Vec PlacedBase)) → bodies ≡ take n items → all_bases_of bodies ≡ take n (all_bases_of items)
bases_taken n items bodies h = ap all_bases_of h ∙ sym (take-map (λ (b : Vec PlacedBase). bases_of b.items) n items)

-- the body of a form before others, of which it takes the first
pub bases_step : (offer : Offer) (classes : List Name) (form : WrittenForm) (forms : List WrittenForm) (waiting : List (Vec PlacedBase)) (body : Vec PlacedBase)
    → all_bases_of waiting ≡ bodies offer classes forms → bases_of body.items ≡ body_of_form offer classes form (take (part_count form) (all_bases_of waiting))
    → all_bases_of (body ∷ drop (part_count form) waiting) ≡ bodies offer classes (form ∷ forms)
bases_step offer classes form forms waiting body h e =
    let rest : drop (part_count form) (all_bases_of waiting) ≡ all_bases_of (drop (part_count form) waiting) = drop-map (λ (b : Vec PlacedBase). bases_of b.items) (part_count form) waiting in
    cc

-- the same of spans: joined bodies, and one more
pub spans_joined : (bodies : List (Vec PlacedBase)) (body : Vec PlacedBase) (all after : List PlacedBase)
    → after ≡ all ++ body.items → spans_of all ≡ joined (all_spans_of bodies) → spans_of after ≡ joined (all_spans_of (bodies ++ body ∷ []))
spans_joined bodies body all after e h =
    ap spans_of e ∙ map-append (λ (b : PlacedBase). b.span) all body.items ∙ ap (λ (spans : Spans). spans ++ spans_of body.items) h
    ∙ sym (joined_push (all_spans_of bodies) (spans_of body.items))
    ∙ ap (λ (lists : List Spans). joined lists) (sym (map_push (λ (b : Vec PlacedBase). spans_of b.items) bodies body))

pub spans_taken : (n : ℕ) (items bodies : List (Vec PlacedBase)) → bodies ≡ take n items → all_spans_of bodies ≡ take n (all_spans_of items)
spans_taken n items bodies h = ap all_spans_of h ∙ sym (take-map (λ (b : Vec PlacedBase). spans_of b.items) n items)

pub spans_step : (form : PlacedForm) (forms : List PlacedForm) (waiting : List (Vec PlacedBase)) (body : Vec PlacedBase)
    → all_spans_of waiting ≡ all_spans forms → spans_of body.items ≡ spans_of_form form.form form.span (take (part_count form.form) (all_spans_of waiting))
    → all_spans_of (body ∷ drop (part_count form.form) waiting) ≡ all_spans (form ∷ forms)
spans_step form forms waiting body h e =
    let rest : drop (part_count form.form) (all_spans_of waiting) ≡ all_spans_of (drop (part_count form.form) waiting) = drop-map (λ (b : Vec PlacedBase). spans_of b.items) (part_count form.form) waiting in
    cc

-- a fact of each form is one of a form among them
pub form_back : (P : WrittenForm → Type 0) (before : List PlacedForm) (form : PlacedForm) (rest all : List PlacedForm)
    → IsOneBack before form rest all → AllByRecursion P (forms_of all) → P form.form
form_back P before form rest all back h =
    let following : drop (length before) (forms_of all) ≡ form.form ∷ forms_of (drop (length rest) all) =
    drop-map (λ (f : PlacedForm). f.form) (length before) all ∙ ap forms_of back.back in
    let known : AllByRecursion P (form.form ∷ forms_of (drop (length rest) all)) = subst (AllByRecursion P) following (all-drop P (length before) (forms_of all) h) in
    known.0
