use Rattle.std.proofs.Common.{◌≡◌, ℕ, List, Some, slice_get, refl, sym}
use Rattle.std.proofs.lemmas.Bool.{true≢false}
use Rattle.pg_grammar_value.specs.Grammar.{Grammar}
use Rattle.pg_grammar_form.specs.declared.class.ClassPart.{ClassPart}
use Rattle.pg_grammar_form.specs.declared.form.Form.TheVariants as form
use Rattle.pg_grammar_form.specs.declared.form.Leaf.TheVariants as leaf
use Rattle.pg_grammar_form.specs.declared.form.Around.TheVariants as around
use Rattle.pg_sets_own.specs.OwnStarts.{IsKeyTry, IsKeyed}
use Rattle.pg_sets_own.specs.OwnStarts as own
use Rattle.pg_sets_own.proofs.keys.gives_key.Goals as goal

no_key : {g : Grammar} {part : ℕ} → ((text : List ℕ) → slice_get g.nodes part ≡ Some (form.Leaf (leaf.String text)) → ⊥)
    → ((text : List ℕ) (excluded : List ClassPart) → IsKeyed g part text excluded → ⊥) → IsKeyTry g (form.Around around.Try part) → ⊥
no_key no_string no_keyword (own.string {characters = text} at) = no_string text at
no_key no_string no_keyword (own.keyed {characters = text} {excluded = excluded} is) = no_keyword text excluded is

pub returns-in-Some : goal.returns-in-Some
returns-in-Some c = (λ e. own.string c.in-Some.ensures, λ is. refl)

pub returns-in-Some-tried_keyword : goal.returns-in-Some-tried_keyword
returns-in-Some-tried_keyword c = (λ e. own.keyed c.in-Some-tried_keyword.ensures, λ is. refl)

pub returns-in-None-tried_keyword : goal.returns-in-None-tried_keyword
returns-in-None-tried_keyword c = (λ e. absurd (true≢false (sym e)), λ is. absurd (no_key c.in-None.ensures c.in-None-tried_keyword.ensures is))
