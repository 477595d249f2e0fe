-- Marks that are on nullable nodes alone show no others, and marks that show no more are on all of them.
use Rattle.std.proofs.Common.{◌≡◌, ℕ, Bool, true, false, List, [], ◌∷◌, Option, Some, None, slice_get, refl, ap, ◌∙◌}
use Rattle.std.specs.List.{list_all, list_any}
use Rattle.std.specs.Option.{option_map_or}
use Rattle.std.proofs.lemmas.Bool.{and_parts, and_from}
use Rattle.std.proofs.lemmas.Map.Keys.{any_passes_from_place}
use Rattle.pg_grammar_value.specs.Grammar.{Grammar}
use Rattle.pg_grammar_form.specs.Forms.{Node}
use Rattle.pg_grammar_form.specs.declared.form.Form.TheVariants as form
use Rattle.pg_grammar_form.specs.declared.form.Leaf.TheVariants as leaf
use Rattle.pg_grammar_value.specs.declared.grammar.Rule as declared
use Rattle.pg_graph.specs.Marks.{is_marked}
use Rattle.pg_sets_nullable.specs.NodeMarks.{body_is_marked, looks_nullable}
use Rattle.pg_sets_nullable.specs.Nullable as null
use Rattle.pg_sets_nullable.specs.Nullable.{Nullable, NullableForm, AllNullable, at_node, many, not_followed_by, end_of_text, seq, choice, expression, rule, none, first}
use Rattle.pg_graph.proofs.Lists.{passes-from_any}

-- only nullable nodes are marked
abbrev pub OnNullable : Grammar → List Bool → Type 0
OnNullable g marks = (p : ℕ) → is_marked marks p ≡ true → Nullable g p

-- what is shown by the marks is marked
abbrev pub ShowNoMore : Grammar → List Bool → Type 0
ShowNoMore g marks = (p : ℕ) (n : Node) → slice_get g.nodes p ≡ Some n → looks_nullable g.rules marks n ≡ true → is_marked marks p ≡ true

-- ---- what is shown is nullable

all_shown : (g : Grammar) (marks : List Bool) → OnNullable g marks → (parts : List ℕ) → list_all (is_marked marks) parts ≡ true → AllNullable g parts
all_shown g marks on [] e = none
all_shown g marks on (p ∷ ps) e =
    let both = and_parts (is_marked marks p) (list_all (is_marked marks) ps) e in
    first (on p both.0) (all_shown g marks on ps both.1)

one_shown : (g : Grammar) (marks : List Bool) → OnNullable g marks → (parts : List ℕ) → list_any (is_marked marks) parts ≡ true → NullableForm g (form.Choice parts)
one_shown g marks on parts e =
    let found = passes-from_any (is_marked marks) parts e in
    choice found.place found.there (on found.element found.passes)

body_shown : (g : Grammar) (marks : List Bool) → OnNullable g marks → (r : ℕ) → body_is_marked g.rules marks r ≡ true → NullableForm g (form.Rule r)
body_shown g marks on r e = go (slice_get g.rules r) refl e
  where
    go : (found : Option declared.Rule) → slice_get g.rules r ≡ found → option_map_or (λ rule. is_marked marks rule.body) found false ≡ true
        → NullableForm g (form.Rule r)
    go None at h = absurd cc
    go (Some named) at h = rule at (on named.body h)

-- what is shown of a form by marks on nullable nodes
pub shown : (g : Grammar) (marks : List Bool) → OnNullable g marks → (n : Node) → looks_nullable g.rules marks n ≡ true → NullableForm g n
shown g marks on (form.Leaf (leaf.NotFollowedBy class)) e = not_followed_by
shown g marks on (form.Leaf leaf.EndOfText) e = end_of_text
shown g marks on (form.Leaf (leaf.Satisfy class)) e = absurd cc
shown g marks on (form.Leaf (leaf.String s)) e = absurd cc
shown g marks on (form.Leaf (leaf.Word word)) e = absurd cc
shown g marks on (form.Leaf (leaf.Declare class)) e = absurd cc
shown g marks on (form.Seq parts) e = seq (all_shown g marks on parts e)
shown g marks on (form.Choice parts) e = one_shown g marks on parts e
shown g marks on (form.Many part) e = many
shown g marks on (form.Chain side used operand separator) e = null.chain (on operand e)
shown g marks on (form.Rule r) e = body_shown g marks on r e
shown g marks on (form.Expression builders term) e = expression (on term e)
shown g marks on (form.Around around part) e = null.around (on part e)

-- ---- what is nullable is marked

mutual
  -- marks that show no more are on each nullable node
  pub marked : {g : Grammar} (marks : List Bool) {p : ℕ} → ShowNoMore g marks → Nullable g p → is_marked marks p ≡ true
  marked marks {p} closed (at_node {n = n} at nullable) = closed p n at (looks marks closed nullable)

  looks : {g : Grammar} (marks : List Bool) {n : Node} → ShowNoMore g marks → NullableForm g n → looks_nullable g.rules marks n ≡ true
  looks marks closed many = refl
  looks marks closed not_followed_by = refl
  looks marks closed end_of_text = refl
  looks marks closed (seq all) = all_marked marks closed all
  looks marks closed (choice {parts} k {part} at one) = any_passes_from_place (is_marked marks) parts k part at (marked marks closed one)
  looks marks closed (null.chain one) = marked marks closed one
  looks marks closed (null.around one) = marked marks closed one
  looks marks closed (expression one) = marked marks closed one
  looks marks closed (rule at one) = ap (λ found. option_map_or (λ rule. is_marked marks rule.body) found false) at ∙ marked marks closed one

  all_marked : {g : Grammar} (marks : List Bool) {parts : List ℕ} → ShowNoMore g marks → AllNullable g parts → list_all (is_marked marks) parts ≡ true
  all_marked marks closed none = refl
  all_marked marks closed (first {part} {parts} one all) =
      and_from (is_marked marks part) (list_all (is_marked marks) parts) (marked marks closed one) (all_marked marks closed all)
