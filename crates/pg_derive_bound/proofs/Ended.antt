-- A string that a class doesn't follow: three nodes, all of which are entered where the string stands.
use Rattle.std.proofs.Common.{◌≡◌, ◌≤◌, ◌+◌, ℕ, List, [], ◌∷◌, Bool, true, false, refl, ap, ◌∙◌, Option, Some, None, slice_get, arith}
use Rattle.std.specs.Prelude.{◌&&◌, if◌then◌else◌}
use Rattle.std.specs.Option.{option_map_or}
use Rattle.std.proofs.lemmas.Bool.{and_parts}
use Rattle.pg_grammar_form.specs.Contents.{is_try}
use Rattle.pg_grammar_form.specs.Forms.{Node, parts_of}
use Rattle.pg_grammar_form.specs.declared.class.ClassPart.{ClassPart}
use Rattle.pg_grammar_form.specs.declared.form.Form.TheVariants as form
use Rattle.pg_grammar_form.specs.declared.form.Leaf.TheVariants as leaf
use Rattle.pg_grammar_form.specs.declared.form.Around.{Around}
use Rattle.pg_grammar_form.specs.declared.form.Around.TheVariants as kind
use Rattle.pg_grammar_value.specs.Grammar.{Grammar}
use Rattle.pg_graph.specs.Marks.{is_marked}
use Rattle.pg_sets_nullable.specs.Parts.{up_to_unmarked}
use Rattle.pg_predict_costs.specs.Steps.{steps_of_all}
use Rattle.pg_predict_costs.specs.Costs.{is_at, is_string, is_not_followed_by, is_ended_string, tries_ended_string, node_cost}
use Rattle.pg_predict_costs.specs.StepCost.{own_steps}

pub record IsEndedString (nodes : List Node) (q : ℕ) : Type 0 where
  pub string : ℕ
  pub end : ℕ
  pub characters : List ℕ
  pub class : List ClassPart
  pub is_seq : slice_get nodes q ≡ Some (form.Seq (string ∷ end ∷ []))
  pub first : slice_get nodes string ≡ Some (form.Leaf (leaf.String characters))
  pub second : slice_get nodes end ≡ Some (form.Leaf (leaf.NotFollowedBy class))

module _ (nodes : List Node) where
  there : (is : Node → Bool) (q : ℕ) → is_at is nodes q ≡ true → (n : Node) × (slice_get nodes q ≡ Some n) × (is n ≡ true)
  there is q h = go (slice_get nodes q) refl h
    where
      go : (found : Option Node) → slice_get nodes q ≡ found → option_map_or is found false ≡ true → (n : Node) × (slice_get nodes q ≡ Some n) × (is n ≡ true)
      go None e h = absurd cc
      go (Some n) e h = (n, e, h)

  string_there : (n : Node) → is_string n ≡ true → (s : List ℕ) × (n ≡ form.Leaf (leaf.String s))
  string_there (form.Leaf (leaf.String s)) h = (s, refl)
  string_there _ h = absurd cc

  end_there : (n : Node) → is_not_followed_by n ≡ true → (class : List ClassPart) × (n ≡ form.Leaf (leaf.NotFollowedBy class))
  end_there (form.Leaf (leaf.NotFollowedBy class)) h = (class, refl)
  end_there _ h = absurd cc

  seq_there : (n : Node) → is_ended_string nodes n ≡ true → (x : ℕ) × (y : ℕ) × (n ≡ form.Seq (x ∷ y ∷ [])) × (is_at is_string nodes x ≡ true) × (is_at is_not_followed_by nodes y ≡ true)
  seq_there (form.Seq (x ∷ y ∷ [])) h = let both = and_parts (is_at is_string nodes x) (is_at is_not_followed_by nodes y) h in (x, y, refl, both.0, both.1)
  seq_there _ h = absurd cc

  pub ended_there : (q : ℕ) → is_at (is_ended_string nodes) nodes q ≡ true → IsEndedString nodes q
  ended_there q h =
      let seq = there (is_ended_string nodes) q h in
      let parts = seq_there seq.0 seq.2 in
      let x = there is_string parts.0 parts.3 in
      let y = there is_not_followed_by parts.1 parts.4 in
      let s = string_there x.0 x.2 in
      let class = end_there y.0 y.2 in
      record {
        string = parts.0;
        end = parts.1;
        characters = s.0;
        class = class.0;
        is_seq = seq.1 ∙ ap (λ (n : Node). Some n) parts.2;
        first = x.1 ∙ ap (λ (n : Node). Some n) s.1;
        second = y.1 ∙ ap (λ (n : Node). Some n) class.1;
      }

  pub tried_there : (k : Around) (q : ℕ) → tries_ended_string nodes k q ≡ true → IsEndedString nodes q
  tried_there k q h = ended_there q (and_parts (is_try k) (is_at (is_ended_string nodes) nodes q) h).1

  pub ended_tried : (x y q : ℕ) (s : List ℕ) (class : List ClassPart) → slice_get nodes q ≡ Some (form.Seq (x ∷ y ∷ [])) → slice_get nodes x ≡ Some (form.Leaf (leaf.String s)) →
      slice_get nodes y ≡ Some (form.Leaf (leaf.NotFollowedBy class)) → tries_ended_string nodes kind.Try q ≡ true
  ended_tried x y q s class e first second =
      ap (λ found. option_map_or (is_ended_string nodes) found false) e ∙ ap (λ found. option_map_or is_string found false && is_at is_not_followed_by nodes y) first
      ∙ ap (λ found. option_map_or is_not_followed_by found false) second

-- ---- what it costs, and its size

module _ (g : Grammar) (nullable : List Bool) (cost size : ℕ → ℕ)
    (costs : (p : ℕ) (n : Node) → slice_get g.nodes p ≡ Some n → cost p ≡ node_cost g nullable cost n)
    (sizes : (p : ℕ) (n : Node) → slice_get g.nodes p ≡ Some n → size p ≡ own_steps g cost n + steps_of_all size (parts_of n)) where
  ended_cost : (q : ℕ) → IsEndedString g.nodes q → cost q ≤ 6
  ended_cost q h =
      let x : cost h.string ≡ 2 = costs h.string _ h.first in
      let y : cost h.end ≡ 2 = costs h.end _ h.second in
      let at : cost q ≡ 2 + steps_of_all cost (up_to_unmarked nullable (h.string ∷ h.end ∷ [])) = costs q _ h.is_seq in
      let most = go (is_marked nullable h.string) (is_marked nullable h.end) x y in
      omega arith
    where
      go : (b d : Bool) → cost h.string ≡ 2 → cost h.end ≡ 2 → steps_of_all cost (h.string ∷ (if b then h.end ∷ (if d then [] else []) else [])) ≤ 4
      go true true x y = omega arith
      go true false x y = omega arith
      go false d x y = omega arith

  ended_size : (q : ℕ) → IsEndedString g.nodes q → size q ≡ 6
  ended_size q h =
      let x : size h.string ≡ 2 + 0 = sizes h.string _ h.first in
      let y : size h.end ≡ 2 + 0 = sizes h.end _ h.second in
      let at : size q ≡ 2 + (size h.string + (size h.end + 0)) = sizes q _ h.is_seq in
      omega arith

  -- what stands around a part costs no less than the part and itself
  pub around_least : (p q : ℕ) (k : Around) → slice_get g.nodes p ≡ Some (form.Around k q) → 2 + cost q ≤ cost p
  around_least p q k e = go (tries_ended_string g.nodes k q) refl (costs p _ e)
    where
      go : (b : Bool) → tries_ended_string g.nodes k q ≡ b → cost p ≡ (if b then 8 else 2 + cost q) → 2 + cost q ≤ cost p
      go true h is = let low = ended_cost q (tried_there g.nodes k q h) in omega arith
      go false h is = omega arith

  -- and no more than their size
  pub around_low : (p q : ℕ) (k : Around) → slice_get g.nodes p ≡ Some (form.Around k q) → cost q ≤ size q → cost p ≤ size p
  around_low p q k e low = go (tries_ended_string g.nodes k q) refl (costs p _ e) (sizes p _ e)
    where
      go : (b : Bool) → tries_ended_string g.nodes k q ≡ b → cost p ≡ (if b then 8 else 2 + cost q) → size p ≡ 2 + (size q + 0) → cost p ≤ size p
      go true h is at = let six = ended_size q (tried_there g.nodes k q h) in omega arith
      go false h is at = omega arith

  pub tried_cost : (p q : ℕ) → slice_get g.nodes p ≡ Some (form.Around kind.Try q) → tries_ended_string g.nodes kind.Try q ≡ true → cost p ≡ 8
  tried_cost p q e h = costs p _ e ∙ ap (λ (b : Bool). if b then 8 else 2 + cost q) h
