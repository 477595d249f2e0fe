-- What takes nothing from text and trail doesn't ask for the table.
use Rattle.std.proofs.Common.{◌≡◌, ℕ, List, [], ◌∷◌, ◌++◌, refl, sym, subst, arith}
use Rattle.pg_tree.specs.Trees.{Tree}
use Rattle.pg_grammar_form.specs.Forms.{Node}
use Rattle.pg_grammar_form.specs.declared.form.Form.TheVariants as form
use Rattle.pg_grammar_form.specs.declared.form.Leaf.{Leaf}
use Rattle.pg_grammar_form.specs.declared.form.Leaf.TheVariants as read
use Rattle.pg_grammar_value.specs.Grammar.{Grammar}
use Rattle.pg_grammar_value.specs.declared.trail.TrailItem.{TrailItem}
use Rattle.pg_table.specs.Tables.{Table}
use Rattle.pg_language.specs.Derives as derives
use Rattle.pg_language.specs.Derives.{Spot, leaf_of, made_by, Reads, Derives, DerivesForm, DerivesParts}
use Rattle.pg_language.proofs.Onward.{leads_on, left_still}
use Rattle.pg_trail_replay.proofs.Leads.{parts_onward}
use Rattle.pg_trail_replay.proofs.Within.{declared_within}

abbrev spot_at : ℕ → Table → Spot
spot_at place table = record { place = place; table = table }

pub no_items : (x y : List TrailItem) → x ++ y ≡ [] → (x ≡ []) × (y ≡ [])
no_items [] y e = (refl, e)
no_items (i ∷ x) y e = absurd cc

any_leaf : {g : Grammar} {text : List ℕ} {l : Leaf ℕ} {a b : Spot} {w : List Tree} → Reads g text l a b w → a.place ≡ b.place → (t : Table) →
    Reads g text l (spot_at a.place t) (spot_at a.place t) w
any_leaf (derives.satisfy {a = a} has) h t = absurd (omega arith)
any_leaf {g} {text} (derives.string {characters = cs} {a = a} stands) h t =
    subst (λ j. Reads g text (read.String cs) (spot_at a.place t) (spot_at j t) (leaf_of cs ∷ [])) (sym h) (derives.string {a = spot_at a.place t} stands)
any_leaf {g} {text} (derives.word {w = w} {s = s} {a = a} there is) h t =
    subst (λ j. Reads g text (read.Word w) (spot_at a.place t) (spot_at j t) (leaf_of s ∷ [])) (sym h) (derives.word {a = spot_at a.place t} there is)
any_leaf (derives.not_followed_by lacks) h t = derives.not_followed_by lacks
any_leaf (derives.end_of_text e) h t = derives.end_of_text e
any_leaf {g} {text} (derives.declare {class = class} {item = item} {d = d} {j = j} {a = a} there is admits) h t =
    let within = declared_within g text a.place item class d j is in let low = within.0 in absurd (omega arith)

mutual
  pub any_table : {g : Grammar} {text : List ℕ} {p : ℕ} {a b : Spot} {w : List Tree} {u : List TrailItem} → Derives g text p a b w u → u ≡ [] → a.place ≡ b.place → (t : Table) →
      Derives g text p (spot_at a.place t) (spot_at a.place t) w u
  any_table (derives.at_node is d) e h t = derives.at_node is (any_form d e h t)

  any_form : {g : Grammar} {text : List ℕ} {n : Node} {a b : Spot} {w : List Tree} {u : List TrailItem} → DerivesForm g text n a b w u → u ≡ [] → a.place ≡ b.place → (t : Table) →
      DerivesForm g text n (spot_at a.place t) (spot_at a.place t) w u
  any_form (derives.leaf x) e h t = derives.leaf (any_leaf x h t)
  any_form (derives.seq ds) e h t = derives.seq (any_parts ds e h t)
  any_form (derives.choice got d) e h t = absurd cc
  any_form (derives.many d) e h t = absurd cc
  any_form (derives.chain d ds) e h t = absurd cc
  any_form (derives.rule there d) e h t = derives.rule there (any_table d e h t)
  any_form (derives.expression is fit d) e h t = absurd cc
  any_form {g} {text} (derives.around {k = k} {p = p} {a = a} {b = b} {forest = w} {trail = u} d) e h t =
      subst (λ j. DerivesForm g text (form.Around k p) (spot_at a.place t) (spot_at a.place t) (made_by k text a.place j w) u) h
      (subst (λ s. DerivesForm g text (form.Around k p) (spot_at a.place t) s (made_by k text a.place a.place w) u) (left_still k (spot_at a.place t) (spot_at a.place t) refl)
      (derives.around (any_table d e h t)))

  any_parts : {g : Grammar} {text : List ℕ} {ps : List ℕ} {a b : Spot} {w : List Tree} {u : List TrailItem} → DerivesParts g text ps a b w u → u ≡ [] → a.place ≡ b.place → (t : Table) →
      DerivesParts g text ps (spot_at a.place t) (spot_at a.place t) w u
  any_parts derives.no_part e h t = derives.no_part
  any_parts {g} {text} (derives.first_part {parts = ps} {a = a} {b = b} {c = c} {others = others} {trail = x} {items = y} d ds) e h t =
      let none = no_items x y e in
      let first = (leads_on d).onward in
      let second = parts_onward ds in
      let here : a.place ≡ b.place = omega arith in
      let there : b.place ≡ c.place = omega arith in
      derives.first_part (any_table d none.0 here t) (subst (λ j. DerivesParts g text ps (spot_at j t) (spot_at j t) others y) (sym here) (any_parts ds none.1 there t))
