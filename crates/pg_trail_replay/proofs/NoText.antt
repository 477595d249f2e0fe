-- What takes nothing gives trees with no text.
use Rattle.std.proofs.Common.{◌≡◌, ◌+◌, ◌-◌, ℕ, true, List, [], ◌∷◌, ◌++◌, refl, ap, ◌∙◌, subst, arith, length, take, drop}
use Rattle.pg_tree.specs.Trees.{Tree, leaf}
use Rattle.pg_tree.specs.Built.{tree_text, built}
use Rattle.pg_tree.specs.declared.shape.Shape.{Shape}
use Rattle.pg_tree.specs.declared.shape.Shape.TheVariants as shaped
use Rattle.pg_grammar_form.specs.Forms.{Node}
use Rattle.pg_grammar_form.specs.declared.form.Leaf.{Leaf}
use Rattle.pg_grammar_form.specs.declared.form.Around.{Around}
use Rattle.pg_grammar_form.specs.declared.form.Around.TheVariants as kind
use Rattle.pg_grammar_value.specs.Grammar.{Grammar}
use Rattle.pg_grammar_value.specs.declared.trail.TrailItem.{TrailItem}
use Rattle.pg_language.specs.Derives as derives
use Rattle.pg_language.specs.Derives.{Spot, leaf_of, span, made_by, Reads, Derives, DerivesForm, DerivesParts}
use Rattle.pg_language.proofs.Onward.{leads_on}
use Rattle.pg_trail_replay.specs.Tasks.{joins, makes_empty_leaf}
use Rattle.pg_trail_replay.proofs.Alike.{text_in, built_text}
use Rattle.pg_trail_replay.proofs.AnyTable.{no_items}
use Rattle.pg_trail_replay.proofs.Leads.{parts_onward}
use Rattle.pg_trail_replay.proofs.Within.{declared_within}

-- ---- texts of lists

both_texts : (v w : List Tree) → text_in v ≡ [] → text_in w ≡ [] → text_in (v ++ w) ≡ []
both_texts [] w h k = k
both_texts (t ∷ v) w h k = let parts = none_of_both (tree_text t) (text_in v) h in ap (λ x. x ++ text_in (v ++ w)) parts.0 ∙ both_texts v w parts.1 k
  where
    none_of_both : (x y : List ℕ) → x ++ y ≡ [] → (x ≡ []) × (y ≡ [])
    none_of_both [] y e = (refl, e)
    none_of_both (c ∷ x) y e = absurd cc

-- ---- an empty stretch

empty_span : (text : List ℕ) (i : ℕ) → span text i i ≡ []
empty_span text i = let none : i - i ≡ 0 = omega arith in ap (λ n. take n (drop i text)) none

empty_characters : (cs : List ℕ) (i : ℕ) → i ≡ i + length cs → cs ≡ []
empty_characters [] i h = refl
empty_characters (c ∷ cs) i h = absurd (omega arith)

leaf_text : (cs : List ℕ) → cs ≡ [] → text_in (leaf_of cs ∷ []) ≡ []
leaf_text cs e = ap (λ cs. text_in (leaf_of cs ∷ [])) e

made_text : (k : Around) (text : List ℕ) (i : ℕ) (w : List Tree) → text_in w ≡ [] → text_in (made_by k text i i w) ≡ []
made_text kind.Try text i w h = h
made_text kind.Text text i w h = leaf_text (span text i i) (empty_span text i)
made_text kind.Skip text i w h = refl
made_text (kind.Build used symbol) text i w h = built_text used.shape symbol w ∙ h
made_text (kind.Label message) text i w h = h
made_text kind.Local text i w h = h

-- such a form makes an empty leaf of it
joined_leaf : (shape : Shape) (symbol : List ℕ) (w : List Tree) → joins shape ≡ true → text_in w ≡ [] → built shape symbol w ∷ [] ≡ leaf_of [] ∷ []
joined_leaf (shaped.Node label) symbol w e h = absurd cc
joined_leaf shaped.Symbol symbol w e h = absurd cc
joined_leaf shaped.Join symbol w e h = ap (λ t. leaf t ∷ []) h
joined_leaf (shaped.Flat label) symbol w e h = absurd cc

pub empty_made : (text : List ℕ) (k : Around) (i : ℕ) (w : List Tree) → makes_empty_leaf k ≡ true → text_in w ≡ [] → made_by k text i i w ≡ leaf_of [] ∷ []
empty_made text kind.Try i w e h = absurd cc
empty_made text kind.Text i w e h = ap (λ cs. leaf_of cs ∷ []) (empty_span text i)
empty_made text kind.Skip i w e h = absurd cc
empty_made text (kind.Build used symbol) i w e h = joined_leaf used.shape symbol w e h
empty_made text (kind.Label message) i w e h = absurd cc
empty_made text kind.Local i w e h = absurd cc

-- ---- derivations

read_text : {g : Grammar} {text : List ℕ} {l : Leaf ℕ} {a b : Spot} {w : List Tree} → Reads g text l a b w → a.place ≡ b.place → text_in w ≡ []
read_text (derives.satisfy {a = a} has) h = absurd (omega arith)
read_text (derives.string {characters = cs} {a = a} stands) h = leaf_text cs (empty_characters cs a.place h)
read_text (derives.word {s = s} {a = a} there is) h = leaf_text s (empty_characters s a.place h)
read_text (derives.not_followed_by lacks) h = refl
read_text (derives.end_of_text e) h = refl
read_text {g} {text} (derives.declare {class = class} {item = item} {d = d} {j = j} {a = a} there is admits) h =
    let within = declared_within g text a.place item class d j is in let low = within.0 in absurd (omega arith)

mutual
  pub no_text : {g : Grammar} {text : List ℕ} {p : ℕ} {a b : Spot} {w : List Tree} {u : List TrailItem} → Derives g text p a b w u → u ≡ [] → a.place ≡ b.place → text_in w ≡ []
  no_text (derives.at_node is d) e h = no_form_text d e h

  no_form_text : {g : Grammar} {text : List ℕ} {n : Node} {a b : Spot} {w : List Tree} {u : List TrailItem} → DerivesForm g text n a b w u → u ≡ [] → a.place ≡ b.place → text_in w ≡ []
  no_form_text (derives.leaf x) e h = read_text x h
  no_form_text (derives.seq ds) e h = no_parts_text ds e h
  no_form_text (derives.choice got d) e h = absurd cc
  no_form_text (derives.many d) e h = absurd cc
  no_form_text (derives.chain d ds) e h = absurd cc
  no_form_text (derives.rule there d) e h = no_text d e h
  no_form_text (derives.expression is fit d) e h = absurd cc
  no_form_text {text = text} (derives.around {k = k} {a = a} {b = b} {forest = w} d) e h =
      subst (λ j. text_in (made_by k text a.place j w) ≡ []) h (made_text k text a.place w (no_text d e h))

  no_parts_text : {g : Grammar} {text : List ℕ} {ps : List ℕ} {a b : Spot} {w : List Tree} {u : List TrailItem} → DerivesParts g text ps a b w u → u ≡ [] → a.place ≡ b.place → text_in w ≡ []
  no_parts_text derives.no_part e h = refl
  no_parts_text (derives.first_part {a = a} {b = b} {c = c} {forest = v} {others = w} {trail = x} {items = y} d ds) e h =
      let none = no_items x y e in
      let first = (leads_on d).onward in
      let second = parts_onward ds in
      both_texts v w (no_text d none.0 (omega arith)) (no_parts_text ds none.1 (omega arith))
