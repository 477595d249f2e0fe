-- What a derivation of a node says where it is known what stands at the node.
use Rattle.std.proofs.Common.{◌≡◌, ◌+◌, ◌<◌, ◌≤◌, ℕ, List, [], ◌∷◌, ◌++◌, refl, ◌∙◌, ap, subst, length, take, drop, Some, slice_get, arith, le_refl, le_trans, append-nil}
use Rattle.pg_tree.specs.Trees.{Tree}
use Rattle.pg_grammar_value.specs.Grammar.{Grammar}
use Rattle.pg_grammar_form.specs.declared.class.ClassPart.{ClassPart}
use Rattle.pg_grammar_form.specs.Forms.{Node}
use Rattle.pg_grammar_form.specs.declared.form.Form.TheVariants as form
use Rattle.pg_grammar_form.specs.declared.form.Leaf.TheVariants as leaf
use Rattle.pg_grammar_value.specs.declared.trail.TrailItem.{TrailItem}
use Rattle.pg_language.specs.Derives as derives
use Rattle.pg_language.specs.Derives.{Spot, after, leaf_of, Derives, at_node, DerivesForm, string, not_followed_by, seq, DerivesParts, no_part, first_part}
use Rattle.pg_language.specs.Runs.{HasAt, StandsAt}
use Rattle.pg_table.specs.Tables.{ComesFrom}
use Rattle.pg_table.proofs.Added.{still_comes}
use Rattle.pg_language.proofs.Onward.{leads_on}
use Rattle.pg_derive.specs.Predictive.{BeginsAt}
use Rattle.pg_derive.proofs.LeavesAnswered.{head_there}

pub form_at : {g : Grammar} {text : List ℕ} {q : ℕ} {n : Node} {a b : Spot} {v : List Tree} {t : List TrailItem} →
    Derives g text q a b v t → slice_get g.nodes q ≡ Some n → DerivesForm g text n a b v t
form_at {g = g} {text = text} {n = n} {a = a} {b = b} {v = v} {t = t} (at_node {n = m} e d) h =
    let same : m ≡ n = cc in subst (λ k. DerivesForm g text k a b v t) same d

-- ---- strings, and strings that some characters may not follow

pub record SpansString (text s : List ℕ) (a b : Spot) (v : List Tree) (t : List TrailItem) : Type 0 where
  pub stands : StandsAt text a.place s
  pub end : b ≡ after a (length s)
  pub forest : v ≡ leaf_of s ∷ []
  pub trail : t ≡ []

pub spans_string : {g : Grammar} {text s : List ℕ} {a b : Spot} {v : List Tree} {t : List TrailItem} →
    DerivesForm g text (form.Leaf (leaf.String s)) a b v t → SpansString text s a b v t
spans_string (derives.leaf (string h)) = record { stands = h; end = refl; forest = refl; trail = refl }

pub record SpansNothing (g : Grammar) (text : List ℕ) (class : List ClassPart) (a b : Spot) (v : List Tree) (t : List TrailItem) : Type 0 where
  pub bare : HasAt g text class a.place → ⊥
  pub end : b ≡ a
  pub forest : v ≡ []
  pub trail : t ≡ []

pub spans_nothing : {g : Grammar} {text : List ℕ} {class : List ClassPart} {a b : Spot} {v : List Tree} {t : List TrailItem} →
    DerivesForm g text (form.Leaf (leaf.NotFollowedBy class)) a b v t → SpansNothing g text class a b v t
spans_nothing (derives.leaf (not_followed_by h)) = record { bare = h; end = refl; forest = refl; trail = refl }

pub record SpansKey (g : Grammar) (text s : List ℕ) (class : List ClassPart) (a b : Spot) (v : List Tree) (t : List TrailItem) : Type 0 where
  pub stands : StandsAt text a.place s
  pub bare : HasAt g text class (a.place + length s) → ⊥
  pub end : b ≡ after a (length s)
  pub forest : v ≡ leaf_of s ∷ []
  pub trail : t ≡ []

pub spans_key : {g : Grammar} {text s : List ℕ} {class : List ClassPart} {x y : ℕ} {a b : Spot} {v : List Tree} {t : List TrailItem} →
    DerivesForm g text (form.Seq (x ∷ y ∷ [])) a b v t → slice_get g.nodes x ≡ Some (form.Leaf (leaf.String s)) → slice_get g.nodes y ≡ Some (form.Leaf (leaf.NotFollowedBy class)) →
    SpansKey g text s class a b v t
spans_key {g = g} {text = text} {class = class} (seq (first_part d (first_part {b = end} e no_part))) h k =
    let first = spans_string (form_at d h) in
    let second = spans_nothing (form_at e k) in
    let middle = first.end in
    record {
      stands = first.stands;
      bare = subst (λ i. HasAt g text class i → ⊥) (ap (λ (z : Spot). z.place) middle) second.bare;
      end = second.end ∙ middle;
      forest = joined first.forest second.forest;
      trail = joined first.trail second.trail;
    }
  where
    joined : {X : Type 0} {u v w : List X} → u ≡ w → v ≡ [] → u ++ (v ++ []) ≡ w
    joined {u = u} p q = ap (λ z. u ++ (z ++ [])) q ∙ append-nil u ∙ p

-- the first character of what stands
pub first_stands : (text s : List ℕ) (i : ℕ) → 0 < length s → StandsAt text i s → BeginsAt text i s
first_stands text [] i l h = absurd (omega arith)
first_stands text (x ∷ s) i l h = go (drop i text) refl h
  where
    go : (cs : List ℕ) → drop i text ≡ cs → take (length (x ∷ s)) cs ≡ x ∷ s → BeginsAt text i (x ∷ s)
    go [] e k = absurd (cc)
    go (c ∷ cs) e k = let same : c ≡ x = cc in record { character = x; first = refl; there = head_there text i x cs (e ∙ ap (λ z. z ∷ cs) same) }

-- ---- nothing goes back

pub forward : {g : Grammar} {text : List ℕ} {p : ℕ} {a b : Spot} {v : List Tree} {t : List TrailItem} → Derives g text p a b v t → a.place ≤ b.place
forward d = (leads_on d).onward

-- a table of the grammar leads to one
pub comes_on : {g : Grammar} {text : List ℕ} {p : ℕ} {a b : Spot} {v : List Tree} {t : List TrailItem} → Derives g text p a b v t → ComesFrom g a.table → ComesFrom g b.table
comes_on {g = g} {a = a} {b = b} d from = let on = leads_on d in still_comes g a.table b.table on.further from on.proper on.added

pub forward_parts : {g : Grammar} {text ps : List ℕ} {a b : Spot} {v : List Tree} {t : List TrailItem} → DerivesParts g text ps a b v t → a.place ≤ b.place
forward_parts no_part = le_refl _
forward_parts (first_part d ds) = le_trans (forward d) (forward_parts ds)
