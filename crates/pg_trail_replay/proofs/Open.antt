-- For each rule, and for each form around a part, that was entered and hasn't ended, its end has the truth about when it was entered: what was
-- derived since is derived by its body or part.
use Rattle.std.proofs.Common.{◌≡◌, ℕ, List, [], ◌∷◌, ◌++◌, length, refl, sym, subst, append-nil, append_assoc}
use Rattle.std.specs.Prelude.{Some, slice_get}
use Rattle.pg_tree.specs.Trees.{Tree}
use Rattle.pg_grammar_form.specs.declared.form.Around.{Around}
use Rattle.pg_grammar_form.specs.declared.form.Form.TheVariants as form
use Rattle.pg_grammar_value.specs.Grammar.{Grammar}
use Rattle.pg_grammar_value.specs.declared.grammar.Rule as declared
use Rattle.pg_grammar_value.specs.declared.trail.TrailItem.{TrailItem}
use Rattle.pg_language.specs.Derives.{Spot, Derives}
use Rattle.pg_trail_replay.specs.Tasks.{Looseness, OnTask, node, parts, rounds, more_rounds, links, operand, linked, settle, fold, marked, operator_symbol, application, unmark, close, leave, Setting, State}
use Rattle.pg_trail_replay.proofs.Alike.{Alike}
use Rattle.pg_trail_replay.proofs.Leads.{arrived, Leads, no_task, does, does_node, spot_of}

-- the node derives a stretch up to the spot, which began at the place, after so many trees, with so many items left; what it gave is alike
pub record HasDerived (g : Grammar) (text : List ℕ) (q place trees count : ℕ) (loose : Looseness) (b : Spot) (forest : List Tree) (rest : List TrailItem) : Type 0 where
  pub from : Spot
  pub before : List Tree
  pub given : List Tree
  pub real : List Tree
  pub taken : List TrailItem
  pub derived : Derives g text q from b real taken
  pub alike : Alike loose given real
  pub at_place : from.place ≡ place
  pub after_trees : length before ≡ trees
  pub made : forest ≡ before ++ given
  pub counted : length (taken ++ rest) ≡ count

-- the body of the rule does
abbrev pub BodyDerived : Grammar → List ℕ → (r place trees count : ℕ) → Looseness → Spot → List Tree → List TrailItem → Type 0
BodyDerived g text r place trees count loose b x rest = (named : declared.Rule) × (slice_get g.rules r ≡ Some named) × HasDerived g text named.body place trees count loose b x rest

-- the part of the form around it at the node does
abbrev pub PartDerived : Grammar → List ℕ → Around → (p place trees count : ℕ) → Looseness → Spot → List Tree → List TrailItem → Type 0
PartDerived g text k p place trees count loose b x rest = (q : ℕ) × (slice_get g.nodes p ≡ Some (form.Around k q)) × HasDerived g text q place trees count loose b x rest

-- so they do wherever the tasks before their end lead to
abbrev pub IsTrueAfter : Grammar → List ℕ → State → List OnTask → OnTask → Type 0
IsTrueAfter g text s above (node p) = Unit {0}
IsTrueAfter g text s above (parts ps) = Unit {0}
IsTrueAfter g text s above (rounds p n) = Unit {0}
IsTrueAfter g text s above (more_rounds p n place trees count) = Unit {0}
IsTrueAfter g text s above (links c n trees) = Unit {0}
IsTrueAfter g text s above (operand c n trees from) = Unit {0}
IsTrueAfter g text s above (linked c n trees later from) = Unit {0}
IsTrueAfter g text s above (settle loose) = Unit {0}
IsTrueAfter g text s above (fold used trees) = Unit {0}
IsTrueAfter g text s above (marked p loose) = Unit {0}
IsTrueAfter g text s above (operator_symbol o) = Unit {0}
IsTrueAfter g text s above (application builders o) = Unit {0}
IsTrueAfter g text s above unmark = Unit {0}
IsTrueAfter g text s above (close k p place trees operators count after) = (loose : Looseness) (b : Spot) (x : List Tree) (rest : List TrailItem) →
    Leads g text s.setting above s.entered (spot_of s) s.forest s.rest (arrived loose b x rest) → PartDerived g text k p place trees count loose b x rest
IsTrueAfter g text s above (leave r place trees count) = (loose : Looseness) (b : Spot) (x : List Tree) (rest : List TrailItem) →
    Leads g text s.setting above s.entered (spot_of s) s.forest s.rest (arrived loose b x rest) → BodyDerived g text r place trees count loose b x rest

-- all ends among the tasks, which come after others, tell the truth
abbrev pub AreTrueAfter : Grammar → List ℕ → State → List OnTask → List OnTask → Type 0
AreTrueAfter g text s above [] = Unit {0}
AreTrueAfter g text s above (t ∷ ts) = IsTrueAfter g text s above t × AreTrueAfter g text s (above ++ t ∷ []) ts

-- tasks after tasks
pub true_after_both : (g : Grammar) (text : List ℕ) (s : State) (above ts more : List OnTask) → AreTrueAfter g text s above ts → AreTrueAfter g text s (above ++ ts) more →
    AreTrueAfter g text s above (ts ++ more)
true_after_both g text s above [] more h k = subst (λ a. AreTrueAfter g text s a more) (append-nil above) k
true_after_both g text s above (t ∷ ts) more h k =
    (h.0, true_after_both g text s (above ++ t ∷ []) ts more h.1 (subst (λ a. AreTrueAfter g text s a more) (sym (append_assoc above (t ∷ []) ts)) k))

-- where these tasks of one state lead nowhere but where a task of another does, what is true after the task is true after those
module _ (g : Grammar) (text : List ℕ) (t : OnTask) (new : List OnTask) (s z : State)
    (follow : (above : List OnTask) (loose : Looseness) (b : Spot) (x : List Tree) (rest : List TrailItem) →
    Leads g text z.setting (new ++ above) z.entered (spot_of z) z.forest z.rest (arrived loose b x rest) →
    Leads g text s.setting (t ∷ above) s.entered (spot_of s) s.forest s.rest (arrived loose b x rest)) where
  one_true : (above : List OnTask) (u : OnTask) → IsTrueAfter g text s (t ∷ above) u → IsTrueAfter g text z (new ++ above) u
  one_true above (leave r place trees count) h = λ loose b x rest k. h loose b x rest (follow above loose b x rest k)
  one_true above (node p) h = tt
  one_true above (parts ps) h = tt
  one_true above (rounds p n) h = tt
  one_true above (more_rounds p n place trees count) h = tt
  one_true above (links c n trees) h = tt
  one_true above (operand c n trees from) h = tt
  one_true above (linked c n trees later from) h = tt
  one_true above (settle loose) h = tt
  one_true above (fold used trees) h = tt
  one_true above (marked p loose) h = tt
  one_true above (operator_symbol o) h = tt
  one_true above (application builders o) h = tt
  one_true above unmark h = tt
  one_true above (close k p place trees operators count after) h = λ loose b x rest m. h loose b x rest (follow above loose b x rest m)

  pub all_true : (above ts : List OnTask) → AreTrueAfter g text s (t ∷ above) ts → AreTrueAfter g text z (new ++ above) ts
  all_true above [] h = tt
  all_true above (u ∷ ts) h =
      (one_true above u h.0, subst (λ a. AreTrueAfter g text z a ts) (sym (append_assoc new above (u ∷ []))) (all_true (above ++ u ∷ []) ts h.1))

-- a node that is entered
pub entered_true : (g : Grammar) (text : List ℕ) (q : ℕ) (ms : Setting) (entered : List ℕ) (a : Spot) (loose : Looseness) (b : Spot) (v x : List Tree) (items rest : List TrailItem) →
    Leads g text ms (node q ∷ []) entered a v items (arrived loose b x rest) → HasDerived g text q a.place (length v) (length items) loose b x rest
entered_true g text q ms entered a loose b v x items rest (does {u = u} (does_node {w = w} {x = y} d h) no_task) = record {
  from = a;
  before = v;
  given = y;
  real = w;
  taken = u;
  derived = d;
  alike = h;
  at_place = refl;
  after_trees = refl;
  made = refl;
  counted = refl;
}
