-- In a grammar every number at a node names something.
use Rattle.std.proofs.Common.{◌≡◌, ◌<◌, ℕ, zero, suc, List, [], ◌∷◌, subst, length, Some, slice_get}
use Rattle.std.specs.List.{AllByRecursion}
use Rattle.pg_grammar_value.proofs.Numbers.{parts_are_after, bodies_are_nodes}
use Rattle.pg_grammar_form.specs.Forms.{parts_of, NamesRule, NamesWord}
use Rattle.pg_grammar_value.specs.Grammar.{Grammar, IsGrammar}
use Rattle.pg_grammar_form.specs.declared.form.Form.TheVariants as form
use Rattle.pg_grammar_form.specs.declared.form.Leaf.TheVariants as leaf
use Rattle.pg_grammar_value.specs.declared.grammar.Rule as declared
use Rattle.pg_derive.proofs.Quiet.{IsWhole, found}

all_mapped : {X : Type 0} (P Q : X → Type 0) (xs : List X) → ((x : X) → P x → Q x) → AllByRecursion P xs → AllByRecursion Q xs
all_mapped P Q [] f h = tt
all_mapped P Q (x ∷ xs) f h = (f x h.0, all_mapped P Q xs f h.1)

all_at : {X : Type 0} (P : X → Type 0) (xs : List X) → AllByRecursion P xs → (k : ℕ) (x : X) → slice_get xs k ≡ Some x → P x
all_at P [] h k x e = absurd (cc)
all_at P (y ∷ xs) h zero x e = let same : y ≡ x = cc in subst P same h.0
all_at P (y ∷ xs) h (suc k) x e = all_at P xs h.1 k x e

pub is_whole : (g : Grammar) → IsGrammar g → IsWhole g
is_whole g h = record {
  parts = λ p n e. all_mapped _ _ (parts_of n) (λ q l. l.1) (parts_are_after g.nodes p n h.preorder e);
  rules = λ p r e.
      let named = found g.rules r (all_at (NamesRule (length g.rules)) g.nodes h.named p (form.Rule r) e) in
      (named.0, named.1, all_at (λ (rule : declared.Rule). rule.body < length g.nodes) g.rules (bodies_are_nodes g.rules g.nodes h.bodies) r named.0 named.1);
  words = λ p w e. found g.words w (all_at (NamesWord (length g.words)) g.nodes h.words_named p (form.Leaf (leaf.Word w)) e);
  initials = h.initials;
}

pub start_found : (g : Grammar) → IsGrammar g → (named : declared.Rule) × (slice_get g.rules g.start ≡ Some named) × (named.body < length g.nodes)
start_found g h =
    let named = found g.rules g.start h.start in
    (named.0, named.1, all_at (λ (rule : declared.Rule). rule.body < length g.nodes) g.rules (bodies_are_nodes g.rules g.nodes h.bodies) g.start named.0 named.1)
