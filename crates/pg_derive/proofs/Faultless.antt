-- A grammar at whose nodes nothing is wrong is predictive: its least sets show it.
use Rattle.std.proofs.Common.{◌≡◌, ◌<◌, inl, inr, ℕ, Some, slice_get, length, sym, subst, ◌∙◌}
use Rattle.std.proofs.lemmas.Option.{slice_get_within, same_Some}
use Rattle.pg_grammar_value.specs.Grammar.{Grammar, IsGrammar}
use Rattle.pg_grammar_form.specs.Forms.{Node}
use Rattle.pg_grammar_form.specs.declared.form.Form.TheVariants as form
use Rattle.pg_grammar_form.specs.declared.form.Leaf.{Leaf}
use Rattle.pg_grammar_form.specs.declared.form.Leaf.TheVariants as leaf
use Rattle.pg_grammar_form.specs.declared.form.Around.{Around}
use Rattle.pg_grammar_form.specs.declared.form.Around.TheVariants as kind
use Rattle.pg_grammar_value.specs.declared.grammar.Rule as declared
use Rattle.pg_start.specs.declared.kind.StartKind.TheVariants.{End}
use Rattle.pg_sets.specs.First as of
use Rattle.pg_sets.specs.Follow as follow
use Rattle.pg_sets_nullable.specs.Nullable as null
use Rattle.pg_sets_own.specs.OwnStarts.{IsKeyTry}
use Rattle.pg_sets_own.specs.OwnStarts as own
use Rattle.pg_sets_nullable.specs.Ranks.{Chain}
use Rattle.pg_sets_nullable.specs.Reached as reached
use Rattle.pg_sets.specs.Sets.{Sets, AreSets}
use Rattle.pg_predict.specs.Conditions.{IsFaultless}
use Rattle.pg_predict.proofs.StepCosts.{acyclic}
use Rattle.pg_derive.specs.Accepted.{AcceptedGrammarsArePredictive}
use Rattle.pg_derive.specs.ClosedSets.{Covers}
use Rattle.pg_derive.specs.LeastSets.{node_sets}
use Rattle.pg_derive.specs.Predictive.{PartIsPredictive, TryIsPredictive, of_part, RuleIsPredictive, LeafIsPredictive, AroundIsPredictive, IsPredictiveAt}
use Rattle.pg_derive.proofs.ExpressionsFit.{expression_fits}
use Rattle.pg_derive.proofs.FormsFit.{choice_fits, many_fits, links_fit}
use Rattle.pg_derive.proofs.LeastSets.{first_is, first_covers, follow_is, follow_covers}
use Rattle.pg_derive.proofs.LeavesFit.{satisfy_meets, string_fits, word_meets, declare_meets, item_there, string_try, key_try}
use Rattle.pg_predict_costs.proofs.Levels.{rule_falls}
use Rattle.pg_derive.proofs.KeyTriesDecided.{key_try_decided}
use Rattle.pg_derive.proofs.PartsFit.{are_parts, in_falls, part_fits, seq_fits}
use Rattle.pg_derive.proofs.Quiet.{found}
use Rattle.pg_derive.proofs.Whole.{is_whole, start_found}

module _ (g : Grammar) (sets : Sets) (are : AreSets g sets) (grammar : IsGrammar g) (faultless : IsFaultless g) where
  none_on_cycle : (r : ℕ) → Chain g r r → ⊥
  none_on_cycle = acyclic g faultless

  try_part : (p q : ℕ) → slice_get g.nodes p ≡ Some (form.Around kind.Try q) → (IsKeyTry g (form.Around kind.Try q) → ⊥) → TryIsPredictive g (node_sets g sets) p q
  try_part p q e no_key =
      of_part (part_fits g sets are none_on_cycle p q (form.Around kind.Try q) e (are_parts g grammar p (form.Around kind.Try q) e).0 no_key reached.around (λ n. null.around n) (λ s h. follow.only e follow.around h))

  try_falls : (p q : ℕ) → slice_get g.nodes p ≡ Some (form.Around kind.Try q) → (node_sets g sets).level q < (node_sets g sets).level p
  try_falls p q e = in_falls g sets are none_on_cycle p q (form.Around kind.Try q) e (are_parts g grammar p (form.Around kind.Try q) e).0 reached.around

  key_fits : (p q : ℕ) → slice_get g.nodes p ≡ Some (form.Around kind.Try q) → IsKeyTry g (form.Around kind.Try q) → TryIsPredictive g (node_sets g sets) p q
  key_fits p q e (own.string {characters = s} f) = string_try g grammar sets are p q s e f (try_falls p q e)
  key_fits p q e (own.keyed {characters = s} {excluded = class} k) = key_try g grammar sets are p q s class e k (try_falls p q e)

  try_fits : (p q : ℕ) → slice_get g.nodes p ≡ Some (form.Around kind.Try q) → TryIsPredictive g (node_sets g sets) p q
  try_fits p q e =
      let part = (are_parts g grammar p (form.Around kind.Try q) e).0 in
      let there = found g.nodes q part.inside in
      elim (key_try_decided g q there.0 there.1) [ inl is ↦ key_fits p q e is | inr not ↦ try_part p q e not ]

  body_inside : (p r : ℕ) → slice_get g.nodes p ≡ Some (form.Rule r) → (named : declared.Rule) → slice_get g.rules r ≡ Some named → named.body < length g.nodes
  body_inside p r e named at =
      let is = (is_whole g grammar).rules p r e in
      subst (λ (rule : declared.Rule). rule.body < length g.nodes) (same_Some is.0 named (sym is.1 ∙ at)) is.2

  rule_fits : (p r : ℕ) → slice_get g.nodes p ≡ Some (form.Rule r) → RuleIsPredictive g (node_sets g sets) p r
  rule_fits p r e = record { body = λ named at. fits named at (body_inside p r e named at) }
    where
      fits : (named : declared.Rule) → slice_get g.rules r ≡ Some named → named.body < length g.nodes → PartIsPredictive (node_sets g sets) p named.body
      fits named at inside =
          let below = slice_get_within g.nodes p (form.Rule r) e in
          record {
            empty = λ h. (are.nullable p).1 (null.at_node e (null.rule at ((are.nullable named.body).0 h)));
            first = λ s h. first_covers g sets are p below s (of.rule e at (first_is g sets are named.body inside s h));
            follow = λ s h. follow_covers g sets are named.body inside s (follow.used e at (follow_is g sets are p below s h));
            falls = rule_falls g sets are none_on_cycle p r named e at;
          }

  leaf_fits : (p : ℕ) (l : Leaf ℕ) → slice_get g.nodes p ≡ Some (form.Leaf l) → LeafIsPredictive g (node_sets g sets) p l
  leaf_fits p (leaf.Satisfy class) e = satisfy_meets g grammar sets are p class e
  leaf_fits p (leaf.String s) e = string_fits g grammar sets are p s e
  leaf_fits p (leaf.Word w) e = word_meets g grammar sets are p w e
  leaf_fits p (leaf.NotFollowedBy class) e = (are.nullable p).1 (null.at_node e null.not_followed_by)
  leaf_fits p leaf.EndOfText e = (are.nullable p).1 (null.at_node e null.end_of_text)
  leaf_fits p (leaf.Declare class) e =
      let item = item_there g p class grammar e in record { item = item.0; named = item.1; first = declare_meets g grammar sets are p class e }

  around_part : (p q : ℕ) (k : Around) → slice_get g.nodes p ≡ Some (form.Around k q) → (IsKeyTry g (form.Around k q) → ⊥) → PartIsPredictive (node_sets g sets) p q
  around_part p q k e no_key =
      part_fits g sets are none_on_cycle p q (form.Around k q) e (are_parts g grammar p (form.Around k q) e).0 no_key reached.around (λ n. null.around n) (λ s h. follow.only e follow.around h)

  around_fits : (p q : ℕ) (k : Around) → slice_get g.nodes p ≡ Some (form.Around k q) → AroundIsPredictive g (node_sets g sets) p k q
  around_fits p q kind.Try e = try_fits p q e
  around_fits p q k e = around_part p q k e (λ h. elim h [ ])

  fits : (p : ℕ) (n : Node) → slice_get g.nodes p ≡ Some n → IsPredictiveAt g (node_sets g sets) p n
  fits p (form.Leaf l) e = leaf_fits p l e
  fits p (form.Seq parts) e = seq_fits g sets are none_on_cycle grammar p parts e
  fits p (form.Choice parts) e = choice_fits g sets are none_on_cycle grammar faultless p parts e
  fits p (form.Many q) e = many_fits g sets are none_on_cycle grammar faultless p q e
  fits p (form.Chain side used q r) e = links_fit g sets are none_on_cycle grammar faultless p side used q r e
  fits p (form.Rule r) e = rule_fits p r e
  fits p (form.Expression builders q) e = expression_fits g sets are none_on_cycle grammar faultless p q builders e
  fits p (form.Around k q) e = around_fits p q k e

  -- the end of the text follows the start rule
  end_follows : (start : declared.Rule) → slice_get g.rules g.start ≡ Some start → Covers ((node_sets g sets).follow start.body) End
  end_follows start e =
      let known = start_found g grammar in
      let inside = subst (λ (rule : declared.Rule). rule.body < length g.nodes) (same_Some known.0 start (sym known.1 ∙ e)) known.2 in
      follow_covers g sets are start.body inside End (follow.at_end e)

pub accepted : AcceptedGrammarsArePredictive
accepted g sets grammar are faultless = record { nodes = fits g sets are grammar faultless; end = end_follows g sets are grammar faultless }
