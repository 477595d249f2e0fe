use Rattle.std.proofs.Common.{ℕ, ◌≡◌, ◌+◌, ◌<◌, [], ◌∷◌, List, length, map, drop, ap, sym, subst, ◌∙◌, arith}
use Rattle.std.proofs.lemmas.List.{drop_more, length-drop}
use Rattle.pg_grammar_value.specs.Grammar.{rule_name}
use Rattle.pg_grammar_value.specs.declared.grammar.Rule.{Rule}
use Rattle.pg_grammar_form.specs.Forms.{Node}
use Rattle.pg_file_tokens.specs.declared.token.Mark.TheVariants.{Semicolon, Equals}
use Rattle.pg_file_tokens.specs.Tokens.{Token, name, mark}
use Rattle.pg_file_items.specs.Tree.{Value, Rule_item}
use Rattle.pg_file_items.specs.Syntax.{written, file_written, item_written}
use Rattle.pg_file_print.specs.Canonical.{value_at, rule_items}
use Rattle.pg_file_print.specs.Layout.{with_token, with_tokens}
use Rattle.pg_file_print.specs.Levels.{node_values, AreBodies}
use Rattle.pg_file_print.proofs.PrinterLemmas.Writing.{token_step, value_step, item_step}
use Rattle.pg_file_print.proofs.PrinterLemmas.Grammars.{grammar_bodies, first_value}
use Rattle.pg_file_print.proofs.items.put_rules.Goals as goal

pub loop-rule-init : goal.loop-rule-init
loop-rule-init c =
    let g = c.args.grammar.now in
    let has = grammar_bodies g c.nodes-rest.ensures.grammar in
    let nodes = c.nodes-rest.ensures.all in
    let rules = c.rules-rules.ensures.all in
    record {
      bodies = subst (AreBodies g) (sym nodes) has.bodies;
      count = ap (λ (ns : List Node). length (node_values g ns)) nodes ∙ has.count ∙ ap (λ (rs : List Rule). length rs) (sym rules);
      text =
          ap (λ (ns : List Node). with_tokens c.args.out.now (file_written (rule_items (map rule_name c.rules-rules.result.now) (node_values g ns)))) nodes
          ∙ ap (λ (rs : List Rule). with_tokens c.args.out.now (file_written (rule_items (map rule_name rs) (node_values g g.nodes)))) rules;
    }

pub put_body-requires : goal.put_body-requires
put_body-requires c =
    let dropped = length-drop c.loop-rule.rule-index c.rules-rules.result.now in
    record {
      bodies = c.loop-rule.invariant.bodies;
      some = omega (arith, c.loop-rule.invariant.count, dropped, c.loop-rule-test.true);
    }

pub loop-rule-preserved : goal.loop-rule-preserved
loop-rule-preserved c =
    let g = c.args.grammar.now in
    let rules = c.rules-rules.result.now in
    let rule = c.rule-item.result in
    let out = c.loop-rule.out in
    let others = drop (c.loop-rule.rule-index + 1) rules in
    let front : drop c.loop-rule.rule-index rules ≡ rule ∷ others =
    drop_more rules c.loop-rule.rule-index rule c.loop-rule-test.true ∙ ap (λ (r : Rule). r ∷ others) (sym c.rule-item.is) in
    let before = c.loop-rule.invariant in
    let values = node_values g c.loop-rule.rest.now in
    let count : length values ≡ length (rule ∷ others) = before.count ∙ ap (λ (rs : List Rule). length rs) front in
    let some : 0 < length values = omega (arith, count) in
    let v : Value = value_at 0 values in
    let after = c.in_ok-rest.ensures in
    let dropped = length-drop 1 values in
    let end : List Token = mark Semicolon ∷ [] in
    let body : List Token = written v end in
    let item : c.put_mark-in-loop-rule.new.self ≡ with_tokens out (item_written (Rule_item rule.name v) []) =
    c.in_ok-put_mark-2.ensures
    ∙ value_step c.put_mark.new.self c.put_body.new.out v end after.text
    ∙ token_step c.put_name.new.self c.put_mark.new.self (mark Equals) body c.in_ok-put_mark.ensures
    ∙ token_step out c.put_name.new.self (name rule.name) (mark Equals ∷ body) (c.in_ok-put_name.ensures ∙ ap (λ (s : List ℕ). with_token out (name s)) c.as_slice.ensures) in
    record {
      bodies = after.bodies;
      count = ap (λ (vs : List Value). length vs) after.rest ∙ omega (arith, count, dropped);
      text =
          ap (λ (vs : List Value). with_tokens c.put_mark-in-loop-rule.new.self (file_written (rule_items (map rule_name others) vs))) after.rest
          ∙ item_step out c.put_mark-in-loop-rule.new.self (Rule_item rule.name v) (rule_items (map rule_name others) (drop 1 values)) item
          ∙ ap (λ (vs : List Value). with_tokens out (file_written (rule_items (map rule_name (rule ∷ others)) vs))) (sym (first_value values some))
          ∙ ap (λ (rs : List Rule). with_tokens out (file_written (rule_items (map rule_name rs) values))) (sym front)
          ∙ before.text;
    }
