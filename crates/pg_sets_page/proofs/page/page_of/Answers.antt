use Rattle.std.proofs.Common.{◌∙◌, ◌<◌, ◌++◌, ℕ, List, ap, ap₂, length, map, string_bytes, subst, arith, append_assoc}
use Rattle.pg_grammar_value.specs.declared.grammar.Rule.{Rule}
use Rattle.pg_predict.specs.Findings.{body_of}
use Rattle.pg_sets_page.specs.SetsPage.{end_of, node_lines, rule_line, rule_text}
use Rattle.pg_sets_page.proofs.Ranges.{range_pushed}
use Rattle.pg_sets_page.proofs.page.page_of.Goals as goal

pub loop-rule-preserved : goal.loop-rule-preserved
loop-rule-preserved c =
    let g = c.args.content.now.grammar.now in
    let names = map string_bytes c.args.content.now.names.now in
    let starts = map string_bytes c.args.content.now.starts.now in
    let sets = c.args.content.now.sets.now in
    let rule = c.loop-rule.rule in
    let page = c.loop-rule.page.items in
    let low : rule < length g.rules = subst (λ (rules : List Rule). rule < length rules) c.rules-rule-end.ensures.all c.loop-rule-test.true in
    let line = c.in_ok-push_rule_line.ensures ∙ ap (λ (n : ℕ). page ++ rule_line names sets n) c.new.ensures in
    let body = c.body_of-body.ensures ∙ ap (λ (rules : List Rule). body_of rules rule) c.rules.ensures.all in
    let lines = c.in_ok-push_node_lines.ensures
    ∙ ap₂ (λ (b e : ℕ). c.push_rule_line.new.page.items ++ node_lines g starts sets b e) body c.end_of-end.ensures in
    let nodes = node_lines g starts sets (body_of g.rules rule) (end_of g rule) in
    let after = ap (λ (p : List ℕ). p ++ nodes) line in (
      omega arith,
      range_pushed (rule_text g names starts sets) page c.push_node_lines.new.page.items _ rule (length g.rules) low
          (lines ∙ after ∙ append_assoc page (rule_line names sets rule) nodes) c.loop-rule.invariant.1,
    )
