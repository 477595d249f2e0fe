use Rattle.std.proofs.Common.{◌≡◌, ◌++◌, ◌∷◌, [], None, false, rules, subst, sym}
use Rattle.std.specs.List.{list_any}
use Rattle.pg_grammar_value.specs.Grammar.{is_misspelled}
use Rattle.pg_grammar.specs.Made.{rule_fault}
use Rattle.pg_grammar.proofs.Making.{made_with_rule}
use Rattle.pg_grammar.proofs.maker.Maker.rule.Goals as goal

pub invariant_of-self-else-is_err : goal.invariant_of-self-else-is_err
invariant_of-self-else-is_err c =
    let names : c.push.new.self.items ≡ c.self.inside.names.items ++ c.args.name ∷ [] = c.in_ok-push.ensures.items in
    let forms : c.append.new.self.items ≡ c.self.inside.forms.items ++ c.args.body.items = search rules in
    let none : rule_fault c.args.self.now c.args.name c.args.body.items ≡ None = search rules in
    let spelled : list_any is_misspelled c.args.body.items ≡ false = search rules in
    rw (names, forms) (made_with_rule _ c.args.name c.args.body.items c.self.invariant c.requires spelled (subst (λ m. rule_fault m c.args.name c.args.body.items ≡ None) (sym c.self.view_is) none))
