use Rattle.std.proofs.Common.{◌≡◌, length, get_or, ap, subst}
use Rattle.pg_grammar_value.specs.Grammar.{Grammar, IsGrammar, rule_names, word_names}
use Rattle.pg_grammar_form.specs.Forms.{form_of, has_bad_literal, has_unknown_class, lacks_alternative, InPreorder}
use Rattle.pg_grammar_form.proofs.Each.{get-known, none-get}
use Rattle.pg_grammar_value.proofs.Numbers.{parts_are_after}
use Rattle.pg_grammar_value.proofs.grammar.Grammar.node.Goals as goal

pub returns-clause-parts : goal.returns-clause-parts
returns-clause-parts c =
    let nodes : c.self.inside.nodes.items ≡ c.args.self.now.nodes = ap (λ (g : Grammar). g.nodes) c.self.view_is in
    let preorder = subst (InPreorder 0) nodes c.self.invariant.0.preorder in
    let is : c.index-2.result.now ≡ get_or c.args.self.now.nodes c.args.id c.index-2.result.now = rw (nodes, c.index.ensures) at c.index-2.ensures in
    parts_are_after _ _ _ preorder (get-known _ _ _ c.requires is)

pub returns-clause-proper : goal.returns-clause-proper
returns-clause-proper c =
    let nodes : c.self.inside.nodes.items ≡ c.args.self.now.nodes = ap (λ (g : Grammar). g.nodes) c.self.view_is in
    let grammar = subst IsGrammar c.self.view_is c.self.invariant.0 in
    let is : c.index-2.result.now ≡ get_or c.args.self.now.nodes c.args.id c.index-2.result.now = rw (nodes, c.index.ensures) at c.index-2.ensures in
    none-get has_bad_literal (form_of (rule_names c.args.self.now) (word_names c.args.self.now)) c.args.self.now.nodes c.args.id _ grammar.literals (get-known _ _ _ c.requires is)

pub returns-clause-class : goal.returns-clause-class
returns-clause-class c =
    let nodes : c.self.inside.nodes.items ≡ c.args.self.now.nodes = ap (λ (g : Grammar). g.nodes) c.self.view_is in
    let grammar = subst IsGrammar c.self.view_is c.self.invariant.0 in
    let is : c.index-2.result.now ≡ get_or c.args.self.now.nodes c.args.id c.index-2.result.now = rw (nodes, c.index.ensures) at c.index-2.ensures in
    none-get (has_unknown_class (length c.args.self.now.classes)) (form_of (rule_names c.args.self.now) (word_names c.args.self.now)) c.args.self.now.nodes c.args.id _ grammar.classes_named (get-known _ _ _ c.requires is)

pub returns-clause-alternative : goal.returns-clause-alternative
returns-clause-alternative c =
    let nodes : c.self.inside.nodes.items ≡ c.args.self.now.nodes = ap (λ (g : Grammar). g.nodes) c.self.view_is in
    let grammar = subst IsGrammar c.self.view_is c.self.invariant.0 in
    let is : c.index-2.result.now ≡ get_or c.args.self.now.nodes c.args.id c.index-2.result.now = rw (nodes, c.index.ensures) at c.index-2.ensures in
    none-get lacks_alternative (form_of (rule_names c.args.self.now) (word_names c.args.self.now)) c.args.self.now.nodes c.args.id _ grammar.alternatives (get-known _ _ _ c.requires is)
