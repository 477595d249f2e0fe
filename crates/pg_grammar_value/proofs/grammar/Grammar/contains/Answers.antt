use Rattle.std.proofs.Common.{◌≡◌, Some, None, rules, subst, ◌∙◌}
use Rattle.std.specs.Char.{IsScalar}
use Rattle.pg_grammar_classes.specs.Contents.{set_at}
use Rattle.pg_grammar_value.specs.Sites.{AreGrammarSets}
use Rattle.pg_grammar_value.proofs.Sites.{asked_of_set, asked_of_none}
use Rattle.pg_grammar_value.proofs.grammar.Grammar.contains.Goals as goal

pub returns-in-Some : goal.returns-in-Some
returns-in-Some c =
    let sets : AreGrammarSets c.args.self.now c.self.inside.sets = subst (λ g. AreGrammarSets g c.self.inside.sets) c.self.view_is c.self.invariant.1 in
    let at : set_at c.self.inside.sets c.args.site ≡ Some c.in-Some.set.now = search rules in
    let scalar : IsScalar c.args.c = search rules in
    c.has.ensures ∙ asked_of_set c.args.self.now c.self.inside.sets c.args.site c.in-Some.set.now c.args.c sets at scalar

pub returns-in-None : goal.returns-in-None
returns-in-None c =
    let sets : AreGrammarSets c.args.self.now c.self.inside.sets = subst (λ g. AreGrammarSets g c.self.inside.sets) c.self.view_is c.self.invariant.1 in
    let at : set_at c.self.inside.sets c.args.site ≡ None = search rules in
    asked_of_none c.args.self.now c.self.inside.sets c.args.site c.args.c sets at
