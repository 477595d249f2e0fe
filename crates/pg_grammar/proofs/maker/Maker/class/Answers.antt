use Rattle.std.proofs.Common.{◌≡◌, ◌++◌, ◌∷◌, [], None, rules, subst, sym}
use Rattle.pg_grammar.specs.Made.{class_fault}
use Rattle.pg_grammar.proofs.Making.{made_with_class}
use Rattle.pg_grammar.proofs.maker.Maker.class.Goals as goal

pub invariant_of-self-2 : goal.invariant_of-self-2
invariant_of-self-2 c =
    let items : c.push.new.self.items ≡ c.self.inside.classes.items ++ record { name = c.args.name; class = c.args.class } ∷ [] = c.in_ok-push.ensures.items in
    let none : class_fault c.args.self.now c.args.name c.args.class ≡ None = search rules in
    rw items (made_with_class _ c.args.name c.args.class c.self.invariant (subst (λ m. class_fault m c.args.name c.args.class ≡ None) (sym c.self.view_is) none))
