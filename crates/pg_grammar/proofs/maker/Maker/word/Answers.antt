use Rattle.std.proofs.Common.{◌≡◌, ◌++◌, ◌∷◌, [], None, rules, subst, sym}
use Rattle.pg_grammar.specs.Made.{word_fault}
use Rattle.pg_grammar_form.specs.declared.word_item.WordItem.{WordItem}
use Rattle.pg_grammar.proofs.Making.{made_with_word}
use Rattle.pg_grammar.proofs.maker.Maker.word.Goals as goal

pub invariant_of-self-2 : goal.invariant_of-self-2
invariant_of-self-2 c =
    let item : WordItem = record { name = c.args.name; head = c.args.head; rest = c.args.rest; reserved = c.args.reserved } in
    let items : c.push.new.self.items ≡ c.self.inside.words.items ++ item ∷ [] = c.in_ok-push.ensures.items in
    let none : word_fault c.args.self.now item ≡ None = search rules in
    rw items (made_with_word _ item c.self.invariant (subst (λ m. word_fault m item ≡ None) (sym c.self.view_is) none))
