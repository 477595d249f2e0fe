use Rattle.std.proofs.Common.{◌≡◌, ◌<◌, ◌-◌, ◌∷◌, ℕ, List, [], length, arith, sym, subst}
use Rattle.std.specs.Prelude.{IfSome}
use Rattle.json.specs.Print.{escape}
use Rattle.pg_tree_placed.proofs.Plain.{one_between}
use Rattle.pg_tree_placed.proofs.source.Source.plain_leaf.Goals as goal

pub returns : goal.returns
returns c =
    let text = c.args.self.now.text.now in
    let one : c.args.to - c.args.from ≡ 1 = omega arith in
    let within : c.args.from < length text = omega arith in
    subst (λ (bytes : List ℕ). IfSome c.plain_byte.result (λ (byte : ℕ). escape bytes ≡ byte ∷ [])) (sym (one_between text c.args.from c.args.to one within))
    c.plain_byte.ensures
