use Rattle.std.proofs.Common.{◌||◌, ◌<◌, [], length, get_or, ap, ◌∙◌, arith}
use Rattle.std.proofs.lemmas.List.{get_or_default}
use Rattle.pg_graph_bits.specs.Numbers.{contains, set_at}
use Rattle.pg_graph_bits.proofs.Halves.{front_read, front_others, front_is, back_read, back_others}
use Rattle.pg_graph_bits.proofs.several.unite_within.Goals as goal

pub returns-then-to-from-clause-others : goal.returns-then-to-from-clause-others
returns-then-to-from-clause-others c =
    front_others c.args.sets.now c.split_at_mut-front.result.0.now c.split_at_mut-front.result.1.now c.args.to c.unite.new.self c.split_at_mut-front.ensures.value (omega arith)

pub returns-then-to-from-clause-united : goal.returns-then-to-from-clause-united
returns-then-to-from-clause-united c = λ n.
    let sets = c.args.sets.now in
    let front = c.split_at_mut-front.result.0.now in
    let back = c.split_at_mut-front.result.1.now in
    let whole = c.split_at_mut-front.ensures.value in
    let inside : c.args.to < length front = omega arith in
    let some : 0 < length back = omega arith in
    let to = get_or_default front c.args.to c.index-front-to.result [] inside ∙ front_read sets front back c.args.to c.unite.new.self whole inside in
    let from = get_or_default back 0 c.index-back-0.result [] some ∙ back_read sets front c.args.from c.unite.new.self c.split_at_mut-front.ensures.front_len back whole some in
    ap (λ set. contains set n) (front_is sets front back c.args.to c.unite.new.self whole inside)
    ∙ (c.unite.ensures.united n ∙ (ap (λ set. contains set n || contains (get_or back 0 c.index-back-0.result) n) to ∙ ap (λ set. contains (set_at sets c.args.to) n || contains set n) from))

pub returns-then-from-to-clause-others : goal.returns-then-from-to-clause-others
returns-then-from-to-clause-others c =
    back_others c.args.sets.now c.split_at_mut-front-then-from-to.result.0.now c.args.to c.unite-then-from-to.new.self c.split_at_mut-front-then-from-to.ensures.front_len
    c.split_at_mut-front-then-from-to.result.1.now c.split_at_mut-front-then-from-to.ensures.value (omega arith)
