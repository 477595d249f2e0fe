use Rattle.std.proofs.Common.{◌≡◌, ◌⊎◌, inl, inr, length, sym, ap, subst, ◌∙◌}
use Rattle.std.specs.Prelude.{◌↔◌}
use Rattle.pg_grammar_form.specs.declared.form.Form.TheVariants as form
use Rattle.pg_sets.specs.Flows.{follow_of}
use Rattle.pg_sets.specs.Origins.{HoldsIt, SourceAt}
use Rattle.pg_sets_own.specs.Listed.{IsListed}
use Rattle.pg_sets_own.specs.Own.{IsAmong, AreOwn}
use Rattle.pg_sets.proofs.Origin.{IsPart, part_held, expression_held}
use Rattle.pg_sets.proofs.origins.add_node.Goals as goal

pub returns-in_ok-add_own-2-clause-held : goal.returns-in_ok-add_own-2-clause-held
returns-in_ok-add_own-2-clause-held c =
    let g = c.args.basis.now.grammar.now in
    let before = c.args.origins.now in
    let between = c.add_own.new.origins in
    let after = c.add_own-in-Expression.new.origins in
    let operators = c.in_ok-operators.operators.items in
    let builders = c.in-Expression.field-0 in
    let term = c.in-Expression.term in
    let node : c.args.node.now ≡ form.Expression builders term = c.in-Expression.is in
    let number : c.follow_of-set.result ≡ follow_of (length g.nodes) term = c.follow_of-set.ensures ∙ (ap (λ ns. follow_of (length ns) c.index.result) c.nodes.ensures.all ∙ ap (follow_of (length g.nodes)) c.index.ensures) in
    λ other v. subst (λ n. HoldsIt after other v ↔ (HoldsIt before other v ⊎ (SourceAt g c.args.number n other.start v × IsListed g other))) (sym node)
    (expression_held g c.args.number builders term c.in_ok-own.own.items operators (subst (λ n. AreOwn g n c.in_ok-own.own.items) node c.in_ok-own.ensures)
    (subst (λ n. AreOwn g n operators) node c.in_ok-operators.ensures) before between after c.in_ok-add_own.ensures.held
    (λ one w. subst (λ set. HoldsIt after one w ↔ (HoldsIt between one w ⊎ (IsAmong operators one × (set ≡ w)))) number (c.in_ok-add_own-2.ensures.held one w)) other v)

pub returns-in_default : goal.returns-in_default
returns-in_default c =
    let g = c.args.basis.now.grammar.now in
    let n = c.args.node.now in
    let are = c.in_ok-own.ensures in
    let part : IsPart n = c.in_default.not-Expression in
    record {
      held = part_held g c.args.number n c.in_ok-own.own.items are c.args.origins.now c.add_own.new.origins c.in_ok-add_own.ensures.held part;
      there = λ other is. elim (c.in_ok-add_own.ensures.there other is) [ inl old ↦ inl old | inr new ↦ inr ((are.members other).0 new).named ];
      plain = are.there;
    }
