use Rattle.std.proofs.Common.{◌≡◌, ◌<◌, ◌⊎◌, Some, slice_get, get_or, length, refl, ap, subst, ◌∙◌}
use Rattle.std.specs.Prelude.{◌↔◌}
use Rattle.std.proofs.lemmas.Option.{slice_get_read}
use Rattle.pg_grammar_value.specs.Grammar.{rule_body}
use Rattle.pg_sets.specs.Flows.{follow_of}
use Rattle.pg_sets.specs.Origins.{HoldsIt, IsThere}
use Rattle.pg_sets_own.specs.declared.listed.ListedStart.{ListedStart}
use Rattle.pg_sets.proofs.OriginRounds.{with_end}
use Rattle.pg_sets.proofs.origins.add_end.Goals as goal

pub returns-in_ok-add_origin : goal.returns-in_ok-add_origin
returns-in_ok-add_origin c =
    let g = c.args.grammar.now in
    let rule = c.in-Some.rule.now in
    let number = c.index.result in
    let rules_are = c.rules.ensures.all in
    let counted = ap length rules_are in
    let start : number ≡ g.start = c.index.ensures ∙ c.start_rule.ensures.start in
    let bound = c.start_rule.ensures.rule in
    let same = c.start_rule.ensures.start in
    let inside : g.start < length g.rules = subst (λ n. n < length g.rules) same bound in
    let at : slice_get g.rules g.start ≡ Some rule =
    slice_get_read g.rules (length g.rules) g.start rule refl inside (c.in-Some.ensures.lookup.1 ∙ (ap (λ rs. get_or rs number rule) rules_are ∙ ap (λ n. get_or g.rules n rule) start)) in
    let set : c.follow_of-set.result ≡ follow_of (length g.nodes) (rule_body rule) =
    c.follow_of-set.ensures ∙ (ap (λ ns. follow_of (length ns) c.index-in-Some.result) c.nodes-count.ensures.all ∙ ap (follow_of (length g.nodes)) c.index-in-Some.ensures) in
    let before = c.args.origins.now in
    let after = c.add_origin.new.origins in
    let end = c.end-start.ensures in
    with_end g rule at c.follow_of-set.result set before after c.requires
    (λ other v. subst (λ s. HoldsIt after other v ↔ (HoldsIt before other v ⊎ ((◌≡◌ {A = ListedStart} (record { start = s; word = 0 }) other) × (c.follow_of-set.result ≡ v)))) end (c.in_ok-add_origin.ensures.held other v))
    (λ other. subst (λ s. IsThere after other → IsThere before other ⊎ (◌≡◌ {A = ListedStart} (record { start = s; word = 0 }) other)) end (c.in_ok-add_origin.ensures.there other))
