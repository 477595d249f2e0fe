use Rattle.std.proofs.Common.{rules, ◌≡◌, ◌≤◌, true, true≢false, subst, sym, ◌∙◌}
use Rattle.std.specs.Prelude.{◌↔◌, IsTrue}
use Rattle.pg_predict_costs.specs.Steps.{number_at}
use Rattle.pg_graph.specs.Marks.{is_marked}
use Rattle.pg_certificate_verify.specs.Claimed.{claimed_nullable, claimed_rank, claimed_cost}
use Rattle.pg_certificate_verify.specs.Closed.{IsFirstClosed, IsFollowClosed}
use Rattle.pg_certificate_verify.specs.Judged.{said_by}
use Rattle.pg_certificate_verify.proofs.Judging.{follow_fails, rank_fails, cost_fails, none_fails}
use Rattle.pg_certificate_verify.proofs.verdict.first_failing.Goals as goal

pub returns-then-not-is_follow_closed : goal.returns-then-not-is_follow_closed
returns-then-not-is_follow_closed c =
    let facts = c.args.facts.now in
    let nullable : is_marked facts.nullable.items c.args.rule.now.body ≡ true → claimed_nullable c.args.claims.now c.args.number ≡ true = search rules in
    let first : IsFirstClosed c.args.grammar.now c.args.claims.now facts.nullable.items c.args.number c.args.rule.now = search rules in
    let follow_is : IsTrue c.is_follow_closed.result ↔ IsFollowClosed c.args.grammar.now c.args.claims.now facts.nullable.items c.args.number =
    subst (λ xs. IsTrue c.is_follow_closed.result ↔ IsFollowClosed c.args.grammar.now c.args.claims.now xs c.args.number) c.deref-3.ensures.value c.is_follow_closed.ensures in
    follow_fails c.args.grammar.now c.args.claims.now (said_by facts) c.args.number c.args.rule.now nullable first
    (λ closed. true≢false (sym (follow_is.1 closed) ∙ c.if-not-is_follow_closed.true))

pub returns-then-not-holds_rank : goal.returns-then-not-holds_rank
returns-then-not-holds_rank c =
    let facts = c.args.facts.now in
    let nullable : is_marked facts.nullable.items c.args.rule.now.body ≡ true → claimed_nullable c.args.claims.now c.args.number ≡ true = search rules in
    let first : IsFirstClosed c.args.grammar.now c.args.claims.now facts.nullable.items c.args.number c.args.rule.now = search rules in
    let follow_is : IsTrue c.is_follow_closed.result ↔ IsFollowClosed c.args.grammar.now c.args.claims.now facts.nullable.items c.args.number =
    subst (λ xs. IsTrue c.is_follow_closed.result ↔ IsFollowClosed c.args.grammar.now c.args.claims.now xs c.args.number) c.deref-3.ensures.value c.is_follow_closed.ensures in
    let follow = follow_is.0 c.if-not-is_follow_closed.false in
    let low : number_at facts.ranks.items c.args.rule.now.body ≤ claimed_rank c.args.claims.now c.args.number → ⊥ = search rules in
    rank_fails c.args.grammar.now c.args.claims.now (said_by facts) c.args.number c.args.rule.now nullable first follow low

pub returns-then-not-holds_cost : goal.returns-then-not-holds_cost
returns-then-not-holds_cost c =
    let facts = c.args.facts.now in
    let nullable : is_marked facts.nullable.items c.args.rule.now.body ≡ true → claimed_nullable c.args.claims.now c.args.number ≡ true = search rules in
    let first : IsFirstClosed c.args.grammar.now c.args.claims.now facts.nullable.items c.args.number c.args.rule.now = search rules in
    let follow_is : IsTrue c.is_follow_closed.result ↔ IsFollowClosed c.args.grammar.now c.args.claims.now facts.nullable.items c.args.number =
    subst (λ xs. IsTrue c.is_follow_closed.result ↔ IsFollowClosed c.args.grammar.now c.args.claims.now xs c.args.number) c.deref-3.ensures.value c.is_follow_closed.ensures in
    let follow = follow_is.0 c.if-not-is_follow_closed.false in
    let rank : number_at facts.ranks.items c.args.rule.now.body ≤ claimed_rank c.args.claims.now c.args.number = search rules in
    let low : number_at facts.costs.items c.args.rule.now.body ≤ claimed_cost c.args.claims.now c.args.number → ⊥ = search rules in
    cost_fails c.args.grammar.now c.args.claims.now (said_by facts) c.args.number c.args.rule.now nullable first follow rank low

pub returns : goal.returns
returns c =
    let facts = c.args.facts.now in
    let nullable : is_marked facts.nullable.items c.args.rule.now.body ≡ true → claimed_nullable c.args.claims.now c.args.number ≡ true = search rules in
    let first : IsFirstClosed c.args.grammar.now c.args.claims.now facts.nullable.items c.args.number c.args.rule.now = search rules in
    let follow_is : IsTrue c.is_follow_closed.result ↔ IsFollowClosed c.args.grammar.now c.args.claims.now facts.nullable.items c.args.number =
    subst (λ xs. IsTrue c.is_follow_closed.result ↔ IsFollowClosed c.args.grammar.now c.args.claims.now xs c.args.number) c.deref-3.ensures.value c.is_follow_closed.ensures in
    let follow = follow_is.0 c.if-not-is_follow_closed.false in
    let rank : number_at facts.ranks.items c.args.rule.now.body ≤ claimed_rank c.args.claims.now c.args.number = search rules in
    let cost : number_at facts.costs.items c.args.rule.now.body ≤ claimed_cost c.args.claims.now c.args.number = search rules in
    none_fails c.args.grammar.now c.args.claims.now (said_by facts) c.args.number c.args.rule.now nullable first follow rank cost
