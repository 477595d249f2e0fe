use Rattle.std.proofs.Common.{◌∙◌, string_bytes, rules, ap}
use Rattle.std.proofs.lemmas.List.{get_or_default}
use Rattle.pg_pred_program.specs.Kinds.{all_kinds}
use Rattle.pg_pred_program.proofs.Offered.{kinds_more}
use Rattle.pg_pred_program.proofs.registry.with_registry.Goals as goal

pub loop-kind-preserved : goal.loop-kind-preserved
loop-kind-preserved g c =
    let made = c.new-in-loop-kind in
    let named = ap string_bytes made.ensures.name ∙ c.in_ok-name.ensures.ok ∙ c.name.ensures in
    kinds_more all_kinds c.loop-kind.predicates.items _ (λ p. string_bytes p.name) (λ p. p.class) c.loop-kind.kind-index _ made.result
    c.loop-kind-test.true (search (rules, get_or_default)) c.in_ok-push.ensures.items named (rw made.ensures.class c.in_ok-class.ensures) c.loop-kind.invariant
