use Rattle.std.proofs.Common.{◌≡◌, true, sym, subst, ◌∙◌}
use Rattle.std.specs.Prelude.{◌↔◌, IsTrue}
use Rattle.pg_grammar_form.specs.Contents.{is_declaration}
use Rattle.pg_graph_bits.specs.Numbers.{set_at}
use Rattle.pg_predict_conditions.specs.Conditions.{BeginsNothing}
use Rattle.pg_sets.specs.Sets.{HasStart}
use Rattle.pg_certificate_verify.specs.Breaking.{GapMeetsSome, GapBreaks}
use Rattle.pg_certificate_verify.proofs.operator_pairs.gap_breaks.Goals as goal

pub returns-in-Expression : goal.returns-in-Expression
returns-in-Expression c = λ g formed are.
    let starts = c.args.sets.now.starts in
    let r = c.gap_meets.result in
    subst (λ f. IsTrue r ↔ GapBreaks g c.args.sets.now c.args.node f) (sym c.in-Expression.is)
    (subst (λ one. IsTrue r ↔ GapMeetsSome g (HasStart starts one) (HasStart starts (set_at c.args.sets.now.follows c.args.node))) c.first.ensures
    (subst (λ one. IsTrue r ↔ GapMeetsSome g (HasStart starts c.first.result.now) (HasStart starts one)) c.follow.ensures (c.gap_meets.ensures g formed are)))

pub returns-then-is_declaration : goal.returns-then-is_declaration
returns-then-is_declaration c = λ g formed are.
    let starts = c.args.sets.now.starts in
    let r = c.gap_meets_follow.result in
    let told = subst (λ one. IsTrue r ↔ GapMeetsSome g BeginsNothing (HasStart starts one)) c.follow-then-is_declaration.ensures (c.gap_meets_follow.ensures g formed are) in
    let declares : is_declaration c.in-Leaf.leaf ≡ true = sym c.is_declaration.ensures ∙ c.if-is_declaration.true in
    subst (λ f. IsTrue r ↔ GapBreaks g c.args.sets.now c.args.node f) (sym c.in-Leaf.is) (λ is. (declares, told.0 is), λ breaks. told.1 breaks.1)
