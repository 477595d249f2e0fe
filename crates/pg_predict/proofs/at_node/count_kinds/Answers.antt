use Rattle.std.proofs.Common.{◌≡◌, ◌+◌, ◌-◌, ◌^◌, ℕ, min, List, length, sym, ap, ◌∙◌, arith}
use Rattle.std.specs.Prelude.{nat_eq}
use Rattle.std.specs.List.{filter}
use Rattle.pg_predict_conditions.specs.Conditions.{least_facts}
use Rattle.pg_predict_conditions.specs.Judged.{noted_at, noted_grammar}
use Rattle.pg_predict_conditions.specs.Violations.{Violation, counted}
use Rattle.pg_predict.specs.Rest.{rest_at}
use Rattle.pg_predict.proofs.AtNode.{noted_there}
use Rattle.pg_predict.proofs.Counts.{counted_none, counted_more, counted_all, counted_kinds}
use Rattle.pg_predict.proofs.Rest.{at_begin}
use Rattle.pg_predict.proofs.at_node.count_kinds.Goals as goal

pub more-init : goal.more-init
more-init c =
    let source = c.args.source.now in
    record {
      small = omega arith;
      all =
          ap (λ (vs : List (Violation ℕ)). min (0 + length vs) (2 ^ 64 - 1))
          (at_begin source.judge c.args.node c.node-form.result.now source.grammar c.first-asking.result c.requires.source.facts.worked_out.suspects c.node-form.ensures.node
          c.first-asking.ensures)
          ∙ counted_none (noted_at source.grammar source.judge c.args.node);
    }

pub returns : goal.returns
returns c =
    let source = c.args.source.now in
    let p = c.args.node in
    counted_all c.more.count (counted (noted_at source.grammar source.judge p)) (rest_at source.judge p c.node-form.result.now c.more.asking) c.more.invariant.all c.in_default.ensures
    c.more.invariant.small
    ∙ sym (counted_kinds (filter (λ (v : Violation ℕ). nat_eq v.node p) (noted_grammar source.grammar source.judge))
    ∙ ap (λ (vs : List (Violation ℕ)). counted vs) (noted_there source.grammar (least_facts source.grammar) source.judge c.requires.source.facts c.requires.source.grammar p c.requires.node))
