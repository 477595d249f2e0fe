use Rattle.std.proofs.Common.{true≢false, sym, ◌∙◌, arith}
use Rattle.pg_certificate_verify.proofs.Violated.{first_of, none_of, over_is, round_is, alternative_is, meet_is, choice_is, repetition_is, operand_is, operator_is, gap_is}
use Rattle.pg_certificate_verify.proofs.breaking.first_condition.Goals as goal

pub returns-then-has_empty_round : goal.returns-then-has_empty_round
returns-then-has_empty_round c =
    first_of c.args.claims.now.grammar.now c.args.claims.now.sets.now c.args.claims.now.cost c.args.node c.args.form.now c.requires.there 2 (record {
      round = λ less. absurd (omega (arith, less));
      alternative = λ less. absurd (omega (arith, less));
      meet = λ less. absurd (omega (arith, less));
      choice = λ less. absurd (omega (arith, less));
      repetition = λ less. absurd (omega (arith, less));
      operand = λ less. absurd (omega (arith, less));
      operator = λ less. absurd (omega (arith, less));
      gap = λ less. absurd (omega (arith, less));
      over = λ less. absurd (omega (arith, less));
    })
    (round_is c.args.claims.now.grammar.now c.args.claims.now.sets.now c.args.claims.now.cost c.args.node c.args.form.now c.requires.there (c.has_empty_round.ensures.0 c.if-has_empty_round.true))

pub returns-then-has_empty_alternative : goal.returns-then-has_empty_alternative
returns-then-has_empty_alternative c =
    first_of c.args.claims.now.grammar.now c.args.claims.now.sets.now c.args.claims.now.cost c.args.node c.args.form.now c.requires.there 3 (record {
      round = λ less has. true≢false (sym (c.has_empty_round.ensures.1 has) ∙ c.if-has_empty_round.false);
      alternative = λ less. absurd (omega (arith, less));
      meet = λ less. absurd (omega (arith, less));
      choice = λ less. absurd (omega (arith, less));
      repetition = λ less. absurd (omega (arith, less));
      operand = λ less. absurd (omega (arith, less));
      operator = λ less. absurd (omega (arith, less));
      gap = λ less. absurd (omega (arith, less));
      over = λ less. absurd (omega (arith, less));
    })
    (alternative_is c.args.claims.now.grammar.now c.args.claims.now.sets.now c.args.claims.now.cost c.args.node c.args.form.now c.requires.there (c.has_empty_alternative.ensures.0 c.if-has_empty_alternative.true))

pub returns-then-two_meet : goal.returns-then-two_meet
returns-then-two_meet c =
    first_of c.args.claims.now.grammar.now c.args.claims.now.sets.now c.args.claims.now.cost c.args.node c.args.form.now c.requires.there 4 (record {
      round = λ less has. true≢false (sym (c.has_empty_round.ensures.1 has) ∙ c.if-has_empty_round.false);
      alternative = λ less has. true≢false (sym (c.has_empty_alternative.ensures.1 has) ∙ c.if-has_empty_alternative.false);
      meet = λ less. absurd (omega (arith, less));
      choice = λ less. absurd (omega (arith, less));
      repetition = λ less. absurd (omega (arith, less));
      operand = λ less. absurd (omega (arith, less));
      operator = λ less. absurd (omega (arith, less));
      gap = λ less. absurd (omega (arith, less));
      over = λ less. absurd (omega (arith, less));
    })
    (meet_is c.args.claims.now.grammar.now c.args.claims.now.sets.now c.args.claims.now.cost c.args.node c.args.form.now c.requires.there ((c.in_ok-two_meet.ensures c.args.claims.now.grammar.now c.requires.formed).0 c.if-two_meet.true))

pub returns-then-alternative_meets_follow : goal.returns-then-alternative_meets_follow
returns-then-alternative_meets_follow c =
    first_of c.args.claims.now.grammar.now c.args.claims.now.sets.now c.args.claims.now.cost c.args.node c.args.form.now c.requires.there 5 (record {
      round = λ less has. true≢false (sym (c.has_empty_round.ensures.1 has) ∙ c.if-has_empty_round.false);
      alternative = λ less has. true≢false (sym (c.has_empty_alternative.ensures.1 has) ∙ c.if-has_empty_alternative.false);
      meet = λ less has. true≢false (sym ((c.in_ok-two_meet.ensures c.args.claims.now.grammar.now c.requires.formed).1 has) ∙ c.if-two_meet.false);
      choice = λ less. absurd (omega (arith, less));
      repetition = λ less. absurd (omega (arith, less));
      operand = λ less. absurd (omega (arith, less));
      operator = λ less. absurd (omega (arith, less));
      gap = λ less. absurd (omega (arith, less));
      over = λ less. absurd (omega (arith, less));
    })
    (choice_is c.args.claims.now.grammar.now c.args.claims.now.sets.now c.args.claims.now.cost c.args.node c.args.form.now c.requires.there ((c.alternative_meets_follow.ensures c.args.claims.now.grammar.now c.requires.formed).0 c.if-alternative_meets_follow.true))

pub returns-then-round_meets : goal.returns-then-round_meets
returns-then-round_meets c =
    first_of c.args.claims.now.grammar.now c.args.claims.now.sets.now c.args.claims.now.cost c.args.node c.args.form.now c.requires.there 6 (record {
      round = λ less has. true≢false (sym (c.has_empty_round.ensures.1 has) ∙ c.if-has_empty_round.false);
      alternative = λ less has. true≢false (sym (c.has_empty_alternative.ensures.1 has) ∙ c.if-has_empty_alternative.false);
      meet = λ less has. true≢false (sym ((c.in_ok-two_meet.ensures c.args.claims.now.grammar.now c.requires.formed).1 has) ∙ c.if-two_meet.false);
      choice = λ less has. true≢false (sym ((c.alternative_meets_follow.ensures c.args.claims.now.grammar.now c.requires.formed).1 has) ∙ c.if-alternative_meets_follow.false);
      repetition = λ less. absurd (omega (arith, less));
      operand = λ less. absurd (omega (arith, less));
      operator = λ less. absurd (omega (arith, less));
      gap = λ less. absurd (omega (arith, less));
      over = λ less. absurd (omega (arith, less));
    })
    (repetition_is c.args.claims.now.grammar.now c.args.claims.now.sets.now c.args.claims.now.cost c.args.node c.args.form.now c.requires.there ((c.in_ok-round_meets.ensures c.args.claims.now.grammar.now c.requires.formed).0 c.if-round_meets.true))

pub returns-then-operand_breaks : goal.returns-then-operand_breaks
returns-then-operand_breaks c =
    first_of c.args.claims.now.grammar.now c.args.claims.now.sets.now c.args.claims.now.cost c.args.node c.args.form.now c.requires.there 7 (record {
      round = λ less has. true≢false (sym (c.has_empty_round.ensures.1 has) ∙ c.if-has_empty_round.false);
      alternative = λ less has. true≢false (sym (c.has_empty_alternative.ensures.1 has) ∙ c.if-has_empty_alternative.false);
      meet = λ less has. true≢false (sym ((c.in_ok-two_meet.ensures c.args.claims.now.grammar.now c.requires.formed).1 has) ∙ c.if-two_meet.false);
      choice = λ less has. true≢false (sym ((c.alternative_meets_follow.ensures c.args.claims.now.grammar.now c.requires.formed).1 has) ∙ c.if-alternative_meets_follow.false);
      repetition = λ less has. true≢false (sym ((c.in_ok-round_meets.ensures c.args.claims.now.grammar.now c.requires.formed).1 has) ∙ c.if-round_meets.false);
      operand = λ less. absurd (omega (arith, less));
      operator = λ less. absurd (omega (arith, less));
      gap = λ less. absurd (omega (arith, less));
      over = λ less. absurd (omega (arith, less));
    })
    (operand_is c.args.claims.now.grammar.now c.args.claims.now.sets.now c.args.claims.now.cost c.args.node c.args.form.now c.requires.there ((c.operand_breaks.ensures c.args.claims.now.grammar.now c.requires.formed c.requires.operators).0 c.if-operand_breaks.true))

pub returns-then-operator_meets_follow : goal.returns-then-operator_meets_follow
returns-then-operator_meets_follow c =
    first_of c.args.claims.now.grammar.now c.args.claims.now.sets.now c.args.claims.now.cost c.args.node c.args.form.now c.requires.there 8 (record {
      round = λ less has. true≢false (sym (c.has_empty_round.ensures.1 has) ∙ c.if-has_empty_round.false);
      alternative = λ less has. true≢false (sym (c.has_empty_alternative.ensures.1 has) ∙ c.if-has_empty_alternative.false);
      meet = λ less has. true≢false (sym ((c.in_ok-two_meet.ensures c.args.claims.now.grammar.now c.requires.formed).1 has) ∙ c.if-two_meet.false);
      choice = λ less has. true≢false (sym ((c.alternative_meets_follow.ensures c.args.claims.now.grammar.now c.requires.formed).1 has) ∙ c.if-alternative_meets_follow.false);
      repetition = λ less has. true≢false (sym ((c.in_ok-round_meets.ensures c.args.claims.now.grammar.now c.requires.formed).1 has) ∙ c.if-round_meets.false);
      operand = λ less has. true≢false (sym ((c.operand_breaks.ensures c.args.claims.now.grammar.now c.requires.formed c.requires.operators).1 has) ∙ c.if-operand_breaks.false);
      operator = λ less. absurd (omega (arith, less));
      gap = λ less. absurd (omega (arith, less));
      over = λ less. absurd (omega (arith, less));
    })
    (operator_is c.args.claims.now.grammar.now c.args.claims.now.sets.now c.args.claims.now.cost c.args.node c.args.form.now c.requires.there ((c.operator_meets_follow.ensures c.args.claims.now.grammar.now c.requires.formed c.requires.operators).0 c.if-operator_meets_follow.true))

pub returns-then-gap_breaks : goal.returns-then-gap_breaks
returns-then-gap_breaks c =
    first_of c.args.claims.now.grammar.now c.args.claims.now.sets.now c.args.claims.now.cost c.args.node c.args.form.now c.requires.there 9 (record {
      round = λ less has. true≢false (sym (c.has_empty_round.ensures.1 has) ∙ c.if-has_empty_round.false);
      alternative = λ less has. true≢false (sym (c.has_empty_alternative.ensures.1 has) ∙ c.if-has_empty_alternative.false);
      meet = λ less has. true≢false (sym ((c.in_ok-two_meet.ensures c.args.claims.now.grammar.now c.requires.formed).1 has) ∙ c.if-two_meet.false);
      choice = λ less has. true≢false (sym ((c.alternative_meets_follow.ensures c.args.claims.now.grammar.now c.requires.formed).1 has) ∙ c.if-alternative_meets_follow.false);
      repetition = λ less has. true≢false (sym ((c.in_ok-round_meets.ensures c.args.claims.now.grammar.now c.requires.formed).1 has) ∙ c.if-round_meets.false);
      operand = λ less has. true≢false (sym ((c.operand_breaks.ensures c.args.claims.now.grammar.now c.requires.formed c.requires.operators).1 has) ∙ c.if-operand_breaks.false);
      operator = λ less has. true≢false (sym ((c.operator_meets_follow.ensures c.args.claims.now.grammar.now c.requires.formed c.requires.operators).1 has) ∙ c.if-operator_meets_follow.false);
      gap = λ less. absurd (omega (arith, less));
      over = λ less. absurd (omega (arith, less));
    })
    (gap_is c.args.claims.now.grammar.now c.args.claims.now.sets.now c.args.claims.now.cost c.args.node c.args.form.now c.requires.there ((c.gap_breaks.ensures c.args.claims.now.grammar.now c.requires.formed c.requires.operators).0 c.if-gap_breaks.true))

pub returns-then-is_over : goal.returns-then-is_over
returns-then-is_over c =
    first_of c.args.claims.now.grammar.now c.args.claims.now.sets.now c.args.claims.now.cost c.args.node c.args.form.now c.requires.there 11 (record {
      round = λ less has. true≢false (sym (c.has_empty_round.ensures.1 has) ∙ c.if-has_empty_round.false);
      alternative = λ less has. true≢false (sym (c.has_empty_alternative.ensures.1 has) ∙ c.if-has_empty_alternative.false);
      meet = λ less has. true≢false (sym ((c.in_ok-two_meet.ensures c.args.claims.now.grammar.now c.requires.formed).1 has) ∙ c.if-two_meet.false);
      choice = λ less has. true≢false (sym ((c.alternative_meets_follow.ensures c.args.claims.now.grammar.now c.requires.formed).1 has) ∙ c.if-alternative_meets_follow.false);
      repetition = λ less has. true≢false (sym ((c.in_ok-round_meets.ensures c.args.claims.now.grammar.now c.requires.formed).1 has) ∙ c.if-round_meets.false);
      operand = λ less has. true≢false (sym ((c.operand_breaks.ensures c.args.claims.now.grammar.now c.requires.formed c.requires.operators).1 has) ∙ c.if-operand_breaks.false);
      operator = λ less has. true≢false (sym ((c.operator_meets_follow.ensures c.args.claims.now.grammar.now c.requires.formed c.requires.operators).1 has) ∙ c.if-operator_meets_follow.false);
      gap = λ less has. true≢false (sym ((c.gap_breaks.ensures c.args.claims.now.grammar.now c.requires.formed c.requires.operators).1 has) ∙ c.if-gap_breaks.false);
      over = λ less. absurd (omega (arith, less));
    })
    (over_is c.args.claims.now.grammar.now c.args.claims.now.sets.now c.args.claims.now.cost c.args.node c.args.form.now c.requires.there (c.is_over.ensures.0 c.if-is_over.true))

pub returns : goal.returns
returns c =
    none_of c.args.claims.now.grammar.now c.args.claims.now.sets.now c.args.claims.now.cost c.args.node c.args.form.now c.requires.there (record {
      round = λ less has. true≢false (sym (c.has_empty_round.ensures.1 has) ∙ c.if-has_empty_round.false);
      alternative = λ less has. true≢false (sym (c.has_empty_alternative.ensures.1 has) ∙ c.if-has_empty_alternative.false);
      meet = λ less has. true≢false (sym ((c.in_ok-two_meet.ensures c.args.claims.now.grammar.now c.requires.formed).1 has) ∙ c.if-two_meet.false);
      choice = λ less has. true≢false (sym ((c.alternative_meets_follow.ensures c.args.claims.now.grammar.now c.requires.formed).1 has) ∙ c.if-alternative_meets_follow.false);
      repetition = λ less has. true≢false (sym ((c.in_ok-round_meets.ensures c.args.claims.now.grammar.now c.requires.formed).1 has) ∙ c.if-round_meets.false);
      operand = λ less has. true≢false (sym ((c.operand_breaks.ensures c.args.claims.now.grammar.now c.requires.formed c.requires.operators).1 has) ∙ c.if-operand_breaks.false);
      operator = λ less has. true≢false (sym ((c.operator_meets_follow.ensures c.args.claims.now.grammar.now c.requires.formed c.requires.operators).1 has) ∙ c.if-operator_meets_follow.false);
      gap = λ less has. true≢false (sym ((c.gap_breaks.ensures c.args.claims.now.grammar.now c.requires.formed c.requires.operators).1 has) ∙ c.if-gap_breaks.false);
      over = λ less has. true≢false (sym (c.is_over.ensures.1 has) ∙ c.if-is_over.false);
    })
