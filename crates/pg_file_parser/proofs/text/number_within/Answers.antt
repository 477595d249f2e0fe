use Rattle.std.proofs.Common.{sym, arith}
use Rattle.std.proofs.lemmas.Grind.{common_steps}
use Rattle.pg_file_parser.proofs.ParserLemmas.Digits.{too_great}
use Rattle.pg_file_parser.proofs.text.number_within.Goals as goal

pub returns-then-value-most : goal.returns-then-value-most
returns-then-value-most c =
    too_great c.args.most c.loop-digit.value c.loop-digit.digit-index c.digit-item.result c.digit-item.result c.args.digits.now c.loop-digit-test.true (sym c.digit-item.is) (omega (arith, c.if-value-most.true, c.in_ok-value.ensures.value)) c.loop-digit.invariant.so_far

pub loop-digit-preserved : goal.loop-digit-preserved
loop-digit-preserved c = grind (arith, common_steps)
