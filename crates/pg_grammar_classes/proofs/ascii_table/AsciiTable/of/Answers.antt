use Rattle.std.proofs.Common.{◌≡◌, ◌<◌, length, length-set, arith, rules, ap, ◌∙◌}
use Rattle.pg_class.specs.Ranges.{has}
use Rattle.pg_grammar_classes.proofs.Sets.{answers-next}
use Rattle.pg_grammar_classes.proofs.ascii_table.AsciiTable.of.Goals as goal

pub loop-code-preserved : goal.loop-code-preserved
loop-code-preserved c =
    let right = has c.args.class.now in
    let code : c.from-in-loop-code.result ≡ c.loop-code.code = search rules in
    let asked : c.from.result ≡ c.loop-code.code = search rules in
    let is : c.has.result ≡ right c.loop-code.code = c.has.ensures ∙ ap right asked in
    let within : c.loop-code.code < length c.loop-code.answers = omega arith in
    record {
      all = length-set c.loop-code.answers c.from-in-loop-code.result c.has.result ∙ c.loop-code.invariant.all;
      right = rw code (answers-next c.loop-code.answers c.loop-code.code c.has.result right within c.loop-code.invariant.right is);
    }
