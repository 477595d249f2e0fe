use Rattle.std.proofs.lemmas.Result.{IfOk-weaker}
use Rattle.pg_sets_own.proofs.Owned.{operator_starts, words_reserved}
use Rattle.pg_sets_own.proofs.operators.operator_start.Goals as goal

pub returns-clause-named : goal.returns-clause-named
returns-clause-named c = IfOk-weaker c.listed_words.result _ _ (λ listed lists. (words_reserved listed lists).3) c.listed_words.ensures

pub returns-clause-operator : goal.returns-clause-operator
returns-clause-operator c =
    IfOk-weaker c.listed_words.result _ _ (λ listed lists. operator_starts c.args.item.now c.in_ok-class.class listed c.requires.item c.in_ok-class.ensures lists) c.listed_words.ensures
