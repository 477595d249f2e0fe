use Rattle.pg_grammar_value.specs.Grammar.{Grammar}
use Rattle.pg_predict_conditions.specs.Shown.{AreWellFormed}
use Rattle.pg_certificate_verify.specs.Breaking.{BeginsBy, FollowsBy, SomeMeet}
use Rattle.pg_certificate_verify.proofs.Looking.{NoneOfFirst}
use Rattle.pg_certificate_verify.proofs.alternatives.one_meets_follow.Given as goal

abbrev pub invariant-loop-place : goal.invariant-loop-place
invariant-loop-place l = (g : Grammar) → AreWellFormed g l.sets → NoneOfFirst l.parts (λ q. SomeMeet g (BeginsBy l.sets q) (FollowsBy l.sets l.node)) l.place
