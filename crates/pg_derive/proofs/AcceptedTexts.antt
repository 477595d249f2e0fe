-- The laws of grammars at whose nodes nothing is wrong: what they commit to, and whole texts.
use Rattle.pg_sets.specs.Sets.{Sets}
use Rattle.pg_derive.specs.Accepted.{Accepts, AcceptedGrammarsLoseNoAlternative, AcceptedRoundsConsume, AcceptedLinksConsume, AcceptedGrammarsAnswer, AcceptedGrammarsAnswerWhatTheyDerive, AcceptedGrammarsRefuseRightly, AcceptedGrammarsDeriveOnce}
use Rattle.pg_language.specs.Answers.{Given}
use Rattle.pg_derive.specs.LeastSets.{node_sets}
use Rattle.pg_derive.specs.PredictiveLaws.{Predicts}
use Rattle.pg_derive.proofs.Faultless.{accepted}
use Rattle.pg_derive.proofs.Predicted.{not_lost, rounds_consume, links_consume}
use Rattle.pg_derive.proofs.WholeTexts.{all_answered, derived_answered, refused_not_derived, one_derivation}

-- a grammar that is accepted is predictive
pub predicts : (G : Given) (sets : Sets) → Accepts G sets → Predicts G (node_sets G.grammar sets)
predicts G sets h = record { grammar = h.grammar; predictive = accepted G.grammar sets h.grammar h.least h.faultless; text = h.text }

pub loses_none : AcceptedGrammarsLoseNoAlternative
loses_none G sets h = not_lost G (node_sets G.grammar sets) (predicts G sets h)

pub accepted_rounds : AcceptedRoundsConsume
accepted_rounds G sets h = rounds_consume G (node_sets G.grammar sets) (predicts G sets h)

pub accepted_links : AcceptedLinksConsume
accepted_links G sets h = links_consume G (node_sets G.grammar sets) (predicts G sets h)

pub answers : AcceptedGrammarsAnswer
answers G sets h = all_answered G (node_sets G.grammar sets) (predicts G sets h)

pub answers_derived : AcceptedGrammarsAnswerWhatTheyDerive
answers_derived G sets h = derived_answered G (node_sets G.grammar sets) (predicts G sets h)

pub refuses_rightly : AcceptedGrammarsRefuseRightly
refuses_rightly G sets h = refused_not_derived G (node_sets G.grammar sets) (predicts G sets h)

pub derives_once : AcceptedGrammarsDeriveOnce
derives_once G sets h = one_derivation G (node_sets G.grammar sets) (predicts G sets h)
