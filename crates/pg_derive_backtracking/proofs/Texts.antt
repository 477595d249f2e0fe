-- Runs of the start rule consume nothing behind a place that was given back.
use Rattle.std.proofs.Common.{◌≡◌, ℕ, List, arith}
use Rattle.pg_language.specs.Answers.{Given, Answers}
use Rattle.pg_language.specs.Derives.{Spot}
use Rattle.pg_language.specs.Outcomes.{Outcome}
use Rattle.pg_language.proofs.Unique.{same}
use Rattle.pg_derive.specs.ClosedSets.{NodeSets}
use Rattle.pg_derive.specs.LeastSets.{node_sets}
use Rattle.pg_derive.specs.PredictiveLaws.{Predicts}
use Rattle.pg_derive.proofs.Predicted.{exist}
use Rattle.pg_derive.proofs.AcceptedTexts.{predicts}
use Rattle.pg_derive_bound.proofs.InTime.{never_stuck}
use Rattle.pg_derive_bound.proofs.Nodes.{IsSpot, is_node}
use Rattle.pg_derive_bound.proofs.Paid as paid
use Rattle.pg_derive_bound.proofs.Paid.{End}
use Rattle.pg_derive_backtracking.specs.Events.{Event}
use Rattle.pg_derive_backtracking.specs.Logs.{log}
use Rattle.pg_derive_backtracking.specs.Backtracking.{ReadsNothingTwice, PredictiveGrammarsReadNothingTwice, AcceptedGrammarsReadNothingTwice}
use Rattle.pg_derive_backtracking.proofs.Calm.{Notes, refuses, rests, goes, breaks, gives_back, stuck, never_twice}
use Rattle.pg_derive_backtracking.proofs.Runs.{notes}

-- the run has an answer
abbrev IsAnswered : End → Type 0
IsAnswered (paid.ends c j) = Unit {0}
IsAnswered (paid.stops c) = Unit {0}
IsAnswered paid.never = ⊥

twice_nothing : {E B : Type 0} {A : ℕ → Type 0} {i : ℕ} {z : End} {l : List Event} → IsAnswered z → Notes E B A i z l → ReadsNothingTwice l
twice_nothing is refuses = tt
twice_nothing is (rests e same) = tt
twice_nothing is (goes {l = l} b h) = never_twice l h
twice_nothing is (breaks b h) = h
twice_nothing is (gives_back b a h) = h
twice_nothing is stuck = absurd is

module _ (G : Given) (sets : NodeSets) (h : Predicts G sets) where
  -- of any node at any place
  pub node_reads_nothing_twice : {p : ℕ} {a : Spot} {o : Outcome} {m : ℕ} (d : Answers G p a o m) → IsSpot G sets h a → ReadsNothingTwice (log d)
  node_reads_nothing_twice {p = p} {a = a} d is = twice_nothing (never_stuck (exist G sets h p (is_node G sets h d) a is.1 is.0) d) (notes G sets h d is)

pub predictive_reads_nothing_twice : PredictiveGrammarsReadNothingTwice
predictive_reads_nothing_twice G sets h table from o m run = node_reads_nothing_twice G sets h run.body (omega arith, from)

pub accepted_reads_nothing_twice : AcceptedGrammarsReadNothingTwice
accepted_reads_nothing_twice G sets h = predictive_reads_nothing_twice G (node_sets G.grammar sets) (predicts G sets h)
