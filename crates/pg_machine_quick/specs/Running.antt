-- The arrays of a run as a tape, and what a step says of a turn.
use Rattle.std.specs.Prelude.{◌≡◌, ℕ, List, [], ◌∷◌, Option, Some, None, reverse}
use Rattle.pg_machine_quick.specs.Tape.{Tape, tape, TapeTurn, tape_stops, tape_goes}
use Rattle.pg_grammar_form.specs.Forms.{Node}
use Rattle.pg_grammar_form.specs.declared.form.Form.TheVariants as form
use Rattle.pg_grammar_form.specs.declared.used.OperatorBuilders.{OperatorBuilders}
use Rattle.pg_machine_quick.specs.declared.frame.Frame.{Frame}
use Rattle.pg_machine_quick.specs.declared.running.Running.{Running}
use Rattle.pg_machine_quick.specs.declared.step.Step.{Step}
use Rattle.pg_machine_quick.specs.declared.step.Step.TheVariants.{GoesOn, GivesUp, Stops}

-- what waits stands in the array from the first to the last
abbrev pub shown : Running → Tape
shown r = tape r.pc r.place (reverse r.frames.items) r.trees r.nodes r.taken

-- the turn came to this tape; of a run that gives up nothing is said
abbrev pub Does : TapeTurn → Step → Tape → Type 0
Does turn GoesOn t = turn ≡ tape_goes t
Does turn Stops t = turn ≡ tape_stops t
Does turn GivesUp t = Unit {0}

-- what waits last, from the last to the first
abbrev pub first_frame : List Frame → Option Frame
first_frame [] = None
first_frame (f ∷ k) = Some f

-- a node is an expression with these builders
abbrev pub IsOfExpression : Option Node → OperatorBuilders → Type 0
IsOfExpression node builders = (p : ℕ) × (node ≡ Some (form.Expression builders p))
