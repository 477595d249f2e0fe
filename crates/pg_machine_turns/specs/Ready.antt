-- What a turn needs of the frames: room in their counts, offered builders around parts and in expressions, and in these the
-- operators item of the grammar.
use Rattle.std.specs.Prelude.{◌≡◌, ◌<◌, ℕ, Some, List, [], ◌∷◌}
use Rattle.pg_pred.specs.Offer.{Offer}
use Rattle.pg_grammar_value.specs.Fits.{BuilderFits, BuildersFit}
use Rattle.pg_grammar_value.specs.Grammar.{Grammar}
use Rattle.pg_grammar_form.specs.Contents.{all_builders}
use Rattle.pg_grammar_form.specs.declared.form.Around.{Around}
use Rattle.pg_grammar_form.specs.declared.form.Around.TheVariants as kind
use Rattle.pg_machine_turns.specs.Tape.{OnFrame, on_parts, on_choice, on_rounds, on_first, on_separator, on_operand, on_rule, on_around, on_expression, Tape, tape_at, tape_with, tape_endless}

-- the builder of a form around a part is offered, if it has one
abbrev pub AroundFits : Offer → Around → Type 0
AroundFits offer (kind.Build used symbol) = BuilderFits offer used
AroundFits offer _ = Unit {0}

-- the counts of a frame can grow, the builder that it names is offered, and the operators item is the grammar's
abbrev pub IsReady : Offer → Grammar → ℕ → OnFrame → Type 0
IsReady offer g most (on_parts rest before) = Unit {0}
IsReady offer g most (on_choice k ps i tried n m o) = k < most
IsReady offer g most (on_rounds p k c i slot n m o l) = k < most
IsReady offer g most (on_first chain slot n) = Unit {0}
IsReady offer g most (on_separator links) = links.count < most
IsReady offer g most (on_operand links before n) = links.count < most
IsReady offer g most on_rule = Unit {0}
IsReady offer g most (on_around around i n o) = AroundFits offer around
IsReady offer g most (on_expression e levels) = BuildersFit offer (all_builders e.parts.builders) × (g.operators ≡ Some e.parts.item)

abbrev pub AreReady : Offer → Grammar → ℕ → List OnFrame → Type 0
AreReady offer g most [] = Unit {0}
AreReady offer g most (f ∷ fs) = IsReady offer g most f × AreReady offer g most fs

abbrev pub IsTapeReady : Offer → Grammar → ℕ → Tape → Type 0
IsTapeReady offer g most (tape_at p i fs v t x T) = AreReady offer g most fs
IsTapeReady offer g most (tape_with reply fs v t x T) = AreReady offer g most fs
IsTapeReady offer g most tape_endless = Unit {0}
