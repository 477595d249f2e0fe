-- The tapes of turns of an expression, by what came of its levels.
use Rattle.std.proofs.Common.{◌≡◌, ℕ, Bool, List, ◌∷◌, ap, ◌∙◌}
use Rattle.pg_grammar_value.specs.declared.trail.TrailItem.{TrailItem}
use Rattle.pg_table.specs.Tables.{Table}
use Rattle.pg_language.specs.Answers.{Given}
use Rattle.pg_message_tape.specs.Messages.{TapeMessage}
use Rattle.pg_message_tape.specs.declared.message_tape.TapeError.{TapeError}
use Rattle.pg_machine_lists.specs.RunTrees.{RunTrees}
use Rattle.pg_machine_turns.specs.Tape.{OnFrame, on_expression, tape_at, tape_with, tape_down, tape_climbed, tape_failed}
use Rattle.pg_machine_lists.specs.TapeLevels.{OnLevel, OnSetting, Down, OnClimbed, on_ended, on_again, OnFailure}
use Rattle.pg_machine_turns.specs.declared.frame.Reply.TheVariants.{Succeeded, Failed}

pub down_tape : (G : Given) (e e' : OnSetting) (place : ℕ) (levels : List OnLevel) (v : RunTrees) (t : List TrailItem) (x : List TapeMessage) (fs gs : List OnFrame) (T U : Table) (d : Down) →
    record { place = place; levels = levels; lists = record { v = v; t = t; x = x } } ≡ d → e ≡ e' → fs ≡ gs → T ≡ U →
    tape_at e.parts.term place (on_expression e levels ∷ fs) v t x T ≡ tape_down G e' d gs U
down_tape G e e' place levels v t x fs gs T U d h k f g =
    ap (λ (d : Down). tape_down G e d fs T) h ∙ ap (λ (e : OnSetting). tape_down G e d fs T) k
    ∙ ap (λ (fs : List OnFrame). tape_down G e' d fs T) f ∙ ap (λ (T : Table). tape_down G e' d gs T) g

pub again_tape : (G : Given) (e : OnSetting) (place : ℕ) (levels : List OnLevel) (v : RunTrees) (t : List TrailItem) (x : List TapeMessage) (fs gs : List OnFrame) (T U : Table) (c : OnClimbed) →
    on_again (record { place = place; levels = levels; lists = record { v = v; t = t; x = x } }) ≡ c → fs ≡ gs → T ≡ U →
    tape_at e.parts.term place (on_expression e levels ∷ fs) v t x T ≡ tape_climbed G e c gs U
again_tape G e place levels v t x fs gs T U c h f g =
    ap (λ (c : OnClimbed). tape_climbed G e c fs T) h ∙ ap (λ (fs : List OnFrame). tape_climbed G e c fs T) f ∙ ap (λ (T : Table). tape_climbed G e c gs T) g

pub ended_tape : (G : Given) (e : OnSetting) (b : Bool) (place : ℕ) (error : TapeError) (v : RunTrees) (t : List TrailItem) (x : List TapeMessage) (fs gs : List OnFrame) (T U : Table) (c : OnClimbed) →
    on_ended (record { consumed = b; place = place; error = error; lists = record { v = v; t = t; x = x } }) ≡ c → fs ≡ gs → T ≡ U →
    tape_with (Succeeded b place error) fs v t x T ≡ tape_climbed G e c gs U
ended_tape G e b place error v t x fs gs T U c h f g =
    ap (λ (c : OnClimbed). tape_climbed G e c fs T) h ∙ ap (λ (fs : List OnFrame). tape_climbed G e c fs T) f ∙ ap (λ (T : Table). tape_climbed G e c gs T) g

pub failed_tape : (b : Bool) (error : TapeError) (v w : RunTrees) (t u : List TrailItem) (x : List TapeMessage) (fs gs : List OnFrame) (T U : Table) (c : OnFailure) →
    record { consumed = b; error = error; messages = x } ≡ c → fs ≡ gs → v ≡ w → t ≡ u → T ≡ U →
    tape_with (Failed b error) fs v t x T ≡ tape_failed c gs w u U
failed_tape b error v w t u x fs gs T U c h f k l g =
    ap (λ (c : OnFailure). tape_failed c fs v t T) h ∙ ap (λ (fs : List OnFrame). tape_failed c fs v t T) f ∙ ap (λ (v : RunTrees). tape_failed c gs v t T) k
    ∙ ap (λ (t : List TrailItem). tape_failed c gs w t T) l ∙ ap (λ (T : Table). tape_failed c gs w u T) g
