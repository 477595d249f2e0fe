-- What the topmost frame is handed, and that an answer is the last one where no frame is left.
use Rattle.std.proofs.Common.{◌≡◌, ◌<◌, ℕ, suc, Bool, true, List, [], ◌∷◌, length, take, refl, ap, subst, sym, ◌∙◌}
use Rattle.std.proofs.Math.Dec.{eqb-suc-zero}
use Rattle.std.specs.Prelude.{◌==◌}
use Rattle.pg_language.specs.Answers.{Given}
use Rattle.pg_pred.specs.Offer.{Offer}
use Rattle.pg_grammar_value.specs.Grammar.{Grammar}
use Rattle.pg_machine_lists.specs.RunTrees.{RunTrees, tree_count}
use Rattle.pg_grammar_value.specs.declared.trail.TrailItem.{TrailItem}
use Rattle.pg_table.specs.Tables.{Table}
use Rattle.pg_message_tape.specs.Messages.{TapeMessage}
use Rattle.pg_message_tape.specs.declared.message_tape.TapeError.{TapeError}
use Rattle.pg_machine_turns.specs.Ready.{AreReady, IsReady}
use Rattle.pg_machine_turns.specs.Tape.{OnFrame, on_rounds, on_rule, tape_at, tape_hand, tape_with, tape_turn, tape_is_last}
use Rattle.pg_machine_turns.specs.ViewFrames.{frame_of, newest}
use Rattle.pg_machine_turns.specs.declared.frame.Frame.TheVariants as frame
use Rattle.pg_machine_turns.specs.declared.frame.Reply.{Reply}
use Rattle.pg_machine_turns.specs.declared.frame.Reply.TheVariants.{Succeeded}
use Rattle.pg_machine_turns.specs.declared.frame.RoundsFrame.{RoundsFrame}

-- to hand to the topmost frame is the turn
pub turn_by_top : (G : Given) (reply : Reply) (fs rest : List OnFrame) (f : OnFrame) (v : RunTrees) (t : List TrailItem) (x : List TapeMessage) (T : Table) → fs ≡ f ∷ rest →
    tape_hand G f reply rest v t x T ≡ tape_turn G (tape_with reply fs v t x T)
turn_by_top G reply fs rest f v t x T is = ap (λ s. tape_turn G (tape_with reply s v t x T)) (sym is)

pub top_ready : (offer : Offer) (g : Grammar) (most : ℕ) (fs rest : List OnFrame) (f : OnFrame) → fs ≡ f ∷ rest → AreReady offer g most fs → IsReady offer g most f
top_ready offer g most fs rest f is ready = let r = subst (AreReady offer g most) is ready in r.0

-- the rounds of the topmost frame can be one more
pub room_on_top : (offer : Offer) (g : Grammar) (most : ℕ) (fs : List OnFrame) → AreReady offer g most fs → (rounds : RoundsFrame) → newest fs ≡ frame_of (frame.Rounds rounds) →
    rounds.count < most
room_on_top offer g most [] ready rounds is = cc
room_on_top offer g most (f ∷ fs) ready rounds is = subst (IsReady offer g most) is ready.0

-- a round of the topmost frame consumed
pub round_more : (G : Given) (p k : ℕ) (c : Bool) (i slot n m o l j : ℕ) (error : TapeError) (reply : Reply) (fs rest gs : List OnFrame) (v : RunTrees) (t : List TrailItem)
    (x y : List TapeMessage) (T : Table) → reply ≡ Succeeded true j error → fs ≡ on_rounds p k c i slot n m o l ∷ rest →
    gs ≡ on_rounds p (suc k) true j slot (tree_count v) (length t) (length T.operators) l ∷ rest → y ≡ take l x →
    tape_at p j gs v t y T ≡ tape_turn G (tape_with reply fs v t x T)
round_more G p k c i slot n m o l j error reply fs rest gs v t x y T answered old new cut =
    ap (λ s. tape_at p j s v t y T) new
    ∙ ap (λ z. tape_at p j (on_rounds p (suc k) true j slot (tree_count v) (length t) (length T.operators) l ∷ rest) v t z T) cut
    ∙ ap (λ r. tape_turn G (tape_with r (on_rounds p k c i slot n m o l ∷ rest) v t x T)) (sym answered)
    ∙ ap (λ s. tape_turn G (tape_with reply s v t x T)) (sym old)

pub none_waits : (G : Given) (reply : Reply) (fs : List OnFrame) (v : RunTrees) (t : List TrailItem) (x : List TapeMessage) (T : Table) → fs ≡ [] →
    tape_with reply [] v t x T ≡ tape_turn G (tape_with reply fs v t x T)
none_waits G reply fs v t x T is = ap (λ s. tape_turn G (tape_with reply s v t x T)) (sym is)

pub last_reply : (reply : Reply) (fs : List OnFrame) (v : RunTrees) (t : List TrailItem) (x : List TapeMessage) (T : Table) → (length fs == 0) ≡ tape_is_last (tape_with reply fs v t x T)
last_reply reply [] v t x T = refl
last_reply reply (f ∷ fs) v t x T = eqb-suc-zero (length fs)
