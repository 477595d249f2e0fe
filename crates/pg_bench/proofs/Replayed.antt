-- What is printed of a trail is the result of its replay.
use Rattle.std.proofs.Common.{◌≡◌, ℕ, zero, suc, min, take, List, [], ◌∷◌, ◌++◌, Bool, true, false, length, refl, sym, ap, subst, subst₂, arith}
use Rattle.std.specs.Prelude.{codes, fold}
use Rattle.pg_text.specs.Position.{position_of, advance, start}
use Rattle.pg_tree.specs.Json.{json}
use Rattle.pg_tree.specs.Trees.{Tree}
use Rattle.pg_trail_replay.specs.Ends.{IsTheForest, IsFault}
use Rattle.pg_trail_replay.specs.declared.replay_fault.Stop.{Stop}
use Rattle.pg_trail_replay.specs.declared.replay_fault.ReplayFault.{ReplayFault}
use Rattle.pg_trail_replay.specs.declared.replay_fault.ReplayFault.TheVariants.{Stopped}
use Rattle.pg_grammar_value.specs.Grammar.{Grammar}
use Rattle.pg_grammar_value.specs.declared.trail.TrailItem.{TrailItem}
use Rattle.pg_table.specs.Tables.{Table, initial, whole}
use Rattle.pg_trail.specs.TrailJson.{IsTrailText}
use Rattle.pg_bench.specs.Replaying.{Replays, leads, halts, stop_text, IsReplayOfText}

pub shown_replay : (g : Grammar) (name bytes text : List ℕ) (table : Table) (trail : List TrailItem) (accepted : Bool) (said : List ℕ) → IsTrailText bytes trail
    → initial g ≡ whole table → Replays g text table trail name accepted said → IsReplayOfText g name bytes text accepted said
shown_replay g name bytes text table trail accepted said is initially h =
    record { trail = trail; is_trail = is; table = table; is_table = initially; replays = h }

pub leads_there : (g : Grammar) (text : List ℕ) (table : Table) (trail : List TrailItem) (name : List ℕ) (forest : List Tree) (accepted : Bool) (said : List ℕ)
    → IsTheForest g text table trail forest → accepted ≡ true → said ≡ json forest ++ codes "\n" → Replays g text table trail name accepted said
leads_there g text table trail name forest accepted said h is_so page = subst₂ (Replays g text table trail name) (sym is_so) (sym page) (leads h)

pub halts_there : (g : Grammar) (text : List ℕ) (table : Table) (trail : List TrailItem) (name : List ℕ) (told : Stop) (fault : ReplayFault) (accepted : Bool)
    (said : List ℕ) → IsFault g text table trail fault → fault ≡ Stopped told → accepted ≡ false → said ≡ stop_text name text (length trail) told
    → Replays g text table trail name accepted said
halts_there g text table trail name told fault accepted said h is is_so page =
    let stopped : IsFault g text table trail (Stopped told) = subst (IsFault g text table trail) is h in
    subst₂ (Replays g text table trail name) (sym is_so) (sym page) (halts stopped.0 stopped.1)

take_within : (text : List ℕ) (place : ℕ) → take (min place (length text)) text ≡ take place text
take_within [] zero = refl
take_within [] (suc place) = let none : min (suc place) 0 ≡ 0 = omega arith in rw none refl
take_within (c ∷ cs) zero = let none : min 0 (suc (length cs)) ≡ 0 = omega arith in rw none refl
take_within (c ∷ cs) (suc place) =
    let next : min (suc place) (suc (length cs)) ≡ suc (min place (length cs)) = omega arith in
    rw next (ap (λ xs. c ∷ xs) (take_within cs place))

-- the end of the text is the position of every place past it
pub position_within : (text : List ℕ) (place : ℕ) → position_of text (min place (length text)) ≡ position_of text place
position_within text place = ap (fold advance start) (take_within text place)
