-- What the replay of a trail over a text prints, from bytes to bytes.
use Rattle.std.specs.Prelude.{◌≡◌, ◌+◌, ◌-◌, ◌==◌, if◌then◌else◌, ℕ, List, ◌++◌, Bool, true, false, length, Option, codes}
use Rattle.std.specs.Fmt.{decimal}
use Rattle.pg_text.specs.Position.{position_of}
use Rattle.pg_tree.specs.Json.{json}
use Rattle.pg_tree.specs.Trees.{Tree}
use Rattle.pg_pred.specs.Offer.{Offer}
use Rattle.pg_grammar_value.specs.Grammar.{Grammar}
use Rattle.pg_grammar_value.specs.declared.trail.TrailItem.{TrailItem}
use Rattle.pg_trail.specs.TrailJson.{IsTrailText}
use Rattle.pg_table.specs.Tables.{Table, initial, whole}
use Rattle.pg_trail_replay.specs.Ends.{IsTheForest, IsTold, HasNoForest}
use Rattle.pg_trail_replay.specs.declared.replay_fault.Stop.{Stop}
use Rattle.pg_trail_replay.specs.declared.replay_fault.Mismatch.{Mismatch}
use Rattle.pg_trail_replay.specs.declared.replay_fault.Mismatch.TheVariants.{ItemDiffers, TextDiffers, LeftOver, NotAdmitted}
use Rattle.pg_bench.specs.Showing.{IsWrittenBy, IsPartlyWrittenBy}

-- ---- the line of a stop

-- why a trail stops, in words
abbrev pub mismatch_text : Mismatch → List ℕ
mismatch_text ItemDiffers = codes "Y1 item doesn't fit"
mismatch_text TextDiffers = codes "Y2 text doesn't fit"
mismatch_text LeftOver = codes "Y3 text or items left over"
mismatch_text NotAdmitted = codes "Y4 declaration not admitted"

-- the number of the next item, counting from 1, if `left` of all items are left
abbrev pub item_text : ℕ → ℕ → List ℕ
item_text left all = if left == 0 then codes "after all " ++ (decimal all ++ codes " items") else codes "item " ++ (decimal (all - left + 1) ++ (codes " of " ++ decimal all))

-- the text's name with the line and the column, then the reason, and then the item
abbrev pub stop_text : List ℕ → List ℕ → ℕ → Stop → List ℕ
stop_text name text all told =
    name ++ (codes ":" ++ (decimal (position_of text told.place).line ++ (codes ":" ++ (decimal (position_of text told.place).column
    ++ (codes ": " ++ (mismatch_text told.why ++ (codes ", " ++ (item_text told.left all ++ codes "\n"))))))))

-- ---- what is printed

-- the forest's JSON, if the grammar derives the text along this trail; else where the trail stops, and then nothing is derived along it
pub data Replays (g : Grammar) (text : List ℕ) (table : Table) (trail : List TrailItem) (name : List ℕ) : Bool → List ℕ → Type 0 where
  leads : {forest : List Tree} → IsTheForest g text table trail forest → Replays g text table trail name true (json forest ++ codes "\n")
  halts : {told : Stop} → IsTold g text table trail told → HasNoForest g text table trail → Replays g text table trail name false (stop_text name text (length trail) told)

-- this is printed for the trail with these bytes as its JSON, on a text under the grammar's initial table
pub record IsReplayOfText (g : Grammar) (name bytes text : List ℕ) (accepted : Bool) (said : List ℕ) : Type 0 where
  pub trail : List TrailItem
  pub is_trail : IsTrailText bytes trail
  pub table : Table
  pub is_table : initial g ≡ whole table
  pub replays : Replays g text table trail name accepted said

-- the file spells a grammar, and what is printed of the reader's whole bytes was written
abbrev pub IsReplayed : Offer → List ℕ → Option (List ℕ) → Option (List ℕ) → List ℕ → List ℕ → Option (List ℕ) → Option (List ℕ) → Bool → Type 0
IsReplayed offer file reader left name bytes writer held = IsWrittenBy (λ g. IsReplayOfText g name bytes) offer file reader left writer held

-- a prefix of it was written
abbrev pub IsPartlyReplayed : Offer → List ℕ → Option (List ℕ) → Option (List ℕ) → List ℕ → List ℕ → Option (List ℕ) → Option (List ℕ) → Type 0
IsPartlyReplayed offer file reader left name bytes writer held =
    IsPartlyWrittenBy (λ g. IsReplayOfText g name bytes) offer file reader left writer held

-- these bytes aren't a trail's JSON
abbrev pub IsNoTrail : List ℕ → Type 0
IsNoTrail bytes = (trail : List TrailItem) → ¬ (IsTrailText bytes trail)
