-- What a derivation does at a node, found by replaying its trail.
use Rattle.std.specs.Prelude.{◌≡◌, ◌<◌, ℕ, List, Some, slice_get}
use Rattle.pg_grammar_value.specs.Grammar.{Grammar}
use Rattle.pg_grammar_value.specs.declared.trail.TrailItem.{TrailItem}
use Rattle.pg_table.specs.Tables.{Table}
use Rattle.pg_language.specs.Answers.{Given}
use Rattle.pg_trail_replay.specs.Tasks.{State, OnTask, node, rounds, more_rounds, links, on, next_turn}
use Rattle.pg_trail_replay.specs.Turns.{begun}

-- replaying the trail over the text reaches this state
pub data ComesAlong (g : Grammar) (text : List ℕ) (table : Table) (trail : List TrailItem) : State → Type 0 where
  begins : {s : State} → begun g table trail (slice_get g.rules g.start) ≡ on s → ComesAlong g text table trail s
  goes_on : {s t : State} → ComesAlong g text table trail s → next_turn g text s ≡ on t → ComesAlong g text table trail t

-- the derivation with this trail reaches a state with this property
pub record Passes (G : Given) (table : Table) (trail : List TrailItem) (P : State → Type 0) : Type 0 where
  pub state : State
  pub comes : ComesAlong G.grammar G.text table trail state
  pub is : P state

-- the next task enters the node at the place, and the trail has this item for it
pub record IsEntering (entered place : ℕ) (item : TrailItem) (s : State) : Type 0 where
  pub enters : slice_get s.tasks 0 ≡ Some (node entered)
  pub there : s.place ≡ place
  pub has : slice_get s.rest 0 ≡ Some item

-- this many rounds are left of the repetition or the chain whose rounds begin with this part
abbrev pub HasLeft : (part left : ℕ) → OnTask → Type 0
HasLeft part left (rounds p n) = (p ≡ part) × (n ≡ left)
HasLeft part left (more_rounds p n place trees items) = (p ≡ part) × (n ≡ left)
HasLeft part left (links c n trees) = (c.separator ≡ part) × (n ≡ left)
HasLeft part left _ = ⊥

-- at the place, the next task has this many rounds left
pub record AreLeft (part place left : ℕ) (s : State) : Type 0 where
  pub task : OnTask
  pub next : slice_get s.tasks 0 ≡ Some task
  pub there : s.place ≡ place
  pub has_left : HasLeft part left task

-- another round comes at the place
pub record GoesOn (G : Given) (table : Table) (trail : List TrailItem) (part place : ℕ) : Type 0 where
  pub left : ℕ
  pub some : 0 < left
  pub passes : Passes G table trail (AreLeft part place left)
