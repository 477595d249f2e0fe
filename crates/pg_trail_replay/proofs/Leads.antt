-- What doing tasks one after another leads to: each derives a stretch and takes its items, or refuses.
use Rattle.std.proofs.Common.{◌≡◌, ◌==◌, ◌≤◌, ℕ, Bool, true, false, List, [], ◌∷◌, ◌++◌, length, refl, sym, ◌∙◌, eq-eqb, eqb-true, arith, if◌then◌else◌}
use Rattle.pg_tree.specs.Trees.{Tree}
use Rattle.pg_tree.specs.declared.shape.Shape.{Shape}
use Rattle.pg_grammar_value.specs.Grammar.{Grammar}
use Rattle.pg_grammar_value.specs.declared.trail.TrailItem.{TrailItem}
use Rattle.pg_grammar_form.specs.declared.form.Around.{Around}
use Rattle.std.specs.Prelude.{Some}
use Rattle.pg_grammar_form.specs.declared.used.ChainBuilder.{ChainBuilder}
use Rattle.pg_grammar_form.specs.declared.used.OperatorBuilders.{OperatorBuilders}
use Rattle.pg_grammar_form.specs.declared.operators_item.OperatorsItem.{OperatorsItem}
use Rattle.pg_grammar_value.specs.declared.trail.AppliedOperator.{AppliedOperator}
use Rattle.pg_language.specs.Runs.{IsOperatorAt}
use Rattle.pg_trail_replay.specs.declared.replay_fault.Mismatch.TheVariants.{TextDiffers}
use Rattle.pg_language.specs.Derives.{Spot, at, Link, Derives, DerivesParts, DerivesRounds, DerivesLinks, no_part, first_part}
use Rattle.pg_language.proofs.Onward.{leads_on}
use Rattle.pg_trail_replay.specs.Refusals.{Stop, stop, if_no_item, still_entered, Refuses, RefusesParts, RefusesRounds, RefusesLinks}
use Rattle.pg_trail_replay.specs.Tasks.{Looseness, tight, apart, only_text, dropped, Chain, RoundStart, OnTask, node, parts, rounds, more_rounds, links, operand, linked, settle, fold, marked, operator_symbol, application, unmark, close, leave, Setting, under_marks, loosened, State, Turn, on, stops, ended, is_steady, folded_after, first_mark, marks_after, applied_after, closed_table, closed_forest, without_newest}
use Rattle.pg_trail_replay.proofs.ChainTrees.{chained, chained_from, chained_on}
use Rattle.pg_trail_replay.proofs.Alike.{Alike, AreAlike}
use Rattle.pg_expand_fitting.proofs.Places.{if_true}

-- the tasks end at a spot, with a forest at this looseness and with items left, or they stop
pub data End : Type 0 where
  arrived : (loose : Looseness) → Spot → List Tree → List TrailItem → End
  halted : Stop → End

-- the task leads from the one spot and forest to the other, and takes these items; what it puts to the forest is alike what is derived
pub data Does (g : Grammar) (text : List ℕ) : Setting → Setting → OnTask → Spot → List Tree → Spot → List Tree → List TrailItem → Type 0 where
  does_node : {ms : Setting} {p : ℕ} {a b : Spot} {v w x : List Tree} {u : List TrailItem} → Derives g text p a b w u → Alike ms.loose x w → Does g text ms ms (node p) a v b (v ++ x) u
  does_parts : {ms : Setting} {ps : List ℕ} {a b : Spot} {v w x : List Tree} {u : List TrailItem} → DerivesParts g text ps a b w u → Alike ms.loose x w → Does g text ms ms (parts ps) a v b (v ++ x) u
  does_rounds : {ms : Setting} {p n : ℕ} {a b : Spot} {v w x : List Tree} {u : List TrailItem} → DerivesRounds g text p n a b w u → Alike ms.loose x w →
      Does g text ms ms (rounds p n) a v b (v ++ x) u
  does_more : {ms : Setting} {p n place trees count : ℕ} {a b : Spot} {v w x : List Tree} {u : List TrailItem} → DerivesRounds g text p n a b w u → Alike ms.loose x w →
      Does g text ms ms (more_rounds p n place trees count) a v b (v ++ x) u
  does_links : {ms : Setting} {c : Chain} {n trees : ℕ} {a b : Spot} {v : List Tree} {js ls : List Link} {u : List TrailItem} → DerivesLinks g text c.part c.separator n a b ls u → AreAlike c.used.shape ms.loose js ls →
      Does g text ms ms (links c n trees) a v b (chained c.side c.used.shape trees v js) u
  does_operand : {ms : Setting} {c : Chain} {n trees : ℕ} {from : RoundStart} {a b d : Spot} {v w x : List Tree} {js ls : List Link} {t u : List TrailItem} → Derives g text c.part a b w t → Alike ms.loose x w →
      DerivesLinks g text c.part c.separator n b d ls u → AreAlike c.used.shape ms.loose js ls → Does g text ms ms (operand c n trees from) a v d (chained_on c.side c.used.shape trees v x js) (t ++ u)
  does_linked : {ms : Setting} {c : Chain} {n trees later : ℕ} {from : RoundStart} {a b : Spot} {v : List Tree} {js ls : List Link} {u : List TrailItem} →
      DerivesLinks g text c.part c.separator n a b ls u → AreAlike c.used.shape ms.loose js ls → Does g text ms ms (linked c n trees later from) a v b (chained_from c.side c.used.shape trees later v js) u
  does_settle : {ms : Setting} {loose : Looseness} {a : Spot} {v : List Tree} → Does g text ms (loosened loose ms) (settle loose) a v a v []
  does_fold : {ms : Setting} {used : ChainBuilder} {trees : ℕ} {a : Spot} {v : List Tree} → Does g text ms ms (fold used trees) a v a (folded_after used.shape trees v) []
  does_close : {ms : Setting} {k : Around} {p from trees operators count : ℕ} {loose : Looseness} {a : Spot} {v : List Tree} →
      Does g text ms (loosened loose ms) (close k p from trees operators count loose) a v (record { place = a.place; table = closed_table k operators a.table }) (closed_forest k loose text from a.place trees v) []
  does_leave : {ms : Setting} {r place trees count : ℕ} {a : Spot} {v : List Tree} → Does g text ms ms (leave r place trees count) a v a v []
  does_term : {ms : Setting} {p : ℕ} {loose : Looseness} {a b : Spot} {v w x : List Tree} {u : List TrailItem} → Derives g text p a b w u → Alike loose x w →
      Does g text ms (loosened loose (under_marks (length v ∷ ms.marks) ms)) (marked p loose) a v b (v ++ x) u
  does_symbol : {ms : Setting} {item : OperatorsItem} {o : AppliedOperator} {a : Spot} {v : List Tree} {j : ℕ} → g.operators ≡ Some item → IsOperatorAt g text item o.symbol a.place j →
      Does g text ms ms (operator_symbol o) a v (at a j) v []
  does_application : {ms : Setting} {builders : OperatorBuilders} {o : AppliedOperator} {a : Spot} {v : List Tree} →
      Does g text ms (under_marks (marks_after o.fixity ms.marks) ms) (application builders o) a v a (applied_after builders o (first_mark (marks_after o.fixity ms.marks)) v) []
  does_unmark : {ms : Setting} {a : Spot} {v : List Tree} → Does g text ms (under_marks (without_newest ms.marks) ms) unmark a v a v []

-- the task stops
pub data RefusesTask (g : Grammar) (text : List ℕ) : List ℕ → OnTask → Spot → List TrailItem → Stop → Type 0 where
  refuses_node : {entered : List ℕ} {p : ℕ} {a : Spot} {items : List TrailItem} {s : Stop} → Refuses g text entered p a items s → RefusesTask g text entered (node p) a items s
  refuses_parts : {entered ps : List ℕ} {a : Spot} {items : List TrailItem} {s : Stop} → RefusesParts g text entered ps a items s → RefusesTask g text entered (parts ps) a items s
  refuses_rounds : {entered : List ℕ} {p n : ℕ} {a : Spot} {items : List TrailItem} {s : Stop} → RefusesRounds g text entered p n a items s → RefusesTask g text entered (rounds p n) a items s
  refuses_more : {entered : List ℕ} {p n place trees count : ℕ} {a : Spot} {items : List TrailItem} {s : Stop} → RefusesRounds g text entered p n a items s →
      RefusesTask g text entered (more_rounds p n place trees count) a items s
  refuses_links : {entered : List ℕ} {c : Chain} {n trees : ℕ} {a : Spot} {items : List TrailItem} {s : Stop} → RefusesLinks g text entered c.part c.separator n a items s →
      RefusesTask g text entered (links c n trees) a items s
  refuses_operand : {entered : List ℕ} {c : Chain} {n trees : ℕ} {from : RoundStart} {a : Spot} {items : List TrailItem} {s : Stop} → Refuses g text entered c.part a items s →
      RefusesTask g text entered (operand c n trees from) a items s
  refuses_after_operand : {entered : List ℕ} {c : Chain} {n trees : ℕ} {from : RoundStart} {a b : Spot} {w : List Tree} {t items : List TrailItem} {s : Stop} → Derives g text c.part a b w t →
      RefusesLinks g text (still_entered a b t entered) c.part c.separator n b items s → RefusesTask g text entered (operand c n trees from) a (t ++ items) s
  refuses_linked : {entered : List ℕ} {c : Chain} {n trees later : ℕ} {from : RoundStart} {a : Spot} {items : List TrailItem} {s : Stop} → RefusesLinks g text entered c.part c.separator n a items s →
      RefusesTask g text entered (linked c n trees later from) a items s
  refuses_term : {entered : List ℕ} {p : ℕ} {loose : Looseness} {a : Spot} {items : List TrailItem} {s : Stop} → Refuses g text entered p a items s → RefusesTask g text entered (marked p loose) a items s
  refuses_symbol : {entered : List ℕ} {o : AppliedOperator} {a : Spot} {items : List TrailItem} →
      ((item : OperatorsItem) (j : ℕ) → g.operators ≡ Some item → IsOperatorAt g text item o.symbol a.place j → ⊥) → RefusesTask g text entered (operator_symbol o) a items (stop TextDiffers a items)

-- the rules that are open after the task
abbrev pub entered_after : OnTask → Spot → Spot → List TrailItem → List ℕ → List ℕ
entered_after (node p) a b u entered = still_entered a b u entered
entered_after (parts ps) a b u entered = still_entered a b u entered
entered_after (rounds p n) a b u entered = still_entered a b u entered
entered_after (more_rounds p n place trees count) a b u entered = still_entered a b u entered
entered_after (links c n trees) a b u entered = still_entered a b u entered
entered_after (operand c n trees from) a b u entered = still_entered a b u entered
entered_after (linked c n trees later from) a b u entered = still_entered a b u entered
entered_after (settle loose) a b u entered = entered
entered_after (fold used trees) a b u entered = entered
entered_after (close k p from trees operators count loose) a b u entered = entered
entered_after (marked p loose) a b u entered = still_entered a b u entered
entered_after (operator_symbol o) a b u entered = still_entered a b u entered
entered_after (application builders o) a b u entered = entered
entered_after unmark a b u entered = entered
entered_after (leave r place trees count) a b u entered = without_newest entered

-- the numbers of trees are equal, unless at most their text reaches the result
abbrev pub AsMany : Looseness → ℕ → ℕ → Type 0
AsMany tight trees count = trees ≡ count
AsMany (apart label) trees count = trees ≡ count
AsMany only_text trees count = Unit {0}
AsMany dropped trees count = Unit {0}

-- a round that began there took nothing and gave nothing that can't be left out, and what the chain makes stays as it is
pub record IsIdle (loose : Looseness) (shape : Shape) (from : RoundStart) (a : Spot) (v : List Tree) (items : List TrailItem) : Type 0 where
  pub steady : is_steady shape loose ≡ true
  pub place : from.place ≡ a.place
  pub many : AsMany loose from.trees (length v)
  pub counted : from.items ≡ length items

-- the tasks lead to this end
pub data Leads (g : Grammar) (text : List ℕ) : Setting → List OnTask → List ℕ → Spot → List Tree → List TrailItem → End → Type 0 where
  no_task : {ms : Setting} {entered : List ℕ} {a : Spot} {v : List Tree} {items : List TrailItem} → Leads g text ms [] entered a v items (arrived ms.loose a v items)
  does : {ms ns : Setting} {t : OnTask} {ts : List OnTask} {entered : List ℕ} {a b : Spot} {v x : List Tree} {u items : List TrailItem} {e : End} → Does g text ms ns t a v b x u →
      Leads g text ns ts (entered_after t a b u entered) b x items e → Leads g text ms (t ∷ ts) entered a v (u ++ items) e
  refuses : {ms : Setting} {t : OnTask} {ts : List OnTask} {entered : List ℕ} {a : Spot} {v : List Tree} {items : List TrailItem} {s : Stop} → RefusesTask g text entered t a items s →
      Leads g text ms (t ∷ ts) entered a v items (halted s)
  -- the rounds left take nothing, and give nothing that can't be left out, as the one before them did
  over : {ms : Setting} {p n place trees count : ℕ} {ts : List OnTask} {entered : List ℕ} {a : Spot} {v : List Tree} {items : List TrailItem} {e : End} → place ≡ a.place → AsMany ms.loose trees (length v) →
      count ≡ length items → Leads g text ms ts entered a v items e → Leads g text ms (more_rounds p n place trees count ∷ ts) entered a v items e
  -- so they do in a chain, where what it makes stays as it is
  idle : {ms : Setting} {c : Chain} {n trees later : ℕ} {from : RoundStart} {ts : List OnTask} {entered : List ℕ} {a : Spot} {v : List Tree} {items : List TrailItem} {e : End} →
      IsIdle ms.loose c.used.shape from a v items → Leads g text ms ts entered a (folded_after c.used.shape trees v) items e → Leads g text ms (linked c n trees later from ∷ ts) entered a v items e
  idle_after : {ms : Setting} {c : Chain} {n trees : ℕ} {from : RoundStart} {ts : List OnTask} {entered : List ℕ} {a b : Spot} {v w x : List Tree} {t items : List TrailItem} {e : End} →
      Derives g text c.part a b w t → Alike ms.loose x w → IsIdle ms.loose c.used.shape from b (v ++ x) items →
      Leads g text ms ts (still_entered a b t entered) b (folded_after c.used.shape trees (v ++ x)) items e → Leads g text ms (operand c n trees from ∷ ts) entered a v (t ++ items) e

abbrev pub spot_of : State → Spot
spot_of s = record { place = s.place; table = s.table }

-- a state leads to this end
abbrev pub StateLeads : Grammar → List ℕ → State → End → Type 0
StateLeads g text s e = Leads g text s.setting s.tasks s.entered (spot_of s) s.forest s.rest e

-- this task before the state's does
abbrev pub TaskLeads : Grammar → List ℕ → OnTask → State → End → Type 0
TaskLeads g text t s e = Leads g text s.setting (t ∷ s.tasks) s.entered (spot_of s) s.forest s.rest e

-- what a task leads to is what comes of its turn
abbrev pub Follows : Grammar → List ℕ → OnTask → State → Turn → Type 0
Follows g text t s (on after) = (e : End) → StateLeads g text after e → TaskLeads g text t s e
Follows g text t s (stops why place rest) = TaskLeads g text t s (halted (record { why = why; place = place; rest = rest }))
Follows g text t s (ended after) = ⊥

-- ---- choices by a test

pub follows_if : (g : Grammar) (text : List ℕ) (t : OnTask) (s : State) (b : Bool) (x y : Turn) → (b ≡ true → Follows g text t s x) → (b ≡ false → Follows g text t s y) →
    Follows g text t s (if b then x else y)
follows_if g text t s true x y h k = h refl
follows_if g text t s false x y h k = k refl

-- ---- rules that are open

pub none_entered : (u : List TrailItem) → if_no_item u [] ≡ []
none_entered [] = refl
none_entered (i ∷ u) = refl

pub still_none : (a b : Spot) (u : List TrailItem) → still_entered a b u [] ≡ []
still_none a b u = go (a.place == b.place)
  where
    go : (q : Bool) → (if q then if_no_item u [] else []) ≡ []
    go true = none_entered u
    go false = refl

pub still_after_item : (a b : Spot) (i : TrailItem) (u : List TrailItem) (entered : List ℕ) → still_entered a b (i ∷ u) entered ≡ []
still_after_item a b i u entered = go (a.place == b.place)
  where
    go : (q : Bool) → (if q then if_no_item (i ∷ u) entered else []) ≡ []
    go true = refl
    go false = refl

pub still_here : (a : Spot) (entered : List ℕ) → still_entered a a [] entered ≡ entered
still_here a entered = if_true (a.place == a.place) entered [] (eq-eqb a.place a.place refl)

joined_items : (x y : List TrailItem) (entered : List ℕ) → if_no_item y (if_no_item x entered) ≡ if_no_item (x ++ y) entered
joined_items [] y entered = refl
joined_items (i ∷ x) y entered = none_entered y

pub still_twice : (a b c : Spot) (x y : List TrailItem) (entered : List ℕ) → a.place ≤ b.place → b.place ≤ c.place →
    still_entered b c y (still_entered a b x entered) ≡ still_entered a c (x ++ y) entered
still_twice a b c x y entered low high = go (a.place == b.place) (b.place == c.place) (a.place == c.place) refl refl refl
  where
    go : (p q r : Bool) → (a.place == b.place) ≡ p → (b.place == c.place) ≡ q → (a.place == c.place) ≡ r →
        (if q then if_no_item y (if p then if_no_item x entered else []) else []) ≡ (if r then if_no_item (x ++ y) entered else [])
    go true true true e f h = joined_items x y entered
    go true true false e f h = let m : a.place ≡ b.place = eqb-true _ _ e in let n : b.place ≡ c.place = eqb-true _ _ f in let k = eq-eqb a.place c.place (m ∙ n) in absurd cc
    go true false true e f h = let m : a.place ≡ b.place = eqb-true _ _ e in let n : a.place ≡ c.place = eqb-true _ _ h in let k = eq-eqb b.place c.place (sym m ∙ n) in absurd cc
    go true false false e f h = refl
    go false true true e f h = let m : b.place ≡ c.place = eqb-true _ _ f in let n : a.place ≡ c.place = eqb-true _ _ h in let k = eq-eqb a.place b.place (n ∙ sym m) in absurd cc
    go false true false e f h = none_entered y
    go false false true e f h = let n : a.place ≡ c.place = eqb-true _ _ h in let m : a.place ≡ b.place = omega arith in let k = eq-eqb a.place b.place m in absurd cc
    go false false false e f h = refl

-- ---- places go on

pub parts_onward : {g : Grammar} {text : List ℕ} {ps : List ℕ} {a b : Spot} {w : List Tree} {u : List TrailItem} → DerivesParts g text ps a b w u → a.place ≤ b.place
parts_onward no_part = omega arith
parts_onward (first_part d ds) = let h = (leads_on d).onward in let k = parts_onward ds in omega arith
