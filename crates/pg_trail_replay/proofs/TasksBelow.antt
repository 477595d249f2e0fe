-- A turn doesn't look at the tasks after the one that is performed, and adds an end of a rule only where it enters one.
use Rattle.std.proofs.Common.{◌≡◌, ◌==◌, ◌-◌, ℕ, Bool, true, false, not, List, [], ◌∷◌, ◌++◌, length, refl, sym, ap, append_assoc, if◌then◌else◌}
use Rattle.std.specs.Prelude.{Option, Some, None, slice_get}
use Rattle.pg_grammar_form.specs.Operators.{Operator}
use Rattle.pg_grammar_form.specs.Forms.{Node}
use Rattle.pg_grammar_form.specs.declared.class.ClassPart.{ClassPart}
use Rattle.pg_grammar_form.specs.declared.form.Form.TheVariants as form
use Rattle.pg_grammar_form.specs.declared.form.Leaf.{Leaf}
use Rattle.pg_grammar_form.specs.declared.form.Leaf.TheVariants as read
use Rattle.pg_grammar_form.specs.declared.form.Around.{Around}
use Rattle.pg_grammar_form.specs.declared.side.Side.{Side}
use Rattle.pg_grammar_form.specs.declared.side.Side.TheVariants.{Left, Right}
use Rattle.pg_grammar_form.specs.declared.used.OperatorBuilders.{OperatorBuilders}
use Rattle.pg_grammar_form.specs.declared.operators_item.OperatorsItem.{OperatorsItem}
use Rattle.pg_grammar_value.specs.Grammar.{Grammar}
use Rattle.pg_grammar_value.specs.declared.grammar.Rule as declared_rule
use Rattle.pg_grammar_value.specs.declared.trail.AppliedOperator.{AppliedOperator}
use Rattle.pg_grammar_value.specs.declared.trail.TrailItem.{TrailItem}
use Rattle.pg_grammar_value.specs.declared.trail.TrailItem.TheVariants.{Alt, Rounds, Ops}
use Rattle.pg_table.specs.Tables.{admit_fault}
use Rattle.pg_table.specs.declared.admit_fault.AdmitFault.{AdmitFault}
use Rattle.pg_expand_fitting.specs.Steps.{Step, a_term, a_symbol, an_application}
use Rattle.pg_expand_fitting.specs.Judge.{known_in, judgement}
use Rattle.pg_language.specs.Declarations.{Declaration, no_keyword, no_digit, no_symbol, declared, declaration_at}
use Rattle.pg_trail_replay.specs.Tasks.{Looseness, Known, Chain, RoundStart, OnTask, node, parts, rounds, more_rounds, links, operand, linked, settle, fold, marked, operator_symbol, application, unmark, close, leave, loosened, State, Turn, on, stops, ended, next_in, satisfied, spelled, word_by, takes, stays_if, declares, declared_turn, declare_turn, leaf_turn, part_turn, choice_turn, many_turn, after_item, chain_turn, newest_waiting, waiting, step_tasks, steps_turn, operators_turn, expression_turn, operator_end, ended_turn, symbol_turn, is_place, is_known, known_after, is_entered, rule_turn, inside_form, around_turn, blank_after, form_turn, node_turn, parts_turn, rounds_turn, is_unchanged, links_turn, with_links, is_idle, linked_turn, with_tasks, turn}
use Rattle.pg_trail_replay.proofs.Open.{AreTrueAfter, entered_true}

-- the turn, with further tasks after those that it leaves
abbrev pub below : List OnTask → Turn → Turn
below ts (on s) = on (with_tasks (s.tasks ++ ts) s)
below ts (stops why place rest) = stops why place rest
below ts (ended s) = ended s

-- the state, with no task
abbrev pub bare : State → State
bare s = with_tasks [] s

-- what the turn records about the ends of rules is true, and this is known about rules after it
abbrev pub TellsTruly : Grammar → List ℕ → List (Option Known) → List (Option ℕ) → Turn → Type 0
TellsTruly g text known blank (on s) = AreTrueAfter g text (bare s) [] s.tasks × ((s.known ≡ known) × (s.blank ≡ blank))
TellsTruly g text known blank (stops why place rest) = Unit {0}
TellsTruly g text known blank (ended s) = Unit {0}

-- what is known after a task
abbrev pub known_by : OnTask → State → List (Option Known)
known_by (leave r place trees items) s = known_after r place trees items s
known_by _ s = s.known

abbrev pub blank_by : OnTask → State → List (Option ℕ)
blank_by (close k p place trees operators items loose) s = blank_after k p place items s
blank_by _ s = s.blank

module _ (g : Grammar) (text : List ℕ) where
  -- a turn for any tasks after the one that is performed
  abbrev pub Goes : List (Option Known) → List (Option ℕ) → (List OnTask → Turn) → Type 0
  Goes known blank x = ((ts : List OnTask) → x ts ≡ below ts (x [])) × TellsTruly g text known blank (x [])

  goes_if : (known : List (Option Known)) (blank : List (Option ℕ)) (b : Bool) (x y : List OnTask → Turn) → Goes known blank x → Goes known blank y → Goes known blank (λ ts. if b then x ts else y ts)
  goes_if known blank true x y h k = h
  goes_if known blank false x y h k = k

  takes_goes : (count : Option ℕ) (s : State) → Goes s.known s.blank (λ ts. takes text count (with_tasks ts s))
  takes_goes None s = (λ ts. refl, tt)
  takes_goes (Some n) s = (λ ts. refl, (tt, (refl, refl)))

  stays_goes : (b : Bool) (s : State) → Goes s.known s.blank (λ ts. stays_if b (with_tasks ts s))
  stays_goes true s = (λ ts. refl, (tt, (refl, refl)))
  stays_goes false s = (λ ts. refl, tt)

  declares_goes : (d : Operator) (j : ℕ) (fault : Option AdmitFault) (s : State) → Goes s.known s.blank (λ ts. declares d j fault (with_tasks ts s))
  declares_goes d j (Some fault) s = (λ ts. refl, tt)
  declares_goes d j None s = (λ ts. refl, (tt, (refl, refl)))

  declared_goes : (x : Declaration) (s : State) → Goes s.known s.blank (λ ts. declared_turn x (with_tasks ts s))
  declared_goes no_keyword s = (λ ts. refl, tt)
  declared_goes (no_digit i) s = (λ ts. refl, tt)
  declared_goes (no_symbol i) s = (λ ts. refl, tt)
  declared_goes (declared d i j) s = declares_goes d j (admit_fault s.table d) s

  declare_goes : (class : List ClassPart) (item : Option OperatorsItem) (s : State) → Goes s.known s.blank (λ ts. declare_turn g text class item (with_tasks ts s))
  declare_goes class None s = (λ ts. refl, tt)
  declare_goes class (Some item) s = declared_goes (declaration_at g text item class s.place) s

  leaf_goes : (l : Leaf ℕ) (s : State) → Goes s.known s.blank (λ ts. leaf_turn g text l (with_tasks ts s))
  leaf_goes (read.Satisfy class) s = takes_goes (satisfied g text class s.place) s
  leaf_goes (read.String characters) s = takes_goes (spelled text characters s.place) s
  leaf_goes (read.Word w) s = takes_goes (word_by g text s.place (slice_get g.words w)) s
  leaf_goes (read.NotFollowedBy class) s = stays_goes (not (next_in g class (slice_get text s.place))) s
  leaf_goes read.EndOfText s = stays_goes (s.place == length text) s
  leaf_goes (read.Declare class) s = declare_goes class g.operators s

  part_goes : (q : Option ℕ) (rest : List TrailItem) (s : State) → Goes s.known s.blank (λ ts. part_turn q rest (with_tasks ts s))
  part_goes None rest s = (λ ts. refl, tt)
  part_goes (Some q) rest s = (λ ts. refl, ((tt, tt), (refl, refl)))

  choice_goes : (ps : List ℕ) (items : List TrailItem) (s : State) → Goes s.known s.blank (λ ts. choice_turn ps items (with_tasks ts s))
  choice_goes ps [] s = (λ ts. refl, tt)
  choice_goes ps (Alt k ∷ rest) s = goes_if s.known s.blank (k == 0) _ _ (λ ts. refl, tt) (part_goes (slice_get ps (k - 1)) rest s)
  choice_goes ps (Rounds n ∷ rest) s = (λ ts. refl, tt)
  choice_goes ps (Ops o ∷ rest) s = (λ ts. refl, tt)

  many_goes : (p : ℕ) (items : List TrailItem) (s : State) → Goes s.known s.blank (λ ts. many_turn p items (with_tasks ts s))
  many_goes p [] s = (λ ts. refl, tt)
  many_goes p (Alt k ∷ rest) s = (λ ts. refl, tt)
  many_goes p (Rounds n ∷ rest) s = (λ ts. refl, ((tt, tt), (refl, refl)))
  many_goes p (Ops o ∷ rest) s = (λ ts. refl, tt)

  chain_goes : (c : Chain) (items : List TrailItem) (s : State) → Goes s.known s.blank (λ ts. chain_turn c items (with_tasks ts s))
  chain_goes c [] s = (λ ts. refl, tt)
  chain_goes c (Alt k ∷ rest) s = (λ ts. refl, tt)
  chain_goes c (Rounds n ∷ rest) s = (λ ts. refl, ((tt, (tt, (tt, tt))), (refl, refl)))
  chain_goes c (Ops o ∷ rest) s = (λ ts. refl, tt)

  -- the steps of an expression enter no rule
  steps_true : (builders : OperatorBuilders) (p : ℕ) (steps : List Step) (ls : List Looseness) (loose : Looseness) (s : State) (above : List OnTask) →
      AreTrueAfter g text s above (step_tasks builders p steps ls ++ (unmark ∷ settle loose ∷ []))
  steps_true builders p [] ls loose s above = (tt, (tt, tt))
  steps_true builders p (a_term ∷ steps) ls loose s above = (tt, steps_true builders p steps ls loose s (above ++ marked p (newest_waiting (waiting builders steps ls)) ∷ []))
  steps_true builders p (a_symbol o ∷ steps) ls loose s above = (tt, steps_true builders p steps ls loose s (above ++ operator_symbol o ∷ []))
  steps_true builders p (an_application o ∷ steps) ls loose s above = (tt, steps_true builders p steps ls loose s (above ++ application builders o ∷ []))

  steps_goes : (builders : OperatorBuilders) (p : ℕ) (steps : Option (List Step)) (rest : List TrailItem) (s : State) → Goes s.known s.blank (λ ts. steps_turn builders p steps rest (with_tasks ts s))
  steps_goes builders p None rest s = (λ ts. refl, tt)
  steps_goes builders p (Some steps) rest s = (
    λ ts. ap (λ l. on (with_tasks l (after_item rest s))) (sym (append_assoc (step_tasks builders p steps (s.setting.loose ∷ [])) (unmark ∷ settle s.setting.loose ∷ []) ts)),
    (steps_true builders p steps (s.setting.loose ∷ []) s.setting.loose (bare (after_item rest s)) [], (refl, refl)),
  )

  operators_goes : (item : Option OperatorsItem) (builders : OperatorBuilders) (p : ℕ) (os : List AppliedOperator) (rest : List TrailItem) (s : State) →
      Goes s.known s.blank (λ ts. operators_turn item builders p os rest (with_tasks ts s))
  operators_goes None builders p os rest s = (λ ts. refl, tt)
  operators_goes (Some item) builders p os rest s = steps_goes builders p (judgement (known_in s.table.operators) os) rest s

  expression_goes : (builders : OperatorBuilders) (p : ℕ) (items : List TrailItem) (s : State) → Goes s.known s.blank (λ ts. expression_turn g builders p items (with_tasks ts s))
  expression_goes builders p [] s = (λ ts. refl, tt)
  expression_goes builders p (Alt k ∷ rest) s = (λ ts. refl, tt)
  expression_goes builders p (Rounds n ∷ rest) s = (λ ts. refl, tt)
  expression_goes builders p (Ops os ∷ rest) s = operators_goes g.operators builders p os rest s

  rule_goes : (r : ℕ) (named : Option declared_rule.Rule) (s : State) → slice_get g.rules r ≡ named → Goes s.known s.blank (λ ts. rule_turn r named (with_tasks ts s))
  rule_goes r None s there = (λ ts. refl, tt)
  rule_goes r (Some named) s there = goes_if s.known s.blank (is_known r s) _ _ (λ ts. refl, (tt, (refl, refl)))
      (goes_if s.known s.blank (is_entered r s.entered) _ _ (λ ts. refl, tt)
      (λ ts. refl, ((tt, ((λ loose b x rest k. (named, there, entered_true g text named.body s.setting (r ∷ s.entered) (record { place = s.place; table = s.table }) loose b s.forest x s.rest rest k)), tt)), (refl, refl))))

  around_goes : (k : Around) (p q : ℕ) (s : State) → slice_get g.nodes p ≡ Some (form.Around k q) → Goes s.known s.blank (λ ts. around_turn k p q (with_tasks ts s))
  around_goes k p q s there = goes_if s.known s.blank (is_place s.place (slice_get s.blank p)) _ _ (λ ts. refl, (tt, (refl, refl)))
      (λ ts. refl, ((tt, ((λ loose b x rest m. (q, there, entered_true g text q (loosened (inside_form k s.setting.loose) s.setting) s.entered (record { place = s.place; table = s.table }) loose b s.forest x s.rest rest m)), tt)), (refl, refl)))

  form_goes : (p : ℕ) (n : Node) (s : State) → slice_get g.nodes p ≡ Some n → Goes s.known s.blank (λ ts. form_turn g text p n (with_tasks ts s))
  form_goes p (form.Leaf l) s there = leaf_goes l s
  form_goes p (form.Seq ps) s there = (λ ts. refl, ((tt, tt), (refl, refl)))
  form_goes p (form.Choice ps) s there = choice_goes ps s.rest s
  form_goes p (form.Many q) s there = many_goes q s.rest s
  form_goes p (form.Chain side used q r) s there = chain_goes (record { side = side; used = used; part = q; separator = r }) s.rest s
  form_goes p (form.Rule r) s there = rule_goes r (slice_get g.rules r) s refl
  form_goes p (form.Expression builders q) s there = expression_goes builders q s.rest s
  form_goes p (form.Around k q) s there = around_goes k p q s there

  node_goes : (p : ℕ) (n : Option Node) (s : State) → slice_get g.nodes p ≡ n → Goes s.known s.blank (λ ts. node_turn g text p n (with_tasks ts s))
  node_goes p None s there = (λ ts. refl, tt)
  node_goes p (Some n) s there = form_goes p n s there

  parts_goes : (ps : List ℕ) (s : State) → Goes s.known s.blank (λ ts. parts_turn ps (with_tasks ts s))
  parts_goes [] s = (λ ts. refl, (tt, (refl, refl)))
  parts_goes (p ∷ ps) s = (λ ts. refl, ((tt, (tt, tt)), (refl, refl)))

  rounds_goes : (p n : ℕ) (s : State) → Goes s.known s.blank (λ ts. rounds_turn p n (with_tasks ts s))
  rounds_goes p n s = goes_if s.known s.blank (n == 0) _ _ (λ ts. refl, (tt, (refl, refl))) (λ ts. refl, ((tt, (tt, tt)), (refl, refl)))

  links_goes : (c : Chain) (n trees : ℕ) (s : State) → Goes s.known s.blank (λ ts. links_turn c n trees (with_tasks ts s))
  links_goes c n trees s = goes_if s.known s.blank (n == 0) _ _ (λ ts. refl, (tt, (refl, refl))) (λ ts. refl, ((tt, (tt, tt)), (refl, refl)))

  more_links_go : (side : Side) (c : Chain) (n trees later : ℕ) (s : State) → Goes s.known s.blank (λ ts. on (with_links side c n trees later (with_tasks ts s)))
  more_links_go Left c n trees later s = (λ ts. refl, ((tt, (tt, tt)), (refl, refl)))
  more_links_go Right c n trees later s = (λ ts. refl, ((tt, (tt, tt)), (refl, refl)))

  linked_goes : (c : Chain) (n trees later : ℕ) (from : RoundStart) (s : State) → Goes s.known s.blank (λ ts. linked_turn c n trees later from (with_tasks ts s))
  linked_goes c n trees later from s = goes_if s.known s.blank (is_idle c.used.shape from s) _ _ (λ ts. refl, ((tt, tt), (refl, refl))) (more_links_go c.side c n trees later s)

  ended_goes : (j : Option ℕ) (s : State) → Goes s.known s.blank (λ ts. ended_turn j (with_tasks ts s))
  ended_goes None s = (λ ts. refl, tt)
  ended_goes (Some j) s = (λ ts. refl, (tt, (refl, refl)))

  symbol_goes : (item : Option OperatorsItem) (o : AppliedOperator) (s : State) → Goes s.known s.blank (λ ts. symbol_turn g text item o (with_tasks ts s))
  symbol_goes None o s = (λ ts. refl, tt)
  symbol_goes (Some item) o s = ended_goes (operator_end g text item o.symbol s.place) s

  pub turn_goes : (t : OnTask) (s : State) → Goes (known_by t s) (blank_by t s) (λ ts. turn g text t (with_tasks ts s))
  turn_goes (node p) s = node_goes p (slice_get g.nodes p) s refl
  turn_goes (parts ps) s = parts_goes ps s
  turn_goes (rounds p n) s = rounds_goes p n s
  turn_goes (more_rounds p n place trees items) s = goes_if s.known s.blank (is_unchanged place trees items s) _ _ (λ ts. refl, (tt, (refl, refl))) (rounds_goes p n s)
  turn_goes (links c n trees) s = links_goes c n trees s
  turn_goes (operand c n trees from) s = (λ ts. refl, ((tt, (tt, tt)), (refl, refl)))
  turn_goes (linked c n trees later from) s = linked_goes c n trees later from s
  turn_goes (settle loose) s = (λ ts. refl, (tt, (refl, refl)))
  turn_goes (fold used trees) s = (λ ts. refl, (tt, (refl, refl)))
  turn_goes (close k p place trees operators items loose) s = (λ ts. refl, (tt, (refl, refl)))
  turn_goes (marked p loose) s = (λ ts. refl, ((tt, tt), (refl, refl)))
  turn_goes (operator_symbol o) s = symbol_goes g.operators o s
  turn_goes (application builders o) s = (λ ts. refl, (tt, (refl, refl)))
  turn_goes unmark s = (λ ts. refl, (tt, (refl, refl)))
  turn_goes (leave r place trees items) s = (λ ts. refl, (tt, (refl, refl)))
