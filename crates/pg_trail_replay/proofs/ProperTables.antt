-- In every table that a replay reaches, each operator can be declared, and its symbol and side identify it.
use Rattle.std.proofs.Common.{◌≡◌, ◌⊎◌, ◌==◌, ℕ, zero, suc, Bool, true, false, ◌&&◌, ◌||◌, List, [], ◌∷◌, ◌++◌, take, inl, inr, refl, sym, ap, ◌∙◌, if◌then◌else◌}
use Rattle.std.specs.Prelude.{Option, None, Some, slice_get}
use Rattle.std.specs.List.{AllByRecursion}
use Rattle.pg_grammar_form.specs.Operators.{Operator, IsOperator}
use Rattle.pg_grammar_form.specs.Forms.{Node}
use Rattle.pg_grammar_form.specs.declared.class.ClassPart.{ClassPart}
use Rattle.pg_grammar_form.specs.declared.form.Form.TheVariants as form
use Rattle.pg_grammar_form.specs.declared.form.Leaf.{Leaf}
use Rattle.pg_grammar_form.specs.declared.form.Leaf.TheVariants as read
use Rattle.pg_grammar_form.specs.declared.form.Around.{Around}
use Rattle.pg_grammar_form.specs.declared.form.Around.TheVariants as kind
use Rattle.pg_grammar_form.specs.declared.side.Side.{Side}
use Rattle.pg_grammar_form.specs.declared.side.Side.TheVariants.{Left, Right}
use Rattle.pg_grammar_form.specs.declared.operators_item.OperatorsItem.{OperatorsItem}
use Rattle.pg_grammar_form.specs.declared.used.OperatorBuilders.{OperatorBuilders}
use Rattle.pg_grammar_value.specs.Grammar.{Grammar}
use Rattle.pg_grammar_value.specs.declared.grammar.Rule as declared_rule
use Rattle.pg_grammar_value.specs.declared.trail.AppliedOperator.{AppliedOperator}
use Rattle.pg_grammar_value.specs.declared.trail.TrailItem.{TrailItem}
use Rattle.pg_grammar_value.specs.declared.trail.TrailItem.TheVariants.{Alt, Rounds, Ops}
use Rattle.pg_table.specs.Fitting.{IsAmong}
use Rattle.pg_table.specs.Tables.{Table, IsTable, is_prefix, admit_fault, Admits, with_operator, first_operators, ComesFrom}
use Rattle.pg_table.specs.declared.admit_fault.AdmitFault.{AdmitFault}
use Rattle.pg_expand.proofs.Members.{Among, among_either}
use Rattle.pg_expand.proofs.Levels.{to_member, from_member}
use Rattle.pg_expand.proofs.Symbols.{told_table, new_symbol}
use Rattle.pg_expand_fitting.specs.Steps.{Step, AreTold}
use Rattle.pg_expand_fitting.specs.Judge.{known_in, judgement}
use Rattle.pg_language.specs.Declarations.{Declaration, no_keyword, no_digit, no_symbol, declared, declaration_at}
use Rattle.pg_language.proofs.DeclarationsDerived.{declaration_stands}
use Rattle.pg_language.proofs.DeclarationsDerived.{Stands as IsStanding}
use Rattle.pg_trail_replay.specs.Tasks.{Chain, OnTask, node, parts, rounds, more_rounds, links, operand, linked, settle, fold, marked, operator_symbol, application, unmark, close, leave, State, Turn, on, stops, ended, takes, stays_if, declares, declared_turn, declare_turn, leaf_turn, part_turn, choice_turn, many_turn, chain_turn, steps_turn, operators_turn, expression_turn, operator_end, ended_turn, symbol_turn, is_place, is_known, is_entered, rule_turn, around_turn, form_turn, node_turn, parts_turn, is_unchanged, is_idle, with_links, closed_table, turn, turn_by, with_tasks}

pub record IsProper (table : Table) : Type 0 where
  pub told : AreTold table.operators
  pub digits : AllByRecursion IsOperator table.operators

-- ---- tables of a grammar

pub proper_table : (g : Grammar) (table : Table) → ComesFrom g table → IsTable table → IsProper table
proper_table g table comes is = record {
  told = λ o p m n side symbol. told_table g table comes o p (to_member table.operators o m) (to_member table.operators p n) side symbol;
  digits = is.operators;
}

-- ---- an operator more

told_with : (table : Table) (d : Operator) → AreTold table.operators → Admits table d → AreTold (table.operators ++ d ∷ [])
told_with table d told admits o p m n side symbol =
    by_place (among_either o table.operators (d ∷ []) (to_member (table.operators ++ d ∷ []) o m)) (among_either p table.operators (d ∷ []) (to_member (table.operators ++ d ∷ []) p n))
  where
    by_place : Among o table.operators ⊎ Among o (d ∷ []) → Among p table.operators ⊎ Among p (d ∷ []) → o ≡ p
    by_place (inl a) (inl b) = told o p (from_member table.operators o a) (from_member table.operators p b) side symbol
    by_place (inl a) (inr (inl e)) = absurd (new_symbol table d o admits a (side ∙ ap (λ (q : Operator). is_prefix q.role) e) (symbol ∙ ap (λ (q : Operator). q.symbol) e))
    by_place (inl a) (inr (inr b)) = absurd b
    by_place (inr (inl e)) (inl b) = absurd (new_symbol table d p admits b (sym side ∙ ap (λ (q : Operator). is_prefix q.role) e) (sym symbol ∙ ap (λ (q : Operator). q.symbol) e))
    by_place (inr (inl e)) (inr (inl h)) = e ∙ sym h
    by_place (inr (inl e)) (inr (inr b)) = absurd b
    by_place (inr (inr a)) b = absurd a

digits_with : (os : List Operator) (d : Operator) → AllByRecursion IsOperator os → IsOperator d → AllByRecursion IsOperator (os ++ d ∷ [])
digits_with [] d all h = (h, tt)
digits_with (o ∷ os) d all h = (all.0, digits_with os d all.1 h)

pub proper_with : (table : Table) (d : Operator) → IsProper table → Admits table d → IsOperator d → IsProper (with_operator table d)
proper_with table d h admits is = record { told = told_with table d h.told admits; digits = digits_with table.operators d h.digits is }

-- ---- fewer operators

among_first : (k : ℕ) (os : List Operator) (o : Operator) → Among o (take k os) → Among o os
among_first zero os o m = absurd m
among_first (suc k) [] o m = absurd m
among_first (suc k) (p ∷ os) o (inl e) = inl e
among_first (suc k) (p ∷ os) o (inr m) = inr (among_first k os o m)

digits_first : (k : ℕ) (os : List Operator) → AllByRecursion IsOperator os → AllByRecursion IsOperator (take k os)
digits_first zero os all = tt
digits_first (suc k) [] all = tt
digits_first (suc k) (o ∷ os) all = (all.0, digits_first k os all.1)

proper_first : (k : ℕ) (table : Table) → IsProper table → IsProper (first_operators k table)
proper_first k table h = record {
  told = λ o p m n side symbol. h.told o p (first o m) (first p n) side symbol;
  digits = digits_first k table.operators h.digits;
}
  where
    first : (o : Operator) → IsAmong (take k table.operators) o → IsAmong table.operators o
    first o m = from_member table.operators o (among_first k table.operators o (to_member (take k table.operators) o m))

-- ---- turns

-- the table after a turn is proper
abbrev pub ProperTurn : Turn → Type 0
ProperTurn (on s) = IsProper s.table
ProperTurn (stops why place rest) = Unit {0}
ProperTurn (ended s) = Unit {0}

proper_if : (b : Bool) (x y : Turn) → ProperTurn x → ProperTurn y → ProperTurn (if b then x else y)
proper_if true x y h k = h
proper_if false x y h k = k

module _ (g : Grammar) (text : List ℕ) where
  takes_proper : (n : Option ℕ) (s : State) → IsProper s.table → ProperTurn (takes text n s)
  takes_proper None s h = tt
  takes_proper (Some n) s h = h

  stays_proper : (b : Bool) (s : State) → IsProper s.table → ProperTurn (stays_if b s)
  stays_proper true s h = h
  stays_proper false s h = tt

  declares_proper : (d : Operator) (j : ℕ) (fault : Option AdmitFault) (s : State) → admit_fault s.table d ≡ fault → IsOperator d → IsProper s.table → ProperTurn (declares d j fault s)
  declares_proper d j (Some fault) s e is h = tt
  declares_proper d j None s e is h = proper_with s.table d h e is

  declared_proper : (class : List ClassPart) (item : OperatorsItem) (x : Declaration) (s : State) → IsStanding g text item class s.place x → IsProper s.table → ProperTurn (declared_turn x s)
  declared_proper class item no_keyword s is h = tt
  declared_proper class item (no_digit i) s is h = tt
  declared_proper class item (no_symbol i) s is h = tt
  declared_proper class item (declared d i j) s is h = declares_proper d j (admit_fault s.table d) s refl (record { digit = is.precedence; spelled = is.spelled }) h

  declare_proper : (class : List ClassPart) (item : Option OperatorsItem) (s : State) → IsProper s.table → ProperTurn (declare_turn g text class item s)
  declare_proper class None s h = tt
  declare_proper class (Some item) s h = declared_proper class item (declaration_at g text item class s.place) s (declaration_stands g text item class s.place) h

  leaf_proper : (l : Leaf ℕ) (s : State) → IsProper s.table → ProperTurn (leaf_turn g text l s)
  leaf_proper (read.Satisfy class) s h = takes_proper _ s h
  leaf_proper (read.String characters) s h = takes_proper _ s h
  leaf_proper (read.Word w) s h = takes_proper _ s h
  leaf_proper (read.NotFollowedBy class) s h = stays_proper _ s h
  leaf_proper read.EndOfText s h = stays_proper _ s h
  leaf_proper (read.Declare class) s h = declare_proper class g.operators s h

  part_proper : (q : Option ℕ) (rest : List TrailItem) (s : State) → IsProper s.table → ProperTurn (part_turn q rest s)
  part_proper None rest s h = tt
  part_proper (Some q) rest s h = h

  choice_proper : (ps : List ℕ) (items : List TrailItem) (s : State) → IsProper s.table → ProperTurn (choice_turn ps items s)
  choice_proper ps [] s h = tt
  choice_proper ps (Alt k ∷ rest) s h = proper_if (k == 0) _ _ tt (part_proper _ rest s h)
  choice_proper ps (Rounds n ∷ rest) s h = tt
  choice_proper ps (Ops o ∷ rest) s h = tt

  many_proper : (p : ℕ) (items : List TrailItem) (s : State) → IsProper s.table → ProperTurn (many_turn p items s)
  many_proper p [] s h = tt
  many_proper p (Alt k ∷ rest) s h = tt
  many_proper p (Rounds n ∷ rest) s h = h
  many_proper p (Ops o ∷ rest) s h = tt

  chain_proper : (c : Chain) (items : List TrailItem) (s : State) → IsProper s.table → ProperTurn (chain_turn c items s)
  chain_proper c [] s h = tt
  chain_proper c (Alt k ∷ rest) s h = tt
  chain_proper c (Rounds n ∷ rest) s h = h
  chain_proper c (Ops o ∷ rest) s h = tt

  steps_proper : (builders : OperatorBuilders) (p : ℕ) (steps : Option (List Step)) (rest : List TrailItem) (s : State) → IsProper s.table → ProperTurn (steps_turn builders p steps rest s)
  steps_proper builders p None rest s h = tt
  steps_proper builders p (Some steps) rest s h = h

  operators_proper : (item : Option OperatorsItem) (builders : OperatorBuilders) (p : ℕ) (os : List AppliedOperator) (rest : List TrailItem) (s : State) → IsProper s.table →
      ProperTurn (operators_turn item builders p os rest s)
  operators_proper None builders p os rest s h = tt
  operators_proper (Some item) builders p os rest s h = steps_proper builders p (judgement (known_in s.table.operators) os) rest s h

  expression_proper : (builders : OperatorBuilders) (p : ℕ) (items : List TrailItem) (s : State) → IsProper s.table → ProperTurn (expression_turn g builders p items s)
  expression_proper builders p [] s h = tt
  expression_proper builders p (Alt k ∷ rest) s h = tt
  expression_proper builders p (Rounds n ∷ rest) s h = tt
  expression_proper builders p (Ops os ∷ rest) s h = operators_proper g.operators builders p os rest s h

  rule_proper : (r : ℕ) (named : Option declared_rule.Rule) (s : State) → IsProper s.table → ProperTurn (rule_turn r named s)
  rule_proper r None s h = tt
  rule_proper r (Some named) s h = proper_if (is_known r s) _ _ h (proper_if (is_entered r s.entered) _ _ tt h)

  around_proper : (k : Around) (p q : ℕ) (s : State) → IsProper s.table → ProperTurn (around_turn k p q s)
  around_proper k p q s h = proper_if (is_place s.place (slice_get s.blank p)) _ _ h h

  form_proper : (p : ℕ) (n : Node) (s : State) → IsProper s.table → ProperTurn (form_turn g text p n s)
  form_proper p (form.Leaf l) s h = leaf_proper l s h
  form_proper p (form.Seq ps) s h = h
  form_proper p (form.Choice ps) s h = choice_proper ps s.rest s h
  form_proper p (form.Many q) s h = many_proper q s.rest s h
  form_proper p (form.Chain side used q r) s h = chain_proper (record { side = side; used = used; part = q; separator = r }) s.rest s h
  form_proper p (form.Rule r) s h = rule_proper r (slice_get g.rules r) s h
  form_proper p (form.Expression builders q) s h = expression_proper builders q s.rest s h
  form_proper p (form.Around k q) s h = around_proper k p q s h

  node_proper : (p : ℕ) (n : Option Node) (s : State) → IsProper s.table → ProperTurn (node_turn g text p n s)
  node_proper p None s h = tt
  node_proper p (Some n) s h = form_proper p n s h

  parts_proper : (ps : List ℕ) (s : State) → IsProper s.table → ProperTurn (parts_turn ps s)
  parts_proper [] s h = h
  parts_proper (p ∷ ps) s h = h

  links_proper : (side : Side) (c : Chain) (n trees later : ℕ) (s : State) → IsProper s.table → IsProper (with_links side c n trees later s).table
  links_proper Left c n trees later s h = h
  links_proper Right c n trees later s h = h

  ended_proper : (j : Option ℕ) (s : State) → IsProper s.table → ProperTurn (ended_turn j s)
  ended_proper None s h = tt
  ended_proper (Some j) s h = h

  symbol_proper : (item : Option OperatorsItem) (o : AppliedOperator) (s : State) → IsProper s.table → ProperTurn (symbol_turn g text item o s)
  symbol_proper None o s h = tt
  symbol_proper (Some item) o s h = ended_proper (operator_end g text item o.symbol s.place) s h

  close_proper : (k : Around) (operators : ℕ) (table : Table) → IsProper table → IsProper (closed_table k operators table)
  close_proper kind.Try operators table h = h
  close_proper kind.Text operators table h = h
  close_proper kind.Skip operators table h = h
  close_proper (kind.Build used symbol) operators table h = h
  close_proper (kind.Label message) operators table h = h
  close_proper kind.Local operators table h = proper_first operators table h

  turn_proper : (t : OnTask) (s : State) → IsProper s.table → ProperTurn (turn g text t s)
  turn_proper (node p) s h = node_proper p (slice_get g.nodes p) s h
  turn_proper (parts ps) s h = parts_proper ps s h
  turn_proper (rounds p n) s h = proper_if (n == 0) _ _ h h
  turn_proper (more_rounds p n place trees items) s h = proper_if (is_unchanged place trees items s) _ _ h (proper_if (n == 0) _ _ h h)
  turn_proper (links c n trees) s h = proper_if (n == 0) _ _ h h
  turn_proper (operand c n trees from) s h = h
  turn_proper (linked c n trees later from) s h = proper_if (is_idle c.used.shape from s) _ _ h (links_proper c.side c n trees later s h)
  turn_proper (settle loose) s h = h
  turn_proper (fold used trees) s h = h
  turn_proper (close k p place trees operators items loose) s h = close_proper k operators s.table h
  turn_proper (marked p loose) s h = h
  turn_proper (operator_symbol o) s h = symbol_proper g.operators o s h
  turn_proper (application builders o) s h = h
  turn_proper unmark s h = h
  turn_proper (leave r place trees items) s h = h

  pub next_proper : (ts : List OnTask) (s : State) → IsProper s.table → ProperTurn (turn_by g text ts s)
  next_proper [] s h = tt
  next_proper (t ∷ ts) s h = turn_proper t (with_tasks ts s) h
