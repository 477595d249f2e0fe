-- A replay comes to an end: each turn takes a character or an item, or enters a rule that isn't open, or goes down a
-- rule's body, or ends a task. This holds from every state, whatever its tasks are.
use Rattle.std.proofs.Common.{◌≡◌, ◌==◌, ◌+◌, ◌-◌, ◌<◌, ◌≤◌, ◌≢◌, ℕ, zero, suc, Bool, true, false, not, List, [], ◌∷◌, ◌++◌, refl, ap, subst, eqb-true, eq-eqb, arith, if◌then◌else◌, length, take, drop}
use Rattle.std.specs.Prelude.{Option, Some, None, slice_get}
use Rattle.std.specs.List.{AllByRecursion}
use Rattle.std.proofs.lemmas.Option.{slice_get_within}
use Rattle.pg_tree.specs.Trees.{Tree}
use Rattle.pg_grammar_form.specs.Operators.{Operator}
use Rattle.pg_grammar_form.specs.Forms.{Node, parts_of, InPreorder}
use Rattle.pg_grammar_form.specs.declared.class.ClassPart.{ClassPart}
use Rattle.pg_grammar_form.specs.declared.form.Form.TheVariants as form
use Rattle.pg_grammar_form.specs.declared.form.Leaf.{Leaf}
use Rattle.pg_grammar_form.specs.declared.form.Leaf.TheVariants as read
use Rattle.pg_grammar_form.specs.declared.form.Around.{Around}
use Rattle.pg_grammar_form.specs.declared.side.Side.{Side}
use Rattle.pg_grammar_form.specs.declared.side.Side.TheVariants.{Left, Right}
use Rattle.pg_grammar_form.specs.declared.used.ChainBuilder.{ChainBuilder}
use Rattle.pg_grammar_form.specs.declared.used.OperatorBuilders.{OperatorBuilders}
use Rattle.pg_grammar_form.specs.declared.operators_item.OperatorsItem.{OperatorsItem}
use Rattle.pg_grammar_form.proofs.Each.{all-weaker}
use Rattle.pg_grammar_value.specs.Grammar.{Grammar}
use Rattle.pg_grammar_value.specs.declared.grammar.Rule as declared_rule
use Rattle.pg_grammar_value.specs.declared.trail.AppliedOperator.{AppliedOperator}
use Rattle.pg_grammar_value.specs.declared.trail.TrailItem.{TrailItem}
use Rattle.pg_grammar_value.specs.declared.trail.TrailItem.TheVariants.{Alt, Rounds, Ops}
use Rattle.pg_grammar_value.proofs.Numbers.{parts_are_after}
use Rattle.pg_table.specs.Tables.{Table, admit_fault, with_operator}
use Rattle.pg_table.specs.declared.admit_fault.AdmitFault.{AdmitFault}
use Rattle.pg_expand_fitting.specs.Steps.{Step}
use Rattle.pg_expand_fitting.specs.Judge.{known_in, judgement}
use Rattle.pg_language.specs.Declarations.{Declaration, no_keyword, no_digit, no_symbol, declared, declaration_at}
use Rattle.pg_language.specs.Derives.{leaf_of, declaration_tree}
use Rattle.pg_language.proofs.DeclarationsDerived.{declaration_stands}
use Rattle.pg_language.proofs.DeclarationsDerived.{Stands as IsStanding}
use Rattle.pg_trail_replay.specs.Tasks.{Looseness, Known, Chain, RoundStart, OnTask, node, parts, rounds, more_rounds, links, operand, linked, settle, fold, marked, operator_symbol, application, unmark, close, leave, Setting, under_marks, loosened, State, Turn, on, next_in, satisfied, spelled, word_by, takes, stays_if, declares, declared_turn, declare_turn, leaf_turn, part_turn, choice_turn, many_turn, inside_chain, chain_turn, step_tasks, steps_turn, operators_turn, expression_turn, operator_end, ended_turn, symbol_turn, applied_after, first_mark, marks_after, is_place, inside_form, blank_after, is_known, known_after, is_entered, rule_turn, form_turn, node_turn, rounds_turn, is_unchanged, round_start, links_turn, with_links, is_idle, folded_after, closed_table, closed_forest, without_newest, next_turn}
use Rattle.pg_trail_replay.specs.Halts.{first_state}
use Rattle.pg_trail_replay.specs.Turns.{ComesToLast, begun, Halts}
use Rattle.pg_trail_replay.proofs.FreeRules.{free, fewer_free}
use Rattle.pg_trail_replay.proofs.Items.{positive}
use Rattle.pg_trail_replay.proofs.Within.{IsAtMost, IsOnward, satisfied_within, spelled_within, word_within, declared_within, operator_within}

-- how many characters and items are left
abbrev left_at : List ℕ → ℕ → List TrailItem → ℕ
left_at text i items = (length text - i) + length items

abbrev state_at : ℕ → List TrailItem → List OnTask → Table → List Tree → List ℕ → Setting → List (Option Known) → List (Option ℕ) → State
state_at i items ts u v es ms kn bl = record { tasks = ts; place = i; table = u; forest = v; rest = items; entered = es; setting = ms; known = kn; blank = bl }

-- where fewer characters and items are left, the end comes
module _ (g : Grammar) (text : List ℕ) (preorder : InPreorder 0 g.nodes) (i : ℕ) (items : List TrailItem) (within : i ≤ length text)
    (smaller : (s : State) → s.place ≤ length text → left_at text s.place s.rest < left_at text i items → ComesToLast g text (on s)) where
  -- the tasks come to the end from here, with these rules open, whatever table, trees and operands there are
  abbrev Ends : List ℕ → List OnTask → Type 0
  Ends es ts = (u : Table) (v : List Tree) (ms : Setting) (kn : List (Option Known)) (bl : List (Option ℕ)) → ComesToLast g text (on (state_at i items ts u v es ms kn bl))

  -- so they do with this task before them
  abbrev Passes : List ℕ → OnTask → Type 0
  Passes es t = (ts : List OnTask) → Ends es ts → Ends es (t ∷ ts)

  next_ends : (s : State) → ComesToLast g text (next_turn g text s) → ComesToLast g text (on s)
  next_ends s h = (suc h.0, (refl, h.1))

  ends_if : (b : Bool) (x y : Turn) → (b ≡ true → ComesToLast g text x) → (b ≡ false → ComesToLast g text y) → ComesToLast g text (if b then x else y)
  ends_if true x y h k = h refl
  ends_if false x y h k = k refl

  -- ---- what takes a character or an item

  moved_ends : (j : ℕ) (ts : List OnTask) (u : Table) (v : List Tree) (es : List ℕ) (ms : Setting) (kn : List (Option Known)) (bl : List (Option ℕ)) → i ≤ j → j ≤ length text → Ends es ts →
      ComesToLast g text (on (state_at j items ts u v (if i == j then es else []) ms kn bl))
  moved_ends j ts u v es ms kn bl low high k = go (i == j) refl
    where
      go : (b : Bool) → (i == j) ≡ b → ComesToLast g text (on (state_at j items ts u v (if b then es else []) ms kn bl))
      go true e = subst (λ j. ComesToLast g text (on (state_at j items ts u v es ms kn bl))) (eqb-true i j e) (k u v ms kn bl)
      go false e =
          let other : i ≢ j = (λ h. let test = eq-eqb i j h in cc) in
          smaller (state_at j items ts u v [] ms kn bl) high (omega arith)

  item_ends : (item : TrailItem) (rest : List TrailItem) (ts : List OnTask) (u : Table) (v : List Tree) (ms : Setting) (kn : List (Option Known)) (bl : List (Option ℕ)) → items ≡ item ∷ rest →
      ComesToLast g text (on (state_at i rest ts u v [] ms kn bl))
  item_ends item rest ts u v ms kn bl e = let counted : length items ≡ suc (length rest) = ap length e in smaller (state_at i rest ts u v [] ms kn bl) within (omega arith)

  -- ---- leaves

  takes_ends : (count : Option ℕ) → IsAtMost (length text - i) count → (ts : List OnTask) (es : List ℕ) → Ends es ts → (u : Table) (v : List Tree) (ms : Setting) (kn : List (Option Known)) (bl : List (Option ℕ)) →
      ComesToLast g text (takes text count (state_at i items ts u v es ms kn bl))
  takes_ends None h ts es k u v ms kn bl = (0, refl)
  takes_ends (Some n) h ts es k u v ms kn bl = moved_ends (i + n) ts u (v ++ leaf_of (take n (drop i text)) ∷ []) es ms kn bl (omega arith) (omega arith) k

  stays_ends : (b : Bool) (ts : List OnTask) (es : List ℕ) → Ends es ts → (u : Table) (v : List Tree) (ms : Setting) (kn : List (Option Known)) (bl : List (Option ℕ)) → ComesToLast g text (stays_if b (state_at i items ts u v es ms kn bl))
  stays_ends true ts es k u v ms kn bl = k u v ms kn bl
  stays_ends false ts es k u v ms kn bl = (0, refl)

  declares_end : (d : Operator) (j : ℕ) (fault : Option AdmitFault) → (i < j) × (j ≤ length text) → (ts : List OnTask) (es : List ℕ) → Ends es ts → (u : Table) (v : List Tree) (ms : Setting) (kn : List (Option Known)) (bl : List (Option ℕ)) →
      ComesToLast g text (declares d j fault (state_at i items ts u v es ms kn bl))
  declares_end d j (Some fault) h ts es k u v ms kn bl = (0, refl)
  declares_end d j None h ts es k u v ms kn bl = let low = h.0 in moved_ends j ts (with_operator u d) (v ++ declaration_tree d ∷ []) es ms kn bl (omega arith) h.1 k

  declared_ends : (class : List ClassPart) (item : OperatorsItem) (x : Declaration) → IsStanding g text item class i x → (ts : List OnTask) (es : List ℕ) → Ends es ts →
      (u : Table) (v : List Tree) (ms : Setting) (kn : List (Option Known)) (bl : List (Option ℕ)) → ComesToLast g text (declared_turn x (state_at i items ts u v es ms kn bl))
  declared_ends class item no_keyword h ts es k u v ms kn bl = (0, refl)
  declared_ends class item (no_digit j) h ts es k u v ms kn bl = (0, refl)
  declared_ends class item (no_symbol j) h ts es k u v ms kn bl = (0, refl)
  declared_ends class item (declared d l j) h ts es k u v ms kn bl = declares_end d j (admit_fault u d) (declared_within g text i item class d j h) ts es k u v ms kn bl

  declare_ends : (class : List ClassPart) (item : Option OperatorsItem) (ts : List OnTask) (es : List ℕ) → Ends es ts → (u : Table) (v : List Tree) (ms : Setting) (kn : List (Option Known)) (bl : List (Option ℕ)) →
      ComesToLast g text (declare_turn g text class item (state_at i items ts u v es ms kn bl))
  declare_ends class None ts es k u v ms kn bl = (0, refl)
  declare_ends class (Some item) ts es k u v ms kn bl = declared_ends class item (declaration_at g text item class i) (declaration_stands g text item class i) ts es k u v ms kn bl

  leaf_ends : (l : Leaf ℕ) (ts : List OnTask) (es : List ℕ) → Ends es ts → (u : Table) (v : List Tree) (ms : Setting) (kn : List (Option Known)) (bl : List (Option ℕ)) → ComesToLast g text (leaf_turn g text l (state_at i items ts u v es ms kn bl))
  leaf_ends (read.Satisfy class) ts es k u v ms kn bl = takes_ends (satisfied g text class i) (satisfied_within g text i class) ts es k u v ms kn bl
  leaf_ends (read.String cs) ts es k u v ms kn bl = takes_ends (spelled text cs i) (spelled_within g text i cs) ts es k u v ms kn bl
  leaf_ends (read.Word w) ts es k u v ms kn bl = takes_ends (word_by g text i (slice_get g.words w)) (word_within g text i (slice_get g.words w)) ts es k u v ms kn bl
  leaf_ends (read.NotFollowedBy class) ts es k u v ms kn bl = stays_ends (not (next_in g class (slice_get text i))) ts es k u v ms kn bl
  leaf_ends read.EndOfText ts es k u v ms kn bl = stays_ends (i == length text) ts es k u v ms kn bl
  leaf_ends (read.Declare class) ts es k u v ms kn bl = declare_ends class g.operators ts es k u v ms kn bl

  -- ---- forms that take an item

  part_ends : (k : ℕ) (q : Option ℕ) (rest : List TrailItem) → items ≡ Alt k ∷ rest → (ts : List OnTask) (es : List ℕ) (u : Table) (v : List Tree) (ms : Setting) (kn : List (Option Known)) (bl : List (Option ℕ)) →
      ComesToLast g text (part_turn q rest (state_at i items ts u v es ms kn bl))
  part_ends k None rest e ts es u v ms kn bl = (0, refl)
  part_ends k (Some q) rest e ts es u v ms kn bl = item_ends (Alt k) rest (node q ∷ ts) u v ms kn bl e

  choice_ends : (ps : List ℕ) (xs : List TrailItem) → items ≡ xs → (ts : List OnTask) (es : List ℕ) (u : Table) (v : List Tree) (ms : Setting) (kn : List (Option Known)) (bl : List (Option ℕ)) →
      ComesToLast g text (choice_turn ps xs (state_at i items ts u v es ms kn bl))
  choice_ends ps [] e ts es u v ms kn bl = (0, refl)
  choice_ends ps (Alt k ∷ rest) e ts es u v ms kn bl = ends_if (k == 0) _ _ (λ h. (0, refl)) (λ h. part_ends k (slice_get ps (k - 1)) rest e ts es u v ms kn bl)
  choice_ends ps (Rounds n ∷ rest) e ts es u v ms kn bl = (0, refl)
  choice_ends ps (Ops o ∷ rest) e ts es u v ms kn bl = (0, refl)

  many_ends : (p : ℕ) (xs : List TrailItem) → items ≡ xs → (ts : List OnTask) (es : List ℕ) (u : Table) (v : List Tree) (ms : Setting) (kn : List (Option Known)) (bl : List (Option ℕ)) →
      ComesToLast g text (many_turn p xs (state_at i items ts u v es ms kn bl))
  many_ends p [] e ts es u v ms kn bl = (0, refl)
  many_ends p (Alt k ∷ rest) e ts es u v ms kn bl = (0, refl)
  many_ends p (Rounds n ∷ rest) e ts es u v ms kn bl = item_ends (Rounds n) rest (rounds p n ∷ ts) u v ms kn bl e
  many_ends p (Ops o ∷ rest) e ts es u v ms kn bl = (0, refl)

  chain_ends : (c : Chain) (xs : List TrailItem) → items ≡ xs → (ts : List OnTask) (es : List ℕ) (u : Table) (v : List Tree) (ms : Setting) (kn : List (Option Known)) (bl : List (Option ℕ)) →
      ComesToLast g text (chain_turn c xs (state_at i items ts u v es ms kn bl))
  chain_ends c [] e ts es u v ms kn bl = (0, refl)
  chain_ends c (Alt k ∷ rest) e ts es u v ms kn bl = (0, refl)
  chain_ends c (Rounds n ∷ rest) e ts es u v ms kn bl = item_ends (Rounds n) rest (node c.part ∷ links c n (length v) ∷ settle ms.loose ∷ ts) u v (loosened (inside_chain c n ms.loose) ms) kn bl e
  chain_ends c (Ops o ∷ rest) e ts es u v ms kn bl = (0, refl)

  steps_end : (builders : OperatorBuilders) (p : ℕ) (steps : Option (List Step)) (os : List AppliedOperator) (rest : List TrailItem) → items ≡ Ops os ∷ rest →
      (ts : List OnTask) (es : List ℕ) (u : Table) (v : List Tree) (ms : Setting) (kn : List (Option Known)) (bl : List (Option ℕ)) → ComesToLast g text (steps_turn builders p steps rest (state_at i items ts u v es ms kn bl))
  steps_end builders p None os rest e ts es u v ms kn bl = (0, refl)
  steps_end builders p (Some steps) os rest e ts es u v ms kn bl =
      item_ends (Ops os) rest (step_tasks builders p steps (ms.loose ∷ []) ++ (unmark ∷ settle ms.loose ∷ ts)) u v ms kn bl e

  operators_end : (item : Option OperatorsItem) (builders : OperatorBuilders) (p : ℕ) (os : List AppliedOperator) (rest : List TrailItem) → items ≡ Ops os ∷ rest →
      (ts : List OnTask) (es : List ℕ) (u : Table) (v : List Tree) (ms : Setting) (kn : List (Option Known)) (bl : List (Option ℕ)) → ComesToLast g text (operators_turn item builders p os rest (state_at i items ts u v es ms kn bl))
  operators_end None builders p os rest e ts es u v ms kn bl = (0, refl)
  operators_end (Some item) builders p os rest e ts es u v ms kn bl = steps_end builders p (judgement (known_in u.operators) os) os rest e ts es u v ms kn bl

  expression_ends : (builders : OperatorBuilders) (p : ℕ) (xs : List TrailItem) → items ≡ xs → (ts : List OnTask) (es : List ℕ) (u : Table) (v : List Tree) (ms : Setting) (kn : List (Option Known)) (bl : List (Option ℕ)) →
      ComesToLast g text (expression_turn g builders p xs (state_at i items ts u v es ms kn bl))
  expression_ends builders p [] e ts es u v ms kn bl = (0, refl)
  expression_ends builders p (Alt k ∷ rest) e ts es u v ms kn bl = (0, refl)
  expression_ends builders p (Rounds n ∷ rest) e ts es u v ms kn bl = (0, refl)
  expression_ends builders p (Ops os ∷ rest) e ts es u v ms kn bl = operators_end g.operators builders p os rest e ts es u v ms kn bl

  -- ---- parts, rounds and links

  parts_pass : (es ps : List ℕ) → AllByRecursion (λ p. Passes es (node p)) ps → Passes es (parts ps)
  parts_pass es [] h ts k u v ms kn bl = next_ends (state_at i items (parts [] ∷ ts) u v es ms kn bl) (k u v ms kn bl)
  parts_pass es (p ∷ ps) h ts k u v ms kn bl = next_ends (state_at i items (parts (p ∷ ps) ∷ ts) u v es ms kn bl) (h.0 (parts ps ∷ ts) (parts_pass es ps h.1 ts k) u v ms kn bl)

  rounds_end : (m : ℕ) (es : List ℕ) (p n : ℕ) → n ≤ m → Passes es (node p) → (ts : List OnTask) → Ends es ts → (u : Table) (v : List Tree) (ms : Setting) (kn : List (Option Known)) (bl : List (Option ℕ)) →
      ComesToLast g text (rounds_turn p n (state_at i items ts u v es ms kn bl))
  rounds_end zero es p n few pass ts k u v ms kn bl = ends_if (n == 0) _ _ (λ e. k u v ms kn bl) (λ e. let more = positive n e in absurd (omega arith))
  rounds_end (suc m) es p n few pass ts k u v ms kn bl = ends_if (n == 0) _ _ (λ e. k u v ms kn bl) (λ e.
      let more = positive n e in
      let less : n - 1 ≤ m = omega arith in
      pass (more_rounds p (n - 1) i (length v) (length items) ∷ ts)
      (λ w x ns ln bn. next_ends (state_at i items (more_rounds p (n - 1) i (length v) (length items) ∷ ts) w x es ns ln bn)
      (ends_if (is_unchanged i (length v) (length items) (state_at i items ts w x es ns ln bn)) _ _ (λ h. k w x ns ln bn) (λ h. rounds_end m es p (n - 1) less pass ts k w x ns ln bn)))
      u v ms kn bl)

  rounds_pass : (es : List ℕ) (p n : ℕ) → Passes es (node p) → Passes es (rounds p n)
  rounds_pass es p n pass ts k u v ms kn bl = next_ends (state_at i items (rounds p n ∷ ts) u v es ms kn bl) (rounds_end n es p n (omega arith) pass ts k u v ms kn bl)

  more_pass : (es : List ℕ) (p n place trees count : ℕ) → Passes es (node p) → Passes es (more_rounds p n place trees count)
  more_pass es p n place trees count pass ts k u v ms kn bl = next_ends (state_at i items (more_rounds p n place trees count ∷ ts) u v es ms kn bl)
      (ends_if (is_unchanged place trees count (state_at i items ts u v es ms kn bl)) _ _ (λ h. k u v ms kn bl) (λ h. rounds_end n es p n (omega arith) pass ts k u v ms kn bl))

  fold_pass : (es : List ℕ) (used : ChainBuilder) (trees : ℕ) → Passes es (fold used trees)
  fold_pass es used trees ts k u v ms kn bl = next_ends (state_at i items (fold used trees ∷ ts) u v es ms kn bl) (k u (folded_after used.shape trees v) ms kn bl)

  -- what comes after an operand
  after_operand : (es : List ℕ) (c : Chain) (n trees later : ℕ) → ((trees : ℕ) → Passes es (links c n trees)) → (side : Side) → (ts : List OnTask) → Ends es ts →
      (u : Table) (v : List Tree) (ms : Setting) (kn : List (Option Known)) (bl : List (Option ℕ)) → ComesToLast g text (on (with_links side c n trees later (state_at i items ts u v es ms kn bl)))
  after_operand es c n trees later others Left ts k u v ms kn bl = fold_pass es c.used trees (links c n trees ∷ ts) (others trees ts k) u v ms kn bl
  after_operand es c n trees later others Right ts k u v ms kn bl = others later (fold c.used trees ∷ ts) (fold_pass es c.used trees ts k) u v ms kn bl

  linked_pass : (es : List ℕ) (c : Chain) (n trees later : ℕ) (from : RoundStart) → ((trees : ℕ) → Passes es (links c n trees)) → Passes es (linked c n trees later from)
  linked_pass es c n trees later from others ts k u v ms kn bl = next_ends (state_at i items (linked c n trees later from ∷ ts) u v es ms kn bl)
      (ends_if (is_idle c.used.shape from (state_at i items ts u v es ms kn bl)) _ _ (λ h. fold_pass es c.used trees ts k u v ms kn bl) (λ h. after_operand es c n trees later others c.side ts k u v ms kn bl))

  operand_pass : (es : List ℕ) (c : Chain) (n trees : ℕ) (from : RoundStart) → Passes es (node c.part) → ((trees : ℕ) → Passes es (links c n trees)) → Passes es (operand c n trees from)
  operand_pass es c n trees from pass others ts k u v ms kn bl = next_ends (state_at i items (operand c n trees from ∷ ts) u v es ms kn bl)
      (pass (linked c n trees (length v) from ∷ ts) (linked_pass es c n trees (length v) from others ts k) u v ms kn bl)

  links_end : (m : ℕ) (es : List ℕ) (c : Chain) (n trees : ℕ) → n ≤ m → Passes es (node c.part) → Passes es (node c.separator) → (ts : List OnTask) → Ends es ts →
      (u : Table) (v : List Tree) (ms : Setting) (kn : List (Option Known)) (bl : List (Option ℕ)) → ComesToLast g text (links_turn c n trees (state_at i items ts u v es ms kn bl))
  links_end zero es c n trees few pass next ts k u v ms kn bl = ends_if (n == 0) _ _ (λ e. k u v ms kn bl) (λ e. let more = positive n e in absurd (omega arith))
  links_end (suc m) es c n trees few pass next ts k u v ms kn bl = ends_if (n == 0) _ _ (λ e. k u v ms kn bl) (λ e.
      let more = positive n e in
      let less : n - 1 ≤ m = omega arith in
      let from : RoundStart = round_start (state_at i items ts u v es ms kn bl) in
      next (operand c (n - 1) trees from ∷ ts)
      (operand_pass es c (n - 1) trees from pass
      (λ later ls l y z os mn cn. next_ends (state_at i items (links c (n - 1) later ∷ ls) y z es os mn cn) (links_end m es c (n - 1) later less pass next ls l y z os mn cn))
      ts k)
      u v ms kn bl)

  links_pass : (es : List ℕ) (c : Chain) (n trees : ℕ) → Passes es (node c.part) → Passes es (node c.separator) → Passes es (links c n trees)
  links_pass es c n trees pass next ts k u v ms kn bl = next_ends (state_at i items (links c n trees ∷ ts) u v es ms kn bl) (links_end n es c n trees (omega arith) pass next ts k u v ms kn bl)

  close_pass : (es : List ℕ) (k : Around) (p place trees operators count : ℕ) (loose : Looseness) → Passes es (close k p place trees operators count loose)
  close_pass es k p place trees operators count loose ts h u v ms kn bl = next_ends (state_at i items (close k p place trees operators count loose ∷ ts) u v es ms kn bl)
      (h (closed_table k operators u) (closed_forest k loose text place i trees v) (loosened loose ms) kn (blank_after k p place count (state_at i items ts u v es ms kn bl)))

  -- ---- nodes

  leave_pass : (r place trees count : ℕ) (entered : List ℕ) (ts : List OnTask) → Ends (without_newest entered) ts → Ends entered (leave r place trees count ∷ ts)
  leave_pass r place trees count entered ts k u v ms kn bl = next_ends (state_at i items (leave r place trees count ∷ ts) u v entered ms kn bl)
      (k u v ms (known_after r place trees count (state_at i items ts u v entered ms kn bl)) bl)

  -- so do the bodies of rules that aren't open
  abbrev BodiesPass : List ℕ → Type 0
  BodiesPass es = (r : ℕ) (named : declared_rule.Rule) → slice_get g.rules r ≡ Some named → is_entered r es ≡ false → Passes (r ∷ es) (node named.body)

  rule_ends : (es : List ℕ) (r : ℕ) (named : Option declared_rule.Rule) → slice_get g.rules r ≡ named → BodiesPass es → (ts : List OnTask) → Ends es ts → (u : Table) (v : List Tree) (ms : Setting) (kn : List (Option Known)) (bl : List (Option ℕ)) →
      ComesToLast g text (rule_turn r named (state_at i items ts u v es ms kn bl))
  rule_ends es r None e bodies ts k u v ms kn bl = (0, refl)
  rule_ends es r (Some named) e bodies ts k u v ms kn bl = ends_if (is_known r (state_at i items ts u v es ms kn bl)) _ _ (λ h. k u v ms kn bl) (λ h.
      ends_if (is_entered r es) _ _ (λ l. (0, refl)) (λ l.
      bodies r named e l (leave r i (length v) (length items) ∷ ts) (leave_pass r i (length v) (length items) (r ∷ es) ts k) u v ms kn bl))

  form_ends : (es : List ℕ) (p : ℕ) (n : Node) → AllByRecursion (λ q. Passes es (node q)) (parts_of n) → BodiesPass es → (ts : List OnTask) → Ends es ts → (u : Table) (v : List Tree) (ms : Setting) (kn : List (Option Known)) (bl : List (Option ℕ)) →
      ComesToLast g text (form_turn g text p n (state_at i items ts u v es ms kn bl))
  form_ends es p (form.Leaf l) pass bodies ts k u v ms kn bl = leaf_ends l ts es k u v ms kn bl
  form_ends es p (form.Seq ps) pass bodies ts k u v ms kn bl = parts_pass es ps pass ts k u v ms kn bl
  form_ends es p (form.Choice ps) pass bodies ts k u v ms kn bl = choice_ends ps items refl ts es u v ms kn bl
  form_ends es p (form.Many q) pass bodies ts k u v ms kn bl = many_ends q items refl ts es u v ms kn bl
  form_ends es p (form.Chain side used q r) pass bodies ts k u v ms kn bl =
      chain_ends (record { side = side; used = used; part = q; separator = r }) items refl ts es u v ms kn bl
  form_ends es p (form.Rule r) pass bodies ts k u v ms kn bl = rule_ends es r (slice_get g.rules r) refl bodies ts k u v ms kn bl
  form_ends es p (form.Expression builders q) pass bodies ts k u v ms kn bl = expression_ends builders q items refl ts es u v ms kn bl
  form_ends es p (form.Around a q) pass bodies ts k u v ms kn bl = ends_if (is_place i (slice_get bl p)) _ _ (λ h. k u (v ++ leaf_of [] ∷ []) ms kn bl) (λ h.
      pass.0 (close a p i (length v) (length u.operators) (length items) ms.loose ∷ ts) (close_pass es a p i (length v) (length u.operators) (length items) ms.loose ts k) u v (loosened (inside_form a ms.loose) ms) kn bl)

  node_ends : (es : List ℕ) (p : ℕ) (n : Option Node) → ((m : Node) → n ≡ Some m → AllByRecursion (λ q. Passes es (node q)) (parts_of m)) → BodiesPass es → (ts : List OnTask) → Ends es ts →
      (u : Table) (v : List Tree) (ms : Setting) (kn : List (Option Known)) (bl : List (Option ℕ)) → ComesToLast g text (node_turn g text p n (state_at i items ts u v es ms kn bl))
  node_ends es p None pass bodies ts k u v ms kn bl = (0, refl)
  node_ends es p (Some n) pass bodies ts k u v ms kn bl = form_ends es p n (pass n refl) bodies ts k u v ms kn bl

  -- a node with at most `depth` nodes after it comes to an end, if the bodies that it can enter do
  down : (depth : ℕ) (es : List ℕ) (p : ℕ) → length g.nodes ≤ p + depth → BodiesPass es → Passes es (node p)
  down zero es p deep bodies ts k u v ms kn bl = next_ends (state_at i items (node p ∷ ts) u v es ms kn bl)
      (node_ends es p (slice_get g.nodes p) (λ n e. let low = slice_get_within g.nodes p n e in absurd (omega arith)) bodies ts k u v ms kn bl)
  down (suc depth) es p deep bodies ts k u v ms kn bl = next_ends (state_at i items (node p ∷ ts) u v es ms kn bl)
      (node_ends es p (slice_get g.nodes p) (λ n e.
      all-weaker _ (λ q. Passes es (node q)) (λ q w. let after = w.0 in down depth es q (omega arith) bodies) (parts_of n) (parts_are_after g.nodes p n preorder e))
      bodies ts k u v ms kn bl)

  nodes_pass : (m : ℕ) (es : List ℕ) (p : ℕ) → free (length g.rules) es < m → Passes es (node p)
  nodes_pass zero es p few = absurd (omega arith)
  nodes_pass (suc m) es p few = down (length g.nodes) es p (omega arith) (λ r named e new.
      let low = slice_get_within g.rules r named e in
      let less = fewer_free (length g.rules) r es low new in
      nodes_pass m (r ∷ es) named.body (omega arith))

  node_passes : (es : List ℕ) (p : ℕ) → Passes es (node p)
  node_passes es p = nodes_pass (suc (free (length g.rules) es)) es p (omega arith)

  all_pass : (es ps : List ℕ) → AllByRecursion (λ p. Passes es (node p)) ps
  all_pass es [] = tt
  all_pass es (p ∷ ps) = (node_passes es p, all_pass es ps)

  -- ---- all tasks

  ended_ends : (j : Option ℕ) → IsOnward i (length text) j → (ts : List OnTask) (es : List ℕ) → Ends es ts → (u : Table) (v : List Tree) (ms : Setting) (kn : List (Option Known)) (bl : List (Option ℕ)) →
      ComesToLast g text (ended_turn j (state_at i items ts u v es ms kn bl))
  ended_ends None h ts es k u v ms kn bl = (0, refl)
  ended_ends (Some j) h ts es k u v ms kn bl = moved_ends j ts u v es ms kn bl h.0 h.1 k

  symbol_ends : (item : Option OperatorsItem) (o : AppliedOperator) (ts : List OnTask) (es : List ℕ) → Ends es ts → (u : Table) (v : List Tree) (ms : Setting) (kn : List (Option Known)) (bl : List (Option ℕ)) →
      ComesToLast g text (symbol_turn g text item o (state_at i items ts u v es ms kn bl))
  symbol_ends None o ts es k u v ms kn bl = (0, refl)
  symbol_ends (Some item) o ts es k u v ms kn bl = ended_ends (operator_end g text item o.symbol i) (operator_within g text i item o.symbol within) ts es k u v ms kn bl

  task_ends : (t : OnTask) (ts : List OnTask) → ((es : List ℕ) → Ends es ts) → (es : List ℕ) → Ends es (t ∷ ts)
  task_ends (node p) ts k es = node_passes es p ts (k es)
  task_ends (parts ps) ts k es = parts_pass es ps (all_pass es ps) ts (k es)
  task_ends (rounds p n) ts k es = rounds_pass es p n (node_passes es p) ts (k es)
  task_ends (more_rounds p n place trees count) ts k es = more_pass es p n place trees count (node_passes es p) ts (k es)
  task_ends (links c n trees) ts k es = links_pass es c n trees (node_passes es c.part) (node_passes es c.separator) ts (k es)
  task_ends (operand c n trees from) ts k es = operand_pass es c n trees from (node_passes es c.part) (λ later. links_pass es c n later (node_passes es c.part) (node_passes es c.separator)) ts (k es)
  task_ends (linked c n trees later from) ts k es = linked_pass es c n trees later from (λ later. links_pass es c n later (node_passes es c.part) (node_passes es c.separator)) ts (k es)
  task_ends (settle loose) ts k es = λ u v ms kn bl. next_ends (state_at i items (settle loose ∷ ts) u v es ms kn bl) (k es u v (loosened loose ms) kn bl)
  task_ends (fold used trees) ts k es = fold_pass es used trees ts (k es)
  task_ends (close a p place trees operators count loose) ts k es = close_pass es a p place trees operators count loose ts (k es)
  task_ends (marked p loose) ts k es = λ u v ms kn bl. next_ends (state_at i items (marked p loose ∷ ts) u v es ms kn bl) (node_passes es p ts (k es) u v (loosened loose (under_marks (length v ∷ ms.marks) ms)) kn bl)
  task_ends (operator_symbol o) ts k es = λ u v ms kn bl. next_ends (state_at i items (operator_symbol o ∷ ts) u v es ms kn bl) (symbol_ends g.operators o ts es (k es) u v ms kn bl)
  task_ends (application builders o) ts k es = λ u v ms kn bl. next_ends (state_at i items (application builders o ∷ ts) u v es ms kn bl)
      (k es u (applied_after builders o (first_mark (marks_after o.fixity ms.marks)) v) (under_marks (marks_after o.fixity ms.marks) ms) kn bl)
  task_ends unmark ts k es = λ u v ms kn bl. next_ends (state_at i items (unmark ∷ ts) u v es ms kn bl) (k es u v (under_marks (without_newest ms.marks) ms) kn bl)
  task_ends (leave r place trees count) ts k es = leave_pass r place trees count es ts (k (without_newest es))

  tasks_end : (ts : List OnTask) (es : List ℕ) → Ends es ts
  tasks_end [] es = λ u v ms kn bl. next_ends (state_at i items [] u v es ms kn bl) (0, refl)
  tasks_end (t ∷ ts) es = task_ends t ts (tasks_end ts) es

-- every state comes to the end
ends_from : (g : Grammar) (text : List ℕ) → InPreorder 0 g.nodes → (n : ℕ) (s : State) → s.place ≤ length text → left_at text s.place s.rest < n → ComesToLast g text (on s)
ends_from g text preorder zero s within few = absurd (omega arith)
ends_from g text preorder (suc n) s within few =
    tasks_end g text preorder s.place s.rest within (λ z high less. ends_from g text preorder n z high (omega arith)) s.tasks s.entered s.table s.forest s.setting s.known s.blank

-- so going along a trail does
pub halts : (g : Grammar) (text : List ℕ) (table : Table) (items : List TrailItem) → InPreorder 0 g.nodes → Halts g text table items
halts g text table items preorder = go (slice_get g.rules g.start)
  where
    go : (start : Option declared_rule.Rule) → ComesToLast g text (begun g table items start)
    go None = (0, refl)
    go (Some start) = ends_from g text preorder (suc (left_at text 0 items)) (first_state g start.body table items) (omega arith) (omega arith)
