-- Instructions of rows that only pass.
use Rattle.std.specs.Prelude.{Bool, true, false, not, cond, drop, take}
use Rattle.std.specs.List.{prefix_len, take_while}
use Rattle.std.proofs.Common.{◌≡◌, ◌∙◌, ◌+◌, ℕ, zero, suc, List, [], ◌∷◌, sym, ap, subst, Option, Some, None, IfSome, option_map, slice_get, refl, arith}
use Rattle.pg_expand.specs.Rows.{of_role, row_numbered}
use Rattle.pg_grammar_classes.specs.declared.site.ClassSite.TheVariants as site
use Rattle.pg_grammar_form.specs.ClassItems.{has_character}
use Rattle.pg_grammar_form.specs.Forms.{Node}
use Rattle.pg_grammar_form.specs.Operators.{Operator}
use Rattle.pg_grammar_form.specs.declared.class.ClassPart.{ClassPart}
use Rattle.pg_grammar_form.specs.declared.decl.Role.{Role}
use Rattle.pg_grammar_form.specs.declared.decl.Role.TheVariants.{InfixRight, InfixLeft, InfixNone, Prefix, Postfix}
use Rattle.pg_grammar_form.specs.declared.operators_item.OperatorsItem.{OperatorsItem}
use Rattle.pg_grammar_form.specs.declared.used.OperatorBuilders.{OperatorBuilders}
use Rattle.pg_grammar_value.specs.Grammar.{Grammar}
use Rattle.pg_language.specs.Answers.{given}
use Rattle.pg_grammar_value.proofs.Sites.{class_at_operators}
use Rattle.pg_grammar_value.specs.Sites.{class_at}
use Rattle.pg_language.specs.OperatorReads.{read_at, read_run}
use Rattle.pg_language.specs.Runs.{run_at}
use Rattle.pg_language.specs.declared.reading.Reading.TheVariants.{Library}
use Rattle.pg_table.specs.Tables.{Table}
use Rattle.pg_machine_plan.specs.declared.instruction.Instruction.{Instruction}
use Rattle.pg_machine_plan.specs.declared.instruction.Instruction.TheVariants.{ReadPrefix, ReadPostfix, ReadInfix, Settle}
use Rattle.pg_machine_plan.specs.declared.instruction.Keep.{Keep}
use Rattle.pg_machine_quick.specs.Looks.{given_of, IsLook, IsPassedTo, NoneRead, Passes, PassesEnd, PassesPrefixes, program_of, unread_length}
use Rattle.pg_machine_quick.specs.Running.{IsOfExpression}
use Rattle.pg_machine_quick.specs.Tape.{Tape, tape, tape_act, tape_goes, found_at, found_of, tape_awaited, tape_by_builders, tape_first_joined, tape_infixed, tape_joined, tape_left_joined, tape_passed, tape_postfixed, tape_prefixed, tape_settled, tape_settled_as}
use Rattle.pg_machine_quick.specs.Turns.{read_by}
use Rattle.pg_machine_quick.specs.declared.context.Context.{Context}
use Rattle.pg_machine_quick.specs.declared.context.Look.{Look}
use Rattle.pg_machine_quick.specs.declared.frame.Frame.{Frame}
use Rattle.pg_machine_quick.specs.declared.operators.Found.{Found}
use Rattle.pg_machine_quick.specs.declared.passing.RowEnd.{RowEnd}
use Rattle.pg_language_operators.specs.Standings.{reads}
use Rattle.pg_machine_quick.proofs.Ran.{leads_by, leads_here, leads_trans}

-- no infix operator of the row is read that may follow its first operand
abbrev IsPassedFirst : Context → ℕ → Table → ℕ → ℕ → Type 0
IsPassedFirst c place table row count = (s : Tape) → s.place ≡ place → tape_first_joined row s (found_at (given_of c) table s.place row InfixRight)
    (found_at (given_of c) table s.place row InfixLeft) (found_at (given_of c) table s.place row InfixNone) ≡ tape_passed count s

-- what a row reads of the operators in force, with any table of these
pub read_found : (g : Grammar) (text : List ℕ) (item : OperatorsItem) (table : Table) (os : List Operator) (i row : ℕ) (role : Role) (r : Option Found) → g.operators ≡ Some item →
    table.operators ≡ os → r ≡ option_map found_of (read_at g text item (of_role role (row_numbered os (suc row))) i) → r ≡ found_at (given Library g text) table i row role
read_found g text item table os i row role r is same e =
    e ∙ ap (λ (ops : List Operator). option_map found_of (read_at g text item (of_role role (row_numbered ops (suc row))) i)) (sym same)
    ∙ ap (λ (it : Option OperatorsItem). option_map found_of (read_by (given Library g text) table i row role it)) (sym is)

pub prefix_passes : (c : Context) (place : ℕ) (row : ℕ) (k : List Frame) → NoneRead c place row Prefix → Passes c place k (ReadPrefix row) 1
prefix_passes c place row k none table s same at stack =
    ap (λ j. tape_prefixed row s (found_at (given_of c) table j row Prefix)) at ∙ ap (λ (r : Option Found). tape_prefixed row s r) (sym (none table same))

pub postfix_passes : (c : Context) (place : ℕ) (keep : Keep) (q row : ℕ) (k : List Frame) (builders : OperatorBuilders) → IsOfExpression (slice_get c.grammar.now.nodes q) builders →
    NoneRead c place row Postfix → Passes c place k (ReadPostfix keep q row) 1
postfix_passes c place keep q row k builders of none table s same at stack =
    ap (λ (n : Option Node). tape_by_builders n (λ b. tape_postfixed c.text.now keep b s (found_at (given_of c) table s.place row Postfix))) of.1
    ∙ ap (λ j. tape_postfixed c.text.now keep builders s (found_at (given_of c) table j row Postfix)) at
    ∙ ap (λ (r : Option Found). tape_postfixed c.text.now keep builders s r) (sym (none table same))

pub settle_passes : (c : Context) (place : ℕ) (keep : Keep) (q rank : ℕ) (k : List Frame) (builders : OperatorBuilders) → IsOfExpression (slice_get c.grammar.now.nodes q) builders →
    None ≡ tape_awaited rank k → Passes c place k (Settle keep q rank) 1
settle_passes c place keep q rank k builders of none table s same at stack =
    ap (λ (n : Option Node). tape_by_builders n (λ b. tape_settled c.text.now keep b rank s s.stack)) of.1
    ∙ ap (λ (j : List Frame). tape_settled c.text.now keep builders rank s j) stack
    ∙ ap (λ (a : Option Role). tape_settled_as c.text.now keep builders s k a) (sym none)

pub none_first : (c : Context) (place : ℕ) (table : Table) (row : ℕ) → table.operators ≡ c.operators.now → NoneRead c place row InfixRight → NoneRead c place row InfixLeft → NoneRead c place row InfixNone →
    IsPassedFirst c place table row 3
none_first c place table row same right left non s at =
    ap (λ j. tape_first_joined row s (found_at (given_of c) table j row InfixRight) (found_at (given_of c) table j row InfixLeft)
    (found_at (given_of c) table j row InfixNone)) at
    ∙ ap (λ (r : Option Found). tape_first_joined row s r (found_at (given_of c) table place row InfixLeft) (found_at (given_of c) table place row InfixNone))
    (sym (right table same))
    ∙ ap (λ (r : Option Found). tape_first_joined row s None r (found_at (given_of c) table place row InfixNone)) (sym (left table same))
    ∙ ap (λ (r : Option Found). tape_first_joined row s None None r) (sym (non table same))

pub infix_passes : (c : Context) (place : ℕ) (keep : Keep) (q row rank count : ℕ) (k : List Frame) (builders : OperatorBuilders) → IsOfExpression (slice_get c.grammar.now.nodes q) builders →
    rank ≡ row + row + 1 → None ≡ tape_awaited rank k → ((table : Table) → table.operators ≡ c.operators.now → IsPassedFirst c place table row count) →
    Passes c place k (ReadInfix keep q row) count
infix_passes c place keep q row rank count k builders of is none first table s same at stack =
    ap (λ (n : Option Node). tape_by_builders n (λ b. tape_infixed (given_of c) table keep b row s (tape_awaited (row + row + 1) s.stack))) of.1
    ∙ ap (λ (j : List Frame). tape_infixed (given_of c) table keep builders row s (tape_awaited (row + row + 1) j)) stack
    ∙ ap (λ n. tape_infixed (given_of c) table keep builders row s (tape_awaited n k)) (sym is)
    ∙ ap (λ (a : Option Role). tape_infixed (given_of c) table keep builders row s a) (sym none)
    ∙ first table same s at

-- ---- where it passes to

-- an instruction passes
passes_to : (c : Context) (place : ℕ) (s : Tape) (pc next count : ℕ) (i : Instruction) → s.place ≡ place → slice_get c.plan.now.code pc ≡ Some i → Passes c place s.stack i count → next ≡ pc + count →
    IsPassedTo c s pc next
passes_to c place s pc next count i at is h more table same =
    let y : Tape = record s { pc = pc } in
    leads_by (program_of c) table y (record s { pc = next })
    (ap (λ x. tape_act (program_of c) table y x) is ∙ h table y same at refl
    ∙ ap (λ j. tape_goes (tape j s.place s.stack s.trees s.nodes s.taken)) (sym more))

then_to : (c : Context) (s : Tape) (pc second third : ℕ) → IsPassedTo c s pc second → IsPassedTo c s second third → IsPassedTo c s pc third
then_to c s pc second third h d table same =
    leads_trans (program_of c) table (record s { pc = pc }) (record s { pc = second }) (record s { pc = third }) (h table same) (d table same)

-- ---- where nothing is read

-- nothing is found of a row, so nothing is read of it
pub none_of_row : (l : Look) (number : ℕ) (is : IsLook l) → ((role : Role) → reads l.standing number role ≡ None) → (row : ℕ) (role : Role) → number ≡ suc row → NoneRead l.context l.place row role
none_of_row l number is none row role same table of =
    read_found l.context.grammar.now l.context.text.now is.0 table l.context.operators.now l.place row role None is.1 of
    (ap (option_map found_of) (sym (none role) ∙ ap (λ n. reads l.standing n role) same ∙ is.2.by_row row role))

-- no run of operator characters begins at the place
none_of_run : (c : Context) (place : ℕ) (item : OperatorsItem) → c.grammar.now.operators ≡ Some item → run_at c.grammar.now c.text.now item.class place ≡ [] → (row : ℕ) (role : Role) →
    NoneRead c place row role
none_of_run c place item is empty row role table same =
    read_found c.grammar.now c.text.now item table c.operators.now place row role None is same
    (ap (option_map found_of) (sym (ap (read_run c.grammar.now c.text.now item (of_role role (row_numbered c.operators.now (suc row))) place) empty)))

pub none_at_end : (c : Context) (place : ℕ) (item : OperatorsItem) → c.grammar.now.operators ≡ Some item → slice_get c.text.now place ≡ None → (row : ℕ) (role : Role) → NoneRead c place row role
none_at_end c place item is ended = none_of_run c place item is (go c.text.now place ended)
  where
    go : (text : List ℕ) (i : ℕ) → slice_get text i ≡ None → run_at c.grammar.now text item.class i ≡ []
    go [] zero h = refl
    go [] (suc i) h = refl
    go (x ∷ xs) zero h = absurd cc
    go (x ∷ xs) (suc i) h = go xs i h

pub has_not : (b h : Bool) → b ≡ h → not b ≡ true → h ≡ false
has_not true h e n = absurd cc
has_not false h e n = sym e

pub none_at_character : (c : Context) (place d : ℕ) (item : OperatorsItem) → c.grammar.now.operators ≡ Some item → slice_get c.text.now place ≡ Some d →
    has_character c.grammar.now.classes (class_at c.grammar.now site.Operators) d ≡ false → (row : ℕ) (role : Role) → NoneRead c place row role
none_at_character c place d item is there other = none_of_run c place item is (go c.text.now place there)
  where
    has : ℕ → Bool
    has = has_character c.grammar.now.classes item.class

    without : has d ≡ false
    without = ap (λ (class : List ClassPart). has_character c.grammar.now.classes class d) (sym (class_at_operators c.grammar.now item is)) ∙ other

    go : (text : List ℕ) (i : ℕ) → slice_get text i ≡ Some d → take_while has (drop i text) ≡ []
    go [] zero h = absurd cc
    go [] (suc i) h = absurd cc
    go (x ∷ xs) zero h = let same : x ≡ d = cc in ap (λ b. take (cond b (1 + prefix_len has xs) 0) (x ∷ xs)) (ap has same ∙ without)
    go (x ∷ xs) (suc i) h = go xs i h

-- prefix operators are passed where none is read
pub prefixes_passed : (c : Context) (place : ℕ) (n : ℕ) → ((row : ℕ) (role : Role) → NoneRead c place row role) → PassesPrefixes c place n n
prefixes_passed c place zero none s pc at are =
    let here : pc + 0 ≡ pc = omega arith in
    λ table same. leads_here (program_of c) table (record s { pc = pc }) (record s { pc = pc + 0 }) (ap (λ j. tape j s.place s.stack s.trees s.nodes s.taken) here)
prefixes_passed c place (suc n) none s pc at are =
    then_to c s pc (pc + n) (pc + suc n) (prefixes_passed c place n none s pc at are.0)
    (passes_to c place s (pc + n) (pc + suc n) 1 (ReadPrefix are.1) at are.2 (prefix_passes c place are.1 s.stack (none are.1 Prefix)) (omega arith))

-- the end of a row, up to its infix operator
pub end_passed : (c : Context) (place : ℕ) (s : Tape) (e : RowEnd) (builders : OperatorBuilders) → s.place ≡ place → IsOfExpression (slice_get c.grammar.now.nodes e.node) builders →
    None ≡ tape_awaited e.rank s.stack → NoneRead c place e.row Postfix → PassesEnd c s e 2
end_passed c place s e builders at of calm none pc end =
    let more : pc + 2 ≡ pc + 1 + 1 = omega arith in
    then_to c s pc (pc + 1) (pc + 2)
    (passes_to c place s pc (pc + 1) 1 (Settle end.0 e.node e.rank) at end.3 (settle_passes c place end.0 e.node e.rank s.stack builders of calm) refl)
    (passes_to c place s (pc + 1) (pc + 2) 1 (ReadPostfix end.1 e.node e.row) at end.4 (postfix_passes c place end.1 e.node e.row s.stack builders of none) more)

pub end_before : (c : Context) (place : ℕ) (s : Tape) (e : RowEnd) (builders : OperatorBuilders) (number : ℕ) (r : Option ℕ) → s.place ≡ place →
    IsOfExpression (slice_get c.grammar.now.nodes e.node) builders → None ≡ tape_awaited e.rank s.stack → number ≡ suc e.row →
    IfSome r (λ count. (row : ℕ) → number ≡ suc row → NoneRead c place row Postfix × (count ≡ 2)) → IfSome r (PassesEnd c s e)
end_before c place s e builders number None at of calm is h = h
end_before c place s e builders number (Some count) at of calm is h =
    let x = h e.row is in
    subst (PassesEnd c s e) (sym x.1) (end_passed c place s e builders at of calm x.0)

-- at an infix operator where one waits and none is read
infix_waits : (c : Context) (place : ℕ) (keep : Keep) (q row : ℕ) (k : List Frame) (builders : OperatorBuilders) (role : Role) → IsOfExpression (slice_get c.grammar.now.nodes q) builders →
    Some role ≡ tape_awaited (row + row + 1) k → unread_length (Some role) ≡ 4 → ((role : Role) → NoneRead c place row role) → Passes c place k (ReadInfix keep q row) 2
infix_waits c place keep q row k builders role of waits four none table s same at stack =
    ap (λ (n : Option Node). tape_by_builders n (λ b. tape_infixed (given_of c) table keep b row s (tape_awaited (row + row + 1) s.stack))) of.1
    ∙ ap (λ (j : List Frame). tape_infixed (given_of c) table keep builders row s (tape_awaited (row + row + 1) j)) stack
    ∙ ap (λ (a : Option Role). tape_infixed (given_of c) table keep builders row s a) (sym waits)
    ∙ go role four
  where
    found : Role → Option Found
    found role = found_at (given_of c) table s.place row role

    nothing : (role : Role) → found role ≡ None
    nothing role = ap (λ j. found_at (given_of c) table j row role) at ∙ sym (none role table same)

    go : (role : Role) → unread_length (Some role) ≡ 4 → tape_infixed (given_of c) table keep builders row s (Some role) ≡ tape_passed 2 s
    go InfixRight four = ap (λ (r : Option Found). tape_joined row InfixRight s r) (nothing InfixRight)
    go InfixLeft four = ap (λ (r : Option Found). tape_left_joined c.text.now keep builders row s r) (nothing InfixLeft)
    go InfixNone four = refl
    go Prefix four = absurd (omega arith)
    go Postfix four = absurd (omega arith)

-- the end of a row of which nothing stands there
pub row_passed : (c : Context) (place : ℕ) (s : Tape) (rank : ℕ) (e : RowEnd) (builders : OperatorBuilders) → s.place ≡ place → IsOfExpression (slice_get c.grammar.now.nodes e.node) builders →
    rank ≡ e.row + e.row + 1 → None ≡ tape_awaited e.rank s.stack → ((role : Role) → NoneRead c place e.row role) → PassesEnd c s e (unread_length (tape_awaited rank s.stack))
row_passed c place s rank e builders at of is calm none pc end = go (tape_awaited rank s.stack) refl
  where
    here : pc + 2 ≡ pc + 1 + 1
    here = omega arith

    -- up to the infix operator, and so many more
    on : (count more : ℕ) → count ≡ 2 + more → Passes c place s.stack (ReadInfix end.2 e.node e.row) more → IsPassedTo c s pc (pc + count)
    on count more sum h =
        then_to c s pc (pc + 2) (pc + count) (end_passed c place s e builders at of calm (none Postfix) pc end)
        (passes_to c place s (pc + 2) (pc + count) more (ReadInfix end.2 e.node e.row) at (ap (slice_get c.plan.now.code) here ∙ end.5) h (omega arith))

    waiting : (role : Role) → tape_awaited rank s.stack ≡ Some role → unread_length (Some role) ≡ 4 → IsPassedTo c s pc (pc + 4)
    waiting role waits four =
        on 4 2 refl (infix_waits c place end.2 e.node e.row s.stack builders role of (sym waits ∙ ap (λ n. tape_awaited n s.stack) is) four none)

    go : (a : Option Role) → tape_awaited rank s.stack ≡ a → IsPassedTo c s pc (pc + unread_length a)
    go None free =
        on 5 3 refl (infix_passes c place end.2 e.node e.row rank 3 s.stack builders of is (sym free)
        (λ table same. none_first c place table e.row same (none InfixRight) (none InfixLeft) (none InfixNone)))
    go (Some InfixRight) waits = waiting InfixRight waits refl
    go (Some InfixLeft) waits = waiting InfixLeft waits refl
    go (Some InfixNone) waits = waiting InfixNone waits refl
    go (Some Prefix) waits = end_passed c place s e builders at of calm (none Postfix) pc end
    go (Some Postfix) waits = end_passed c place s e builders at of calm (none Postfix) pc end
