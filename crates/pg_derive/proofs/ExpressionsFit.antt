-- Expressions of a grammar at whose nodes nothing is wrong fit: their terms and what follows them are apart from operators.
use Rattle.std.proofs.Common.{◌≡◌, ◌<◌, inl, inr, ℕ, zero, suc, List, [], ◌∷◌, Bool, true, false, Some, slice_get, length, drop, refl, sym, ap, subst, ◌∙◌, arith}
use Rattle.std.specs.Prelude.{if◌then◌else◌}
use Rattle.std.specs.List.{take_while}
use Rattle.std.specs.Str.{all_scalars}
use Rattle.std.proofs.lemmas.Bool.{cases_eq}
use Rattle.std.proofs.lemmas.List.Sums.{take_while-cons}
use Rattle.std.proofs.lemmas.Option.{slice_get_within, same_Some}
use Rattle.pg_graph_bits.specs.Numbers.{set_at}
use Rattle.pg_class.specs.Ranges.{has}
use Rattle.pg_grammar_form.specs.ClassItems.{has_character}
use Rattle.pg_grammar_form.specs.declared.form.Form.TheVariants as form
use Rattle.pg_grammar_form.specs.declared.operators_item.OperatorsItem.{OperatorsItem}
use Rattle.pg_grammar_form.specs.declared.used.OperatorBuilders.{OperatorBuilders}
use Rattle.pg_grammar_value.specs.Grammar.{Grammar, IsGrammar}
use Rattle.pg_text.specs.Texts.{is_among}
use Rattle.pg_start.specs.Prefixes.{run}
use Rattle.pg_start.specs.Starts.{MatchesAt}
use Rattle.pg_start.specs.declared.kind.StartKind.{StartKind}
use Rattle.pg_start.proofs.Meeting.{never_meet, scalar_at}
use Rattle.pg_sets_nullable.specs.Ranks.{Chain}
use Rattle.pg_sets_nullable.specs.Reached as reached
use Rattle.pg_sets_own.specs.Own as plain
use Rattle.pg_sets_own.specs.OwnStarts.{IsOperatorStart, OwnStart, IsKeyTry}
use Rattle.pg_sets_own.specs.OwnStarts as own
use Rattle.pg_sets_own.specs.declared.listed.ListedStart.{ListedStart}
use Rattle.pg_sets_own.proofs.Owned.{one_operator}
use Rattle.pg_predict.specs.Conditions.{IsFaultless, empty_operand, operand_meets_operators, follow_meets_operators}
use Rattle.pg_sets.specs.First as of
use Rattle.pg_sets.specs.First.{IsFirst}
use Rattle.pg_sets.specs.Follow as follow
use Rattle.pg_sets.specs.Follow.{IsFollow}
use Rattle.pg_sets.specs.Sets.{Sets, AreSets, HasStart}
use Rattle.pg_language.specs.Runs.{run_at, IsOperatorAt}
use Rattle.pg_derive.specs.LeastSets.{node_sets}
use Rattle.pg_derive.specs.Predictive.{IsSomeOperatorAt, ExpressionIsPredictive}
use Rattle.pg_derive.proofs.Least.{Decided}
use Rattle.pg_derive.proofs.LeastSets.{first_is, first_covers, follow_is, follow_covers, full, firsts_listable, follows_listable, stands_at}
use Rattle.pg_derive.proofs.LeavesAnswered.{head_there}
use Rattle.pg_derive.proofs.LeavesFit.{expression_item, same_run, same_reserved, scalars_after}
use Rattle.pg_derive.proofs.Meetings.{IsListable, Stands, apart_all}
use Rattle.pg_derive.proofs.OperatorsOfTables.{spelled_in, free_in}
use Rattle.pg_derive.proofs.PartsFit.{are_parts, in_falls, part_first}
use Rattle.pg_predict.proofs.Numbered.{listed_once}
use Rattle.pg_predict_conditions.proofs.Numbered.{same_numbers}

no_key_expression : {g : Grammar} {builders : OperatorBuilders} {term : ℕ} → IsKeyTry g (form.Expression builders term) → ⊥
no_key_expression h = elim h [ ]

-- ---- a run of operator characters

-- the run that stands at a place begins with a character, and goes on after it
record Begins (g : Grammar) (text : List ℕ) (item : OperatorsItem) (place : ℕ) (symbol : List ℕ) : Type 0 where
  head : ℕ
  there : slice_get text place ≡ Some head
  member : has_character g.classes item.class head ≡ true
  whole : head ∷ run_at g text item.class (suc place) ≡ symbol

run_begins : (g : Grammar) (text : List ℕ) (item : OperatorsItem) (place : ℕ) (symbol : List ℕ) → 0 < length symbol → run_at g text item.class place ≡ symbol → Begins g text item place symbol
run_begins g text item place symbol long is = go (drop place text) refl (λ c cs e. rest_of text place c cs e)
  where
    rest_of : (text : List ℕ) (i c : ℕ) (cs : List ℕ) → drop i text ≡ c ∷ cs → drop (suc i) text ≡ cs
    rest_of [] zero c cs e = absurd cc
    rest_of [] (suc i) c cs e = absurd cc
    rest_of (x ∷ xs) zero c cs e = cc
    rest_of (x ∷ xs) (suc i) c cs e = rest_of xs i c cs e

    passes : ℕ → Bool
    passes = has_character g.classes item.class

    with_head : (c : ℕ) (cs : List ℕ) → drop place text ≡ c ∷ cs → drop (suc place) text ≡ cs → (b : Bool) → passes c ≡ b → Begins g text item place symbol
    with_head c cs e after true h = record {
      head = c;
      there = head_there text place c cs e;
      member = h;
      whole = ap (λ (t : List ℕ). c ∷ take_while passes t) after ∙ sym (take_while-cons passes c cs ∙ ap (λ (b : Bool). if b then c ∷ take_while passes cs else []) h) ∙ ap (take_while passes) (sym e) ∙ is;
    }
    with_head c cs e after false h =
        let none : symbol ≡ [] = sym is ∙ ap (take_while passes) e ∙ take_while-cons passes c cs ∙ ap (λ (b : Bool). if b then c ∷ take_while passes cs else []) h in
        let short : length symbol ≡ 0 = ap length none in
        absurd (omega arith)

    go : (cs : List ℕ) → drop place text ≡ cs → ((c : ℕ) (cs : List ℕ) → drop place text ≡ c ∷ cs → drop (suc place) text ≡ cs) → Begins g text item place symbol
    go [] e rest =
        let none : symbol ≡ [] = sym is ∙ ap (take_while passes) e in
        let short : length symbol ≡ 0 = ap length none in
        absurd (omega arith)
    go (c ∷ cs) e rest = with_head c cs e (rest c cs e) (passes c) refl

module _ (g : Grammar) (sets : Sets) (are : AreSets g sets) (acyclic : (r : ℕ) → Chain g r r → ⊥) (grammar : IsGrammar g) (faultless : IsFaultless g) where
  -- ---- the operator start

  -- an operator of a table of the grammar is where the operator start matches
  stands_matches : (item : OperatorsItem) → g.operators ≡ Some item → (start : StartKind) → IsOperatorStart g start → (text : List ℕ) → all_scalars text ≡ true → (place : ℕ) → IsSomeOperatorAt g item text place →
      MatchesAt start text place
  stands_matches item named start (own.operator {item = also} {op = op} {reserved = reserved} at is reads) text scalars place h =
      let same : also ≡ item = cc in
      let there : IsOperatorAt g text also h.operator.symbol place h.end = subst (λ i. IsOperatorAt g text i h.operator.symbol place h.end) (sym same) h.there in
      let begins = run_begins g text also place h.operator.symbol (spelled_in g h.table grammar.initials h.comes h.operator h.among) there.run in
      let scalar = scalar_at text place begins.head scalars begins.there in
      let runs : run op (drop (suc place) text) ≡ run_at g text also.class (suc place) = same_run (has op) (has_character g.classes also.class) (drop (suc place) text) (scalars_after text (suc place) scalars) is.members in
      let whole : begins.head ∷ run op (drop (suc place) text) ≡ h.operator.symbol = ap (λ (t : List ℕ). begins.head ∷ t) runs ∙ begins.whole in
      record {
        head = begins.head;
        there = begins.there;
        member = is.members begins.head scalar ∙ begins.member;
        free = ap (is_among reserved) whole ∙ same_reserved reads h.operator.symbol ∙ free_in g h.table also at h.comes h.operator h.among;
      }

  module _ (p term : ℕ) (builders : OperatorBuilders) (e : slice_get g.nodes p ≡ Some (form.Expression builders term)) where
    below : p < length g.nodes
    below = slice_get_within g.nodes p (form.Expression builders term) e

    -- it stands among the starts of the expression
    record OperatorHere : Type 0 where
      start : StartKind
      is : IsOperatorStart g start
      first : IsFirst g start p

    operator_here : (item : OperatorsItem) → g.operators ≡ Some item → OperatorHere
    operator_here item named = let given = are.start_sets.plain p (form.Expression builders term) e (plain.expression named) in go given.0 given.1
      where
        go : (start : StartKind) → OwnStart g (form.Expression builders term) start → OperatorHere
        go start (own.expression is) = record { start = start; is = is; first = of.own e (own.expression is) }

    operators_listable : OperatorHere → IsListable sets.starts (IsOperatorStart g)
    operators_listable here = record { decide = decide; stands = λ s h. subst (λ s. Stands sets.starts s) (one_operator here.is h) (stands_at g sets are (set_at sets.firsts p) here.start has_start) }
      where
        has_start : HasStart sets.starts (set_at sets.firsts p) here.start
        has_start = (are.start_sets.first p here.start below).1 here.first

        decide : (k : ℕ) (x : ListedStart) → slice_get sets.starts k ≡ Some x → Decided (IsOperatorStart g x.start)
        decide k x at =
            elim (cases_eq has_start.number k) [
              | inl same ↦
                  let one : has_start.listed ≡ x = same_Some has_start.listed x (sym has_start.there ∙ ap (slice_get sets.starts) same ∙ at) in
                  inl (subst (IsOperatorStart g) (sym has_start.same ∙ ap (λ (y : ListedStart). y.start) one) here.is)
              | inr differ ↦
                  inr (λ h.
                  let start : has_start.listed.start ≡ x.start = has_start.same ∙ one_operator here.is h in
                  let one = listed_once g has_start.listed x (are.start_sets.listed has_start.number has_start.listed has_start.there) (are.start_sets.listed k x at) start in
                  let place = same_numbers sets.starts has_start.number k x are.start_sets.ordered (has_start.there ∙ ap Some one) at in
                  differ place)
            ]

    pub expression_fits : ExpressionIsPredictive g (node_sets g sets) p term
    expression_fits =
        let item = expression_item g p builders term grammar e in
        let part = (are_parts g grammar p (form.Expression builders term) e).0 in
        let here = operator_here item.0 item.1 in
        let operators = operators_listable here in
        let meets = stands_matches item.0 item.1 here.start here.is in
        record {
          item = item.0;
          named = item.1;
          full = full g sets are term (λ n. faultless p _ (empty_operand e n));
          begins = λ text scalars place h. (let m = first_covers g sets are p below here.start here.first in m text scalars place (meets text scalars place h));
          first = λ s h. part_first g sets are acyclic p term (form.Expression builders term) e no_key_expression reached.expression s (first_is g sets are term part.inside s h);
          again = λ text scalars place h. follow_covers g sets are term part.inside here.start (follow.operator p e here.is) text scalars place (meets text scalars place h);
          follow = λ s h. follow_covers g sets are term part.inside s (follow.last_term e (follow_is g sets are p below s h));
          bare = λ text scalars place m h.
              never_meet m.start here.start
              (apart_all g sets.starts are.start_sets.ordered are.start_sets.listed (λ s. IsFirst g s term) (IsOperatorStart g) (firsts_listable g sets are term part.inside) operators
              (λ x y first. faultless p _ (operand_meets_operators e first)) m.start here.start (first_is g sets are term part.inside m.start m.among) here.is)
              text scalars place m.there (meets text scalars place h);
          ends = λ text scalars place m h.
              never_meet m.start here.start
              (apart_all g sets.starts are.start_sets.ordered are.start_sets.listed (λ s. IsFollow g s p) (IsOperatorStart g) (follows_listable g sets are p below) operators
              (λ x y first. faultless p _ (follow_meets_operators e first)) m.start here.start (follow_is g sets are p below m.start m.among) here.is)
              text scalars place m.there (meets text scalars place h);
          falls = in_falls g sets are acyclic p term (form.Expression builders term) e part reached.expression;
        }
