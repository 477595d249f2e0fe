-- The rows of an expression find each fitting tree that is spread over the text, where nothing after it goes on: after operands come
-- what is right of them, what is left, or one operator that associates to neither side.
use Rattle.std.proofs.Common.{◌≡◌, ◌⊎◌, ◌≤◌, ◌+◌, ◌||◌, ℕ, zero, suc, Bool, true, false, List, [], ◌∷◌, ◌++◌, inl, inr, refl, sym, ap, subst, ◌∙◌, append-nil, append_assoc, arith}
use Rattle.std.specs.Prelude.{Option, Some, None, find, codes}
use Rattle.pg_tree.specs.Trees.{Tree}
use Rattle.pg_grammar_form.specs.Operators.{Operator}
use Rattle.pg_grammar_form.specs.declared.decl.Role.{Role}
use Rattle.pg_grammar_form.specs.declared.decl.Role.TheVariants.{InfixLeft, InfixRight, InfixNone, Prefix}
use Rattle.pg_grammar_value.specs.declared.trail.AppliedOperator.{AppliedOperator}
use Rattle.pg_grammar_value.specs.declared.trail.Fixity.TheVariants as fixity
use Rattle.pg_grammar_value.specs.declared.trail.TrailItem.{TrailItem}
use Rattle.pg_grammar_value.specs.declared.trail.TrailItem.TheVariants.{Ops}
use Rattle.pg_table.specs.Fitting.{Expression, term, prefixed, postfixed, joined, row, rank, IsAmong, IsFitting}
use Rattle.pg_table.specs.Trails as trails
use Rattle.pg_table.specs.Trails.{operators_read}
use Rattle.pg_expand.specs.declared.rows.Row.{Row}
use Rattle.pg_expand.proofs.RowTrees.{IsRow}
use Rattle.pg_language.specs.Answers.{Given, Answers, AnswersRows, only_term, loosest_row, row_ok, row_failed, row_tail, right_stands, right_failed, left_stands, left_failed, right_side, AfterRightOperator, right_unread, right_read, AfterRightOperand, right_operand_ok, left_side, AfterLeftOperator, left_unread, left_read, left_operand_ok, neither_side, AfterNonOperator, non_unread, non_read}
use Rattle.pg_language.specs.Derives.{Spot, at, applied}
use Rattle.pg_language.specs.Errors.{Error, merge, relabel, no_messages_at}
use Rattle.pg_language.specs.OperatorReads.{Read, unread, read_at}
use Rattle.pg_language.specs.Outcomes.{Outcome, ok, failed}
use Rattle.pg_language.specs.RowReactions.{Setting, then_operand, operators_of, items_of, joined_trail, noted_operator, then_stretch, as_applied, or_ambiguous, with_last, ambiguous_left, ambiguous_right, ambiguous_non}
use Rattle.pg_language.specs.Reactions.{error_after, ok_kind}
use Rattle.pg_derive.proofs.WholeRows.{AreAllLevels, no_level, level}
use Rattle.pg_derive.proofs.OperandsFound.{IsClear, Gives, Refuses, IsOperandOf, IsSideOf, IsTop, ThreeWays, as_top, on_side, only_operand, split, three_ways, of_term, of_infix, to_right, to_left, to_neither}
use Rattle.pg_derive.proofs.OperandsFound as operand

module _ (G : Given) (s : Setting) (operators : List Operator) (clear : IsClear operators) where
  abbrev NoneOf : Role → ℕ → ℕ → Type 0
  NoneOf = operand.NoneOf G s operators clear

  abbrev OperandEnds : ℕ → ℕ → Type 0
  OperandEnds = operand.OperandEnds G s operators clear

  abbrev Stands : Operator → ℕ → ℕ → Type 0
  Stands = operand.Stands G s operators clear

  abbrev Stops : ℕ → ℕ → Type 0
  Stops = operand.Stops G s operators clear

  abbrev read_to : Operator → ℕ → Read
  read_to = operand.read_to G s operators clear

  abbrev Spans : Expression → Spot → Spot → List Tree → List TrailItem → Type 0
  Spans = operand.Spans G s operators clear

  module _ (k : ℕ) (r : Row) (tighter : List Row) (is : IsRow operators (suc k) r) where
    abbrev Finds : Type 0
    Finds = operand.Finds G s operators clear k r tighter is

    abbrev Left : List Tree → Spot → Outcome → ℕ → Type 0
    Left = operand.Left G s operators clear k r tighter is

    abbrev Non : List Tree → Spot → Outcome → ℕ → Type 0
    Non = operand.Non G s operators clear k r tighter is

    abbrev Operand : Spot → Outcome → ℕ → Type 0
    Operand = operand.Operand G s operators clear k r tighter is

    abbrev Right : List Tree → Spot → Outcome → ℕ → Type 0
    Right = operand.Right G s operators clear k r tighter is

    abbrev Tail : List Tree → Spot → Outcome → ℕ → Type 0
    Tail = operand.Tail G s operators clear k r tighter is

    find_operand : Finds → (x : Expression) {a b : Spot} {v : List Tree} {t : List TrailItem} → IsFitting operators x → IsOperandOf operators (suc k) x → Spans x a b v t → OperandEnds k b.place →
        Gives (Operand a) b v (operators_read x) t
    find_operand = operand.find_operand G s operators clear k r tighter is

    -- ---- where no infix operator of a role stands

    no_right : (v : List Tree) (a : Spot) → NoneOf InfixRight (suc k) a.place → Refuses (Right v a)
    no_right v a none = record {
      error = _;
      count = _;
      run = right_side (subst (λ w. AfterRightOperator G s r tighter v a w (failed false (unread G.text r.right a.place)) zero) (sym ((operand.missed G s operators clear) InfixRight (suc k) a.place r.right is.right none)) right_unread);
    }

    no_left : (v : List Tree) (a : Spot) → NoneOf InfixLeft (suc k) a.place → Refuses (Left v a)
    no_left v a none = record {
      error = _;
      count = _;
      run = left_side (subst (λ w. AfterLeftOperator G s r tighter v a w (failed false (unread G.text r.left a.place)) zero) (sym ((operand.missed G s operators clear) InfixLeft (suc k) a.place r.left is.left none)) left_unread);
    }

    no_non : (v : List Tree) (a : Spot) → NoneOf InfixNone (suc k) a.place → Refuses (Non v a)
    no_non v a none = record {
      error = _;
      count = _;
      run = neither_side (subst (λ w. AfterNonOperator G s r tighter v a w (failed false (unread G.text r.non a.place)) zero) (sym ((operand.missed G s operators clear) InfixNone (suc k) a.place r.non is.non none)) non_unread);
    }

    -- ---- right-associative operators

    -- an operand, and what is right of it
    data Rights (a : Spot) : Outcome → ℕ → Type 0 where
      rights : {x o : Outcome} {m n : ℕ} → Operand a x m → AfterRightOperand G s r tighter x o n → Rights a o (m + n)

    right_at : (v : List Tree) (a : Spot) (o : Outcome) (m : ℕ) (w : Option Read) → read_at G.grammar G.text s.item r.right a.place ≡ w → AfterRightOperator G s r tighter v a w o m →
        Right v a (or_ambiguous (merge (ambiguous_left G.grammar G.text s.item r a.place) (ambiguous_non G.grammar G.text s.item r a.place)) o) m
    right_at v a o m w e run = right_side (subst (λ w. AfterRightOperator G s r tighter v a w o m) (sym e) run)

    right_after : (v : List Tree) (a : Spot) (o : Operator) (j : ℕ) (x : Outcome) (m : ℕ) → Rights (at a j) x m → AfterRightOperator G s r tighter v a (Some (read_to o j)) (then_operand fixity.Infix (read_to o j) (as_applied s.builders.infix o v x)) m
    right_after v a o j x m (rights operand after) = right_read operand after

    right_found : (v : List Tree) (a : Spot) (o : Operator) (j : ℕ) {b : Spot} {w : List Tree} {os : List AppliedOperator} {u : List TrailItem} → IsAmong operators o → o.role ≡ InfixRight → row operators o ≡ suc k →
        Stands o a.place j → Gives (Rights (at a j)) b w os u → Gives (Right v a) b (applied s.builders.infix o (v ++ w)) (trails.applied fixity.Infix o ∷ os) u
    right_found v a o j {b = b} {w = w} m e here there h = record {
      consumed = true;
      trail = joined_trail (noted_operator fixity.Infix o) h.trail;
      error = error_after h.consumed (no_messages_at j) h.error;
      count = h.count;
      run = right_at v a (then_operand fixity.Infix (read_to o j) (as_applied s.builders.infix o v (ok h.consumed b w h.trail h.error))) h.count (Some (read_to o j))
          ((operand.taken G s operators clear) InfixRight (suc k) a.place j r.right o is.right m e here there) (right_after v a o j _ h.count h.run);
      operators = ap (λ (l : List AppliedOperator). trails.applied fixity.Infix o ∷ l) h.operators;
      items = h.items;
    }

    rights_ended : {a b : Spot} {v : List Tree} {os : List AppliedOperator} {u : List TrailItem} → Gives (Operand a) b v os u → Refuses (Right v b) → Gives (Rights a) b v os u
    rights_ended {b = b} h refused = record {
      consumed = h.consumed || false;
      trail = joined_trail h.trail [];
      error = merge h.error (merge refused.error (no_messages_at b.place));
      count = _;
      run = rights h.run (right_operand_ok refused.run);
      operators = append-nil (operators_of h.trail) ∙ h.operators;
      items = append-nil (items_of h.trail) ∙ h.items;
    }

    rights_go_on : {a b c : Spot} {v w : List Tree} {os ps : List AppliedOperator} {u x : List TrailItem} → Gives (Operand a) b v os u → Gives (Right v b) c w ps x → Gives (Rights a) c w (os ++ ps) (u ++ x)
    rights_go_on {os = os} {ps = ps} {u = u} {x = x} h g = record {
      consumed = h.consumed || g.consumed;
      trail = joined_trail h.trail g.trail;
      error = error_after g.consumed h.error g.error;
      count = _;
      run = rights h.run (right_operand_ok g.run);
      operators = ap (λ (l : List AppliedOperator). l ++ operators_of g.trail) h.operators ∙ ap (λ (l : List AppliedOperator). os ++ l) g.operators;
      items = ap (λ (l : List TrailItem). l ++ items_of g.trail) h.items ∙ ap (λ (l : List TrailItem). u ++ l) g.items;
    }

    find_rights : Finds → (x : Expression) {a b : Spot} {v : List Tree} {t : List TrailItem} → IsFitting operators x → IsSideOf operators InfixRight (suc k) x → Spans x a b v t → Stops (suc k) b.place →
        Gives (Rights a) b v (operators_read x) t
    find_rights find x {b = b} {v = v} f (inl h) d stop =
        rights_ended (find_operand find x f h d ((operand.ends_where G s operators clear) k b.place stop)) (no_right v b ((operand.none_where G s operators clear) k b.place InfixRight refl stop))
    find_rights find term f (inr h) d stop = absurd h
    find_rights find (prefixed o x) f (inr h) d stop = absurd h
    find_rights find (postfixed o x) f (inr h) d stop = absurd h
    find_rights find (joined o x y) f (inr h) (of_infix {j = j} {b = b} {v = v} d is g) stop =
        let first = find_operand find x f.2 (only_operand operators (suc k) InfixLeft o x h.0 (λ e. (let other = h.1 in cc)) f.4) d ((operand.ends_at G s operators clear) k o b.place j f.0 f.1 h.0 is) in
        let rest = find_rights find y f.3 (on_side operators (suc k) InfixRight o y h.0 f.5) g stop in
        rights_go_on first (right_found v b o j f.0 h.1 h.0 is rest)

    -- ---- left-associative operators

    -- from a forest at a spot they go on to another, or they end
    data Onward (v : List Tree) (a : Spot) : List Tree → Spot → List AppliedOperator → List TrailItem → Type 0 where
      goes : {w : List Tree} {b : Spot} {os : List AppliedOperator} {u : List TrailItem} → NoneOf InfixRight (suc k) a.place → Gives (Left v a) b w os u → Onward v a w b os u
      ends : Refuses (Left v a) → Onward v a v a [] []

    left_at : (v : List Tree) (a : Spot) (o : Outcome) (m : ℕ) (w : Option Read) → read_at G.grammar G.text s.item r.left a.place ≡ w → AfterLeftOperator G s r tighter v a w o m →
        Left v a (or_ambiguous (merge (ambiguous_right G.grammar G.text s.item r a.place) (ambiguous_non G.grammar G.text s.item r a.place)) o) m
    left_at v a o m w e run = left_side (subst (λ w. AfterLeftOperator G s r tighter v a w o m) (sym e) run)

    -- an operator, an operand, and what goes on after the tree of the three
    left_found : (v : List Tree) (a : Spot) (o : Operator) (j : ℕ) {b c : Spot} {w z : List Tree} {os ps : List AppliedOperator} {u x : List TrailItem} → IsAmong operators o → o.role ≡ InfixLeft → row operators o ≡ suc k →
        Stands o a.place j → Gives (Operand (at a j)) b w os u → Onward (applied s.builders.infix o (v ++ w)) b z c ps x → Gives (Left v a) c z (trails.applied fixity.Infix o ∷ (os ++ ps)) (u ++ x)
    left_found v a o j {c = c} {w = w} {z = z} {os = os} {u = u} m e here there h (goes none g) = record {
      consumed = true;
      trail = joined_trail (noted_operator fixity.Infix o) (joined_trail h.trail g.trail);
      error = error_after (h.consumed || g.consumed) (no_messages_at j) (error_after g.consumed h.error g.error);
      count = h.count + g.count;
      run = left_at v a (then_operand fixity.Infix (read_to o j) (then_stretch h.consumed h.trail h.error (ok g.consumed c z g.trail g.error))) (h.count + g.count) (Some (read_to o j))
          ((operand.taken G s operators clear) InfixLeft (suc k) a.place j r.left o is.left m e here there) (left_read h.run (left_operand_ok g.run));
      operators = ap (λ (l : List AppliedOperator). trails.applied fixity.Infix o ∷ (l ++ operators_of g.trail)) h.operators
          ∙ ap (λ (l : List AppliedOperator). trails.applied fixity.Infix o ∷ (os ++ l)) g.operators;
      items = ap (λ (l : List TrailItem). l ++ items_of g.trail) h.items ∙ ap (λ (l : List TrailItem). u ++ l) g.items;
    }
    left_found v a o j {b = b} {w = w} m e here there h (ends g) = record {
      consumed = true;
      trail = joined_trail (noted_operator fixity.Infix o) (joined_trail h.trail []);
      error = error_after (h.consumed || false) (no_messages_at j) (merge h.error (merge g.error (no_messages_at b.place)));
      count = h.count + g.count;
      run = left_at v a
          (then_operand fixity.Infix (read_to o j) (then_stretch h.consumed h.trail h.error (ok false b (applied s.builders.infix o (v ++ w)) [] (merge g.error (no_messages_at b.place))))) (h.count + g.count)
          (Some (read_to o j)) ((operand.taken G s operators clear) InfixLeft (suc k) a.place j r.left o is.left m e here there) (left_read h.run (left_operand_ok g.run));
      operators = ap (λ (l : List AppliedOperator). trails.applied fixity.Infix o ∷ (l ++ [])) h.operators;
      items = ap (λ (l : List TrailItem). l ++ []) h.items;
    }

    -- the first operand of a tree that such operators join, and how they go on from it
    record Spine (a : Spot) (w : List Tree) (c : Spot) (os : List AppliedOperator) (u : List TrailItem) : Type 0 where
      end : Spot
      forest : List Tree
      first_operators : List AppliedOperator
      other_operators : List AppliedOperator
      first_items : List TrailItem
      other_items : List TrailItem
      operand : Gives (Operand a) end forest first_operators first_items
      onward : Onward forest end w c other_operators other_items
      read : first_operators ++ other_operators ≡ os
      items : first_items ++ other_items ≡ u

    -- if they go on after x, they come from the start of x there
    find_spine : Finds → (x : Expression) {a b c : Spot} {v w : List Tree} {t u : List TrailItem} {os : List AppliedOperator} → IsFitting operators x → IsSideOf operators InfixLeft (suc k) x → Spans x a b v t →
        OperandEnds k b.place → Onward v b w c os u → Spine a w c (operators_read x ++ os) (t ++ u)
    find_spine find x f (inl h) d ending more = record {
      end = _;
      forest = _;
      first_operators = operators_read x;
      other_operators = _;
      first_items = _;
      other_items = _;
      operand = find_operand find x f h d ending;
      onward = more;
      read = refl;
      items = refl;
    }
    find_spine find term f (inr h) d ending more = absurd h
    find_spine find (prefixed o x) f (inr h) d ending more = absurd h
    find_spine find (postfixed o x) f (inr h) d ending more = absurd h
    find_spine find (joined o x y) {u = z} {os = os} f (inr h) (of_infix {j = j} {b = b} {v = v} {t = t} {u = u} d is g) ending more =
        let second = find_operand find y f.3 (only_operand operators (suc k) InfixRight o y h.0 (λ e. (let other = h.1 in cc)) f.5) g ending in
        let left = left_found v b o j f.0 h.1 h.0 is second more in
        let role_is = h.1 in
        let spine = find_spine find x f.2 (on_side operators (suc k) InfixLeft o x h.0 f.4) d ((operand.ends_at G s operators clear) k o b.place j f.0 f.1 h.0 is)
        (goes ((operand.other_role G s operators clear) k o b.place j InfixRight f.0 f.1 refl (λ e. cc) is) left) in
        record {
          end = spine.end;
          forest = spine.forest;
          first_operators = spine.first_operators;
          other_operators = spine.other_operators;
          first_items = spine.first_items;
          other_items = spine.other_items;
          operand = spine.operand;
          onward = spine.onward;
          read = spine.read ∙ sym (append_assoc (operators_read x) (trails.applied fixity.Infix o ∷ operators_read y) os);
          items = spine.items ∙ sym (append_assoc t u z);
        }

    -- ---- after the first operand

    tail_ended : (v : List Tree) (b : Spot) → Stops (suc k) b.place → Gives (Tail v b) b v [] []
    tail_ended v b stop =
        let right = no_right v b ((operand.none_where G s operators clear) k b.place InfixRight refl stop) in
        let left = no_left v b ((operand.none_where G s operators clear) k b.place InfixLeft refl stop) in
        let non = no_non v b ((operand.none_where G s operators clear) k b.place InfixNone refl stop) in
        record {
          consumed = false;
          trail = [];
          error = merge right.error (merge left.error (merge non.error (no_messages_at b.place)));
          count = right.count + (left.count + non.count);
          run = row_tail right.run (right_failed left.run (left_failed non.run));
          operators = refl;
          items = refl;
        }

    tail_right : {v w : List Tree} {a b : Spot} {os : List AppliedOperator} {u : List TrailItem} → Gives (Right v a) b w os u → Gives (Tail v a) b w os u
    tail_right h = record { consumed = h.consumed; trail = h.trail; error = h.error; count = _; run = row_tail h.run right_stands; operators = h.operators; items = h.items }

    tail_left : {v w : List Tree} {a b : Spot} {os : List AppliedOperator} {u : List TrailItem} → Stops (suc k) b.place → Onward v a w b os u → Gives (Tail v a) b w os u
    tail_left {v = v} {a = a} stop (goes none h) =
        let right = no_right v a none in
        record {
          consumed = h.consumed;
          trail = h.trail;
          error = error_after h.consumed right.error h.error;
          count = _;
          run = row_tail right.run (right_failed h.run left_stands);
          operators = h.operators;
          items = h.items;
        }
    tail_left {v = v} {a = a} stop (ends h) = tail_ended v a stop

    -- an operator that isn't associative, and its right operand
    non_at : (v : List Tree) (a : Spot) (o : Outcome) (m : ℕ) (w : Option Read) → read_at G.grammar G.text s.item r.non a.place ≡ w → AfterNonOperator G s r tighter v a w o m → Non v a o m
    non_at v a o m w e run = neither_side (subst (λ w. AfterNonOperator G s r tighter v a w o m) (sym e) run)

    -- where any infix operator of the row would be an ambiguous use
    abbrev ambiguous_at : Spot → Error
    ambiguous_at b = merge (ambiguous_right G.grammar G.text s.item r b.place) (merge (ambiguous_left G.grammar G.text s.item r b.place) (ambiguous_non G.grammar G.text s.item r b.place))

    non_found : (v : List Tree) (a : Spot) (o : Operator) (j : ℕ) {b : Spot} {w : List Tree} {os : List AppliedOperator} {u : List TrailItem} → IsAmong operators o → o.role ≡ InfixNone → row operators o ≡ suc k →
        Stands o a.place j → Gives (Operand (at a j)) b w os u → Gives (Non v a) b (applied s.builders.infix o (v ++ w)) (trails.applied fixity.Infix o ∷ os) u
    non_found v a o j {b = b} {w = w} m e here there h = record {
      consumed = true;
      trail = joined_trail (noted_operator fixity.Infix o) (joined_trail h.trail []);
      error = error_after (h.consumed || false) (no_messages_at j) (merge h.error (merge (ambiguous_at b) (no_messages_at b.place)));
      count = h.count;
      run = non_at v a (then_operand fixity.Infix (read_to o j) (with_last G.grammar G.text s r (read_to o j) v (ok h.consumed b w h.trail h.error))) h.count (Some (read_to o j))
          ((operand.taken G s operators clear) InfixNone (suc k) a.place j r.non o is.non m e here there) (non_read h.run);
      operators = ap (λ (l : List AppliedOperator). trails.applied fixity.Infix o ∷ l) (append-nil (operators_of h.trail) ∙ h.operators);
      items = append-nil (items_of h.trail) ∙ h.items;
    }

    tail_non : {v w : List Tree} {a b : Spot} {os : List AppliedOperator} {u : List TrailItem} → NoneOf InfixRight (suc k) a.place → NoneOf InfixLeft (suc k) a.place → Gives (Non v a) b w os u → Gives (Tail v a) b w os u
    tail_non {v = v} {a = a} bare none h =
        let right = no_right v a bare in
        let left = no_left v a none in
        record {
          consumed = h.consumed;
          trail = h.trail;
          error = error_after h.consumed right.error (error_after h.consumed left.error h.error);
          count = right.count + (left.count + h.count);
          run = row_tail right.run (right_failed left.run (left_failed h.run));
          operators = h.operators;
          items = h.items;
        }

    -- ---- the row

    row_of : {a b c : Spot} {v w : List Tree} {os ps : List AppliedOperator} {u x : List TrailItem} → Gives (Operand a) b v os u → Gives (Tail v b) c w ps x →
        Gives (AnswersRows G s (r ∷ tighter) a) c w (os ++ ps) (u ++ x)
    row_of {c = c} {os = os} {u = u} h g = record {
      consumed = h.consumed || g.consumed;
      trail = joined_trail h.trail g.trail;
      error = error_after g.consumed h.error (relabel (ok_kind g.consumed) (codes "operator") g.error);
      count = _;
      run = loosest_row h.run (row_ok g.run);
      operators = ap (λ (l : List AppliedOperator). l ++ operators_of g.trail) h.operators ∙ ap (λ (l : List AppliedOperator). os ++ l) g.operators;
      items = ap (λ (l : List TrailItem). l ++ items_of g.trail) h.items ∙ ap (λ (l : List TrailItem). u ++ l) g.items;
    }

    -- the same with other names for what it gives
    renamed : {a c : Spot} {w : List Tree} {os ps : List AppliedOperator} {u x : List TrailItem} → os ≡ ps → u ≡ x → Gives (AnswersRows G s (r ∷ tighter) a) c w os u → Gives (AnswersRows G s (r ∷ tighter) a) c w ps x
    renamed e f h = record { consumed = h.consumed; trail = h.trail; error = h.error; count = h.count; run = h.run; operators = h.operators ∙ e; items = h.items ∙ f }

    find_joined : Finds → (o : Operator) (x y : Expression) {a c : Spot} {v : List Tree} {t : List TrailItem} → IsFitting operators (joined o x y) → row operators o ≡ suc k → Spans (joined o x y) a c v t →
        Stops (suc k) c.place → ThreeWays o.role → Gives (AnswersRows G s (r ∷ tighter) a) c v (operators_read (joined o x y)) t
    find_joined find o x y {c = c} {v = z} {t = t} f here d stop (to_left e) =
        let spine = find_spine find (joined o x y) f (inr (here, e)) d ((operand.ends_where G s operators clear) k c.place stop) (ends (no_left z c ((operand.none_where G s operators clear) k c.place InfixLeft refl stop))) in
        renamed (spine.read ∙ append-nil (operators_read (joined o x y))) (spine.items ∙ append-nil t) (row_of spine.operand (tail_left stop spine.onward))
    find_joined find o x y f here (of_infix {j = j} {b = b} {v = v} d is g) stop (to_right e) =
        let first = find_operand find x f.2 (only_operand operators (suc k) InfixLeft o x here (λ h. cc) f.4) d ((operand.ends_at G s operators clear) k o b.place j f.0 f.1 here is) in
        let rest = find_rights find y f.3 (on_side operators (suc k) InfixRight o y here f.5) g stop in
        row_of first (tail_right (right_found v b o j f.0 e here is rest))
    find_joined find o x y {c = c} f here (of_infix {j = j} {b = b} {v = v} d is g) stop (to_neither e) =
        let first = find_operand find x f.2 (only_operand operators (suc k) InfixLeft o x here (λ h. cc) f.4) d ((operand.ends_at G s operators clear) k o b.place j f.0 f.1 here is) in
        let second = find_operand find y f.3 (only_operand operators (suc k) InfixRight o y here (λ h. cc) f.5) g ((operand.ends_where G s operators clear) k c.place stop) in
        row_of first (tail_non ((operand.other_role G s operators clear) k o b.place j InfixRight f.0 f.1 refl (λ h. cc) is) ((operand.other_role G s operators clear) k o b.place j InfixLeft f.0 f.1 refl (λ h. cc) is) (non_found v b o j f.0 e here is second))

    find_row : Finds → (x : Expression) {a b : Spot} {v : List Tree} {t : List TrailItem} → IsFitting operators x → IsOperandOf operators (suc k) x ⊎ IsTop operators (suc k) x → Spans x a b v t → Stops (suc k) b.place →
        Gives (AnswersRows G s (r ∷ tighter) a) b v (operators_read x) t
    find_row find x {b = b} {v = v} {t = t} f (inl h) d stop =
        renamed (append-nil (operators_read x)) (append-nil t) (row_of (find_operand find x f h d ((operand.ends_where G s operators clear) k b.place stop)) (tail_ended v b stop))
    find_row find term f (inr h) d stop = absurd h
    find_row find (prefixed o x) f (inr h) d stop = absurd h
    find_row find (postfixed o x) f (inr h) d stop = absurd h
    find_row find (joined o x y) f (inr h) d stop = find_joined find o x y f h d stop (three_ways o.role f.1)

    -- ---- nothing to read here

    operand_refused : (a : Spot) → NoneOf Prefix (suc k) a.place → Refuses (AnswersRows G s tighter a) → Refuses (Operand a)
    operand_refused a none h = record { error = _; count = _; run = (operand.operand_run G s operators clear k r tighter is) a _ h.count None ((operand.missed G s operators clear) Prefix (suc k) a.place r.prefix is.prefix none) h.run }

    row_refused : (a : Spot) → NoneOf Prefix (suc k) a.place → Refuses (AnswersRows G s tighter a) → Refuses (AnswersRows G s (r ∷ tighter) a)
    row_refused a none h = let operand = operand_refused a none h in record { error = _; count = _; run = loosest_row operand.run row_failed }

  -- ---- all rows

  found_term : {a b : Spot} {c : Bool} {v : List Tree} {t : List TrailItem} {e : Error} {m : ℕ} → Answers G s.term a (ok c b v t e) m → Gives (AnswersRows G s [] a) b v [] t
  found_term run = record { consumed = _; trail = Ops [] ∷ _; error = _; count = _; run = only_term run; operators = refl; items = refl }

  -- a fitting tree that is spread here, and after which nothing goes on, is what the rows answer
  pub finds : {k : ℕ} {rows : List Row} → AreAllLevels operators k rows → (x : Expression) {a b : Spot} {v : List Tree} {t : List TrailItem} → IsFitting operators x → rank operators x ≤ k → Spans x a b v t →
      Stops k b.place → Gives (AnswersRows G s rows a) b v (operators_read x) t
  finds no_level term f l (of_term run bare) stop = found_term run
  finds no_level (prefixed o x) f l d stop = let up = clear.above o f.0 in absurd (omega arith)
  finds no_level (postfixed o x) f l d stop = let up = clear.above o f.0 in absurd (omega arith)
  finds no_level (joined o x y) f l d stop = let up = clear.above o f.0 in absurd (omega arith)
  finds (level {k = k} {r = r} {tighter = tighter} is are) x f l d stop =
      find_row k r tighter is (λ x a b v t f l d stop. finds are x f l d stop) x f (as_top operators k x (split (rank operators x) (suc k) l)) d stop

  -- where no prefix stands and the term refuses, so do the rows
  pub refuse : {k : ℕ} {rows : List Row} → AreAllLevels operators k rows → (a : Spot) → ((o : Operator) (j : ℕ) → IsAmong operators o → o.role ≡ Prefix → Stands o a.place j → ⊥) → Refuses (Answers G s.term a) →
      Refuses (AnswersRows G s rows a)
  refuse no_level a none h = record { error = _; count = _; run = only_term h.run }
  refuse (level {k = k} {r = r} {tighter = tighter} is are) a none h =
      row_refused k r tighter is a (λ o j m e here there. none o j m e there) (refuse are a none h)
