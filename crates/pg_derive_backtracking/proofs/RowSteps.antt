-- What expressions note, by what their terms do: each operator that is read is consumed.
use Rattle.std.proofs.Common.{◌≡◌, ℕ, List, [], ◌∷◌, ◌++◌, Bool, true, false, ◌||◌, refl, sym, subst}
use Rattle.std.specs.Prelude.{Option, Some, None}
use Rattle.std.specs.List.{Contains}
use Rattle.pg_tree.specs.Trees.{Tree}
use Rattle.pg_grammar_form.specs.Operators.{Operator}
use Rattle.pg_grammar_form.specs.declared.decl.Role.{Role}
use Rattle.pg_grammar_form.specs.declared.decl.Role.TheVariants.{Prefix, Postfix}
use Rattle.pg_grammar_value.specs.declared.trail.Fixity.TheVariants as fixity
use Rattle.pg_table.specs.Tables.{Table, ComesFrom}
use Rattle.pg_expand.specs.declared.rows.Row.{Row}
use Rattle.pg_expand.proofs.Levels.{from_member}
use Rattle.pg_expand.proofs.RowTrees.{AreThose, IsRow}
use Rattle.pg_language.specs.Answers.{Given}
use Rattle.pg_language.specs.Derives.{Spot, at}
use Rattle.pg_language.specs.OperatorReads.{Read, read_at}
use Rattle.pg_language.specs.Outcomes.{Outcome, ok, failed, empty_round}
use Rattle.pg_language.specs.Runs.{IsOperatorAt}
use Rattle.pg_language.specs.RowReactions.{Setting, no_affix, then_stretch, past_prefix, with_prefix, postfix_outcome, with_postfix, as_operand, with_last}
use Rattle.pg_language.proofs.Onward.{operator_on}
use Rattle.pg_language.proofs.ReadOn.{is_read}
use Rattle.pg_derive.specs.ClosedSets.{NodeSets}
use Rattle.pg_derive.specs.Predictive.{ExpressionIsPredictive, IsSomeOperatorAt}
use Rattle.pg_derive.specs.PredictiveLaws.{Predicts}
use Rattle.pg_derive_bound.proofs.Nodes as nodes
use Rattle.pg_derive_bound.proofs.Nodes.{bare_of, IsSpot}
use Rattle.pg_derive_bound.proofs.Paid as paid
use Rattle.pg_derive_bound.proofs.Paid.{End, end_of, joined, returned}
use Rattle.pg_derive_bound.proofs.Repeats.{not_both}
use Rattle.pg_derive_bound.proofs.RowEnds.{At, stretch_ends, applied_operator_ends, at_stretch, at_applied_operator}
use Rattle.pg_derive_backtracking.specs.Events.{Event, Consumed, operator_log}
use Rattle.pg_derive_backtracking.specs.Logs.{postfix_log}
use Rattle.pg_derive_backtracking.proofs.Calm.{Notes, refuses, rests, goes, breaks, gives_back, stuck, none_back, around, and_nothing, and_rest, noted_as}
use Rattle.pg_derive_backtracking.proofs.Nodes.{NotesNode}

-- after an operator that was read
after_operator : {E F B : Type 0} {A : ℕ → Type 0} {i k : ℕ} {z : End} {l : List Event} → (B → ⊥) → Notes ⊥ F A k z l → Notes E B A i (joined true z) (Consumed i ∷ l)
after_operator none refuses = breaks none tt
after_operator none (rests e same) = absurd e
after_operator none (goes x h) = goes none h
after_operator none (breaks x h) = breaks none h
after_operator none (gives_back x a h) = gives_back none a h
after_operator none stuck = stuck

after_none : {E B : Type 0} {A : ℕ → Type 0} {i : ℕ} {l : List Event} (z : End) → Notes E B A i z l → Notes E B A i (joined false z) l
after_none (paid.ends c j) x = x
after_none (paid.stops c) x = x
after_none paid.never x = x

before_none : {E B : Type 0} {A : ℕ → Type 0} {i j : ℕ} {l : List Event} (d : Bool) → Notes E B A i (paid.ends d j) l → Notes E B A i (paid.ends (d || false) j) l
before_none true x = x
before_none false x = x

-- before a postfix that was read
before_postfix : {B : Type 0} {A : ℕ → Type 0} {i j k : ℕ} {l : List Event} {d : Bool} → (A j → ⊥) → Notes ⊥ B A i (paid.ends d j) l → Notes ⊥ B A i (paid.ends (d || true) k) (l ++ (Consumed j ∷ []))
before_postfix none (rests e same) = absurd e
before_postfix {j = j} {l = l} none (goes x h) = goes x (none_back l (Consumed j ∷ []) h tt)
before_postfix none (gives_back x a h) = absurd (none a)

-- what fails and consumed nothing notes nothing
abbrev pub Unread : End → List Event → Type 0
Unread (paid.ends c j) l = Unit {0}
Unread (paid.stops true) l = Unit {0}
Unread (paid.stops false) l = [] ≡ l
Unread paid.never l = Unit {0}

read_joined : (z : End) (l : List Event) → Unread (joined true z) l
read_joined (paid.ends c j) l = tt
read_joined (paid.stops c) l = tt
read_joined paid.never l = tt

-- a prefix changes no place
postfix_after_prefix : (G : Given) (s : Setting) (r : Row) (os : List Operator) (a : Spot) (w : Option Read) (o : Outcome) → postfix_log G s r (with_prefix G.text s.builders os a w o) ≡ postfix_log G s r o
postfix_after_prefix G s r os a None (ok c b v t e) = refl
postfix_after_prefix G s r os a None (failed c e) = refl
postfix_after_prefix G s r os a None empty_round = refl
postfix_after_prefix G s r os a (Some q) (ok c b v t e) = refl
postfix_after_prefix G s r os a (Some q) (failed c e) = refl
postfix_after_prefix G s r os a (Some q) empty_round = refl

module _ (G : Given) (sets : NodeSets) (h : Predicts G sets) where
  abbrev Bare : ℕ → ℕ → Type 0
  Bare p i = nodes.Bare G sets h p i

  abbrev Beyond : ℕ → ℕ → Type 0
  Beyond p i = nodes.Beyond G sets h p i

  abbrev AtSpot : Outcome → Type 0
  AtSpot o = At (IsSpot G sets h) o

  -- an expression at p that is run over its term, under a table of the grammar
  pub record Over (p : ℕ) (s : Setting) : Type 0 where
    pub table : Table
    pub comes : ComesFrom G.grammar table
    pub fits : ExpressionIsPredictive G.grammar sets p s.term
    pub item : fits.item ≡ s.item

  -- what begins like the expression at p
  abbrev pub NotesOperand : ℕ → ℕ → ℕ → End → List Event → Type 0
  NotesOperand p q i z l = Notes ⊥ (Bare p i) (Beyond q) i z l

  -- what may follow an operand
  abbrev pub NotesTail : ℕ → ℕ → End → List Event → Type 0
  NotesTail q i z l = Notes (Unit {0}) (Beyond q i) (Beyond q) i z l

  -- an infix operator, and what is right of it
  abbrev pub NotesInfix : ℕ → ℕ → End → List Event → Type 0
  NotesInfix q i z l = Notes ⊥ (Beyond q i) (Beyond q) i z l × Unread z l

  module _ (p : ℕ) (s : Setting) (over : Over p s) where
    -- ---- what is read

    -- an operator was read at the spot
    pub record IsReadFrom (b : Spot) (q : Read) : Type 0 where
      pub spot : IsSpot G sets h (at b q.end)
      pub begins : Bare p b.place → ⊥
      pub again : Beyond s.term b.place → ⊥

    pub reads : (role : Role) (k : ℕ) (os : List Operator) → AreThose over.table.operators role k os → (b : Spot) → IsSpot G sets h b → (q : Read) → read_at G.grammar G.text s.item os b.place ≡ Some q → IsReadFrom b q
    reads role k os those b is q e =
        let read = is_read G.grammar G.text s.item os b.place q e in
        let on = operator_on G.grammar G.text s.item q.operator.symbol b q.end read.there in
        let stands : IsSomeOperatorAt G.grammar over.fits.item G.text b.place = record {
          table = over.table;
          comes = over.comes;
          operator = q.operator;
          among = ((those q.operator).0 (from_member os q.operator read.among)).0;
          end = q.end;
          there = subst (λ item. IsOperatorAt G.grammar G.text item q.operator.symbol b.place q.end) (sym over.item) read.there;
        } in
        record {
          spot = (on.within is.0, is.1);
          begins = λ none. (let m = over.fits.begins G.text h.text b.place stands in none m.start m.among m.there);
          again = λ none. (let m = over.fits.again G.text h.text b.place stands in none m.start m.among m.there);
        }

    -- ---- operands

    pub notes_term : (i : ℕ) (z : End) (l : List Event) → NotesNode G sets h s.term i z l → NotesOperand p s.term i z l
    notes_term i z l x = around (λ e. not_both e over.fits.full) (bare_of G sets h (sets.first p) (Contains (sets.first s.term)) i over.fits.first) (λ j none. none) x

    notes_prefix : (os : List Operator) (a : Spot) (w : Option Read) (o : Outcome) (l : List Event) → ((q : Read) → w ≡ Some q → IsReadFrom a q) → NotesOperand p s.term (past_prefix a w).place (end_of o) l →
        NotesOperand p s.term a.place (end_of (with_prefix G.text s.builders os a w o)) (operator_log a.place w ++ l)
    notes_prefix os a None o l f x = subst (λ z. NotesOperand p s.term a.place z l) (stretch_ends false [] (no_affix G.text os a.place) o) (after_none (end_of o) x)
    notes_prefix os a (Some q) o l f x =
        let is = f q refl in
        subst (λ z. NotesOperand p s.term a.place z (Consumed a.place ∷ l)) (applied_operator_ends fixity.Prefix q s.builders.prefix [] o) (after_operator is.begins x)

    notes_postfix : (r : Row) (i : ℕ) (o : Outcome) (l : List Event) → ((b : Spot) → IsSpot G sets h b → (q : Read) → read_at G.grammar G.text s.item r.postfix b.place ≡ Some q → IsReadFrom b q) → AtSpot o →
        NotesOperand p s.term i (end_of o) l → NotesOperand p s.term i (end_of (with_postfix G.grammar G.text s r.postfix o)) (l ++ postfix_log G s r o) × AtSpot (with_postfix G.grammar G.text s r.postfix o)
    notes_postfix r i (ok d b v t e) l f is x = go (read_at G.grammar G.text s.item r.postfix b.place) refl
      where
        go : (w : Option Read) → read_at G.grammar G.text s.item r.postfix b.place ≡ w →
            NotesOperand p s.term i (end_of (then_stretch d t e (postfix_outcome G.text s.builders r.postfix v b w))) (l ++ operator_log b.place w) × AtSpot (then_stretch d t e (postfix_outcome G.text s.builders r.postfix v b w))
        go None at = (and_nothing (before_none d x), is)
        go (Some q) at = let read = f b is q at in (before_postfix read.again x, read.spot)
    notes_postfix r i (failed d e) l f is x = (and_nothing x, tt)
    notes_postfix r i empty_round l f is x = (and_nothing x, tt)

    prefix_spot : (a : Spot) (w : Option Read) → ((q : Read) → w ≡ Some q → IsReadFrom a q) → IsSpot G sets h a → IsSpot G sets h (past_prefix a w)
    prefix_spot a None f is = is
    prefix_spot a (Some q) f is = (f q refl).spot

    at_prefix : (os : List Operator) (a : Spot) (w : Option Read) (o : Outcome) → AtSpot o → AtSpot (with_prefix G.text s.builders os a w o)
    at_prefix os a None o is = at_stretch (IsSpot G sets h) false [] (no_affix G.text os a.place) o is
    at_prefix os a (Some q) o is = at_applied_operator (IsSpot G sets h) fixity.Prefix q s.builders.prefix [] o is

    -- the spot after a prefix, if one is read
    pub after_prefix : (k : ℕ) (r : Row) (a : Spot) → IsRow over.table.operators k r → IsSpot G sets h a → IsSpot G sets h (past_prefix a (read_at G.grammar G.text s.item r.prefix a.place))
    after_prefix k r a row is = prefix_spot a (read_at G.grammar G.text s.item r.prefix a.place) (λ q e. reads Prefix k r.prefix row.prefix a is q e) is

    -- an operand of a row
    pub notes_row_operand : (k : ℕ) (r : Row) (a : Spot) (o : Outcome) (l : List Event) → IsRow over.table.operators k r → IsSpot G sets h a →
        NotesOperand p s.term (past_prefix a (read_at G.grammar G.text s.item r.prefix a.place)).place (end_of o) l × AtSpot o →
        NotesOperand p s.term a.place (end_of (as_operand G.grammar G.text s r a o)) ((operator_log a.place (read_at G.grammar G.text s.item r.prefix a.place) ++ l) ++ postfix_log G s r o)
        × AtSpot (as_operand G.grammar G.text s r a o)
    notes_row_operand k r a o l row is x =
        let w : Option Read = read_at G.grammar G.text s.item r.prefix a.place in
        let first = notes_prefix r.prefix a w o l (λ q e. reads Prefix k r.prefix row.prefix a is q e) x.0 in
        let all = notes_postfix r a.place (with_prefix G.text s.builders r.prefix a w o) (operator_log a.place w ++ l) (λ b at q e. reads Postfix k r.postfix row.postfix b at q e) (at_prefix r.prefix a w o x.1) first in
        let same = postfix_after_prefix G s r r.prefix a w o in
        (subst (λ k. NotesOperand p s.term a.place (end_of (as_operand G.grammar G.text s r a o)) ((operator_log a.place w ++ l) ++ k)) same all.0, all.1)

    -- any infix operator that follows is an ambiguous use, and isn't taken
    pub notes_ambiguous : (r : Row) (q : Read) (v : List Tree) (i : ℕ) (o : Outcome) (l : List Event) → AtSpot o → NotesOperand p s.term i (end_of o) l →
        NotesOperand p s.term i (end_of (with_last G.grammar G.text s r q v o)) l × AtSpot (with_last G.grammar G.text s r q v o)
    notes_ambiguous r q v i (ok d b w t e) l is x = (before_none d x, is)
    notes_ambiguous r q v i (failed d e) l is x = (x, tt)
    notes_ambiguous r q v i empty_round l is x = (x, tt)

    -- an operand, and what follows it
    pub notes_stretch : (i k : ℕ) (d : Bool) (z : End) (l n : List Event) → NotesOperand p s.term i (paid.ends d k) l → NotesTail s.term k z n → NotesOperand p s.term i (joined d z) (l ++ n)
    notes_stretch i k d z l n x y =
        and_rest ⊥ (Unit {0}) ⊥ (Bare p i) (Bare p i) (λ k. Beyond s.term k) (Beyond s.term) (Beyond s.term) i (λ none. none) (λ e none. absurd e) (λ k none. none) (λ k none u. none) (λ e u. e) x y

    -- ---- infix operators

    pub unread : (i : ℕ) → NotesInfix s.term i (paid.stops false) []
    unread i = (refuses, refl)

    -- one that was read, and an operand
    pub notes_infix : (b : Spot) (q : Read) (z : End) (l : List Event) → IsReadFrom b q → NotesOperand p s.term q.end z l → NotesInfix s.term b.place (joined true z) (Consumed b.place ∷ l)
    notes_infix b q z l is x = (after_operator is.again x, read_joined z (Consumed b.place ∷ l))

    -- where none was read, the operand before stands
    pub notes_return : (i : ℕ) (z : End) (l : List Event) → NotesInfix s.term i z l → NotesTail s.term i (returned i z) l
    notes_return i z l x = go z x.0 x.1
      where
        go : (z : End) → Notes ⊥ (Beyond s.term i) (Beyond s.term) i z l → Unread z l → NotesTail s.term i (returned i z) l
        go (paid.stops false) y none = noted_as none (rests tt refl)
        go (paid.stops true) (breaks b n) none = breaks b n
        go (paid.ends d k) y none = around (λ e. absurd e) (λ none. none) (λ j none. none) y
        go paid.never y none = stuck

    -- one that stands
    pub notes_stands : (i : ℕ) (z : End) (l : List Event) → NotesInfix s.term i z l → NotesTail s.term i z (l ++ [])
    notes_stands i z l x = and_nothing (around (λ e. absurd e) (λ none. none) (λ j none. none) x.0)

    -- what is tried where none was read
    pub notes_else : (i : ℕ) (z : End) (l n : List Event) → Unread (paid.stops false) l → NotesTail s.term i z n → NotesTail s.term i z (l ++ n)
    notes_else i z l n none x = subst (λ k. NotesTail s.term i z (k ++ n)) none x
