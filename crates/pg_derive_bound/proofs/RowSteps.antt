-- Expressions pay, where their terms do: the parsers of rows enter no node, and each operator that is read is consumed.
use Rattle.std.proofs.Common.{◌≡◌, ◌<◌, ◌≤◌, ◌+◌, ℕ, zero, List, [], Bool, true, false, ◌||◌, refl, sym, subst, arith}
use Rattle.std.specs.Prelude.{Option, Some, None}
use Rattle.std.specs.List.{Contains}
use Rattle.pg_tree.specs.Trees.{Tree}
use Rattle.pg_grammar_form.specs.Operators.{Operator}
use Rattle.pg_grammar_form.specs.declared.decl.Role.{Role}
use Rattle.pg_grammar_form.specs.declared.decl.Role.TheVariants.{Prefix, Postfix}
use Rattle.pg_grammar_value.specs.declared.trail.Fixity.TheVariants as fixity
use Rattle.pg_table.specs.Tables.{Table, ComesFrom}
use Rattle.pg_expand.specs.declared.rows.Row.{Row}
use Rattle.pg_expand.proofs.Levels.{from_member}
use Rattle.pg_expand.proofs.RowTrees.{AreThose, IsRow}
use Rattle.pg_language.specs.Answers.{Given}
use Rattle.pg_language.specs.Derives.{Spot, at}
use Rattle.pg_language.specs.OperatorReads.{Read, read_at}
use Rattle.pg_language.specs.Outcomes.{Outcome, ok, failed, empty_round}
use Rattle.pg_language.specs.Runs.{IsOperatorAt}
use Rattle.pg_language.specs.RowReactions.{Setting, no_affix, then_stretch, past_prefix, with_prefix, postfix_outcome, with_postfix, as_operand, with_last}
use Rattle.pg_language.proofs.Onward.{operator_on}
use Rattle.pg_language.proofs.ReadOn.{is_read}
use Rattle.pg_derive.specs.ClosedSets.{NodeSets}
use Rattle.pg_derive.specs.Predictive.{ExpressionIsPredictive, IsSomeOperatorAt}
use Rattle.pg_derive.specs.PredictiveLaws.{Predicts}
use Rattle.pg_derive_bound.proofs.Charges.{Charges}
use Rattle.pg_derive_bound.proofs.Nodes as nodes
use Rattle.pg_derive_bound.proofs.Nodes.{bare_of, IsSpot}
use Rattle.pg_derive_bound.proofs.Paid as paid
use Rattle.pg_derive_bound.proofs.Paid.{End, end_of, joined, returned, Fare, Paid, raised, no_later, and_rest}
use Rattle.pg_derive_bound.proofs.Repeats.{not_both}
use Rattle.pg_derive_bound.proofs.RowEnds.{At, stretch_ends, applied_operator_ends, at_stretch, at_applied_operator}

-- after an operator that was read
after_operator : (f : Fare) {E F B : Type 0} {A : ℕ → Type 0} {cost toll cost' toll' i k : ℕ} {z : End} {m : ℕ} → i < k → k ≤ f.last → (B → ⊥) → cost ≤ toll' → toll ≤ f.rate + toll' →
    Paid f ⊥ F A cost toll k z m → Paid f E B A cost' toll' i (joined true z) m
after_operator f {i = i} {k = k} up in_text none c t (paid.refuses l) = let rise = f.rises i k up in let later = no_later f k f.last in_text in paid.breaks none (omega arith)
after_operator f up in_text none c t (paid.rests e same l) = absurd e
after_operator f {i = i} {k = k} up in_text none c t (paid.goes x further inside l) = let rise = f.rises i k up in paid.goes none (omega arith) inside (omega arith)
after_operator f {i = i} {k = k} up in_text none c t (paid.breaks x l) = let rise = f.rises i k up in paid.breaks none (omega arith)
after_operator f {i = i} {k = k} up in_text none c t (paid.gives_back x a l) = let rise = f.rises i k up in paid.gives_back none a (omega arith)
after_operator f up in_text none c t paid.stuck = paid.stuck

after_none : {f : Fare} {E B : Type 0} {A : ℕ → Type 0} {cost toll i m : ℕ} (z : End) → Paid f E B A cost toll i z m → Paid f E B A cost toll i (joined false z) m
after_none (paid.ends c j) x = x
after_none (paid.stops c) x = x
after_none paid.never x = x

before_none : {f : Fare} {E B : Type 0} {A : ℕ → Type 0} {cost toll i j m : ℕ} (d : Bool) → Paid f E B A cost toll i (paid.ends d j) m → Paid f E B A cost toll i (paid.ends (d || false) j) m
before_none true x = x
before_none false x = x

-- before a postfix that was read
before_postfix : {f : Fare} {B : Type 0} {A : ℕ → Type 0} {cost toll i j m k : ℕ} {d : Bool} → j < k → k ≤ f.last → (A j → ⊥) → Paid f ⊥ B A cost toll i (paid.ends d j) m →
    Paid f ⊥ B A cost toll i (paid.ends (d || true) k) m
before_postfix up in_text none (paid.rests e same l) = absurd e
before_postfix {f = f} {j = j} {k = k} up in_text none (paid.goes x further inside l) = let rise = f.rises j k up in paid.goes x (omega arith) in_text (omega arith)
before_postfix up in_text none (paid.gives_back x a l) = absurd (none a)

-- what fails and consumed nothing entered no node
abbrev pub Unread : End → ℕ → Type 0
Unread (paid.ends c j) m = Unit {0}
Unread (paid.stops true) m = Unit {0}
Unread (paid.stops false) m = m ≡ 0
Unread paid.never m = Unit {0}

read_joined : (z : End) (m : ℕ) → Unread (joined true z) m
read_joined (paid.ends c j) m = tt
read_joined (paid.stops c) m = tt
read_joined paid.never m = tt

module _ (G : Given) (sets : NodeSets) (h : Predicts G sets) (c : Charges G.grammar sets) where
  abbrev Bare : ℕ → ℕ → Type 0
  Bare p i = nodes.Bare G sets h p i

  abbrev Beyond : ℕ → ℕ → Type 0
  Beyond p i = nodes.Beyond G sets h p i

  abbrev AtSpot : Outcome → Type 0
  AtSpot o = At (IsSpot G sets h) o

  -- an expression at p that is run over its term, under a table of the grammar
  pub record Over (p : ℕ) (s : Setting) : Type 0 where
    pub table : Table
    pub comes : ComesFrom G.grammar table
    pub fits : ExpressionIsPredictive G.grammar sets p s.term
    pub item : fits.item ≡ s.item
    pub low : c.cost s.term ≤ c.size s.term
    pub small : c.size s.term ≤ c.share

  -- what begins like the expression at p
  abbrev pub PaidOperand : ℕ → ℕ → ℕ → End → ℕ → Type 0
  PaidOperand p q i z m = Paid (nodes.fare G sets h c) ⊥ (Bare p i) (Beyond q) (c.cost q) (c.size q + c.climb q) i z m

  -- what may follow an operand
  abbrev pub PaidTail : ℕ → ℕ → End → ℕ → Type 0
  PaidTail q i z m = Paid (nodes.fare G sets h c) (Unit {0}) (Beyond q i) (Beyond q) 0 (c.size q) i z m

  -- an infix operator, and what is right of it
  abbrev pub PaidInfix : ℕ → ℕ → End → ℕ → Type 0
  PaidInfix q i z m = Paid (nodes.fare G sets h c) ⊥ (Beyond q i) (Beyond q) 0 (c.size q) i z m × Unread z m

  module _ (p : ℕ) (s : Setting) (over : Over p s) where
    -- ---- what is read

    -- an operator was read at the spot
    pub record IsReadFrom (b : Spot) (q : Read) : Type 0 where
      pub ahead : b.place < q.end
      pub spot : IsSpot G sets h (at b q.end)
      pub begins : Bare p b.place → ⊥
      pub again : Beyond s.term b.place → ⊥

    pub reads : (role : Role) (k : ℕ) (os : List Operator) → AreThose over.table.operators role k os → (b : Spot) → IsSpot G sets h b → (q : Read) → read_at G.grammar G.text s.item os b.place ≡ Some q → IsReadFrom b q
    reads role k os those b is q e =
        let read = is_read G.grammar G.text s.item os b.place q e in
        let on = operator_on G.grammar G.text s.item q.operator.symbol b q.end read.there in
        let stands : IsSomeOperatorAt G.grammar over.fits.item G.text b.place = record {
          table = over.table;
          comes = over.comes;
          operator = q.operator;
          among = ((those q.operator).0 (from_member os q.operator read.among)).0;
          end = q.end;
          there = subst (λ item. IsOperatorAt G.grammar G.text item q.operator.symbol b.place q.end) (sym over.item) read.there;
        } in
        record {
          ahead = read.ahead;
          spot = (on.within is.0, is.1);
          begins = λ none. (let m = over.fits.begins G.text h.text b.place stands in none m.start m.among m.there);
          again = λ none. (let m = over.fits.again G.text h.text b.place stands in none m.start m.among m.there);
        }

    -- ---- operands

    pub paid_term : (i : ℕ) (z : End) (m : ℕ) → nodes.PaidNode G sets h c s.term i z m → PaidOperand p s.term i z m
    paid_term i z m x =
        raised (nodes.fare G sets h c) 0 (omega arith) (omega arith) (omega arith) (λ e. not_both e over.fits.full) (bare_of G sets h (sets.first p) (Contains (sets.first s.term)) i over.fits.first) (λ j none. none) x

    pub paid_prefix : (os : List Operator) (a : Spot) (w : Option Read) (o : Outcome) (m : ℕ) → ((q : Read) → w ≡ Some q → IsReadFrom a q) → PaidOperand p s.term (past_prefix a w).place (end_of o) m →
        PaidOperand p s.term a.place (end_of (with_prefix G.text s.builders os a w o)) m
    paid_prefix os a None o m f x =
        subst (λ z. PaidOperand p s.term a.place z m) (stretch_ends false [] (no_affix G.text os a.place) o) (after_none (end_of o) x)
    paid_prefix os a (Some q) o m f x =
        let is = f q refl in
        let low = over.low in
        subst (λ z. PaidOperand p s.term a.place z m) (applied_operator_ends fixity.Prefix q s.builders.prefix [] o)
        (after_operator (nodes.fare G sets h c) is.ahead is.spot.0 is.begins (omega arith) (omega arith) x)

    pub paid_postfix : (os : List Operator) (i : ℕ) (o : Outcome) (m : ℕ) → ((b : Spot) → IsSpot G sets h b → (q : Read) → read_at G.grammar G.text s.item os b.place ≡ Some q → IsReadFrom b q) → AtSpot o →
        PaidOperand p s.term i (end_of o) m → PaidOperand p s.term i (end_of (with_postfix G.grammar G.text s os o)) m × AtSpot (with_postfix G.grammar G.text s os o)
    paid_postfix os i (ok d b v t e) m f is x = go (read_at G.grammar G.text s.item os b.place) refl
      where
        go : (w : Option Read) → read_at G.grammar G.text s.item os b.place ≡ w →
            PaidOperand p s.term i (end_of (then_stretch d t e (postfix_outcome G.text s.builders os v b w))) m × AtSpot (then_stretch d t e (postfix_outcome G.text s.builders os v b w))
        go None at = (before_none d x, is)
        go (Some q) at = let read = f b is q at in (before_postfix read.ahead read.spot.0 read.again x, read.spot)
    paid_postfix os i (failed d e) m f is x = (x, tt)
    paid_postfix os i empty_round m f is x = (x, tt)

    prefix_spot : (a : Spot) (w : Option Read) → ((q : Read) → w ≡ Some q → IsReadFrom a q) → IsSpot G sets h a → IsSpot G sets h (past_prefix a w)
    prefix_spot a None f is = is
    prefix_spot a (Some q) f is = (f q refl).spot

    at_prefix : (os : List Operator) (a : Spot) (w : Option Read) (o : Outcome) → AtSpot o → AtSpot (with_prefix G.text s.builders os a w o)
    at_prefix os a None o is = at_stretch (IsSpot G sets h) false [] (no_affix G.text os a.place) o is
    at_prefix os a (Some q) o is = at_applied_operator (IsSpot G sets h) fixity.Prefix q s.builders.prefix [] o is

    -- the spot after a prefix, if one is read
    pub after_prefix : (k : ℕ) (r : Row) (a : Spot) → IsRow over.table.operators k r → IsSpot G sets h a → IsSpot G sets h (past_prefix a (read_at G.grammar G.text s.item r.prefix a.place))
    after_prefix k r a row is = prefix_spot a (read_at G.grammar G.text s.item r.prefix a.place) (λ q e. reads Prefix k r.prefix row.prefix a is q e) is

    -- an operand of a row
    pub paid_row_operand : (k : ℕ) (r : Row) (a : Spot) (o : Outcome) (m : ℕ) → IsRow over.table.operators k r → IsSpot G sets h a →
        PaidOperand p s.term (past_prefix a (read_at G.grammar G.text s.item r.prefix a.place)).place (end_of o) m × AtSpot o →
        PaidOperand p s.term a.place (end_of (as_operand G.grammar G.text s r a o)) m × AtSpot (as_operand G.grammar G.text s r a o)
    paid_row_operand k r a o m row is x =
        let w : Option Read = read_at G.grammar G.text s.item r.prefix a.place in
        let first = paid_prefix r.prefix a w o m (λ q e. reads Prefix k r.prefix row.prefix a is q e) x.0 in
        paid_postfix r.postfix a.place (with_prefix G.text s.builders r.prefix a w o) m (λ b at q e. reads Postfix k r.postfix row.postfix b at q e) (at_prefix r.prefix a w o x.1) first

    -- any infix operator that follows is an ambiguous use, and isn't taken
    pub paid_ambiguous : (r : Row) (q : Read) (v : List Tree) (i : ℕ) (o : Outcome) (m : ℕ) → AtSpot o → PaidOperand p s.term i (end_of o) m →
        PaidOperand p s.term i (end_of (with_last G.grammar G.text s r q v o)) m × AtSpot (with_last G.grammar G.text s r q v o)
    paid_ambiguous r q v i (ok d b w t e) m is x = (before_none d x, is)
    paid_ambiguous r q v i (failed d e) m is x = (x, tt)
    paid_ambiguous r q v i empty_round m is x = (x, tt)

    -- an operand, and what follows it
    pub paid_stretch : (i k : ℕ) (d : Bool) (m : ℕ) (z : End) (n : ℕ) → PaidOperand p s.term i (paid.ends d k) m → PaidTail s.term k z n → PaidOperand p s.term i (joined d z) (m + n)
    paid_stretch i k d m z n x y =
        let low = over.low in
        let small = over.small in
        let room = c.room s.term in
        and_rest (nodes.fare G sets h c) ⊥ (Unit {0}) ⊥ (Bare p i) (Bare p i) (λ k. Beyond s.term k) (Beyond s.term) (Beyond s.term) (c.cost s.term) (c.size s.term + c.climb s.term) 0 0 (c.size s.term)
        (c.cost s.term) (c.size s.term + c.climb s.term) i (λ none. none) (λ e none. absurd e) (λ k none. none) (λ k none u. none) (λ e u. e) (λ e. absurd e) (λ e. absurd e) (omega arith) (omega arith)
        x (λ e same. absurd e) y

    -- ---- infix operators

    pub unread : (i : ℕ) → PaidInfix s.term i (paid.stops false) zero
    unread i = (paid.refuses (omega arith), refl)

    -- one that was read, and an operand
    pub paid_infix : (b : Spot) (q : Read) (z : End) (m : ℕ) → IsReadFrom b q → PaidOperand p s.term q.end z m → PaidInfix s.term b.place (joined true z) m
    paid_infix b q z m is x =
        let low = over.low in
        let room = c.room s.term in
        (after_operator (nodes.fare G sets h c) is.ahead is.spot.0 is.again (omega arith) (omega arith) x, read_joined z m)

    -- where none was read, the operand before stands
    pub paid_return : (i : ℕ) (z : End) (m : ℕ) → PaidInfix s.term i z m → PaidTail s.term i (returned i z) m
    paid_return i z m x = go z x.0 x.1
      where
        go : (z : End) → Paid (nodes.fare G sets h c) ⊥ (Beyond s.term i) (Beyond s.term) 0 (c.size s.term) i z m → Unread z m → PaidTail s.term i (returned i z) m
        go (paid.stops false) y none = paid.rests tt refl (omega arith)
        go (paid.stops true) (paid.breaks b l) none = paid.breaks b l
        go (paid.ends d k) y none = raised (nodes.fare G sets h c) 0 (omega arith) (omega arith) (omega arith) (λ e. absurd e) (λ none. none) (λ j none. none) y
        go paid.never y none = paid.stuck

    -- one that stands
    pub paid_stands : (i : ℕ) (z : End) (m : ℕ) → PaidInfix s.term i z m → PaidTail s.term i z (m + zero)
    paid_stands i z m x = raised (nodes.fare G sets h c) 0 (omega arith) (omega arith) (omega arith) (λ e. absurd e) (λ none. none) (λ j none. none) x.0

    -- what is tried where none was read
    pub paid_else : (i : ℕ) (z : End) (m n : ℕ) → Unread (paid.stops false) m → PaidTail s.term i z n → PaidTail s.term i z (m + n)
    paid_else i z m n none x = raised (nodes.fare G sets h c) 0 (omega arith) (omega arith) (omega arith) (λ e. e) (λ none. none) (λ j none. none) x
