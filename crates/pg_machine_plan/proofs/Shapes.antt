-- Stretches are of their nodes, from what stands in the code and if the arms of their tables are right.
use Rattle.std.proofs.Common.{◌≡◌, ◌+◌, ℕ, List, Bool, true, Some, sym, subst, slice_get}
use Rattle.std.specs.Bool.{OnTrue}
use Rattle.pg_grammar_form.specs.Forms.{Node}
use Rattle.pg_grammar_form.specs.declared.class.ClassPart.{ClassPart}
use Rattle.pg_grammar_form.specs.declared.form.Around.{Around}
use Rattle.pg_grammar_form.specs.declared.form.Form.TheVariants as form
use Rattle.pg_grammar_form.specs.declared.form.Leaf.{Leaf}
use Rattle.pg_grammar_form.specs.declared.form.Leaf.TheVariants as leaf
use Rattle.pg_grammar_form.specs.declared.side.Side.TheVariants.{Left, Right}
use Rattle.pg_grammar_form.specs.declared.used.ChainBuilder.{ChainBuilder}
use Rattle.pg_grammar_form.specs.declared.used.OperatorBuilders.{OperatorBuilders}
use Rattle.pg_grammar_value.specs.Grammar.{Grammar}
use Rattle.pg_grammar_value.specs.declared.grammar.Rule as declared
use Rattle.pg_language.specs.Reactions.{counted_by}
use Rattle.pg_machine_plan.specs.Judged.{IsShaped, HasShape, IsBody, IsLink}
use Rattle.pg_machine_plan.specs.Layout.{Notes, NotesAll, IsLaid, a_leaf, a_seq, a_choice, a_span, a_many, a_chain, a_right_chain, an_expression, a_rule, a_rule_inside, a_transparent, an_around, IsTransparent, keep_below, AreRows}
use Rattle.pg_machine_plan.specs.Plans.{program, Plan}
use Rattle.pg_machine_plan.specs.declared.instruction.Instruction.TheVariants.{Enter, Read, Span, Pick, Call, Open, Close, Hold, Link, FoldLinks, Release, Rows}
use Rattle.pg_machine_plan.specs.declared.instruction.Keep.{Keep}
use Rattle.pg_machine_plan.specs.declared.instruction.Stretch.{Stretch}

pub leaf_shaped : (g : Grammar) (plan : Plan) (pc : ℕ) (s : Stretch) (l : Leaf ℕ) → s.end ≡ pc + 1 → slice_get plan.code pc ≡ Some (Read s.keep s.node) →
    IsShaped g plan pc s (form.Leaf l)
leaf_shaped g plan pc s l end read = λ text arms. subst (IsLaid (program g plan text) s.keep s.node pc (form.Leaf l)) (sym end) (a_leaf read)

pub seq_shaped : (g : Grammar) (plan : Plan) (pc : ℕ) (s : Stretch) (ps : List ℕ) → slice_get plan.code pc ≡ Some Enter → NotesAll plan s.keep ps (pc + 1) s.end →
    IsShaped g plan pc s (form.Seq ps)
seq_shaped g plan pc s ps enter parts = λ text arms. a_seq enter parts

pub choice_shaped : (g : Grammar) (plan : Plan) (pc : ℕ) (s : Stretch) (ps : List ℕ) (table : ℕ) → slice_get plan.code pc ≡ Some (Pick table) →
    IsShaped g plan pc s (form.Choice ps)
choice_shaped g plan pc s ps table pick = λ text arms. a_choice pick (λ a arm is. arms a table arm pick is)

pub span_shaped : (g : Grammar) (plan : Plan) (pc : ℕ) (s : Stretch) (p : ℕ) (class : List ClassPart) → s.end ≡ pc + 1 → slice_get plan.code pc ≡ Some (Span s.keep p) →
    slice_get g.nodes p ≡ Some (form.Leaf (leaf.Satisfy class)) → IsShaped g plan pc s (form.Many p)
span_shaped g plan pc s p class end span is = λ text arms. subst (IsLaid (program g plan text) s.keep s.node pc (form.Many p)) (sym end) (a_span span is)

pub many_shaped : (g : Grammar) (plan : Plan) (pc : ℕ) (s : Stretch) (p table : ℕ) → slice_get plan.code pc ≡ Some Enter → slice_get plan.code (pc + 1) ≡ Some (Pick table) →
    IsShaped g plan pc s (form.Many p)
many_shaped g plan pc s p table enter pick = λ text arms. a_many enter pick (λ a arm is. arms a table arm enter pick is)

pub chain_shaped : (g : Grammar) (plan : Plan) (pc : ℕ) (s : Stretch) (used : ChainBuilder) (p q head table out : ℕ) → s.end ≡ out + 1 → slice_get plan.code pc ≡ Some Hold →
    Notes plan s.keep p (pc + 1) head → slice_get plan.code head ≡ Some (Pick table) → slice_get plan.code out ≡ Some Release → IsShaped g plan pc s (form.Chain Left used p q)
chain_shaped g plan pc s used p q head table out end hold noted pick release = λ text arms.
    subst (IsLaid (program g plan text) s.keep s.node pc (form.Chain Left used p q)) (sym end)
    (a_chain hold noted pick (λ a arm is. arms a head table out arm noted pick end is) release)

pub right_chain_shaped : (g : Grammar) (plan : Plan) (pc : ℕ) (s : Stretch) (used : ChainBuilder) (p q head table out : ℕ) → s.end ≡ out + 2 → slice_get plan.code pc ≡ Some Hold →
    Notes plan s.keep p (pc + 1) head → slice_get plan.code head ≡ Some (Pick table) → IsLink plan s.keep p head → slice_get plan.code out ≡ Some (FoldLinks s.keep s.node) →
    slice_get plan.code (out + 1) ≡ Some Release → IsShaped g plan pc s (form.Chain Right used p q)
right_chain_shaped g plan pc s used p q head table out end hold noted pick link folds release = λ text arms.
    subst (IsLaid (program g plan text) s.keep s.node pc (form.Chain Right used p q)) (sym end)
    (a_right_chain hold noted pick (λ a arm is. arms a head table out arm noted pick end is) link.1 link.2 link.3 folds release)

pub expression_shaped : (g : Grammar) (plan : Plan) (pc : ℕ) (s : Stretch) (builders : OperatorBuilders) (p rows out : ℕ) → s.end ≡ out + 1 →
    slice_get plan.code pc ≡ Some (Rows rows) → AreRows plan s.keep s.node p rows (pc + 1) out → slice_get plan.code out ≡ Some Release →
    IsShaped g plan pc s (form.Expression builders p)
expression_shaped g plan pc s builders p rows out end code laid release = λ text arms.
    subst (IsLaid (program g plan text) s.keep s.node pc (form.Expression builders p)) (sym end) (an_expression code laid release)

pub rule_shaped : (g : Grammar) (plan : Plan) (pc : ℕ) (s : Stretch) (r target : ℕ) (named : declared.Rule) → s.end ≡ pc + 1 → slice_get g.rules r ≡ Some named →
    slice_get plan.code pc ≡ Some (Call target) → IsBody plan s.keep named.body target → IsShaped g plan pc s (form.Rule r)
rule_shaped g plan pc s r target named end is call body = λ text arms.
    subst (IsLaid (program g plan text) s.keep s.node pc (form.Rule r)) (sym end) (a_rule is call body.1 body.2)

pub rule_inside_shaped : (g : Grammar) (plan : Plan) (pc : ℕ) (s : Stretch) (r : ℕ) (named : declared.Rule) → slice_get g.rules r ≡ Some named →
    slice_get plan.code pc ≡ Some Enter → Notes plan s.keep named.body (pc + 1) s.end → IsShaped g plan pc s (form.Rule r)
rule_inside_shaped g plan pc s r named is enter noted = λ text arms. a_rule_inside is enter noted

pub entered_shaped : (g : Grammar) (plan : Plan) (pc : ℕ) (s : Stretch) (k : Around) (p : ℕ) → IsTransparent s.keep k → slice_get plan.code pc ≡ Some Enter →
    Notes plan (keep_below s.keep k) p (pc + 1) s.end → IsShaped g plan pc s (form.Around k p)
entered_shaped g plan pc s k p transparent enter noted = λ text arms. a_transparent transparent enter noted

pub enclosed_shaped : (g : Grammar) (plan : Plan) (pc : ℕ) (s : Stretch) (k : Around) (p exit : ℕ) (below : Keep) (counts : Bool) → below ≡ keep_below s.keep k →
    counts ≡ counted_by k true → s.end ≡ exit + 1 → slice_get plan.code pc ≡ Some (Open counts) → Notes plan below p (pc + 1) exit →
    slice_get plan.code exit ≡ Some (Close s.keep s.node) → IsShaped g plan pc s (form.Around k p)
enclosed_shaped g plan pc s k p exit below counts is_below is_counts end opens noted closes = λ text arms.
    subst (IsLaid (program g plan text) s.keep s.node pc (form.Around k p)) (sym end)
    (an_around (subst (λ b. slice_get plan.code pc ≡ Some (Open b)) is_counts opens) (subst (λ keep. Notes plan keep p (pc + 1) exit) is_below noted) closes)

-- ---- by the forms

pub shaped_as : (g : Grammar) (plan : Plan) (pc : ℕ) (s : Stretch) (n m : Node) (b : Bool) → n ≡ m → OnTrue b (IsShaped g plan pc s m) → OnTrue b (IsShaped g plan pc s n)
shaped_as g plan pc s n m b e h = subst (λ (k : Node). OnTrue b (IsShaped g plan pc s k)) (sym e) h

-- a stretch that is noted has its shape, if it is of its own node
pub shape_at : (g : Grammar) (plan : Plan) (pc : ℕ) (s : Stretch) (n : Node) → slice_get plan.stretches pc ≡ Some (Some s) → slice_get g.nodes s.node ≡ Some n →
    IsShaped g plan pc s n → HasShape g plan pc
shape_at g plan pc s n noted at shaped = λ other noted_too.
    let one : s ≡ other = cc in
    subst (λ (x : Stretch). (k : Node) × (slice_get g.nodes x.node ≡ Some k) × IsShaped g plan pc x k) one (n, at, shaped)
