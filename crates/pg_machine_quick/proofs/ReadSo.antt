-- Leaves that are read at nodes, and turns that read them.
use Rattle.std.proofs.Common.{◌≡◌, ◌∙◌, ℕ, List, refl, sym, ap, subst, Option, Some, None, IfSome, Result, Ok, Err, IfOk, slice_get}
use Rattle.pg_grammar_classes.specs.declared.site.ClassSite.TheVariants as site
use Rattle.pg_grammar_value.specs.Grammar.{Grammar}
use Rattle.pg_grammar_value.specs.Sites.{class_at}
use Rattle.pg_grammar_value.proofs.Sites.{class_at_node}
use Rattle.pg_grammar_form.specs.Contents.{leaf_in, class_parts}
use Rattle.pg_grammar_form.specs.Forms.{Node}
use Rattle.pg_grammar_form.specs.declared.class.ClassPart.{ClassPart}
use Rattle.pg_grammar_form.specs.declared.form.Form.TheVariants as form
use Rattle.pg_grammar_form.specs.declared.form.Leaf.{Leaf}
use Rattle.pg_grammar_form.specs.declared.form.Leaf.TheVariants as leaf
use Rattle.pg_language.specs.Answers.{given}
use Rattle.pg_language.specs.Leaves.{leaf_outcome, satisfy_outcome, not_followed_outcome, string_outcome, end_outcome}
use Rattle.pg_language.specs.Outcomes.{Outcome, failed}
use Rattle.pg_language.specs.declared.reading.Reading.TheVariants.{Library}
use Rattle.pg_table.specs.Tables.{Table}
use Rattle.pg_machine_quick.specs.Readings.{Reads, IsReadAt, IsUndeclaredAt, IsWordReadAt}
use Rattle.pg_machine_quick.specs.Running.{Does}
use Rattle.pg_machine_quick.specs.Tape.{Tape, spot_at, tape_has_read, tape_declares, tape_reads}
use Rattle.pg_machine_plan.specs.declared.instruction.Keep.{Keep}
use Rattle.pg_machine_quick.specs.declared.reading.Reading.{Reading}
use Rattle.pg_machine_quick.specs.declared.reading.Reading.TheVariants.{Took, Nothing, Failed}
use Rattle.pg_machine_quick.specs.declared.step.Step.{Step}

-- the node that is this leaf
pub as_leaf : (node : Node) (l : Leaf ℕ) → Some l ≡ leaf_in node → form.Leaf l ≡ node
as_leaf (form.Leaf x) l h = cc
as_leaf (form.Seq ps) l h = absurd (cc)
as_leaf (form.Choice ps) l h = absurd (cc)
as_leaf (form.Many p) l h = absurd (cc)
as_leaf (form.Chain side used p q) l h = absurd (cc)
as_leaf (form.Rule r) l h = absurd (cc)
as_leaf (form.Expression builders p) l h = absurd (cc)
as_leaf (form.Around k p) l h = absurd (cc)

pub satisfy_at : (g : Grammar) (text : List ℕ) (table : Table) (id i : ℕ) (node : Node) (l : Leaf ℕ) (class : List ClassPart) (r : Reading) → slice_get g.nodes id ≡ Some node →
    Some l ≡ leaf_in node → l ≡ leaf.Satisfy class → Reads text table i (satisfy_outcome g text (class_at g (site.Node id)) (spot_at table i)) r →
    IsReadAt g text table i node r
satisfy_at g text table id i node l class r at h is reads =
    let e : form.Leaf (leaf.Satisfy class) ≡ node = as_leaf node (leaf.Satisfy class) (ap (λ x. Some x) (sym is) ∙ h) in
    let own : class_at g (site.Node id) ≡ class = class_at_node g id node at ∙ ap (λ (n : Node). class_parts n) (sym e) in
    subst (λ (n : Node). IsReadAt g text table i n r) e
    (satisfy_outcome g text class (spot_at table i), refl, subst (λ k. Reads text table i (satisfy_outcome g text k (spot_at table i)) r) own reads)

pub not_followed_at : (g : Grammar) (text : List ℕ) (table : Table) (id i : ℕ) (node : Node) (l : Leaf ℕ) (class : List ClassPart) (r : Reading) → slice_get g.nodes id ≡ Some node →
    Some l ≡ leaf_in node → l ≡ leaf.NotFollowedBy class → Reads text table i (not_followed_outcome g text (class_at g (site.Node id)) (spot_at table i)) r →
    IsReadAt g text table i node r
not_followed_at g text table id i node l class r at h is reads =
    let e : form.Leaf (leaf.NotFollowedBy class) ≡ node = as_leaf node (leaf.NotFollowedBy class) (ap (λ x. Some x) (sym is) ∙ h) in
    let own : class_at g (site.Node id) ≡ class = class_at_node g id node at ∙ ap (λ (n : Node). class_parts n) (sym e) in
    subst (λ (n : Node). IsReadAt g text table i n r) e
    (not_followed_outcome g text class (spot_at table i), refl, subst (λ k. Reads text table i (not_followed_outcome g text k (spot_at table i)) r) own reads)

pub string_at : (g : Grammar) (text : List ℕ) (table : Table) (i : ℕ) (node : Node) (l : Leaf ℕ) (s : List ℕ) (r : Reading) → Some l ≡ leaf_in node → l ≡ leaf.String s →
    Reads text table i (string_outcome text s (spot_at table i)) r → IsReadAt g text table i node r
string_at g text table i node l s r h is reads =
    let e : form.Leaf (leaf.String s) ≡ node = as_leaf node (leaf.String s) (ap (λ x. Some x) (sym is) ∙ h) in
    subst (λ (n : Node). IsReadAt g text table i n r) e (string_outcome text s (spot_at table i), refl, reads)

pub end_at : (g : Grammar) (text : List ℕ) (table : Table) (i : ℕ) (node : Node) (l : Leaf ℕ) (r : Reading) → Some l ≡ leaf_in node → l ≡ leaf.EndOfText →
    Reads text table i (end_outcome text (spot_at table i)) r → IsReadAt g text table i node r
end_at g text table i node l r h is reads =
    let e : form.Leaf leaf.EndOfText ≡ node = as_leaf node leaf.EndOfText (ap (λ x. Some x) (sym is) ∙ h) in
    subst (λ (n : Node). IsReadAt g text table i n r) e (end_outcome text (spot_at table i), refl, reads)

word_at : (g : Grammar) (text : List ℕ) (table : Table) (i w : ℕ) (node : Node) (l : Leaf ℕ) (r : Reading) → Some l ≡ leaf_in node → l ≡ leaf.Word w →
    IsWordReadAt g text table i w r → IsReadAt g text table i node r
word_at g text table i w node l r h is reads =
    let e : form.Leaf (leaf.Word w) ≡ node = as_leaf node (leaf.Word w) (ap (λ x. Some x) (sym is) ∙ h) in
    subst (λ (n : Node). IsReadAt g text table i n r) e reads

pub declaration_node_at : (g : Grammar) (text : List ℕ) (id i : ℕ) (node : Node) (l : Leaf ℕ) (class : List ClassPart) (o : Option Reading) → slice_get g.nodes id ≡ Some node →
    Some l ≡ leaf_in node → l ≡ leaf.Declare class → IfSome o (λ r. (table : Table) → IsUndeclaredAt g text table i (class_at g (site.Node id)) r) →
    IfSome o (λ r. (table : Table) → IsReadAt g text table i node r)
declaration_node_at g text id i node l class None at h is reads = reads
declaration_node_at g text id i node l class (Some r) at h is reads = λ table.
    let e : form.Leaf (leaf.Declare class) ≡ node = as_leaf node (leaf.Declare class) (ap (λ x. Some x) (sym is) ∙ h) in
    let own : class_at g (site.Node id) ≡ class = class_at_node g id node at ∙ ap (λ (n : Node). class_parts n) (sym e) in
    subst (λ (n : Node). IsReadAt g text table i n r) e (subst (λ (x : List ClassPart). IsUndeclaredAt g text table i x r) own (reads table))

pub word_node_at : (g : Grammar) (text : List ℕ) (i w : ℕ) (node : Node) (l : Leaf ℕ) (o : Option Reading) → Some l ≡ leaf_in node → l ≡ leaf.Word w →
    IfSome o (λ r. (table : Table) → IsWordReadAt g text table i w r) → IfSome o (λ r. (table : Table) → IsReadAt g text table i node r)
word_node_at g text i w node l None h is reads = reads
word_node_at g text i w node l (Some r) h is reads = λ table. word_at g text table i w node l r h is (reads table)

-- ---- turns

-- what reads a leaf at a place does the turn
abbrev Reacts : List ℕ → Table → Keep → Tape → Reading → Step → Tape → Type 0
Reacts text table keep s r step t = (o : Outcome) → Reads text table s.place o r → Does (tape_has_read keep s (Some o)) step t

with_outcome : (text : List ℕ) (table : Table) (keep : Keep) (s t : Tape) (r : Reading) (step : Step) (x : Option Outcome) (o : Outcome) → x ≡ Some o → Reads text table s.place o r →
    Reacts text table keep s r step t → Does (tape_has_read keep s x) step t
with_outcome text table keep s t r step x o e reads h = subst (λ y. Does (tape_has_read keep s y) step t) (sym e) (h o reads)

pub read_so : (g : Grammar) (text : List ℕ) (table : Table) (keep : Keep) (s t : Tape) (node : Node) (r : Reading) (step : Step) → IsReadAt g text table s.place node r →
    Reacts text table keep s r step t → Does (tape_reads (given Library g text) table keep s (Some node)) step t
read_so g text table keep s t (form.Leaf (leaf.Satisfy class)) r step is h = with_outcome text table keep s t r step (leaf_outcome g text (leaf.Satisfy class) (spot_at table s.place)) is.0 is.1 is.2 h
read_so g text table keep s t (form.Leaf (leaf.String x)) r step is h = with_outcome text table keep s t r step (leaf_outcome g text (leaf.String x) (spot_at table s.place)) is.0 is.1 is.2 h
read_so g text table keep s t (form.Leaf (leaf.Word w)) r step is h = with_outcome text table keep s t r step (leaf_outcome g text (leaf.Word w) (spot_at table s.place)) is.0 is.1 is.2 h
read_so g text table keep s t (form.Leaf (leaf.NotFollowedBy class)) r step is h = with_outcome text table keep s t r step (leaf_outcome g text (leaf.NotFollowedBy class) (spot_at table s.place)) is.0 is.1 is.2 h
read_so g text table keep s t (form.Leaf leaf.EndOfText) r step is h = with_outcome text table keep s t r step (leaf_outcome g text leaf.EndOfText (spot_at table s.place)) is.0 is.1 is.2 h
read_so g text table keep s t (form.Leaf (leaf.Declare class)) (Failed c) step is h =
    let e : leaf_outcome g text (leaf.Declare class) (spot_at table s.place) ≡ Some (failed c is.2.0) = is.1 ∙ ap (λ o. Some o) is.2.1 in
    subst (λ y. Does (tape_declares s y) step t) (sym e) (h (failed c is.2.0) (is.2.0, refl))
read_so g text table keep s t (form.Leaf (leaf.Declare class)) (Took n) step is h = absurd is
read_so g text table keep s t (form.Leaf (leaf.Declare class)) Nothing step is h = absurd is
read_so g text table keep s t (form.Seq ps) r step is h = absurd is
read_so g text table keep s t (form.Choice ps) r step is h = absurd is
read_so g text table keep s t (form.Many p) r step is h = absurd is
read_so g text table keep s t (form.Chain side used p q) r step is h = absurd is
read_so g text table keep s t (form.Rule x) r step is h = absurd is
read_so g text table keep s t (form.Expression builders p) r step is h = absurd is
read_so g text table keep s t (form.Around k p) r step is h = absurd is

pub if_ok : {E : Type 0} (r : Result Step E) (P Q : Step → Type 0) → ((x : Step) → P x → Q x) → IfOk r P → IfOk r Q
if_ok (Ok x) P Q f h = f x h
if_ok (Err e) P Q f h = h
