-- Where the five turns of a token lead.
use Rattle.std.proofs.Common.{◌≡◌, ◌∙◌, ◌+◌, ◌-◌, ◌++◌, ◌∷◌, [], ℕ, List, Bool, true, false, ◌||◌, refl, sym, ap, subst, Option, Some, None, Result, Ok, Err, IfOk, length, take, drop, slice_get, arith}
use Rattle.pg_tree.specs.Built.{built}
use Rattle.pg_tree.specs.Trees.{Tree}
use Rattle.pg_grammar_classes.specs.declared.site.ClassSite.TheVariants as site
use Rattle.pg_grammar_form.specs.ClassItems.{has_character}
use Rattle.pg_grammar_form.specs.Forms.{Node}
use Rattle.pg_grammar_form.specs.declared.form.Around.{Around}
use Rattle.pg_grammar_form.specs.declared.form.Around.TheVariants.{Build}
use Rattle.pg_grammar_form.specs.declared.form.Form.TheVariants as form
use Rattle.pg_grammar_form.specs.declared.form.Leaf.TheVariants as leaf
use Rattle.pg_grammar_form.specs.declared.used.BuilderUse.{BuilderUse}
use Rattle.pg_grammar_value.specs.Grammar.{Grammar}
use Rattle.pg_grammar_value.specs.Sites.{class_at}
use Rattle.pg_language.specs.Answers.{given}
use Rattle.pg_language.specs.Derives.{leaf_of, made_by, span}
use Rattle.pg_language.specs.declared.reading.Reading.TheVariants.{Library}
use Rattle.pg_machine_plan.specs.Plans.{Program}
use Rattle.pg_machine_plan.specs.declared.instruction.Instruction.TheVariants.{Open}
use Rattle.pg_machine_plan.specs.declared.instruction.Keep.{Keep}
use Rattle.pg_machine_plan.specs.declared.instruction.Keep.TheVariants.{Kept, Hidden}
use Rattle.pg_machine_quick.specs.Landmarks.{IsToken, IsWrapped}
use Rattle.pg_machine_quick.specs.Looks.{Leads, program_of}
use Rattle.pg_machine_quick.specs.Ran.{LeadsTo}
use Rattle.pg_machine_quick.specs.Readings.{IsReadAt}
use Rattle.pg_machine_quick.specs.Running.{Does}
use Rattle.pg_machine_quick.specs.Tape.{Tape, TapeTurn, tape, tape_act, tape_closed, tape_goes, tape_has_read, tape_has_spanned, tape_reads, tape_spans, before}
use Rattle.pg_machine_quick.specs.Tokens.{IsOfClass, IsTaken, Takes, built_tape, token_tape, tape_wrapped, wrapped_tape}
use Rattle.pg_machine_quick.specs.Turns.{added}
use Rattle.pg_machine_quick.specs.declared.context.Context.{Context}
use Rattle.pg_machine_quick.specs.declared.frame.Frame.TheVariants.{Encloses}
use Rattle.pg_machine_quick.specs.declared.reading.Reading.TheVariants.{Took}
use Rattle.pg_machine_quick.specs.declared.step.Step.{Step}
use Rattle.pg_machine_quick.specs.declared.step.Step.TheVariants.{GoesOn, GivesUp, Stops}
use Rattle.pg_machine_quick.specs.declared.tokens.Taken.{Taken}
use Rattle.pg_machine_quick.specs.declared.tokens.Token.{Token}
use Rattle.pg_machine_quick.specs.declared.tokens.Wrapped.{Wrapped}
use Rattle.pg_table.specs.Tables.{Table}
use Rattle.pg_machine_quick.proofs.Ran.{leads_here, leads_trans, leads_by, one_turn}
use Rattle.pg_machine_quick.proofs.ReadSo.{read_so, satisfy_at}
use Rattle.pg_machine_quick.proofs.Readings.{class_read}

-- a form around a part begins
abbrev begun : Tape → Bool → Tape
begun s counts = tape (s.pc + 1) s.place (Encloses counts (before (length s.trees) s.place s.taken) ∷ s.stack) s.trees (s.nodes + 1) false

pub part_begun : {E : Type 0} (c : Context) (s z : Tape) (counts : Bool) (r : Result Step E) → slice_get c.plan.now.code s.pc ≡ Some (Open counts) →
    IfOk r (λ step. Does (tape_goes (begun s counts)) step z) → IfOk r (λ step. Leads c s step z)
part_begun c s z counts (Ok step) at d = λ table same. one_turn (program_of c) table s z (Some (Open counts)) step at d
part_begun c s z counts (Err e) at d = d

-- ---- what a token takes

-- a leaf that is a class takes a character of it
pub one_taken : (c : Context) (q i d : ℕ) → IsOfClass c.grammar.now q → Some d ≡ slice_get c.text.now i → true ≡ has_character c.grammar.now.classes (class_at c.grammar.now (site.Node q)) d →
    Takes c q i 1
one_taken c q i d is there has = (
  form.Leaf (leaf.Satisfy is.0),
  is.1,
  λ table. satisfy_at c.grammar.now c.text.now table q i (form.Leaf (leaf.Satisfy is.0)) (leaf.Satisfy is.0) is.0 (Took 1) is.1 refl refl
      (class_read c.grammar.now c.text.now (class_at c.grammar.now (site.Node q)) table i d (sym there) (sym has)),
)

-- ---- the turns

-- a leaf whose trees nobody sees
read_took : (g : Grammar) (text : List ℕ) (table : Table) (s : Tape) (node : Node) (n : ℕ) → IsReadAt g text table s.place node (Took n) →
    tape_reads (given Library g text) table Hidden s (Some node) ≡ tape_goes (tape (s.pc + 1) (s.place + n) s.stack s.trees (s.nodes + 1) (s.taken || true))
read_took g text table s node n is =
    read_so g text table Hidden s (tape (s.pc + 1) (s.place + n) s.stack s.trees (s.nodes + 1) (s.taken || true)) node (Took n) GoesOn is
    (λ o reads. ap (λ y. tape_has_read Hidden s (Some y)) reads.2)

all_taken : (f : List Tree) → f ≡ take (length f) f
all_taken [] = refl
all_taken (t ∷ f) = ap (λ x. t ∷ x) (all_taken f)

or_true : (x : Bool) → true ≡ x || true
or_true true = refl
or_true false = refl

-- what the last of the five turns comes to
abbrev closed_tape : List ℕ → Keep → Tape → ℕ → ℕ → Tape
closed_tape text keep s n m =
    tape (s.pc + 1 + 1 + 1 + 1 + 1) (s.place + n + m) s.stack
    (added keep (take (length s.trees) s.trees) (leaf_of (span text s.place (s.place + n + m)) ∷ [])) (s.nodes + 1 + 1 + 1 + (2 + m)) (s.taken || true)

-- a token, by the places between which it stands
abbrev placed_tape : List ℕ → Keep → Tape → ℕ → ℕ → Tape
placed_tape text keep s n m =
    tape (s.pc + 5) (s.place + (n + m)) s.stack (added keep s.trees (leaf_of (take (n + m) (drop s.place text)) ∷ [])) (s.nodes + (5 + m)) true

same_place : (text cs : List ℕ) (keep : Keep) (s : Tape) (n m : ℕ) → cs ≡ take (n + m) (drop s.place text) → length cs ≡ n + m → token_tape keep s cs m ≡ placed_tape text keep s n m
same_place text cs keep s n m all count =
    ap (λ k. tape (s.pc + 5) (s.place + k) s.stack (added keep s.trees (leaf_of cs ∷ [])) (s.nodes + (5 + m)) true) count
    ∙ ap (λ (ds : List ℕ). tape (s.pc + 5) (s.place + (n + m)) s.stack (added keep s.trees (leaf_of ds ∷ [])) (s.nodes + (5 + m)) true) all

same_tape : (text : List ℕ) (keep : Keep) (s : Tape) (n m : ℕ) → placed_tape text keep s n m ≡ closed_tape text keep s n m
same_tape text keep s n m =
    let pc : s.pc + 5 ≡ s.pc + 1 + 1 + 1 + 1 + 1 = omega arith in
    let place : s.place + (n + m) ≡ s.place + n + m = omega arith in
    let nodes : s.nodes + (5 + m) ≡ s.nodes + 1 + 1 + 1 + (2 + m) = omega arith in
    let count : n + m ≡ s.place + n + m - s.place = omega arith in
    ap (λ a. tape a (s.place + (n + m)) s.stack (added keep s.trees (leaf_of (take (n + m) (drop s.place text)) ∷ [])) (s.nodes + (5 + m)) true) pc
    ∙ ap (λ a. tape (s.pc + 1 + 1 + 1 + 1 + 1) a s.stack (added keep s.trees (leaf_of (take (n + m) (drop s.place text)) ∷ [])) (s.nodes + (5 + m)) true) place
    ∙ ap (λ (a : List Tree). tape (s.pc + 1 + 1 + 1 + 1 + 1) (s.place + n + m) s.stack (added keep a (leaf_of (take (n + m) (drop s.place text)) ∷ [])) (s.nodes + (5 + m)) true) (all_taken s.trees)
    ∙ ap (λ a. tape (s.pc + 1 + 1 + 1 + 1 + 1) (s.place + n + m) s.stack (added keep (take (length s.trees) s.trees) (leaf_of (take a (drop s.place text)) ∷ [])) (s.nodes + (5 + m)) true) count
    ∙ ap (λ a. tape (s.pc + 1 + 1 + 1 + 1 + 1) (s.place + n + m) s.stack (added keep (take (length s.trees) s.trees) (leaf_of (span text s.place (s.place + n + m)) ∷ [])) a true) nodes
    ∙ ap (λ a. tape (s.pc + 1 + 1 + 1 + 1 + 1) (s.place + n + m) s.stack (added keep (take (length s.trees) s.trees) (leaf_of (span text s.place (s.place + n + m)) ∷ []))
    (s.nodes + 1 + 1 + 1 + (2 + m)) a) (or_true s.taken)

same_token : (text cs : List ℕ) (keep : Keep) (s : Tape) (n m : ℕ) → cs ≡ take (n + m) (drop s.place text) → length cs ≡ n + m → token_tape keep s cs m ≡ closed_tape text keep s n m
same_token text cs keep s n m all count = same_place text cs keep s n m all count ∙ same_tape text keep s n m

-- so many characters were taken that nobody sees
abbrev spanned : Tape → ℕ → TapeTurn
spanned s n = tape_goes (tape (s.pc + 1) (s.place + n) s.stack s.trees (s.nodes + (2 + n)) true)

token_leads : (c : Context) (table : Table) (counts : Bool) (t : Token) (x : Taken) (s : Tape) → slice_get c.plan.now.code s.pc ≡ Some (Open counts) → IsToken c.plan.now s.pc t →
    IsTaken c t s.place x → LeadsTo (program_of c) table s (token_tape t.keep s x.characters.now x.more)
token_leads c table counts t x s begin token taken =
    let P : Program = program_of c in
    let n : ℕ = taken.0 in
    let s1 : Tape = begun s counts in
    let s2 : Tape = tape (s1.pc + 1) s1.place s1.stack s1.trees (s1.nodes + 1) false in
    let s3 : Tape = tape (s2.pc + 1) (s2.place + n) s2.stack s2.trees (s2.nodes + 1) true in
    let s4 : Tape = tape (s3.pc + 1) (s3.place + x.more) s3.stack s3.trees (s3.nodes + (2 + x.more)) true in
    let s5 : Tape = closed_tape c.text.now t.keep s n x.more in
    let opens : LeadsTo P table s s1 = leads_by P table s s1 (ap (λ i. tape_act P table s i) begin) in
    let enters : LeadsTo P table s1 s2 = leads_by P table s1 s2 (ap (λ i. tape_act P table s1 i) token.0) in
    let reads : LeadsTo P table s2 s3 = leads_by P table s2 s3 (ap (λ i. tape_act P table s2 i) token.1
    ∙ ap (λ f. tape_reads P.given table Hidden s2 f) taken.1.1 ∙ read_took c.grammar.now c.text.now table s2 taken.1.0 n (taken.1.2 table)) in
    let spans : LeadsTo P table s3 s4 = leads_by P table s3 s4 (ap (λ i. tape_act P table s3 i) token.2
    ∙ ap (λ f. tape_spans P.given Hidden s3 f) taken.4.1 ∙ ap (λ ds. tape_has_spanned Hidden s3 ds) (sym taken.4.2) ∙ ap (λ k. spanned s3 k) (sym taken.5)) in
    let closes : LeadsTo P table s4 s5 = leads_by P table s4 s5 (ap (λ i. tape_act P table s4 i) token.3 ∙ ap (λ f. tape_closed P.given t.keep s4 f) taken.2.1) in
    let here : LeadsTo P table s5 (token_tape t.keep s x.characters.now x.more) =
    leads_here P table s5 (token_tape t.keep s x.characters.now x.more)
    (same_token c.text.now x.characters.now t.keep s n x.more taken.6 taken.7) in
    leads_trans P table s s1 _ opens (leads_trans P table s1 s2 _ enters (leads_trans P table s2 s3 _ reads
    (leads_trans P table s3 s4 _ spans (leads_trans P table s4 s5 _ closes here))))

-- a token that is taken at once leads there
pub token_taken : {E : Type 0} (c : Context) (s z : Tape) (counts : Bool) (t : Token) (x : Taken) (r : Result Step E) → slice_get c.plan.now.code s.pc ≡ Some (Open counts) →
    IsToken c.plan.now s.pc t → IsTaken c t s.place x → IfOk r (λ step. Does (tape_goes (token_tape t.keep s x.characters.now x.more)) step z) →
    IfOk r (λ step. Leads c s step z)
token_taken c s z counts t x (Ok GoesOn) begin token taken d = λ table same.
    let there : token_tape t.keep s x.characters.now x.more ≡ z = cc in
    subst (λ (y : Tape). LeadsTo (program_of c) table s y) there (token_leads c table counts t x s begin token taken)
token_taken c s z counts t x (Ok Stops) begin token taken d = absurd (cc)
token_taken c s z counts t x (Ok GivesUp) begin token taken d = λ table same. tt
token_taken c s z counts t x (Err e) begin token taken d = d

-- ---- a form around a token

wrapped_leads : (c : Context) (table : Table) (counts : Bool) (w : Wrapped) (x : Taken) (s : Tape) (kind : Around) (p : ℕ) → slice_get c.plan.now.code s.pc ≡ Some (Open counts) →
    IsWrapped c.plan.now s.pc w → IsTaken c w.token s.place x → slice_get c.grammar.now.nodes w.node ≡ Some (form.Around kind p) →
    LeadsTo (program_of c) table s (wrapped_tape c.text.now w kind s x.characters.now x.more)
wrapped_leads c table counts w x s kind p begin wrapped taken at =
    let P : Program = program_of c in
    let s1 : Tape = begun s counts in
    let s2 : Tape = token_tape w.token.keep s1 x.characters.now x.more in
    let kept : List Tree = added w.keep (take (length s.trees) s2.trees) (made_by kind c.text.now s.place s2.place (drop (length s.trees) s2.trees)) in
    let s3 : Tape = tape (s2.pc + 1) s2.place s.stack kept s2.nodes (s.taken || true) in
    let opens : LeadsTo P table s s1 = leads_by P table s s1 (ap (λ i. tape_act P table s i) begin) in
    let reads : LeadsTo P table s1 s2 = token_leads c table wrapped.0 w.token x s1 wrapped.1 wrapped.2 taken in
    let closes : LeadsTo P table s2 s3 = leads_by P table s2 s3 (ap (λ i. tape_act P table s2 i) wrapped.3 ∙ ap (λ n. tape_closed P.given w.keep s2 n) at) in
    let pc : s.pc + 5 + 2 ≡ s.pc + 1 + 5 + 1 = omega arith in
    let nodes : s.nodes + (5 + x.more) + 1 ≡ s.nodes + 1 + (5 + x.more) = omega arith in
    let same : wrapped_tape c.text.now w kind s x.characters.now x.more ≡ s3 =
    ap (λ a. tape a s2.place s.stack kept (s.nodes + (5 + x.more) + 1) true) pc ∙ ap (λ a. tape s3.pc s2.place s.stack kept a true) nodes
    ∙ ap (λ a. tape s3.pc s2.place s.stack kept s3.nodes a) (or_true s.taken) in
    leads_trans P table s s1 _ opens (leads_trans P table s1 s2 _ reads (leads_trans P table s2 s3 _ closes (leads_here P table s3 _ same)))

-- a form around a token that is taken at once leads there
pub wrapped_taken : {E : Type 0} (c : Context) (s z : Tape) (counts : Bool) (w : Wrapped) (x : Taken) (n : Option Node) (r : Result Step E) →
    slice_get c.plan.now.code s.pc ≡ Some (Open counts) → IsWrapped c.plan.now s.pc w → IsTaken c w.token s.place x → slice_get c.grammar.now.nodes w.node ≡ n →
    IfOk r (λ step. Does (tape_wrapped c w x s n) step z) → IfOk r (λ step. Leads c s step z)
wrapped_taken c s z counts w x (Some (form.Around kind p)) (Ok GoesOn) begin wrapped taken at d = λ table same.
    let there : wrapped_tape c.text.now w kind s x.characters.now x.more ≡ z = cc in
    subst (λ (y : Tape). LeadsTo (program_of c) table s y) there (wrapped_leads c table counts w x s kind p begin wrapped taken at)
wrapped_taken c s z counts w x (Some (form.Around kind p)) (Ok Stops) begin wrapped taken at d = absurd (cc)
wrapped_taken c s z counts w x (Some (form.Leaf l)) (Ok GoesOn) begin wrapped taken at d = absurd (cc)
wrapped_taken c s z counts w x (Some (form.Leaf l)) (Ok Stops) begin wrapped taken at d = absurd (cc)
wrapped_taken c s z counts w x (Some (form.Seq ps)) (Ok GoesOn) begin wrapped taken at d = absurd (cc)
wrapped_taken c s z counts w x (Some (form.Seq ps)) (Ok Stops) begin wrapped taken at d = absurd (cc)
wrapped_taken c s z counts w x (Some (form.Choice ps)) (Ok GoesOn) begin wrapped taken at d = absurd (cc)
wrapped_taken c s z counts w x (Some (form.Choice ps)) (Ok Stops) begin wrapped taken at d = absurd (cc)
wrapped_taken c s z counts w x (Some (form.Many q)) (Ok GoesOn) begin wrapped taken at d = absurd (cc)
wrapped_taken c s z counts w x (Some (form.Many q)) (Ok Stops) begin wrapped taken at d = absurd (cc)
wrapped_taken c s z counts w x (Some (form.Chain side used p q)) (Ok GoesOn) begin wrapped taken at d = absurd (cc)
wrapped_taken c s z counts w x (Some (form.Chain side used p q)) (Ok Stops) begin wrapped taken at d = absurd (cc)
wrapped_taken c s z counts w x (Some (form.Rule q)) (Ok GoesOn) begin wrapped taken at d = absurd (cc)
wrapped_taken c s z counts w x (Some (form.Rule q)) (Ok Stops) begin wrapped taken at d = absurd (cc)
wrapped_taken c s z counts w x (Some (form.Expression builders q)) (Ok GoesOn) begin wrapped taken at d = absurd (cc)
wrapped_taken c s z counts w x (Some (form.Expression builders q)) (Ok Stops) begin wrapped taken at d = absurd (cc)
wrapped_taken c s z counts w x None (Ok GoesOn) begin wrapped taken at d = absurd (cc)
wrapped_taken c s z counts w x None (Ok Stops) begin wrapped taken at d = absurd (cc)
wrapped_taken c s z counts w x n (Ok GivesUp) begin wrapped taken at d = λ table same. tt
wrapped_taken c s z counts w x n (Err e) begin wrapped taken at d = d

-- ---- a builder around a token

before_more : (f v : List Tree) → take (length f) (f ++ v) ≡ f
before_more [] v = refl
before_more (t ∷ f) v = ap (λ x. t ∷ x) (before_more f v)

after_those : (f v : List Tree) → drop (length f) (f ++ v) ≡ v
after_those [] v = refl
after_those (t ∷ f) v = after_those f v

same_built : (text cs : List ℕ) (w : Wrapped) (used : BuilderUse) (symbol : List ℕ) (s : Tape) (m : ℕ) → w.keep ≡ Kept → w.token.keep ≡ Kept →
    built_tape used symbol s cs m ≡ wrapped_tape text w (Build used symbol) s cs m
same_built text cs w used symbol s m outer inner =
    let place : ℕ = s.place + length cs in
    let own : List Tree = leaf_of cs ∷ [] in
    let pc : s.pc + 7 ≡ s.pc + 5 + 2 = omega arith in
    let nodes : s.nodes + (6 + m) ≡ s.nodes + (5 + m) + 1 = omega arith in
    ap (λ a. tape a place s.stack (s.trees ++ built used.shape symbol own ∷ []) (s.nodes + (6 + m)) true) pc
    ∙ ap (λ a. tape (s.pc + 5 + 2) place s.stack (s.trees ++ built used.shape symbol own ∷ []) a true) nodes
    ∙ ap (λ (f : List Tree). tape (s.pc + 5 + 2) place s.stack (f ++ built used.shape symbol own ∷ []) (s.nodes + (5 + m) + 1) true) (sym (before_more s.trees own))
    ∙ ap (λ (v : List Tree). tape (s.pc + 5 + 2) place s.stack (take (length s.trees) (s.trees ++ own) ++ built used.shape symbol v ∷ []) (s.nodes + (5 + m) + 1) true)
    (sym (after_those s.trees own))
    ∙ ap (λ (k : Keep). tape (s.pc + 5 + 2) place s.stack (added k (take (length s.trees) (s.trees ++ own)) (built used.shape symbol (drop (length s.trees) (s.trees ++ own)) ∷ []))
    (s.nodes + (5 + m) + 1) true) (sym outer)
    ∙ ap (λ (k : Keep). tape (s.pc + 5 + 2) place s.stack
    (added w.keep (take (length s.trees) (added k s.trees own)) (built used.shape symbol (drop (length s.trees) (added k s.trees own)) ∷ [])) (s.nodes + (5 + m) + 1) true) (sym inner)

-- a builder around a token, whose trees are kept, takes it as any form around one
pub built_taken : {E : Type 0} (text cs : List ℕ) (w : Wrapped) (kind : Around) (used : BuilderUse) (symbol : List ℕ) (s z : Tape) (m : ℕ) (r : Result Step E) →
    kind ≡ Build used symbol → w.keep ≡ Kept → w.token.keep ≡ Kept → IfOk r (λ step. Does (tape_goes (built_tape used symbol s cs m)) step z) →
    IfOk r (λ step. Does (tape_goes (wrapped_tape text w kind s cs m)) step z)
built_taken text cs w kind used symbol s z m r is outer inner h =
    subst (λ (k : Around). IfOk r (λ step. Does (tape_goes (wrapped_tape text w k s cs m)) step z)) (sym is)
    (subst (λ (y : Tape). IfOk r (λ step. Does (tape_goes y) step z)) (same_built text cs w used symbol s m outer inner) h)
