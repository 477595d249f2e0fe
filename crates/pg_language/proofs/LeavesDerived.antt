-- Leaves: an ok answer is a derivation.
use Rattle.std.proofs.Common.{◌≡◌, ◌==◌, ◌+◌, ℕ, suc, cond, subst, List, [], ◌∷◌, Bool, true, false, refl, length, take, eqb-true, arith}
use Rattle.std.specs.Prelude.{Option, Some, None, slice_get, nat_eq}
use Rattle.std.specs.List.{list_any, common_prefix_len}
use Rattle.std.specs.Str.{bytes_eq}
use Rattle.pg_grammar_form.specs.ClassItems.{has_character}
use Rattle.pg_grammar_value.specs.Grammar.{Grammar}
use Rattle.pg_grammar_form.specs.declared.class.ClassPart.{ClassPart}
use Rattle.pg_grammar_form.specs.declared.form.Form.TheVariants as form
use Rattle.pg_grammar_form.specs.declared.form.Leaf.{Leaf}
use Rattle.pg_grammar_form.specs.declared.form.Leaf.TheVariants as leaf
use Rattle.pg_grammar_form.specs.declared.word_item.WordItem.{WordItem}
use Rattle.pg_language.specs.Outcomes.{Outcome}
use Rattle.pg_language.specs.Derives as derives
use Rattle.pg_language.specs.Derives.{Spot, DerivesForm, satisfy, string, word, not_followed_by, end_of_text}
use Rattle.pg_language.specs.Runs.{run_at}
use Rattle.pg_language.specs.Leaves.{satisfy_next, satisfy_outcome, word_read, word_next, word_outcome, not_followed_next, not_followed_outcome, matched, string_outcome, end_outcome, some_word_outcome, some_declare_outcome, leaf_outcome}
use Rattle.pg_grammar_form.specs.declared.operators_item.OperatorsItem.{OperatorsItem}
use Rattle.pg_language.specs.Declarations.{declare_outcome}
use Rattle.pg_language.proofs.DeclarationsDerived.{declare_derived}
use Rattle.pg_language.proofs.Derived.{WhereOk, ok_if}

-- ---- one character

satisfy_by : (g : Grammar) (text : List ℕ) (class : List ClassPart) (a : Spot) (next : Option ℕ) → slice_get text a.place ≡ next →
    WhereOk (DerivesForm g text (form.Leaf (leaf.Satisfy class)) a) (satisfy_next g class a next)
satisfy_by g text class a None e = tt
satisfy_by g text class a (Some c) e = ok_if _ (has_character g.classes class c) _ _
    (λ h. derives.leaf (satisfy (record { character = c; there = e; member = h }))) (λ h. tt)

satisfy_derived : (g : Grammar) (text : List ℕ) (class : List ClassPart) (a : Spot) →
    WhereOk (DerivesForm g text (form.Leaf (leaf.Satisfy class)) a) (satisfy_outcome g text class a)
satisfy_derived g text class a = satisfy_by g text class a (slice_get text a.place) refl

-- ---- words

word_of : (g : Grammar) (text : List ℕ) (w : ℕ) (item : WordItem) (a : Spot) (c : ℕ) → slice_get g.words w ≡ Some item → slice_get text a.place ≡ Some c →
    has_character g.classes item.head c ≡ true → WhereOk (DerivesForm g text (form.Leaf (leaf.Word w)) a) (word_read item a (c ∷ run_at g text item.rest (suc a.place)))
word_of g text w item a c there e member = ok_if _ (list_any (λ reserved. bytes_eq reserved (c ∷ run_at g text item.rest (suc a.place))) item.reserved) _ _
    (λ h. tt) (λ h. derives.leaf (word there (record { head = c; there = e; member = member; whole = refl; free = h })))

word_by : (g : Grammar) (text : List ℕ) (w : ℕ) (item : WordItem) (a : Spot) (next : Option ℕ) → slice_get g.words w ≡ Some item → slice_get text a.place ≡ next →
    WhereOk (DerivesForm g text (form.Leaf (leaf.Word w)) a) (word_next g text item a next)
word_by g text w item a None there e = tt
word_by g text w item a (Some c) there e = ok_if _ (has_character g.classes item.head c) _ _ (word_of g text w item a c there e) (λ h. tt)

word_derived : (g : Grammar) (text : List ℕ) (w : ℕ) (item : WordItem) (a : Spot) → slice_get g.words w ≡ Some item →
    WhereOk (DerivesForm g text (form.Leaf (leaf.Word w)) a) (word_outcome g text item a)
word_derived g text w item a there = word_by g text w item a (slice_get text a.place) there refl

-- ---- strings

-- where all characters match they stand there
all_stand : (s cs : List ℕ) → common_prefix_len nat_eq s cs ≡ length s → take (length s) cs ≡ s
all_stand [] cs e = refl
all_stand (x ∷ s) [] e = absurd (omega arith)
all_stand (x ∷ s) (c ∷ cs) e = go (nat_eq x c) refl (all_stand s cs) e
  where
    go : (b : Bool) → nat_eq x c ≡ b → (common_prefix_len nat_eq s cs ≡ length s → take (length s) cs ≡ s) →
        cond b (1 + common_prefix_len nat_eq s cs) 0 ≡ length (x ∷ s) → c ∷ take (length s) cs ≡ x ∷ s
    go true h rest e =
        let same : x ≡ c = eqb-true x c h in
        let fewer : common_prefix_len nat_eq s cs ≡ length s = omega arith in
        let others = rest fewer in
        cc
    go false h rest e = absurd (omega arith)

pub string_derived : (g : Grammar) (text s : List ℕ) (a : Spot) → WhereOk (DerivesForm g text (form.Leaf (leaf.String s)) a) (string_outcome text s a)
string_derived g text s a = ok_if _ (matched text s a.place == length s) _ _ (λ h. derives.leaf (string (all_stand s _ (eqb-true _ _ h)))) (λ h. tt)

-- ---- what comes next, and is not taken

not_followed_by_next : (g : Grammar) (text : List ℕ) (class : List ClassPart) (a : Spot) (next : Option ℕ) → slice_get text a.place ≡ next →
    WhereOk (DerivesForm g text (form.Leaf (leaf.NotFollowedBy class)) a) (not_followed_next g class a next)
not_followed_by_next g text class a None e = derives.leaf (not_followed_by (λ has. let there = has.there in cc))
not_followed_by_next g text class a (Some c) e = ok_if _ (has_character g.classes class c) _ _
    (λ h. tt) (λ h. derives.leaf (not_followed_by (λ has. let there = has.there in let member = has.member in cc)))

pub not_followed_derived : (g : Grammar) (text : List ℕ) (class : List ClassPart) (a : Spot) →
    WhereOk (DerivesForm g text (form.Leaf (leaf.NotFollowedBy class)) a) (not_followed_outcome g text class a)
not_followed_derived g text class a = not_followed_by_next g text class a (slice_get text a.place) refl

pub end_derived : (g : Grammar) (text : List ℕ) (a : Spot) → WhereOk (DerivesForm g text (form.Leaf leaf.EndOfText) a) (end_outcome text a)
end_derived g text a = ok_if _ (a.place == length text) _ _ (λ h. derives.leaf (end_of_text (eqb-true _ _ h))) (λ h. tt)

-- ---- any leaf

-- where a leaf has this outcome, what is so of its outcome is so of this one
of_this : (g : Grammar) (text : List ℕ) (l : Leaf ℕ) (a : Spot) (x o : Outcome) → Some x ≡ Some o → WhereOk (DerivesForm g text (form.Leaf l) a) x →
    WhereOk (DerivesForm g text (form.Leaf l) a) o
of_this g text l a x o e h = let same : x ≡ o = cc in subst (WhereOk (DerivesForm g text (form.Leaf l) a)) same h

word_item_derived : (g : Grammar) (text : List ℕ) (w : ℕ) (a : Spot) (item : Option WordItem) (o : Outcome) → slice_get g.words w ≡ item →
    some_word_outcome g text a item ≡ Some o → WhereOk (DerivesForm g text (form.Leaf (leaf.Word w)) a) o
word_item_derived g text w a None o there e = absurd (cc)
word_item_derived g text w a (Some item) o there e = of_this g text (leaf.Word w) a (word_outcome g text item a) o e (word_derived g text w item a there)

declare_item_derived : (g : Grammar) (text : List ℕ) (class : List ClassPart) (a : Spot) (item : Option OperatorsItem) (o : Outcome) → g.operators ≡ item →
    some_declare_outcome g text class a item ≡ Some o → WhereOk (DerivesForm g text (form.Leaf (leaf.Declare class)) a) o
declare_item_derived g text class a None o there e = absurd (cc)
declare_item_derived g text class a (Some item) o there e = of_this g text (leaf.Declare class) a (declare_outcome g text item class a) o e (declare_derived g text item class a there)

pub leaf_derived : (g : Grammar) (text : List ℕ) (l : Leaf ℕ) (a : Spot) (o : Outcome) → leaf_outcome g text l a ≡ Some o → WhereOk (DerivesForm g text (form.Leaf l) a) o
leaf_derived g text (leaf.Satisfy class) a o e = of_this g text (leaf.Satisfy class) a (satisfy_outcome g text class a) o e (satisfy_derived g text class a)
leaf_derived g text (leaf.String s) a o e = of_this g text (leaf.String s) a (string_outcome text s a) o e (string_derived g text s a)
leaf_derived g text (leaf.Word w) a o e = word_item_derived g text w a (slice_get g.words w) o refl e
leaf_derived g text (leaf.NotFollowedBy class) a o e = of_this g text (leaf.NotFollowedBy class) a (not_followed_outcome g text class a) o e (not_followed_derived g text class a)
leaf_derived g text leaf.EndOfText a o e = of_this g text leaf.EndOfText a (end_outcome text a) o e (end_derived g text a)
leaf_derived g text (leaf.Declare class) a o e = declare_item_derived g text class a g.operators o refl e
