-- A leaf that fails after consumed input doesn't stand at the end of the text.
use Rattle.std.proofs.Common.{◌≡◌, ◌==◌, ◌<◌, ◌≤◌, ◌-◌, ℕ, suc, List, ◌∷◌, Bool, true, false, if◌then◌else◌, refl, subst, length, drop, Option, Some, None, slice_get, arith}
use Rattle.std.specs.Prelude.{nat_eq, nat_lt}
use Rattle.std.specs.List.{list_any}
use Rattle.std.specs.Str.{bytes_eq}
use Rattle.std.proofs.lemmas.Bool.Decides.{nat_tests}
use Rattle.std.proofs.lemmas.List.{length-drop}
use Rattle.std.proofs.lemmas.List.Sums.{common_prefix_len-le}
use Rattle.std.proofs.lemmas.Option.{slice_get_within}
use Rattle.pg_grammar_form.specs.ClassItems.{has_character}
use Rattle.pg_grammar_form.specs.Operators.{Operator}
use Rattle.pg_grammar_form.specs.declared.class.ClassPart.{ClassPart}
use Rattle.pg_grammar_form.specs.declared.decl.Role.{Role}
use Rattle.pg_grammar_form.specs.declared.form.Leaf.{Leaf}
use Rattle.pg_grammar_form.specs.declared.form.Leaf.TheVariants as leaf
use Rattle.pg_grammar_form.specs.declared.operators_item.OperatorsItem.{OperatorsItem}
use Rattle.pg_grammar_form.specs.declared.word_item.WordItem.{WordItem}
use Rattle.pg_table.specs.Tables.{admit_fault}
use Rattle.pg_table.specs.declared.admit_fault.AdmitFault.{AdmitFault}
use Rattle.pg_grammar_value.specs.Grammar.{Grammar}
use Rattle.pg_language.specs.Declarations.{Declaration, no_keyword, no_digit, no_symbol, declared, has_keyword, roles, role_at, keyword_read, unless_refused, declaration_outcome, declare_outcome}
use Rattle.pg_language.specs.Derives.{Spot}
use Rattle.pg_language.specs.Errors.{Error}
use Rattle.pg_language.specs.Leaves.{matched, satisfy_next, word_read, word_next, not_followed_next, string_outcome, end_outcome, word_outcome, some_word_outcome, some_declare_outcome, leaf_outcome}
use Rattle.pg_language.specs.Outcomes.{Outcome, ok, failed, empty_round}
use Rattle.pg_language.specs.Runs.{run_at, keyword}
use Rattle.pg_language.proofs.DeclarationsDerived.{found, keyword_there, keyword_spelled}
use Rattle.pg_derive.proofs.Inverted.{first_stands}

-- where the outcome is a failure after consumed input, there is more text
abbrev Inside : List ℕ → ℕ → Outcome → Type 0
Inside text i (ok c b v t e) = Unit {0}
Inside text i (failed true e) = i < length text
Inside text i (failed false e) = Unit {0}
Inside text i empty_round = Unit {0}

inside_if : (text : List ℕ) (i : ℕ) (b : Bool) (o q : Outcome) → Inside text i o → Inside text i q → Inside text i (if b then o else q)
inside_if text i true o q f g = f
inside_if text i false o q f g = g

inside_satisfy : (text : List ℕ) (g : Grammar) (class : List ClassPart) (a : Spot) (next : Option ℕ) → Inside text a.place (satisfy_next g class a next)
inside_satisfy text g class a None = tt
inside_satisfy text g class a (Some c) = inside_if text a.place (has_character g.classes class c) _ _ tt tt

inside_word_read : (text : List ℕ) (item : WordItem) (a : Spot) (s : List ℕ) → Inside text a.place (word_read item a s)
inside_word_read text item a s = inside_if text a.place (list_any (λ reserved. bytes_eq reserved s) item.reserved) _ _ tt tt

inside_word : (g : Grammar) (text : List ℕ) (item : WordItem) (a : Spot) (next : Option ℕ) → Inside text a.place (word_next g text item a next)
inside_word g text item a None = tt
inside_word g text item a (Some c) = inside_if text a.place (has_character g.classes item.head c) _ _ (inside_word_read text item a (c ∷ run_at g text item.rest (suc a.place))) tt

inside_not_followed : (text : List ℕ) (g : Grammar) (class : List ClassPart) (a : Spot) (next : Option ℕ) → Inside text a.place (not_followed_next g class a next)
inside_not_followed text g class a None = tt
inside_not_followed text g class a (Some c) = inside_if text a.place (has_character g.classes class c) _ _ tt tt

inside_end : (text : List ℕ) (a : Spot) → Inside text a.place (end_outcome text a)
inside_end text a = inside_if text a.place (a.place == length text) _ _ tt tt

-- a string that matches in part
inside_matched : (text : List ℕ) (i n : ℕ) (e : Error) → n ≤ length text - i → Inside text i (failed (nat_lt 0 n) e)
inside_matched text i n e l = go (nat_lt 0 n) refl
  where
    go : (b : Bool) → nat_lt 0 n ≡ b → Inside text i (failed b e)
    go true h = let some : 0 < n = grind (arith, nat_tests) in omega arith
    go false h = tt

inside_string : (text s : List ℕ) (a : Spot) → Inside text a.place (string_outcome text s a)
inside_string text s a =
    let most = (common_prefix_len-le nat_eq s (drop a.place text)).1 in
    let left = length-drop a.place text in
    inside_if text a.place (matched text s a.place == length s) _ _ tt (inside_matched text a.place (matched text s a.place) _ (omega arith))

-- a declaration whose keyword stands there
inside_refused : (text : List ℕ) (d : Operator) (a : Spot) (i j : ℕ) (fault : Option AdmitFault) → a.place < length text → Inside text a.place (unless_refused d a.table i j fault)
inside_refused text d a i j (Some fault) l = l
inside_refused text d a i j None l = tt

inside_declared : (text : List ℕ) (a : Spot) (x : Declaration) → a.place < length text → Inside text a.place (declaration_outcome text a x)
inside_declared text a no_keyword l = tt
inside_declared text a (no_digit i) l = l
inside_declared text a (no_symbol i) l = l
inside_declared text a (declared d i j) l = inside_refused text d a i j (admit_fault a.table d) l

inside_declare : (g : Grammar) (text : List ℕ) (item : OperatorsItem) (class : List ClassPart) (a : Spot) → Inside text a.place (declare_outcome g text item class a)
inside_declare g text item class a = go (role_at g text class a.place) refl
  where
    go : (word : Option Role) → role_at g text class a.place ≡ word → Inside text a.place (declaration_outcome text a (keyword_read g text item a.place word))
    go None e = tt
    go (Some role) e =
        let word = keyword_there g text class a.place role (found (has_keyword g text class a.place) roles role e) in
        let first = first_stands text (keyword role) a.place (keyword_spelled role) word.begins in
        inside_declared text a (keyword_read g text item a.place (Some role)) (slice_get_within text a.place first.character first.there)

this : (text : List ℕ) (i : ℕ) (x o : Outcome) → Some x ≡ Some o → Inside text i x → Inside text i o
this text i x o e h = let same : x ≡ o = cc in subst (Inside text i) same h

inside_some_word : (g : Grammar) (text : List ℕ) (a : Spot) (item : Option WordItem) (o : Outcome) → some_word_outcome g text a item ≡ Some o → Inside text a.place o
inside_some_word g text a None o e = absurd (cc)
inside_some_word g text a (Some item) o e = this text a.place (word_outcome g text item a) o e (inside_word g text item a (slice_get text a.place))

inside_some_declare : (g : Grammar) (text : List ℕ) (class : List ClassPart) (a : Spot) (item : Option OperatorsItem) (o : Outcome) → some_declare_outcome g text class a item ≡ Some o → Inside text a.place o
inside_some_declare g text class a None o e = absurd (cc)
inside_some_declare g text class a (Some item) o e = this text a.place (declare_outcome g text item class a) o e (inside_declare g text item class a)

inside_leaf : (g : Grammar) (text : List ℕ) (l : Leaf ℕ) (a : Spot) (o : Outcome) → leaf_outcome g text l a ≡ Some o → Inside text a.place o
inside_leaf g text (leaf.Satisfy class) a o e = this text a.place _ o e (inside_satisfy text g class a (slice_get text a.place))
inside_leaf g text (leaf.String s) a o e = this text a.place _ o e (inside_string text s a)
inside_leaf g text (leaf.Word w) a o e = inside_some_word g text a (slice_get g.words w) o e
inside_leaf g text (leaf.NotFollowedBy class) a o e = this text a.place _ o e (inside_not_followed text g class a (slice_get text a.place))
inside_leaf g text leaf.EndOfText a o e = this text a.place _ o e (inside_end text a)
inside_leaf g text (leaf.Declare class) a o e = inside_some_declare g text class a g.operators o e

pub fails_inside : (g : Grammar) (text : List ℕ) (l : Leaf ℕ) (a : Spot) (o : Outcome) → leaf_outcome g text l a ≡ Some o → (e : Error) → o ≡ failed true e → a.place < length text
fails_inside g text l a o h e is = subst (Inside text a.place) is (inside_leaf g text l a o h)
