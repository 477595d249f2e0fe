-- The outcomes of leaves, the forms that read the text themselves.
use Rattle.std.specs.Prelude.{ℕ, suc, ◌+◌, ◌==◌, nat_eq, nat_lt, if◌then◌else◌, List, [], ◌∷◌, ◌++◌, true, false, Option, Some, None, length, slice_get, drop, codes}
use Rattle.std.specs.List.{list_any, common_prefix_len}
use Rattle.std.specs.Str.{bytes_eq}
use Rattle.pg_grammar_form.specs.ClassItems.{has_character}
use Rattle.pg_grammar_value.specs.Grammar.{Grammar}
use Rattle.pg_grammar_form.specs.declared.class.ClassPart.{ClassPart}
use Rattle.pg_grammar_form.specs.declared.word_item.WordItem.{WordItem}
use Rattle.pg_grammar_form.specs.declared.form.Leaf.{Leaf}
use Rattle.pg_grammar_form.specs.declared.form.Leaf.TheVariants as leaf
use Rattle.pg_language.specs.Derives.{Spot, after, leaf_of}
use Rattle.pg_grammar_form.specs.declared.operators_item.OperatorsItem.{OperatorsItem}
use Rattle.pg_language.specs.Declarations.{declare_outcome}
use Rattle.pg_language.specs.Runs.{run_at}
use Rattle.pg_language.specs.Errors.{quote, seen_at, no_messages_at, stopped_by, stopped_before, refused, refused_before}
use Rattle.pg_language.specs.Outcomes.{Outcome, ok, failed}

-- these characters were read, as one leaf
abbrev pub taken : Spot → List ℕ → Outcome
taken a s = let b : Spot = after a (length s) in ok true b (leaf_of s ∷ []) [] (no_messages_at b.place)

-- ---- by the next character, if there is one

abbrev pub satisfy_next : Grammar → List ClassPart → Spot → Option ℕ → Outcome
satisfy_next g class a None = failed false (stopped_by [] a.place)
satisfy_next g class a (Some c) =
    if has_character g.classes class c then taken a (c ∷ []) else failed false (stopped_by (quote (c ∷ [])) a.place)

-- a word that was read; it is refused if it is reserved
abbrev pub word_read : WordItem → Spot → List ℕ → Outcome
word_read item a s = if list_any (λ reserved. bytes_eq reserved s) item.reserved
    then failed false (refused (codes "reserved word " ++ quote s) a.place)
    else taken a s

abbrev pub word_next : Grammar → List ℕ → WordItem → Spot → Option ℕ → Outcome
word_next g text item a None = failed false (stopped_by [] a.place)
word_next g text item a (Some c) = if has_character g.classes item.head c
    then word_read item a (c ∷ run_at g text item.rest (suc a.place))
    else failed false (stopped_by (quote (c ∷ [])) a.place)

abbrev pub not_followed_next : Grammar → List ClassPart → Spot → Option ℕ → Outcome
not_followed_next g class a None = ok false a [] [] (stopped_by [] a.place)
not_followed_next g class a (Some c) = if has_character g.classes class c
    then failed false (refused (quote (c ∷ [])) a.place)
    else ok false a [] [] (stopped_by (quote (c ∷ [])) a.place)

-- ---- the leaves

-- one character of the class
abbrev pub satisfy_outcome : Grammar → List ℕ → List ClassPart → Spot → Outcome
satisfy_outcome g text class a = satisfy_next g class a (slice_get text a.place)

-- a word of the item
abbrev pub word_outcome : Grammar → List ℕ → WordItem → Spot → Outcome
word_outcome g text item a = word_next g text item a (slice_get text a.place)

-- no character of the class
abbrev pub not_followed_outcome : Grammar → List ℕ → List ClassPart → Spot → Outcome
not_followed_outcome g text class a = not_followed_next g class a (slice_get text a.place)

-- how many of these characters are at the place, one after another
abbrev pub matched : List ℕ → List ℕ → ℕ → ℕ
matched text s i = common_prefix_len nat_eq s (drop i text)

-- all of these characters; the error is at their start and names the first that differs
abbrev pub string_outcome : List ℕ → List ℕ → Spot → Outcome
string_outcome text s a = let n : ℕ = matched text s a.place in
    if n == length s then taken a s else
    failed (nat_lt 0 n) (stopped_before (quote s) (seen_at text (a.place + n)) a.place)

-- the end of the text
abbrev pub end_outcome : List ℕ → Spot → Outcome
end_outcome text a = if a.place == length text
    then ok false a [] [] (stopped_before (codes "end of input") [] a.place)
    else failed false (refused_before (codes "end of input") (seen_at text a.place) a.place)

-- ---- by the kind of leaf

-- a word of the item, if the item exists
abbrev pub some_word_outcome : Grammar → List ℕ → Spot → Option WordItem → Option Outcome
some_word_outcome g text a None = None
some_word_outcome g text a (Some item) = Some (word_outcome g text item a)

-- a declaration by the operators item, if there is one
abbrev pub some_declare_outcome : Grammar → List ℕ → List ClassPart → Spot → Option OperatorsItem → Option Outcome
some_declare_outcome g text class a None = None
some_declare_outcome g text class a (Some item) = Some (declare_outcome g text item class a)

-- the outcome of a leaf
abbrev pub leaf_outcome : Grammar → List ℕ → Leaf ℕ → Spot → Option Outcome
leaf_outcome g text (leaf.Satisfy class) a = Some (satisfy_outcome g text class a)
leaf_outcome g text (leaf.String s) a = Some (string_outcome text s a)
leaf_outcome g text (leaf.Word w) a = some_word_outcome g text a (slice_get g.words w)
leaf_outcome g text (leaf.NotFollowedBy class) a = Some (not_followed_outcome g text class a)
leaf_outcome g text leaf.EndOfText a = Some (end_outcome text a)
leaf_outcome g text (leaf.Declare class) a = some_declare_outcome g text class a g.operators
