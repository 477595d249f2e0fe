-- Worked derivations of small texts, and what is not derived: the definitions read by hand.
use Rattle.std.proofs.Common.{◌≡◌, ◌+◌, ◌==◌, ℕ, suc, true, false, List, [], ◌∷◌, length, take, get_or, Option, Some, None, slice_get, refl, sym, subst, ap, ◌∙◌, arith, inl, inr}
use Rattle.std.specs.Prelude.{codes}
use Rattle.std.specs.List.{list_any}
use Rattle.std.specs.Str.{bytes_eq, encode_utf8_all}
use Rattle.pg_tree.specs.Trees.{Tree, node, kids_of}
use Rattle.pg_tree.specs.declared.shape.Shape.TheVariants as shape
use Rattle.pg_grammar_value.specs.Grammar.{Grammar}
use Rattle.pg_grammar_form.specs.Operators.{Operator}
use Rattle.pg_grammar_form.specs.declared.class.ClassPart.{ClassPart}
use Rattle.pg_grammar_form.specs.declared.class.ClassPart.TheVariants.{Literal, Range}
use Rattle.pg_grammar_form.specs.declared.decl.Role.TheVariants.{InfixLeft, InfixRight, InfixNone, Prefix, Postfix}
use Rattle.pg_grammar_form.specs.Forms.{Node}
use Rattle.pg_grammar_form.specs.declared.form.Form.TheVariants as form
use Rattle.pg_grammar_form.specs.declared.form.Leaf.TheVariants as leaf
use Rattle.pg_grammar_form.specs.declared.form.Around.TheVariants as kind
use Rattle.pg_grammar_form.specs.declared.side.Side.TheVariants as side
use Rattle.pg_grammar_form.specs.declared.operators_item.OperatorsItem.{OperatorsItem}
use Rattle.pg_grammar_form.specs.declared.used.BuilderUse.{BuilderUse}
use Rattle.pg_grammar_form.specs.declared.used.ChainBuilder.{ChainBuilder}
use Rattle.pg_grammar_form.specs.declared.used.OperatorBuilders.{OperatorBuilders}
use Rattle.pg_grammar_form.specs.declared.word_item.WordItem.{WordItem}
use Rattle.pg_table.specs.Fitting.{term, prefixed, postfixed, joined, IsFitting}
use Rattle.pg_grammar_value.specs.declared.trail.TrailItem.{TrailItem}
use Rattle.pg_grammar_value.specs.declared.trail.TrailItem.TheVariants.{Alt, Rounds, Ops}
use Rattle.pg_grammar_value.specs.declared.trail.Fixity.TheVariants as fixity
use Rattle.pg_table.specs.Trails.{applied}
use Rattle.pg_table.specs.Tables.{admit_fault, Admits}
use Rattle.pg_table.specs.declared.admit_fault.AdmitFault.{AdmitFault}
use Rattle.pg_language.specs.Runs.{StandsAt, IsWordAt, IsOperatorAt, IsDeclarationAt, keyword, goes_on, past_run, run_at}
use Rattle.pg_grammar_form.specs.Chains.{handed}
use Rattle.pg_grammar_form.specs.ClassItems.{has_character}
use Rattle.pg_grammar_form.specs.declared.decl.Role.{Role}
use Rattle.pg_language.specs.Derives as derives
use Rattle.pg_language.specs.Derives.{Spot, after as further, leaf_of, declaration_tree, Derives, DerivesForm, at_node, satisfy, string, word, not_followed_by, end_of_text, declare, seq, choice, many, rule, expression, no_part, first_part, no_round, first_round, no_link, first_link, a_term, a_prefix, a_postfix, an_infix}

-- ---- a grammar

abbrev digits : List ClassPart
digits = Range 48 57 ∷ []

abbrev letters : List ClassPart
letters = Range 97 122 ∷ []

-- nodes by the symbol, and the links of chains that hand it one
abbrev symbols : BuilderUse
symbols = record { name = codes "symbol"; shape = shape.Symbol }

abbrev pairs : ChainBuilder
pairs = handed symbols (codes "pair")

abbrev pub builders : OperatorBuilders
builders = record { «infix» = symbols; prefix = symbols; postfix = symbols }

abbrev pub item : OperatorsItem
item = record { class = Literal (codes "+*-!=") ∷ []; gap = Literal (codes " ") ∷ []; reserved = codes "=" ∷ []; max = 4 }

abbrev names : WordItem
names = record { name = codes "name"; head = letters; rest = letters; reserved = codes "let" ∷ [] }

abbrev nodes : List Node
nodes =
    form.Expression builders 1 ∷ form.Leaf (leaf.Satisfy digits) ∷ form.Leaf (leaf.Declare letters) ∷ form.Chain side.Left pairs 1 4 ∷ form.Leaf (leaf.String (codes ",")) ∷
    form.Choice (6 ∷ 10 ∷ []) ∷ form.Seq (1 ∷ 7 ∷ []) ∷ form.Many 8 ∷ form.Seq (9 ∷ 1 ∷ []) ∷ form.Around kind.Skip 4 ∷ form.Seq [] ∷
    form.Chain side.Right pairs 1 4 ∷ form.Seq (13 ∷ 14 ∷ 15 ∷ []) ∷ form.Leaf (leaf.Word 0) ∷ form.Leaf (leaf.NotFollowedBy letters) ∷ form.Leaf leaf.EndOfText ∷
    form.Around kind.Try 17 ∷ form.Around (kind.Label (codes "digit")) 18 ∷ form.Rule 0 ∷ form.Around (kind.Build symbols (codes "n")) 20 ∷ form.Around kind.Text 1 ∷
    form.Around kind.Local 2 ∷ []

abbrev pub g : Grammar
g = record { classes = []; words = names ∷ []; operators = Some item; initials = []; nodes = nodes; rules = (record { name = codes "main"; body = 19 }) ∷ []; start = 0 }

-- a place, and a table of these operators
abbrev pub spot : ℕ → List Operator → Spot
spot i operators = record { place = i; table = record { operators = operators; reserved = codes "=" ∷ []; most = 4 } }

abbrev pub plus : Operator
plus = record { role = InfixLeft; precedence = 6; symbol = codes "+" }

abbrev pub times : Operator
times = record { role = InfixLeft; precedence = 7; symbol = codes "*" }

abbrev pub minus : Operator
minus = record { role = Prefix; precedence = 8; symbol = codes "-" }

abbrev pub bang : Operator
bang = record { role = Postfix; precedence = 9; symbol = codes "!" }

some_same : (m n : ℕ) → Some m ≡ Some n → m ≡ n
some_same m n e = cc

not_108 : (n : ℕ) → (108 == n) ≡ false → 108 ≡ n → ⊥
not_108 n differs e = let same = subst (λ n. (108 == n) ≡ false) (sym e) differs in absurd cc

-- a digit
one : (s : List ℕ) (a : Spot) (c : ℕ) → slice_get s a.place ≡ Some c → has_character [] digits c ≡ true → Derives g s 1 a (further a 1) (leaf_of (c ∷ []) ∷ []) []
one s a c there member = at_node refl (derives.leaf (satisfy (record { character = c; there = there; member = member })))

-- ---- expressions

abbrev sums : List Operator
sums = plus ∷ times ∷ minus ∷ bang ∷ []

-- the node of an operator's symbol
abbrev pub named : List ℕ → List Tree → Tree
named symbol kids = node (encode_utf8_all symbol) (kids_of kids)

-- the tighter operator stands below, after each operator lies its gap
precedence : Derives g (codes "1+ 2*3") 0 (spot 0 sums) (spot 6 sums)
    (named (codes "+") (leaf_of (codes "1") ∷ named (codes "*") (leaf_of (codes "2") ∷ leaf_of (codes "3") ∷ []) ∷ []) ∷ [])
    (Ops (applied fixity.Infix plus ∷ applied fixity.Infix times ∷ []) ∷ [])
precedence =
    let tighter : IsFitting sums (joined times term term) = ((1, refl), tt, tt, tt, inl (inl (omega arith)), inl (inl (omega arith))) in
    let fits : IsFitting sums (joined plus term (joined times term term)) = ((0, refl), tt, tt, tighter, inl (inl (omega arith)), inl (inl (omega arith))) in
    at_node refl (expression refl fits
    (an_infix {j = 3} (a_term (one _ _ 49 refl refl)) (record { run = refl; past = refl })
    (an_infix {j = 5} (a_term (one _ _ 50 refl refl)) (record { run = refl; past = refl }) (a_term (one _ _ 51 refl refl)))))

-- a prefix and a postfix operator around one term
around : Derives g (codes "-1!") 0 (spot 0 sums) (spot 3 sums) (named (codes "-") (named (codes "!") (leaf_of (codes "1") ∷ []) ∷ []) ∷ [])
    (Ops (applied fixity.Prefix minus ∷ applied fixity.Postfix bang ∷ []) ∷ [])
around =
    let fits : IsFitting sums (prefixed minus (postfixed bang term)) = ((2, refl), refl, ((3, refl), refl, tt, inl (omega arith)), omega arith) in
    at_node refl (expression refl fits
    (a_prefix {j = 1} (record { run = refl; past = refl }) (a_postfix {j = 3} (a_term (one _ _ 49 refl refl)) (record { run = refl; past = refl }))))

-- without operators an expression is its term
alone : Derives g (codes "1") 0 (spot 0 []) (spot 1 []) (leaf_of (codes "1") ∷ []) (Ops [] ∷ [])
alone = at_node refl (expression {x = term} refl tt (a_term (one _ _ 49 refl refl)))

-- an operator is the whole run of operator characters, and not a prefix of it
two_dashes : (j : ℕ) → IsOperatorAt g (codes "--1") item (codes "-") 0 j → ⊥
two_dashes j is = let run = is.run in absurd cc

-- ---- trees

-- left of an infixl operator may stand another one of its row, and right of it none
leans_left : IsFitting sums (joined plus (joined plus term term) term)
leans_left = ((0, refl), tt, ((0, refl), tt, tt, tt, inl (inl (omega arith)), inl (inl (omega arith))), tt, inr (refl, (refl, refl)), inl (inl (omega arith)))

leans_not_right : IsFitting sums (joined plus term (joined plus term term)) → ⊥
leans_not_right (among, between_two, low, fits, left, inl (inl below)) = absurd (omega arith)
leans_not_right (among, between_two, low, fits, left, inl (inr unary)) = absurd unary
leans_not_right (among, between_two, low, fits, left, inr (leans, row)) = absurd cc

-- no prefix stands on another of its row, but a postfix stands on a prefix of its row
prefix_once : IsFitting sums (prefixed minus (prefixed minus term)) → ⊥
prefix_once h = let below = h.3 in absurd (omega arith)

-- ---- declarations

-- a blank follows the keyword
blank : (c : ℕ) → slice_get (codes "infixl 6 +1") 6 ≡ Some c → goes_on g letters c ≡ false
blank c e = subst (λ c. goes_on g letters c ≡ false) (some_same 32 c e) refl

-- the declared operator goes to the end of the table
declared_operator : Derives g (codes "infixl 6 +1") 2 (spot 0 (times ∷ [])) (spot 10 (times ∷ plus ∷ [])) (declaration_tree plus ∷ []) []
declared_operator = at_node refl (derives.leaf (declare refl (record {
  begins = refl;
  ends = blank;
  digit_place = 7;
  first_gap = refl;
  digit = refl;
  precedence = omega arith;
  symbol_place = 9;
  second_gap = refl;
  symbol = refl;
  spelled = omega arith;
  last_gap = refl;
}) refl))

-- in `local` it ends with the declaration
declared_locally : Derives g (codes "infixl 6 +1") 21 (spot 0 (times ∷ [])) (spot 10 (times ∷ [])) (declaration_tree plus ∷ []) []
declared_locally = at_node refl (derives.around declared_operator)

abbrev twice : List ℕ
twice = codes "infixl 6 +"

abbrev fault_of : Role → List ℕ → Option AdmitFault
fault_of role symbol = admit_fault (spot 0 (plus ∷ [])).table (record { role = role; precedence = 6; symbol = symbol })

-- an infixl operator with the symbol + isn't admitted, where one is there
taken : (d : Operator) → d.role ≡ InfixLeft → codes "+" ≡ d.symbol → Admits (spot 0 (plus ∷ [])).table d → ⊥
taken d r s h =
    let with_role = subst (λ role. fault_of role d.symbol ≡ None) r h in
    let with_symbol = subst (λ symbol. fault_of InfixLeft symbol ≡ None) (sym s) with_role in
    absurd cc

-- the text declares nothing but the infixl operator +
declares_plus : (d : Operator) (j : ℕ) → IsDeclarationAt g twice item letters d 0 j → (d.role ≡ InfixLeft) × (codes "+" ≡ d.symbol)
declares_plus d j is = by_role d.role refl
  where
    symbol_of : d.role ≡ InfixLeft → codes "+" ≡ d.symbol
    symbol_of r =
        let first : is.digit_place ≡ 7 = is.first_gap ∙ ap (λ role. past_run g twice item.gap (0 + length (keyword role))) r in
        let second : is.symbol_place ≡ 9 = is.second_gap ∙ ap (λ i. past_run g twice item.gap (suc i)) first in
        sym (ap (λ i. run_at g twice item.class i) second) ∙ is.symbol

    at_five : (role : Role) → d.role ≡ role → get_or (take (length (keyword role)) twice) 5 0 ≡ get_or (keyword role) 5 0
    at_five role r = subst (λ role. get_or (take (length (keyword role)) twice) 5 0 ≡ get_or (keyword role) 5 0) r (ap (λ s. get_or s 5 0) is.begins)

    goes : d.role ≡ InfixNone → goes_on g letters 108 ≡ false
    goes r = is.ends 108 (subst (λ role. slice_get twice (0 + length (keyword role)) ≡ Some 108) (sym r) refl)

    by_role : (role : Role) → d.role ≡ role → (d.role ≡ InfixLeft) × (codes "+" ≡ d.symbol)
    by_role InfixLeft r = (r, symbol_of r)
    by_role InfixRight r = absurd (not_108 114 refl (at_five InfixRight r))
    by_role InfixNone r = let other : true ≡ false = goes r in absurd cc
    by_role Prefix r = absurd (not_108 120 refl (at_five Prefix r))
    by_role Postfix r = absurd (not_108 105 refl (at_five Postfix r))

-- so a text that declares it again has no derivation
declared_twice : (b : Spot) (forest : List Tree) (trail : List TrailItem) → Derives g twice 2 (spot 0 (plus ∷ [])) b forest trail → ⊥
declared_twice b forest trail (at_node {n = n} e d) =
    let same : n ≡ form.Leaf (leaf.Declare letters) = cc in refused b forest trail (subst (λ n. DerivesForm g twice n (spot 0 (plus ∷ [])) b forest trail) same d)
  where
    refused : (b : Spot) (forest : List Tree) (trail : List TrailItem) → DerivesForm g twice (form.Leaf (leaf.Declare letters)) (spot 0 (plus ∷ [])) b forest trail → ⊥
    refused b forest trail (derives.leaf (declare {item = other} {d = d} {j = j} e is admits)) =
        let same : other ≡ item = cc in
        let plus_again = declares_plus d j (subst (λ item. IsDeclarationAt g twice item letters d 0 j) same is) in
        taken d plus_again.0 plus_again.1 admits

-- ---- chains and lists

-- a comma
comma : (s : List ℕ) (a : Spot) → StandsAt s a.place (codes ",") → Derives g s 4 a (further a 1) (leaf_of (codes ",") ∷ []) []
comma s a stands = at_node refl (derives.leaf (string stands))

abbrev pair_of : List Tree → Tree
pair_of kids = node (codes "pair") (kids_of kids)

-- a chain of three operands, folded to the left and to the right
left_chain : Derives g (codes "1,2,3") 3 (spot 0 []) (spot 5 [])
    (pair_of (pair_of (leaf_of (codes "1") ∷ leaf_of (codes ",") ∷ leaf_of (codes "2") ∷ []) ∷ leaf_of (codes ",") ∷ leaf_of (codes "3") ∷ []) ∷ []) (Rounds 2 ∷ [])
left_chain = at_node refl (derives.chain (one _ _ 49 refl refl)
    (first_link (comma _ _ refl) (one _ _ 50 refl refl) (first_link (comma _ _ refl) (one _ _ 51 refl refl) no_link)))

right_chain : Derives g (codes "1,2,3") 11 (spot 0 []) (spot 5 [])
    (pair_of (leaf_of (codes "1") ∷ leaf_of (codes ",") ∷ pair_of (leaf_of (codes "2") ∷ leaf_of (codes ",") ∷ leaf_of (codes "3") ∷ []) ∷ []) ∷ []) (Rounds 2 ∷ [])
right_chain = at_node refl (derives.chain (one _ _ 49 refl refl)
    (first_link (comma _ _ refl) (one _ _ 50 refl refl) (first_link (comma _ _ refl) (one _ _ 51 refl refl) no_link)))

-- two elements with a separator between them, which is left out
two_elements : Derives g (codes "1,2") 5 (spot 0 []) (spot 3 []) (leaf_of (codes "1") ∷ leaf_of (codes "2") ∷ []) (Alt 1 ∷ Rounds 1 ∷ [])
two_elements = at_node refl (choice {k = 0} refl (at_node refl (seq (first_part (one _ _ 49 refl refl) (first_part
    (at_node refl (many (first_round
    (at_node refl (seq (first_part (at_node refl (derives.around (comma _ _ refl))) (first_part (one _ _ 50 refl refl) no_part)))) no_round)))
    no_part)))))

no_element : Derives g (codes "") 5 (spot 0 []) (spot 0 []) [] (Alt 2 ∷ [])
no_element = at_node refl (choice {k = 1} refl (at_node refl (seq no_part)))

-- ---- words, and what reads nothing

whole_word : Derives g (codes "lets") 12 (spot 0 []) (spot 4 []) (leaf_of (codes "lets") ∷ []) []
whole_word = at_node refl (seq
    (first_part (at_node refl (derives.leaf (word refl (record { head = 108; there = refl; member = refl; whole = refl; free = refl }))))
    (first_part (at_node refl (derives.leaf (not_followed_by (λ has. let none = has.there in absurd cc))))
    (first_part (at_node refl (derives.leaf (end_of_text refl))) no_part))))

-- a reserved word isn't one
reserved_word : (s : List ℕ) → IsWordAt g (codes "let") names 0 s → ⊥
reserved_word s is =
    let head : is.head ≡ 108 = (let there = is.there in cc) in
    let whole : s ≡ codes "let" = is.whole ∙ ap (λ c. c ∷ codes "et") head in
    let free = subst (λ s. list_any (λ r. bytes_eq r s) names.reserved ≡ false) whole is.free in
    absurd cc

-- ---- forms around one part

-- each of them passes place, table and trail on; the text's leaf and the symbol's node change the forest
one_digit : Derives g (codes "7") 16 (spot 0 []) (spot 1 []) (node (codes "n") (kids_of (leaf_of (codes "7") ∷ [])) ∷ []) []
one_digit = at_node refl (derives.around (at_node refl (derives.around (at_node refl (rule refl (at_node refl (derives.around (at_node refl (derives.around (one _ _ 55 refl refl))))))))))
