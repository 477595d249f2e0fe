-- What the next character tells of a node, worked out from what it tells of other nodes.
use Rattle.std.specs.Prelude.{◌≡◌, ◌+◌, ℕ, List, [], ◌∷◌, Bool, true, false, Option, Some, None, slice_get, if◌then◌else◌, nat_eq, nat_lt, nat_le}
use Rattle.std.specs.List.{list_any}
use Rattle.pg_grammar_value.specs.Grammar.{Grammar}
use Rattle.pg_grammar_value.specs.declared.grammar.Rule as declared
use Rattle.pg_grammar_form.specs.ClassItems.{has_character}
use Rattle.pg_grammar_form.specs.Forms.{Node}
use Rattle.pg_grammar_form.specs.declared.class.ClassPart.{ClassPart}
use Rattle.pg_grammar_form.specs.declared.form.Form.TheVariants as form
use Rattle.pg_grammar_form.specs.declared.form.Leaf.{Leaf}
use Rattle.pg_grammar_form.specs.declared.form.Leaf.TheVariants as leaf
use Rattle.pg_grammar_form.specs.declared.word_item.WordItem.{WordItem}
use Rattle.pg_language.specs.Answers.{Given}
use Rattle.pg_language.specs.Derives.{Spot}
use Rattle.pg_language.specs.Reactions.{counted_by}
use Rattle.pg_language.specs.declared.reading.Reading.TheVariants.{Library}
use Rattle.pg_machine_plan.specs.declared.next.Next.{Next}
use Rattle.pg_machine_plan.specs.declared.next.Next.TheVariants.{Ascii, Other, End}
use Rattle.pg_machine_plan.specs.declared.verdict.TheConstants.{MOST_NODES}
use Rattle.pg_machine_plan.specs.declared.verdict.Verdict.{Verdict}
use Rattle.pg_machine_plan.specs.declared.verdict.Verdict.TheVariants.{Unknown, Fails, Empty, Takes}
use Rattle.pg_machine_plan.specs.Facts.{Outcomes, outcomes_of, FailsAtOnce, IsEmptyAtOnce, TakesAtOnce}

-- ---- what comes next

-- what tables see of a character, or of the end
abbrev pub next_of : Option ℕ → Next
next_of None = End
next_of (Some c) = if nat_lt c 128 then Ascii c else Other

-- its place in a table of 130
abbrev pub slot : Next → ℕ
slot (Ascii c) = c
slot Other = 128
slot End = 129

-- ---- by the forms

-- the verdict, if so many nodes can be counted; of more nothing is told
abbrev pub if_counted : ℕ → Verdict → Verdict
if_counted n v = if nat_le n MOST_NODES then v else Unknown

-- the verdict, and so many nodes more
abbrev pub more : ℕ → Verdict → Verdict
more m Unknown = Unknown
more m (Fails n) = if_counted (m + n) (Fails (m + n))
more m (Empty n) = if_counted (m + n) (Empty (m + n))
more m Takes = Takes

-- one part and then others
abbrev pub in_order : Verdict → Verdict → Verdict
in_order Unknown others = Unknown
in_order (Fails m) others = Fails m
in_order (Empty m) others = more m others
in_order Takes others = Takes

-- one alternative, or otherwise others
abbrev pub or_else : Verdict → Verdict → Verdict
or_else Unknown others = Unknown
or_else (Fails m) others = more m others
or_else (Empty m) others = Empty m
or_else Takes others = Takes

-- rounds of something
abbrev pub repeated : Verdict → Verdict
repeated Unknown = Unknown
repeated (Fails m) = Empty m
repeated (Empty m) = Unknown
repeated Takes = Takes

-- an operand, and a separator after it
abbrev pub chained : Verdict → Verdict → Verdict
chained Unknown separator = Unknown
chained (Fails m) separator = Fails m
chained (Empty m) (Fails n) = if_counted (m + n) (Empty (m + n))
chained (Empty m) Unknown = Unknown
chained (Empty m) (Empty n) = Unknown
chained (Empty m) Takes = Unknown
chained Takes separator = Takes

-- a form around a part, which counts as consumed what the part has, or never
abbrev pub enclosed : Bool → Verdict → Verdict
enclosed counts Unknown = Unknown
enclosed counts (Fails m) = Fails m
enclosed counts (Empty m) = Empty m
enclosed counts Takes = if counts then Takes else Unknown

-- ---- leaves

-- one character of a class, by whether the next one is in it
abbrev pub on_class : Bool → Verdict
on_class b = if b then Takes else Fails 0

abbrev pub satisfy_verdict : Grammar → List ClassPart → Next → Verdict
satisfy_verdict g class (Ascii c) = on_class (has_character g.classes class c)
satisfy_verdict g class Other = Unknown
satisfy_verdict g class End = Fails 0

-- a string, by its first character
abbrev pub first_verdict : ℕ → Next → Verdict
first_verdict x (Ascii c) = on_class (nat_eq x c)
first_verdict x Other = if nat_lt x 128 then Fails 0 else Unknown
first_verdict x End = Fails 0

abbrev pub string_verdict : List ℕ → Next → Verdict
string_verdict [] next = Unknown
string_verdict (x ∷ s) next = first_verdict x next

abbrev pub not_followed_verdict : Grammar → List ClassPart → Next → Verdict
not_followed_verdict g class (Ascii c) = if has_character g.classes class c then Fails 0 else Empty 0
not_followed_verdict g class Other = Unknown
not_followed_verdict g class End = Empty 0

-- whether a text begins with the character
abbrev pub begins_with : ℕ → List ℕ → Bool
begins_with c [] = false
begins_with c (x ∷ s) = nat_eq x c

-- a word; one with which a reserved text begins may be reserved
abbrev pub on_head : Bool → Bool → Verdict
on_head head reserved = if head then (if reserved then Unknown else Takes) else Fails 0

abbrev pub word_verdict : Grammar → Option WordItem → Next → Verdict
word_verdict g None next = Unknown
word_verdict g (Some item) (Ascii c) = on_head (has_character g.classes item.head c) (list_any (begins_with c) item.reserved)
word_verdict g (Some item) Other = Unknown
word_verdict g (Some item) End = Fails 0

-- the end of the text: whether a place without a character is the end, or past it, isn't told
abbrev pub end_verdict : Next → Verdict
end_verdict (Ascii c) = Fails 0
end_verdict Other = Fails 0
end_verdict End = Unknown

abbrev pub leaf_verdict : Grammar → Leaf ℕ → Next → Verdict
leaf_verdict g (leaf.Satisfy class) next = satisfy_verdict g class next
leaf_verdict g (leaf.String s) next = string_verdict s next
leaf_verdict g (leaf.Word w) next = word_verdict g (slice_get g.words w) next
leaf_verdict g (leaf.NotFollowedBy class) next = not_followed_verdict g class next
leaf_verdict g leaf.EndOfText next = end_verdict next
leaf_verdict g (leaf.Declare class) next = Unknown

-- ---- nodes

-- parts in order, by the verdict on each
abbrev pub parts_verdict : (ℕ → Verdict) → List ℕ → Verdict
parts_verdict on [] = Empty 0
parts_verdict on (p ∷ ps) = in_order (on p) (parts_verdict on ps)

-- alternatives, by the verdict on each
abbrev pub alternatives_verdict : (ℕ → Verdict) → List ℕ → Verdict
alternatives_verdict on [] = Fails 0
alternatives_verdict on (p ∷ ps) = or_else (on p) (alternatives_verdict on ps)

abbrev pub rule_verdict : (ℕ → Verdict) → Option declared.Rule → Verdict
rule_verdict on None = Unknown
rule_verdict on (Some named) = on named.body

-- a form, by the verdict on each node; of expressions and declarations nothing is told
abbrev pub form_verdict : Grammar → (ℕ → Verdict) → Next → Node → Verdict
form_verdict g on next (form.Leaf l) = leaf_verdict g l next
form_verdict g on next (form.Seq ps) = parts_verdict on ps
form_verdict g on next (form.Choice ps) = alternatives_verdict on ps
form_verdict g on next (form.Many p) = repeated (on p)
form_verdict g on next (form.Chain side used p s) = chained (on p) (on s)
form_verdict g on next (form.Rule r) = rule_verdict on (slice_get g.rules r)
form_verdict g on next (form.Expression builders p) = Unknown
form_verdict g on next (form.Around k p) = enclosed (counted_by k true) (on p)

abbrev pub node_verdict : Grammar → (ℕ → Verdict) → Next → Option Node → Verdict
node_verdict g on next None = Unknown
node_verdict g on next (Some n) = more 1 (form_verdict g on next n)

-- ---- what a verdict says

abbrev pub Says : Outcomes → Spot → Verdict → Type 0
Says Has a Unknown = Unit {0}
Says Has a (Fails m) = FailsAtOnce Has m
Says Has a (Empty m) = IsEmptyAtOnce Has a m
Says Has a Takes = TakesAtOnce Has

-- the verdict says what is so of the node, at every spot of the text where this comes next
abbrev pub IsSoAt : Given → Next → ℕ → Verdict → Type 0
IsSoAt G next p v = (a : Spot) → next_of (slice_get G.text a.place) ≡ next → Says (outcomes_of G p a) a v

-- verdicts that follow from those that are so are so as well, in the library's reading
abbrev pub VerdictsFollow : Type 0
VerdictsFollow = (G : Given) → G.reading ≡ Library → (next : Next) (on : ℕ → Verdict) → ((p : ℕ) → IsSoAt G next p (on p)) →
    (p : ℕ) → IsSoAt G next p (node_verdict G.grammar on next (slice_get G.grammar.nodes p))
