-- Which starts a node gives by itself.
use Rattle.std.proofs.Common.{◌≡◌, ◌↔◌, ℕ, ◌<◌, false, inl, inr, List, [], ◌∷◌, Some, None, slice_get, length, refl, sym, ap, subst, ◌∙◌, arith}
use Rattle.std.proofs.lemmas.Bool.{cases_order, true≢false}
use Rattle.std.proofs.lemmas.Option.{slice_get_within, same_Some, none-some}
use Rattle.pg_class.specs.Ranges.{Range}
use Rattle.pg_class.proofs.Unique.{same_class}
use Rattle.pg_grammar_form.specs.Forms.{Node, form_of, has_bad_literal}
use Rattle.pg_grammar_value.specs.Grammar.{Grammar, IsGrammar, rule_names, word_names}
use Rattle.pg_grammar_form.specs.declared.form.Form.TheVariants as form
use Rattle.pg_grammar_form.specs.declared.form.Leaf.TheVariants as leaf
use Rattle.pg_grammar_form.specs.declared.form.Around.TheVariants as around
use Rattle.pg_grammar_form.proofs.Each.{none-get}
use Rattle.pg_grammar_form.specs.declared.class.ClassPart.{ClassPart}
use Rattle.pg_grammar_form.specs.declared.decl.Role.{Role}
use Rattle.pg_grammar_form.specs.declared.decl.Role.TheVariants.{InfixLeft, InfixRight, InfixNone, Prefix, Postfix}
use Rattle.pg_grammar_form.specs.declared.operators_item.OperatorsItem.{OperatorsItem}
use Rattle.pg_grammar_form.specs.declared.used.OperatorBuilders.{OperatorBuilders}
use Rattle.pg_grammar_form.specs.declared.word_item.WordItem.{WordItem}
use Rattle.pg_start.specs.declared.kind.StartKind.{StartKind}
use Rattle.pg_start.specs.declared.kind.StartKind.TheVariants.{Class, Key, Word}
use Rattle.pg_sets_own.specs.Listed.{IsListed, IsNumbered, IsFirstReader}
use Rattle.pg_sets_own.specs.Own.{OwnListed, IsPlain, IsAmong, AreOwn, keyword_keys}
use Rattle.pg_sets_own.specs.Own as plain
use Rattle.pg_sets_own.specs.OperatorStarts.{IsGapStart, gap}
use Rattle.pg_sets_own.specs.OwnStarts.{OwnStart, IsOperatorStart, IsClassOf, IsExcludedBy, IsKeyed, ReadsWords, ReservedAs, SameTexts, role_keyword}
use Rattle.pg_sets_own.specs.OwnStarts as own
use Rattle.pg_sets_own.specs.Words.{ListsWords}
use Rattle.pg_sets_own.specs.Words as words
use Rattle.pg_sets_own.specs.declared.listed.ListedStart.{ListedStart}
use Rattle.pg_sets_own.proofs.Reading.{one_class}

pub listed_path : {s t : StartKind} {w v : ℕ} → s ≡ t → w ≡ v → ◌≡◌ {A = ListedStart} (record { start = s; word = w }) (record { start = t; word = v })
listed_path {s} {t} {w} {v} e h = ap (λ x. record { start = x; word = w }) e ∙ ap (λ n. record { start = t; word = n }) h

-- one start, that each of a node's is
pub one_own : {g : Grammar} {n : Node} (listed : ListedStart) → OwnListed g n listed → ((s : StartKind) (w : ℕ) → OwnStart g n s → IsNumbered g s w → listed ≡ record { start = s; word = w })
    → AreOwn g n (listed ∷ [])
one_own {g} {n} listed is only = record {
  members = λ other. (
    λ among. elim among [ inl same ↦ subst (OwnListed g n) same is | inr none ↦ absurd none ],
    λ o. inl (only other.start other.word o.own o.named),
  );
  there = λ plain. (listed.start, is.own);
}

-- none
pub none_own : {g : Grammar} {n : Node} → ((s : StartKind) → OwnStart g n s → ⊥) → (IsPlain g n → ⊥) → AreOwn g n []
none_own none no_plain = record {
  members = λ other. (λ among. absurd among, λ o. none other.start o.own);
  there = λ plain. absurd (no_plain plain);
}

-- a character of a class
pub satisfy_own : {g : Grammar} {expression : List ClassPart} (class : List Range) → IsClassOf g expression class → AreOwn g (form.Leaf (leaf.Satisfy expression)) (record { start = Class class; word = 0 } ∷ [])
satisfy_own {g} {expression} class is = one_own (record { start = Class class; word = 0 }) (record { own = own.satisfy is; named = refl }) only
  where
    only : (s : StartKind) (w : ℕ) → OwnStart g (form.Leaf (leaf.Satisfy expression)) s → IsNumbered g s w → ◌≡◌ {A = ListedStart} (record { start = Class class; word = 0 }) (record { start = s; word = w })
    only s w (own.satisfy also) named = listed_path (ap Class (one_class is also)) (sym named)

-- a string
pub string_own : {g : Grammar} (c : ℕ) (cs : List ℕ) → AreOwn g (form.Leaf (leaf.String (c ∷ cs))) (record { start = Class ((c, c) ∷ []); word = 0 } ∷ [])
string_own {g} c cs = one_own (record { start = Class ((c, c) ∷ []); word = 0 }) (record { own = own.string; named = refl }) only
  where
    only : (s : StartKind) (w : ℕ) → OwnStart g (form.Leaf (leaf.String (c ∷ cs))) s → IsNumbered g s w
        → ◌≡◌ {A = ListedStart} (record { start = Class ((c, c) ∷ []); word = 0 }) (record { start = s; word = w })
    only s w own.string named = listed_path refl (sym named)

pub empty_own : {g : Grammar} → AreOwn g (form.Leaf (leaf.String [])) []
empty_own {g} = none_own none no_plain
  where
    none : (s : StartKind) → OwnStart g (form.Leaf (leaf.String [])) s → ⊥
    none s is = elim is [ ]

    no_plain : IsPlain g (form.Leaf (leaf.String [])) → ⊥
    no_plain (plain.key is) = elim is [ ]

-- ---- keys

apart_forms : (g : Grammar) (p : ℕ) {n m : Node} → slice_get g.nodes p ≡ Some n → slice_get g.nodes p ≡ Some m → n ≡ m
apart_forms g p {n} {m} a b = same_Some n m (sym a ∙ b)

string_seq : {text : List ℕ} {parts : List ℕ} → ◌≡◌ {A = Node} (form.Leaf (leaf.String text)) (form.Seq parts) → ⊥
string_seq e = absurd cc

string_text : {text other : List ℕ} → ◌≡◌ {A = Node} (form.Leaf (leaf.String text)) (form.Leaf (leaf.String other)) → text ≡ other
string_text e = cc

pub key_own : {g : Grammar} {part : ℕ} (text : List ℕ) → slice_get g.nodes part ≡ Some (form.Leaf (leaf.String text)) → AreOwn g (form.Around around.Try part) (record { start = Key text []; word = 0 } ∷ [])
key_own {g} {part} text at = one_own (record { start = Key text []; word = 0 }) (record { own = own.key at; named = refl }) only
  where
    only : (s : StartKind) (w : ℕ) → OwnStart g (form.Around around.Try part) s → IsNumbered g s w → ◌≡◌ {A = ListedStart} (record { start = Key text []; word = 0 }) (record { start = s; word = w })
    only s w (own.key also) named = listed_path (ap (λ t. Key t []) (string_text (apart_forms g part at also))) (sym named)
    only s w (own.key_that_ends keyed is) named = absurd (string_seq (apart_forms g part at keyed.both))

not_followed_class : {class other : List ClassPart} → ◌≡◌ {A = Node} (form.Leaf (leaf.NotFollowedBy class)) (form.Leaf (leaf.NotFollowedBy other)) → class ≡ other
not_followed_class e = cc

seq_first : {a b c d : ℕ} → ◌≡◌ {A = Node} (form.Seq (a ∷ b ∷ [])) (form.Seq (c ∷ d ∷ [])) → a ≡ c
seq_first e = cc

seq_second : {a b c d : ℕ} → ◌≡◌ {A = Node} (form.Seq (a ∷ b ∷ [])) (form.Seq (c ∷ d ∷ [])) → b ≡ d
seq_second e = cc

one_keyed : (g : Grammar) (part : ℕ) (text other : List ℕ) (class excluded : List ClassPart) → IsKeyed g part text class → IsKeyed g part other excluded
    → (text ≡ other) × (class ≡ excluded)
one_keyed g part text other class excluded is also =
    let parts = apart_forms g part is.both also.both in
    let first : is.first ≡ also.first = seq_first parts in
    let second : is.second ≡ also.second = seq_second parts in (
      string_text (apart_forms g also.first (subst (λ p. slice_get g.nodes p ≡ Some (form.Leaf (leaf.String text))) first is.string) also.string),
      not_followed_class (apart_forms g also.second (subst (λ p. slice_get g.nodes p ≡ Some (form.Leaf (leaf.NotFollowedBy class))) second is.ends) also.ends),
    )

pub keyword_own : {g : Grammar} {part : ℕ} (text : List ℕ) (excluded : List ClassPart) (class : List Range) → IsKeyed g part text excluded → IsClassOf g excluded class
    → AreOwn g (form.Around around.Try part) (record { start = Key text class; word = 0 } ∷ [])
keyword_own {g} {part} text excluded class keyed is = one_own (record { start = Key text class; word = 0 }) (record { own = own.key_that_ends keyed is; named = refl }) only
  where
    only : (s : StartKind) (w : ℕ) → OwnStart g (form.Around around.Try part) s → IsNumbered g s w → ◌≡◌ {A = ListedStart} (record { start = Key text class; word = 0 }) (record { start = s; word = w })
    only s w (own.key also) named = absurd (string_seq (apart_forms g part also keyed.both))
    only s w (own.key_that_ends {characters = other} {excluded = others} {class = ranges} also known) named =
        let same = one_keyed g part text other excluded others keyed also in
        listed_path (ap (λ t. Key t class) same.0 ∙ ap (Key other) (one_class is (subst (λ e. IsClassOf g e ranges) (sym same.1) known))) (sym named)

pub no_key_own : {g : Grammar} {part : ℕ} → ((text : List ℕ) → slice_get g.nodes part ≡ Some (form.Leaf (leaf.String text)) → ⊥)
    → ((text : List ℕ) (excluded : List ClassPart) → IsKeyed g part text excluded → ⊥) → AreOwn g (form.Around around.Try part) []
no_key_own {g} {part} no_string no_keyword = none_own none no_plain
  where
    none : (s : StartKind) → OwnStart g (form.Around around.Try part) s → ⊥
    none s (own.key {characters = text} at) = no_string text at
    none s (own.key_that_ends {characters = text} {excluded = excluded} keyed is) = no_keyword text excluded keyed

    no_plain : IsPlain g (form.Around around.Try part) → ⊥
    no_plain (plain.key (own.string {characters = text} at)) = no_string text at
    no_plain (plain.key (own.keyed {characters = text} {excluded = excluded} keyed)) = no_keyword text excluded keyed

-- a string of a grammar has a character
pub spelled : (g : Grammar) (p : ℕ) (text : List ℕ) → IsGrammar g → slice_get g.nodes p ≡ Some (form.Leaf (leaf.String text)) → 0 < length text
spelled g p text grammar at = positive text (none-get has_bad_literal (form_of (rule_names g) (word_names g)) g.nodes p (form.Leaf (leaf.String text)) grammar.literals at)
  where
    positive : (text : List ℕ) → has_bad_literal (form.Leaf (leaf.String text)) ≡ false → 0 < length text
    positive [] e = absurd (true≢false e)
    positive (c ∷ cs) e = omega arith

-- ---- declarations

pub declare_own : {g : Grammar} {expression : List ClassPart} (class : List Range) → IsExcludedBy g expression class → AreOwn g (form.Leaf (leaf.Declare expression)) (keyword_keys class)
declare_own {g} {expression} class is = record {
  members = λ other. (λ among. from other among, λ o. to other.start other.word o.own o.named);
  there = λ plain. (Key (role_keyword InfixLeft) class, own.declare InfixLeft is);
}
  where
    key_of : Role → ListedStart
    key_of role = record { start = Key (role_keyword role) class; word = 0 }

    each : (role : Role) (other : ListedStart) → key_of role ≡ other → OwnListed g (form.Leaf (leaf.Declare expression)) other
    each role other same = subst (OwnListed g (form.Leaf (leaf.Declare expression))) same (record { own = own.declare role is; named = refl })

    from : (other : ListedStart) → IsAmong (keyword_keys class) other → OwnListed g (form.Leaf (leaf.Declare expression)) other
    from other (inl same) = each InfixLeft other same
    from other (inr (inl same)) = each InfixRight other same
    from other (inr (inr (inl same))) = each InfixNone other same
    from other (inr (inr (inr (inl same)))) = each Prefix other same
    from other (inr (inr (inr (inr (inl same))))) = each Postfix other same
    from other (inr (inr (inr (inr (inr none))))) = elim none [ ]

    path : (role : Role) {ranges : List Range} {w : ℕ} → IsExcludedBy g expression ranges → w ≡ 0 → key_of role ≡ record { start = Key (role_keyword role) ranges; word = w }
    path role {ranges} also named = listed_path (ap (Key (role_keyword role)) (same_class class ranges is.ranges also.ranges (λ c scalar. is.members c scalar ∙ sym (also.members c scalar)))) (sym named)

    to : (s : StartKind) (w : ℕ) → OwnStart g (form.Leaf (leaf.Declare expression)) s → IsNumbered g s w → IsAmong (keyword_keys class) (record { start = s; word = w })
    to s w (own.declare InfixLeft also) named = inl (path InfixLeft also named)
    to s w (own.declare InfixRight also) named = inr (inl (path InfixRight also named))
    to s w (own.declare InfixNone also) named = inr (inr (inl (path InfixNone also named)))
    to s w (own.declare Prefix also) named = inr (inr (inr (inl (path Prefix also named))))
    to s w (own.declare Postfix also) named = inr (inr (inr (inr (inl (path Postfix also named)))))

-- ---- words

-- words whose reserved texts are the same are read alike
pub reads_like : {g : Grammar} {heads rest : List Range} {texts others : List (List ℕ)} {w : ℕ} → SameTexts texts others → ReadsWords g heads rest texts w → ReadsWords g heads rest others w
reads_like same reads = record {
  item = reads.item;
  there = reads.there;
  first_characters = reads.first_characters;
  other_characters = reads.other_characters;
  texts = λ text. reads.texts text ∙ same text;
}

-- the start of words is one as which these texts are reserved, and stands under its number
pub words_reserved : {g : Grammar} {heads rest : List Range} {texts : List (List ℕ)} (listed : ListedStart) → ListsWords g heads rest texts listed
    → (reserved : List (List ℕ)) × (listed.start ≡ Word heads rest reserved) × ReservedAs g heads rest texts reserved × IsListed g listed
words_reserved {g} {heads} {rest} {texts} listed (words.item {w = w} reads first) =
    let inside = slice_get_within g.words w reads.item reads.there in
    let back : SameTexts texts reads.item.reserved = λ text. sym (reads.texts text) in (
      reads.item.reserved,
      refl,
      own.as_item reads first,
      record { none_before = λ v below other. first v below (reads_like reads.texts other); bound = omega arith; reads = λ below. reads_like back reads },
    )
words_reserved {g} {heads} {rest} {texts} listed (words.no_item none) = (
  texts,
  refl,
  own.as_written none,
  record { none_before = λ v below. none v; bound = omega arith; reads = λ below. absurd (omega arith) },
)

-- the texts are reserved as one list alone
pub one_reserved : {g : Grammar} {heads rest : List Range} {texts : List (List ℕ)} (one other : List (List ℕ)) → ReservedAs g heads rest texts one → ReservedAs g heads rest texts other → one ≡ other
one_reserved {g} one other (own.as_item {w = w} reads first) (own.as_item {w = v} also before) =
    elim (cases_order w v) [
      | inl same ↦ ap (λ (item : WordItem). item.reserved) (same_Some reads.item also.item (sym reads.there ∙ (ap (slice_get g.words) same ∙ also.there)))
      | inr differ ↦ elim differ [ inl less ↦ absurd (before w less reads) | inr more ↦ absurd (first v more also) ]
    ]
one_reserved one other (own.as_item {w = w} reads first) (own.as_written none) = absurd (none w reads)
one_reserved one other (own.as_written none) (own.as_item {w = w} reads first) = absurd (none w reads)
one_reserved one other (own.as_written none) (own.as_written also) = refl

-- and the number is one
one_number : {g : Grammar} {heads rest : List Range} {texts : List (List ℕ)} (w v : ℕ) → IsFirstReader g heads rest texts w → IsFirstReader g heads rest texts v → w ≡ v
one_number w v one other =
    elim (cases_order w v) [
      | inl same ↦ same
      | inr differ ↦
          elim differ [
            | inl less ↦ let bound = other.bound in absurd (other.none_before w less (one.reads (omega arith)))
            | inr more ↦ let bound = one.bound in absurd (one.none_before v more (other.reads (omega arith)))
          ]
    ]

words_path : {g : Grammar} {heads rest : List Range} {texts reserved : List (List ℕ)} {w : ℕ} (listed : ListedStart) → ListsWords g heads rest texts listed → ReservedAs g heads rest texts reserved
    → IsFirstReader g heads rest reserved w → listed ≡ record { start = Word heads rest reserved; word = w }
words_path {g} {heads} {rest} {texts} {reserved} {w} listed lists is named =
    let known = words_reserved listed lists in
    let start : listed.start ≡ Word heads rest reserved = known.1 ∙ ap (Word heads rest) (one_reserved known.0 reserved known.2 is) in
    let number : IsFirstReader g heads rest reserved listed.word = subst (λ s. IsNumbered g s listed.word) start known.3 in
    listed_path start (one_number listed.word w number named)

pub word_own : {g : Grammar} {w : ℕ} (item : WordItem) (heads rest : List Range) (listed : ListedStart) → slice_get g.words w ≡ Some item → IsClassOf g item.head heads → IsClassOf g item.rest rest
    → ListsWords g heads rest item.reserved listed → AreOwn g (form.Leaf (leaf.Word w)) (listed ∷ [])
word_own {g} {w} item heads rest listed at first other lists =
    let known = words_reserved listed lists in
    let gives : OwnStart g (form.Leaf (leaf.Word w)) listed.start = subst (OwnStart g (form.Leaf (leaf.Word w))) (sym known.1) (own.word at first other known.2) in
    one_own listed (record { own = gives; named = known.3 }) only
  where
    only : (s : StartKind) (v : ℕ) → OwnStart g (form.Leaf (leaf.Word w)) s → IsNumbered g s v → listed ≡ record { start = s; word = v }
    only s v (own.word {item = also} {heads = h} {rest = r} {reserved = reserved} there begins goes is) named =
        let one : also ≡ item = same_Some also item (sym there ∙ at) in
        let same_heads : h ≡ heads = one_class (subst (λ i. IsClassOf g i.head h) one begins) first in
        let same_rest : r ≡ rest = one_class (subst (λ i. IsClassOf g i.rest r) one goes) other in
        let reserved_so : ReservedAs g heads rest item.reserved reserved =
        subst (λ i. ReservedAs g heads rest i.reserved reserved) one (subst (λ x. ReservedAs g heads x also.reserved reserved) same_rest (subst (λ x. ReservedAs g x r also.reserved reserved) same_heads is)) in
        let numbered : IsFirstReader g heads rest reserved v = subst (λ x. IsFirstReader g heads x reserved v) same_rest (subst (λ x. IsFirstReader g x r reserved v) same_heads named) in
        words_path listed lists reserved_so numbered
        ∙ listed_path (ap (λ x. Word x rest reserved) (sym same_heads) ∙ ap (λ x. Word h x reserved) (sym same_rest)) refl

pub no_word_own : {g : Grammar} {w : ℕ} → ((item : WordItem) → slice_get g.words w ≡ Some item → ⊥) → AreOwn g (form.Leaf (leaf.Word w)) []
no_word_own {g} {w} no_item = none_own none no_plain
  where
    none : (s : StartKind) → OwnStart g (form.Leaf (leaf.Word w)) s → ⊥
    none s (own.word {item = item} there begins goes is) = no_item item there

    no_plain : IsPlain g (form.Leaf (leaf.Word w)) → ⊥
    no_plain (plain.word {item = item} there) = no_item item there
    no_plain (plain.key is) = elim is [ ]

-- ---- operators

no_plain_expression : {g : Grammar} {builders : OperatorBuilders} {term : ℕ} → g.operators ≡ None → IsPlain g (form.Expression builders term) → ⊥
no_plain_expression no_item (plain.key is) = elim is [ ]
no_plain_expression no_item (plain.expression {item = item} there) = none-some item (sym no_item ∙ there)

pub operator_own : {g : Grammar} {builders : OperatorBuilders} {term : ℕ} (item : OperatorsItem) (op : List Range) (listed : ListedStart) → g.operators ≡ Some item → IsClassOf g item.class op
    → ListsWords g op op item.reserved listed → AreOwn g (form.Expression builders term) (listed ∷ [])
operator_own {g} {builders} {term} item op listed at is lists =
    let known = words_reserved listed lists in
    let gives : OwnStart g (form.Expression builders term) listed.start = own.expression (subst (IsOperatorStart g) (sym known.1) (own.operator at is known.2)) in
    one_own listed (record { own = gives; named = known.3 }) only
  where
    from : (s : StartKind) (v : ℕ) → IsOperatorStart g s → IsNumbered g s v → listed ≡ record { start = s; word = v }
    from s v (own.operator {item = also} {op = other} {reserved = reserved} there class reserves) named =
        let one : also ≡ item = same_Some also item (sym there ∙ at) in
        let same : other ≡ op = one_class (subst (λ i. IsClassOf g i.class other) one class) is in
        let reserved_so : ReservedAs g op op item.reserved reserved = subst (λ i. ReservedAs g op op i.reserved reserved) one (subst (λ x. ReservedAs g x x also.reserved reserved) same reserves) in
        let numbered : IsFirstReader g op op reserved v = subst (λ x. IsFirstReader g x x reserved v) same named in
        words_path listed lists reserved_so numbered ∙ listed_path (ap (λ x. Word x x reserved) (sym same)) refl

    only : (s : StartKind) (v : ℕ) → OwnStart g (form.Expression builders term) s → IsNumbered g s v → listed ≡ record { start = s; word = v }
    only s v (own.expression is) named = from s v is named

-- the operator start is one
operator_is : {g : Grammar} (item : OperatorsItem) (op : List Range) (listed : ListedStart) → g.operators ≡ Some item → IsClassOf g item.class op
    → ListsWords g op op item.reserved listed → IsOperatorStart g listed.start
operator_is {g} item op listed at is lists = let known = words_reserved listed lists in subst (IsOperatorStart g) (sym known.1) (own.operator at is known.2)

operator_same : {g : Grammar} (item : OperatorsItem) (op : List Range) (listed : ListedStart) → g.operators ≡ Some item → IsClassOf g item.class op
    → ListsWords g op op item.reserved listed → (s : StartKind) → IsOperatorStart g s → listed.start ≡ s
operator_same {g} item op listed at is lists s (own.operator {item = also} {op = other} {reserved = reserved} there class reserves) =
    let known = words_reserved listed lists in
    let one : also ≡ item = same_Some also item (sym there ∙ at) in
    let same : other ≡ op = one_class (subst (λ i. IsClassOf g i.class other) one class) is in
    let reserved_so : ReservedAs g op op item.reserved reserved = subst (λ i. ReservedAs g op op i.reserved reserved) one (subst (λ x. ReservedAs g x x also.reserved reserved) same reserves) in
    known.1 ∙ (ap (Word op op) (one_reserved known.0 reserved known.2 reserved_so) ∙ ap (λ x. Word x x reserved) (sym same))

-- there is one at most
pub one_operator : {g : Grammar} {s t : StartKind} → IsOperatorStart g s → IsOperatorStart g t → s ≡ t
one_operator {g} (own.operator {item = item} {op = op} {reserved = reserved} at is reads) (own.operator {item = also} {op = other} {reserved = others} there class also_reads) =
    let one : also ≡ item = same_Some also item (sym there ∙ at) in
    let same : other ≡ op = one_class (subst (λ i. IsClassOf g i.class other) one class) is in
    let reserved_so : ReservedAs g op op item.reserved others = subst (λ i. ReservedAs g op op i.reserved others) one (subst (λ x. ReservedAs g x x also.reserved others) same also_reads) in
    ap (Word op op) (one_reserved reserved others reads reserved_so) ∙ ap (λ x. Word x x others) (sym same)

gap_same : {g : Grammar} (item : OperatorsItem) (class : List Range) → g.operators ≡ Some item → IsClassOf g item.gap class → (s : StartKind) → IsGapStart g s → Class class ≡ s
gap_same {g} item class at is s (gap {item = also} {class = other} there belongs) =
    ap Class (one_class is (subst (λ i. IsClassOf g i.gap other) (same_Some also item (sym there ∙ at)) belongs))

pub operator_starts : {g : Grammar} (item : OperatorsItem) (op : List Range) (listed : ListedStart) → g.operators ≡ Some item → IsClassOf g item.class op
    → ListsWords g op op item.reserved listed → (s : StartKind) → IsOperatorStart g s ↔ (listed.start ≡ s)
operator_starts {g} item op listed at is lists s =
    (operator_same item op listed at is lists s, λ same. subst (IsOperatorStart g) same (operator_is item op listed at is lists))

pub gap_starts : {g : Grammar} (item : OperatorsItem) (class : List Range) (start : StartKind) → g.operators ≡ Some item → IsClassOf g item.gap class → start ≡ Class class → (s : StartKind)
    → IsGapStart g s ↔ (start ≡ s)
gap_starts {g} item class start at is e s = (λ h. e ∙ gap_same item class at is s h, λ same. subst (IsGapStart g) (sym e ∙ same) (gap at is))

pub no_operator_own : {g : Grammar} {builders : OperatorBuilders} {term : ℕ} → g.operators ≡ None → AreOwn g (form.Expression builders term) []
no_operator_own {g} {builders} {term} no_item = none_own none (no_plain_expression no_item)
  where
    none : (s : StartKind) → OwnStart g (form.Expression builders term) s → ⊥
    none s (own.expression (own.operator {item = item} there class is)) = none-some item (sym no_item ∙ there)
