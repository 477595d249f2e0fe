-- Where a character, a string, a word or a key stands that a node reads, one of the node's first starts matches.
use Rattle.std.proofs.Common.{◌≡◌, ◌<◌, ◌+◌, inl, inr, ℕ, zero, suc, List, [], ◌∷◌, Bool, true, false, cond, Option, Some, None, slice_get, length, drop, refl, sym, ap, subst, ◌∙◌, arith}
use Rattle.std.specs.Char.{IsScalar}
use Rattle.std.specs.List.{take_while}
use Rattle.std.specs.Str.{all_scalars}
use Rattle.std.proofs.lemmas.Bool.{cases_Bool, and_parts, true≢false}
use Rattle.std.proofs.lemmas.List.Sums.{take_while-cons}
use Rattle.std.proofs.lemmas.Option.{same_Some, slice_get_within}
use Rattle.pg_class.proofs.Unique.{has-first}
use Rattle.pg_class.specs.Ranges.{Range, has}
use Rattle.pg_grammar_form.specs.ClassItems.{has_character}
use Rattle.pg_grammar_value.specs.Grammar.{Grammar, IsGrammar, rule_names, word_names, forms_of}
use Rattle.pg_grammar_form.specs.declared.class.ClassPart.{ClassPart}
use Rattle.pg_grammar_form.specs.declared.form.Form.TheVariants as form
use Rattle.pg_grammar_form.specs.declared.form.Leaf.TheVariants as leaf
use Rattle.pg_grammar_form.specs.declared.form.Around.TheVariants as around
use Rattle.pg_grammar_form.proofs.Each.{none-get}
use Rattle.pg_grammar_form.specs.Forms.{Node, form_of, uses_operators}
use Rattle.pg_grammar_form.specs.Operators.{Operator}
use Rattle.pg_grammar_form.specs.OperatorsItems.{operators_are_used, lacks_operators}
use Rattle.pg_grammar_form.specs.declared.decl.Role.{Role}
use Rattle.pg_grammar_form.specs.declared.decl.Role.TheVariants.{InfixLeft, InfixRight, InfixNone, Prefix, Postfix}
use Rattle.pg_grammar_form.specs.declared.operators_item.OperatorsItem.{OperatorsItem}
use Rattle.pg_grammar_form.specs.declared.used.OperatorBuilders.{OperatorBuilders}
use Rattle.pg_grammar_form.specs.declared.word_item.WordItem.{WordItem}
use Rattle.pg_start.proofs.Meeting.{scalar_at}
use Rattle.pg_text.specs.Texts.{is_among}
use Rattle.pg_start.specs.Prefixes.{run}
use Rattle.pg_start.specs.Starts.{MatchesAt}
use Rattle.pg_start.specs.declared.kind.StartKind.{StartKind}
use Rattle.pg_start.specs.declared.kind.StartKind.TheVariants.{Class, Key, Word}
use Rattle.pg_sets_own.proofs.Owned.{spelled}
use Rattle.pg_sets.specs.First as of
use Rattle.pg_sets_own.specs.Own as plain
use Rattle.pg_sets_own.specs.OwnStarts.{IsClassOf, IsExcludedBy, OwnStart, IsKeyed, ReservedAs, role_keyword}
use Rattle.pg_sets_own.specs.OwnStarts as own
use Rattle.pg_sets.specs.Sets.{Sets, AreSets}
use Rattle.pg_language.specs.Runs.{HasAt, StandsAt, keyword, run_at}
use Rattle.pg_derive.specs.ClosedSets.{SomeMatches, Meets}
use Rattle.pg_derive.specs.LeastSets.{node_sets}
use Rattle.pg_derive.specs.Predictive.{BeginsAt, IsSomeKeywordAt, IsSomeWordAt, StringIsPredictive, TryIsPredictive, of_string, of_key}
use Rattle.pg_derive.proofs.LeastSets.{first_in}

-- ---- characters of a text

pub scalars_after : (text : List ℕ) (i : ℕ) → all_scalars text ≡ true → all_scalars (drop i text) ≡ true
scalars_after text zero s = s
scalars_after [] (suc i) s = s
scalars_after (x ∷ xs) (suc i) s = scalars_after xs i (and_parts _ _ s).1

-- two tests that agree on characters have the same run
pub same_run : (f h : ℕ → Bool) (text : List ℕ) → all_scalars text ≡ true → ((c : ℕ) → IsScalar c → f c ≡ h c) → take_while f text ≡ take_while h text
same_run f h [] s agree = refl
same_run f h (x ∷ xs) s agree =
    let parts = and_parts _ _ s in
    take_while-cons f x xs
    ∙ (ap (λ b. cond b (x ∷ take_while f xs) []) (agree x parts.0)
    ∙ (ap (λ t. cond (h x) (x ∷ t) []) (same_run f h xs parts.1 agree)
    ∙ sym (take_while-cons h x xs)))

-- the texts that are reserved in a start are those of the words
pub same_reserved : {g : Grammar} {heads rest : List Range} {texts reserved : List (List ℕ)} → ReservedAs g heads rest texts reserved → (text : List ℕ) → is_among reserved text ≡ is_among texts text
same_reserved (own.as_item reads first) text = reads.texts text
same_reserved (own.as_written none) text = refl

no_string_is_seq : {text parts : List ℕ} → ◌≡◌ {A = Node} (form.Leaf (leaf.String text)) (form.Seq parts) → ⊥
no_string_is_seq e = absurd cc

-- the keyword is spelled alike in texts and in starts
same_keyword : (role : Role) → keyword role ≡ role_keyword role
same_keyword InfixLeft = refl
same_keyword InfixRight = refl
same_keyword InfixNone = refl
same_keyword Prefix = refl
same_keyword Postfix = refl

keyword_spelled : (role : Role) → 0 < length (role_keyword role)
keyword_spelled InfixLeft = omega arith
keyword_spelled InfixRight = omega arith
keyword_spelled InfixNone = omega arith
keyword_spelled Prefix = omega arith
keyword_spelled Postfix = omega arith

-- whoever reads or declares operators has an operators item
item_used : (g : Grammar) (p : ℕ) (n : Node) → IsGrammar g → slice_get g.nodes p ≡ Some n → uses_operators (form_of (rule_names g) (word_names g) n) ≡ true → (item : OperatorsItem) × (g.operators ≡ Some item)
item_used g p n grammar e uses = go g.operators refl
  where
    none_used : (initials : List Operator) → operators_are_used initials (forms_of g) ≡ false → ⊥
    none_used [] h = true≢false (sym uses ∙ none-get uses_operators (form_of (rule_names g) (word_names g)) g.nodes p n h e)
    none_used (initial ∷ initials) h = true≢false h

    go : (item : Option OperatorsItem) → g.operators ≡ item → (item : OperatorsItem) × (g.operators ≡ Some item)
    go (Some item) h = (item, h)
    go None h = absurd (none_used g.initials (ap (λ o. lacks_operators o g.initials (forms_of g)) (sym h) ∙ grammar.operators_there))

pub item_there : (g : Grammar) (p : ℕ) (class : List ClassPart) → IsGrammar g → slice_get g.nodes p ≡ Some (form.Leaf (leaf.Declare class)) → (item : OperatorsItem) × (g.operators ≡ Some item)
item_there g p class grammar e = item_used g p (form.Leaf (leaf.Declare class)) grammar e refl

pub expression_item : (g : Grammar) (p : ℕ) (builders : OperatorBuilders) (term : ℕ) → IsGrammar g → slice_get g.nodes p ≡ Some (form.Expression builders term) → (item : OperatorsItem) × (g.operators ≡ Some item)
expression_item g p builders term grammar e = item_used g p (form.Expression builders term) grammar e refl

module _ (g : Grammar) (grammar : IsGrammar g) (sets : Sets) (are : AreSets g sets) where
  matched : (p : ℕ) (n : Node) → slice_get g.nodes p ≡ Some n → (s : StartKind) → OwnStart g n s → (text : List ℕ) (place : ℕ) → MatchesAt s text place →
      SomeMatches text ((node_sets g sets).first p) place
  matched p n e s is text place there = record { start = s; among = first_in g sets are p (slice_get_within g.nodes p n e) s (of.own e is); there = there }

  -- a character of a class
  pub satisfy_meets : (p : ℕ) (class : List ClassPart) → slice_get g.nodes p ≡ Some (form.Leaf (leaf.Satisfy class)) → Meets ((node_sets g sets).first p) (λ text place. HasAt g text class place)
  satisfy_meets p class e text scalars place h = let own_start = are.start_sets.plain p (form.Leaf (leaf.Satisfy class)) e plain.satisfy in go own_start.0 own_start.1
    where
      go : (s : StartKind) → OwnStart g (form.Leaf (leaf.Satisfy class)) s → SomeMatches text ((node_sets g sets).first p) place
      go s (own.satisfy {class = ranges} is) =
          matched p (form.Leaf (leaf.Satisfy class)) e (Class ranges) (own.satisfy is) text place
          (record { character = h.character; there = h.there; member = is.members h.character (scalar_at text place h.character scalars h.there) ∙ h.member })

  -- a string
  pub string_fits : (p : ℕ) (s : List ℕ) → slice_get g.nodes p ≡ Some (form.Leaf (leaf.String s)) → StringIsPredictive (node_sets g sets) p s
  string_fits p s e = record { spelled = spelled g p s grammar e; first = λ text scalars place h. go s e text place h }
    where
      go : (s : List ℕ) → slice_get g.nodes p ≡ Some (form.Leaf (leaf.String s)) → (text : List ℕ) (place : ℕ) → BeginsAt text place s → SomeMatches text ((node_sets g sets).first p) place
      go [] e text place h = let none = spelled g p [] grammar e in absurd (omega arith)
      go (c ∷ cs) e text place h =
          let first = h.first in
          let same : c ≡ h.character = cc in
          matched p (form.Leaf (leaf.String (c ∷ cs))) e (Class ((c, c) ∷ [])) own.string text place
          (record { character = c; there = h.there ∙ ap Some (sym same); member = has-first (c, c) [] c (omega arith) (omega arith) })

  -- a word
  pub word_meets : (p w : ℕ) → slice_get g.nodes p ≡ Some (form.Leaf (leaf.Word w)) → Meets ((node_sets g sets).first p) (IsSomeWordAt g w)
  word_meets p w e text scalars place h = let own_start = are.start_sets.plain p (form.Leaf (leaf.Word w)) e (plain.word h.named) in go own_start.0 own_start.1
    where
      go : (s : StartKind) → OwnStart g (form.Leaf (leaf.Word w)) s → SomeMatches text ((node_sets g sets).first p) place
      go s (own.word {item = also} {heads = heads} {rest = rest} {reserved = reserved} at begins goes is) =
          let one : also ≡ h.item = same_Some also h.item (sym at ∙ h.named) in
          let there = h.there in
          let scalar = scalar_at text place there.head scalars there.there in
          let member : has_character g.classes also.head there.head ≡ true = ap (λ (i : WordItem). has_character g.classes i.head there.head) one ∙ there.member in
          let runs : run rest (drop (suc place) text) ≡ run_at g text also.rest (suc place) =
          same_run (has rest) (has_character g.classes also.rest) (drop (suc place) text) (scalars_after text (suc place) scalars) goes.members in
          let whole : there.head ∷ run rest (drop (suc place) text) ≡ h.word =
          ap (λ t. there.head ∷ t) (runs ∙ ap (λ (i : WordItem). run_at g text i.rest (suc place)) one) ∙ sym there.whole in
          let free : is_among also.reserved h.word ≡ false = ap (λ (i : WordItem). is_among i.reserved h.word) one ∙ there.free in
          matched p (form.Leaf (leaf.Word w)) e (Word heads rest reserved) (own.word at begins goes is) text place (record {
            head = there.head;
            there = there.there;
            member = begins.members there.head scalar ∙ member;
            free = ap (is_among reserved) whole ∙ (same_reserved is h.word ∙ free);
          })

  -- the keyword of a declaration
  pub declare_meets : (p : ℕ) (class : List ClassPart) → slice_get g.nodes p ≡ Some (form.Leaf (leaf.Declare class)) → Meets ((node_sets g sets).first p) (IsSomeKeywordAt g class)
  declare_meets p class e text scalars place h = let own_start = are.start_sets.plain p (form.Leaf (leaf.Declare class)) e plain.declare in go own_start.0 own_start.1
    where
      ends : {ranges : List Range} → IsExcludedBy g class ranges → (c : ℕ) → slice_get text (place + length (role_keyword h.role)) ≡ Some c → has ranges c ≡ false
      ends is c at =
          let there = h.there in
          is.members c (scalar_at text (place + length (role_keyword h.role)) c scalars at)
          ∙ there.ends c (ap (λ (word : List ℕ). slice_get text (place + length word)) (same_keyword h.role) ∙ at)

      go : (s : StartKind) → OwnStart g (form.Leaf (leaf.Declare class)) s → SomeMatches text ((node_sets g sets).first p) place
      go s (own.declare {class = ranges} role is) =
          matched p (form.Leaf (leaf.Declare class)) e (Key (role_keyword h.role) ranges) (own.declare h.role is) text place (record {
            spelled = keyword_spelled h.role;
            there = subst (StandsAt text place) (same_keyword h.role) (let there = h.there in there.begins);
            ends = ends is;
          })

  -- ---- tries that give keys

  pub string_try : (p q : ℕ) (s : List ℕ) → slice_get g.nodes p ≡ Some (form.Around around.Try q) → slice_get g.nodes q ≡ Some (form.Leaf (leaf.String s)) →
      (node_sets g sets).level q < (node_sets g sets).level p → TryIsPredictive g (node_sets g sets) p q
  string_try p q s e f falls = of_string f (spelled g q s grammar f) falls meets
    where
      meets : Meets ((node_sets g sets).first p) (λ text place. StandsAt text place s)
      meets text scalars place h = matched p (form.Around around.Try q) e (Key s []) (own.key f) text place (record { spelled = spelled g q s grammar f; there = h; ends = λ c at. refl })

  key_meets : (p q : ℕ) (s : List ℕ) (excluded : List ClassPart) (class : List Range) → slice_get g.nodes p ≡ Some (form.Around around.Try q) → IsKeyed g q s excluded → IsClassOf g excluded class →
      0 < length s → Meets ((node_sets g sets).first p) (λ text place. StandsAt text place s × (HasAt g text excluded (place + length s) → ⊥))
  key_meets p q s excluded class e keyed is long text scalars place h =
      matched p (form.Around around.Try q) e (Key s class) (own.key_that_ends keyed is) text place (record { spelled = long; there = h.0; ends = ends })
    where
      ends : (c : ℕ) → slice_get text (place + length s) ≡ Some c → has class c ≡ false
      ends c at =
          elim (cases_Bool (has_character g.classes excluded c)) [
            | inl member ↦ absurd (h.1 (record { character = c; there = at; member = member }))
            | inr not ↦ is.members c (scalar_at text (place + length s) c scalars at) ∙ not
          ]

  pub key_try : (p q : ℕ) (s : List ℕ) (excluded : List ClassPart) → slice_get g.nodes p ≡ Some (form.Around around.Try q) → IsKeyed g q s excluded →
      (node_sets g sets).level q < (node_sets g sets).level p → TryIsPredictive g (node_sets g sets) p q
  key_try p q s excluded e keyed falls = let own_start = are.start_sets.plain p (form.Around around.Try q) e (plain.key (own.keyed keyed)) in go own_start.0 own_start.1
    where
      go : (start : StartKind) → OwnStart g (form.Around around.Try q) start → TryIsPredictive g (node_sets g sets) p q
      go start (own.key {characters = text} at) = absurd (no_string_is_seq (same_Some (form.Leaf (leaf.String text)) (form.Seq (keyed.first ∷ keyed.second ∷ [])) (sym at ∙ keyed.both)))
      go start (own.key_that_ends {characters = key} {excluded = class} {class = ranges} is members) =
          let long = spelled g is.first key grammar is.string in
          of_key is.both is.string is.ends long falls (key_meets p q key class ranges e is members long)
