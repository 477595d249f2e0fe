-- Items that are handed to a maker one by one, as the code goes through them.
use Rattle.std.proofs.Common.{◌≡◌, ◌<◌, ◌≤◌, ◌+◌, ℕ, zero, suc, List, [], ◌∷◌, ◌++◌, length, get_or, map, take, drop, None, refl, sym, ap, subst, ◌∙◌, arith}
use Rattle.std.proofs.lemmas.List.{append-nil, length-map, map_push, take_all, take_more}
use Rattle.std.specs.List.{AllByRecursion}
use Rattle.pg_pred.specs.Offer.{Offer}
use Rattle.pg_grammar_form.specs.Forms.{form_of}
use Rattle.pg_grammar_value.specs.Grammar.{Grammar, rule_names, word_names}
use Rattle.pg_grammar.specs.Made.{Made, nothing_made, Says, finish_fault}
use Rattle.pg_grammar.proofs.Unique.{same_grammar}
use Rattle.pg_file_items.specs.declared.item.Item as declared
use Rattle.pg_file_items.specs.Tree.{Item}
use Rattle.pg_file_items.specs.Proper.{IsProperItem}
use Rattle.pg_file_items.specs.Heads.{entry_of_item}
use Rattle.pg_file_items.specs.Entries.{Entry, entry_of, entries_of}
use Rattle.pg_file_items.specs.Joined.{joined}
use Rattle.pg_file_items.proofs.ItemLemmas.Joined.{joined_push}
use Rattle.pg_file_meaning.specs.Spans.{Spans}
use Rattle.pg_file_making.specs.Spans.{item_spans, items_spans}
use Rattle.pg_file_making.specs.Making.{with_entry, with_entries, MayFollow, EntriesAreInOrder, LeadsNowhere, IsProperEntry, IsGrammarOfEntries}
use Rattle.pg_file_making.proofs.MakingLemmas.Finished.{said_no_fault}

-- ---- the item that is next

-- it is a proper one
pub proper_next : (items : List declared.Item) (trees : List Item) (i : ℕ) (item : declared.Item) → AllByRecursion IsProperItem trees
    → entries_of items ≡ map entry_of_item trees → i < length items → item ≡ get_or items i item → IsProperEntry (entry_of item)
proper_next [] trees i item proper e below is = absurd (omega arith)
proper_next (first ∷ items) [] i item proper e below is = absurd cc
proper_next (first ∷ items) (tree ∷ trees) zero item proper e below is =
    let same : entry_of first ≡ entry_of_item tree = cc in
    record { item = tree; proper = proper.0; meant = ap entry_of is ∙ same }
proper_next (first ∷ items) (tree ∷ trees) (suc i) item proper e below is =
    let rest : entries_of items ≡ map entry_of_item trees = cc in
    let fewer : i < length items = omega arith in
    proper_next items trees i item proper.1 rest fewer is

-- it stands between those that were handed in and the others
parted : (items : List declared.Item) (i : ℕ) (item : declared.Item) → i < length items → item ≡ get_or items i item
    → entries_of items ≡ entries_of (take i items) ++ entry_of item ∷ entries_of (drop (suc i) items)
parted [] i item below is = absurd (omega arith)
parted (first ∷ items) zero item below is = ap (λ x. entry_of x ∷ entries_of items) (sym is)
parted (first ∷ items) (suc i) item below is =
    let fewer : i < length items = omega arith in
    ap (λ entries. entry_of first ∷ entries) (parted items i item fewer is)

-- those that are handed in with it
next_handed : (items : List declared.Item) (i : ℕ) (item : declared.Item) → i < length items → item ≡ get_or items i item
    → entries_of (take (i + 1) items) ≡ entries_of (take i items) ++ entry_of item ∷ []
next_handed items i item below is =
    let more : take (i + 1) items ≡ take i items ++ item ∷ [] = take_more items i item below ∙ ap (λ x. take i items ++ x ∷ []) (sym is) in
    ap entries_of more ∙ map_push entry_of (take i items) item

-- ---- items after one another

with_more : (offer : Offer) (made : Made) (front : List Entry) (entry : Entry)
    → with_entries offer made (front ++ entry ∷ []) ≡ with_entry offer (with_entries offer made front) entry
with_more offer made [] entry = refl
with_more offer made (first ∷ front) entry = with_more offer (with_entry offer made first) front entry

more_in_order : (offer : Offer) (made : Made) (front : List Entry) (entry : Entry) → EntriesAreInOrder offer made front
    → MayFollow offer (with_entries offer made front) entry → EntriesAreInOrder offer made (front ++ entry ∷ [])
more_in_order offer made [] entry h may = (may, tt)
more_in_order offer made (first ∷ front) entry h may = (h.0, more_in_order offer (with_entry offer made first) front entry h.1 may)

-- an entry that leads nowhere stands in no grammar
stands_nowhere : (offer : Offer) (made : Made) (front after : List Entry) (entry : Entry) (g : Grammar)
    → LeadsNowhere offer (with_entries offer made front) entry → EntriesAreInOrder offer made (front ++ entry ∷ after)
    → Says (with_entries offer made (front ++ entry ∷ after)) g → ⊥
stands_nowhere offer made [] after entry g nowhere ordered says = nowhere after g ordered.0 says
stands_nowhere offer made (first ∷ front) after entry g nowhere ordered says =
    stands_nowhere offer (with_entry offer made first) front after entry g nowhere ordered.1 says

-- ---- what was handed in

-- what was made of these entries, each of which may follow those before it
pub record AreHanded (offer : Offer) (entries : List Entry) (made : Made) : Type 0 where
  pub made_is : made ≡ with_entries offer nothing_made entries
  pub ordered : EntriesAreInOrder offer nothing_made entries

-- and of one more
pub hand_next : (offer : Offer) (items : List declared.Item) (i : ℕ) (item : declared.Item) (made next : Made)
    → i < length items → item ≡ get_or items i item → AreHanded offer (entries_of (take i items)) made
    → MayFollow offer made (entry_of item) → next ≡ with_entry offer made (entry_of item) → AreHanded offer (entries_of (take (i + 1) items)) next
hand_next offer items i item made next below is handed may made_next =
    let front = entries_of (take i items) in
    let entry = entry_of item in
    let follows = subst (λ m. MayFollow offer m entry) handed.made_is may in
    subst (λ entries. AreHanded offer entries next) (sym (next_handed items i item below is)) (record {
      made_is = made_next ∙ ap (λ m. with_entry offer m entry) handed.made_is ∙ sym (with_more offer nothing_made front entry);
      ordered = more_in_order offer nothing_made front entry handed.ordered follows;
    })

-- an item that leads nowhere isn't in a grammar
pub next_nowhere : (offer : Offer) (items : List declared.Item) (i : ℕ) (item : declared.Item) (made : Made) (g : Grammar)
    → i < length items → item ≡ get_or items i item → AreHanded offer (entries_of (take i items)) made
    → LeadsNowhere offer made (entry_of item) → IsGrammarOfEntries offer (entries_of items) g → ⊥
next_nowhere offer items i item made g below is handed nowhere grammar =
    let entry = entry_of item in
    let all = parted items i item below is in
    let stuck = subst (λ m. LeadsNowhere offer m entry) handed.made_is nowhere in
    let ordered = subst (EntriesAreInOrder offer nothing_made) all grammar.ordered in
    let says = subst (λ entries. Says (with_entries offer nothing_made entries) g) all grammar.says in
    stands_nowhere offer nothing_made (entries_of (take i items)) (entries_of (drop (suc i) items)) entry g stuck ordered says

-- ---- the end

-- after the last item all are handed in
pub all_handed : (offer : Offer) (items : List declared.Item) (i : ℕ) (made : Made) → length items ≤ i
    → AreHanded offer (entries_of (take i items)) made → AreHanded offer (entries_of items) made
all_handed offer items i made end handed = subst (λ xs. AreHanded offer (entries_of xs) made) (take_all i items end) handed

-- what makes a grammar can be finished
pub grammar_no_fault : (offer : Offer) (entries : List Entry) (made : Made) (g : Grammar) → AreHanded offer entries made
    → IsGrammarOfEntries offer entries g → finish_fault made ≡ None
grammar_no_fault offer entries made g handed grammar = said_no_fault made g (subst (λ m. Says m g) (sym handed.made_is) grammar.says)

-- there is one grammar of what was handed in
pub only_grammar : (offer : Offer) (entries : List Entry) (made : Made) (g other : Grammar) → AreHanded offer entries made → Says made g
    → IsGrammarOfEntries offer entries other → other ≡ g
only_grammar offer entries made g other handed says grammar =
    same_grammar made other g (subst (λ m. Says m other) (sym handed.made_is) grammar.says) says

-- it has as many nodes as base forms were handed in
pub said_nodes : (made : Made) (g : Grammar) → Says made g → length made.forms ≡ length g.nodes
said_nodes made g says = ap length says.forms ∙ length-map g.nodes (form_of (rule_names g) (word_names g))

-- ---- the spans of what was handed in

pub no_more_spans : (spans : Spans) → spans ≡ spans ++ []
no_more_spans spans = sym (append-nil spans)

-- those of one item more
pub spans_next : (items : List declared.Item) (i : ℕ) (item : declared.Item) (spans next : Spans) → i < length items → item ≡ get_or items i item
    → spans ≡ items_spans (take i items) → next ≡ spans ++ item_spans item → next ≡ items_spans (take (i + 1) items)
spans_next items i item spans next below is h e =
    let more : take (i + 1) items ≡ take i items ++ item ∷ [] = take_more items i item below ∙ ap (λ x. take i items ++ x ∷ []) (sym is) in
    e ∙ ap (λ (xs : Spans). xs ++ item_spans item) h ∙ sym (joined_push (map item_spans (take i items)) (item_spans item))
    ∙ ap (λ (all : List Spans). joined all) (sym (map_push item_spans (take i items) item)) ∙ ap items_spans (sym more)

-- after the last item
pub all_spans_noted : (items : List declared.Item) (i : ℕ) (spans : Spans) → length items ≤ i → spans ≡ items_spans (take i items) → spans ≡ items_spans items
all_spans_noted items i spans end h = h ∙ ap items_spans (take_all i items end)
