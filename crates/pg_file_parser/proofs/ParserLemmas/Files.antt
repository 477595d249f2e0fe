-- The items of a whole file that are read are written so, and those that are written are read.
use Rattle.std.proofs.Common.{◌≡◌, ℕ, zero, suc, ◌&&◌, ◌+◌, ◌-◌, ◌<◌, ◌≤◌, leb, leb-true, le-leb, List, [], ◌∷◌, ◌++◌, length, map, Option, Some, None, refl, sym, ap, subst, ◌∙◌, append_assoc, arith}
use Rattle.std.proofs.lemmas.Bool.{and_parts, and_from}
use Rattle.std.proofs.lemmas.List.{append-nil}
use Rattle.std.specs.Prelude.{codes}
use Rattle.std.specs.List.{AllByRecursion}
use Rattle.pg_file_tokens.specs.declared.token.Mark.TheVariants.{Semicolon}
use Rattle.pg_file_parser.specs.declared.allowance.Allowance.{Allowance}
use Rattle.pg_file_parser.specs.declared.error.SyntaxError.{SyntaxError}
use Rattle.pg_file_parser.specs.declared.error.SyntaxError.TheVariants.{Memory, Fault}
use Rattle.pg_file_tokens.specs.Tokens.{Token, name, mark}
use Rattle.pg_file_items.specs.Tree.{Item, Class_item, Word_item, Operators, Table, Start, Rule_item}
use Rattle.pg_file_items.specs.Syntax.{class_written, reserved_written, literals_written, most_written, item_written, file_written}
use Rattle.pg_file_items.specs.Proper.{IsProperItem}
use Rattle.pg_file_items.specs.Heads.{entry_of_item}
use Rattle.pg_file_items.specs.Entries as entry
use Rattle.pg_file_items.specs.Entries.{Entry}
use Rattle.pg_file_items.specs.Sizes.{counted, body_size}
use Rattle.pg_file_parser.specs.Limits.{class_count, word_count, rule_count, node_count, KeepWithin, full_allowance, allowance_after}
use Rattle.pg_file_parser.specs.Given.{Fails}
use Rattle.pg_file_items.specs.Depth.{IsShallow}
use Rattle.pg_file_parser.specs.Items.{AreItems, OnlyItems, FaultyItems}
use Rattle.pg_file_parser.specs.Reading.{◌>>=◌, mark_at}
use Rattle.pg_file_parser.specs.ItemReading.{item_at, end_at, turn_at, items_with, items_at, file_at}
use Rattle.pg_file_parser.proofs.ParserLemmas.Steps.{bind_some, some_is, guard_some, mark_is}
use Rattle.pg_file_parser.proofs.ParserLemmas.Classes.{longer_class}
use Rattle.pg_file_parser.proofs.ParserLemmas.ValuesFound.{longer}
use Rattle.pg_file_parser.proofs.ParserLemmas.Items.{IsItem, item_sound}
use Rattle.pg_file_parser.proofs.ParserLemmas.ItemsFound.{item_complete}

-- ---- room

allowance_taken : (allowance left : Allowance) (e : Entry) (es : List Entry) → allowance_after allowance e ≡ Some left → KeepWithin left es → KeepWithin allowance (e ∷ es)
allowance_taken allowance left (entry.class s parts) es r h =
    let taken : Allowance = record { classes = allowance.classes - 1; words = allowance.words; rules = allowance.rules; nodes = allowance.nodes } in
    let g = guard_some (leb 1 allowance.classes) (Some taken) left r in
    let q : taken ≡ left = some_is taken left g.1 in
    let k : KeepWithin taken es = subst (λ (r : Allowance). KeepWithin r es) (sym q) h in
    let one : 1 ≤ allowance.classes = leb-true 1 allowance.classes g.0 in
    let few : suc (class_count es) ≤ allowance.classes = omega (arith, one, k.few_classes) in
    record { few_classes = few; few_words = k.few_words; few_rules = k.few_rules; few_nodes = k.few_nodes }
allowance_taken allowance left (entry.word s heads after reserved) es r h =
    let taken : Allowance = record { classes = allowance.classes; words = allowance.words - 1; rules = allowance.rules; nodes = allowance.nodes } in
    let g = guard_some (leb 1 allowance.words) (Some taken) left r in
    let q : taken ≡ left = some_is taken left g.1 in
    let k : KeepWithin taken es = subst (λ (r : Allowance). KeepWithin r es) (sym q) h in
    let one : 1 ≤ allowance.words = leb-true 1 allowance.words g.0 in
    let few : suc (word_count es) ≤ allowance.words = omega (arith, one, k.few_words) in
    record { few_classes = k.few_classes; few_words = few; few_rules = k.few_rules; few_nodes = k.few_nodes }
allowance_taken allowance left (entry.operators parts gap reserved most) es r h =
    let k : KeepWithin allowance es = subst (λ (r : Allowance). KeepWithin r es) (sym (some_is allowance left r)) h in
    record { few_classes = k.few_classes; few_words = k.few_words; few_rules = k.few_rules; few_nodes = k.few_nodes }
allowance_taken allowance left (entry.table role precedence symbol) es r h =
    let k : KeepWithin allowance es = subst (λ (r : Allowance). KeepWithin r es) (sym (some_is allowance left r)) h in
    record { few_classes = k.few_classes; few_words = k.few_words; few_rules = k.few_rules; few_nodes = k.few_nodes }
allowance_taken allowance left (entry.start s) es r h =
    let k : KeepWithin allowance es = subst (λ (r : Allowance). KeepWithin r es) (sym (some_is allowance left r)) h in
    record { few_classes = k.few_classes; few_words = k.few_words; few_rules = k.few_rules; few_nodes = k.few_nodes }
allowance_taken allowance left (entry.rule s body) es r h =
    let size = counted (body_size body) in
    let taken : Allowance = record { classes = allowance.classes; words = allowance.words; rules = allowance.rules - 1; nodes = allowance.nodes - size } in
    let g = guard_some (leb 1 allowance.rules && leb size allowance.nodes) (Some taken) left r in
    let q : taken ≡ left = some_is taken left g.1 in
    let k : KeepWithin taken es = subst (λ (r : Allowance). KeepWithin r es) (sym q) h in
    let b = and_parts (leb 1 allowance.rules) (leb size allowance.nodes) g.0 in
    let one : 1 ≤ allowance.rules = leb-true 1 allowance.rules b.0 in
    let there : size ≤ allowance.nodes = leb-true size allowance.nodes b.1 in
    let few : suc (rule_count es) ≤ allowance.rules = omega (arith, one, k.few_rules) in
    let nodes : size + node_count es ≤ allowance.nodes = omega (arith, there, k.few_nodes) in
    record { few_classes = k.few_classes; few_words = k.few_words; few_rules = few; few_nodes = nodes }

-- the room after an item that there is room for
record Left (allowance : Allowance) (e : Entry) (es : List Entry) : Type 0 where
  left : Allowance
  is : allowance_after allowance e ≡ Some left
  keep : KeepWithin left es

allowance_found : (allowance : Allowance) (e : Entry) (es : List Entry) → KeepWithin allowance (e ∷ es) → Left allowance e es
allowance_found allowance (entry.class s parts) es h =
    let one : 1 ≤ allowance.classes = omega (arith, h.few_classes) in
    let few : class_count es ≤ allowance.classes - 1 = omega (arith, h.few_classes) in
    record {
      left = record { classes = allowance.classes - 1; words = allowance.words; rules = allowance.rules; nodes = allowance.nodes };
      is = rw (le-leb 1 allowance.classes one) refl;
      keep = record { few_classes = few; few_words = h.few_words; few_rules = h.few_rules; few_nodes = h.few_nodes };
    }
allowance_found allowance (entry.word s heads after reserved) es h =
    let one : 1 ≤ allowance.words = omega (arith, h.few_words) in
    let few : word_count es ≤ allowance.words - 1 = omega (arith, h.few_words) in
    record {
      left = record { classes = allowance.classes; words = allowance.words - 1; rules = allowance.rules; nodes = allowance.nodes };
      is = rw (le-leb 1 allowance.words one) refl;
      keep = record { few_classes = h.few_classes; few_words = few; few_rules = h.few_rules; few_nodes = h.few_nodes };
    }
allowance_found allowance (entry.operators parts gap reserved most) es h =
    record { left = allowance; is = refl; keep = record { few_classes = h.few_classes; few_words = h.few_words; few_rules = h.few_rules; few_nodes = h.few_nodes } }
allowance_found allowance (entry.table role precedence symbol) es h =
    record { left = allowance; is = refl; keep = record { few_classes = h.few_classes; few_words = h.few_words; few_rules = h.few_rules; few_nodes = h.few_nodes } }
allowance_found allowance (entry.start s) es h =
    record { left = allowance; is = refl; keep = record { few_classes = h.few_classes; few_words = h.few_words; few_rules = h.few_rules; few_nodes = h.few_nodes } }
allowance_found allowance (entry.rule s body) es h =
    let size = counted (body_size body) in
    let one : 1 ≤ allowance.rules = omega (arith, h.few_rules) in
    let there : size ≤ allowance.nodes = omega (arith, h.few_nodes) in
    let few : rule_count es ≤ allowance.rules - 1 = omega (arith, h.few_rules) in
    let nodes : node_count es ≤ allowance.nodes - size = omega (arith, h.few_nodes) in
    record {
      left = record { classes = allowance.classes; words = allowance.words; rules = allowance.rules - 1; nodes = allowance.nodes - size };
      is = rw (and_from (leb 1 allowance.rules) (leb size allowance.nodes) (le-leb 1 allowance.rules one) (le-leb size allowance.nodes there)) refl;
      keep = record { few_classes = h.few_classes; few_words = h.few_words; few_rules = few; few_nodes = nodes };
    }

-- ---- what is written takes tokens

longer_literals : (texts : List (List ℕ)) (rest : List Token) → length rest ≤ length (literals_written texts rest)
longer_literals [] rest = omega arith
longer_literals (s ∷ texts) rest = omega (arith, longer_literals texts rest)

longer_reserved : (texts : List (List ℕ)) (rest : List Token) → length rest ≤ length (reserved_written texts rest)
longer_reserved [] rest = omega arith
longer_reserved (s ∷ texts) rest = omega (arith, longer_literals texts rest)

longer_most : (most : Option (List ℕ)) (rest : List Token) → length rest ≤ length (most_written most rest)
longer_most None rest = omega arith
longer_most (Some digits) rest = omega arith

longer_item : (item : Item) (rest : List Token) → length rest < length (item_written item rest)
longer_item (Class_item s c) rest = omega (arith, longer_class c (mark Semicolon ∷ rest))
longer_item (Word_item s h c texts) rest =
    let end = reserved_written texts (mark Semicolon ∷ rest) in
    let a = longer_reserved texts (mark Semicolon ∷ rest) in
    let b = longer_class c end in
    let d = longer_class h (name (codes "rest") ∷ class_written c end) in
    omega (arith, a, b, d)
longer_item (Operators c g texts most) rest =
    let end = most_written most (mark Semicolon ∷ rest) in
    let a = longer_most most (mark Semicolon ∷ rest) in
    let b = longer_reserved texts end in
    let d = longer_class g (reserved_written texts end) in
    let f = longer_class c (name (codes "gap") ∷ class_written g (reserved_written texts end)) in
    omega (arith, a, b, d, f)
longer_item (Table role precedence symbol) rest = omega arith
longer_item (Start s) rest = omega arith
longer_item (Rule_item s v) rest = omega (arith, longer v (mark Semicolon ∷ rest))

-- ---- turns

-- what a turn reads
record IsTurn (allowance : Allowance) (ts : List Token) (x : (Entry × Allowance) × List Token) : Type 0 where
  item : IsItem ts x.0.0 x.1
  allowance_left : allowance_after allowance x.0.0 ≡ Some x.0.1

turn_sound : (allowance : Allowance) (ts : List Token) (x : (Entry × Allowance) × List Token) → turn_at allowance ts ≡ Some x → IsTurn allowance ts x
turn_sound allowance ts x e =
    let a = bind_some (item_at ts) (λ i. end_at allowance i.0 i.1 >>= λ left. Some ((i.0, left.0), left.1)) x e in
    let f = bind_some (end_at allowance a.0.0 a.0.1) (λ left. Some ((a.0.0, left.0), left.1)) x a.2 in
    let b = bind_some (mark_at Semicolon a.0.1) (λ rest. allowance_after allowance a.0.0 >>= λ left. Some (left, rest)) f.0 f.1 in
    let d = bind_some (allowance_after allowance a.0.0) (λ left. Some (left, b.0)) f.0 b.2 in
    let end = ap (λ (left : Allowance × List Token). ((a.0.0, left.0), left.1)) (some_is (d.0, b.0) f.0 d.2) in
    subst (IsTurn allowance ts) (end ∙ some_is ((a.0.0, f.0.0), f.0.1) x f.2) (record {
      item = item_sound ts b.0 a.0 a.1 (mark_is Semicolon a.0.1 b.0 b.1);
      allowance_left = d.1;
    })

pub turn_shorter : (allowance : Allowance) (ts : List Token) (x : (Entry × Allowance) × List Token) → turn_at allowance ts ≡ Some x → length x.1 < length ts
turn_shorter allowance ts x e = let t = turn_sound allowance ts x e in rw t.item.text (longer_item t.item.item x.1)

-- items after a first one, if there are tokens
turn_first : (n : ℕ) (allowance : Allowance) (ts : List Token) → 0 < length ts → items_at (suc n) allowance ts ≡ items_with (items_at n) allowance ts
unfolding items_at
turn_first n allowance [] h = absurd (omega (arith, h))
turn_first n allowance (t ∷ ts) h = refl

-- ---- files that are read

record ReadItems (allowance : Allowance) (ts : List Token) (es : List Entry) : Type 0 where
  items : List Item
  text : ts ≡ file_written items
  means : es ≡ map entry_of_item items
  proper : AllByRecursion IsProperItem items
  shallow : AllByRecursion IsShallow items
  few : KeepWithin allowance es

no_items : (allowance : Allowance) → KeepWithin allowance []
no_items allowance =
    let a : 0 ≤ allowance.classes = omega arith in
    let b : 0 ≤ allowance.words = omega arith in
    let c : 0 ≤ allowance.rules = omega arith in
    let d : 0 ≤ allowance.nodes = omega arith in
    record { few_classes = a; few_words = b; few_rules = c; few_nodes = d }

items_sound : (n : ℕ) (allowance : Allowance) (ts : List Token) (es : List Entry) → items_at n allowance ts ≡ Some es → ReadItems allowance ts es
unfolding items_at
items_sound n allowance [] es e =
    subst (ReadItems allowance []) (some_is [] es e) (record { items = []; text = refl; means = refl; proper = tt; shallow = tt; few = no_items allowance })
items_sound zero allowance (t ∷ ts) es e = absurd cc
items_sound (suc n) allowance (t ∷ ts) es e =
    let a = bind_some (turn_at allowance (t ∷ ts)) (λ turn. items_at n turn.0.1 turn.1 >>= λ entries. Some (turn.0.0 ∷ entries)) es e in
    let b = bind_some (items_at n a.0.0.1 a.0.1) (λ entries. Some (a.0.0.0 ∷ entries)) es a.2 in
    let turn = turn_sound allowance (t ∷ ts) a.0 a.1 in
    let ih = items_sound n a.0.0.1 a.0.1 b.0 b.1 in
    subst (ReadItems allowance (t ∷ ts)) (some_is (a.0.0.0 ∷ b.0) es b.2) (record {
      items = turn.item.item ∷ ih.items;
      text = turn.item.text ∙ ap (item_written turn.item.item) ih.text;
      means = ap (λ (e : Entry). e ∷ b.0) turn.item.means ∙ ap (λ (l : List Entry). entry_of_item turn.item.item ∷ l) ih.means;
      proper = (turn.item.proper, ih.proper);
      shallow = (turn.item.shallow, ih.shallow);
      few = allowance_taken allowance a.0.0.1 a.0.0.0 b.0 turn.allowance_left ih.few;
    })

file_sound : (ts : List Token) (es : List Entry) → file_at ts ≡ Some es → AreItems ts es
file_sound ts es e =
    let r = items_sound (length ts) full_allowance ts es e in
    record { items = r.items; written = r.text; proper = r.proper; shallow = r.shallow; few = subst (KeepWithin full_allowance) r.means r.few; meant = r.means }

-- ---- files that are written

items_complete : (items : List Item) (n : ℕ) (allowance : Allowance) → AllByRecursion IsProperItem items → AllByRecursion IsShallow items → KeepWithin allowance (map entry_of_item items) → length (file_written items) ≤ n
    → items_at n allowance (file_written items) ≡ Some (map entry_of_item items)
unfolding items_at
items_complete [] n allowance p d k le = refl
items_complete (item ∷ items) zero allowance p d k le = absurd (omega (arith, le, longer_item item (file_written items)))
items_complete (item ∷ items) (suc n) allowance p d k le =
    let rest = file_written items in
    let longer = longer_item item rest in
    let some : 0 < length (item_written item rest) = omega (arith, longer) in
    let enough : length rest ≤ n = omega (arith, le, longer) in
    let r = allowance_found allowance (entry_of_item item) (map entry_of_item items) k in
    let ih = items_complete items n r.left p.1 d.1 r.keep enough in
    turn_first n allowance (item_written item rest) some ∙ rw (item_complete item rest p.0 d.0, r.is, ih) refl

pub file_complete : (ts : List Token) (es : List Entry) → AreItems ts es → file_at ts ≡ Some es
file_complete ts es h =
    let enough : length (file_written h.items) ≤ length (file_written h.items) = omega arith in
    ap (λ (us : List Token). file_at us) h.written ∙ items_complete h.items (length (file_written h.items)) full_allowance h.proper h.shallow h.few enough ∙ ap (λ (l : List Entry). Some l) (sym h.meant)

-- ---- the contract of the reader

pub are_items : (ts : List Token) (es : List Entry) → file_at ts ≡ Some es → AreItems ts es
are_items ts es e = file_sound ts es e

pub only_items : (ts : List Token) (es : List Entry) → file_at ts ≡ Some es → OnlyItems ts es
only_items ts es e others h = some_is es others (sym e ∙ file_complete ts others h)

pub faulty_items : (ts : List Token) (e : SyntaxError) → Fails e (file_at ts) → FaultyItems ts e
faulty_items ts Memory f fault es h = absurd fault
faulty_items ts (Fault kind place) f fault es h = let q : Some es ≡ None = sym (file_complete ts es h) ∙ f in absurd cc

-- ---- the loop over the items

-- what was read before, and what is still read
abbrev with_before : List Entry → Option (List Entry) → Option (List Entry)
with_before front read = read >>= λ es. Some (front ++ es)

-- the items before ts were read, and those from there on make up the total
pub record ItemsLeft (allowance : Allowance) (ts : List Token) (front : List Entry) (total : Option (List Entry)) : Type 0 where
  pub most : ℕ
  pub enough : length ts ≤ most
  pub so_far : with_before front (items_at most allowance ts) ≡ total

none_before : (read : Option (List Entry)) → with_before [] read ≡ read
none_before (Some es) = refl
none_before None = refl

regroup : (front : List Entry) (e : Entry) (read : Option (List Entry)) → with_before front (read >>= λ es. Some (e ∷ es)) ≡ with_before (front ++ e ∷ []) read
regroup front e (Some es) = ap (λ (l : List Entry). Some l) (simp append_assoc)
regroup front e None = refl

more_from : (allowance : Allowance) (ts : List Token) (front : List Entry) (total : Option (List Entry)) (e : Entry) (left : Allowance) (rest : List Token) → turn_at allowance ts ≡ Some ((e, left), rest)
    → (most : ℕ) → length ts ≤ most → with_before front (items_at most allowance ts) ≡ total → ItemsLeft left rest (front ++ e ∷ []) total
more_from allowance ts front total e left rest t zero h s = absurd (omega (arith, h, turn_shorter allowance ts ((e, left), rest) t))
more_from allowance ts front total e left rest t (suc n) h s =
    let shorter = turn_shorter allowance ts ((e, left), rest) t in
    let some : 0 < length ts = omega (arith, shorter) in
    let enough : length rest ≤ n = omega (arith, h, shorter) in
    let turn : items_with (items_at n) allowance ts ≡ (items_at n left rest >>= λ es. Some (e ∷ es)) = rw t refl in
    let one : with_before front (items_at (suc n) allowance ts) ≡ with_before (front ++ e ∷ []) (items_at n left rest) =
    ap (with_before front) (turn_first n allowance ts some ∙ turn) ∙ regroup front e (items_at n left rest) in
    record { most = n; enough = enough; so_far = sym one ∙ s }

-- one item more is read
pub one_more : (allowance : Allowance) (ts : List Token) (front : List Entry) (total : Option (List Entry)) (e : Entry) (left : Allowance) (rest : List Token) → turn_at allowance ts ≡ Some ((e, left), rest)
    → ItemsLeft allowance ts front total → ItemsLeft left rest (front ++ e ∷ []) total
one_more allowance ts front total e left rest t h = more_from allowance ts front total e left rest t h.most h.enough h.so_far

none_from : (allowance : Allowance) (ts : List Token) (front : List Entry) (total : Option (List Entry)) → 0 < length ts → turn_at allowance ts ≡ None
    → (most : ℕ) → length ts ≤ most → with_before front (items_at most allowance ts) ≡ total → total ≡ None
none_from allowance ts front total some t zero h s = absurd (omega (arith, h, some))
none_from allowance ts front total some t (suc n) h s =
    let turn : items_with (items_at n) allowance ts ≡ None = rw t refl in
    sym s ∙ ap (with_before front) (turn_first n allowance ts some ∙ turn)

-- an item can't be read
pub no_more : (allowance : Allowance) (ts : List Token) (front : List Entry) (total : Option (List Entry)) (e : SyntaxError) → 0 < length ts → Fails e (turn_at allowance ts)
    → ItemsLeft allowance ts front total → Fails e total
no_more allowance ts front total Memory some f h = tt
no_more allowance ts front total (Fault kind place) some f h = none_from allowance ts front total some f h.most h.enough h.so_far

-- at the end all items were read
pub all_read : (allowance : Allowance) (ts : List Token) (front : List Entry) (total : Option (List Entry)) → ts ≡ [] → ItemsLeft allowance ts front total → total ≡ Some front
unfolding items_at
all_read allowance ts front total e left =
    let one : with_before front (items_at left.most allowance ts) ≡ Some front = rw e (ap (λ (l : List Entry). Some l) (append-nil front)) in
    sym left.so_far ∙ one
