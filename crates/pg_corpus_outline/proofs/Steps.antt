-- What reading an entry, or beginning an open node, leaves to be read.
use Rattle.std.proofs.Common.{◌≡◌, ◌+◌, ◌-◌, ◌<◌, ◌≤◌, ℕ, true, false, List, [], ◌∷◌, ◌++◌, length, refl, ap, ap₂, sym, ◌∙◌, append_assoc, subst, arith}
use Rattle.std.specs.Prelude.{reverse}
use Rattle.std.specs.Borrow.{Bor}
use Rattle.std.proofs.lemmas.List.{append-nil, reverse-append, reverse-reverse, length-append}
use Rattle.pg_tree.specs.Trees.{Tree, kids_of}
use Rattle.pg_tree.specs.Kept.{Kept, kept_leaf, kept_node, kepts_of, trees_of}
use Rattle.pg_tree.specs.Stored.{kept_entries, entries_of}
use Rattle.pg_tree.specs.Entries.{list_of, kids_in, IsSeen, Opens}
use Rattle.pg_tree.specs.declared.entries.Seen.{Seen}
use Rattle.pg_tree.specs.declared.entries.Seen.TheVariants as seen
use Rattle.pg_tree.proofs.Stored.{entries_of-append}
use Rattle.pg_tree.proofs.Ends.{below_top}
use Rattle.pg_corpus_outline.specs.declared.piece.Piece.{Piece}
use Rattle.pg_corpus_outline.specs.declared.piece.Piece.TheVariants as piece
use Rattle.pg_corpus_outline.specs.declared.reading.OpenNode.{OpenNode}
use Rattle.pg_corpus_outline.specs.declared.reading.Reading.{Reading}
use Rattle.pg_corpus_outline.specs.Pieces.{Token, leaf_token, open_token, close_token, token_of, tokens_of, kept_tokens, kepts_tokens, trees_tokens}
use Rattle.pg_corpus_outline.specs.Reading.{list_tokens, Awaits, Reads, AreBefore}
use Rattle.pg_corpus_outline.proofs.Tokens.{list_tokens-append, list_of-tokens, list_of-entries, one_more, one_at_least, shown_tokens}

newest : {A : Type 0} (xs : List A) (x : A) → reverse (xs ++ x ∷ []) ≡ x ∷ reverse xs
newest xs x = reverse-append xs (x ∷ [])

-- the last of some trees, and those before it
last_of : {A : Type 0} (t : A) (ts : List A) → (before : List A) × (own : A) × (t ∷ ts ≡ before ++ own ∷ [])
last_of t [] = ([], t, refl)
last_of t (u ∷ ts) = let (before, own, e) = last_of u ts in (t ∷ before, own, ap (λ us. t ∷ us) e)

same_end : {A : Type 0} (xs ys : List A) (x y : A) → xs ++ x ∷ [] ≡ ys ++ y ∷ [] → (xs ≡ ys) × (x ≡ y)
same_end xs ys x y e =
    let f : x ∷ reverse xs ≡ y ∷ reverse ys = sym (newest xs x) ∙ ap reverse e ∙ newest ys y in
    let r : reverse xs ≡ reverse ys = cc in
    let s : x ≡ y = cc in
    (sym (reverse-reverse xs) ∙ ap reverse r ∙ reverse-reverse ys, s)

-- trees that come last are awaited after the others
awaits-more : (nodes : List OpenNode) (ts more : List Kept) (left : List Token) → Awaits nodes ts left → Awaits nodes (ts ++ more) (left ++ list_tokens more)
awaits-more [] ts more left h = ap (λ xs. xs ++ list_tokens more) h ∙ sym (list_tokens-append ts more)
awaits-more (first ∷ outer) ts more left h = record {
  before = h.before;
  inside = h.inside ++ more;
  earlier = h.earlier;
  trees = ap (λ us. us ++ more) h.trees ∙ append_assoc h.before h.inside more;
  begins = h.begins;
  awaits = h.awaits;
  tokens =
      ap (λ xs. xs ++ list_tokens more) h.tokens ∙ append_assoc h.earlier (open_token first.label.now ∷ list_tokens h.inside) (list_tokens more)
      ∙ ap (λ xs. h.earlier ++ open_token first.label.now ∷ xs) (sym (list_tokens-append h.inside more));
}

-- the last tree's tokens are the last
record Before (nodes : List OpenNode) (ts : List Kept) (t : Kept) (left : List Token) : Type 0 where
  rest : List Token
  awaits : Awaits nodes ts rest
  tokens : left ≡ rest ++ kept_tokens t

one_token_list : (t : Kept) → list_tokens (t ∷ []) ≡ kept_tokens t
one_token_list t = append-nil (kept_tokens t)

awaits-inside : (first : OpenNode) (outer : List OpenNode) (ts : List Kept) (t : Kept) (left : List Token) (before inside : List Kept) (earlier : List Token)
    → ts ++ t ∷ [] ≡ before ++ inside → first.begin ≡ length (entries_of before) → first.begin < length (entries_of (ts ++ t ∷ [])) → Awaits outer before earlier
    → left ≡ earlier ++ open_token first.label.now ∷ list_tokens inside → Before (first ∷ outer) ts t left
awaits-inside first outer ts t left before [] earlier e b less h l =
    absurd (omega (arith, ap (λ us. length (entries_of us)) (e ∙ append-nil before)))
awaits-inside first outer ts t left before (u ∷ us) earlier e b less h l =
    let (front, own, parts) = last_of u us in
    let same : ts ++ t ∷ [] ≡ (before ++ front) ++ own ∷ [] = e ∙ ap (λ vs. before ++ vs) parts ∙ sym (append_assoc before front (own ∷ [])) in
    let ends = same_end ts (before ++ front) t own same in
    let shown : list_tokens (u ∷ us) ≡ list_tokens front ++ kept_tokens t =
    ap list_tokens parts ∙ list_tokens-append front (own ∷ []) ∙ ap (λ xs. list_tokens front ++ xs) (one_token_list own ∙ ap kept_tokens (sym ends.1)) in
    record {
      rest = earlier ++ open_token first.label.now ∷ list_tokens front;
      awaits = record { before = before; inside = front; earlier = earlier; trees = ends.0; begins = b; awaits = h; tokens = refl };
      tokens =
          l ∙ ap (λ xs. earlier ++ open_token first.label.now ∷ xs) shown
          ∙ sym (append_assoc earlier (open_token first.label.now ∷ list_tokens front) (kept_tokens t));
    }

awaits-before : (nodes : List OpenNode) (ts : List Kept) (t : Kept) (left : List Token) → AreBefore (length (entries_of (ts ++ t ∷ []))) nodes
    → Awaits nodes (ts ++ t ∷ []) left → Before nodes ts t left
awaits-before [] ts t left less h = record {
  rest = list_tokens ts;
  awaits = refl;
  tokens = h ∙ list_tokens-append ts (t ∷ []) ∙ ap (λ xs. list_tokens ts ++ xs) (one_token_list t);
}
awaits-before (first ∷ outer) ts t left less h =
    awaits-inside first outer ts t left h.before h.inside h.earlier h.trees h.begins less h.awaits h.tokens

-- a leaf is read: its token was the last
leaf_case : (nodes : List OpenNode) (before new : List Kept) (last : Kept) (text : Bor (List ℕ)) (left : List Token) → IsSeen (seen.Leaf text) last
    → AreBefore (length (entries_of (before ++ last ∷ []))) nodes → new ≡ before ++ kids_in last → Awaits nodes (before ++ last ∷ []) left
    → (rest : List Token) × Awaits nodes new rest × (left ≡ rest ++ leaf_token text.now ∷ [])
leaf_case nodes before new (kept_leaf own) text left is less becomes h =
    let b = awaits-before nodes before (kept_leaf own) left less h in (
      b.rest,
      subst (λ (ts : List Kept). Awaits nodes ts b.rest) (sym (becomes ∙ append-nil before)) b.awaits,
      b.tokens ∙ ap (λ t. b.rest ++ leaf_token t ∷ []) (sym is),
    )
leaf_case nodes before new (kept_node true own kids) text left is less becomes h = absurd is
leaf_case nodes before new (kept_node false own kids) text left is less becomes h = absurd is

-- a node is read: its end was the last, and its kids are in it
node_case : (nodes : List OpenNode) (before new : List Kept) (last : Kept) (label : Bor (List ℕ)) (entries : ℕ) (node : OpenNode) (left : List Token)
    → IsSeen (seen.Node label entries) last → AreBefore (length (entries_of (before ++ last ∷ []))) nodes → new ≡ before ++ kids_in last
    → node.label.now ≡ label.now → node.begin ≡ length (entries_of (before ++ last ∷ [])) - entries → Awaits nodes (before ++ last ∷ []) left
    → (rest : List Token) × Awaits (node ∷ nodes) new rest × (left ≡ rest ++ close_token ∷ [])
node_case nodes before new (kept_leaf own) label entries node left is less becomes named begins h = absurd is
node_case nodes before new (kept_node true own kids) label entries node left is less becomes named begins h = absurd is
node_case nodes before new (kept_node false own kids) label entries node left is less becomes named begins h =
    let t = kept_node false own kids in
    let b = awaits-before nodes before t left less h in
    let begin : node.begin ≡ length (entries_of before) = omega (arith, begins, one_more before t, one_at_least t, is.1) in
    let inside = open_token node.label.now ∷ list_tokens (list_of kids) in
    let same : open_token own ∷ kepts_tokens kids ≡ inside =
    ap₂ (λ l ts. open_token l ∷ ts) (sym (named ∙ is.0)) (sym (list_of-tokens kids)) in
    let waiting : Awaits (node ∷ nodes) (before ++ list_of kids) (b.rest ++ inside) =
    record { before = before; inside = list_of kids; earlier = b.rest; trees = refl; begins = begin; awaits = b.awaits; tokens = refl } in (
      b.rest ++ inside,
      subst (λ (ts : List Kept). Awaits (node ∷ nodes) ts (b.rest ++ inside)) (sym becomes) waiting,
      b.tokens ∙ ap (λ ts. b.rest ++ (ts ++ close_token ∷ [])) same ∙ sym (append_assoc b.rest inside (close_token ∷ [])),
    )

-- a node that isn't shown is read: its kids stand in its place
away_case : (nodes : List OpenNode) (before new : List Kept) (last : Kept) (left : List Token) → IsSeen seen.Away last
    → AreBefore (length (entries_of (before ++ last ∷ []))) nodes → new ≡ before ++ kids_in last → Awaits nodes (before ++ last ∷ []) left → Awaits nodes new left
away_case nodes before new (kept_leaf own) left is less becomes h = absurd is
away_case nodes before new (kept_node false own kids) left is less becomes h = absurd is
away_case nodes before new (kept_node true own kids) left is less becomes h =
    let b = awaits-before nodes before (kept_node true own kids) left less h in
    let same : b.rest ++ list_tokens (list_of kids) ≡ left = ap (λ ts. b.rest ++ ts) (list_of-tokens kids) ∙ sym b.tokens in
    let waiting : Awaits nodes (before ++ list_of kids) left =
    subst (λ (ts : List Token). Awaits nodes (before ++ list_of kids) ts) same (awaits-more nodes before (list_of kids) b.rest b.awaits) in
    subst (λ (ts : List Kept). Awaits nodes ts left) (sym becomes) waiting

-- an open node with nothing left in it begins: its beginning was the last token
begin_case : (first : OpenNode) (outer : List OpenNode) (ts : List Kept) (left : List Token) (before inside : List Kept) (earlier : List Token) → ts ≡ before ++ inside
    → first.begin ≡ length (entries_of before) → length (entries_of ts) ≤ first.begin → Awaits outer before earlier
    → left ≡ earlier ++ open_token first.label.now ∷ list_tokens inside → (rest : List Token) × Awaits outer ts rest × (left ≡ rest ++ open_token first.label.now ∷ [])
begin_case first outer ts left before [] earlier e b less h l =
    (earlier, subst (λ (us : List Kept). Awaits outer us earlier) (sym (e ∙ append-nil before)) h, l)
begin_case first outer ts left before (u ∷ us) earlier e b less h l =
    let all : length (entries_of ts) ≡ length (entries_of before) + (length (kept_entries u) + length (entries_of us)) =
    ap (λ vs. length (entries_of vs)) e ∙ ap length (entries_of-append before (u ∷ us)) ∙ length-append (entries_of before) (entries_of (u ∷ us))
    ∙ ap (λ n. length (entries_of before) + n) (length-append (kept_entries u) (entries_of us)) in
    absurd (omega (arith, all, b, less, one_at_least u))

kids_entries : (t : Kept) → entries_of (kids_in t) ≡ below_top t
kids_entries (kept_leaf text) = refl
kids_entries (kept_node away label kids) = list_of-entries kids

-- one entry fewer is left once one was read
pub fewer_left : (old new : List Kept) (saw : Seen) → Opens old saw new → length (entries_of new) < length (entries_of old)
fewer_left old new saw o =
    let before : length (entries_of old) ≡ length (entries_of o.before) + length (kept_entries o.last) = ap (λ ts. length (entries_of ts)) o.was ∙ one_more o.before o.last in
    let then : length (entries_of new) ≡ length (entries_of o.before) + length (below_top o.last) =
    ap (λ ts. length (entries_of ts)) o.becomes ∙ ap length (entries_of-append o.before (kids_in o.last) ∙ ap (λ es. entries_of o.before ++ es) (kids_entries o.last))
    ∙ length-append (entries_of o.before) (below_top o.last) in
    omega (arith, before, then, one_at_least o.last)

-- one more piece, before those that were read
piece_read : (pieces : List Piece) (p : Piece) → tokens_of (reverse (pieces ++ p ∷ [])) ≡ token_of p ∷ tokens_of (reverse pieces)
piece_read pieces p = ap tokens_of (newest pieces p)

more_read : (pieces grown : List Piece) (p : Piece) (rest left : List Token) (all : List Token) → grown ≡ pieces ++ p ∷ [] → left ≡ rest ++ token_of p ∷ []
    → all ≡ left ++ tokens_of (reverse pieces) → all ≡ rest ++ tokens_of (reverse grown)
more_read pieces grown p rest left all e l a =
    a ∙ ap (λ ts. ts ++ tokens_of (reverse pieces)) l ∙ append_assoc rest (token_of p ∷ []) (tokens_of (reverse pieces))
    ∙ ap (λ ts. rest ++ ts) (sym (piece_read pieces p)) ∙ ap (λ ps. rest ++ tokens_of (reverse ps)) (sym e)

pub leaf_reads : (old new : Reading) (all : List Token) (text : Bor (List ℕ)) → AreBefore (length (entries_of old.entries)) (reverse old.opened.items)
    → Opens old.entries (seen.Leaf text) new.entries → new.opened.items ≡ old.opened.items → new.pieces.items ≡ old.pieces.items ++ piece.Leaf text ∷ []
    → Reads old all → Reads new all
leaf_reads old new all text less o stay grown h =
    let nodes = reverse old.opened.items in
    let before = subst (λ (ts : List Kept). AreBefore (length (entries_of ts)) nodes) o.was less in
    let waiting = subst (λ (ts : List Kept). Awaits nodes ts h.left) o.was h.awaits in
    let r = leaf_case nodes o.before new.entries o.last text h.left o.is before o.becomes waiting in
    record {
      left = r.0;
      awaits = subst (λ (ns : List OpenNode). Awaits ns new.entries r.0) (ap reverse (sym stay)) r.1;
      read = more_read old.pieces.items new.pieces.items (piece.Leaf text) r.0 h.left all grown r.2 h.read;
    }

pub node_reads : (old new : Reading) (all : List Token) (label : Bor (List ℕ)) (entries : ℕ) (node : OpenNode) → AreBefore (length (entries_of old.entries)) (reverse old.opened.items)
    → Opens old.entries (seen.Node label entries) new.entries → node.label.now ≡ label.now → node.begin ≡ length (entries_of old.entries) - entries
    → new.opened.items ≡ old.opened.items ++ node ∷ [] → new.pieces.items ≡ old.pieces.items ++ piece.Close ∷ [] → Reads old all → Reads new all
node_reads old new all label entries node less o named begins more grown h =
    let nodes = reverse old.opened.items in
    let before = subst (λ (ts : List Kept). AreBefore (length (entries_of ts)) nodes) o.was less in
    let waiting = subst (λ (ts : List Kept). Awaits nodes ts h.left) o.was h.awaits in
    let begin = subst (λ (ts : List Kept). node.begin ≡ length (entries_of ts) - entries) o.was begins in
    let r = node_case nodes o.before new.entries o.last label entries node h.left o.is before o.becomes named begin waiting in
    record {
      left = r.0;
      awaits = subst (λ (ns : List OpenNode). Awaits ns new.entries r.0) (sym (ap reverse more ∙ newest old.opened.items node)) r.1;
      read = more_read old.pieces.items new.pieces.items piece.Close r.0 h.left all grown r.2 h.read;
    }

pub away_reads : (old new : Reading) (all : List Token) → AreBefore (length (entries_of old.entries)) (reverse old.opened.items) → Opens old.entries seen.Away new.entries
    → new.opened.items ≡ old.opened.items → new.pieces.items ≡ old.pieces.items → Reads old all → Reads new all
away_reads old new all less o stay same h =
    let nodes = reverse old.opened.items in
    let before = subst (λ (ts : List Kept). AreBefore (length (entries_of ts)) nodes) o.was less in
    let waiting = subst (λ (ts : List Kept). Awaits nodes ts h.left) o.was h.awaits in
    record {
      left = h.left;
      awaits =
          subst (λ (ns : List OpenNode). Awaits ns new.entries h.left) (ap reverse (sym stay))
          (away_case nodes o.before new.entries o.last h.left o.is before o.becomes waiting);
      read = h.read ∙ ap (λ ps. h.left ++ tokens_of (reverse ps)) (sym same);
    }

pub begin_reads : (old new : Reading) (all : List Token) (node : OpenNode) (label : Bor (List ℕ)) → new.entries ≡ old.entries → old.opened.items ≡ new.opened.items ++ node ∷ []
    → length (entries_of old.entries) ≤ node.begin → label.now ≡ node.label.now → new.pieces.items ≡ old.pieces.items ++ piece.Open label ∷ [] → Reads old all → Reads new all
begin_reads old new all node label stay taken less named grown h =
    let waiting : Awaits (node ∷ reverse new.opened.items) old.entries h.left =
    subst (λ (ns : List OpenNode). Awaits ns old.entries h.left) (ap reverse taken ∙ newest new.opened.items node) h.awaits in
    let r = begin_case node (reverse new.opened.items) old.entries h.left waiting.before waiting.inside waiting.earlier waiting.trees waiting.begins less waiting.awaits waiting.tokens in
    record {
      left = r.0;
      awaits = subst (λ (ts : List Kept). Awaits (reverse new.opened.items) ts r.0) (sym stay) r.1;
      read =
          more_read old.pieces.items new.pieces.items (piece.Open label) r.0 h.left all grown
          (r.2 ∙ ap (λ l. r.0 ++ open_token l ∷ []) (sym named)) h.read;
    }

none_left : (nodes : List OpenNode) (ts : List Kept) (left : List Token) → ts ≡ [] → AreBefore 0 nodes → Awaits nodes ts left → left ≡ []
none_left [] ts left e less h = h ∙ ap list_tokens e
none_left (first ∷ outer) ts left e less h = absurd (omega arith)

-- at the end all tokens were read
pub all_read : (first last : Reading) (forest : List Tree) (pieces : List Piece) → trees_of (kepts_of first.entries) ≡ kids_of forest → first.opened.items ≡ []
    → first.pieces.items ≡ [] → ((all : List Token) → Reads first all → Reads last all) → last.entries ≡ [] → AreBefore 0 (reverse last.opened.items)
    → pieces ≡ reverse last.pieces.items → tokens_of pieces ≡ trees_tokens (kids_of forest)
all_read first last forest pieces shown opened made goes none less reversed =
    let all = list_tokens first.entries in
    let waiting : Awaits (reverse first.opened.items) first.entries all = subst (λ (ns : List OpenNode). Awaits (reverse ns) first.entries all) (sym opened) refl in
    let begun : Reads first all = record {
      left = all;
      awaits = waiting;
      read = sym (append-nil all) ∙ ap (λ (ps : List Piece). all ++ tokens_of (reverse ps)) (sym made);
    } in
    let ended = goes all begun in
    let empty = none_left (reverse last.opened.items) last.entries ended.left none less ended.awaits in
    ap tokens_of reversed ∙ sym (ended.read ∙ ap (λ ts. ts ++ tokens_of (reverse last.pieces.items)) empty) ∙ sym (shown_tokens (kepts_of first.entries)) ∙ ap trees_tokens shown
