-- The text of steps from one of them on, step by step.
use Rattle.std.proofs.Common.{◌≡◌, ◌+◌, ◌-◌, ◌<◌, ◌≤◌, ◌&&◌, ◌||◌, ℕ, zero, suc, Bool, true, false, cond, List, [], ◌∷◌, ◌++◌, length, take, drop, get_or, codes, refl, ap, sym, ◌∙◌, append_assoc, arith, eq-eqb}
use Rattle.std.specs.Prelude.{reverse}
use Rattle.std.proofs.lemmas.Bool.{false≢true, eqb-true}
use Rattle.std.proofs.lemmas.List.{drop_more, drop_all, take_more, take_all, reverse-append}
use Rattle.json.specs.Print.{escape}
use Rattle.pg_tree.specs.Json.{quoted}
use Rattle.pg_tree.specs.Written.{braces, has_some}
use Rattle.pg_tree_placed.specs.Made.{text_between}
use Rattle.pg_tree_placed.specs.Named.{label_at}
use Rattle.pg_tree_placed.specs.Written.{added_text, closing, comma, is_zero, less}
use Rattle.pg_tree_placed.specs.Forward.{bare_text, forward, has_ended, is_leaf, step_text, steps_inside, way_text}
use Rattle.pg_tree_placed.specs.Writing.{is_next, joined_from, left_from, way_if}
use Rattle.pg_tree_placed.specs.declared.entry.Entry.{Entry}
use Rattle.pg_tree_placed.specs.declared.entry.Entry.TheVariants.{Single}
use Rattle.pg_tree_placed.specs.declared.note.Note.{Note}
use Rattle.pg_tree_placed.specs.declared.note.Way.{Way}
use Rattle.pg_tree_placed.specs.declared.note.Way.TheVariants.{Shown, Lifted, Joined}

-- ---- opening texts

braces_front : (n : ℕ) → codes "{\"kids\":[" ++ braces n ≡ braces n ++ codes "{\"kids\":["
braces_front zero = refl
braces_front (suc n) = sym (append_assoc (codes "{\"kids\":[") (braces n) (codes "{\"kids\":[")) ∙ ap (λ xs. xs ++ codes "{\"kids\":[") (braces_front n)

pub braces_next : (n i : ℕ) → i < n → braces (n - i) ≡ codes "{\"kids\":[" ++ braces (n - (i + 1))
braces_next n i h = ap braces (let e : n - i ≡ suc (n - (i + 1)) = omega (arith, h) in e) ∙ sym (braces_front (n - (i + 1)))

pub braces_done : (n i : ℕ) → n ≤ i → braces (n - i) ≡ []
braces_done n i h = ap braces (let e : n - i ≡ 0 = omega (arith, h) in e)

and_true : (b : Bool) → (b && true) ≡ b
and_true false = refl
and_true true = refl

and_false : (b : Bool) → (b && false) ≡ false
and_false false = refl
and_false true = refl

-- ---- notes

pub next_note : (ns : List Note) (left : ℕ) (d : Note) → 0 < left → left ≤ length ns → reverse (take left ns) ≡ get_or ns (left - 1) d ∷ reverse (take (left - 1) ns)
next_note ns left d some within =
    ap (λ n. reverse (take n ns)) (let e : left ≡ left - 1 + 1 = omega (arith, some) in e)
    ∙ ap (λ (xs : List Note). reverse xs) (take_more ns (left - 1) d (omega (arith, some, within)))
    ∙ reverse-append (take (left - 1) ns) (get_or ns (left - 1) d ∷ [])

pub no_note : (ns : List Note) (left i : ℕ) → left ≡ 0 → is_next (reverse (take left ns)) i ≡ false
no_note ns left i none = ap (λ n. is_next (reverse (take n ns)) i) none

-- the last note that is left is on this step, or it isn't
pub at_note : (ns : List Note) (left i : ℕ) (d : Note) → 0 < left → left ≤ length ns → is_next (reverse (take left ns)) i ≡ is_next (get_or ns (left - 1) d ∷ []) i
at_note ns left i d some within = ap (λ (xs : List Note). is_next xs i) (next_note ns left d some within)

-- ---- a step outside of a joined leaf

shown_next : (text : List ℕ) (labels : List (List ℕ)) (ended : Bool) (i : ℕ) (e : Entry) (es : List Entry) (ns : List Note) → is_next ns i ≡ false
    → forward text labels ended 0 i (e ∷ es) ns ≡ step_text text labels ended 0 Shown e ++ forward text labels true 0 (i + 1) es ns
shown_next text labels ended i e es [] other = refl
shown_next text labels ended i e es (n ∷ ns) other =
    ap (λ b. cond b (step_text text labels ended n.begins n.way e ++ forward text labels (has_ended ended n.begins n.way e) (steps_inside n.way) (i + 1) es ns)
    (step_text text labels ended 0 Shown e ++ forward text labels true 0 (i + 1) es (n ∷ ns))) other

-- without a note
pub shown_from : (text : List ℕ) (labels : List (List ℕ)) (es : List Entry) (ended : Bool) (i : ℕ) (ns : List Note) (d : Entry) → i < length es → is_next ns i ≡ false
    → left_from text labels es ended i ns ≡ step_text text labels ended 0 Shown (get_or es i d) ++ left_from text labels es true (i + 1) ns
shown_from text labels es ended i ns d h other =
    ap (λ (xs : List Entry). forward text labels ended 0 i xs ns) (drop_more es i d h) ∙ shown_next text labels ended i (get_or es i d) (drop (i + 1) es) ns other

-- with a note
noted_from : (text : List ℕ) (labels : List (List ℕ)) (es : List Entry) (ended : Bool) (i : ℕ) (n : Note) (ns : List Note) (d : Entry) (way : Way) → i < length es → n.step ≡ i
    → n.way ≡ way
    → left_from text labels es ended i (n ∷ ns) ≡ step_text text labels ended n.begins way (get_or es i d)
    ++ forward text labels (has_ended ended n.begins way (get_or es i d)) (steps_inside way) (i + 1) (drop (i + 1) es) ns
noted_from text labels es ended i n ns d way h is how =
    ap (λ (xs : List Entry). forward text labels ended 0 i xs (n ∷ ns)) (drop_more es i d h)
    ∙ ap (λ b. cond b (step_text text labels ended n.begins n.way (get_or es i d) ++ forward text labels (has_ended ended n.begins n.way (get_or es i d)) (steps_inside n.way) (i + 1) (drop (i + 1) es) ns)
    (step_text text labels ended 0 Shown (get_or es i d) ++ forward text labels true 0 (i + 1) (drop (i + 1) es) (n ∷ ns))) (eq-eqb n.step i is)
    ∙ ap (λ (w : Way). step_text text labels ended n.begins w (get_or es i d) ++ forward text labels (has_ended ended n.begins w (get_or es i d)) (steps_inside w) (i + 1) (drop (i + 1) es) ns) how

pub shown_noted : (text : List ℕ) (labels : List (List ℕ)) (es : List Entry) (ended : Bool) (i : ℕ) (n : Note) (ns : List Note) (d : Entry) → i < length es → n.step ≡ i → n.way ≡ Shown
    → left_from text labels es ended i (n ∷ ns) ≡ step_text text labels ended n.begins Shown (get_or es i d) ++ left_from text labels es true (i + 1) ns
shown_noted text labels es ended i n ns d h is how = noted_from text labels es ended i n ns d Shown h is how

pub lifted_noted : (text : List ℕ) (labels : List (List ℕ)) (es : List Entry) (ended : Bool) (i : ℕ) (n : Note) (ns : List Note) (d : Entry) → i < length es → n.step ≡ i → n.way ≡ Lifted
    → left_from text labels es ended i (n ∷ ns)
    ≡ step_text text labels ended n.begins Lifted (get_or es i d) ++ left_from text labels es (has_ended ended n.begins Lifted (get_or es i d)) (i + 1) ns
lifted_noted text labels es ended i n ns d h is how = noted_from text labels es ended i n ns d Lifted h is how

pub joined_noted : (text : List ℕ) (labels : List (List ℕ)) (es : List Entry) (ended : Bool) (i : ℕ) (n : Note) (ns : List Note) (d : Entry) (count : ℕ) → i < length es → n.step ≡ i
    → n.way ≡ Joined count
    → left_from text labels es ended i (n ∷ ns)
    ≡ (comma ended ++ braces n.begins) ++ (way_text text labels (Joined count) (get_or es i d) ++ forward text labels true (less count) (i + 1) (drop (i + 1) es) ns)
joined_noted text labels es ended i n ns d count h is how =
    let e = get_or es i d in
    let rest = forward text labels true (less count) (i + 1) (drop (i + 1) es) ns in
    let own = way_text text labels (Joined count) e in
    noted_from text labels es ended i n ns d (Joined count) h is how
    ∙ ap (λ b. (comma b ++ (braces n.begins ++ own)) ++ rest) (and_true ended)
    ∙ ap (λ xs. xs ++ rest) (sym (append_assoc (comma ended) (braces n.begins) own))
    ∙ append_assoc (comma ended ++ braces n.begins) own rest

-- ---- the text of a step

pub begun_text : (text : List ℕ) (labels : List (List ℕ)) (ended : Bool) (n : ℕ) (b : Bool) (e : Entry)
    → step_text text labels ended n (way_if b) e ≡ (comma (ended && (has_some n || is_leaf e)) ++ braces n) ++ cond b (bare_text text e) (step_text text labels false 0 Shown e)
begun_text text labels ended n true e = sym (append_assoc (comma (ended && (has_some n || is_leaf e))) (braces n) (bare_text text e))
begun_text text labels ended n false e = sym (append_assoc (comma (ended && (has_some n || is_leaf e))) (braces n) (step_text text labels false 0 Shown e))

-- a step that begins a tree by itself, and one that doesn't
pub leaf_text : (text : List ℕ) (labels : List (List ℕ)) (ended : Bool) (e : Entry) → is_leaf e ≡ true
    → step_text text labels ended 0 Shown e ≡ comma ended ++ step_text text labels false 0 Shown e
leaf_text text labels ended e is = ap (λ b. comma b ++ step_text text labels false 0 Shown e) (ap (λ b. ended && b) is ∙ and_true ended)

pub node_text : (text : List ℕ) (labels : List (List ℕ)) (ended : Bool) (e : Entry) → is_leaf e ≡ false
    → step_text text labels ended 0 Shown e ≡ step_text text labels false 0 Shown e
node_text text labels ended e is = ap (λ b. comma b ++ step_text text labels false 0 Shown e) (ap (λ b. ended && b) is ∙ and_false ended)

-- ---- a joined leaf

-- its first step
pub joined_first : (text : List ℕ) (labels : List (List ℕ)) (es : List Entry) (i : ℕ) (ns : List Note) (e : Entry) (count : ℕ)
    → way_text text labels (Joined count) e ++ forward text labels true (less count) (i + 1) (drop (i + 1) es) ns
    ≡ codes "\"" ++ (escape (added_text text e) ++ joined_from text labels es (less count) (i + 1) ns)
joined_first text labels es i ns e count =
    ap (λ xs. codes "\"" ++ xs) (append_assoc (escape (added_text text e)) (cond (is_zero (less count)) (codes "\"") []) (forward text labels true (less count) (i + 1) (drop (i + 1) es) ns))

-- one step more
inside_next : (text : List ℕ) (labels : List (List ℕ)) (es : List Entry) (left i : ℕ) (ns : List Note) (d : Entry) → i < length es
    → joined_from text labels es (suc left) i ns ≡ escape (added_text text (get_or es i d)) ++ joined_from text labels es left (i + 1) ns
inside_next text labels es left i ns d h =
    ap (λ (xs : List Entry). forward text labels true (suc left) i xs ns) (drop_more es i d h)
    ∙ append_assoc (escape (added_text text (get_or es i d))) (cond (is_zero left) (codes "\"") []) (forward text labels true left (i + 1) (drop (i + 1) es) ns)

pub joined_next : (text : List ℕ) (labels : List (List ℕ)) (es : List Entry) (left i : ℕ) (ns : List Note) (d : Entry) → 0 < left → i < length es
    → joined_from text labels es left i ns ≡ escape (added_text text (get_or es i d)) ++ joined_from text labels es (left - 1) (i + 1) ns
joined_next text labels es left i ns d some h =
    ap (λ n. joined_from text labels es n i ns) (let e : left ≡ suc (left - 1) = omega (arith, some) in e) ∙ inside_next text labels es (left - 1) i ns d h

-- the steps end within it
inside_cut : (text : List ℕ) (labels : List (List ℕ)) (left i : ℕ) (es : List Entry) (ns : List Note) → es ≡ []
    → forward text labels true left i es ns ≡ forward text labels true 0 i es ns
inside_cut text labels left i es ns none =
    ap (λ (xs : List Entry). forward text labels true left i xs ns) none ∙ sym (ap (λ (xs : List Entry). forward text labels true 0 i xs ns) none)

pub joined_cut : (text : List ℕ) (labels : List (List ℕ)) (es : List Entry) (left i : ℕ) (ns : List Note) → 0 < left → length es ≤ i
    → joined_from text labels es left i ns ≡ left_from text labels es true i ns
joined_cut text labels es zero i ns some h = absurd (let other : ⊥ = omega (arith, some) in other)
joined_cut text labels es (suc left) i ns some h = inside_cut text labels (suc left) i (drop i es) ns (drop_all i es h)

-- none of its steps is left
pub joined_last : (text : List ℕ) (labels : List (List ℕ)) (es : List Entry) (left i : ℕ) (ns : List Note) → left ≡ 0
    → joined_from text labels es left i ns ≡ codes "\"" ++ left_from text labels es true i ns
joined_last text labels es left i ns none = ap (λ n. joined_from text labels es n i ns) none

-- ---- the ends

pub first_from : (text : List ℕ) (labels : List (List ℕ)) (es : List Entry) (ns : List Note) (left : ℕ) → left ≡ length ns
    → left_from text labels es false 0 (reverse (take left ns)) ≡ forward text labels false 0 0 es (reverse ns)
first_from text labels es ns left is = ap (λ (xs : List Note). forward text labels false 0 0 es (reverse xs)) (take_all left ns (omega (arith, is)))

pub last_from : (text : List ℕ) (labels : List (List ℕ)) (es : List Entry) (ended : Bool) (i : ℕ) (ns : List Note) → length es ≤ i → left_from text labels es ended i ns ≡ []
last_from text labels es ended i ns h = ap (λ (xs : List Entry). forward text labels ended 0 i xs ns) (drop_all i es h)

-- ---- a node around a leaf

pub single_shown : (text : List ℕ) (labels : List (List ℕ)) (ended : Bool) (label from to : ℕ)
    → step_text text labels ended 0 Shown (Single label from to)
    ≡ (comma ended ++ (codes "{\"kids\":[" ++ quoted (text_between text from to))) ++ closing (label_at labels label)
single_shown text labels ended label from to =
    let close = closing (label_at labels label) in
    let own = quoted (text_between text from to) in
    leaf_text text labels ended (Single label from to) refl
    ∙ ap (λ xs. comma ended ++ xs) (sym (append_assoc (codes "{\"kids\":[") own close))
    ∙ sym (append_assoc (comma ended) (codes "{\"kids\":[" ++ own) close)

pub less_one : (n m : ℕ) → m ≡ n - 1 → less n ≡ m
less_one zero m is = omega (arith, is)
less_one (suc n) m is = omega (arith, is)

-- there is a next note, and its step
pub some_left : (ns : List Note) (left i : ℕ) → is_next (reverse (take left ns)) i ≡ true → 0 < left
some_left ns zero i here = absurd (false≢true here)
some_left ns (suc left) i here = omega arith

pub step_of : (n : Note) (ns : List Note) (i : ℕ) → is_next (n ∷ ns) i ≡ true → n.step ≡ i
step_of n ns i here = eqb-true n.step i here
