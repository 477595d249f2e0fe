-- Going back over a step: what is left to write, and the step's text with its note.
use Rattle.std.proofs.Common.{◌≡◌, ◌+◌, ◌-◌, ◌<◌, ◌&&◌, ℕ, zero, suc, Bool, true, false, cond, List, [], ◌∷◌, ◌++◌, take, drop, codes, refl, ap, sym, ◌∙◌, append_assoc, arith, subst}
use Rattle.std.specs.Prelude.{reverse}
use Rattle.std.specs.Str.{bytes_eq}
use Rattle.std.proofs.Math.Seq.{take-add}
use Rattle.std.proofs.lemmas.List.{append-nil, reverse-append, reverse-reverse, drop-drop}
use Rattle.std.proofs.lemmas.Slice.Eq.{bytes_eq-Decides}
use Rattle.json.specs.Print.{escape}
use Rattle.pg_tree.specs.Trees.{Tree, Trees, leaf, node, no_trees, tree, kids_of}
use Rattle.pg_tree.specs.Built.{with_kids, flattened, tree_text, kids_text}
use Rattle.pg_tree.specs.Json.{quoted, json_tree, json_kids}
use Rattle.pg_tree.proofs.Flattening.{with_kids-no_trees, with_kids-assoc, kids_of-append, flattened-tree}
use Rattle.pg_tree_placed.specs.Named.{label_at}
use Rattle.pg_tree_placed.specs.Made.{text_between, kids_taken, kids_from, tree_made, with_entry}
use Rattle.pg_tree_placed.specs.Written.{comma, back_text, back_of, lifted, kids_left, Left, nodes_left, joined_left, left_text, HaveKids, one_less, with_one_less, unless_full, without_label, is_zero, less, lifts, with_lifted, closing, single_text_if, added_text, outside, within, GoesBack, NodeBack}
use Rattle.pg_tree_placed.specs.declared.entry.Entry.{Entry}
use Rattle.pg_tree_placed.specs.declared.entry.Entry.TheVariants.{Leaf, Node, Flat, Single, Join}
use Rattle.pg_tree_placed.specs.declared.pending.Around.{Around}
use Rattle.pg_tree_placed.proofs.BackText.{back-kids}
use Rattle.pg_tree_placed.proofs.Plain.{escape-append}

-- ---- kids from the back

back_of-with_kids : (ts us : Trees) → back_of (with_kids ts us) ≡ back_of us ++ back_of ts
back_of-with_kids no_trees us = sym (append-nil (back_of us))
back_of-with_kids (tree t ts) us = ap (λ xs. xs ++ t ∷ []) (back_of-with_kids ts us) ∙ append_assoc (back_of us) (back_of ts) (t ∷ [])

back_of-kids : (ts : List Tree) → back_of (kids_of ts) ≡ reverse ts
back_of-kids [] = refl
back_of-kids (t ∷ ts) = ap (λ xs. xs ++ t ∷ []) (back_of-kids ts) ∙ sym (reverse-append (t ∷ []) ts)

kids_of-back : (ts : Trees) → kids_of (reverse (back_of ts)) ≡ ts
kids_of-back no_trees = refl
kids_of-back (tree t ts) =
    ap (λ xs. kids_of xs) (reverse-append (back_of ts) (t ∷ [])) ∙ ap (λ us. tree t us) (kids_of-back ts)

back-from : (n : ℕ) (ts : List Tree) → back_of (kids_from n ts) ≡ take n ts
back-from n ts = back_of-kids (reverse (take n ts)) ∙ reverse-reverse (take n ts)

-- one more tree, which is the last
kids-more : (t : Tree) (ts : List Tree) → kids_of (reverse (t ∷ ts)) ≡ with_kids (kids_of (reverse ts)) (tree t no_trees)
kids-more t ts = ap (λ xs. kids_of xs) (reverse-append (t ∷ []) ts) ∙ kids_of-append (reverse ts) (t ∷ [])

-- ---- lifted trees are flattened kids

lifted-one : (label other : List ℕ) (kids : Trees) (ts : List Tree) (b : Bool)
    → cond b (back_of kids ++ ts) (node other kids ∷ ts) ≡ back_of (cond b (with_kids kids no_trees) (tree (node other kids) no_trees)) ++ ts
lifted-one label other kids ts true = ap (λ us. back_of us ++ ts) (sym (with_kids-no_trees kids))
lifted-one label other kids ts false = refl

lifted-tree : (label : List ℕ) (t : Tree) (ts : List Tree) → lifted label (t ∷ ts) ≡ back_of (flattened label (tree t no_trees)) ++ lifted label ts
lifted-tree label (leaf text) ts = refl
lifted-tree label (node other kids) ts = lifted-one label other kids (lifted label ts) (bytes_eq other label)

flattened-with_kids : (label : List ℕ) (ts us : Trees) → flattened label (with_kids ts us) ≡ with_kids (flattened label ts) (flattened label us)
flattened-with_kids label no_trees us = refl
flattened-with_kids label (tree t ts) us =
    flattened-tree label t (with_kids ts us) ∙ ap (λ xs. with_kids (flattened label (tree t no_trees)) xs) (flattened-with_kids label ts us)
    ∙ sym (with_kids-assoc (flattened label (tree t no_trees)) (flattened label ts) (flattened label us))
    ∙ ap (λ xs. with_kids xs (flattened label us)) (sym (flattened-tree label t ts))

lifted-back : (label : List ℕ) (ts : List Tree) → lifted label ts ≡ back_of (flattened label (kids_of (reverse ts)))
lifted-back label [] = refl
lifted-back label (t ∷ ts) =
    lifted-tree label t ts ∙ ap (λ xs. back_of (flattened label (tree t no_trees)) ++ xs) (lifted-back label ts)
    ∙ sym (ap (λ xs. back_of (flattened label xs)) (kids-more t ts) ∙ ap back_of (flattened-with_kids label (kids_of (reverse ts)) (tree t no_trees))
    ∙ back_of-with_kids (flattened label (kids_of (reverse ts))) (flattened label (tree t no_trees)))

lifted-append : (label : List ℕ) (ts us : List Tree) → lifted label (ts ++ us) ≡ lifted label ts ++ lifted label us
lifted-append label [] us = refl
lifted-append label (t ∷ ts) us =
    lifted-tree label t (ts ++ us) ∙ ap (λ xs. back_of (flattened label (tree t no_trees)) ++ xs) (lifted-append label ts us)
    ∙ sym (append_assoc (back_of (flattened label (tree t no_trees))) (lifted label ts) (lifted label us))
    ∙ ap (λ xs. xs ++ lifted label us) (sym (lifted-tree label t ts))

-- ---- the texts of kids

text-with_kids : (ts us : Trees) → kids_text (with_kids ts us) ≡ kids_text ts ++ kids_text us
text-with_kids no_trees us = refl
text-with_kids (tree t ts) us = ap (λ xs. tree_text t ++ xs) (text-with_kids ts us) ∙ sym (append_assoc (tree_text t) (kids_text ts) (kids_text us))

text-one : (label other : List ℕ) (kids : Trees) (b : Bool) → kids_text (cond b (with_kids kids no_trees) (tree (node other kids) no_trees)) ≡ kids_text kids ++ []
text-one label other kids true = text-with_kids kids no_trees
text-one label other kids false = refl

text-flattened : (label : List ℕ) (ts : Trees) → kids_text (flattened label ts) ≡ kids_text ts
text-flattened label no_trees = refl
text-flattened label (tree (leaf text) ts) = ap (λ xs. text ++ xs) (text-flattened label ts)
text-flattened label (tree (node other kids) ts) =
    ap kids_text (flattened-tree label (node other kids) ts) ∙ text-with_kids (flattened label (tree (node other kids) no_trees)) (flattened label ts)
    ∙ ap (λ xs. xs ++ kids_text (flattened label ts)) (text-one label other kids (bytes_eq other label) ∙ append-nil (kids_text kids))
    ∙ ap (λ xs. kids_text kids ++ xs) (text-flattened label ts)

-- the text of the tree that a step makes: that of its kids, and its own
text-made : (text : List ℕ) (labels : List (List ℕ)) (ts : List Tree) (e : Entry)
    → tree_text (tree_made text labels (kids_from (kids_taken e) ts) e) ≡ kids_text (kids_from (kids_taken e) ts) ++ added_text text e
text-made text labels ts (Leaf from to) = refl
text-made text labels ts (Node label kids) = sym (append-nil (kids_text (kids_from kids ts)))
text-made text labels ts (Flat label kids) = text-flattened (label_at labels label) (kids_from kids ts) ∙ sym (append-nil (kids_text (kids_from kids ts)))
text-made text labels ts (Single label from to) = append-nil (text_between text from to)
text-made text labels ts (Join kids) = sym (append-nil (kids_text (kids_from kids ts)))

from-add : (k j : ℕ) (ts : List Tree) → kids_from (k + j) ts ≡ with_kids (kids_from j (drop k ts)) (kids_from k ts)
from-add k j ts =
    ap (λ us. kids_of (reverse us)) (take-add k j ts) ∙ ap (λ us. kids_of us) (reverse-append (take k ts) (take j (drop k ts)))
    ∙ kids_of-append (reverse (take j (drop k ts))) (reverse (take k ts))

-- ---- steps back

abbrev pub around : ℕ → ℕ → ℕ → Around
around plain flat label = record { plain = plain; flat = flat; label = label }

abbrev total : Around → ℕ
total c = c.plain + c.flat

-- one tree where it isn't lifted
drop-one : (p f l : ℕ) (t : Tree) (ts : List Tree) → 0 < p + f → drop (p + f) (t ∷ ts) ≡ drop (total (one_less p f l)) ts
drop-one zero zero l t ts h = absurd (let not : ⊥ = omega (arith, h) in not)
drop-one zero (suc f) l t ts h = ap (λ n. drop n (t ∷ ts)) (let e : 0 + suc f ≡ suc (0 + f) = omega arith in e)
drop-one (suc p) f l t ts h = ap (λ n. drop n (t ∷ ts)) (let e : suc p + f ≡ suc (p + f) = omega arith in e)

keeps-leaf : (labels : List (List ℕ)) (p f l : ℕ) (x : List ℕ) (ts : List Tree) → 0 < p + f
    → kids_left labels (around p f l) (leaf x ∷ ts) ≡ leaf x ∷ kids_left labels (one_less p f l) ts
keeps-leaf labels zero zero l x ts h = absurd (let not : ⊥ = omega (arith, h) in not)
keeps-leaf labels zero (suc f) l x ts h = refl
keeps-leaf labels (suc p) f l x ts h = refl

keeps-node : (labels : List (List ℕ)) (p f l : ℕ) (other : List ℕ) (kids : Trees) (ts : List Tree) → 0 < p + f → (is_zero p && bytes_eq other (label_at labels l)) ≡ false
    → kids_left labels (around p f l) (node other kids ∷ ts) ≡ node other kids ∷ kids_left labels (one_less p f l) ts
keeps-node labels zero zero l other kids ts h not = absurd (let z : ⊥ = omega (arith, h) in z)
keeps-node labels zero (suc f) l other kids ts h not =
    ap (λ b. cond b (back_of kids ++ lifted (label_at labels l) (take f ts)) (node other kids ∷ lifted (label_at labels l) (take f ts))) not
keeps-node labels (suc p) f l other kids ts h not = refl

-- the first tree isn't lifted
abbrev Stays : List (List ℕ) → List Around → Tree → List Tree → Type 0
Stays labels [] t ts = Unit {0}
Stays labels (c ∷ cs) t ts = kids_left labels c (t ∷ ts) ≡ t ∷ kids_left labels (one_less c.plain c.flat c.label) ts

stays-leaf : (labels : List (List ℕ)) (cs : List Around) (x : List ℕ) (ts : List Tree) → HaveKids cs → Stays labels cs (leaf x) ts
stays-leaf labels [] x ts h = tt
stays-leaf labels (c ∷ cs) x ts h = keeps-leaf labels c.plain c.flat c.label x ts h

stays-node : (labels : List (List ℕ)) (cs : List Around) (other : List ℕ) (kids : Trees) (ts : List Tree) → HaveKids cs → lifts labels cs other ≡ false
    → Stays labels cs (node other kids) ts
stays-node labels [] other kids ts h not = tt
stays-node labels (c ∷ cs) other kids ts h not = keeps-node labels c.plain c.flat c.label other kids ts h not

shown : (labels : List (List ℕ)) (later : Bool) (cs : List Around) (t : Tree) (ts : List Tree) → HaveKids cs → Stays labels cs t ts
    → nodes_left labels later cs (t ∷ ts) ≡ nodes_left labels true (with_one_less cs) ts ++ (json_tree t ++ comma later)
shown labels later [] t ts h stays = sym (append_assoc (codes "[") (back_text true ts) (json_tree t ++ comma later))
shown labels later (c ∷ cs) t ts h stays =
    let begin = codes "{\"kids\":[" in
    let d = one_less c.plain c.flat c.label in
    let outer = nodes_left labels true cs (drop (total d) ts) in
    let ks = kids_left labels d ts in
    ap (λ us. nodes_left labels true cs us ++ (begin ++ back_text later (kids_left labels c (t ∷ ts)))) (drop-one c.plain c.flat c.label t ts h)
    ∙ ap (λ us. outer ++ (begin ++ back_text later us)) stays
    ∙ ap (λ xs. outer ++ xs) (sym (append_assoc begin (back_text true ks) (json_tree t ++ comma later)))
    ∙ sym (append_assoc outer (begin ++ back_text true ks) (json_tree t ++ comma later))

-- a node that is shown, with its kids
node-opens : (labels : List (List ℕ)) (later : Bool) (cs : List Around) (c : Around) (ts : List Tree) (k : ℕ) (l : List ℕ) (ks : Trees) → HaveKids cs
    → lifts labels cs l ≡ false → total c ≡ k → json_kids ks ≡ back_text false (kids_left labels c ts)
    → nodes_left labels later cs (node l ks ∷ drop k ts) ≡ nodes_left labels false (c ∷ with_one_less cs) ts ++ (closing l ++ comma later)
node-opens labels later cs c ts k l ks h not size kids =
    let begin = codes "{\"kids\":[" in
    let outer = nodes_left labels true (with_one_less cs) (drop k ts) in
    let own = closing l ++ comma later in
    let left = back_text false (kids_left labels c ts) in
    shown labels later cs (node l ks) (drop k ts) h (stays-node labels cs l ks (drop k ts) h not)
    ∙ ap (λ xs. outer ++ xs) (
    append_assoc begin (json_kids ks ++ closing l) (comma later)
    ∙ ap (λ xs. begin ++ xs) (append_assoc (json_kids ks) (closing l) (comma later))
    ∙ ap (λ xs. begin ++ (xs ++ own)) kids
    ∙ sym (append_assoc begin left own))
    ∙ sym (append_assoc outer (begin ++ left) own)
    ∙ ap (λ n. (nodes_left labels true (with_one_less cs) (drop n ts) ++ (begin ++ left)) ++ own) (sym size)

-- a node that is lifted
lift-drop : (p k n : ℕ) (t : Tree) (ts : List Tree) → p ≡ k + n → drop (0 + suc n) (t ∷ drop k ts) ≡ drop p ts
lift-drop p k n t ts e = ap (λ m. drop m (t ∷ drop k ts)) (let s : 0 + suc n ≡ suc n = omega arith in s) ∙ drop-drop n k ts ∙ ap (λ m. drop m ts) (sym e)

pub true_no : {A : Type 0} → false ≡ true → A
true_no e = absurd (subst (λ b. cond b ⊥ (Unit {0})) e tt)

lifted-node : (labels : List (List ℕ)) (later : Bool) (p f l : ℕ) (cs : List Around) (m : List ℕ) (ks : Trees) (ts : List Tree) (k : ℕ) (d : Around) → 0 < p + f
    → (is_zero p && bytes_eq m (label_at labels l)) ≡ true → total d ≡ k + less f
    → kids_left labels d ts ≡ back_of ks ++ lifted (label_at labels l) (take (less f) (drop k ts))
    → nodes_left labels later (around p f l ∷ cs) (node m ks ∷ drop k ts) ≡ nodes_left labels later (d ∷ cs) ts
lifted-node labels later zero zero l cs m ks ts k d h is size kids = absurd (let z : ⊥ = omega (arith, h) in z)
lifted-node labels later (suc p) f l cs m ks ts k d h is size kids = true_no is
lifted-node labels later zero (suc n) l cs m ks ts k d h is size kids =
    let begin = codes "{\"kids\":[" in
    let rest = lifted (label_at labels l) (take n (drop k ts)) in
    ap (λ us. nodes_left labels true cs us ++ (begin ++ back_text later (kids_left labels (around zero (suc n) l) (node m ks ∷ drop k ts)))) (lift-drop (total d) k n (node m ks) ts size)
    ∙ ap (λ b. nodes_left labels true cs (drop (total d) ts) ++ (begin ++ back_text later (cond b (back_of ks ++ rest) (node m ks ∷ rest)))) is
    ∙ ap (λ us. nodes_left labels true cs (drop (total d) ts) ++ (begin ++ back_text later us)) (sym kids)

-- inside of a joined leaf
joined-step : (labels : List (List ℕ)) (cs : List Around) (text : List ℕ) (ts : List Tree) (e : Entry) (j : ℕ) → 0 < j
    → joined_left labels j cs (with_entry text labels ts e) ≡ joined_left labels (kids_taken e + less j) cs ts ++ escape (added_text text e)
joined-step labels cs text ts e zero h = absurd (let z : ⊥ = omega (arith, h) in z)
joined-step labels cs text ts e (suc j) h =
    let k = kids_taken e in
    let t = tree_made text labels (kids_from k ts) e in
    let own = added_text text e in
    let outer = nodes_left labels true cs (drop (k + j) ts) in
    let texts : kids_text (kids_from (suc j) (t ∷ drop k ts)) ≡ kids_text (kids_from (k + j) ts) ++ own =
    ap kids_text (kids-more t (take j (drop k ts))) ∙ text-with_kids (kids_from j (drop k ts)) (tree t no_trees)
    ∙ ap (λ xs. kids_text (kids_from j (drop k ts)) ++ xs) (append-nil (tree_text t) ∙ text-made text labels ts e)
    ∙ sym (append_assoc (kids_text (kids_from j (drop k ts))) (kids_text (kids_from k ts)) own)
    ∙ ap (λ xs. xs ++ own) (sym (ap kids_text (from-add k j ts) ∙ text-with_kids (kids_from j (drop k ts)) (kids_from k ts))) in
    ap (λ us. nodes_left labels true cs us ++ (codes "\"" ++ escape (kids_text (kids_from (suc j) (t ∷ drop k ts))))) (drop-drop j k ts)
    ∙ ap (λ xs. outer ++ (codes "\"" ++ xs)) (ap (λ xs. escape xs) texts ∙ escape-append (kids_text (kids_from (k + j) ts)) own)
    ∙ ap (λ xs. outer ++ xs) (sym (append_assoc (codes "\"") (escape (kids_text (kids_from (k + j) ts))) (escape own)))
    ∙ sym (append_assoc outer (codes "\"" ++ escape (kids_text (kids_from (k + j) ts))) (escape own))

-- ---- a step back, by its kind

-- a step's text and a comma come before what is written
before : (xs left own more old new : List ℕ) → xs ≡ left ++ (own ++ more) → new ≡ own ++ (more ++ old) → xs ++ old ≡ left ++ new
before xs left own more old new so is =
    ap (λ ys. ys ++ old) so ∙ append_assoc left (own ++ more) old ∙ ap (λ ys. left ++ ys) (append_assoc own more old ∙ sym is)

-- the same from an equal state
pub with_left : (labels : List (List ℕ)) (xs : List ℕ) (y z : Left) (ds : List Around) (ts : List Tree) (new : List ℕ) → z ≡ y
    → xs ≡ left_text labels y ds ts ++ new → xs ≡ left_text labels z ds ts ++ new
with_left labels xs y z ds ts new is so = subst (λ (s : Left). xs ≡ left_text labels s ds ts ++ new) (sym is) so

pub leaf_back : (text : List ℕ) (labels : List (List ℕ)) (s z : Left) (cs ds : List Around) (from to : ℕ) (old new : List ℕ) → s.inside ≡ false → HaveKids cs
    → z ≡ outside true → ds ≡ with_one_less cs → new ≡ quoted (text_between text from to) ++ (comma s.later ++ old)
    → GoesBack text labels s cs (Leaf from to) old z ds new
leaf_back text labels s z cs ds from to old new out h is e n ts =
    let t = leaf (text_between text from to) in
    let xs = left_text labels s cs (t ∷ ts) in
    let left = nodes_left labels true ds ts in
    let so : xs ≡ left ++ (json_tree t ++ comma s.later) =
    ap (λ b. cond b (joined_left labels s.joined cs (t ∷ ts)) (nodes_left labels s.later cs (t ∷ ts))) out
    ∙ shown labels s.later cs t ts h (stays-leaf labels cs (text_between text from to) ts h)
    ∙ ap (λ ys. nodes_left labels true ys ts ++ (json_tree t ++ comma s.later)) (sym e) in
    with_left labels (xs ++ old) (outside true) z ds ts new is (before xs left (json_tree t) (comma s.later) old new so n)

pub join_back : (text : List ℕ) (labels : List (List ℕ)) (s z : Left) (cs ds : List Around) (k : ℕ) (old new : List ℕ) → s.inside ≡ false → HaveKids cs
    → z ≡ within k → ds ≡ with_one_less cs → new ≡ codes "\"" ++ (comma s.later ++ old) → GoesBack text labels s cs (Join k) old z ds new
join_back text labels s z cs ds k old new out h is e n ts =
    let x = kids_text (kids_from k ts) in
    let us = leaf x ∷ drop k ts in
    let xs = left_text labels s cs us in
    let outer = nodes_left labels true ds (drop k ts) in
    let left = outer ++ (codes "\"" ++ escape x) in
    let end = codes "\"" ++ comma s.later in
    let so : xs ≡ left ++ end =
    ap (λ b. cond b (joined_left labels s.joined cs us) (nodes_left labels s.later cs us)) out
    ∙ shown labels s.later cs (leaf x) (drop k ts) h (stays-leaf labels cs x (drop k ts) h)
    ∙ ap (λ ys. nodes_left labels true ys (drop k ts) ++ (json_tree (leaf x) ++ comma s.later)) (sym e)
    ∙ ap (λ ys. outer ++ (34 ∷ ys)) (append_assoc (escape x) (codes "\"") (comma s.later))
    ∙ sym (append_assoc outer (codes "\"" ++ escape x) end) in
    with_left labels (xs ++ old) (within k) z ds ts new is (before xs left (codes "\"") (comma s.later) old new so n)

less-is : (n : ℕ) → less n ≡ n - 1
less-is zero = refl
less-is (suc n) = omega arith

pub inside_back : (text : List ℕ) (labels : List (List ℕ)) (s z : Left) (cs : List Around) (e : Entry) (old new : List ℕ) → s.inside ≡ true → 0 < s.joined
    → z ≡ within (kids_taken e + (s.joined - 1)) → new ≡ escape (added_text text e) ++ old → GoesBack text labels s cs e old z cs new
inside_back text labels s z cs e old new is h so n ts =
    let us = with_entry text labels ts e in
    let own = escape (added_text text e) in
    let left = joined_left labels (kids_taken e + less s.joined) cs ts in
    with_left labels (left_text labels s cs us ++ old) (within (kids_taken e + (s.joined - 1))) z cs ts new so
    (ap (λ xs. xs ++ old) (ap (λ b. cond b (joined_left labels s.joined cs us) (nodes_left labels s.later cs us)) is
    ∙ joined-step labels cs text ts e s.joined h)
    ∙ append_assoc left own old ∙ ap (λ xs. left ++ xs) (sym n)
    ∙ ap (λ m. joined_left labels (kids_taken e + m) cs ts ++ new) (less-is s.joined))

same-label : (m l : List ℕ) (p : ℕ) → (is_zero p && bytes_eq m l) ≡ true → m ≡ l
same-label m l zero is = (bytes_eq-Decides m l).0 is
same-label m l (suc n) is = true_no is

-- nodes that are lifted
node-lifted : (labels : List (List ℕ)) (later : Bool) (cs : List Around) (m : List ℕ) (ts : List Tree) (k : ℕ) → HaveKids cs → lifts labels cs m ≡ true
    → nodes_left labels later cs (node m (kids_from k ts) ∷ drop k ts) ≡ nodes_left labels later (with_lifted k 0 cs) ts
node-lifted labels later [] m ts k h is = true_no is
node-lifted labels later (c ∷ cs) m ts k h is =
    let l = label_at labels c.label in
    let n = less c.flat in
    lifted-node labels later c.plain c.flat c.label cs m (kids_from k ts) ts k (around k (0 + n) c.label) h is (let e : k + (0 + n) ≡ k + n = omega arith in e)
    (ap (λ xs. xs ++ lifted l (take (0 + n) (drop k ts))) (sym (back-from k ts)) ∙ ap (λ i. back_of (kids_from k ts) ++ lifted l (take i (drop k ts))) (let e : 0 + n ≡ n = omega arith in e))

flat-lifted : (labels : List (List ℕ)) (later : Bool) (cs : List Around) (m : List ℕ) (ts : List Tree) (k : ℕ) → HaveKids cs → lifts labels cs m ≡ true
    → nodes_left labels later cs (node m (flattened m (kids_from k ts)) ∷ drop k ts) ≡ nodes_left labels later (with_lifted 0 k cs) ts
flat-lifted labels later [] m ts k h is = true_no is
flat-lifted labels later (c ∷ cs) m ts k h is =
    let l = label_at labels c.label in
    let n = less c.flat in
    let same : m ≡ l = same-label m l c.plain is in
    let kids : lifted l (take (k + n) ts) ≡ back_of (flattened m (kids_from k ts)) ++ lifted l (take n (drop k ts)) =
    ap (λ xs. lifted l xs) (take-add k n ts) ∙ lifted-append l (take k ts) (take n (drop k ts))
    ∙ ap (λ xs. xs ++ lifted l (take n (drop k ts))) (lifted-back l (take k ts) ∙ ap (λ x. back_of (flattened x (kids_from k ts))) (sym same)) in
    lifted-node labels later c.plain c.flat c.label cs m (flattened m (kids_from k ts)) ts k (around 0 (k + n) c.label) h is (let e : 0 + (k + n) ≡ k + n = omega arith in e) kids

-- the label of a node that is full doesn't matter
unless-full : (labels : List (List ℕ)) (later : Bool) (p f l : ℕ) (cs : List Around) (ts : List Tree)
    → nodes_left labels later (around p f l ∷ cs) ts ≡ nodes_left labels later (unless_full p f l ∷ cs) ts
unless-full labels later zero zero l cs ts = refl
unless-full labels later zero (suc n) l cs ts = refl
unless-full labels later (suc n) f l cs ts = refl

left-unlabelled : (labels : List (List ℕ)) (later : Bool) (cs : List Around) (ts : List Tree) → nodes_left labels later cs ts ≡ nodes_left labels later (without_label cs) ts
left-unlabelled labels later [] ts = refl
left-unlabelled labels later (c ∷ cs) ts = unless-full labels later c.plain c.flat c.label cs ts

-- a node of some kids that is open then, or whose kids stand in its place
node-step : (labels : List (List ℕ)) (s : Left) (z : Bool) (cs ds : List Around) (node_of : Around) (us ts : List Tree) (old new : List ℕ) (b : Bool) → s.inside ≡ false
    → lifts labels cs (label_at labels node_of.label) ≡ b
    → (b ≡ false → nodes_left labels s.later cs us ≡ nodes_left labels false (node_of ∷ with_one_less cs) ts ++ (closing (label_at labels node_of.label) ++ comma s.later))
    → (b ≡ true → nodes_left labels s.later cs us ≡ nodes_left labels s.later (with_lifted node_of.plain node_of.flat cs) ts)
    → NodeBack labels s.later cs node_of old z ds new → left_text labels s cs us ++ old ≡ left_text labels (outside z) ds ts ++ new
node-step labels s z cs ds c us ts old new false out is shows gone it =
    let so = it.is_open is in
    let l = label_at labels c.label in
    let xs = left_text labels s cs us in
    with_left labels (xs ++ old) (outside false) (outside z) ds ts new (ap outside so.0)
    (before xs (nodes_left labels false ds ts) (closing l) (comma s.later) old new
    (ap (λ b. cond b (joined_left labels s.joined cs us) (nodes_left labels s.later cs us)) out ∙ shows refl
    ∙ ap (λ ys. (ys ++ (codes "{\"kids\":[" ++ back_text false (kids_left labels c ts))) ++ (closing l ++ comma s.later))
    (left-unlabelled labels true (with_one_less cs) (drop (total c) ts))
    ∙ ap (λ ys. nodes_left labels false ys ts ++ (closing l ++ comma s.later)) (sym so.1)) so.2)
node-step labels s z cs ds c us ts old new true out is shows gone it =
    let so = it.is_gone is in
    with_left labels (left_text labels s cs us ++ old) (outside s.later) (outside z) ds ts new (ap outside so.0)
    (ap (λ b. cond b (joined_left labels s.joined cs us) (nodes_left labels s.later cs us) ++ old) out ∙ ap (λ xs. xs ++ old) (gone refl)
    ∙ ap (λ ys. nodes_left labels s.later ys ts ++ old) (sym so.1) ∙ ap (λ xs. nodes_left labels s.later ds ts ++ xs) (sym so.2))

node-shown : (labels : List (List ℕ)) (later : Bool) (cs : List Around) (label k : ℕ) (ts : List Tree) → HaveKids cs → lifts labels cs (label_at labels label) ≡ false
    → let l = label_at labels label in nodes_left labels later cs (node l (kids_from k ts) ∷ drop k ts)
    ≡ nodes_left labels false (around k 0 label ∷ with_one_less cs) ts ++ (closing l ++ comma later)
node-shown labels later cs label k ts h not =
    let kids : json_kids (kids_from k ts) ≡ back_text false (kids_left labels (around k 0 label) ts) =
    sym (back-kids (take k ts)) ∙ ap (λ xs. back_text false xs) (sym (append-nil (take k ts))) in
    node-opens labels later cs (around k 0 label) ts k (label_at labels label) (kids_from k ts) h not (let z : k + 0 ≡ k = omega arith in z) kids

flat-shown : (labels : List (List ℕ)) (later : Bool) (cs : List Around) (label k : ℕ) (ts : List Tree) → HaveKids cs → lifts labels cs (label_at labels label) ≡ false
    → let l = label_at labels label in nodes_left labels later cs (node l (flattened l (kids_from k ts)) ∷ drop k ts)
    ≡ nodes_left labels false (around 0 k label ∷ with_one_less cs) ts ++ (closing l ++ comma later)
flat-shown labels later cs label k ts h not =
    let l = label_at labels label in
    let ks = flattened l (kids_from k ts) in
    let kids : json_kids ks ≡ back_text false (kids_left labels (around 0 k label) ts) =
    sym (back-kids (lifted l (take k ts)) ∙ ap (λ xs. json_kids (kids_of (reverse xs))) (lifted-back l (take k ts)) ∙ ap json_kids (kids_of-back ks)) in
    node-opens labels later cs (around 0 k label) ts k l ks h not (let z : 0 + k ≡ k = omega arith in z) kids

pub node_back : (text : List ℕ) (labels : List (List ℕ)) (s : Left) (z : Bool) (cs ds : List Around) (label k : ℕ) (old new : List ℕ) → s.inside ≡ false → HaveKids cs
    → NodeBack labels s.later cs (around k 0 label) old z ds new → GoesBack text labels s cs (Node label k) old (outside z) ds new
node_back text labels s z cs ds label k old new out h it ts =
    let l = label_at labels label in
    node-step labels s z cs ds (around k 0 label) (with_entry text labels ts (Node label k)) ts old new (lifts labels cs l) out refl
    (λ not. node-shown labels s.later cs label k ts h not) (λ is. node-lifted labels s.later cs l ts k h is) it

pub flat_back : (text : List ℕ) (labels : List (List ℕ)) (s : Left) (z : Bool) (cs ds : List Around) (label k : ℕ) (old new : List ℕ) → s.inside ≡ false → HaveKids cs
    → NodeBack labels s.later cs (around 0 k label) old z ds new → GoesBack text labels s cs (Flat label k) old (outside z) ds new
flat_back text labels s z cs ds label k old new out h it ts =
    let l = label_at labels label in
    node-step labels s z cs ds (around 0 k label) (with_entry text labels ts (Flat label k)) ts old new (lifts labels cs l) out refl
    (λ not. flat-shown labels s.later cs label k ts h not) (λ is. flat-lifted labels s.later cs l ts k h is) it

-- a node around a leaf: it is written, or its leaf is
lifted-one-less : (labels : List (List ℕ)) (cs : List Around) (m : List ℕ) → lifts labels cs m ≡ true → with_one_less (with_lifted 1 0 cs) ≡ with_one_less cs
lifted-one-less labels [] m is = true_no is
lifted-one-less labels (c ∷ cs) m is = ap (λ d. d ∷ cs) (one c.plain c.flat c.label is)
  where
    one : (p f l : ℕ) → (is_zero p && bytes_eq m (label_at labels l)) ≡ true → one_less 1 (0 + less f) l ≡ one_less p f l
    one zero zero l it = refl
    one zero (suc n) l it = ap (λ k. around 0 k l) (let e : 0 + n ≡ n = omega arith in e)
    one (suc p) f l it = true_no it

lifted-kids : (cs : List Around) → HaveKids (with_lifted 1 0 cs)
lifted-kids [] = tt
lifted-kids (c ∷ cs) = omega arith

single-step : (labels : List (List ℕ)) (later : Bool) (cs : List Around) (l x : List ℕ) (ts : List Tree) (b : Bool) → HaveKids cs → lifts labels cs l ≡ b
    → nodes_left labels later cs (node l (tree (leaf x) no_trees) ∷ ts)
    ≡ nodes_left labels true (with_one_less cs) ts ++ (cond b (quoted x) (codes "{\"kids\":[" ++ (quoted x ++ closing l)) ++ comma later)
single-step labels later cs l x ts false h is =
    shown labels later cs (node l (tree (leaf x) no_trees)) ts h (stays-node labels cs l (tree (leaf x) no_trees) ts h is)
    ∙ ap (λ ys. nodes_left labels true (with_one_less cs) ts ++ ((codes "{\"kids\":[" ++ (ys ++ closing l)) ++ comma later)) (append-nil (quoted x))
single-step labels later cs l x ts true h is =
    node-lifted labels later cs l (leaf x ∷ ts) 1 h is
    ∙ shown labels later (with_lifted 1 0 cs) (leaf x) ts (lifted-kids cs) (stays-leaf labels (with_lifted 1 0 cs) x ts (lifted-kids cs))
    ∙ ap (λ ds. nodes_left labels true ds ts ++ (quoted x ++ comma later)) (lifted-one-less labels cs l is)

pub single_back : (text : List ℕ) (labels : List (List ℕ)) (s z : Left) (cs ds : List Around) (label from to : ℕ) (b : Bool) (old new : List ℕ) → s.inside ≡ false
    → HaveKids cs → lifts labels cs (label_at labels label) ≡ b → z ≡ outside true → ds ≡ with_one_less cs
    → new ≡ single_text_if b text labels label from to ++ (comma s.later ++ old)
    → GoesBack text labels s cs (Single label from to) old z ds new
single_back text labels s z cs ds label from to b old new out h at is e n ts =
    let x = text_between text from to in
    let l = label_at labels label in
    let us = node l (tree (leaf x) no_trees) ∷ ts in
    let xs = left_text labels s cs us in
    let own = single_text_if b text labels label from to in
    let left = nodes_left labels true ds ts in
    let so : xs ≡ left ++ (own ++ comma s.later) =
    ap (λ b. cond b (joined_left labels s.joined cs us) (nodes_left labels s.later cs us)) out
    ∙ single-step labels s.later cs l x ts b h at
    ∙ ap (λ ys. nodes_left labels true ys ts ++ (own ++ comma s.later)) (sym e) in
    with_left labels (xs ++ old) (outside true) z ds ts new is (before xs left own (comma s.later) old new so n)
