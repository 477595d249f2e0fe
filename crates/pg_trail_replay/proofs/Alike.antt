-- Forests that are alike: the same, or the same as they are flattened, or of the same text, or any two, as loose as trees are.
use Rattle.std.proofs.Common.{◌≡◌, ℕ, Bool, true, false, List, [], ◌∷◌, ◌++◌, refl, sym, ap, ◌∙◌, append-nil, append_assoc, subst, if◌then◌else◌}
use Rattle.std.specs.Str.{bytes_eq}
use Rattle.std.proofs.lemmas.Slice.Eq.{bytes_eq-Decides}
use Rattle.pg_tree.specs.Trees.{Tree, Trees, leaf, node, no_trees, tree, kids_of}
use Rattle.pg_tree.specs.Built.{tree_text, kids_text, with_kids, flattened, built}
use Rattle.pg_tree.specs.declared.shape.Shape.{Shape}
use Rattle.pg_tree.specs.declared.shape.Shape.TheVariants as shaped
use Rattle.pg_tree.proofs.Flattening.{with_kids-assoc, with_kids-no_trees}
use Rattle.pg_grammar_form.specs.declared.form.Around.{Around}
use Rattle.pg_grammar_form.specs.declared.form.Around.TheVariants as kind
use Rattle.pg_grammar_form.specs.declared.side.Side.{Side}
use Rattle.pg_grammar_form.specs.declared.side.Side.TheVariants.{Left, Right}
use Rattle.pg_language.specs.Derives.{Link, folded, made_by}
use Rattle.pg_trail_replay.specs.Tasks.{Looseness, tight, apart, only_text, dropped, as_kids, as_flat, as_joined, inside, inside_form, is_steady, has_label, makes_node, leaves_out, is_dropped, made_of, given_by}

-- ---- texts of lists

-- the text of the trees of a list
abbrev pub text_in : List Tree → List ℕ
text_in w = kids_text (kids_of w)

pub text_append : (v w : List Tree) → text_in (v ++ w) ≡ text_in v ++ text_in w
text_append [] w = refl
text_append (t ∷ v) w = ap (λ x. tree_text t ++ x) (text_append v w) ∙ sym (append_assoc (tree_text t) (text_in v) (text_in w))

joined_text : (ks ts : Trees) → kids_text (with_kids ks ts) ≡ kids_text ks ++ kids_text ts
joined_text no_trees ts = refl
joined_text (tree k ks) ts = ap (λ x. tree_text k ++ x) (joined_text ks ts) ∙ sym (append_assoc (tree_text k) (kids_text ks) (kids_text ts))

flat_text : (label : List ℕ) (ts : Trees) → kids_text (flattened label ts) ≡ kids_text ts
flat_text label no_trees = refl
flat_text label (tree (leaf t) ts) = ap (λ x. t ++ x) (flat_text label ts)
flat_text label (tree (node other kids) ts) = go (bytes_eq other label) (flat_text label ts)
  where
    go : (b : Bool) → kids_text (flattened label ts) ≡ kids_text ts →
        kids_text (if b then with_kids kids (flattened label ts) else tree (node other kids) (flattened label ts)) ≡ kids_text kids ++ kids_text ts
    go true h = joined_text kids (flattened label ts) ∙ ap (λ x. kids_text kids ++ x) h
    go false h = ap (λ x. kids_text kids ++ x) h

-- a tree has the text of those from which it is built
pub built_text : (shape : Shape) (symbol : List ℕ) (w : List Tree) → text_in (built shape symbol w ∷ []) ≡ text_in w
built_text (shaped.Node label) symbol w = append-nil (text_in w)
built_text shaped.Symbol symbol w = append-nil (text_in w)
built_text shaped.Join symbol w = append-nil (text_in w)
built_text (shaped.Flat label) symbol w = append-nil (kids_text (flattened label (kids_of w))) ∙ flat_text label (kids_of w)

-- ---- kids of lists

-- the kids of a list of trees, as they are flattened
abbrev pub flat_of : List ℕ → List Tree → Trees
flat_of label w = flattened label (kids_of w)

flat_append : (label : List ℕ) (v w : List Tree) → flat_of label (v ++ w) ≡ with_kids (flat_of label v) (flat_of label w)
flat_append label [] w = refl
flat_append label (leaf t ∷ v) w = ap (λ x. tree (leaf t) x) (flat_append label v w)
flat_append label (node other kids ∷ v) w = go (bytes_eq other label) (flat_append label v w)
  where
    go : (b : Bool) → flat_of label (v ++ w) ≡ with_kids (flat_of label v) (flat_of label w) →
        (if b then with_kids kids (flat_of label (v ++ w)) else tree (node other kids) (flat_of label (v ++ w)))
        ≡ with_kids (if b then with_kids kids (flat_of label v) else tree (node other kids) (flat_of label v)) (flat_of label w)
    go true h = ap (λ x. with_kids kids x) h ∙ sym (with_kids-assoc kids (flat_of label v) (flat_of label w))
    go false h = ap (λ x. tree (node other kids) x) h

-- ---- what is alike

-- the same, or the same as they are flattened, or of the same text, or any two, as loose as trees are
abbrev pub IsAlike : Looseness → List Tree → List Tree → Type 0
IsAlike tight x w = x ≡ w
IsAlike (apart label) x w = flat_of label x ≡ flat_of label w
IsAlike only_text x w = text_in x ≡ text_in w
IsAlike dropped x w = Unit {0}

-- at this looseness one forest can stand for the other
pub record Alike (loose : Looseness) (x w : List Tree) : Type 0 where
  pub is : IsAlike loose x w

pub is_same : (loose : Looseness) (x w : List Tree) → x ≡ w → IsAlike loose x w
is_same tight x w e = e
is_same (apart label) x w e = ap (flat_of label) e
is_same only_text x w e = ap text_in e
is_same dropped x w e = tt

pub alike_same : (loose : Looseness) (x w : List Tree) → x ≡ w → Alike loose x w
alike_same loose x w e = record { is = is_same loose x w e }

is_through : (loose : Looseness) (x y w : List Tree) → IsAlike loose x y → IsAlike loose y w → IsAlike loose x w
is_through tight x y w e f = e ∙ f
is_through (apart label) x y w e f = e ∙ f
is_through only_text x y w e f = e ∙ f
is_through dropped x y w e f = tt

is_both : (loose : Looseness) (v w x y : List Tree) → IsAlike loose v w → IsAlike loose x y → IsAlike loose (v ++ x) (w ++ y)
is_both tight v w x y e f = ap (λ z. z ++ x) e ∙ ap (λ z. w ++ z) f
is_both (apart label) v w x y e f =
    flat_append label v x ∙ ap (λ z. with_kids z (flat_of label x)) e ∙ ap (λ z. with_kids (flat_of label w) z) f ∙ sym (flat_append label w y)
is_both only_text v w x y e f = text_append v x ∙ ap (λ z. z ++ text_in x) e ∙ ap (λ z. text_in w ++ z) f ∙ sym (text_append w y)
is_both dropped v w x y e f = tt

pub alike_both : (loose : Looseness) (v w x y : List Tree) → Alike loose v w → Alike loose x y → Alike loose (v ++ x) (w ++ y)
alike_both loose v w x y h k = record { is = is_both loose v w x y h.is k.is }

-- a tree of alike trees, as loose as they are in it
is_node : (loose : Looseness) (shape : Shape) (symbol : List ℕ) (x w : List Tree) → IsAlike (as_kids loose) x w → IsAlike loose (built shape symbol x ∷ []) (built shape symbol w ∷ [])
is_node tight shape symbol x w e = ap (λ z. built shape symbol z ∷ []) e
is_node (apart label) shape symbol x w e = is_same (apart label) (built shape symbol x ∷ []) (built shape symbol w ∷ []) (ap (λ z. built shape symbol z ∷ []) e)
is_node only_text shape symbol x w e = built_text shape symbol x ∙ e ∙ sym (built_text shape symbol w)
is_node dropped shape symbol x w e = tt

is_flat : (loose : Looseness) (label symbol : List ℕ) (x w : List Tree) → IsAlike (as_flat label loose) x w → IsAlike loose (built (shaped.Flat label) symbol x ∷ []) (built (shaped.Flat label) symbol w ∷ [])
is_flat tight label symbol x w e = ap (λ ks. node label ks ∷ []) e
is_flat (apart other) label symbol x w e = is_same (apart other) (built (shaped.Flat label) symbol x ∷ []) (built (shaped.Flat label) symbol w ∷ []) (ap (λ ks. node label ks ∷ []) e)
is_flat only_text label symbol x w e = built_text (shaped.Flat label) symbol x ∙ e ∙ sym (built_text (shaped.Flat label) symbol w)
is_flat dropped label symbol x w e = tt

is_joined : (loose : Looseness) (symbol : List ℕ) (x w : List Tree) → IsAlike (as_joined loose) x w → IsAlike loose (built shaped.Join symbol x ∷ []) (built shaped.Join symbol w ∷ [])
is_joined tight symbol x w e = ap (λ t. leaf t ∷ []) e
is_joined (apart label) symbol x w e = is_same (apart label) (leaf (text_in x) ∷ []) (leaf (text_in w) ∷ []) (ap (λ t. leaf t ∷ []) e)
is_joined only_text symbol x w e = is_same only_text (leaf (text_in x) ∷ []) (leaf (text_in w) ∷ []) (ap (λ t. leaf t ∷ []) e)
is_joined dropped symbol x w e = tt

is_shaped : (loose : Looseness) (shape : Shape) (symbol : List ℕ) (x w : List Tree) → IsAlike (inside shape loose) x w → IsAlike loose (built shape symbol x ∷ []) (built shape symbol w ∷ [])
is_shaped loose (shaped.Node label) symbol x w e = is_node loose (shaped.Node label) symbol x w e
is_shaped loose shaped.Symbol symbol x w e = is_node loose shaped.Symbol symbol x w e
is_shaped loose shaped.Join symbol x w e = is_joined loose symbol x w e
is_shaped loose (shaped.Flat label) symbol x w e = is_flat loose label symbol x w e

pub alike_shaped : (loose : Looseness) (shape : Shape) (symbol : List ℕ) (x w : List Tree) → Alike (inside shape loose) x w → Alike loose (built shape symbol x ∷ []) (built shape symbol w ∷ [])
alike_shaped loose shape symbol x w h = record { is = is_shaped loose shape symbol x w h.is }

inside_twice : (shape : Shape) (loose : Looseness) → inside shape (inside shape loose) ≡ inside shape loose
inside_twice (shaped.Node label) tight = refl
inside_twice (shaped.Node label) (apart other) = refl
inside_twice (shaped.Node label) only_text = refl
inside_twice (shaped.Node label) dropped = refl
inside_twice shaped.Symbol tight = refl
inside_twice shaped.Symbol (apart other) = refl
inside_twice shaped.Symbol only_text = refl
inside_twice shaped.Symbol dropped = refl
inside_twice shaped.Join tight = refl
inside_twice shaped.Join (apart other) = refl
inside_twice shaped.Join only_text = refl
inside_twice shaped.Join dropped = refl
inside_twice (shaped.Flat label) tight = refl
inside_twice (shaped.Flat label) (apart other) = refl
inside_twice (shaped.Flat label) only_text = refl
inside_twice (shaped.Flat label) dropped = refl

-- a tree of such a shape again
alike_again : (loose : Looseness) (shape : Shape) (symbol : List ℕ) (x w : List Tree) → Alike (inside shape loose) x w → Alike (inside shape loose) (built shape symbol x ∷ []) (built shape symbol w ∷ [])
alike_again loose shape symbol x w h = alike_shaped (inside shape loose) shape symbol x w (subst (λ m. Alike m x w) (sym (inside_twice shape loose)) h)

-- ---- forms around a part

is_made : (k : Around) (loose : Looseness) (text : List ℕ) (from to : ℕ) (x w : List Tree) → IsAlike (inside_form k loose) x w → IsAlike loose (made_by k text from to x) (made_by k text from to w)
is_made kind.Try loose text from to x w e = e
is_made kind.Text loose text from to x w e = is_same loose (made_by kind.Text text from to x) (made_by kind.Text text from to w) refl
is_made kind.Skip loose text from to x w e = is_same loose [] [] refl
is_made (kind.Build used symbol) loose text from to x w e = is_shaped loose used.shape symbol x w e
is_made (kind.Label message) loose text from to x w e = e
is_made kind.Local loose text from to x w e = e

-- a node without kids that is taken apart
kidless : (other : List ℕ) (b : Bool) → b ≡ true → no_trees ≡ (if b then with_kids no_trees no_trees else tree (node other no_trees) no_trees)
kidless other true e = refl
kidless other false e = absurd cc

shape_left_out : (label : List ℕ) (shape : Shape) (symbol : List ℕ) → has_label shape symbol label ≡ true → IsAlike (apart label) [] (built shape symbol [] ∷ [])
shape_left_out label (shaped.Node other) symbol e = kidless other (bytes_eq other label) e
shape_left_out label shaped.Symbol symbol e = kidless symbol (bytes_eq symbol label) e
shape_left_out label shaped.Join symbol e = absurd cc
shape_left_out label (shaped.Flat other) symbol e = kidless other (bytes_eq other label) e

node_left_out : (k : Around) (label text : List ℕ) (from to : ℕ) → makes_node k label ≡ true → IsAlike (apart label) [] (made_by k text from to [])
node_left_out kind.Try label text from to e = absurd cc
node_left_out kind.Text label text from to e = absurd cc
node_left_out kind.Skip label text from to e = absurd cc
node_left_out (kind.Build used symbol) label text from to e = shape_left_out label used.shape symbol e
node_left_out (kind.Label message) label text from to e = absurd cc
node_left_out kind.Local label text from to e = absurd cc

is_left_out : (k : Around) (loose : Looseness) (text : List ℕ) (from to : ℕ) → leaves_out k loose ≡ true → IsAlike loose [] (made_by k text from to [])
is_left_out k tight text from to e = absurd cc
is_left_out k (apart label) text from to e = node_left_out k label text from to e
is_left_out k only_text text from to e = absurd cc
is_left_out k dropped text from to e = absurd cc

is_made_of : (k : Around) (loose : Looseness) (text : List ℕ) (from to : ℕ) (x w : List Tree) → IsAlike (inside_form k loose) x w → IsAlike loose (made_of k loose text from to x) (made_by k text from to w)
is_made_of k loose text from to (t ∷ x) w e = is_made k loose text from to (t ∷ x) w e
is_made_of k loose text from to [] w e = go (leaves_out k loose) refl
  where
    go : (b : Bool) → leaves_out k loose ≡ b → IsAlike loose (if b then [] else made_by k text from to []) (made_by k text from to w)
    go true h = is_through loose [] (made_by k text from to []) (made_by k text from to w) (is_left_out k loose text from to h) (is_made k loose text from to [] w e)
    go false h = is_made k loose text from to [] w e

is_given : (k : Around) (loose : Looseness) (text : List ℕ) (from to : ℕ) (x w : List Tree) → IsAlike (inside_form k loose) x w → IsAlike loose (given_by k loose text from to x) (made_by k text from to w)
is_given k tight text from to x w e = is_made_of k tight text from to x w e
is_given k (apart label) text from to x w e = is_made_of k (apart label) text from to x w e
is_given k only_text text from to x w e = is_made_of k only_text text from to x w e
is_given k dropped text from to x w e = tt

pub alike_given : (k : Around) (loose : Looseness) (text : List ℕ) (from to : ℕ) (x w : List Tree) → Alike (inside_form k loose) x w → Alike loose (given_by k loose text from to x) (made_by k text from to w)
alike_given k loose text from to x w h = record { is = is_given k loose text from to x w h.is }

-- ---- rounds of chains

-- rounds that put nothing to what is folded
abbrev pub AreIdle : Looseness → List Link → Type 0
AreIdle loose [] = Unit {0}
AreIdle loose (l ∷ ls) = (Alike loose [] l.0 × Alike loose [] l.1) × AreIdle loose ls

-- rounds that are alike one by one, up to the first of those at the end that put nothing to what the chain makes
pub data AreAlike (shape : Shape) (loose : Looseness) : List Link → List Link → Type 0 where
  no_round : AreAlike shape loose [] []
  one_round : {j l : Link} {js ls : List Link} → Alike loose j.0 l.0 → Alike loose j.1 l.1 → AreAlike shape loose js ls → AreAlike shape loose (j ∷ js) (l ∷ ls)
  idle_rounds : {j l : Link} {ls : List Link} → is_steady shape loose ≡ true → Alike loose j.0 l.0 → Alike loose j.1 l.1 → AreIdle loose (l ∷ ls) → AreAlike shape loose (j ∷ []) (l ∷ ls)

is_back : (loose : Looseness) (x w : List Tree) → IsAlike loose x w → IsAlike loose w x
is_back tight x w e = sym e
is_back (apart label) x w e = sym e
is_back only_text x w e = sym e
is_back dropped x w e = tt

alike_back : (loose : Looseness) (x w : List Tree) → Alike loose x w → Alike loose w x
alike_back loose x w h = record { is = is_back loose x w h.is }

alike_through : (loose : Looseness) (x y w : List Tree) → Alike loose x y → Alike loose y w → Alike loose x w
alike_through loose x y w h k = record { is = is_through loose x y w h.is k.is }

alike_three : (loose : Looseness) (u v w x y z : List Tree) → Alike loose u x → Alike loose v y → Alike loose w z → Alike loose (u ++ v ++ w) (x ++ y ++ z)
alike_three loose u v w x y z h k l = alike_both loose (u ++ v) (x ++ y) w z (alike_both loose u x v y h k) l

own_label : (label : List ℕ) (ks : Trees) → flattened label (tree (node label ks) no_trees) ≡ ks
own_label label ks = go (bytes_eq label label) ((bytes_eq-Decides label label).1 refl)
  where
    go : (b : Bool) → b ≡ true → (if b then with_kids ks no_trees else tree (node label ks) no_trees) ≡ ks
    go true e = with_kids-no_trees ks
    go false e = absurd cc

is_text_twice : (shape : Shape) (z : List Tree) → text_in (built shape [] z ∷ []) ≡ text_in (built shape [] (built shape [] z ∷ []) ∷ [])
is_text_twice shape z = sym (built_text shape [] (built shape [] z ∷ []))

-- what is made again of itself stays as it is
is_twice : (loose : Looseness) (shape : Shape) (z : List Tree) → is_steady shape (inside shape loose) ≡ true → IsAlike loose (built shape [] z ∷ []) (built shape [] (built shape [] z ∷ []) ∷ [])
is_twice tight (shaped.Node label) z e = absurd cc
is_twice (apart other) (shaped.Node label) z e = absurd cc
is_twice only_text (shaped.Node label) z e = is_text_twice (shaped.Node label) z
is_twice dropped (shaped.Node label) z e = tt
is_twice tight shaped.Symbol z e = absurd cc
is_twice (apart other) shaped.Symbol z e = absurd cc
is_twice only_text shaped.Symbol z e = is_text_twice shaped.Symbol z
is_twice dropped shaped.Symbol z e = tt
is_twice loose shaped.Join z e = is_same loose (leaf (text_in z) ∷ []) (leaf (text_in z ++ []) ∷ []) (ap (λ t. leaf t ∷ []) (sym (append-nil (text_in z))))
is_twice loose (shaped.Flat label) z e =
    is_same loose (built (shaped.Flat label) [] z ∷ []) (built (shaped.Flat label) [] (built (shaped.Flat label) [] z ∷ []) ∷ []) (ap (λ ks. node label ks ∷ []) (sym (own_label label (flat_of label z))))

-- and so it does where nothing is put to it
alike_steady : (loose : Looseness) (shape : Shape) (z u y : List Tree) → is_steady shape (inside shape loose) ≡ true → Alike (inside shape loose) [] u → Alike (inside shape loose) [] y →
    Alike loose (built shape [] z ∷ []) (built shape [] (built shape [] z ∷ [] ++ u ++ y) ∷ [])
alike_steady loose shape z u y e h k =
    let one : List Tree = built shape [] z ∷ [] in
    alike_through loose one (built shape [] one ∷ []) (built shape [] (one ++ u ++ y) ∷ []) (record { is = is_twice loose shape z e })
    (alike_shaped loose shape [] one (one ++ u ++ y)
    (alike_three (inside shape loose) one [] [] one u y (alike_same (inside shape loose) one one refl) h k))

-- what is made of nothing is nothing
is_nothing : (loose : Looseness) (shape : Shape) (z : List Tree) → is_steady shape (inside shape loose) ≡ true → IsAlike (inside shape loose) [] z → IsAlike (inside shape loose) [] (built shape [] z ∷ [])
is_nothing tight (shaped.Node label) z e h = absurd cc
is_nothing (apart other) (shaped.Node label) z e h = absurd cc
is_nothing only_text (shaped.Node label) z e h = h ∙ sym (built_text (shaped.Node label) [] z)
is_nothing dropped (shaped.Node label) z e h = tt
is_nothing tight shaped.Symbol z e h = absurd cc
is_nothing (apart other) shaped.Symbol z e h = absurd cc
is_nothing only_text shaped.Symbol z e h = h ∙ sym (built_text shaped.Symbol [] z)
is_nothing dropped shaped.Symbol z e h = tt
is_nothing tight shaped.Join z e h = h ∙ sym (built_text shaped.Join [] z)
is_nothing (apart other) shaped.Join z e h = h ∙ sym (built_text shaped.Join [] z)
is_nothing only_text shaped.Join z e h = h ∙ sym (built_text shaped.Join [] z)
is_nothing dropped shaped.Join z e h = tt
is_nothing tight (shaped.Flat label) z e h = h ∙ sym (own_label label (flat_of label z))
is_nothing (apart other) (shaped.Flat label) z e h = h ∙ sym (own_label label (flat_of label z))
is_nothing only_text (shaped.Flat label) z e h = h ∙ sym (built_text (shaped.Flat label) [] z)
is_nothing dropped (shaped.Flat label) z e h = tt

idle_right : (loose : Looseness) (shape : Shape) (y : List Tree) (ls : List Link) → is_steady shape (inside shape loose) ≡ true → Alike (inside shape loose) [] y → AreIdle (inside shape loose) ls →
    Alike (inside shape loose) [] (folded Right shape y ls)
idle_right loose shape y [] e h i = h
idle_right loose shape y (l ∷ ls) e h i =
    let z : List Tree = folded Right shape l.1 ls in
    let all = alike_three (inside shape loose) [] [] [] y l.0 z h i.0.0 (idle_right loose shape l.1 ls e i.0.1 i.1) in
    record { is = is_nothing loose shape (y ++ l.0 ++ z) e all.is }

idle_left : (loose : Looseness) (shape : Shape) (z : List Tree) (ls : List Link) → is_steady shape (inside shape loose) ≡ true → AreIdle (inside shape loose) ls →
    Alike loose (built shape [] z ∷ []) (folded Left shape (built shape [] z ∷ []) ls)
idle_left loose shape z [] e i = alike_same loose (built shape [] z ∷ []) (built shape [] z ∷ []) refl
idle_left loose shape z (l ∷ ls) e i =
    let more : List Tree = built shape [] z ∷ [] ++ l.0 ++ l.1 in
    alike_through loose (built shape [] z ∷ []) (built shape [] more ∷ []) (folded Left shape (built shape [] more ∷ []) ls) (alike_steady loose shape z l.0 l.1 e i.0.0 i.0.1)
    (idle_left loose shape more ls e i.1)

-- the operand of an idle round stands for all after it
idle_operand : (loose : Looseness) (shape : Shape) (j l : Link) (ls : List Link) → is_steady shape (inside shape loose) ≡ true → Alike (inside shape loose) j.1 l.1 → AreIdle (inside shape loose) (l ∷ ls) →
    Alike (inside shape loose) j.1 (folded Right shape l.1 ls)
idle_operand loose shape j l ls e q i =
    alike_through (inside shape loose) j.1 l.1 (folded Right shape l.1 ls) q
    (alike_through (inside shape loose) l.1 [] (folded Right shape l.1 ls) (alike_back (inside shape loose) [] l.1 i.0.1) (idle_right loose shape l.1 ls e i.0.1 i.1))

-- what is folded so that it will be folded again
folded_again : (loose : Looseness) (shape : Shape) (x w : List Tree) {js ls : List Link} → Alike (inside shape loose) x w → AreAlike shape (inside shape loose) js ls →
    Alike (inside shape loose) (folded Right shape x js) (folded Right shape w ls)
folded_again loose shape x w e no_round = e
folded_again loose shape x w e (one_round {j = j} {l = l} {js = js} {ls = ls} p q h) =
    let y : List Tree = folded Right shape j.1 js in
    let z : List Tree = folded Right shape l.1 ls in
    alike_again loose shape [] (x ++ j.0 ++ y) (w ++ l.0 ++ z) (alike_three (inside shape loose) x j.0 y w l.0 z e p (folded_again loose shape j.1 l.1 q h))
folded_again loose shape x w e (idle_rounds {j = j} {l = l} {ls = ls} s p q i) =
    let z : List Tree = folded Right shape l.1 ls in
    alike_again loose shape [] (x ++ j.0 ++ j.1) (w ++ l.0 ++ z) (alike_three (inside shape loose) x j.0 j.1 w l.0 z e p (idle_operand loose shape j l ls s q i))

-- what idle rounds are folded to
pub alike_idle : (loose : Looseness) (side : Side) (shape : Shape) (x w : List Tree) (j l : Link) (ls : List Link) → is_steady shape (inside shape loose) ≡ true → Alike (inside shape loose) x w →
    Alike (inside shape loose) j.0 l.0 → Alike (inside shape loose) j.1 l.1 → AreIdle (inside shape loose) (l ∷ ls) → Alike loose (folded side shape x (j ∷ [])) (folded side shape w (l ∷ ls))
alike_idle loose Left shape x w j l ls s e p q i =
    let y : List Tree = x ++ j.0 ++ j.1 in
    let z : List Tree = w ++ l.0 ++ l.1 in
    alike_through loose (built shape [] y ∷ []) (built shape [] z ∷ []) (folded Left shape (built shape [] z ∷ []) ls)
    (alike_shaped loose shape [] y z (alike_three (inside shape loose) x j.0 j.1 w l.0 l.1 e p q)) (idle_left loose shape z ls s i.1)
alike_idle loose Right shape x w j l ls s e p q i =
    let z : List Tree = folded Right shape l.1 ls in
    alike_shaped loose shape [] (x ++ j.0 ++ j.1) (w ++ l.0 ++ z) (alike_three (inside shape loose) x j.0 j.1 w l.0 z e p (idle_operand loose shape j l ls s q i))

folded_left : (loose : Looseness) (shape : Shape) (x w : List Tree) {js ls : List Link} → Alike (inside shape loose) x w → AreAlike shape (inside shape loose) js ls →
    Alike loose (folded Left shape (built shape [] x ∷ []) js) (folded Left shape (built shape [] w ∷ []) ls)
folded_left loose shape x w e no_round = alike_shaped loose shape [] x w e
folded_left loose shape x w e (one_round {j = j} {l = l} p q h) =
    folded_left loose shape (built shape [] x ∷ [] ++ j.0 ++ j.1) (built shape [] w ∷ [] ++ l.0 ++ l.1)
    (alike_three (inside shape loose) (built shape [] x ∷ []) j.0 j.1 (built shape [] w ∷ []) l.0 l.1 (alike_again loose shape [] x w e) p q) h
folded_left loose shape x w e (idle_rounds {j = j} {l = l} {ls = ls} s p q i) =
    alike_idle loose Left shape (built shape [] x ∷ []) (built shape [] w ∷ []) j l ls s (alike_again loose shape [] x w e) p q i

-- what at least one round is folded to
pub alike_folded : (loose : Looseness) (side : Side) (shape : Shape) (x w : List Tree) (j l : Link) {js ls : List Link} → Alike (inside shape loose) x w → Alike (inside shape loose) j.0 l.0 →
    Alike (inside shape loose) j.1 l.1 → AreAlike shape (inside shape loose) js ls → Alike loose (folded side shape x (j ∷ js)) (folded side shape w (l ∷ ls))
alike_folded loose Left shape x w j l e p q h =
    folded_left loose shape (x ++ j.0 ++ j.1) (w ++ l.0 ++ l.1) (alike_three (inside shape loose) x j.0 j.1 w l.0 l.1 e p q) h
alike_folded loose Right shape x w j l {js} {ls} e p q h =
    let y : List Tree = folded Right shape j.1 js in
    let z : List Tree = folded Right shape l.1 ls in
    alike_shaped loose shape [] (x ++ j.0 ++ y) (w ++ l.0 ++ z) (alike_three (inside shape loose) x j.0 y w l.0 z e p (folded_again loose shape j.1 l.1 q h))
