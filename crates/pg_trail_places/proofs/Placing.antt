-- Parts that have a forest's tokens and lie in order are those of a forest with places.
use Rattle.std.proofs.Common.{◌≡◌, ◌≤◌, ℕ, zero, Bool, true, false, List, [], ◌∷◌, ◌++◌, length, map, refl, ap, ap₂, sym, ◌∙◌, append_assoc, subst, codes, if◌then◌else◌, ◌&&◌}
use Rattle.std.proofs.lemmas.List.{append-nil}
use Rattle.pg_tree.specs.Trees.{Tree, Trees, leaf, node, no_trees, tree, kids_of}
use Rattle.pg_trail_places.specs.declared.piece.Piece.{Piece}
use Rattle.pg_trail_places.specs.declared.stretch.Stretch.{Stretch}
use Rattle.pg_trail_places.specs.PlacedTrees.{PlacedTree, PlacedTrees, placed_leaf, placed_node, no_placed, placed, without_place, without_places, stretch_of, IsPlaced, AreWithin}
use Rattle.pg_trail_places.specs.PlacedJson.{leaf_json, head_json, placed_json, placed_kids, placed_rest, IsPlacedPage}
use Rattle.pg_trail_places.specs.Pieces.{Part, leaf_part, open_part, close_part, Token, leaf_token, open_token, close_token, token_of, parts_of, tokens_of, tree_tokens, trees_tokens, placed_parts, placeds_parts, part_json, comma_before, is_end, parts_json}
use Rattle.pg_trail_places.specs.Order.{LieFrom}

-- the placed trees with which parts begin
record Lifted (ts : Trees) (ps : List Part) (rest : List Token) : Type 0 where
  trees : PlacedTrees
  left : List Part
  parts : ps ≡ placeds_parts trees ++ left
  same : without_places trees ≡ ts
  tokens : map token_of left ≡ rest

-- what is behind the end of a node
behind : (ps : List Part) (rest : List Token) → map token_of ps ≡ close_token ∷ rest → (qs : List Part) × (ps ≡ close_part ∷ qs) × (map token_of qs ≡ rest)
behind [] rest e = absurd (cc)
behind (leaf_part own at ∷ ps) rest e = absurd (cc)
behind (open_part own at ∷ ps) rest e = absurd (cc)
behind (close_part ∷ ps) rest e = let f : map token_of ps ≡ rest = cc in (ps, refl, f)

regroup : {A : Type 0} (xs : List A) (y : A) (ys zs : List A) → ((xs ++ y ∷ []) ++ ys) ++ zs ≡ xs ++ y ∷ (ys ++ zs)
regroup xs y ys zs = simp append_assoc

lift : (ts : Trees) (ps : List Part) (rest : List Token) → map token_of ps ≡ trees_tokens ts ++ rest → Lifted ts ps rest
lift no_trees ps rest e = record { trees = no_placed; left = ps; parts = refl; same = refl; tokens = e }
lift (tree (leaf text) ts) [] rest e = absurd (cc)
lift (tree (leaf text) ts) (open_part own at ∷ ps) rest e = absurd (cc)
lift (tree (leaf text) ts) (close_part ∷ ps) rest e = absurd (cc)
lift (tree (leaf text) ts) (leaf_part own at ∷ ps) rest e =
    let same : own ≡ text = cc in
    let more : map token_of ps ≡ trees_tokens ts ++ rest = cc in
    let r = lift ts ps rest more in
    record {
      trees = placed (placed_leaf own at) r.trees;
      left = r.left;
      parts = ap (λ qs. leaf_part own at ∷ qs) r.parts;
      same = ap₂ (λ t us. tree (leaf t) us) same r.same;
      tokens = r.tokens;
    }
lift (tree (node label kids) ts) [] rest e = absurd (cc)
lift (tree (node label kids) ts) (leaf_part own at ∷ ps) rest e = absurd (cc)
lift (tree (node label kids) ts) (close_part ∷ ps) rest e = absurd (cc)
lift (tree (node label kids) ts) (open_part own at ∷ ps) rest e =
    let same : own ≡ label = cc in
    let more : map token_of ps ≡ ((trees_tokens kids ++ close_token ∷ []) ++ trees_tokens ts) ++ rest = cc in
    let r = lift kids ps (close_token ∷ (trees_tokens ts ++ rest)) (more ∙ regroup (trees_tokens kids) close_token (trees_tokens ts) rest) in
    let b = behind r.left (trees_tokens ts ++ rest) r.tokens in
    let q = lift ts b.0 rest b.2 in
    record {
      trees = placed (placed_node own at r.trees) q.trees;
      left = q.left;
      parts =
          ap (λ qs. open_part own at ∷ qs)
          (r.parts ∙ ap (λ qs. placeds_parts r.trees ++ qs) (b.1 ∙ ap (λ qs. close_part ∷ qs) q.parts)
          ∙ sym (regroup (placeds_parts r.trees) close_part (placeds_parts q.trees) q.left));
      same = ap₂ (λ t us. tree t us) (ap₂ (λ l ks. node l ks) same r.same) q.same;
      tokens = q.tokens;
    }

-- the end of the last of some placed trees, and that they lie before each place that isn't before it
record Ordered (text : List ℕ) (at : ℕ) (ends : List ℕ) (ts : PlacedTrees) (rest : List Part) : Type 0 where
  end : ℕ
  within : (to : ℕ) → end ≤ to → AreWithin text at to ts
  left : LieFrom text end ends rest

ordered : (ts : PlacedTrees) (text : List ℕ) (at : ℕ) (ends : List ℕ) (rest : List Part) → LieFrom text at ends (placeds_parts ts ++ rest) → Ordered text at ends ts rest
ordered no_placed text at ends rest h = record { end = at; within = λ to e. e; left = h }
ordered (placed (placed_leaf own s) ts) text at ends rest h =
    let r = ordered ts text s.end ends rest h.1.1.1 in
    record { end = r.end; within = λ to e. (h.0, ((h.1.0, h.1.1.0), r.within to e)); left = r.left }
ordered (placed (placed_node label s kids) ts) text at ends rest h =
    let inside : LieFrom text s.start (s.end ∷ ends) (placeds_parts kids ++ close_part ∷ (placeds_parts ts ++ rest)) =
    subst (λ (ps : List Part). LieFrom text s.start (s.end ∷ ends) ps) (regroup (placeds_parts kids) close_part (placeds_parts ts) rest) h.1 in
    let r = ordered kids text s.start (s.end ∷ ends) (close_part ∷ (placeds_parts ts ++ rest)) inside in
    let q = ordered ts text s.end ends rest r.left.1 in
    record { end = q.end; within = λ to e. (h.0, (r.within s.end r.left.0, q.within to e)); left = q.left }

-- trees with commas between them, and before them where one ends before; and whether one ends then
abbrev comma_if : Bool → List ℕ
comma_if later = if later then codes "," else []

abbrev row : List ℕ → Bool → PlacedTrees → List ℕ
row text later no_placed = []
row text later (placed t ts) = comma_if later ++ (placed_json text t ++ placed_rest text ts)

abbrev after : Bool → PlacedTrees → Bool
after later no_placed = later
after later (placed t ts) = true

row-rest : (text : List ℕ) (ts : PlacedTrees) → row text true ts ≡ placed_rest text ts
row-rest text no_placed = refl
row-rest text (placed t ts) = refl

row-first : (text : List ℕ) (ts : PlacedTrees) → row text false ts ≡ placed_kids text ts
row-first text no_placed = refl
row-first text (placed t ts) = refl

after-true : (ts : PlacedTrees) → after true ts ≡ true
after-true no_placed = refl
after-true (placed t ts) = refl

comma-leaf : (later : Bool) (own : List ℕ) (s : Stretch) → comma_before later (leaf_part own s) ≡ comma_if later
comma-leaf true own s = refl
comma-leaf false own s = refl

comma-open : (later : Bool) (own : List ℕ) (s : Stretch) → comma_before later (open_part own s) ≡ comma_if later
comma-open true own s = refl
comma-open false own s = refl

comma-close : (later : Bool) → comma_before later close_part ≡ []
comma-close true = refl
comma-close false = refl

-- what is printed of the rest, after trees
more_printed : (text : List ℕ) (ts : PlacedTrees) (rest : List Part) → row text true ts ++ parts_json text (after true ts) rest ≡ placed_rest text ts ++ parts_json text true rest
more_printed text ts rest = ap₂ (λ xs b. xs ++ parts_json text b rest) (row-rest text ts) (after-true ts)

grouped : (a b c d e f : List ℕ) → a ++ (b ++ (c ++ (d ++ (e ++ f)))) ≡ (a ++ ((b ++ (c ++ d)) ++ e)) ++ f
grouped a b c d e f = sym (simp append_assoc)

printed : (ts : PlacedTrees) (text : List ℕ) (later : Bool) (rest : List Part)
    → parts_json text later (placeds_parts ts ++ rest) ≡ row text later ts ++ parts_json text (after later ts) rest
printed no_placed text later rest = refl
printed (placed (placed_leaf own s) ts) text later rest =
    let tail = parts_json text true rest in
    ap₂ (λ xs ys. xs ++ (leaf_json text own s ++ ys)) (comma-leaf later own s) (printed ts text true rest ∙ more_printed text ts rest)
    ∙ ap (λ xs. comma_if later ++ xs) (sym (append_assoc (leaf_json text own s) (placed_rest text ts) tail))
    ∙ sym (append_assoc (comma_if later) (leaf_json text own s ++ placed_rest text ts) tail)
printed (placed (placed_node label s kids) ts) text later rest =
    let tail = parts_json text true rest in
    let head = head_json text label s in
    let behind_kids = codes "]}" ++ (placed_rest text ts ++ tail) in
    ap (λ xs. comma_before later (open_part label s) ++ (head ++ xs))
    (ap (λ ps. parts_json text false ps) (regroup (placeds_parts kids) close_part (placeds_parts ts) rest)
    ∙ printed kids text false (close_part ∷ (placeds_parts ts ++ rest))
    ∙ ap₂ (λ xs ys. xs ++ ys) (row-first text kids)
    (ap (λ xs. xs ++ (codes "]}" ++ parts_json text true (placeds_parts ts ++ rest))) (comma-close (after false kids))
    ∙ ap (λ xs. codes "]}" ++ xs) (printed ts text true rest ∙ more_printed text ts rest)))
    ∙ ap (λ xs. xs ++ (head ++ (placed_kids text kids ++ behind_kids))) (comma-open later label s)
    ∙ grouped (comma_if later) head (placed_kids text kids) (codes "]}") (placed_rest text ts) tail

nothing_left : (ps : List Part) → map token_of ps ≡ [] → ps ≡ []
nothing_left [] e = refl
nothing_left (p ∷ ps) e = absurd (cc)

pub placed_of : (text : List ℕ) (forest : List Tree) (pieces : List Piece) (page : List ℕ) → tokens_of pieces ≡ trees_tokens (kids_of forest)
    → LieFrom text 0 [] (parts_of pieces) → page ≡ codes "[" ++ (parts_json text false (parts_of pieces) ++ codes "]\n") → IsPlacedPage text forest page
placed_of text forest pieces page tokens lie written =
    let r = lift (kids_of forest) (parts_of pieces) [] (tokens ∙ sym (append-nil (trees_tokens (kids_of forest)))) in
    let parts : parts_of pieces ≡ placeds_parts r.trees ++ [] = r.parts ∙ ap (λ ps. placeds_parts r.trees ++ ps) (nothing_left r.left r.tokens) in
    let o = ordered r.trees text 0 [] [] (subst (λ (ps : List Part). LieFrom text 0 [] ps) parts lie) in
    record {
      trees = r.trees;
      same = r.same;
      within = o.within (length text) o.left;
      written =
          written ∙ ap (λ xs. codes "[" ++ (xs ++ codes "]\n"))
          (ap (λ ps. parts_json text false ps) parts ∙ printed r.trees text false [] ∙ append-nil (row text false r.trees) ∙ row-first text r.trees);
    }
