-- A leaf is read in one way, and where it is, it doesn't refuse.
use Rattle.std.proofs.Common.{◌≡◌, ℕ, suc, List, [], ◌∷◌, refl, sym, ap, subst, ◌∙◌, length}
use Rattle.pg_tree.specs.Trees.{Tree}
use Rattle.pg_grammar_form.specs.Operators.{Operator}
use Rattle.pg_grammar_form.specs.declared.class.ClassPart.{ClassPart}
use Rattle.pg_grammar_form.specs.declared.form.Leaf.{Leaf}
use Rattle.pg_grammar_form.specs.declared.operators_item.OperatorsItem.{OperatorsItem}
use Rattle.pg_grammar_form.specs.declared.word_item.WordItem.{WordItem}
use Rattle.pg_grammar_value.specs.Grammar.{Grammar}
use Rattle.pg_table.specs.Tables.{Admits, with_operator}
use Rattle.pg_language.specs.Runs.{run_at, HasAt, IsWordAt, IsDeclarationAt}
use Rattle.pg_language.specs.Declarations.{declared}
use Rattle.pg_language.specs.Derives.{Spot, after, leaf_of, declaration_tree, Reads, satisfy, string, word, not_followed_by, end_of_text, declare}
use Rattle.pg_language.proofs.KeywordsRead.{declaration_read}
use Rattle.pg_trail_replay.specs.declared.replay_fault.Mismatch.{Mismatch}
use Rattle.pg_trail_replay.specs.Refusals.{LeafRefuses, text_differs, not_admitted}

-- both end at the same spot, with the same forest
pub record SameRead (b c : Spot) (v w : List Tree) : Type 0 where
  pub spots : b ≡ c
  pub forests : v ≡ w

one_character : (g : Grammar) (text : List ℕ) (class : List ClassPart) (i : ℕ) (x y : HasAt g text class i) → x.character ≡ y.character
one_character g text class i x y = let one = x.there in let other = y.there in cc

one_word : (g : Grammar) (text : List ℕ) (item other : WordItem) (i : ℕ) (s t : List ℕ) → item ≡ other → IsWordAt g text item i s → IsWordAt g text other i t → s ≡ t
one_word g text item other i s t e x y =
    let one = x.there in
    let two = y.there in
    let heads : x.head ≡ y.head = cc in
    x.whole ∙ ap (λ h. h ∷ run_at g text item.rest (suc i)) heads ∙ ap (λ (it : WordItem). y.head ∷ run_at g text it.rest (suc i)) e ∙ sym y.whole

-- a declaration, and where it ends
record SameDeclaration (d f : Operator) (j k : ℕ) : Type 0 where
  operators : d ≡ f
  ends : j ≡ k

one_declaration : (g : Grammar) (text : List ℕ) (item other : OperatorsItem) (class : List ClassPart) (i : ℕ) (d f : Operator) (j k : ℕ) → item ≡ other →
    IsDeclarationAt g text item class d i j → IsDeclarationAt g text other class f i k → SameDeclaration d f j k
one_declaration g text item other class i d f j k e x y =
    let z : IsDeclarationAt g text item class f i k = subst (λ (it : OperatorsItem). IsDeclarationAt g text it class f i k) (sym e) y in
    let same : declared d x.symbol_place j ≡ declared f z.symbol_place k = sym (declaration_read g text item class d i j x) ∙ declaration_read g text item class f i k z in
    record { operators = cc; ends = cc }

same_declared : (a : Spot) (d f : Operator) (j k : ℕ) → SameDeclaration d f j k →
    SameRead (record { place = j; table = with_operator a.table d }) (record { place = k; table = with_operator a.table f }) (declaration_tree d ∷ []) (declaration_tree f ∷ [])
same_declared a d f j k s = record {
  spots =
      ap (λ i. let b : Spot = record { place = i; table = with_operator a.table d } in b) s.ends
      ∙ ap (λ (o : Operator). let b : Spot = record { place = k; table = with_operator a.table o } in b) s.operators;
  forests = ap (λ (o : Operator). declaration_tree o ∷ []) s.operators;
}

pub same_read : {g : Grammar} {text : List ℕ} {l : Leaf ℕ} {a b c : Spot} {v w : List Tree} → Reads g text l a b v → Reads g text l a c w → SameRead b c v w
same_read {g} {text} (satisfy {class = class} {a = a} x) (satisfy y) =
    record { spots = refl; forests = ap (λ c. leaf_of (c ∷ []) ∷ []) (one_character g text class a.place x y) }
same_read (string x) (string y) = record { spots = refl; forests = refl }
same_read {g} {text} (word {item = item} {s = s} {a = a} is x) (word {item = other} {s = t} has y) =
    let same : s ≡ t = one_word g text item other a.place s t (let one : item ≡ other = cc in one) x y in
    record { spots = ap (λ z. after a (length z)) same; forests = ap (λ z. leaf_of z ∷ []) same }
same_read (not_followed_by x) (not_followed_by y) = record { spots = refl; forests = refl }
same_read (end_of_text x) (end_of_text y) = record { spots = refl; forests = refl }
same_read {g} {text} (declare {class = class} {item = item} {d = d} {j = j} {a = a} is x admits) (declare {item = other} {d = f} {j = k} has y also) =
    same_declared a d f j k (one_declaration g text item other class a.place d f j k (let one : item ≡ other = cc in one) x y)

pub not_unread : {g : Grammar} {text : List ℕ} {l : Leaf ℕ} {a b : Spot} {v : List Tree} {why : Mismatch} → Reads g text l a b v → LeafRefuses g text l a why → ⊥
not_unread (satisfy x) (text_differs never) = never x
not_unread (string x) (text_differs never) = never x
not_unread (word {item = item} {s = s} is x) (text_differs never) = never (record { item = item; there = is; word = s; is_word = x })
not_unread (not_followed_by x) (text_differs never) = never x
not_unread (end_of_text x) (text_differs never) = never x
not_unread (declare {item = item} {d = d} {j = j} is x admits) (text_differs never) = never (record { item = item; there = is; declared = d; end = j; is_declaration = x })
not_unread {g} {text} (declare {class = class} {item = item} {d = d} {j = j} {a = a} is x admits) (not_admitted has never) =
    let there = has.there in
    let same = one_declaration g text item has.item class a.place d has.declared j has.end (let one : item ≡ has.item = cc in one) x has.is_declaration in
    never (subst (λ (o : Operator). Admits a.table o) same.operators admits)
