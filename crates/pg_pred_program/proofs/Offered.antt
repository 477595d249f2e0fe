-- The program's registry, entry by entry, and that the names in it differ.
use Rattle.std.proofs.Common.{◌≡◌, ◌∙◌, ◌<◌, ◌+◌, ℕ, false, List, [], ◌∷◌, ◌++◌, length, map, take, get_or, refl, sym, ap, subst₂}
use Rattle.std.proofs.lemmas.List.{take_more, map-append}
use Rattle.std.specs.List.{AllZip}
use Rattle.pg_class.specs.Ranges.{Range}
use Rattle.pg_tree.specs.declared.shape.Shape.{Shape}
use Rattle.pg_pred.specs.Names.{Name, has_twice}
use Rattle.pg_pred_program.specs.Builders.{builder_shapes}
use Rattle.pg_pred_program.specs.Categories.{HasJust}
use Rattle.pg_pred_program.specs.Kinds.{is_of, kind_name, all_kinds, IsEntryOf, AreOfAllKinds}
use Rattle.pg_pred_program.specs.declared.kind.Kind.{Kind}

-- one kind more, with its entry
entries-push : (kinds : List Kind) (entries : List (Name × List Range)) (kind : Kind) (entry : Name × List Range)
    → AllZip IsEntryOf kinds entries → IsEntryOf kind entry → AllZip IsEntryOf (kinds ++ kind ∷ []) (entries ++ entry ∷ [])
entries-push [] [] kind entry all one = (one, tt)
entries-push [] (e ∷ entries) kind entry all one = absurd all
entries-push (k ∷ kinds) [] kind entry all one = absurd all
entries-push (k ∷ kinds) (e ∷ entries) kind entry all one = (all.0, entries-push kinds entries kind entry all.1 one)

-- the next kind, with what was made for it
pub kinds_more : {P : Type 0} (kinds : List Kind) (ps all : List P) (name : P → Name) (class : P → List Range) (n : ℕ) (kind : Kind) (p : P)
    → n < length kinds → kind ≡ get_or kinds n kind → all ≡ ps ++ p ∷ []
    → name p ≡ kind_name kind → HasJust (class p) (is_of kind)
    → AllZip IsEntryOf (take n kinds) (map (λ q. (name q, class q)) ps)
    → AllZip IsEntryOf (take (n + 1) kinds) (map (λ q. (name q, class q)) all)
kinds_more {P = P} kinds ps all name class n kind p below item pushed named just before =
    let entry : P → Name × List Range = λ q. (name q, class q) in
    let front : take (n + 1) kinds ≡ take n kinds ++ kind ∷ [] = take_more kinds n kind below ∙ ap (λ k. take n kinds ++ k ∷ []) (sym item) in
    let entries : map entry all ≡ map entry ps ++ entry p ∷ [] = ap (map entry) pushed ∙ map-append entry ps (p ∷ []) in
    subst₂ (AllZip IsEntryOf) (sym front) (sym entries) (entries-push (take n kinds) (map entry ps) kind (entry p) before (named, just))

-- the names of entries are those of the kinds
names_of : {P : Type 0} (kinds : List Kind) (ps : List P) (name : P → Name) (class : P → List Range)
    → AllZip IsEntryOf kinds (map (λ p. (name p, class p)) ps) → map name ps ≡ map kind_name kinds
names_of [] [] name class all = refl
names_of [] (p ∷ ps) name class all = absurd all
names_of (k ∷ kinds) [] name class all = absurd all
names_of (k ∷ kinds) (p ∷ ps) name class all = λ i. all.0.0 i ∷ names_of kinds ps name class all.1 i

-- the names of the kinds differ
pub predicates_differ : {P : Type 0} (ps : List P) (name : P → Name) (class : P → List Range)
    → AreOfAllKinds (map (λ p. (name p, class p)) ps) → has_twice (map name ps) ≡ false
predicates_differ ps name class all = ap has_twice (names_of all_kinds ps name class all)

-- the name of an entry
abbrev pub first : Name × Shape → Name
first entry = entry.0

firsts : {B : Type 0} (bs : List B) (name : B → Name) (shape : B → Shape)
    → map name bs ≡ map first (map {B = Name × Shape} (λ b. (name b, shape b)) bs)
firsts [] name shape = refl
firsts (b ∷ bs) name shape = λ i. name b ∷ firsts bs name shape i

-- the names of the builders differ
pub builders_differ : {B : Type 0} (bs : List B) (name : B → Name) (shape : B → Shape)
    → map {B = Name × Shape} (λ b. (name b, shape b)) bs ≡ builder_shapes → has_twice (map name bs) ≡ false
builders_differ bs name shape is = ap has_twice (firsts bs name shape ∙ ap (map first) is)
