-- Parts with a mark between, as they are written and as they are read.
use Rattle.std.proofs.Common.{◌≡◌, ℕ, zero, suc, ◌≤◌, List, [], ◌∷◌, length, map, Option, Some, None, refl, ap, subst, ◌∙◌, arith}
use Rattle.std.specs.List.{AllByRecursion}
use Rattle.pg_file_tokens.specs.declared.token.Mark.{Mark}
use Rattle.pg_file_tokens.specs.Tokens.{Token, mark}
use Rattle.pg_file_parser.specs.Reading.{Reader, mark_at, with_first, more_with, more_at, some_at}
use Rattle.pg_file_parser.proofs.ParserLemmas.Steps.{bind_some, some_is, mark_is, mark_found}

-- what is read as A: its trees, how they are written before a rest, what they mean, which may be written, and what
-- may stand after one
pub record Kind (A : Type 0) : Type 1 where
  pub Tree : Type 0
  pub write : Tree → List Token → List Token
  pub mean : Tree → A
  pub Proper : Tree → Type 0
  pub Ends : List Token → Type 0

-- what was read: a tree, and what stands after it
pub record Reads {A : Type 0} (k : Kind A) (ts : List Token) (x : A × List Token) : Type 0 where
  pub tree : k.Tree
  pub text : ts ≡ k.write tree x.1
  pub means : x.0 ≡ k.mean tree
  pub proper : k.Proper tree

-- what is read is written so
abbrev pub Sound : {A : Type 0} → Kind A → Reader A → Type 0
Sound {A} k read = (ts : List Token) (x : A × List Token) → read ts ≡ Some x → Reads k ts x

-- what is written is read
abbrev pub Complete : {A : Type 0} → Kind A → Reader A → Type 0
Complete {A} k read = (t : k.Tree) (rest : List Token) → k.Ends rest → k.Proper t → read (k.write t rest) ≡ Some (k.mean t, rest)

-- no tree takes tokens away
abbrev pub Grows : {A : Type 0} → Kind A → Type 0
Grows k = (t : k.Tree) (rest : List Token) → length rest ≤ length (k.write t rest)

-- the parts after another one, and then rest
abbrev pub more_written : {A : Type 0} (k : Kind A) → Mark → List k.Tree → List Token → List Token
more_written k between [] rest = rest
more_written k between (t ∷ trees) rest = mark between ∷ k.write t (more_written k between trees rest)

-- the parts after another one were read
pub record ReadsMore {A : Type 0} (k : Kind A) (between : Mark) (ts : List Token) (x : List A × List Token) : Type 0 where
  pub trees : List k.Tree
  pub text : ts ≡ more_written k between trees x.1
  pub means : x.0 ≡ map k.mean trees
  pub proper : AllByRecursion k.Proper trees

-- one part or more were read
pub record ReadsSome {A : Type 0} (k : Kind A) (between : Mark) (ts : List Token) (x : List A × List Token) : Type 0 where
  pub first : k.Tree
  pub trees : List k.Tree
  pub text : ts ≡ k.write first (more_written k between trees x.1)
  pub means : x.0 ≡ k.mean first ∷ map k.mean trees
  pub first_proper : k.Proper first
  pub proper : AllByRecursion k.Proper trees

-- ---- what is read is written so

more_with_sound : {A : Type 0} (k : Kind A) (between : Mark) (part : Reader A) → Sound k part → (more : Reader (List A))
    → ((ts : List Token) (x : List A × List Token) → more ts ≡ Some x → ReadsMore k between ts x)
    → (ts : List Token) (o : Option (List Token)) (x : List A × List Token) → mark_at between ts ≡ o → more_with part more ts o ≡ Some x → ReadsMore k between ts x
more_with_sound k between part sound more others ts None x m e =
    subst (ReadsMore k between ts) (some_is ([], ts) x e) (record { trees = []; text = refl; means = refl; proper = tt })
more_with_sound k between part sound more others ts (Some after) x m e =
    let a = bind_some (part after) (λ x. with_first x.0 (more x.1)) x e in
    let b = bind_some (more a.0.1) (λ xs. Some (a.0.0 ∷ xs.0, xs.1)) x a.2 in
    let v = sound after a.0 a.1 in
    let vs = others a.0.1 b.0 b.1 in
    subst (ReadsMore k between ts) (some_is (a.0.0 ∷ b.0.0, b.0.1) x b.2) (record {
      trees = v.tree ∷ vs.trees;
      text = mark_is between ts after m ∙ ap (λ (u : List Token). mark between ∷ u) (v.text ∙ ap (k.write v.tree) vs.text);
      means = let y = v.means in let z = vs.means in cc;
      proper = (v.proper, vs.proper);
    })

pub more_sound : {A : Type 0} (k : Kind A) (between : Mark) (part : Reader A) → Sound k part → (n : ℕ) (ts : List Token) (x : List A × List Token) → more_at between part n ts ≡ Some x → ReadsMore k between ts x
unfolding more_at
more_sound k between part sound zero ts x e =
    subst (ReadsMore k between ts) (some_is ([], ts) x e) (record { trees = []; text = refl; means = refl; proper = tt })
more_sound k between part sound (suc n) ts x e =
    more_with_sound k between part sound (more_at between part n) (more_sound k between part sound n) ts (mark_at between ts) x refl e

pub some_sound : {A : Type 0} (k : Kind A) (between : Mark) (part : Reader A) → Sound k part → (n : ℕ) (ts : List Token) (x : List A × List Token) → some_at between part n ts ≡ Some x → ReadsSome k between ts x
unfolding some_at
some_sound k between part sound n ts x e =
    let a = bind_some (part ts) (λ v. with_first v.0 (more_at between part n v.1)) x e in
    let b = bind_some (more_at between part n a.0.1) (λ vs. Some (a.0.0 ∷ vs.0, vs.1)) x a.2 in
    let v = sound ts a.0 a.1 in
    let vs = more_sound k between part sound n a.0.1 b.0 b.1 in
    subst (ReadsSome k between ts) (some_is (a.0.0 ∷ b.0.0, b.0.1) x b.2) (record {
      first = v.tree;
      trees = vs.trees;
      text = v.text ∙ ap (k.write v.tree) vs.text;
      means = let y = v.means in let z = vs.means in cc;
      first_proper = v.proper;
      proper = vs.proper;
    })

-- ---- what is written is read

-- what may stand after a part: the mark, or what ends all parts
abbrev pub EndsAll : {A : Type 0} → Kind A → Mark → List Token → Type 0
EndsAll k between rest = ((us : List Token) → k.Ends (mark between ∷ us)) × k.Ends rest × (mark_at between rest ≡ None)

ends_more : {A : Type 0} (k : Kind A) (between : Mark) (trees : List k.Tree) (rest : List Token) → EndsAll k between rest → k.Ends (more_written k between trees rest)
ends_more k between [] rest h = h.1
ends_more k between (t ∷ trees) rest h = h.0 (k.write t (more_written k between trees rest))

pub more_complete : {A : Type 0} (k : Kind A) (between : Mark) (part : Reader A) → Complete k part → (n : ℕ) (trees : List k.Tree) (rest : List Token) → length trees ≤ n → EndsAll k between rest
    → AllByRecursion k.Proper trees → more_at between part n (more_written k between trees rest) ≡ Some (map k.mean trees, rest)
unfolding more_at
more_complete k between part complete zero [] rest le h p = refl
more_complete k between part complete zero (t ∷ trees) rest le h p = absurd (omega (arith, le))
more_complete k between part complete (suc n) [] rest le h p = rw h.2 refl
more_complete k between part complete (suc n) (t ∷ trees) rest le h p =
    let few : length trees ≤ n = omega (arith, le) in
    rw (
      mark_found between (k.write t (more_written k between trees rest)),
      complete t (more_written k between trees rest) (ends_more k between trees rest h) p.0,
      more_complete k between part complete n trees rest few h p.1,
    ) refl

pub some_complete : {A : Type 0} (k : Kind A) (between : Mark) (part : Reader A) → Complete k part → (n : ℕ) (ts : List Token) (t : k.Tree) (trees : List k.Tree) (rest : List Token)
    → ts ≡ k.write t (more_written k between trees rest) → length trees ≤ n → EndsAll k between rest
    → k.Proper t → AllByRecursion k.Proper trees → some_at between part n ts ≡ Some (k.mean t ∷ map k.mean trees, rest)
unfolding some_at
some_complete k between part complete n ts t trees rest e le h p ps =
    rw (
      e,
      complete t (more_written k between trees rest) (ends_more k between trees rest h) p,
      more_complete k between part complete n trees rest le h ps,
    ) refl

-- there are no more parts than tokens
pub more_long : {A : Type 0} (k : Kind A) (between : Mark) → Grows k → (trees : List k.Tree) (rest : List Token) → length trees ≤ length (more_written k between trees rest)
more_long k between grows [] rest = omega arith
more_long k between grows (t ∷ trees) rest =
    let ih = more_long k between grows trees rest in
    let g = grows t (more_written k between trees rest) in
    omega (arith, ih, g)

pub some_long : {A : Type 0} (k : Kind A) (between : Mark) → Grows k → (ts : List Token) (t : k.Tree) (trees : List k.Tree) (rest : List Token) → ts ≡ k.write t (more_written k between trees rest) → length trees ≤ length ts
some_long k between grows ts t trees rest e =
    let ih = more_long k between grows trees rest in
    let g = grows t (more_written k between trees rest) in
    let same : length ts ≡ length (k.write t (more_written k between trees rest)) = ap length e in
    omega (arith, ih, g, same)
