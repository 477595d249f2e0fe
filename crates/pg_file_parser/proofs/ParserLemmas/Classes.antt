-- A class expression that is read is written so, one that is written is read, and its parts are one whole expression.
use Rattle.std.proofs.Common.{◌≡◌, ℕ, zero, suc, ◌≤◌, true, cond, leb, leb-true, le-leb, List, [], ◌∷◌, ◌++◌, length, map, Option, Some, None, refl, sym, ap, subst, ◌∙◌, inl, inr, arith}
use Rattle.std.proofs.Math.Nat.{le-max_left, le-max_right, max-le}
use Rattle.std.specs.Prelude.{codes}
use Rattle.std.specs.List.{AllByRecursion}
use Rattle.pg_file_items.specs.declared.written.WrittenPart.{WrittenPart}
use Rattle.pg_file_items.specs.declared.written.WrittenPart.TheVariants as part
use Rattle.pg_file_tokens.specs.declared.token.Mark.{Mark}
use Rattle.pg_file_tokens.specs.declared.token.Mark.TheVariants.{Open, Close, Bar, Dots}
use Rattle.pg_file_tokens.specs.Tokens.{Token, name, number, literal, mark, wrong, bad}
use Rattle.pg_file_items.specs.Tree.{Atom, Set, Range, Name, Not, Group, Class, Of, Atoms, No_atom, Or}
use Rattle.pg_file_items.specs.Syntax.{atom_written, class_written, atoms_written}
use Rattle.pg_file_items.specs.Proper.{is_reserved, IsProperAtom, IsProperClass, AreProperAtoms}
use Rattle.pg_file_items.specs.Depth.{atom_depth, class_depth, atoms_depth}
use Rattle.pg_file_items.specs.Heads.{atom_count, atom_parts, class_parts, atoms_parts}
use Rattle.pg_file_items.specs.Joined.{joined}
use Rattle.pg_file_parser.specs.Reading.{◌>>=◌, Reader, ClassParts, literal_at, literal_text, free_name, range_end, range_between, range_at, set_at, atom_with, named_at, before_all, plain_at, atom_at, mark_at, some_at, expressed, class_with, closed_at, group_at, class_at}
use Rattle.pg_file_tokens.specs.Tokens.{is_mark, is_word}
use Rattle.pg_file_parser.proofs.ParserLemmas.Steps.{bind_some, some_is, chosen, guard_some, mark_is, literal_is, literal_text_is, free_name_is, word_is, literal_text_found, free_name_found, free_isnt}
use Rattle.pg_file_parser.proofs.ParserLemmas.Parts.{Kind, Reads, Sound, Complete, more_written, some_sound, some_complete, some_long}

abbrev pub atoms : ℕ → Kind ClassParts
atoms n = record {
  Tree = Atom;
  write = atom_written;
  mean = atom_parts;
  Proper = λ a. IsProperAtom a × (atom_depth a ≤ n);
  Ends = λ ts. mark_at Dots ts ≡ None;
}

abbrev pub classes : ℕ → Kind ClassParts
classes n = record {
  Tree = Class;
  write = class_written;
  mean = class_parts;
  Proper = λ c. IsProperClass c × (class_depth c ≤ n);
  Ends = λ ts. (mark_at Dots ts ≡ None) × (mark_at Bar ts ≡ None);
}

-- classes after their parenthesis
abbrev pub groups : ℕ → Kind ClassParts
groups n = record {
  Tree = Class;
  write = λ c rest. class_written c (mark Close ∷ rest);
  mean = class_parts;
  Proper = λ c. IsProperClass c × (suc (class_depth c) ≤ n);
  Ends = λ ts. Unit {0};
}

-- ---- atoms that are read

set_sound : (n : ℕ) (s : List ℕ) (rest : List Token) (x : ClassParts × List Token) → set_at s rest ≡ Some x → Reads (atoms n) (literal s ∷ rest) x
set_sound n s rest x e =
    let a = bind_some (literal_text s) (λ t. Some (part.Literal t ∷ [], rest)) x e in
    let t = literal_text_is s a.0 a.1 in
    let zero_deep : 0 ≤ n = omega arith in
    subst (Reads (atoms n) (literal s ∷ rest)) (some_is (part.Literal a.0 ∷ [], rest) x a.2) (record {
      tree = Set s;
      text = refl;
      means = ap (λ (u : List ℕ). part.Literal u ∷ []) (sym t.0);
      proper = (t.1, zero_deep);
    })

-- an end of a range is one character
range_end_is : (s : List ℕ) (c : ℕ) → range_end s ≡ Some c → s ≡ c ∷ []
range_end_is [] c e = absurd cc
range_end_is (d ∷ []) c e = ap (λ (n : ℕ). n ∷ []) (some_is d c e)
range_end_is (d ∷ f ∷ s) c e = absurd cc

range_sound : (n : ℕ) (s : List ℕ) (ts : List Token) (x : ClassParts × List Token) → range_at s ts ≡ Some x → Reads (atoms n) (literal s ∷ mark Dots ∷ ts) x
range_sound n s ts x e =
    let a = bind_some (range_end s) (λ low. literal_at ts >>= λ t. range_end t.0 >>= λ high. range_between low high >>= λ range. Some (range ∷ [], t.1)) x e in
    let b = bind_some (literal_at ts) (λ t. range_end t.0 >>= λ high. range_between a.0 high >>= λ range. Some (range ∷ [], t.1)) x a.2 in
    let d = bind_some (range_end b.0.0) (λ high. range_between a.0 high >>= λ range. Some (range ∷ [], b.0.1)) x b.2 in
    let f = bind_some (range_between a.0 d.0) (λ range. Some (range ∷ [], b.0.1)) x d.2 in
    let g = guard_some (leb a.0 d.0) (Some (part.Range a.0 d.0)) f.0 f.1 in
    let low = range_end_is s a.0 a.1 in
    let high = range_end_is b.0.0 d.0 d.1 in
    let after = literal_is ts b.0 b.1 in
    let zero_deep : 0 ≤ n = omega arith in
    subst (Reads (atoms n) (literal s ∷ mark Dots ∷ ts)) (some_is (f.0 ∷ [], b.0.1) x f.2) (record {
      tree = Range a.0 d.0;
      text = ap (λ (u : List ℕ). literal u ∷ mark Dots ∷ ts) low ∙ ap (λ (u : List Token). literal (a.0 ∷ []) ∷ mark Dots ∷ u) (after ∙ ap (λ (u : List ℕ). literal u ∷ b.0.1) high);
      means = ap (λ (p : WrittenPart). p ∷ []) (sym (some_is (part.Range a.0 d.0) f.0 g.1));
      proper = (leb-true a.0 d.0 g.0, zero_deep);
    })

with_sound : (n : ℕ) (s : List ℕ) (ts : List Token) (o : Option (List Token)) (x : ClassParts × List Token) → mark_at Dots ts ≡ o → atom_with s ts o ≡ Some x → Reads (atoms n) (literal s ∷ ts) x
with_sound n s ts None x m e = set_sound n s ts x e
with_sound n s ts (Some after) x m e =
    subst (λ (us : List Token). Reads (atoms n) (literal s ∷ us) x) (sym (mark_is Dots ts after m)) (range_sound n s after x e)

named_sound : (n : ℕ) (s : List ℕ) (ts : List Token) (x : ClassParts × List Token) → named_at s ts ≡ Some x → Reads (atoms n) (name s ∷ ts) x
named_sound n s ts x e =
    let a = bind_some (free_name s) (λ n. Some (part.Named n ∷ [], ts)) x e in
    let f = free_name_is s a.0 a.1 in
    let zero_deep : 0 ≤ n = omega arith in
    subst (Reads (atoms n) (name s ∷ ts)) (some_is (part.Named a.0 ∷ [], ts) x a.2) (record {
      tree = Name s;
      text = refl;
      means = ap (λ (u : List ℕ). part.Named u ∷ []) (sym f.0);
      proper = (f.1, zero_deep);
    })

-- a class after its parenthesis
group_read : (n : ℕ) (group : Reader ClassParts) → Sound (groups n) group → (m : Mark) (ts : List Token) (x : ClassParts × List Token) → cond (is_mark Open (mark m)) (group ts) None ≡ Some x → Reads (atoms n) (mark m ∷ ts) x
group_read n group sound m ts x e =
    let g = guard_some (is_mark Open (mark m)) (group ts) x e in
    let found : mark_at Open (mark m ∷ ts) ≡ Some ts = rw g.0 refl in
    let c = sound ts x g.1 in
    record {
      tree = Group c.tree;
      text = mark_is Open (mark m ∷ ts) ts found ∙ ap (λ (u : List Token). mark Open ∷ u) c.text;
      means = c.means;
      proper = c.proper;
    }

plain_sound : (n : ℕ) (group : Reader ClassParts) → Sound (groups n) group → Sound (atoms n) (plain_at group)
unfolding plain_at
plain_sound n group sound [] x e = absurd cc
plain_sound n group sound (name s ∷ ts) x e = named_sound n s ts x e
plain_sound n group sound (number s ∷ ts) x e = absurd cc
plain_sound n group sound (literal s ∷ ts) x e = with_sound n s ts (mark_at Dots ts) x refl e
plain_sound n group sound (mark m ∷ ts) x e = group_read n group sound m ts x e
plain_sound n group sound (wrong ∷ ts) x e = absurd cc
plain_sound n group sound (bad ∷ ts) x e = absurd cc

-- the word `not` stood there
not_is : (t : Token) → is_word (codes "not") t ≡ true → t ≡ name (codes "not")
not_is (name s) e = ap name (word_is (codes "not") s e)
not_is (number s) e = absurd cc
not_is (literal s) e = absurd cc
not_is (mark m) e = absurd cc
not_is wrong e = absurd cc
not_is bad e = absurd cc

-- one `not` more
not_sound : (n : ℕ) (t : Token) (ts : List Token) (read : Option (ClassParts × List Token)) (x : ClassParts × List Token) → is_word (codes "not") t ≡ true → before_all part.Complement read ≡ Some x
    → ((y : ClassParts × List Token) → read ≡ Some y → Reads (atoms n) ts y) → Reads (atoms n) (t ∷ ts) x
not_sound n t ts read x is e ih =
    let a = bind_some read (λ y. Some (part.Complement ∷ y.0, y.1)) x e in
    let h = ih a.0 a.1 in
    subst (Reads (atoms n) (t ∷ ts)) (some_is (part.Complement ∷ a.0.0, a.0.1) x a.2) (record {
      tree = Not h.tree;
      text = ap (λ (u : Token). u ∷ ts) (not_is t is) ∙ ap (λ (u : List Token). name (codes "not") ∷ u) h.text;
      means = ap (λ (ps : ClassParts). part.Complement ∷ ps) h.means;
      proper = h.proper;
    })

pub atom_sound : (n : ℕ) (group : Reader ClassParts) → Sound (groups n) group → Sound (atoms n) (atom_at group)
unfolding atom_at
atom_sound n group sound [] x e = absurd cc
atom_sound n group sound (t ∷ ts) x e =
    elim (chosen (is_word (codes "not") t) (before_all part.Complement (atom_at group ts)) (plain_at group (t ∷ ts)) (Some x) e) [
      | inl h ↦ not_sound n t ts (atom_at group ts) x h.0 h.1 (λ y r. atom_sound n group sound ts y r)
      | inr h ↦ plain_sound n group sound (t ∷ ts) x h.1
    ]

-- ---- lists of atoms

abbrev atoms_of : List Atom → Atoms
atoms_of [] = No_atom
atoms_of (a ∷ others) = Or a (atoms_of others)

abbrev list_of : Atoms → List Atom
list_of No_atom = []
list_of (Or a others) = a ∷ list_of others

back : (xs : List Atom) → list_of (atoms_of xs) ≡ xs
back [] = refl
back (a ∷ xs) = ap (λ (l : List Atom). a ∷ l) (back xs)

same_more : (n : ℕ) (others : Atoms) (rest : List Token) → atoms_written others rest ≡ more_written (atoms n) Bar (list_of others) rest
same_more n No_atom rest = refl
same_more n (Or a others) rest = ap (λ (u : List Token). mark Bar ∷ atom_written a u) (same_more n others rest)

same_count : (others : Atoms) → length (map atom_parts (list_of others)) ≡ atom_count others
same_count No_atom = refl
same_count (Or a others) = ap suc (same_count others)

same_parts : (others : Atoms) → joined (map atom_parts (list_of others)) ≡ atoms_parts others
same_parts No_atom = refl
same_parts (Or a others) = ap (λ (ps : ClassParts). atom_parts a ++ ps) (same_parts others)

same_expression : (a : Atom) (others : Atoms) → expressed (atom_parts a ∷ map atom_parts (list_of others)) ≡ class_parts (Of a others)
same_expression a No_atom = refl
same_expression a (Or b others) =
    ap (λ (n : ℕ). part.Union (suc (suc n)) ∷ joined (atom_parts a ∷ atom_parts b ∷ map atom_parts (list_of others))) (same_count others)
    ∙ ap (λ (ps : ClassParts). part.Union (suc (suc (atom_count others))) ∷ (atom_parts a ++ (atom_parts b ++ ps))) (same_parts others)

-- atoms that may stand there, one by one and together
abbrev AreFine : ℕ → Atoms → Type 0
AreFine n others = AreProperAtoms others × (atoms_depth others ≤ n)

one_by_one : (n : ℕ) (others : Atoms) → AreProperAtoms others → atoms_depth others ≤ n → AllByRecursion (atoms n).Proper (list_of others)
one_by_one n No_atom p d = tt
one_by_one n (Or a others) p d =
    let first : atom_depth a ≤ n = omega (arith, d, le-max_left (atom_depth a) (atoms_depth others)) in
    let more : atoms_depth others ≤ n = omega (arith, d, le-max_right (atom_depth a) (atoms_depth others)) in
    ((p.0, first), one_by_one n others p.1 more)

together : (n : ℕ) (others : Atoms) → AllByRecursion (atoms n).Proper (list_of others) → AreFine n others
together n No_atom h = let zero_deep : 0 ≤ n = omega arith in (tt, zero_deep)
together n (Or a others) h =
    let t = together n others h.1 in
    ((h.0.0, t.0), max-le h.0.1 t.1)

-- ---- expressions that are read

with_group : (n : ℕ) (group : Reader ClassParts) → Sound (groups n) group → Sound (classes n) (class_with group)
unfolding class_with
with_group n group sound ts x e =
    let a = bind_some (some_at Bar (atom_at group) (length ts) ts) (λ found. Some (expressed found.0, found.1)) x e in
    let s = some_sound (atoms n) Bar (atom_at group) (atom_sound n group sound) (length ts) ts a.0 a.1 in
    let others = atoms_of s.trees in
    let q : s.trees ≡ list_of others = sym (back s.trees) in
    let fine = together n others (subst (AllByRecursion (atoms n).Proper) q s.proper) in
    subst (Reads (classes n) ts) (some_is (expressed a.0.0, a.0.1) x a.2) (record {
      tree = Of s.first others;
      text = s.text ∙ ap (λ (l : List Atom). atom_written s.first (more_written (atoms n) Bar l a.0.1)) q ∙ sym (ap (atom_written s.first) (same_more n others a.0.1));
      means = ap expressed s.means ∙ ap (λ (l : List Atom). expressed (atom_parts s.first ∷ map atom_parts l)) q ∙ same_expression s.first others;
      proper = ((s.first_proper.0, fine.0), max-le s.first_proper.1 fine.1);
    })

closed_class : (n : ℕ) (class : Reader ClassParts) → Sound (classes n) class → Sound (groups (suc n)) (closed_at class)
closed_class n class sound ts x e =
    let a = bind_some (class ts) (λ c. mark_at Close c.1 >>= λ rest. Some (c.0, rest)) x e in
    let b = bind_some (mark_at Close a.0.1) (λ rest. Some (a.0.0, rest)) x a.2 in
    let c = sound ts a.0 a.1 in
    let deep : suc (class_depth c.tree) ≤ suc n = omega (arith, c.proper.1) in
    subst (Reads (groups (suc n)) ts) (some_is (a.0.0, b.0) x b.2) (record {
      tree = c.tree;
      text = c.text ∙ ap (class_written c.tree) (mark_is Close a.0.1 b.0 b.1);
      means = c.means;
      proper = (c.proper.0, deep);
    })

group_sound : (n : ℕ) → Sound (groups n) (group_at n)
unfolding group_at
group_sound zero ts x e = absurd cc
group_sound (suc n) ts x e = closed_class n (class_with (group_at n)) (with_group n (group_at n) (group_sound n)) ts x e

pub class_sound : (n : ℕ) → Sound (classes n) (class_at n)
class_sound n = with_group n (group_at n) (group_sound n)

-- ---- what is written takes tokens

mutual
  longer_atom : (a : Atom) (rest : List Token) → length rest ≤ length (atom_written a rest)
  longer_atom (Set s) rest = omega arith
  longer_atom (Range low high) rest = omega arith
  longer_atom (Name s) rest = omega arith
  longer_atom (Not a) rest = omega (arith, longer_atom a rest)
  longer_atom (Group c) rest = omega (arith, longer_class c (mark Close ∷ rest))

  pub longer_class : (c : Class) (rest : List Token) → length rest ≤ length (class_written c rest)
  longer_class (Of a others) rest = omega (arith, longer_atom a (atoms_written others rest), longer_atoms others rest)

  longer_atoms : (others : Atoms) (rest : List Token) → length rest ≤ length (atoms_written others rest)
  longer_atoms No_atom rest = omega arith
  longer_atoms (Or a others) rest = omega (arith, longer_atom a (atoms_written others rest), longer_atoms others rest)

-- ---- what is written is read

not_reserved : is_reserved (codes "not") ≡ true
unfolding is_reserved
not_reserved = refl

atom_complete : (n : ℕ) (group : Reader ClassParts) → Complete (groups n) group → Complete (atoms n) (atom_at group)
unfolding atom_at plain_at
atom_complete n group complete (Set s) rest e p = rw (e, literal_text_found s p.0) refl
atom_complete n group complete (Range low high) rest e p = rw (le-leb low high p.0) refl
atom_complete n group complete (Name s) rest e p = rw (free_isnt s (codes "not") p.0 not_reserved, free_name_found s p.0) refl
atom_complete n group complete (Not a) rest e p = rw (atom_complete n group complete a rest e p) refl
atom_complete n group complete (Group c) rest e p = complete c rest tt p

with_group_complete : (n : ℕ) (group : Reader ClassParts) → Complete (groups n) group → Complete (classes n) (class_with group)
unfolding class_with
with_group_complete n group complete (Of a others) rest e p =
    let ts = atom_written a (atoms_written others rest) in
    let same : ts ≡ atom_written a (more_written (atoms n) Bar (list_of others) rest) = ap (atom_written a) (same_more n others rest) in
    let first : atom_depth a ≤ n = omega (arith, p.1, le-max_left (atom_depth a) (atoms_depth others)) in
    let more : atoms_depth others ≤ n = omega (arith, p.1, le-max_right (atom_depth a) (atoms_depth others)) in
    let long = some_long (atoms n) Bar longer_atom ts a (list_of others) rest same in
    let read : some_at Bar (atom_at group) (length ts) ts ≡ Some (atom_parts a ∷ map atom_parts (list_of others), rest) =
    some_complete (atoms n) Bar (atom_at group) (atom_complete n group complete) (length ts) ts a (list_of others) rest same long ((λ us. refl), e.0, e.1) (p.0.0, first) (one_by_one n others p.0.1 more) in
    rw read (ap (λ (ps : ClassParts). Some (ps, rest)) (same_expression a others))

closed_complete : (n : ℕ) (class : Reader ClassParts) → Complete (classes n) class → Complete (groups (suc n)) (closed_at class)
closed_complete n class complete c rest e p =
    let deep : class_depth c ≤ n = omega (arith, p.1) in
    rw (complete c (mark Close ∷ rest) (refl, refl) (p.0, deep)) refl

group_complete : (n : ℕ) → Complete (groups n) (group_at n)
unfolding group_at
group_complete zero c rest e p = absurd (omega (arith, p.1))
group_complete (suc n) c rest e p = closed_complete n (class_with (group_at n)) (with_group_complete n (group_at n) (group_complete n)) c rest e p

pub class_complete : (n : ℕ) → Complete (classes n) (class_at n)
class_complete n = with_group_complete n (group_at n) (group_complete n)
