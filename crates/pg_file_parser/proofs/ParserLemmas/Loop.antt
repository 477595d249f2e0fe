-- Reading parts one after the other, as a loop does.
use Rattle.std.proofs.Common.{◌≡◌, ℕ, zero, suc, ◌-◌, ◌+◌, ◌≤◌, ◌<◌, Bool, true, false, cond, subst, List, [], ◌∷◌, ◌++◌, length, Option, Some, None, refl, sym, ap, ◌∙◌, append_assoc, arith}
use Rattle.std.proofs.lemmas.List.{append-nil, map_push}
use Rattle.std.specs.Global.{Vec}
use Rattle.std.specs.Prelude.{codes}
use Rattle.pg_file_items.specs.declared.written.WrittenPart.{WrittenPart}
use Rattle.pg_file_items.specs.declared.written.WrittenPart.TheVariants as part
use Rattle.pg_file_items.specs.declared.item.PlacedForm.{PlacedForm}
use Rattle.pg_file_tokens.specs.declared.token.Lexeme.{Lexeme}
use Rattle.pg_file_tokens.specs.declared.token.Mark.{Mark}
use Rattle.pg_file_parser.specs.declared.error.SyntaxError.{SyntaxError}
use Rattle.pg_file_parser.specs.declared.error.SyntaxError.TheVariants.{Memory, Fault}
use Rattle.pg_file_tokens.specs.Tokens.{Token}
use Rattle.pg_file_tokens.specs.View.{tokens_of}
use Rattle.pg_file_items.specs.Entries.{forms_of}
use Rattle.pg_file_parser.specs.Given.{Fails, bodies_of, classes_of}
use Rattle.pg_file_parser.specs.Places.{placed_of}
use Rattle.pg_file_items.specs.Joined.{joined}
use Rattle.pg_file_items.proofs.ItemLemmas.Joined.{joined_push}
use Rattle.pg_file_parser.specs.Reading.{◌>>=◌, Body, ClassParts, Reader, mark_at, word_at, plain_at, atom_at, with_first, more_at, class_at, form_at, value_with, value_at}
use Rattle.pg_file_tokens.specs.Tokens.{is_word}
use Rattle.pg_file_parser.proofs.ParserLemmas.Steps.{guard_some, some_is}

-- there are as many tokens as lexemes
pub tokens_len : (ts : List Lexeme) → length (tokens_of ts) ≡ length ts
tokens_len [] = refl
tokens_len (t ∷ ts) = ap suc (tokens_len ts)

-- one level of parentheses
pub value_nested : (d : ℕ) (ts : List Token) → 0 < d → value_at d ts ≡ value_with (form_at (class_at (d - 1)) (value_at (d - 1))) ts
unfolding value_at
value_nested zero ts h = absurd (omega (arith, h))
value_nested (suc d) ts h = let q : suc d - 1 ≡ d = omega arith in rw q refl

-- what was read before, and what is still read
abbrev pub with_front : {A : Type 0} → List A → Option (List A × List Token) → Option (List A × List Token)
with_front front read = read >>= λ x. Some (front ++ x.0, x.1)

pub regroup : {A : Type 0} (front : List A) (b : A) (read : Option (List A × List Token)) → with_front front (with_first b read) ≡ with_front (front ++ b ∷ []) read
regroup {A} front b (Some x) = ap (λ (ns : List A). Some (ns, x.1)) (simp append_assoc)
regroup front b None = refl

-- one part more is read
pub goes_on : {A : Type 0} (between : Mark) (part : Reader A) (front : List A) (most i : ℕ) (ts following : List Token) (b : A) (after : List Token) (total : Option (List A × List Token)) → i < most
    → mark_at between ts ≡ Some following → part following ≡ Some (b, after)
    → with_front front (more_at between part (most - i) ts) ≡ total → with_front (front ++ b ∷ []) (more_at between part (most - (i + 1)) after) ≡ total
unfolding more_at
goes_on between part front most i ts following b after total lt m h so_far =
    let k : most - i ≡ suc (most - (i + 1)) = omega arith in
    let one : with_front front (more_at between part (most - i) ts) ≡ with_front (front ++ b ∷ []) (more_at between part (most - (i + 1)) after) = rw (k, m, h) (regroup front b (more_at between part (most - (i + 1)) after)) in
    sym one ∙ so_far

-- no part follows
pub stops : {A : Type 0} (between : Mark) (part : Reader A) (front : List A) (most i : ℕ) (ts : List Token) (total : Option (List A × List Token)) → i < most → mark_at between ts ≡ None
    → with_front front (more_at between part (most - i) ts) ≡ total → total ≡ Some (front, ts)
unfolding more_at
stops {A} between part front most i ts total lt m so_far =
    let k : most - i ≡ suc (most - (i + 1)) = omega arith in
    let one : with_front front (more_at between part (most - i) ts) ≡ Some (front, ts) = rw (k, m) (ap (λ (bs : List A). Some (bs, ts)) (append-nil front)) in
    sym so_far ∙ one

-- as many were read as there may be
pub is_full : {A : Type 0} (between : Mark) (part : Reader A) (front : List A) (most i : ℕ) (ts : List Token) (total : Option (List A × List Token)) → most ≤ i
    → with_front front (more_at between part (most - i) ts) ≡ total → total ≡ Some (front, ts)
unfolding more_at
is_full {A} between part front most i ts total le so_far =
    let k : most - i ≡ 0 = omega arith in
    let one : with_front front (more_at between part (most - i) ts) ≡ Some (front, ts) = rw k (ap (λ (bs : List A). Some (bs, ts)) (append-nil front)) in
    sym so_far ∙ one

-- a part can't be read
pub ends : {A : Type 0} (e : SyntaxError) (between : Mark) (part : Reader A) (front : List A) (most i : ℕ) (ts following : List Token) (total : Option (List A × List Token)) → i < most
    → mark_at between ts ≡ Some following → Fails e (part following)
    → with_front front (more_at between part (most - i) ts) ≡ total → Fails e total
unfolding more_at
ends Memory between part front most i ts following total lt m h so_far = tt
ends (Fault kind place) between part front most i ts following total lt m h so_far =
    let k : most - i ≡ suc (most - (i + 1)) = omega arith in
    let one : with_front front (more_at between part (most - i) ts) ≡ None = rw (k, m, h) refl in
    sym so_far ∙ one

-- one list more after joined lists
pub forms_append : (a b : List PlacedForm) → forms_of (a ++ b) ≡ forms_of a ++ forms_of b
forms_append [] b = refl
forms_append (f ∷ a) b = ap (λ (forms : Body). f.form ∷ forms) (forms_append a b)

-- joined bodies, and one more
pub body_joined : (bodies : List (Vec PlacedForm)) (body : Vec PlacedForm) (parts after : List PlacedForm)
    → after ≡ parts ++ body.items → forms_of parts ≡ joined (bodies_of bodies) → forms_of after ≡ joined (bodies_of (bodies ++ body ∷ []))
body_joined bodies body parts after e h =
    ap forms_of e ∙ forms_append parts body.items ∙ ap (λ (forms : Body). forms ++ forms_of body.items) h
    ∙ sym (joined_push (bodies_of bodies) (forms_of body.items))
    ∙ ap (λ (all : List Body). joined all) (sym (map_push (λ (b : Vec PlacedForm). forms_of b.items) bodies body))

-- joined bodies with their places, and one more
pub placed_joined : (bodies : List (Vec PlacedForm)) (body : Vec PlacedForm) (parts after : List PlacedForm)
    → after ≡ parts ++ body.items → parts ≡ joined (placed_of bodies) → after ≡ joined (placed_of (bodies ++ body ∷ []))
placed_joined bodies body parts after e h =
    e ∙ ap (λ (ps : List PlacedForm). ps ++ body.items) h ∙ sym (joined_push (placed_of bodies) body.items)
    ∙ ap (λ (all : List (List PlacedForm)). joined all) (sym (map_push (λ (b : Vec PlacedForm). b.items) bodies body))

-- joined lists, and one more
pub list_joined : (lists : List (Vec WrittenPart)) (list : Vec WrittenPart) (parts after : List WrittenPart)
    → after ≡ parts ++ list.items → parts ≡ joined (classes_of lists) → after ≡ joined (classes_of (lists ++ list ∷ []))
list_joined lists list parts after e h =
    e ∙ ap (λ (ps : List WrittenPart). ps ++ list.items) h ∙ sym (joined_push (classes_of lists) list.items)
    ∙ ap (λ (all : List (List WrittenPart)). joined all) (sym (map_push (λ (c : Vec WrittenPart). c.items) lists list))

-- ---- atoms after `not`

abbrev not_at : List Token → Option (List Token)
not_at ts = word_at (codes "not") ts

-- one `not` more is read
pub not_read : (group : Reader ClassParts) (front : ClassParts) (ts rest : List Token) (total : Option (ClassParts × List Token)) → not_at ts ≡ Some rest
    → with_front front (atom_at group ts) ≡ total → with_front (front ++ part.Complement ∷ []) (atom_at group rest) ≡ total
unfolding atom_at
not_read group front [] rest total b h = absurd cc
not_read group front (t ∷ ts) rest total b h =
    let g = guard_some (is_word (codes "not") t) (Some ts) rest b in
    let same : ts ≡ rest = some_is ts rest g.1 in
    let one : with_front front (atom_at group (t ∷ ts)) ≡ with_front (front ++ part.Complement ∷ []) (atom_at group ts) = rw g.0 (regroup front part.Complement (atom_at group ts)) in
    subst (λ (us : List Token). with_front (front ++ part.Complement ∷ []) (atom_at group us) ≡ total) same (sym one ∙ h)

-- where no `not` stands, a plain atom does
pub plain_read : (group : Reader ClassParts) (ts : List Token) → not_at ts ≡ None → atom_at group ts ≡ plain_at group ts
unfolding atom_at plain_at
plain_read group [] b = refl
plain_read group (t ∷ ts) b = go (is_word (codes "not") t) refl b
  where
    go : (n : Bool) → is_word (codes "not") t ≡ n → cond n (Some ts) None ≡ None → atom_at group (t ∷ ts) ≡ plain_at group (t ∷ ts)
    go true e h = absurd cc
    go false e h = rw e refl

-- what was read after the front
pub front_read : {A : Type 0} (front xs : List A) (rest : List Token) (read total : Option (List A × List Token)) → read ≡ Some (xs, rest) → with_front front read ≡ total → total ≡ Some (front ++ xs, rest)
front_read front xs rest read total e h = sym h ∙ ap (with_front front) e

-- nothing is read after the front
pub front_fails : {A : Type 0} (e : SyntaxError) (front : List A) (read total : Option (List A × List Token)) → Fails e read → with_front front read ≡ total → Fails e total
front_fails Memory front read total f h = tt
front_fails (Fault kind place) front read total f h = sym h ∙ ap (with_front front) f
