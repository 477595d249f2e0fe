-- Steps of reading that did not fail, and the tokens that they took.
use Rattle.std.proofs.Common.{◌≡◌, ℕ, zero, suc, Bool, true, false, cond, eqb, eqb-true, leb, leb-true, ◌≤◌, List, [], ◌∷◌, length, Option, Some, None, refl, sym, ap, ◌∙◌, inl, inr, ◌⊎◌, ◌<◌, le-leb, arith}
use Rattle.std.proofs.lemmas.Slice.Eq.{bytes_eq-Decides}
use Rattle.std.specs.Str.{bytes_eq}
use Rattle.pg_file_tokens.specs.declared.token.Mark.{Mark}
use Rattle.pg_file_tokens.specs.declared.token.Mark.TheVariants.{Open, Close, Comma, Semicolon, Equals, Bar, Dots}
use Rattle.pg_file_tokens.specs.Tokens.{Token, name, number, literal, mark, wrong, bad}
use Rattle.pg_file_items.specs.Proper.{is_reserved, IsFreeName, IsFilled}
use Rattle.pg_file_parser.specs.Reading.{◌>>=◌, mark_at, word_at, name_at, literal_at, number_at, short_name, free_name, literal_text, filled_text}
use Rattle.pg_file_tokens.specs.Tokens.{mark_number}

-- the value of a step that did not fail
pub bind_some : {A B : Type 0} (r : Option A) (f : A → Option B) (y : B) → (r >>= f) ≡ Some y → (x : A) × (r ≡ Some x) × (f x ≡ Some y)
bind_some (Some x) f y e = (x, refl, e)
bind_some None f y e = absurd cc

abbrev given : {A : Type 0} → A → Option A
given x = Some x

pub some_is : {A : Type 0} (x y : A) → given x ≡ given y → x ≡ y
some_is x y e = cc

-- which way a test went
pub chosen : {A : Type 0} (b : Bool) (x y z : A) → cond b x y ≡ z → ((b ≡ true) × (x ≡ z)) ⊎ ((b ≡ false) × (y ≡ z))
chosen true x y z e = inl (refl, e)
chosen false x y z e = inr (refl, e)

-- a test that had to pass
pub guard_some : {A : Type 0} (b : Bool) (x : Option A) (y : A) → cond b x None ≡ Some y → (b ≡ true) × (x ≡ Some y)
guard_some true x y e = (refl, e)
guard_some false x y e = absurd cc

-- a test that had to fail
pub guard_none : {A : Type 0} (b : Bool) (x : Option A) (y : A) → cond b None x ≡ Some y → (b ≡ false) × (x ≡ Some y)
guard_none true x y e = absurd cc
guard_none false x y e = (refl, e)

-- the mark with a number
numbered : ℕ → Mark
numbered zero = Open
numbered (suc zero) = Close
numbered (suc (suc zero)) = Comma
numbered (suc (suc (suc zero))) = Semicolon
numbered (suc (suc (suc (suc zero)))) = Equals
numbered (suc (suc (suc (suc (suc zero))))) = Bar
numbered (suc (suc (suc (suc (suc (suc n)))))) = Dots

numbered_back : (m : Mark) → numbered (mark_number m) ≡ m
unfolding numbered
numbered_back Open = refl
numbered_back Close = refl
numbered_back Comma = refl
numbered_back Semicolon = refl
numbered_back Equals = refl
numbered_back Bar = refl
numbered_back Dots = refl

-- marks with one number are one mark
same_mark : (m n : Mark) → mark_number m ≡ mark_number n → m ≡ n
same_mark m n e = sym (numbered_back m) ∙ ap numbered e ∙ numbered_back n

-- a mark stood there
pub mark_is : (m : Mark) (ts rest : List Token) → mark_at m ts ≡ Some rest → ts ≡ mark m ∷ rest
mark_is m [] rest e = absurd cc
mark_is m (name s ∷ ts) rest e = absurd cc
mark_is m (number s ∷ ts) rest e = absurd cc
mark_is m (literal s ∷ ts) rest e = absurd cc
mark_is m (wrong ∷ ts) rest e = absurd cc
mark_is m (bad ∷ ts) rest e = absurd cc
mark_is m (mark n ∷ ts) rest e =
    let g = guard_some (eqb (mark_number n) (mark_number m)) (Some ts) rest e in
    let q : n ≡ m = same_mark n m (eqb-true (mark_number n) (mark_number m) g.0) in
    let r : ts ≡ rest = some_is ts rest g.1 in
    cc

-- a name stood there
pub name_is : (ts : List Token) (x : List ℕ × List Token) → name_at ts ≡ Some x → ts ≡ name x.0 ∷ x.1
name_is [] x e = absurd cc
name_is (number s ∷ ts) x e = absurd cc
name_is (literal s ∷ ts) x e = absurd cc
name_is (mark m ∷ ts) x e = absurd cc
name_is (wrong ∷ ts) x e = absurd cc
name_is (bad ∷ ts) x e = absurd cc
name_is (name s ∷ ts) x e = ap (λ (y : List ℕ × List Token). name y.0 ∷ y.1) (some_is (s, ts) x e)

-- a literal stood there
pub literal_is : (ts : List Token) (x : List ℕ × List Token) → literal_at ts ≡ Some x → ts ≡ literal x.0 ∷ x.1
literal_is [] x e = absurd cc
literal_is (name s ∷ ts) x e = absurd cc
literal_is (number s ∷ ts) x e = absurd cc
literal_is (mark m ∷ ts) x e = absurd cc
literal_is (wrong ∷ ts) x e = absurd cc
literal_is (bad ∷ ts) x e = absurd cc
literal_is (literal s ∷ ts) x e = ap (λ (y : List ℕ × List Token). literal y.0 ∷ y.1) (some_is (s, ts) x e)

-- a name that isn't too long
pub short_name_is : (s n : List ℕ) → short_name s ≡ Some n → (s ≡ n) × (length s ≤ 64)
short_name_is s n e =
    let h = guard_some (leb (length s) 64) (Some s) n e in
    (some_is s n h.1, leb-true (length s) 64 h.0)

-- a name that a rule or a class may have
pub free_name_is : (s n : List ℕ) → free_name s ≡ Some n → (s ≡ n) × IsFreeName s
unfolding free_name
free_name_is s n e =
    let g = guard_none (is_reserved s) (short_name s) n e in
    let h = short_name_is s n g.1 in
    (h.0, record { free = g.0; short = h.1 })

-- a word that was recognized
pub word_is : (word s : List ℕ) → bytes_eq word s ≡ true → s ≡ word
word_is word s e = sym ((bytes_eq-Decides word s).0 e)

-- the word stood there
pub word_at_is : (word : List ℕ) (ts rest : List Token) → word_at word ts ≡ Some rest → ts ≡ name word ∷ rest
word_at_is word [] rest e = absurd cc
word_at_is word (number s ∷ ts) rest e = absurd cc
word_at_is word (literal s ∷ ts) rest e = absurd cc
word_at_is word (mark m ∷ ts) rest e = absurd cc
word_at_is word (wrong ∷ ts) rest e = absurd cc
word_at_is word (bad ∷ ts) rest e = absurd cc
word_at_is word (name s ∷ ts) rest e =
    let g = guard_some (bytes_eq word s) (Some ts) rest e in
    ap (λ (u : List ℕ). name u ∷ ts) (word_is word s g.0) ∙ ap (λ (u : List Token). name word ∷ u) (some_is ts rest g.1)

-- a number stood there
pub number_is : (ts : List Token) (x : List ℕ × List Token) → number_at ts ≡ Some x → ts ≡ number x.0 ∷ x.1
number_is [] x e = absurd cc
number_is (name s ∷ ts) x e = absurd cc
number_is (literal s ∷ ts) x e = absurd cc
number_is (mark m ∷ ts) x e = absurd cc
number_is (wrong ∷ ts) x e = absurd cc
number_is (bad ∷ ts) x e = absurd cc
number_is (number s ∷ ts) x e = ap (λ (y : List ℕ × List Token). number y.0 ∷ y.1) (some_is (s, ts) x e)

-- a literal that isn't too long
pub literal_text_is : (s t : List ℕ) → literal_text s ≡ Some t → (s ≡ t) × (length s ≤ 1024)
literal_text_is s t e =
    let g = guard_some (leb (length s) 1024) (Some s) t e in
    (some_is s t g.1, leb-true (length s) 1024 g.0)

-- nor empty
pub filled_text_is : (s t : List ℕ) → filled_text s ≡ Some t → (s ≡ t) × IsFilled s
unfolding filled_text
filled_text_is [] t e = absurd cc
filled_text_is (c ∷ s) t e =
    let g = literal_text_is (c ∷ s) t e in
    let some : 0 < length (c ∷ s) = omega arith in
    (g.0, (some, g.1))

-- ---- what is there is found

-- a mark
pub mark_found : (m : Mark) (ts : List Token) → mark_at m (mark m ∷ ts) ≡ Some ts
mark_found Open ts = refl
mark_found Close ts = refl
mark_found Comma ts = refl
mark_found Semicolon ts = refl
mark_found Equals ts = refl
mark_found Bar ts = refl
mark_found Dots ts = refl

pub short_name_found : (s : List ℕ) → length s ≤ 64 → short_name s ≡ Some s
short_name_found s h = rw (le-leb (length s) 64 h) refl

pub free_name_found : (s : List ℕ) → IsFreeName s → free_name s ≡ Some s
unfolding free_name
free_name_found s h = rw h.free (short_name_found s h.short)

pub literal_text_found : (s : List ℕ) → length s ≤ 1024 → literal_text s ≡ Some s
literal_text_found s h = rw (le-leb (length s) 1024 h) refl

pub filled_text_found : (s : List ℕ) → IsFilled s → filled_text s ≡ Some s
unfolding filled_text
filled_text_found [] h = absurd (omega (arith, h.0))
filled_text_found (c ∷ s) h = literal_text_found (c ∷ s) h.1

-- a free name is no reserved word
pub free_isnt : (s word : List ℕ) → IsFreeName s → is_reserved word ≡ true → bytes_eq word s ≡ false
free_isnt s word h reserved = go (bytes_eq word s) refl
  where
    go : (b : Bool) → bytes_eq word s ≡ b → b ≡ false
    go false e = refl
    go true e = let q : is_reserved s ≡ is_reserved word = ap is_reserved (word_is word s e) in sym reserved ∙ sym q ∙ h.free
