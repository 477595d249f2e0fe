-- One turn of a literal or of the whole file, whatever bounds the number of turns.
use Rattle.std.proofs.Common.{◌≡◌, ℕ, zero, suc, ◌-◌, ◌<◌, ◌≤◌, Bool, true, false, cond, eqb, List, [], ◌∷◌, ◌++◌, take, drop, length, Option, Some, None, refl, sym, ap, subst, ◌∙◌, append_assoc, arith, length-append, take-append-drop, take_all, append-nil, get_or, ◌≢◌}
use Rattle.std.proofs.lemmas.List.{drop_at}
use Rattle.std.proofs.lemmas.Bool.Decides.{nat_tests}
use Rattle.std.specs.List.{prefix_len}
use Rattle.pg_file_tokens.specs.Tokens.{literal, wrong}
use Rattle.pg_file_tokens.specs.Lexical.{is_hex, short_escape}
use Rattle.pg_file_tokens.specs.Lexing.{with_rest, brace_at, unicode_at, escape_at, code_point, Quoted, text, spoilt, unclosed, with_char, without_text, after_escape, literal_turn, literal_within, literal_at, token, broken, literal_prefix}

-- the rest stands after at least one character
pub record After (rest cs : List ℕ) : Type 0 where
  pub skipped : List ℕ
  pub some : 0 < length skipped
  pub is : skipped ++ rest ≡ cs

pub After-shorter : {rest cs : List ℕ} → After rest cs → length rest < length cs
After-shorter {rest} b = omega (arith, ap length b.is, length-append b.skipped rest)

-- a character further on
pub After-first : (c : ℕ) (cs : List ℕ) → After cs (c ∷ cs)
After-first c cs = record { skipped = c ∷ []; some = omega arith; is = refl }

-- any number of characters further on
pub After-drop : (n : ℕ) (c : ℕ) (cs : List ℕ) → After (drop n cs) (c ∷ cs)
After-drop n c cs = record { skipped = c ∷ take n cs; some = omega arith; is = ap (λ (xs : List ℕ). c ∷ xs) (take-append-drop n cs) }

pub After-trans : {a b c : List ℕ} → After a b → After b c → After a c
After-trans {a} h k = record {
  skipped = k.skipped ++ h.skipped;
  some = omega (arith, k.some, length-append k.skipped h.skipped);
  is = append_assoc k.skipped h.skipped a ∙ ap (λ (xs : List ℕ). k.skipped ++ xs) h.is ∙ k.is;
}

-- where the rest begins
pub After-drop_at : {rest cs : List ℕ} → After rest cs → drop (length cs - length rest) cs ≡ rest
After-drop_at {rest} {cs} b =
    let n : length b.skipped ≡ length cs - length rest = omega (arith, ap length b.is, length-append b.skipped rest) in
    subst (λ (xs : List ℕ). drop (length cs - length rest) xs ≡ rest) b.is (drop_at b.skipped rest (length cs - length rest) n)

-- ---- escapes

with_rest_after : (code : Option ℕ) (c : ℕ) (cs : List ℕ) (x : ℕ × List ℕ) → with_rest cs code ≡ Some x → After x.1 (c ∷ cs)
with_rest_after (Some d) c cs x e = let q : cs ≡ x.1 = cc in subst (λ (rest : List ℕ). After rest (c ∷ cs)) q (After-first c cs)
with_rest_after None c cs x e = absurd cc

brace_after : (code : Option ℕ) (cs : List ℕ) (x : ℕ × List ℕ) → brace_at code cs ≡ Some x → After x.1 cs
brace_after code [] x e = absurd cc
brace_after code (c ∷ cs) x e = go (eqb c 125) e
  where
    go : (b : Bool) → cond b (with_rest cs code) None ≡ Some x → After x.1 (c ∷ cs)
    go true e = with_rest_after code c cs x e
    go false e = absurd cc

unicode_after : (cs : List ℕ) (x : ℕ × List ℕ) → unicode_at cs ≡ Some x → After x.1 cs
unicode_after [] x e = absurd cc
unicode_after (c ∷ cs) x e = go (eqb c 123) e
  where
    go : (b : Bool) → cond b (brace_at (code_point (take (prefix_len is_hex cs) cs)) (drop (prefix_len is_hex cs) cs)) None ≡ Some x → After x.1 (c ∷ cs)
    go true e = After-trans (brace_after (code_point (take (prefix_len is_hex cs) cs)) (drop (prefix_len is_hex cs) cs) x e) (After-drop (prefix_len is_hex cs) c cs)
    go false e = absurd cc

pub escape_after : (cs : List ℕ) (x : ℕ × List ℕ) → escape_at cs ≡ Some x → After x.1 cs
escape_after [] x e = absurd cc
escape_after (c ∷ cs) x e = go (eqb c 117) e
  where
    go : (b : Bool) → cond b (unicode_at cs) (with_rest cs (short_escape c)) ≡ Some x → After x.1 (c ∷ cs)
    go true e = After-trans (unicode_after cs x e) (After-first c cs)
    go false e = with_rest_after (short_escape c) c cs x e

-- ---- literals

after_escape_same : (f g : List ℕ → Quoted) (cs : List ℕ) → ((rest : List ℕ) → length rest ≤ length cs → f rest ≡ g rest) → (o : Option (ℕ × List ℕ)) → escape_at cs ≡ o → after_escape f cs o ≡ after_escape g cs o
after_escape_same f g cs same None e = ap without_text (same cs (omega arith))
after_escape_same f g cs same (Some x) e = ap (with_char x.0) (same x.1 (omega (arith, After-shorter (escape_after cs x e))))

pub cond_same : {A : Type 0} (b : Bool) (x y u v : A) → x ≡ u → y ≡ v → cond b x y ≡ cond b u v
cond_same true x y u v p q = p
cond_same false x y u v p q = q

-- what holds of either answer holds of the answer that a test picks
pub cond_when : {A : Type 0} (P : A → Type 0) (b : Bool) (x y : A) → (b ≡ true → P x) → (b ≡ false → P y) → P (cond b x y)
cond_when P true x y h k = h refl
cond_when P false x y h k = k refl

-- a turn depends on the turns for shorter lists alone
literal_turn_same : (f g : List ℕ → Quoted) (c : ℕ) (cs : List ℕ) → ((rest : List ℕ) → length rest ≤ length cs → f rest ≡ g rest) → literal_turn f c cs ≡ literal_turn g c cs
literal_turn_same f g c cs same =
    cond_same (eqb c 34) _ _ _ _ refl
    (cond_same (eqb c 10) _ _ _ _ refl
    (cond_same (eqb c 92) _ _ _ _ (after_escape_same f g cs same (escape_at cs) refl) (ap (with_char c) (same cs (omega arith)))))

-- more turns than characters change nothing
literal_enough : (n m : ℕ) (cs : List ℕ) → length cs ≤ n → length cs ≤ m → literal_within n cs ≡ literal_within m cs
unfolding literal_within
literal_enough n m [] h k = refl
literal_enough zero m (c ∷ cs) h k = absurd (omega arith)
literal_enough (suc n) zero (c ∷ cs) h k = absurd (omega arith)
literal_enough (suc n) (suc m) (c ∷ cs) h k =
    literal_turn_same (literal_within n) (literal_within m) c cs (λ rest le. literal_enough n m rest (omega arith) (omega arith))

pub literal_at_nil : literal_at [] ≡ unclosed
unfolding literal_at literal_within
literal_at_nil = refl

pub literal_at_cons : (c : ℕ) (cs : List ℕ) → literal_at (c ∷ cs) ≡ literal_turn literal_at c cs
unfolding literal_at literal_within
literal_at_cons c cs =
    literal_turn_same (literal_within (length cs)) literal_at c cs (λ rest le. literal_enough (length cs) (length rest) rest le (omega arith))

-- the text so far stands before what is still to come; it counts only if no escape was wrong
abbrev pub with_prefix : Bool → List ℕ → Quoted → Quoted
with_prefix false prefix (text s rest) = text (prefix ++ s) rest
with_prefix true prefix (text s rest) = spoilt rest
with_prefix is_wrong prefix (spoilt rest) = spoilt rest
with_prefix is_wrong prefix unclosed = unclosed

pub with_prefix_char : (is_wrong : Bool) (prefix : List ℕ) (c : ℕ) (q : Quoted) → with_prefix is_wrong (prefix ++ c ∷ []) q ≡ with_prefix is_wrong prefix (with_char c q)
with_prefix_char false prefix c (text s rest) = ap (λ (xs : List ℕ). text xs rest) (append_assoc prefix (c ∷ []) s)
with_prefix_char true prefix c (text s rest) = refl
with_prefix_char is_wrong prefix c (spoilt rest) = refl
with_prefix_char is_wrong prefix c unclosed = refl

pub with_prefix_wrong : (is_wrong : Bool) (prefix : List ℕ) (q : Quoted) → with_prefix true prefix q ≡ with_prefix is_wrong prefix (without_text q)
with_prefix_wrong false prefix (text s rest) = refl
with_prefix_wrong true prefix (text s rest) = refl
with_prefix_wrong is_wrong prefix (spoilt rest) = refl
with_prefix_wrong is_wrong prefix unclosed = refl

-- the characters after the first, as a slice pattern gives them
abbrev pub after_first : List ℕ → List ℕ
after_first cs = take (length cs - 1) (drop 1 cs)

pub first_and_after : (cs : List ℕ) (c : ℕ) → 1 ≤ length cs → c ≡ get_or cs 0 c → cs ≡ c ∷ after_first cs
first_and_after [] c h e = absurd (omega arith)
first_and_after (d ∷ cs) c h e =
    let n : length (d ∷ cs) - 1 ≡ length cs = omega arith in
    rw (n, take_all (length cs) cs (omega arith)) (ap (λ (x : ℕ). x ∷ cs) (sym e))

-- a turn at the first character
pub literal_at_first : (cs : List ℕ) (c : ℕ) → 1 ≤ length cs → c ≡ get_or cs 0 c → literal_at cs ≡ literal_turn literal_at c (after_first cs)
literal_at_first cs c h e = ap literal_at (first_and_after cs c h e) ∙ literal_at_cons c (after_first cs)

-- what a turn does at each kind of character
pub turn_closes : (c : ℕ) (rest : List ℕ) (q : Quoted) → q ≡ literal_turn literal_at c rest → c ≡ 34 → q ≡ text [] rest
turn_closes c rest q e h = e ∙ ap (λ (d : ℕ). literal_turn literal_at d rest) h

pub turn_ends : (c : ℕ) (rest : List ℕ) (q : Quoted) → q ≡ literal_turn literal_at c rest → c ≡ 10 → q ≡ unclosed
turn_ends c rest q e h = e ∙ ap (λ (d : ℕ). literal_turn literal_at d rest) h

pub turn_escapes : (c : ℕ) (rest : List ℕ) (q : Quoted) (o : Option (ℕ × List ℕ)) → q ≡ literal_turn literal_at c rest → c ≡ 92 → o ≡ escape_at rest → q ≡ after_escape literal_at rest o
turn_escapes c rest q o e h k = e ∙ ap (λ (d : ℕ). literal_turn literal_at d rest) h ∙ ap (after_escape literal_at rest) (sym k)

pub turn_goes_on : (c : ℕ) (rest : List ℕ) (q : Quoted) → q ≡ literal_turn literal_at c rest → c ≢ 34 → c ≢ 10 → c ≢ 92 → q ≡ with_char c (literal_at rest)
turn_goes_on c rest q e h k m =
    let h' : eqb c 34 ≡ false = grind (arith, nat_tests) in
    let k' : eqb c 10 ≡ false = grind (arith, nat_tests) in
    let m' : eqb c 92 ≡ false = grind (arith, nat_tests) in
    e ∙ rw (h', k', m') refl

-- what one more character, or a wrong escape, makes of the text so far
pub with_prefix_step : (is_wrong : Bool) (prefix more : List ℕ) (c : ℕ) (here next all : Quoted) → with_prefix is_wrong prefix here ≡ all → here ≡ with_char c next → more ≡ prefix ++ c ∷ [] → with_prefix is_wrong more next ≡ all
with_prefix_step is_wrong prefix more c here next all e h k =
    ap (λ (xs : List ℕ). with_prefix is_wrong xs next) k ∙ with_prefix_char is_wrong prefix c next ∙ sym (ap (with_prefix is_wrong prefix) h) ∙ e

pub literal_at_short : (cs : List ℕ) → length cs < 1 → literal_at cs ≡ unclosed
literal_at_short [] h = literal_at_nil
literal_at_short (c ∷ cs) h = absurd (omega arith)

-- what the end of a literal, or of its line, makes of the text so far
pub with_prefix_closed : (is_wrong : Bool) (prefix rest : List ℕ) (here all : Quoted) → with_prefix is_wrong prefix here ≡ all → here ≡ text [] rest → is_wrong ≡ false → token (literal prefix) rest ≡ literal_prefix all
with_prefix_closed false prefix rest here all e h k =
    ap (λ (xs : List ℕ). token (literal xs) rest) (sym (append-nil prefix)) ∙ ap (λ (q : Quoted). literal_prefix (with_prefix false prefix q)) (sym h) ∙ ap literal_prefix e
with_prefix_closed true prefix rest here all e h k = absurd cc

pub with_prefix_spoilt : (is_wrong : Bool) (prefix rest : List ℕ) (here all : Quoted) → with_prefix is_wrong prefix here ≡ all → here ≡ text [] rest → is_wrong ≡ true → token wrong rest ≡ literal_prefix all
with_prefix_spoilt true prefix rest here all e h k = ap (λ (q : Quoted). literal_prefix (with_prefix true prefix q)) (sym h) ∙ ap literal_prefix e
with_prefix_spoilt false prefix rest here all e h k = absurd cc

pub with_prefix_unclosed : (is_wrong : Bool) (prefix : List ℕ) (here all : Quoted) → with_prefix is_wrong prefix here ≡ all → here ≡ unclosed → broken ≡ literal_prefix all
with_prefix_unclosed true prefix here all e h = ap (λ (q : Quoted). literal_prefix (with_prefix true prefix q)) (sym h) ∙ ap literal_prefix e
with_prefix_unclosed false prefix here all e h = ap (λ (q : Quoted). literal_prefix (with_prefix false prefix q)) (sym h) ∙ ap literal_prefix e

pub escape_shorter : (cs : List ℕ) (x : ℕ × List ℕ) → Some x ≡ escape_at (after_first cs) → length x.1 < length cs
escape_shorter [] x e = absurd cc
escape_shorter (c ∷ cs) x e =
    let n : length (c ∷ cs) - 1 ≡ length cs = omega arith in
    let k : after_first (c ∷ cs) ≡ cs = rw (n, take_all (length cs) cs (omega arith)) refl in
    omega (arith, After-shorter (escape_after cs x (ap escape_at (sym k) ∙ sym e)))
