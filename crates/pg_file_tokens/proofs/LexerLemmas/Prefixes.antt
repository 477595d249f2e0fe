-- What stands at the front, and one turn of the whole file, whatever bounds the number of turns.
use Rattle.std.proofs.Common.{◌≡◌, ℕ, zero, suc, ◌+◌, ◌<◌, ◌≤◌, Bool, true, eqb, List, [], ◌∷◌, drop, length, Option, Some, None, refl, ap, arith}
use Rattle.std.proofs.lemmas.Bool.Decides.{nat_tests}
use Rattle.std.specs.List.{prefix_len}
use Rattle.std.specs.Char.{is_ascii_alphabetic, is_ascii_digit}
use Rattle.pg_file_tokens.specs.declared.token.Mark.{Mark}
use Rattle.pg_file_tokens.specs.Tokens.{Token}
use Rattle.pg_file_tokens.specs.Lexical.{goes_in_name, is_blank, isnt_line_feed}
use Rattle.pg_file_tokens.specs.Lexing.{escape_at, Quoted, text, spoilt, unclosed, with_char, without_text, after_escape, literal_turn, literal_within, literal_at, Prefix, nothing, blank, token, broken, literal_prefix, dots_at, mark_at, mark_prefix, prefix_at, after, lex_within, lex_of}
use Rattle.pg_file_tokens.proofs.LexerLemmas.Turns.{After, After-shorter, After-first, After-drop, After-trans, escape_after, cond_when}

-- what follows a literal stands after its first quote
abbrev QuotedAfter : List ℕ → Quoted → Type 0
QuotedAfter cs (text s rest) = After rest cs
QuotedAfter cs (spoilt rest) = After rest cs
QuotedAfter cs unclosed = Unit {0}

with_char_after : (c : ℕ) (mid cs : List ℕ) (q : Quoted) → After mid cs → QuotedAfter mid q → QuotedAfter cs (with_char c q)
with_char_after c mid cs (text s rest) h k = After-trans k h
with_char_after c mid cs (spoilt rest) h k = After-trans k h
with_char_after c mid cs unclosed h k = tt

without_text_after : (mid cs : List ℕ) (q : Quoted) → After mid cs → QuotedAfter mid q → QuotedAfter cs (without_text q)
without_text_after mid cs (text s rest) h k = After-trans k h
without_text_after mid cs (spoilt rest) h k = After-trans k h
without_text_after mid cs unclosed h k = tt

after_escape_after : (f : List ℕ → Quoted) (c : ℕ) (cs : List ℕ) → ((rest : List ℕ) → QuotedAfter rest (f rest)) → (o : Option (ℕ × List ℕ)) → escape_at cs ≡ o → QuotedAfter (c ∷ cs) (after_escape f cs o)
after_escape_after f c cs others None e = without_text_after cs (c ∷ cs) (f cs) (After-first c cs) (others cs)
after_escape_after f c cs others (Some x) e = with_char_after x.0 x.1 (c ∷ cs) (f x.1) (After-trans (escape_after cs x e) (After-first c cs)) (others x.1)

literal_turn_after : (f : List ℕ → Quoted) (c : ℕ) (cs : List ℕ) → ((rest : List ℕ) → QuotedAfter rest (f rest)) → QuotedAfter (c ∷ cs) (literal_turn f c cs)
literal_turn_after f c cs others =
    let P : Quoted → Type 0 = QuotedAfter (c ∷ cs) in
    cond_when P (eqb c 34) _ _ (λ h. After-first c cs)
    (λ h. cond_when P (eqb c 10) _ _ (λ k. tt)
    (λ k. cond_when P (eqb c 92) _ _ (λ m. after_escape_after f c cs others (escape_at cs) refl)
    (λ m. with_char_after c cs (c ∷ cs) (f cs) (After-first c cs) (others cs))))

literal_within_after : (n : ℕ) (cs : List ℕ) → QuotedAfter cs (literal_within n cs)
unfolding literal_within
literal_within_after n [] = tt
literal_within_after zero (c ∷ cs) = tt
literal_within_after (suc n) (c ∷ cs) = literal_turn_after (literal_within n) c cs (literal_within_after n)

-- what follows the front stands after it
abbrev pub PrefixAfter : List ℕ → Prefix → Type 0
PrefixAfter cs nothing = Unit {0}
PrefixAfter cs (blank rest) = After rest cs
PrefixAfter cs (token t rest) = After rest cs
PrefixAfter cs broken = Unit {0}

literal_prefix_after : (c : ℕ) (cs : List ℕ) (q : Quoted) → QuotedAfter cs q → PrefixAfter (c ∷ cs) (literal_prefix q)
literal_prefix_after c cs (text s rest) h = After-trans h (After-first c cs)
literal_prefix_after c cs (spoilt rest) h = After-trans h (After-first c cs)
literal_prefix_after c cs unclosed h = tt

literal_at_after : (c : ℕ) (cs : List ℕ) → PrefixAfter (c ∷ cs) (literal_prefix (literal_at cs))
unfolding literal_at
literal_at_after c cs = literal_prefix_after c cs (literal_at cs) (literal_within_after (length cs) cs)

run_after : (p : ℕ → Bool) (c : ℕ) (cs : List ℕ) → p c ≡ true → After (drop (prefix_len p (c ∷ cs)) (c ∷ cs)) (c ∷ cs)
run_after p c cs h =
    let n : 1 + prefix_len p cs ≡ suc (prefix_len p cs) = omega arith in
    rw (h, n) (After-drop (prefix_len p cs) c cs)

-- a letter goes in a name
pub alphabetic_goes_on : (c : ℕ) → is_ascii_alphabetic c ≡ true → goes_in_name c ≡ true
alphabetic_goes_on c h = grind (arith, nat_tests)

-- a mark that is found leaves what stands after it
abbrev MarkAfter : List ℕ → Option (Mark × List ℕ) → Type 0
MarkAfter cs (Some x) = After x.1 cs
MarkAfter cs None = Unit {0}

dots_after : (c : ℕ) (cs : List ℕ) → MarkAfter (c ∷ cs) (dots_at cs)
dots_after c [] = tt
dots_after c (d ∷ cs) = cond_when (MarkAfter (c ∷ d ∷ cs)) (eqb d 46) _ _ (λ h. After-trans (After-first d cs) (After-first c (d ∷ cs))) (λ h. tt)

mark_after : (c : ℕ) (cs : List ℕ) → MarkAfter (c ∷ cs) (mark_at (c ∷ cs))
unfolding mark_at
mark_after c cs =
    let P : Option (Mark × List ℕ) → Type 0 = MarkAfter (c ∷ cs) in
    let here = After-first c cs in
    cond_when P (eqb c 40) _ _ (λ h. here)
    (λ _. cond_when P (eqb c 41) _ _ (λ h. here)
    (λ _. cond_when P (eqb c 44) _ _ (λ h. here)
    (λ _. cond_when P (eqb c 59) _ _ (λ h. here)
    (λ _. cond_when P (eqb c 61) _ _ (λ h. here)
    (λ _. cond_when P (eqb c 124) _ _ (λ h. here)
    (λ _. cond_when P (eqb c 46) _ _ (λ h. dots_after c cs) (λ _. tt)))))))

mark_prefix_after : (cs : List ℕ) (o : Option (Mark × List ℕ)) → MarkAfter cs o → PrefixAfter cs (mark_prefix o)
mark_prefix_after cs (Some x) h = h
mark_prefix_after cs None h = tt

pub prefix_at_after : (cs : List ℕ) → PrefixAfter cs (prefix_at cs)
prefix_at_after [] = tt
prefix_at_after (c ∷ cs) =
    let P : Prefix → Type 0 = PrefixAfter (c ∷ cs) in
    cond_when P (eqb c 35) _ _ (λ _. After-drop (prefix_len isnt_line_feed cs) c cs)
    (λ _. cond_when P (eqb c 34) _ _ (λ _. literal_at_after c cs)
    (λ _. cond_when P (is_blank c) _ _ (λ _. After-first c cs)
    (λ _. cond_when P (is_ascii_alphabetic c) _ _ (λ h. run_after goes_in_name c cs (alphabetic_goes_on c h))
    (λ _. cond_when P (is_ascii_digit c) _ _ (λ h. run_after is_ascii_digit c cs h)
    (λ _. mark_prefix_after (c ∷ cs) (mark_at (c ∷ cs)) (mark_after c cs))))))

-- a turn depends on the turns for shorter lists alone
after_same : (f g : List ℕ → List Token) (cs : List ℕ) (x : Prefix) → PrefixAfter cs x → ((rest : List ℕ) → length rest < length cs → f rest ≡ g rest) → after f x ≡ after g x
after_same f g cs nothing h same = refl
after_same f g cs (blank rest) h same = same rest (After-shorter h)
after_same f g cs (token t rest) h same = ap (λ (ts : List Token). t ∷ ts) (same rest (After-shorter h))
after_same f g cs broken h same = refl

-- more turns than characters change nothing
lex_enough : (n m : ℕ) (cs : List ℕ) → length cs ≤ n → length cs ≤ m → lex_within n cs ≡ lex_within m cs
unfolding lex_within
lex_enough zero zero cs h k = refl
lex_enough zero (suc m) [] h k = refl
lex_enough zero (suc m) (c ∷ cs) h k = absurd (omega arith)
lex_enough (suc n) zero [] h k = refl
lex_enough (suc n) zero (c ∷ cs) h k = absurd (omega arith)
lex_enough (suc n) (suc m) cs h k =
    after_same (lex_within n) (lex_within m) cs (prefix_at cs) (prefix_at_after cs) (λ rest lt. lex_enough n m rest (omega arith) (omega arith))

pub lex_turn : (cs : List ℕ) → lex_of cs ≡ after lex_of (prefix_at cs)
unfolding lex_of lex_within
lex_turn [] = refl
lex_turn (c ∷ cs) =
    after_same (lex_within (length cs)) lex_of (c ∷ cs) (prefix_at (c ∷ cs)) (prefix_at_after (c ∷ cs)) (λ rest lt. lex_enough (length cs) (length rest) rest (omega arith) (omega arith))
