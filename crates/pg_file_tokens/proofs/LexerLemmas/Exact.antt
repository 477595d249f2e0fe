-- The tokens with their places, and what a turn makes of them; no characters that spell tokens have a bad one.
use Rattle.std.specs.List.{Contains, list_any}
use Rattle.std.proofs.Common.{slice_index_or, ◌≡◌, ℕ, zero, suc, ◌-◌, ◌<◌, ◌≤◌, Bool, true, false, ◌||◌, ◌==◌, eqb-true, nat_lt, cond, List, [], ◌∷◌, ◌++◌, length, map, refl, sym, ap, subst, ◌∙◌, arith, append-nil, append_assoc}
use Rattle.std.proofs.lemmas.Bool.Decides.{nat_tests}
use Rattle.std.proofs.lemmas.List.{map-append}
use Rattle.pg_file_tokens.specs.declared.token.Lexeme.{Lexeme}
use Rattle.std.proofs.lemmas.Bool.{and_parts}
use Rattle.pg_file_tokens.specs.Tokens.{Token, name, number, literal, mark, wrong, bad, is_bad, IsGood, AreGood}
use Rattle.pg_file_tokens.specs.Lexical.{Spelled, ends, blank as spelled_blank, comment, a_mark, a_name, a_number, a_literal}
use Rattle.pg_file_tokens.specs.Lexing.{Prefix, nothing, blank, token, broken, prefix_at, after, lex_within, lex_of, placed_after, placed_within, placed_of, up_to}
use Rattle.pg_file_tokens.specs.View.{token_of, placed_tokens_of, is_bad_at}
use Rattle.pg_file_tokens.proofs.LexerLemmas.Turns.{After-shorter}
use Rattle.pg_file_tokens.proofs.LexerLemmas.Prefixes.{PrefixAfter, prefix_at_after}
use Rattle.pg_file_tokens.proofs.LexerLemmas.Complete.{lex_complete}

-- ---- turns

-- a turn depends on the turns for shorter lists alone
placed_same : (f g : List ℕ → List (ℕ × Token)) (place : ℕ) (cs : List ℕ) (x : Prefix) → PrefixAfter cs x → ((rest : List ℕ) → length rest < length cs → f rest ≡ g rest)
    → placed_after f place x ≡ placed_after g place x
placed_same f g place cs nothing h same = refl
placed_same f g place cs (blank rest) h same = same rest (After-shorter h)
placed_same f g place cs (token t rest) h same = ap (λ (ls : List (ℕ × Token)). (place, t) ∷ ls) (same rest (After-shorter h))
placed_same f g place cs broken h same = refl

-- more turns than characters change nothing
placed_enough : (n m all : ℕ) (cs : List ℕ) → length cs ≤ n → length cs ≤ m → placed_within n all cs ≡ placed_within m all cs
unfolding placed_within
placed_enough zero zero all cs h k = refl
placed_enough zero (suc m) all [] h k = refl
placed_enough zero (suc m) all (c ∷ cs) h k = absurd (omega arith)
placed_enough (suc n) zero all [] h k = refl
placed_enough (suc n) zero all (c ∷ cs) h k = absurd (omega arith)
placed_enough (suc n) (suc m) all cs h k =
    placed_same (placed_within n all) (placed_within m all) (all - length cs) cs (prefix_at cs) (prefix_at_after cs) (λ rest lt. placed_enough n m all rest (omega arith) (omega arith))

-- of the end of a file that has so many characters in all
unfoldable pub placed_from : ℕ → List ℕ → List (ℕ × Token)
placed_from all cs = placed_within (length cs) all cs

placed_turn : (all : ℕ) (cs : List ℕ) → placed_from all cs ≡ placed_after (placed_from all) (all - length cs) (prefix_at cs)
unfolding placed_from placed_within
placed_turn all [] = refl
placed_turn all (c ∷ cs) =
    placed_same (placed_within (length cs) all) (placed_from all) (all - length (c ∷ cs)) (c ∷ cs) (prefix_at (c ∷ cs)) (prefix_at_after (c ∷ cs))
    (λ rest lt. placed_enough (length cs) (length rest) all rest (omega arith) (omega arith))

-- ---- the tokens so far

-- these are the tokens of cs up to where rest begins, and none starts after the last place
pub record PlacedUpTo (last : ℕ) (cs rest : List ℕ) (ls : List Lexeme) : Type 0 where
  pub so_far : placed_tokens_of ls ++ up_to last (placed_from (length cs) rest) ≡ up_to last (placed_of cs)

-- before the first turn
pub placed_none : (last : ℕ) (cs : List ℕ) → PlacedUpTo last cs cs []
unfolding placed_of placed_from
placed_none last cs = record { so_far = refl }

abbrev placed : Lexeme → ℕ × Token
placed l = (l.place, token_of l.token)

placed_push : (ls : List Lexeme) (l : Lexeme) → placed_tokens_of (ls ++ l ∷ []) ≡ placed_tokens_of ls ++ placed l ∷ []
placed_push ls l = map-append placed ls (l ∷ [])

-- a place after the last
pub is_late : (last place : ℕ) → last < place → nat_lt last place ≡ true
is_late last place h = grind (arith, nat_tests)

-- and one that isn't
pub isnt_late : (last place : ℕ) → place ≤ last → nat_lt last place ≡ false
isnt_late last place h = grind (arith, nat_tests)

-- what follows a token that is the last or isn't
go_on : {A : Type 0} (b c : Bool) (x y : A) → b ≡ c → cond b x y ≡ cond c x y
go_on b c x y e = ap (λ (d : Bool). cond d x y) e

module _ {last : ℕ} {cs rest : List ℕ} {ls : List Lexeme} (found : PlacedUpTo last cs rest ls) where
  -- what is found when the rest is read
  turned : (x : Prefix) → prefix_at rest ≡ x → placed_tokens_of ls ++ up_to last (placed_after (placed_from (length cs)) (length cs - length rest) x) ≡ up_to last (placed_of cs)
  turned x e =
      let turn : placed_from (length cs) rest ≡ placed_after (placed_from (length cs)) (length cs - length rest) x =
      placed_turn (length cs) rest ∙ ap (placed_after (placed_from (length cs)) (length cs - length rest)) e in
      ap (λ (ts : List (ℕ × Token)). placed_tokens_of ls ++ up_to last ts) (sym turn) ∙ found.so_far

  -- white space and comments leave the tokens as they are
  pub placed_blank : (following : List ℕ) → prefix_at rest ≡ blank following → PlacedUpTo last cs following ls
  placed_blank following e = record { so_far = turned (blank following) e }

  -- a token, and those after it
  pushed : (l : Lexeme) (more : List Lexeme) (x : ℕ × Token) (others : List (ℕ × Token)) → placed l ≡ x → more ≡ ls ++ l ∷ [] → placed_tokens_of more ++ others ≡ placed_tokens_of ls ++ x ∷ others
  pushed l more x others e m =
      ap (λ (ms : List Lexeme). placed_tokens_of ms ++ others) m ∙ ap (λ (ts : List (ℕ × Token)). ts ++ others) (placed_push ls l)
      ∙ append_assoc (placed_tokens_of ls) (placed l ∷ []) others ∙ ap (λ (y : ℕ × Token). placed_tokens_of ls ++ y ∷ others) e

  -- a token more, which isn't the last
  pub placed_token : (l : Lexeme) (more : List Lexeme) (following : List ℕ) → prefix_at rest ≡ token (token_of l.token) following → l.place ≡ length cs - length rest → more ≡ ls ++ l ∷ []
      → nat_lt last l.place ≡ false → PlacedUpTo last cs following more
  placed_token l more following e p m early =
      let place : ℕ = length cs - length rest in
      let others : List (ℕ × Token) = up_to last (placed_from (length cs) following) in
      let goes : nat_lt last place ≡ false = subst (λ (k : ℕ). nat_lt last k ≡ false) p early in
      record {
        so_far =
            pushed l more (place, token_of l.token) others (ap (λ (k : ℕ). (k, token_of l.token)) p) m
            ∙ ap (λ (os : List (ℕ × Token)). placed_tokens_of ls ++ (place, token_of l.token) ∷ os) (sym (go_on (nat_lt last place) false [] others goes))
            ∙ turned (token (token_of l.token) following) e;
      }

  -- the last token
  pub placed_last : (l : Lexeme) (more : List Lexeme) (following : List ℕ) → prefix_at rest ≡ token (token_of l.token) following → l.place ≡ length cs - length rest → more ≡ ls ++ l ∷ []
      → nat_lt last l.place ≡ true → placed_tokens_of more ≡ up_to last (placed_of cs)
  placed_last l more following e p m late =
      let place : ℕ = length cs - length rest in
      let others : List (ℕ × Token) = up_to last (placed_from (length cs) following) in
      let stops : nat_lt last place ≡ true = subst (λ (k : ℕ). nat_lt last k ≡ true) p late in
      sym (append-nil (placed_tokens_of more)) ∙ pushed l more (place, token_of l.token) [] (ap (λ (k : ℕ). (k, token_of l.token)) p) m
      ∙ ap (λ (os : List (ℕ × Token)). placed_tokens_of ls ++ (place, token_of l.token) ∷ os) (sym (go_on (nat_lt last place) true [] others stops))
      ∙ turned (token (token_of l.token) following) e

  -- no token: the last
  pub placed_bad : (l : Lexeme) (more : List Lexeme) → prefix_at rest ≡ broken → token_of l.token ≡ bad → l.place ≡ length cs - length rest → more ≡ ls ++ l ∷ []
      → placed_tokens_of more ≡ up_to last (placed_of cs)
  placed_bad l more e t p m =
      let place : ℕ = length cs - length rest in
      let is : placed l ≡ (place, bad) = cc in
      sym (append-nil (placed_tokens_of more)) ∙ pushed l more (place, bad) [] is m
      ∙ ap (λ (os : List (ℕ × Token)). placed_tokens_of ls ++ (place, bad) ∷ os) (either (nat_lt last place))
      ∙ turned broken e
    where
      either : (b : Bool) → [] ≡ cond b (let n : List (ℕ × Token) = [] in n) []
      either true = refl
      either false = refl

  -- the end
  pub placed_end : prefix_at rest ≡ nothing → placed_tokens_of ls ≡ up_to last (placed_of cs)
  placed_end e = sym (append-nil (placed_tokens_of ls)) ∙ turned nothing e

-- ---- all of them

-- no token starts after the end of the file
module _ (last all : ℕ) (short : all ≤ last) where
  up_to_turn : (others : List ℕ → List (ℕ × Token)) → ((rest : List ℕ) → up_to last (others rest) ≡ others rest) → (place : ℕ) (x : Prefix) → place ≤ all
      → up_to last (placed_after others place x) ≡ placed_after others place x
  up_to_turn others all_found place nothing h = refl
  up_to_turn others all_found place (blank rest) h = all_found rest
  up_to_turn others all_found place (token t rest) h =
      ap (λ (os : List (ℕ × Token)). (place, t) ∷ os) (go_on (nat_lt last place) false [] (up_to last (others rest)) (isnt_late last place (omega arith)) ∙ all_found rest)
  up_to_turn others all_found place broken h =
      ap (λ (os : List (ℕ × Token)). (place, bad) ∷ os) (go_on (nat_lt last place) false [] [] (isnt_late last place (omega arith)))

  up_to_end : (n : ℕ) (cs : List ℕ) → up_to last (placed_within n all cs) ≡ placed_within n all cs
  unfolding placed_within
  up_to_end zero cs = refl
  up_to_end (suc n) cs = up_to_turn (placed_within n all) (up_to_end n) (all - length cs) (prefix_at cs) (omega arith)

-- so all are found where none is left out
pub up_to_all : (cs : List ℕ) → up_to (length cs) (placed_of cs) ≡ placed_of cs
unfolding placed_of
up_to_all cs = up_to_end (length cs) (length cs) (omega arith) (length cs) cs

-- ---- bad tokens

-- without the places they are the tokens
module _ (f : List ℕ → List (ℕ × Token)) (g : List ℕ → List Token) (same : (rest : List ℕ) → map (λ (x : ℕ × Token). x.1) (f rest) ≡ g rest) where
  without_places : (place : ℕ) (x : Prefix) → map (λ (x : ℕ × Token). x.1) (placed_after f place x) ≡ after g x
  without_places place nothing = refl
  without_places place (blank rest) = same rest
  without_places place (token t rest) = ap (λ (ts : List Token). t ∷ ts) (same rest)
  without_places place broken = refl

tokens_within : (n all : ℕ) (cs : List ℕ) → map (λ (x : ℕ × Token). x.1) (placed_within n all cs) ≡ lex_within n cs
unfolding placed_within lex_within
tokens_within zero all cs = refl
tokens_within (suc n) all cs = without_places (placed_within n all) (lex_within n) (tokens_within n all) (all - length cs) (prefix_at cs)

tokens_placed : (cs : List ℕ) → map (λ (x : ℕ × Token). x.1) (placed_of cs) ≡ lex_of cs
unfolding placed_of lex_of
tokens_placed cs = tokens_within (length cs) (length cs) cs

-- what is spelled is good
spelled_good : {cs : List ℕ} {ts : List Token} → Spelled cs ts → AreGood ts
spelled_good ends = tt
spelled_good (spelled_blank h s) = spelled_good s
spelled_good (comment xs cs h k s) = spelled_good s
spelled_good (a_mark m cs s) = (tt, spelled_good s)
spelled_good (a_name s cs h k t) = (tt, spelled_good t)
spelled_good (a_number s cs h k t) = (tt, spelled_good t)
spelled_good (a_literal h s) = (tt, spelled_good s)

none_bad : (ls : List (ℕ × Token)) (place k : ℕ) → k < length ls → slice_index_or ls k (place, bad) ≡ (place, bad) → AreGood (map (λ (x : ℕ × Token). x.1) ls) → ⊥
none_bad [] place k h e good = absurd (omega arith)
none_bad (l ∷ ls) place zero h e good = subst (λ (x : ℕ × Token). IsGood x.1) e good.0
none_bad (l ∷ ls) place (suc k) h e good = none_bad ls place k (omega arith) e good.1

-- characters with a bad token spell none
pub bad_spells_none : (cs : List ℕ) (place : ℕ) → Contains (placed_of cs) (place, bad) → (ts : List Token) → Spelled cs ts → ⊥
bad_spells_none cs place h ts spelled =
    let same : map (λ (x : ℕ × Token). x.1) (placed_of cs) ≡ ts = tokens_placed cs ∙ lex_complete spelled in
    none_bad (placed_of cs) place h.0 h.1 h.2 (subst AreGood (sym same) (spelled_good spelled))

-- those up to a place are among all
among : (last : ℕ) (ls : List (ℕ × Token)) (x : ℕ × Token) (k : ℕ) → k < length (up_to last ls) → slice_index_or (up_to last ls) k x ≡ x → Contains ls x
among last [] x k h e = absurd (omega arith)
among last (l ∷ ls) x zero h e = (0, omega arith, e)
among last (l ∷ ls) x (suc k) h e = further (λ short there. among last ls x k short there) (nat_lt last l.0) refl
  where
    further : (k < length (up_to last ls) → slice_index_or (up_to last ls) k x ≡ x → Contains ls x) → (b : Bool) → nat_lt last l.0 ≡ b → Contains (l ∷ ls) x
    further others true late =
        let short : length (cond (nat_lt last l.0) [] (up_to last ls)) ≡ 0 = ap length (go_on (nat_lt last l.0) true [] (up_to last ls) late) in
        absurd (omega (arith, h))
    further others false early =
        let same : cond (nat_lt last l.0) [] (up_to last ls) ≡ up_to last ls = go_on (nat_lt last l.0) false [] (up_to last ls) early in
        let q = others (omega (arith, ap length same)) (ap (λ (os : List (ℕ × Token)). slice_index_or os k x) (sym same) ∙ e) in
        (suc q.0, omega (arith, q.1), q.2)

pub up_to_among : (last : ℕ) (ls : List (ℕ × Token)) (x : ℕ × Token) → Contains (up_to last ls) x → Contains ls x
up_to_among last ls x h = among last ls x h.0 h.1 h.2

is_bad_is : (t : Token) → is_bad t ≡ true → t ≡ bad
is_bad_is (name s) h = absurd cc
is_bad_is (number s) h = absurd cc
is_bad_is (literal s) h = absurd cc
is_bad_is (mark m) h = absurd cc
is_bad_is wrong h = absurd cc
is_bad_is bad h = refl

bad_at_is : (place : ℕ) (l : Lexeme) → is_bad_at place l ≡ true → placed l ≡ (place, bad)
bad_at_is place l h =
    let both = and_parts (l.place == place) (is_bad (token_of l.token)) h in
    let same : l.place ≡ place = eqb-true l.place place both.0 in
    let is : token_of l.token ≡ bad = is_bad_is (token_of l.token) both.1 in
    cc

pub bad_is_listed : (place : ℕ) (ls : List Lexeme) → list_any (is_bad_at place) ls ≡ true → Contains (placed_tokens_of ls) (place, bad)
bad_is_listed place [] h = absurd cc
bad_is_listed place (l ∷ ls) h = here (is_bad_at place l) refl (λ e. bad_is_listed place ls e)
  where
    here : (b : Bool) → is_bad_at place l ≡ b → (list_any (is_bad_at place) ls ≡ true → Contains (placed_tokens_of ls) (place, bad)) → Contains (placed_tokens_of (l ∷ ls)) (place, bad)
    here true e others = (0, omega arith, bad_at_is place l e)
    here false e others =
        let q = others (ap (λ (b : Bool). b || list_any (is_bad_at place) ls) (sym e) ∙ h) in
        (suc q.0, omega (arith, q.1), q.2)
