-- The tokens so far, with their places, and what a turn makes of them.
use Rattle.std.proofs.Common.{◌≡◌, ℕ, ◌+◌, ◌-◌, ◌<◌, ◌≤◌, List, [], ◌∷◌, ◌++◌, drop, length, Some, refl, sym, ap, subst, ◌∙◌, arith, append-nil, append_assoc}
use Rattle.std.specs.Prelude.{All, AllPairs}
use Rattle.std.proofs.lemmas.List.{map-append, drop-drop}
use Rattle.std.proofs.lemmas.List.Elements.{All-push}
use Rattle.std.proofs.lemmas.List.Quantifiers.{all_pairs_push}
use Rattle.pg_file_tokens.specs.declared.token.Lexeme.{Lexeme}
use Rattle.pg_file_tokens.specs.Tokens.{Token, bad, AreGood}
use Rattle.pg_file_tokens.specs.Lexical.{Spelled}
use Rattle.pg_file_tokens.specs.Lexing.{nothing, blank, token, broken, prefix_at, token_prefix, after, lex_of}
use Rattle.pg_file_tokens.specs.View.{token_of, tokens_of, StandsIn}
use Rattle.pg_file_tokens.proofs.LexerLemmas.Turns.{After, After-shorter, After-drop_at}
use Rattle.pg_file_tokens.proofs.LexerLemmas.Prefixes.{PrefixAfter, prefix_at_after, lex_turn}
use Rattle.pg_file_tokens.proofs.LexerLemmas.Sound.{lex_sound}
use Rattle.pg_file_tokens.proofs.LexerLemmas.Complete.{lex_complete}

-- these are the tokens of cs up to where rest begins
pub record LexedUpTo (cs rest : List ℕ) (ls : List Lexeme) : Type 0 where
  pub so_far : tokens_of ls ++ lex_of rest ≡ lex_of cs
  pub shorter : length rest ≤ length cs
  pub here : drop (length cs - length rest) cs ≡ rest
  pub placed : All (StandsIn cs) ls
  pub before : All (λ (l : Lexeme). l.place + length rest < length cs) ls
  pub ascending : AllPairs (λ (l m : Lexeme). l.place < m.place) ls

-- these are all tokens of cs
pub record Lexed (cs : List ℕ) (ls : List Lexeme) : Type 0 where
  pub tokens : tokens_of ls ≡ lex_of cs
  pub placed : All (StandsIn cs) ls
  pub within : All (λ (l : Lexeme). l.place < length cs) ls
  pub ascending : AllPairs (λ (l m : Lexeme). l.place < m.place) ls

here_on : (cs rest following : List ℕ) → drop (length cs - length rest) cs ≡ rest → length rest ≤ length cs → After following rest → drop (length cs - length following) cs ≡ following
here_on cs rest following e h b =
    let lt = After-shorter b in
    let n : length cs - length rest + (length rest - length following) ≡ length cs - length following = omega arith in
    ap (λ (k : ℕ). drop k cs) (sym n) ∙ sym (drop-drop (length rest - length following) (length cs - length rest) cs) ∙ ap (drop (length rest - length following)) e ∙ After-drop_at b

tokens_push : (ls : List Lexeme) (l : Lexeme) → tokens_of (ls ++ l ∷ []) ≡ tokens_of ls ++ token_of l.token ∷ []
tokens_push ls l = map-append (λ (m : Lexeme). token_of m.token) ls (l ∷ [])

module _ {cs rest : List ℕ} {ls : List Lexeme} (lexed : LexedUpTo cs rest ls) where
  -- white space and comments leave the tokens as they are
  pub lexed_blank : (following : List ℕ) → prefix_at rest ≡ blank following → LexedUpTo cs following ls
  lexed_blank following e =
      let b : After following rest = subst (PrefixAfter rest) e (prefix_at_after rest) in
      let lt = After-shorter b in
      record {
        so_far = ap (λ (ts : List Token). tokens_of ls ++ ts) (sym (lex_turn rest ∙ ap (after lex_of) e)) ∙ lexed.so_far;
        shorter = omega (arith, lexed.shorter);
        here = here_on cs rest following lexed.here lexed.shorter b;
        placed = lexed.placed;
        before = λ k d h. omega (arith, lexed.before k d h);
        ascending = lexed.ascending;
      }

  stands : (l : Lexeme) → l.place ≡ length cs - length rest → token_prefix (prefix_at rest) ≡ Some (token_of l.token) → StandsIn cs l
  stands l p e = ap (λ (k : ℕ). token_prefix (prefix_at (drop k cs))) p ∙ ap (λ (xs : List ℕ). token_prefix (prefix_at xs)) lexed.here ∙ e

  later : (l : Lexeme) → l.place ≡ length cs - length rest → AllPairs (λ (l m : Lexeme). l.place < m.place) (ls ++ l ∷ [])
  later l p = all_pairs_push (λ (l m : Lexeme). l.place < m.place) ls l lexed.ascending (λ k d h. omega (arith, lexed.before k d h))

  -- a token more
  pub lexed_token : (l : Lexeme) (more : List Lexeme) (following : List ℕ) → prefix_at rest ≡ token (token_of l.token) following → l.place ≡ length cs - length rest → more ≡ ls ++ l ∷ [] → LexedUpTo cs following more
  lexed_token l more following e p m =
      let b : After following rest = subst (PrefixAfter rest) e (prefix_at_after rest) in
      let lt = After-shorter b in
      let turn : lex_of rest ≡ token_of l.token ∷ lex_of following = lex_turn rest ∙ ap (after lex_of) e in
      let pushed : LexedUpTo cs following (ls ++ l ∷ []) = record {
        so_far = ap (λ (ts : List Token). ts ++ lex_of following) (tokens_push ls l) ∙ append_assoc (tokens_of ls) (token_of l.token ∷ []) (lex_of following) ∙ ap (λ (ts : List Token). tokens_of ls ++ ts) (sym turn) ∙ lexed.so_far;
        shorter = omega (arith, lexed.shorter);
        here = here_on cs rest following lexed.here lexed.shorter b;
        placed = All-push (StandsIn cs) ls l lexed.placed (stands l p (ap token_prefix e));
        before = All-push (λ (l : Lexeme). l.place + length following < length cs) ls l (λ k d h. omega (arith, lexed.before k d h)) (omega (arith, lexed.shorter));
        ascending = later l p;
      } in
      subst (LexedUpTo cs following) (sym m) pushed

  -- no token: the last
  pub lexed_bad : (l : Lexeme) (more : List Lexeme) → prefix_at rest ≡ broken → token_of l.token ≡ bad → l.place ≡ length cs - length rest → more ≡ ls ++ l ∷ [] → Lexed cs more
  lexed_bad l more e t p m =
      let turn : lex_of rest ≡ token_of l.token ∷ [] = lex_turn rest ∙ ap (after lex_of) e ∙ ap (λ (u : Token). u ∷ []) (sym t) in
      let some : 0 < length rest = broken_some rest e in
      let pushed : Lexed cs (ls ++ l ∷ []) = record {
        tokens = tokens_push ls l ∙ ap (λ (ts : List Token). tokens_of ls ++ ts) (sym turn) ∙ lexed.so_far;
        placed = All-push (StandsIn cs) ls l lexed.placed (stands l p (ap token_prefix e ∙ ap (λ (u : Token). Some u) (sym t)));
        within = All-push (λ (l : Lexeme). l.place < length cs) ls l (λ k d h. omega (arith, lexed.before k d h)) (omega (arith, lexed.shorter));
        ascending = later l p;
      } in
      subst (Lexed cs) (sym m) pushed
    where
      broken_some : (xs : List ℕ) → prefix_at xs ≡ broken → 0 < length xs
      broken_some [] h = absurd cc
      broken_some (c ∷ xs) h = omega arith

  -- the end
  pub lexed_end : prefix_at rest ≡ nothing → Lexed cs ls
  lexed_end e = record {
    tokens = sym (append-nil (tokens_of ls)) ∙ ap (λ (ts : List Token). tokens_of ls ++ ts) (sym (lex_turn rest ∙ ap (after lex_of) e)) ∙ lexed.so_far;
    placed = lexed.placed;
    within = λ k d h. omega (arith, lexed.before k d h);
    ascending = lexed.ascending;
  }

-- before the first turn
pub lexed_none : (cs : List ℕ) → LexedUpTo cs cs []
lexed_none cs =
    let n : length cs - length cs ≡ 0 = omega arith in
    record {
      so_far = refl;
      shorter = omega arith;
      here = ap (λ (k : ℕ). drop k cs) n;
      placed = λ k d h. absurd (omega arith);
      before = λ k d h. absurd (omega arith);
      ascending = λ i j d h k. absurd (omega arith);
    }

-- a token is at least one character
pub token_shorter : (cs : List ℕ) (t : Token) (rest : List ℕ) → prefix_at cs ≡ token t rest → length rest < length cs
token_shorter cs t rest e = let b : After rest cs = subst (PrefixAfter cs) e (prefix_at_after cs) in After-shorter b

-- so a list of good tokens is spelled by the characters
pub lexed_spelled : {cs : List ℕ} {ls : List Lexeme} → Lexed cs ls → AreGood (tokens_of ls) → Spelled cs (tokens_of ls)
lexed_spelled {cs} {ls} lexed good = subst (Spelled cs) (sym lexed.tokens) (lex_sound cs (subst AreGood lexed.tokens good))

-- and there is no other
pub lexed_only : {cs : List ℕ} {ls : List Lexeme} → Lexed cs ls → (ts : List Token) → Spelled cs ts → tokens_of ls ≡ ts
lexed_only lexed ts spelled = lexed.tokens ∙ lex_complete spelled
