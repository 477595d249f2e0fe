-- Steps along the tokens of a file, and tests of all characters of a name.
use Rattle.std.proofs.Common.{◌≡◌, ℕ, Bool, ◌&&◌, List, [], ◌∷◌, ◌++◌, refl, sym, ap, append_assoc, length, arith}
use Rattle.std.specs.List.{list_all, list_any}
use Rattle.std.specs.Option.{option_to_list}
use Rattle.std.proofs.lemmas.List.{append-nil}
use Rattle.pg_file_tokens.specs.declared.token.Lexeme.{Lexeme}
use Rattle.pg_file_tokens.specs.Lexical.{passes}
use Rattle.pg_file_tokens.specs.Tokens.{is_bad}
use Rattle.pg_file_tokens.specs.View.{token_of, tokens_of, placed_tokens_of}
use Rattle.pg_grammar_form.proofs.Each.{any-map}
use Rattle.pg_server_names.specs.declared.sense.Occurrence.{Occurrence}
use Rattle.pg_server_names.specs.Surroundings.{Standing, next_of}
use Rattle.pg_server_names.specs.Senses.{named, names_in, after_token}

-- a test of tokens with their places is one of the tokens
pub no_bad : (ls : List Lexeme) → list_any (λ (l : Lexeme). is_bad (token_of l.token)) ls ≡ list_any is_bad (tokens_of ls)
no_bad ls = sym (any-map is_bad (λ (l : Lexeme). token_of l.token) ls)

-- each character passes
pub all_pass : (p : ℕ → Bool) (s : List ℕ) → list_all p s ≡ passes p s
all_pass p [] = refl
all_pass p (c ∷ cs) = ap (λ b. p c && b) (all_pass p cs)

-- no token is left
pub at_end : (s : Standing) (found : List Occurrence) (rest : List Lexeme) → length rest ≡ 0 → found ++ names_in s (placed_tokens_of rest) ≡ found
unfolding names_in
at_end s found [] e = append-nil found
at_end s found (l ∷ ls) e = absurd (omega (arith, e))

-- one token further
pub step : (s : Standing) (found : List Occurrence) (rest : List Lexeme) (l : Lexeme) (ls : List Lexeme) → rest ≡ l ∷ ls
    → (found ++ option_to_list (named l.place s (token_of l.token) (next_of (placed_tokens_of ls)))) ++ names_in (after_token s (token_of l.token) (next_of (placed_tokens_of ls))) (placed_tokens_of ls)
    ≡ found ++ names_in s (placed_tokens_of rest)
unfolding names_in
step s found rest l ls e = rw e (append_assoc found _ _)
