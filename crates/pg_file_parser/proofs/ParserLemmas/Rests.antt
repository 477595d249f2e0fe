-- The tokens that are left, step by step.
use Rattle.std.proofs.Common.{◌≡◌, ◌++◌, ◌-◌, List, [], ◌∷◌, length, drop, take, Result, Ok, Err, IfOk, refl, sym, ap, ◌∙◌, append_assoc, arith}
use Rattle.std.proofs.lemmas.Grind.{common_steps}
use Rattle.std.specs.Borrow.{Bor}
use Rattle.pg_file_tokens.specs.declared.token.Lexeme.{Lexeme}
use Rattle.pg_file_parser.specs.declared.error.SyntaxError.{SyntaxError}
use Rattle.pg_file_parser.specs.Rests.{EndsWith}

pub ends_whole : (ts : List Lexeme) → EndsWith ts ts
ends_whole ts = record { front = []; is = refl }

rest_is : (t : Lexeme) (ts : List Lexeme) → t ∷ ts ≡ t ∷ take (length (t ∷ ts) - 1) (drop 1 (t ∷ ts))
rest_is t ts = grind (arith, common_steps)

-- after the token at the front
pub ends_after : (ts : List Lexeme) → EndsWith ts (take (length ts - 1) (drop 1 ts))
ends_after [] = record { front = []; is = refl }
ends_after (t ∷ ts) = record { front = t ∷ []; is = rest_is t ts }

pub ends_on : (ts us vs : List Lexeme) → EndsWith ts us → EndsWith us vs → EndsWith ts vs
ends_on ts us vs a b = record { front = a.front ++ b.front; is = a.is ∙ ap (λ (ls : List Lexeme). a.front ++ ls) b.is ∙ sym (append_assoc a.front b.front vs) }

-- the tokens that an answer leaves
pub answer_ends : {Y : Type 0} (ts us : List Lexeme) (answer : Result (Y × Bor (List Lexeme)) SyntaxError) → EndsWith ts us → IfOk answer (λ x. EndsWith us x.1.now) → IfOk answer (λ x. EndsWith ts x.1.now)
answer_ends ts us (Ok x) a b = ends_on ts us x.1.now a b
answer_ends ts us (Err e) a b = tt

pub ruleset ends = (ends_whole, ends_after, ends_on)
