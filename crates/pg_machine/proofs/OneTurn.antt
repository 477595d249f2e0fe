-- At most one turn is one turn, since a last one changes nothing.
use Rattle.std.proofs.Common.{◌≡◌, ◌≤◌, ◌⊎◌, inl, inr, ℕ, zero, suc, [], ◌∷◌, true, refl, sym, ap, ◌∙◌, arith}
use Rattle.pg_language.specs.Answers.{Given}
use Rattle.pg_machine_turns.specs.Tape.{Tape, tape_at, tape_with, tape_endless, tape_turn, tape_is_last}
use Rattle.pg_machine_turns.specs.TapeRuns.{IsAfter}

last_stays : (G : Given) (x : Tape) → tape_is_last x ≡ true → x ≡ tape_turn G x
last_stays G (tape_at p i fs v t x T) l = cc
last_stays G (tape_with reply [] v t x T) l = refl
last_stays G (tape_with reply (f ∷ fs) v t x T) l = cc
last_stays G tape_endless l = refl

pub one_turn : (G : Given) (x : Tape) (n : ℕ) (y : Tape) → IsAfter G x n y → n ≤ 1 → (1 ≤ n) ⊎ (tape_is_last y ≡ true) → y ≡ tape_turn G x
one_turn G x zero y h l (inl m) = absurd (omega arith)
one_turn G x zero y h l (inr last) = let is : tape_is_last x ≡ true = ap tape_is_last (sym h) ∙ last in h ∙ last_stays G x is
one_turn G x (suc zero) y h l m = h.3 ∙ ap (tape_turn G) h.1
one_turn G x (suc (suc n)) y h l m = absurd (omega arith)
