-- What holds of a result by two clauses.
use Rattle.std.proofs.Common.{Result, Ok, Err, IfOk}

pub by_both : {T E : Type 0} (r : Result T E) (A B R : T → Type 0) → ((x : T) → A x → B x → R x) → IfOk r A → IfOk r B → IfOk r R
by_both (Ok x) A B R f a b = f x a b
by_both (Err e) A B R f a b = tt
