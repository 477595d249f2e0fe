-- What holds of results, whatever they are of.
use Rattle.std.proofs.Common.{Result, Ok, Err}
use Rattle.std.specs.Prelude.{IfOk, OnErr, OnOk, IsErrOf}

-- what holds if there is an error holds where this one is
pub on_this_err : {T E P : Type 0} (r : Result T E) {e : E} → OnErr r P → IsErrOf r e → P
on_this_err (Ok x) h is = absurd cc
on_this_err (Err e) h is = h

-- of a value two facts give a third
pub if_ok_with : {T E Q : Type 0} (r : Result T E) (P R : T → Type 0) → ((x : T) → P x → Q → R x) → IfOk r P → OnOk r Q → IfOk r R
if_ok_with (Ok x) P R f h k = f x h k
if_ok_with (Err e) P R f h k = tt
