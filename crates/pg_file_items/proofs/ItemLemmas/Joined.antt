-- Lists, one after another, and one list more.
use Rattle.std.proofs.Common.{◌≡◌, List, [], ◌∷◌, ◌++◌, append-nil, append_assoc, sym}
use Rattle.pg_file_items.specs.Joined.{joined}

pub joined_push : {A : Type 0} (lists : List (List A)) (list : List A) → joined (lists ++ list ∷ []) ≡ joined lists ++ list
joined_push [] list = append-nil list
joined_push (first ∷ lists) list = rw (joined_push lists list) (sym (append_assoc first (joined lists) list))
