-- What is put behind the bytes that a block holds, one part after another.
use Rattle.std.proofs.Common.{◌≡◌, ℕ, zero, suc, ◌+◌, ◌≤◌, min, List, [], ◌∷◌, ◌++◌, Option, take, length, refl, sym, ap, subst, arith, append_assoc, append-nil, ◌∙◌, Result, Ok, Err}
use Rattle.std.specs.Prelude.{OnOk, OnErr, IsErr}
use Rattle.std.proofs.lemmas.Bool.{false≢true}
use Rattle.std.specs.Io.KnownBytes.{Appends}
use Rattle.std.proofs.KnownBytes.{Appends-nil, Appends-trans}
use Rattle.std.proofs.Math.Seq.{take-append-add}
use Rattle.std.proofs.lemmas.List.{take-take}
use Rattle.pg_tree.specs.Bytes.{AppendsPrefix}
use Rattle.pg_tree_placed.specs.Writing.{Puts, IsPut, IsPutTo}

take_of_more : (n : ℕ) (bytes more : List ℕ) → take n bytes ≡ take (min n (length bytes)) (bytes ++ more)
take_of_more n [] more = let none : min n 0 ≡ 0 = omega arith in rw none (nothing n)
  where
    nothing : (k : ℕ) → take {A = ℕ} k [] ≡ []
    nothing zero = refl
    nothing (suc k) = refl
take_of_more zero (b ∷ bytes) more = let none : min 0 (suc (length bytes)) ≡ 0 = omega arith in rw none refl
take_of_more (suc n) (b ∷ bytes) more =
    let next : min (suc n) (suc (length bytes)) ≡ suc (min n (length bytes)) = omega arith in
    rw next (ap (λ bs. b ∷ bs) (take_of_more n bytes more))

-- a prefix of some bytes is one of more
pub prefix_longer : (old new : Option (List ℕ)) (bytes more : List ℕ) → AppendsPrefix old new bytes → AppendsPrefix old new (bytes ++ more)
prefix_longer old new bytes more prefix = (min prefix.0 (length bytes), subst (Appends old new) (take_of_more prefix.0 bytes more) prefix.1)

-- all of some bytes, and then a prefix of others
pub prefix_after : (old middle new : Option (List ℕ)) (bytes more : List ℕ) → Appends old middle bytes → AppendsPrefix middle new more
    → AppendsPrefix old new (bytes ++ more)
prefix_after old middle new bytes more h prefix =
    (length bytes + prefix.0, subst (Appends old new) (sym (take-append-add bytes more prefix.0)) (Appends-trans old middle new bytes (take prefix.0 more) h prefix.1))

-- ---- one push

-- the block takes the bytes
pub kept_put : (before : Option (List ℕ)) (held holds bytes : List ℕ) → holds ≡ held ++ bytes → Puts before held before holds [] bytes
kept_put before held holds bytes is = record { sent = []; written = Appends-nil before; same = sym is ∙ sym (append-nil holds) }

-- what it held is sent, and it takes the bytes then
pub sent_put : (before after : Option (List ℕ)) (held none holds bytes : List ℕ) → Appends before after held → none ≡ [] → holds ≡ none ++ bytes
    → Puts before held after holds [] bytes
sent_put before after held none holds bytes h e is = record {
  sent = held;
  written = h;
  same = ap (λ xs. held ++ xs) (sym (append-nil holds ∙ is ∙ ap (λ xs. xs ++ bytes) e));
}

-- what it held is sent, and the bytes after it
pub passed_put : (before middle after : Option (List ℕ)) (held none bytes : List ℕ) → Appends before middle held → Appends middle after bytes → none ≡ []
    → Puts before held after none [] bytes
passed_put before middle after held none bytes h k e = record {
  sent = held ++ bytes;
  written = Appends-trans before middle after held bytes h k;
  same = sym (append-nil (held ++ bytes)) ∙ ap (λ xs. (held ++ bytes) ++ xs) (sym (append-nil none ∙ e));
}

-- as many bytes as are copied
pub first_kept : (before : Option (List ℕ)) (held holds bytes : List ℕ) (count : ℕ) → count ≤ 32 → holds ≡ held ++ take count (take 32 bytes)
    → Puts before held before holds [] (take count bytes)
first_kept before held holds bytes count few is = kept_put before held holds (take count bytes) (is ∙ ap (λ xs. held ++ xs) (take-take count 32 bytes few))

-- ---- one part after another

pub puts_none : (before : Option (List ℕ)) (held all : List ℕ) → Puts before held before held all all
puts_none before held all = record { sent = []; written = Appends-nil before; same = refl }

pub puts_both : (before middle after : Option (List ℕ)) (held kept holds left rest all : List ℕ) → Puts before held middle kept left all → Puts middle kept after holds rest left
    → Puts before held after holds rest all
puts_both before middle after held kept holds left rest all one other = record {
  sent = one.sent ++ other.sent;
  written = Appends-trans before middle after one.sent other.sent one.written other.written;
  same = one.same ∙ ap (λ xs. one.sent ++ xs) other.same ∙ sym (append_assoc one.sent other.sent (holds ++ rest));
}

-- the next bytes of what is left are put
pub next_put : (before middle after : Option (List ℕ)) (held kept holds left bytes rest all : List ℕ) → Puts before held middle kept left all → left ≡ bytes ++ rest
    → Puts middle kept after holds [] bytes → Puts before held after holds rest all
next_put before middle after held kept holds left bytes rest all one e other = record {
  sent = one.sent ++ other.sent;
  written = Appends-trans before middle after one.sent other.sent one.written other.written;
  same =
      one.same ∙ ap (λ xs. one.sent ++ (kept ++ xs)) e ∙ ap (λ xs. one.sent ++ xs) (sym (append_assoc kept bytes rest))
      ∙ ap (λ xs. one.sent ++ (xs ++ rest)) (other.same ∙ ap (λ xs. other.sent ++ xs) (append-nil holds))
      ∙ ap (λ xs. one.sent ++ xs) (append_assoc other.sent holds rest) ∙ sym (append_assoc one.sent other.sent (holds ++ rest));
}

-- some is put, and then a prefix of what is held and left
pub puts_stopped : (before middle after : Option (List ℕ)) (held kept left all : List ℕ) → Puts before held middle kept left all → AppendsPrefix middle after (kept ++ left)
    → AppendsPrefix before after (held ++ all)
puts_stopped before middle after held kept left all one stopped =
    subst (AppendsPrefix before after) (sym one.same) (prefix_after before middle after one.sent (kept ++ left) one.written stopped)

-- some is put, and then a prefix of what is held and of the next bytes
pub next_stopped : (before middle after : Option (List ℕ)) (held kept left bytes rest all : List ℕ) → Puts before held middle kept left all → left ≡ bytes ++ rest
    → AppendsPrefix middle after (kept ++ bytes) → AppendsPrefix before after (held ++ all)
next_stopped before middle after held kept left bytes rest all one e stopped =
    puts_stopped before middle after held kept left all one
    (subst (AppendsPrefix middle after) (append_assoc kept bytes rest ∙ ap (λ xs. kept ++ xs) (sym e)) (prefix_longer middle after (kept ++ bytes) rest stopped))

-- ---- results

-- the writer stopped: the bytes, or what waited before them, were written in part
pub stopped_put : {T E : Type 0} (r : Result T E) (before after : Option (List ℕ)) (held holds bytes : List ℕ) → IsErr r → AppendsPrefix before after (held ++ bytes)
    → IsPut r before held after holds bytes
stopped_put (Ok x) before after held holds bytes h stopped = absurd (false≢true h)
stopped_put (Err e) before after held holds bytes h stopped = stopped

-- what waited was written, and then bytes are
pub passed_last : {T E : Type 0} (r : Result T E) (before middle after : Option (List ℕ)) (held none bytes : List ℕ) → Appends before middle held → none ≡ []
    → OnOk r (Appends middle after bytes) → OnErr r (AppendsPrefix middle after bytes) → IsPut r before held after none bytes
passed_last (Ok x) before middle after held none bytes h e ok err = passed_put before middle after held none bytes h ok e
passed_last (Err x) before middle after held none bytes h e ok err = prefix_after before middle after held bytes h err

-- the last bytes are put
pub last_put : {T E : Type 0} (r : Result T E) (before middle after : Option (List ℕ)) (held kept holds left bytes all : List ℕ) → Puts before held middle kept left all → left ≡ bytes
    → IsPut r middle kept after holds bytes → IsPut r before held after holds all
last_put (Ok x) before middle after held kept holds left bytes all one e other =
    next_put before middle after held kept holds left bytes [] all one (e ∙ sym (append-nil bytes)) other
last_put (Err x) before middle after held kept holds left bytes all one e other =
    next_stopped before middle after held kept left bytes [] all one (e ∙ sym (append-nil bytes)) other

-- the writer stopped at the next bytes
pub next_stops : {T E : Type 0} (r : Result T E) (before middle after : Option (List ℕ)) (held kept holds left bytes rest all : List ℕ) → IsErr r → Puts before held middle kept left all
    → left ≡ bytes ++ rest → AppendsPrefix middle after (kept ++ bytes) → IsPut r before held after holds all
next_stops r before middle after held kept holds left bytes rest all h one e stopped =
    stopped_put r before after held holds all h (next_stopped before middle after held kept left bytes rest all one e stopped)

-- ---- results that say where they have come to

pub stopped_to : {T E : Type 0} (r : Result T E) (before after : Option (List ℕ)) (held holds : List ℕ) (left : T → List ℕ) (all : List ℕ) → IsErr r
    → AppendsPrefix before after (held ++ all) → IsPutTo r before held after holds left all
stopped_to (Ok x) before after held holds left all h stopped = absurd (false≢true h)
stopped_to (Err e) before after held holds left all h stopped = stopped

-- the writer stopped at the next bytes
pub next_stops_to : {T E : Type 0} (r : Result T E) (before middle after : Option (List ℕ)) (held kept holds : List ℕ) (left : T → List ℕ) (now bytes rest all : List ℕ) → IsErr r
    → Puts before held middle kept now all → now ≡ bytes ++ rest → AppendsPrefix middle after (kept ++ bytes) → IsPutTo r before held after holds left all
next_stops_to r before middle after held kept holds left now bytes rest all h one e stopped =
    stopped_to r before after held holds left all h (next_stopped before middle after held kept now bytes rest all one e stopped)

-- the last part
pub last_to : {T E : Type 0} (r : Result T E) (before middle after : Option (List ℕ)) (held kept holds : List ℕ) (left : T → List ℕ) (now part all : List ℕ)
    → Puts before held middle kept now all → now ≡ part → IsPutTo r middle kept after holds left part → IsPutTo r before held after holds left all
last_to (Ok x) before middle after held kept holds left now part all one e other =
    puts_both before middle after held kept holds now (left x) all one (subst (λ (xs : List ℕ). Puts middle kept after holds (left x) xs) (sym e) other)
last_to (Err x) before middle after held kept holds left now part all one e other =
    puts_stopped before middle after held kept now all one (subst (λ (xs : List ℕ). AppendsPrefix middle after (kept ++ xs)) (sym e) other)

-- ---- the whole text

-- what waits in the end is written too
pub all_sent : (before middle after : Option (List ℕ)) (held kept all : List ℕ) → held ≡ [] → Puts before held middle kept [] all → Appends middle after kept → Appends before after all
all_sent before middle after held kept all empty one sent =
    subst (Appends before after) (sym (ap (λ xs. xs ++ all) (sym empty) ∙ one.same ∙ ap (λ xs. one.sent ++ xs) (append-nil kept)))
    (Appends-trans before middle after one.sent kept one.written sent)

pub part_sent : (before middle after : Option (List ℕ)) (held kept all : List ℕ) → held ≡ [] → Puts before held middle kept [] all → AppendsPrefix middle after kept
    → AppendsPrefix before after all
part_sent before middle after held kept all empty one stopped =
    subst (AppendsPrefix before after) (ap (λ xs. xs ++ all) empty)
    (puts_stopped before middle after held kept [] all one (subst (AppendsPrefix middle after) (sym (append-nil kept)) stopped))

pub none_held : (before after : Option (List ℕ)) (held all : List ℕ) → held ≡ [] → AppendsPrefix before after (held ++ all) → AppendsPrefix before after all
none_held before after held all empty stopped = subst (AppendsPrefix before after) (ap (λ xs. xs ++ all) empty) stopped

-- what holds always holds if there is an error
pub on_err : {T E : Type 0} (r : Result T E) (P : Type 0) → P → OnErr r P
on_err (Ok x) P h = tt
on_err (Err e) P h = h
