-- What is put into a buffer, one part after another.
use Rattle.std.proofs.Common.{◌≡◌, ℕ, zero, suc, ◌+◌, min, List, [], ◌∷◌, ◌++◌, Option, None, Some, take, length, refl, sym, ap, subst, arith, append_assoc, append-nil, ◌∙◌, Result, Ok, Err}
use Rattle.std.specs.Prelude.{OnErr, IsOk, is_ok, if◌then◌else◌}
use Rattle.std.specs.Io.KnownBytes.{Appends}
use Rattle.std.proofs.Math.Seq.{take-append-add}
use Rattle.std.proofs.lemmas.Bool.{false≢true}
use Rattle.pg_tree.specs.Bytes.{AppendsPrefix}
use Rattle.pg_text_pieces.specs.Writing.{Puts}

-- ---- known bytes

appends_none : (old : Option (List ℕ)) → Appends old old []
appends_none None = tt
appends_none (Some xs) = sym (append-nil xs)

pub appends_both : (old middle new : Option (List ℕ)) (bytes more : List ℕ) → Appends old middle bytes → Appends middle new more → Appends old new (bytes ++ more)
appends_both None middle new bytes more h k = tt
appends_both (Some xs) None new bytes more h k = absurd h
appends_both (Some xs) (Some ys) None bytes more h k = absurd k
appends_both (Some xs) (Some ys) (Some zs) bytes more h k = k ∙ (ap (λ bs. bs ++ more) h ∙ append_assoc xs bytes more)

take_of_more : (n : ℕ) (bytes more : List ℕ) → take n bytes ≡ take (min n (length bytes)) (bytes ++ more)
take_of_more n [] more = let none : min n 0 ≡ 0 = omega arith in rw none (nothing n)
  where
    nothing : (k : ℕ) → take {A = ℕ} k [] ≡ []
    nothing zero = refl
    nothing (suc k) = refl
take_of_more zero (b ∷ bytes) more = let none : min 0 (suc (length bytes)) ≡ 0 = omega arith in rw none refl
take_of_more (suc n) (b ∷ bytes) more =
    let next : min (suc n) (suc (length bytes)) ≡ suc (min n (length bytes)) = omega arith in
    rw next (ap (λ bs. b ∷ bs) (take_of_more n bytes more))

-- a prefix of some bytes is one of more
pub prefix_longer : (old new : Option (List ℕ)) (bytes more : List ℕ) → AppendsPrefix old new bytes → AppendsPrefix old new (bytes ++ more)
prefix_longer old new bytes more prefix = (min prefix.0 (length bytes), subst (Appends old new) (take_of_more prefix.0 bytes more) prefix.1)

-- all of some bytes, and then a prefix of others
pub prefix_after : (old middle new : Option (List ℕ)) (bytes more : List ℕ) → Appends old middle bytes → AppendsPrefix middle new more
    → AppendsPrefix old new (bytes ++ more)
prefix_after old middle new bytes more h prefix =
    (length bytes + prefix.0, subst (Appends old new) (sym (take-append-add bytes more prefix.0)) (appends_both old middle new bytes (take prefix.0 more) h prefix.1))

-- ---- into the buffer

-- nothing is put
pub puts_none : (before : Option (List ℕ)) (held : List ℕ) → Puts before held before held []
puts_none before held = record { sent = []; written = appends_none before; same = append-nil held }

-- the buffer takes the bytes
pub puts_held : (before : Option (List ℕ)) (held holds bytes : List ℕ) → holds ≡ held ++ bytes → Puts before held before holds bytes
puts_held before held holds bytes e = record { sent = []; written = appends_none before; same = sym e }

-- the buffer is sent, and takes the bytes then
pub puts_sent : (before after : Option (List ℕ)) (held none holds bytes : List ℕ) → Appends before after held → none ≡ [] → holds ≡ none ++ bytes → Puts before held after holds bytes
puts_sent before after held none holds bytes h e f = record { sent = held; written = h; same = ap (λ bs. held ++ bs) (sym (f ∙ ap (λ bs. bs ++ bytes) e)) }

-- the buffer is sent, and the bytes after it
pub puts_past : (before middle after : Option (List ℕ)) (held holds bytes : List ℕ) → Appends before middle held → Appends middle after bytes → holds ≡ [] → Puts before held after holds bytes
puts_past before middle after held holds bytes h k e = record {
  sent = held ++ bytes;
  written = appends_both before middle after held bytes h k;
  same = sym (ap (λ bs. (held ++ bytes) ++ bs) e ∙ append-nil (held ++ bytes));
}

-- one part after another
pub puts_both : (before middle after : Option (List ℕ)) (held kept holds bytes more : List ℕ) → Puts before held middle kept bytes → Puts middle kept after holds more
    → Puts before held after holds (bytes ++ more)
puts_both before middle after held kept holds bytes more one other = record {
  sent = one.sent ++ other.sent;
  written = appends_both before middle after one.sent other.sent one.written other.written;
  same =
      sym (append_assoc held bytes more) ∙ ap (λ bs. bs ++ more) one.same ∙ append_assoc one.sent kept more
      ∙ ap (λ bs. one.sent ++ bs) other.same ∙ sym (append_assoc one.sent other.sent holds);
}

-- one part, and then a prefix of what is held and of another
pub puts_stopped : (before middle after : Option (List ℕ)) (held kept bytes more : List ℕ) → Puts before held middle kept bytes → AppendsPrefix middle after (kept ++ more)
    → AppendsPrefix before after (held ++ (bytes ++ more))
puts_stopped before middle after held kept bytes more one stopped =
    subst (AppendsPrefix before after)
    (sym (append_assoc one.sent kept more) ∙ ap (λ bs. bs ++ more) (sym one.same) ∙ append_assoc held bytes more)
    (prefix_after before middle after one.sent (kept ++ more) one.written stopped)

-- some parts, a prefix of what is held and of the next, and nothing of those after it
pub puts_stopped_within : (before middle after : Option (List ℕ)) (held kept bytes more others all : List ℕ) → all ≡ bytes ++ (more ++ others) → Puts before held middle kept bytes
    → AppendsPrefix middle after (kept ++ more) → AppendsPrefix before after (held ++ all)
puts_stopped_within before middle after held kept bytes more others all e one stopped =
    let longer = puts_stopped before middle after held kept bytes (more ++ others) one
    (subst (AppendsPrefix middle after) (append_assoc kept more others) (prefix_longer middle after (kept ++ more) others stopped)) in
    subst (λ bs. AppendsPrefix before after (held ++ bs)) (sym e) longer

-- all that was put, of which a prefix is sent
pub sent_stopped : (before middle after : Option (List ℕ)) (held kept bytes : List ℕ) → held ≡ [] → Puts before held middle kept bytes → AppendsPrefix middle after kept
    → AppendsPrefix before after bytes
sent_stopped before middle after held kept bytes empty one stopped =
    subst (AppendsPrefix before after) (sym one.same ∙ ap (λ bs. bs ++ bytes) empty) (prefix_after before middle after one.sent kept one.written stopped)

-- ---- of all that is to be put

-- some of it was put, and this is left
pub record IsPutSoFar (before : Option (List ℕ)) (held : List ℕ) (after : Option (List ℕ)) (holds left all : List ℕ) : Type 0 where
  pub done : List ℕ
  pub put : Puts before held after holds done
  pub same : all ≡ done ++ left

pub so_far_none : (before : Option (List ℕ)) (held all : List ℕ) → IsPutSoFar before held before held all all
so_far_none before held all = record { done = []; put = puts_none before held; same = refl }

-- and more
pub so_far_next : (before middle after : Option (List ℕ)) (held kept holds left next rest all : List ℕ) → IsPutSoFar before held middle kept left all → left ≡ next ++ rest
    → Puts middle kept after holds next → IsPutSoFar before held after holds rest all
so_far_next before middle after held kept holds left next rest all is e more = record {
  done = is.done ++ next;
  put = puts_both before middle after held kept holds is.done next is.put more;
  same = is.same ∙ ap (λ bs. is.done ++ bs) e ∙ sym (append_assoc is.done next rest);
}

-- or a prefix of what is held and of more
pub so_far_stopped : (before middle after : Option (List ℕ)) (held kept left next rest all : List ℕ) → IsPutSoFar before held middle kept left all → left ≡ next ++ rest
    → AppendsPrefix middle after (kept ++ next) → AppendsPrefix before after (held ++ all)
so_far_stopped before middle after held kept left next rest all is e stopped =
    puts_stopped_within before middle after held kept is.done next rest all (is.same ∙ ap (λ bs. is.done ++ bs) e) is.put stopped

-- all, where nothing is left
pub so_far_all : (before after : Option (List ℕ)) (held holds left all : List ℕ) → IsPutSoFar before held after holds left all → left ≡ [] → Puts before held after holds all
so_far_all before after held holds left all is e =
    subst (Puts before held after holds) (sym (is.same ∙ ap (λ bs. is.done ++ bs) e ∙ append-nil is.done)) is.put

-- ---- three parts

pub three_put : (a b c d : Option (List ℕ)) (held kept left holds one two three all : List ℕ) → all ≡ one ++ (two ++ three) → Puts a held b kept one → Puts b kept c left two
    → Puts c left d holds three → Puts a held d holds all
three_put a b c d held kept left holds one two three all e p q r =
    subst (Puts a held d holds) (sym e) (puts_both a b d held kept holds one (two ++ three) p (puts_both b c d kept left holds two three q r))

pub three_first : (a b : Option (List ℕ)) (held one two three all : List ℕ) → all ≡ one ++ (two ++ three) → AppendsPrefix a b (held ++ one) → AppendsPrefix a b (held ++ all)
three_first a b held one two three all e stopped = puts_stopped_within a a b held held [] one (two ++ three) all e (puts_none a held) stopped

pub three_second : (a b c : Option (List ℕ)) (held kept one two three all : List ℕ) → all ≡ one ++ (two ++ three) → Puts a held b kept one → AppendsPrefix b c (kept ++ two)
    → AppendsPrefix a c (held ++ all)
three_second a b c held kept one two three all e p stopped = puts_stopped_within a b c held kept one two three all e p stopped

pub three_third : (a b c d : Option (List ℕ)) (held kept left one two three all : List ℕ) → all ≡ one ++ (two ++ three) → Puts a held b kept one → Puts b kept c left two
    → AppendsPrefix c d (left ++ three) → AppendsPrefix a d (held ++ all)
three_third a b c d held kept left one two three all e p q stopped =
    let same : all ≡ (one ++ two) ++ (three ++ []) = e ∙ sym (append_assoc one two three) ∙ ap (λ bs. (one ++ two) ++ bs) (sym (append-nil three)) in
    puts_stopped_within a c d held left (one ++ two) three [] all same (puts_both a b c held kept left one two p q) stopped

-- ---- results

-- what holds always holds if there is an error
pub on_err : {T E : Type 0} (r : Result T E) (P : Type 0) → P → OnErr r P
on_err (Ok x) P h = tt
on_err (Err e) P h = h

-- what comes of it where there is none
pub ok_kept : {T E : Type 0} (r : Result T E) (xs ys : List ℕ) → IsOk r → (if is_ok r then xs else ys) ≡ xs
ok_kept (Ok x) xs ys h = refl
ok_kept (Err e) xs ys h = absurd (false≢true h)
