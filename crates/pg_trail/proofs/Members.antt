-- The members of an item's object.
use Rattle.std.proofs.Common.{◌≡◌, ◌⊎◌, ◌==◌, eq-eqb, true≢false, ℕ, ◌-◌, ◌<◌, List, [], ◌∷◌, length, Option, Some, None, option_map, option_and_then, ok_or, Ordering, Less, Equal, Greater, nat_cmp, Result, Ok, Err, Bool, true, false, codes, inl, inr, refl, ap, sym, ◌∙◌, subst, arith}
use Rattle.std.proofs.lemmas.Cmp.{nat_list_cmp_total, tied_itself}
use Rattle.std.proofs.lemmas.Map.Lookups.{exact_bytes}
use Rattle.std.specs.Cmp.Lexicographic.{slice_cmp}
use Rattle.std.specs.Ordering.{match_ordering}
use Rattle.json.specs.Token.{Token}
use Rattle.json.specs.Json as json
use Rattle.json.specs.Json.{parse_map, read_key, members, value}
use Rattle.serde_json.specs.Data.{Data, object, Members, no_members, member, put}
use Rattle.serde_json.specs.Read.{of_json, of_members}
use Rattle.pg_grammar_value.specs.declared.trail.TrailItem.{TrailItem}
use Rattle.pg_grammar_value.specs.declared.trail.TrailItem.TheVariants.{Alt, Rounds, Ops}
use Rattle.pg_trail.specs.declared.trail_fault.TrailFault.{TrailFault}
use Rattle.pg_trail.specs.declared.trail_fault.TrailFault.TheVariants.{NotATrail, Memory}
use Rattle.pg_trail.specs.declared.item.Choice.{Choice}
use Rattle.pg_trail.specs.declared.item.Choice.TheVariants.{Alternative, Repetition, Operators}
use Rattle.pg_trail.specs.Ahead.{data_at, members_at}
use Rattle.pg_trail.specs.Choices.{key_of, item_key, chosen_value}
use Rattle.pg_trail.specs.Readings.{Gives, Finds, Reads, Takes, Repeats, seen}
use Rattle.pg_grammar_value.specs.declared.trail.AppliedOperator.{AppliedOperator}
use Rattle.pg_trail.specs.TrailJson.{count_value, operators_value, lone, item_value}
use Rattle.pg_trail.proofs.Ahead.{decide, converted_some, data_object, data_shorter, members_over, key_refused, member_read, member_refused}
use Rattle.pg_trail.proofs.Turns.{pick, mapped_back, no_object, same_value}

-- ---- an object keeps the keys that it was given

abbrev HasKey : List ℕ → Members → Type 0
HasKey k no_members = ⊥
HasKey k (member l d ms) = (k ≡ l) ⊎ HasKey k ms

put_at : (o : Ordering) (k l : List ℕ) (d e : Data) (ms : Members) → slice_cmp nat_cmp k l ≡ o → HasKey k (put k d ms) → HasKey k (match_ordering o (member k d (member l e ms)) (member l d ms) (member l e (put k d ms)))
put_at Less k l d e ms is later = inl refl
put_at Equal k l d e ms is later = inl (exact_bytes k l is)
put_at Greater k l d e ms is later = inr later

has_put : (k : List ℕ) (d : Data) (ms : Members) → HasKey k (put k d ms)
has_put k d no_members = inl refl
has_put k d (member l e ms) = put_at (slice_cmp nat_cmp k l) k l d e ms refl (has_put k d ms)

kept_at : (o : Ordering) (q k l : List ℕ) (d e : Data) (ms : Members) → (HasKey q ms → HasKey q (put k d ms)) → HasKey q (member l e ms)
    → HasKey q (match_ordering o (member k d (member l e ms)) (member l d ms) (member l e (put k d ms)))
kept_at Less q k l d e ms later h = inr h
kept_at Equal q k l d e ms later h = h
kept_at Greater q k l d e ms later (inl is) = inl is
kept_at Greater q k l d e ms later (inr h) = inr (later h)

kept_put : (q k : List ℕ) (d : Data) (ms : Members) → HasKey q ms → HasKey q (put k d ms)
kept_put q k d no_members h = elim h [ ]
kept_put q k d (member l e ms) h = kept_at (slice_cmp nat_cmp k l) q k l d e ms (λ g. kept_put q k d ms g) h

then_some : {A B : Type 0} (f : A → Option B) (o : Option A) (b : B) → option_and_then f o ≡ Some b → (a : A) × (f a ≡ Some b)
then_some f None b e = absurd (cc)
then_some f (Some a) b e = (a, e)

kept : (q : List ℕ) (ms : json.Members) (old new : Members) → HasKey q old → of_members ms old ≡ Some new → HasKey q new
kept q json.no_members old new h e = let same : old ≡ new = cc in subst (HasKey q) same h
kept q (json.member k j ms) old new h e = let d = then_some (λ x. of_members ms (put k x old)) (of_json j) new e in kept q ms (put k d.0 old) new (kept_put q k d.0 old h) d.1

alone : (k l : List ℕ) (d : Data) → HasKey k (member l d no_members) → k ≡ l
alone k l d (inl is) = is
alone k l d (inr h) = elim h [ ]

put_again : (k : List ℕ) (d e : Data) → put k d (member k e no_members) ≡ member k d no_members
put_again k d e = rw (tied_itself nat_list_cmp_total k)

module _ (d : ℕ) where
  key_stays : (q : List ℕ) (old new : Members) (ts r : List Token) → HasKey q old → members_at d old ts ≡ Some (new, r) → HasKey q new
  unfolding members_at
  key_stays q old new ts r h e = let ms = converted_some (λ ms. of_members ms old) (members (value d) (length ts) ts) new r e in kept q ms.0 old new h ms.2

  key_comes : (k : List ℕ) (old new : Members) (ts s r : List Token) → read_key ts ≡ Some (Some k, s) → members_at d old ts ≡ Some (new, r) → HasKey k new
  key_comes k old new ts s r key e = by_value (decide (data_at d s))
    where
      by_value : ((data_at d s ≡ None) ⊎ ((p : Data × List Token) × (data_at d s ≡ Some p))) → HasKey k new
      by_value (inl bad) = let no = sym (member_refused d old k ts s key bad) ∙ e in absurd (cc)
      by_value (inr p) = key_stays k (put k p.0.0 old) new p.0.1 r (has_put k p.0.0 old) (sym (member_read d old k ts s p.0.1 p.0.0 key p.1) ∙ e)

-- ---- an item

item_is : (i : TrailItem) → item_value i ≡ object (member (item_key i) (chosen_value i) no_members)
item_is (Alt k) = refl
item_is (Rounds k) = refl
item_is (Ops os) = refl

abbrev said_by : TrailItem → Choice
said_by (Alt k) = Alternative
said_by (Rounds k) = Repetition
said_by (Ops os) = Operators

said_key : (i : TrailItem) → key_of (said_by i) ≡ item_key i
said_key (Alt k) = refl
said_key (Rounds k) = refl
said_key (Ops os) = refl

-- the members of an item's object
members_of_item : (old : Members) (ts rest : List Token) (i : TrailItem) → parse_map object (members_at 125 old ts) ≡ Some (item_value i, rest)
    → members_at 125 old ts ≡ Some (member (item_key i) (chosen_value i) no_members, rest)
members_of_item old ts rest i e =
    let back = mapped_back object (members_at 125 old ts) (item_value i) rest e in
    let same : object back.0 ≡ object (member (item_key i) (chosen_value i) no_members) = back.2 ∙ item_is i in
    let is : back.0 ≡ member (item_key i) (chosen_value i) no_members = cc in
    back.1 ∙ ap (λ ms. Some (ms, rest)) is

opened : (ts : List Token) → data_at 126 (Token.begin_object ∷ ts) ≡ parse_map object (members_at 125 no_members ts)
opened ts = data_object 126 ts (omega arith)

abbrev NoItem : Option (Data × List Token) → Type 0
NoItem read = (i : TrailItem) (rest : List Token) → ¬ (read ≡ Some (item_value i, rest))

same_members : (x y : Members) (r s : List Token) → ◌≡◌ {A = Option (Members × List Token)} (Some (x, r)) (Some (y, s)) → x ≡ y
same_members x y r s e = ap (λ (o : Option (Members × List Token)). (pick (x, r) o).0) e

pub no_key : (ts : List Token) → ((k : List ℕ) (s : List Token) → ¬ (read_key ts ≡ Some (Some k, s))) → NoItem (data_at 126 (Token.begin_object ∷ ts))
no_key ts none i rest e = by_key (decide (read_key ts))
  where
    by_key : ((read_key ts ≡ None) ⊎ ((p : Option (List ℕ) × List Token) × (read_key ts ≡ Some p))) → ⊥
    by_key (inl bad) = let no = sym (key_refused 125 no_members ts bad) ∙ members_of_item no_members ts rest i (sym (opened ts) ∙ e) in cc
    by_key (inr ((None, r), over)) =
        let no = same_members no_members (member (item_key i) (chosen_value i) no_members) r rest (sym (members_over 125 no_members ts r over) ∙ members_of_item no_members ts rest i (sym (opened ts) ∙ e)) in cc
    by_key (inr ((Some k, s), key)) = none k s key

pub unknown_key : (k : List ℕ) (ts s : List Token) → read_key ts ≡ Some (Some k, s) → ((c : Choice) → ¬ (key_of c ≡ k)) → NoItem (data_at 126 (Token.begin_object ∷ ts))
unknown_key k ts s key other i rest e =
    other (said_by i) (said_key i ∙ sym (alone k (item_key i) (chosen_value i) (key_comes 125 k no_members (member (item_key i) (chosen_value i) no_members) ts s rest key (members_of_item no_members ts rest i (sym (opened ts) ∙ e)))))

-- ---- the last of the values under one key

pub record Latest (k : List ℕ) (first now : List Token) (item : Option TrailItem) : Type 0 where
  pub latest : Data
  pub read : data_at 126 (Token.begin_object ∷ first) ≡ parse_map object (members_at 125 (member k latest no_members) now)
  pub is : Finds item_value (Some (lone k latest)) (Ok item)

chosen : (k : List ℕ) (ts r : List Token) (item : Option TrailItem) → Reads item_value (parse_map (lone k) (data_at 125 ts)) r (Ok item)
    → (v : Data) × (data_at 125 ts ≡ Some (v, r)) × Finds item_value (Some (lone k v)) (Ok item)
chosen k ts r (Some i) h = let back = mapped_back (lone k) (data_at 125 ts) (item_value i) r h.0 in (back.0, back.1, (ap (λ b. Some b) back.2, h.1))
chosen k ts r None h = let back = mapped_back (lone k) (data_at 125 ts) h.0 r h.1 in (back.0, back.1, (h.0, ap (λ b. Some b) back.2, h.2))

pub chosen_shorter : (k : List ℕ) (ts r : List Token) (item : Option TrailItem) → Reads item_value (parse_map (lone k) (data_at 125 ts)) r (Ok item) → length r < length ts
chosen_shorter k ts r item h = let v = chosen k ts r item h in data_shorter 125 ts r v.0 v.1

pub latest_first : (k : List ℕ) (ts r : List Token) (item : Option TrailItem) → Reads item_value (parse_map (lone k) (data_at 125 ts)) r (Ok item) → Latest k (Token.key k ∷ ts) r item
latest_first k ts r item h =
    let v = chosen k ts r item h in
    record { latest = v.0; read = opened (Token.key k ∷ ts) ∙ ap (parse_map object) (member_read 125 no_members k (Token.key k ∷ ts) ts r v.0 refl v.1); is = v.2 }

unmapped_none : {A B : Type 0} (f : A → B) (o : Option (A × List Token)) → parse_map f o ≡ None → o ≡ None
unmapped_none f None e = refl
unmapped_none f (Some p) e = absurd (cc)

pub first_unread : (k : List ℕ) (ts : List Token) → parse_map (lone k) (data_at 125 ts) ≡ None → NoItem (data_at 126 (Token.begin_object ∷ Token.key k ∷ ts))
first_unread k ts bad i rest e =
    let no = sym (opened (Token.key k ∷ ts) ∙ ap (parse_map object) (member_refused 125 no_members k (Token.key k ∷ ts) ts refl (unmapped_none (lone k) _ bad))) ∙ e in cc

module _ (k : List ℕ) (first now : List Token) (item : Option TrailItem) (l : Latest k first now item) where
  pub latest_again : (s r : List Token) (next : Option TrailItem) → read_key now ≡ Some (Some k, s) → Reads item_value (parse_map (lone k) (data_at 125 s)) r (Ok next) → Latest k first r next
  latest_again s r next key h =
      let v = chosen k s r next h in
      record {
        latest = v.0;
        read = l.read ∙ ap (parse_map object) (member_read 125 (member k l.latest no_members) k now s r v.0 key v.1 ∙ ap (λ ms. members_at 125 ms r) (put_again k v.0 l.latest));
        is = v.2;
      }

  pub again_unread : (s : List Token) → read_key now ≡ Some (Some k, s) → parse_map (lone k) (data_at 125 s) ≡ None → NoItem (data_at 126 (Token.begin_object ∷ first))
  again_unread s key bad i rest e =
      let no = sym (l.read ∙ ap (parse_map object) (member_refused 125 (member k l.latest no_members) k now s key (unmapped_none (lone k) _ bad))) ∙ e in cc

  pub latest_over : (r : List Token) → read_key now ≡ Some (None, r) → data_at 126 (Token.begin_object ∷ first) ≡ Some (lone k l.latest, r)
  latest_over r over = l.read ∙ ap (parse_map object) (members_over 125 (member k l.latest no_members) now r over)

  pub another_key : (read_key now ≡ None) ⊎ ((other : List ℕ) × (rest : List Token) × (read_key now ≡ Some (Some other, rest)) × ¬ (other ≡ k)) → NoItem (data_at 126 (Token.begin_object ∷ first))
  another_key (inl bad) i rest e = let no = sym (l.read ∙ ap (parse_map object) (key_refused 125 (member k l.latest no_members) now bad)) ∙ e in cc
  another_key (inr h) i rest e =
      let whole = members_of_item (member k l.latest no_members) now rest i (sym l.read ∙ e) in
      let this : k ≡ item_key i = alone k (item_key i) (chosen_value i) (key_stays 125 k (member k l.latest no_members) (member (item_key i) (chosen_value i) no_members) now rest (inl refl) whole) in
      let that : h.0 ≡ item_key i = alone h.0 (item_key i) (chosen_value i) (key_comes 125 h.0 (member k l.latest no_members) (member (item_key i) (chosen_value i) no_members) now h.1 rest h.2 whole) in
      h.3 (that ∙ sym this)

pub the_last : (k : List ℕ) (first now r : List Token) (item : Option TrailItem) → Latest k first now item → read_key now ≡ Some (None, r)
    → Takes item_value (data_at 126 (Token.begin_object ∷ first)) r (ok_or item NotATrail)
the_last k first now r (Some i) l over = (latest_over k first now (Some i) l r over ∙ ap (λ o. option_map (λ v. (v, r)) o) l.is.0, l.is.1)
the_last k first now r None l over = λ i rest e.
    let same = same_value (lone k l.latest) (item_value i) r rest (sym (latest_over k first now None l r over) ∙ e) in
    let that : lone k l.latest ≡ l.is.0 = cc in
    l.is.2 i (sym same ∙ that)

pub no_item_there : (ts : List Token) → ((r : List Token) → ¬ (ts ≡ Token.begin_object ∷ r)) → NoItem (data_at 126 ts)
no_item_there ts other i rest e = no_object 126 ts other (member (item_key i) (chosen_value i) no_members) rest (e ∙ ap (λ v. Some (v, rest)) (item_is i))

pub again_if : (k : List ℕ) (read : Option (Option (List ℕ) × List Token)) (left : List Token) (b : Bool) → b ≡ true → Repeats k read left (Ok b) → read ≡ Some (Some k, left)
again_if k read left true is h = h
again_if k read left false is h = absurd (cc)

pub over_if : (k : List ℕ) (read : Option (Option (List ℕ) × List Token)) (left : List Token) (b : Bool) → b ≡ false → Repeats k read left (Ok b) → read ≡ Some (None, left)
over_if k read left false is h = h
over_if k read left true is h = absurd (cc)

-- faults
pub first_fault : (k : List ℕ) (ts left : List Token) (e : TrailFault) → Reads item_value (parse_map (lone k) (data_at 125 ts)) left (Err e)
    → Takes item_value (data_at 126 (Token.begin_object ∷ Token.key k ∷ ts)) left (Err e)
first_fault k ts left NotATrail bad = first_unread k ts bad
first_fault k ts left Memory bad = tt

pub again_fault : (k : List ℕ) (first now s left : List Token) (item : Option TrailItem) (e : TrailFault) → Latest k first now item → read_key now ≡ Some (Some k, s)
    → Reads item_value (parse_map (lone k) (data_at 125 s)) left (Err e) → Takes item_value (data_at 126 (Token.begin_object ∷ first)) left (Err e)
again_fault k first now s left item NotATrail l key bad = again_unread k first now item l s key bad
again_fault k first now s left item Memory l key bad = tt

pub key_fault : (k : List ℕ) (first now left : List Token) (item : Option TrailItem) (e : TrailFault) → Latest k first now item → Repeats k (read_key now) left (Err e)
    → Takes item_value (data_at 126 (Token.begin_object ∷ first)) left (Err e)
key_fault k first now left item NotATrail l bad = another_key k first now item l bad
key_fault k first now left item Memory l bad = tt

pub choice_fault : (k : List ℕ) (ts left : List Token) (e : TrailFault) → read_key ts ≡ Some (Some k, left) → Gives key_of k (Err e) → Takes item_value (data_at 126 (Token.begin_object ∷ ts)) left (Err e)
choice_fault k ts left NotATrail key bad = unknown_key k ts left key bad
choice_fault k ts left Memory key bad = tt

-- a value under its key
pub chosen_as : {A : Type 0} (value : A → Data) (to_item : A → TrailItem) (k : List ℕ) (read : Option (Data × List Token)) (left : List Token) (r : Result (Option A) TrailFault)
    → ((a : A) → item_value (to_item a) ≡ lone k (value a)) → ((i : TrailItem) (v : Data) → item_value i ≡ lone k v → (a : A) × (i ≡ to_item a) × (value a ≡ v)) → Reads value read left r → Reads item_value (parse_map (lone k) read) left (seen to_item r)
chosen_as value to_item k read left (Ok (Some a)) is of h =
    (ap (parse_map (lone k)) h.0 ∙ ap (λ v. Some (v, left)) (sym (is a)), λ i same. let b = of i (value a) (same ∙ is a) in b.1 ∙ ap to_item (h.1 b.0 b.2))
chosen_as value to_item k read left (Ok None) is of h = (lone k h.0, ap (parse_map (lone k)) h.1, λ i same. let a = of i h.0 same in h.2 a.0 a.2)
chosen_as value to_item k read left (Err NotATrail) is of h = ap (parse_map (lone k)) h
chosen_as value to_item k read left (Err Memory) is of h = tt

-- texts that begin otherwise
abbrev first_code : List ℕ → ℕ
first_code [] = 0
first_code (c ∷ cs) = c

pub differ : (k l : List ℕ) → (first_code k == first_code l) ≡ false → k ≡ l → ⊥
differ k l apart e = true≢false (sym (eq-eqb (first_code k) (first_code l) (ap first_code e)) ∙ apart)

same_under : (k l : List ℕ) (v w : Data) → lone k v ≡ lone l w → (k ≡ l) × (v ≡ w)
same_under k l v w e =
    let ms : member k v no_members ≡ member l w no_members = cc in
    let keys : k ≡ l = cc in
    let values : v ≡ w = cc in
    (keys, values)

pub alternative_of : (i : TrailItem) (v : Data) → item_value i ≡ lone (codes "alt") v → (n : ℕ) × (i ≡ Alt n) × (count_value n ≡ v)
alternative_of (Alt n) v e = (n, refl, (same_under _ _ _ _ e).1)
alternative_of (Rounds n) v e = absurd (differ (codes "rounds") (codes "alt") refl (same_under _ _ _ _ e).0)
alternative_of (Ops os) v e = absurd (differ (codes "ops") (codes "alt") refl (same_under _ _ _ _ e).0)

pub rounds_of : (i : TrailItem) (v : Data) → item_value i ≡ lone (codes "rounds") v → (n : ℕ) × (i ≡ Rounds n) × (count_value n ≡ v)
rounds_of (Alt n) v e = absurd (differ (codes "alt") (codes "rounds") refl (same_under _ _ _ _ e).0)
rounds_of (Rounds n) v e = (n, refl, (same_under _ _ _ _ e).1)
rounds_of (Ops os) v e = absurd (differ (codes "ops") (codes "rounds") refl (same_under _ _ _ _ e).0)

pub operators_of : (i : TrailItem) (v : Data) → item_value i ≡ lone (codes "ops") v → (os : List AppliedOperator) × (i ≡ Ops os) × (operators_value os ≡ v)
operators_of (Alt n) v e = absurd (differ (codes "alt") (codes "ops") refl (same_under _ _ _ _ e).0)
operators_of (Rounds n) v e = absurd (differ (codes "rounds") (codes "ops") refl (same_under _ _ _ _ e).0)
operators_of (Ops os) v e = (os, refl, (same_under _ _ _ _ e).1)

pub no_key_fault : (ts left : List Token) (e : TrailFault) → ((k : List ℕ) (s : List Token) → ¬ (read_key ts ≡ Some (Some k, s))) → Takes item_value (data_at 126 (Token.begin_object ∷ ts)) left (Err e)
no_key_fault ts left NotATrail none = no_key ts none
no_key_fault ts left Memory none = tt

pub alternative_read : (read : Option (Data × List Token)) (left : List Token) (r : Result (Option ℕ) TrailFault) → Reads count_value read left r → Reads item_value (parse_map (lone (codes "alt")) read) left (seen Alt r)
alternative_read read left r h = chosen_as count_value Alt (codes "alt") read left r (λ a. refl) alternative_of h

pub rounds_read : (read : Option (Data × List Token)) (left : List Token) (r : Result (Option ℕ) TrailFault) → Reads count_value read left r → Reads item_value (parse_map (lone (codes "rounds")) read) left (seen Rounds r)
rounds_read read left r h = chosen_as count_value Rounds (codes "rounds") read left r (λ a. refl) rounds_of h

pub operators_read : (read : Option (Data × List Token)) (left : List Token) (r : Result (Option (List AppliedOperator)) TrailFault) → Reads operators_value read left r
    → Reads item_value (parse_map (lone (codes "ops")) read) left (seen Ops r)
operators_read read left r h = chosen_as operators_value Ops (codes "ops") read left r (λ a. refl) operators_of h
