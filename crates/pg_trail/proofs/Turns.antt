-- What readers answer, carried from parts to wholes.
use Rattle.std.proofs.Common.{◌≡◌, ◌⊎◌, ℕ, zero, suc, ◌-◌, ◌<◌, List, [], ◌∷◌, ◌++◌, map, Option, Some, None, option_map, Result, Ok, Err, IfOk, inl, inr, refl, ap, ap₂, sym, ◌∙◌, subst, arith}
use Rattle.json.specs.Token.{Token}
use Rattle.json.specs.Json.{parse_map, after_end_array}
use Rattle.json.proofs.Grammar.{left_none, left_some}
use Rattle.serde_json.specs.Data.{Data, null, boolean, unsigned, number, string, array, object, Items, no_items, item}
use Rattle.serde_json.specs.Read.{number_of}
use Rattle.serde_json.specs.View.{items_of}
use Rattle.pg_trail.specs.declared.trail_fault.TrailFault.{TrailFault}
use Rattle.pg_trail.specs.declared.trail_fault.TrailFault.TheVariants.{NotATrail, Memory}
use Rattle.pg_trail.specs.Ahead.{data_at, items_at, after}
use Rattle.pg_trail.specs.Readings.{IsOnly, Finds, Reads, Takes, Skips}
use Rattle.pg_trail.specs.TrailJson.{count_value}
use Rattle.pg_trail.proofs.Ahead.{decide, no_token, data_array, data_object, data_number, data_string, data_boolean, data_null, no_data_end_object, no_data_end_array, no_data_key, no_data_bad, too_deep_array, too_deep_object, items_over, item_read, item_refused}

-- ---- what was read, under a function that tells values apart

abbrev pub pick : {A : Type 0} → A → Option A → A
pick d None = d
pick d (Some a) = a

abbrev pub IsInjective : {A B : Type 0} → (A → B) → Type 0
IsInjective {A} f = (x y : A) → f x ≡ f y → x ≡ y

pub mapped_back : {A B : Type 0} (f : A → B) (o : Option (A × List Token)) (b : B) (r : List Token) → parse_map f o ≡ Some (b, r) → (a : A) × (o ≡ Some (a, r)) × (f a ≡ b)
mapped_back f None b r e = absurd (cc)
mapped_back f (Some p) b r e = let same = ap (pick (f p.0, p.1)) e in (p.0, ap (λ s. Some (p.0, s)) (ap (λ q. q.1) same), ap (λ q. q.0) same)

module _ {A B C : Type 0} (value : A → B) (f : B → C) (same : IsInjective f) (left : List Token) where
  pub reads_mapped : (read : Option (B × List Token)) (r : Result (Option A) TrailFault) → Reads value read left r → Reads (λ a. f (value a)) (parse_map f read) left r
  reads_mapped read (Ok (Some a)) h = (ap (parse_map f) h.0, λ other is. h.1 other (same _ _ is))
  reads_mapped read (Ok None) h = (f h.0, ap (parse_map f) h.1, λ a is. h.2 a (same _ _ is))
  reads_mapped read (Err NotATrail) h = ap (parse_map f) h
  reads_mapped read (Err Memory) h = tt

  pub finds_reads : (o : Option B) (r : Result (Option A) TrailFault) → Finds value o r → Reads (λ a. f (value a)) (option_map (λ b. (f b, left)) o) left r
  finds_reads o (Ok (Some a)) h = (ap (option_map (λ b. (f b, left))) h.0, λ other is. h.1 other (same _ _ is))
  finds_reads o (Ok None) h = (f h.0, ap (option_map (λ b. (f b, left))) h.1, λ a is. h.2 a (same _ _ is))
  finds_reads o (Err NotATrail) h = ap (option_map (λ b. (f b, left))) h
  finds_reads o (Err Memory) h = tt

  pub takes_mapped : (read : Option (B × List Token)) (r : Result A TrailFault) → Takes value read left r → Takes (λ a. f (value a)) (parse_map f read) left r
  takes_mapped read (Ok a) h = (ap (parse_map f) h.0, λ other is. h.1 other (same _ _ is))
  takes_mapped read (Err NotATrail) h = λ a rest is. let back = mapped_back f read _ rest is in h a rest (back.1 ∙ ap (λ b. Some (b, rest)) (same _ _ back.2))
  takes_mapped read (Err Memory) h = tt

pub array_same : IsInjective array
array_same x y e = cc

pub number_same : IsInjective number
number_same x y e = cc

-- ---- the first token of a value

abbrev Begins : Data → Token → Type 0
Begins null t = t ≡ Token.null
Begins (boolean b) t = t ≡ Token.boolean b
Begins (number x) t = (s : List ℕ) × (t ≡ Token.number s)
Begins (string s) t = t ≡ Token.string s
Begins (array ds) t = t ≡ Token.begin_array
Begins (object ms) t = t ≡ Token.begin_object

pub same_value : (v w : Data) (r s : List Token) → ◌≡◌ {A = Option (Data × List Token)} (Some (v, r)) (Some (w, s)) → v ≡ w
same_value v w r s e = ap (λ (o : Option (Data × List Token)). (pick (v, r) o).0) e

never : {P : Type 0} (o : Option (Data × List Token)) (p : Data × List Token) → o ≡ None → o ≡ Some p → P
never o p none some = absurd (cc)

array_begins : (d : ℕ) (ts r : List Token) (v : Data) → data_at d (Token.begin_array ∷ ts) ≡ Some (v, r) → Begins v Token.begin_array
array_begins zero ts r v e = never _ _ (too_deep_array ts) e
array_begins (suc d) ts r v e = let back = mapped_back array _ v r (sym (data_array (suc d) ts (omega arith)) ∙ e) in subst (λ w. Begins w Token.begin_array) back.2 refl

object_begins : (d : ℕ) (ts r : List Token) (v : Data) → data_at d (Token.begin_object ∷ ts) ≡ Some (v, r) → Begins v Token.begin_object
object_begins zero ts r v e = never _ _ (too_deep_object ts) e
object_begins (suc d) ts r v e = let back = mapped_back object _ v r (sym (data_object (suc d) ts (omega arith)) ∙ e) in subst (λ w. Begins w Token.begin_object) back.2 refl

number_begins : (s : List ℕ) (ts r : List Token) (v : Data) (o : Option _) → option_map {U = Data × List Token} (λ x. (number x, ts)) o ≡ Some (v, r) → Begins v (Token.number s)
number_begins s ts r v None e = absurd (cc)
number_begins s ts r v (Some x) e = subst (λ w. Begins w (Token.number s)) (same_value _ v ts r e) (s, refl)

begins : (d : ℕ) (t : Token) (ts r : List Token) (v : Data) → data_at d (t ∷ ts) ≡ Some (v, r) → Begins v t
begins d Token.begin_object ts r v e = object_begins d ts r v e
begins d Token.end_object ts r v e = never _ _ (no_data_end_object d ts) e
begins d Token.begin_array ts r v e = array_begins d ts r v e
begins d Token.end_array ts r v e = never _ _ (no_data_end_array d ts) e
begins d (Token.key s) ts r v e = never _ _ (no_data_key d s ts) e
begins d (Token.string s) ts r v e = subst (λ w. Begins w (Token.string s)) (same_value _ v ts r (sym (data_string d s ts) ∙ e)) refl
begins d (Token.number s) ts r v e = number_begins s ts r v (number_of s) (sym (data_number d s ts) ∙ e)
begins d (Token.boolean b) ts r v e = subst (λ w. Begins w (Token.boolean b)) (same_value _ v ts r (sym (data_boolean d b ts) ∙ e)) refl
begins d Token.null ts r v e = subst (λ w. Begins w Token.null) (same_value _ v ts r (sym (data_null d ts) ∙ e)) refl
begins d Token.bad ts r v e = never _ _ (no_data_bad d ts) e

module _ (d : ℕ) (t : Token) (ts : List Token) where
  pub no_count : ((s : List ℕ) → ¬ (t ≡ Token.number s)) → (n : ℕ) (rest : List Token) → ¬ (data_at d (t ∷ ts) ≡ Some (count_value n, rest))
  no_count other n rest e = let b = begins d t ts rest _ e in other b.0 b.1

  pub no_array_from : ¬ (t ≡ Token.begin_array) → (ds : Items) (rest : List Token) → ¬ (data_at d (t ∷ ts) ≡ Some (array ds, rest))
  no_array_from other ds rest e = other (begins d t ts rest _ e)

  pub no_text : ((s : List ℕ) → ¬ (t ≡ Token.string s)) → (s : List ℕ) (rest : List Token) → ¬ (data_at d (t ∷ ts) ≡ Some (string s, rest))
  no_text other s rest e = other s (begins d t ts rest _ e)

pub no_array : (d : ℕ) (ts : List Token) → ((r : List Token) → ¬ (ts ≡ Token.begin_array ∷ r)) → (ds : Items) (rest : List Token) → ¬ (data_at d ts ≡ Some (array ds, rest))
no_array d [] other ds rest e = never _ _ (no_token d) e
no_array d (t ∷ ts) other ds rest e = other ts (ap (λ u. u ∷ ts) (begins d t ts rest _ e))

pub no_object : (d : ℕ) (ts : List Token) → ((r : List Token) → ¬ (ts ≡ Token.begin_object ∷ r)) → (ms : _) (rest : List Token) → ¬ (data_at d ts ≡ Some (object ms, rest))
no_object d [] other ms rest e = never _ _ (no_token d) e
no_object d (t ∷ ts) other ms rest e = other ts (ap (λ u. u ∷ ts) (begins d t ts rest _ e))

-- ---- a value that is passed

module _ {A B : Type 0} (value : A → B) (read : Option (B × List Token)) (left : List Token) where
  pub passed : {U : Type 0} (u : U) → ((a : A) (rest : List Token) → ¬ (read ≡ Some (value a, rest))) → Skips (after read) left (Ok u) → Reads value read left (Ok None)
  passed u none skipped = let v = left_some read left skipped in (v.0, v.1, λ a is. none a left (v.1 ∙ ap (λ b. Some (b, left)) (sym is)))

-- ---- a list of things, one after another

abbrev before : List Data → Items → Items
before [] rest = rest
before (d ∷ ds) rest = item d (before ds rest)

none_before : (r : Option (Items × List Token)) → r ≡ parse_map (before []) r
none_before None = refl
none_before (Some p) = refl

module _ {A : Type 0} (value : A → Data) where
  abbrev AreOnly : List A → Type 0
  AreOnly [] = Unit {0}
  AreOnly (x ∷ xs) = IsOnly value x × AreOnly xs

  only_more : (xs : List A) (a : A) → AreOnly xs → IsOnly value a → AreOnly (xs ++ a ∷ [])
  only_more [] a only this = (this, tt)
  only_more (x ∷ xs) a only this = (only.0, only_more xs a only.1 this)

  all_only : (xs ys : List A) → AreOnly xs → items_of (map value ys) ≡ items_of (map value xs) → ys ≡ xs
  all_only [] [] only e = refl
  all_only [] (y ∷ ys) only e = absurd (cc)
  all_only (x ∷ xs) [] only e = absurd (cc)
  all_only (x ∷ xs) (y ∷ ys) only e =
      let heads : value y ≡ value x = cc in
      let tails : items_of (map value ys) ≡ items_of (map value xs) = cc in
      ap₂ (λ z zs. z ∷ zs) (only.0 y heads) (all_only xs ys only.1 tails)

  before_push : (xs : List A) (a : A) (rest : Items) → before (map value xs) (item (value a) rest) ≡ before (map value (xs ++ a ∷ [])) rest
  before_push [] a rest = refl
  before_push (x ∷ xs) a rest = ap (item (value x)) (before_push xs a rest)

  before_all : (xs : List A) → before (map value xs) no_items ≡ items_of (map value xs)
  before_all [] = refl
  before_all (x ∷ xs) = ap (item (value x)) (before_all xs)

  one_more : (xs : List A) (a : A) (o : Option (Items × List Token)) → parse_map (before (map value xs)) (parse_map (item (value a)) o) ≡ parse_map (before (map value (xs ++ a ∷ []))) o
  one_more xs a None = refl
  one_more xs a (Some p) = ap (λ ds. Some (ds, p.1)) (before_push xs a p.0)

  -- what comes after those that were found is the value of one
  of_one : (xs ys : List A) (v : Data) (rest : Items) → before (map value xs) (item v rest) ≡ items_of (map value ys) → (a : A) × (value a ≡ v)
  of_one [] [] v rest e = absurd (cc)
  of_one [] (y ∷ ys) v rest e = let is : value y ≡ v = cc in (y, is)
  of_one (x ∷ xs) [] v rest e = absurd (cc)
  of_one (x ∷ xs) (y ∷ ys) v rest e = let tails : before (map value xs) (item v rest) ≡ items_of (map value ys) = cc in of_one xs ys v rest tails

  pub record SoFar (d : ℕ) (first now : List Token) (found : List A) : Type 0 where
    pub read : items_at d first ≡ parse_map (before (map value found)) (items_at d now)
    pub only : AreOnly found

  module _ (d : ℕ) (first : List Token) where
    pub none_yet : SoFar d first first []
    none_yet = record { read = none_before (items_at d first); only = tt }

    module _ (now : List Token) (xs : List A) (so : SoFar d first now xs) where
      pub more : (r : List Token) (a : A) → after_end_array now ≡ None → (data_at d now ≡ Some (value a, r)) × IsOnly value a → SoFar d first r (xs ++ a ∷ [])
      more r a going h = record {
        read = so.read ∙ ap (parse_map (before (map value xs))) (item_read d now r (value a) going h.0) ∙ one_more xs a (items_at d r);
        only = only_more xs a so.only h.1;
      }

      pub all : (r : List Token) → after_end_array now ≡ Some r → (items_at d first ≡ Some (items_of (map value xs), r)) × IsOnly (λ ys. items_of (map value ys)) xs
      all r over = (
        so.read ∙ ap (parse_map (before (map value xs))) (items_over d now r over) ∙ ap (λ ds. Some (ds, r)) (before_all xs),
        λ ys same. all_only xs ys so.only same,
      )

      pub unread : after_end_array now ≡ None → data_at d now ≡ None → items_at d first ≡ None
      unread going bad = so.read ∙ ap (parse_map (before (map value xs))) (item_refused d now going bad)

      -- another value comes
      module _ (r : List Token) (v : Data) (going : after_end_array now ≡ None) (read : data_at d now ≡ Some (v, r)) (none : (a : A) → ¬ (value a ≡ v)) where
        and_others : items_at d first ≡ parse_map (before (map value xs)) (parse_map (item v) (items_at d r))
        and_others = so.read ∙ ap (parse_map (before (map value xs))) (item_read d now r v going read)

        pub others_passed : (t : List Token) → after (items_at d r) ≡ Some t → Reads (λ ys. items_of (map value ys)) (items_at d first) t (Ok None)
        others_passed t skipped =
            let ds = left_some (items_at d r) t skipped in (
              before (map value xs) (item v ds.0),
              and_others ∙ ap (λ o. parse_map (before (map value xs)) (parse_map (item v) o)) ds.1,
              λ ys is. let one = of_one xs ys v ds.0 (sym is) in none one.0 one.1,
            )

        pub others_unread : after (items_at d r) ≡ None → items_at d first ≡ None
        others_unread bad = and_others ∙ ap (λ o. parse_map (before (map value xs)) (parse_map (item v) o)) (left_none _ bad)

        pub of_none : (ys : List A) (rest : List Token) → ¬ (items_at d first ≡ Some (items_of (map value ys), rest))
        of_none ys rest e =
            let outer = mapped_back (before (map value xs)) _ _ rest (sym and_others ∙ e) in
            let inner = mapped_back (item v) _ _ rest outer.1 in
            let one = of_one xs ys v inner.0 (ap (before (map value xs)) inner.2 ∙ outer.2) in
            none one.0 one.1

      pub refused : after_end_array now ≡ None → (e : TrailFault) (left : List Token) → Takes value (data_at d now) left (Err e) → Takes (λ ys. items_of (map value ys)) (items_at d first) left (Err e)
      refused going NotATrail left none = λ ys rest e. by_value (decide (data_at d now)) ys rest e
        where
          by_value : (o : (data_at d now ≡ None) ⊎ ((p : Data × List Token) × (data_at d now ≡ Some p))) → (ys : List A) (rest : List Token) → ¬ (items_at d first ≡ Some (items_of (map value ys), rest))
          by_value (inl bad) ys rest e = let no = sym (unread going bad) ∙ e in absurd (cc)
          by_value (inr p) ys rest e = of_none p.0.1 p.0.0 going p.1 (λ a is. none a p.0.1 (p.1 ∙ ap (λ v. Some (v, p.0.1)) (sym is))) ys rest e
      refused going Memory left none = tt

      pub none_passed : after_end_array now ≡ None → (left after_all : List Token) → Reads value (data_at d now) left (Ok None) → (r : Result (Option (List A)) TrailFault) → Skips (after (items_at d left)) after_all r → IfOk r (λ o. o ≡ None)
          → Reads (λ ys. items_of (map value ys)) (items_at d first) after_all r
      none_passed going left after_all h (Ok None) skipped none = others_passed left h.0 going h.1 h.2 after_all skipped
      none_passed going left after_all h (Ok (Some ys)) skipped none = absurd (cc)
      none_passed going left after_all h (Err NotATrail) skipped none = others_unread left h.0 going h.1 h.2 skipped
      none_passed going left after_all h (Err Memory) skipped none = tt

      pub no_more : after_end_array now ≡ None → (e : TrailFault) (left : List Token) → Reads value (data_at d now) left (Err e) → Reads (λ ys. items_of (map value ys)) (items_at d first) left (Err e)
      no_more going NotATrail left bad = unread going bad
      no_more going Memory left bad = tt

-- ---- arrays

pub list_taken : {A : Type 0} (value : A → Data) (d : ℕ) (all ts left : List Token) (r : Result (List A) TrailFault) → 0 < d → all ≡ Token.begin_array ∷ ts
    → Takes (λ xs. items_of (map value xs)) (items_at (d - 1) ts) left r → Takes (λ xs. array (items_of (map value xs))) (data_at d all) left r
list_taken value d all ts left r deep is h =
    subst (λ o. Takes (λ xs. array (items_of (map value xs))) o left r) (sym (ap (data_at d) is ∙ data_array d ts deep))
    (takes_mapped (λ xs. items_of (map value xs)) array array_same left (items_at (d - 1) ts) r h)

pub list_read : {A : Type 0} (value : A → Items) (d : ℕ) (all ts left : List Token) (r : Result (Option A) TrailFault) → 0 < d → all ≡ Token.begin_array ∷ ts
    → Reads value (items_at (d - 1) ts) left r → Reads (λ a. array (value a)) (data_at d all) left r
list_read value d all ts left r deep is h =
    subst (λ o. Reads (λ a. array (value a)) o left r) (sym (ap (data_at d) is ∙ data_array d ts deep)) (reads_mapped value array array_same left (items_at (d - 1) ts) r h)

-- ---- counts

pub count_read : (d : ℕ) (t : Token) (s : List ℕ) (ts : List Token) (r : Result (Option ℕ) TrailFault) → t ≡ Token.number s → Finds unsigned (number_of s) r → Reads count_value (data_at d (t ∷ ts)) ts r
count_read d t s ts r is h =
    subst (λ o. Reads count_value o ts r) (sym (ap (λ u. data_at d (u ∷ ts)) is ∙ data_number d s ts)) (finds_reads unsigned number number_same ts (number_of s) r h)
