-- What stands ahead, a token at a time.
use Rattle.std.proofs.Common.{◌≡◌, ◌⊎◌, ℕ, zero, suc, ◌-◌, ◌<◌, ◌≤◌, List, [], ◌∷◌, length, Option, Some, None, option_map, option_and_then, Bool, inl, inr, refl, sym, ap, ◌∙◌, arith}
use Rattle.json.specs.Token.{Token}
use Rattle.json.specs.Lex.{tokens}
use Rattle.json.specs.Json as json
use Rattle.json.specs.Json.{Parse, parse_map, after_end_array, read_key, items, members, value, if_last}
use Rattle.json.proofs.Grammar.{left, value_is, value-begin_array, value-begin_object, read_key-shorter, items_end, items_fail, items_more, members_end, members_no_key, members_fail, members_more, Takes, skip_value-shorter}
use Rattle.serde_json.specs.Data.{Data, null, boolean, number, string, array, object, Items, no_items, item, Members, no_members, put}
use Rattle.serde_json.specs.Read.{number_of, of_json, of_items, of_members, converted, read}
use Rattle.pg_trail.specs.Ahead.{data_at, items_at, members_at}

-- ---- what was converted

abbrev pick : {A : Type 0} → A → Option A → A
pick d None = d
pick d (Some a) = a

found : {B : Type 0} (r s : List Token) (x : Option B) (b : B) → option_map {U = B × List Token} (λ y. (y, r)) x ≡ Some (b, s) → (r ≡ s) × (x ≡ Some b)
found r s None b e = absurd (cc)
found r s (Some y) b e = let same = ap (pick (y, r)) e in (ap (λ p. p.1) same, ap (λ p. Some p.0) same)

pub converted_some : {A B : Type 0} (f : A → Option B) (o : Option (A × List Token)) (b : B) (r : List Token) → converted f o ≡ Some (b, r) → (a : A) × (o ≡ Some (a, r)) × (f a ≡ Some b)
converted_some f None b r e = absurd (cc)
converted_some f (Some p) b r e = let both = found p.1 r (f p.0) b e in (p.0, ap (λ s. Some (p.0, s)) both.0, both.1)

refused : {B : Type 0} (r : List Token) (x : Option B) → option_map {U = B × List Token} (λ y. (y, r)) x ≡ None → x ≡ None
refused r None e = refl
refused r (Some y) e = absurd (cc)

twice : {A B : Type 0} (g : A → B) (r : List Token) (x : Option A) → option_map (λ b. (b, r)) (option_map g x) ≡ parse_map g (option_map (λ a. (a, r)) x)
twice g r None = refl
twice g r (Some a) = refl

converted-array : (o : Option (json.Items × List Token)) → converted of_json (parse_map json.array o) ≡ parse_map array (converted of_items o)
converted-array None = refl
converted-array (Some p) = twice array p.1 (of_items p.0)

converted-object : (o : Option (json.Members × List Token)) → converted of_json (parse_map json.object o) ≡ parse_map object (converted (λ ms. of_members ms no_members) o)
converted-object None = refl
converted-object (Some p) = twice object p.1 (of_members p.0 no_members)

with_item : (j : json.Json) (d : Data) → of_json j ≡ Some d → (o : Option (json.Items × List Token)) → converted of_items (parse_map (json.item j) o) ≡ parse_map (item d) (converted of_items o)
with_item j d e None = refl
with_item j d e (Some p) = rw e (twice (item d) p.1 (of_items p.0))

without_item : (j : json.Json) → of_json j ≡ None → (o : Option (json.Items × List Token)) → converted of_items (parse_map (json.item j) o) ≡ None
without_item j e None = refl
without_item j e (Some p) = rw e

with_member : (k : List ℕ) (j : json.Json) (d : Data) (old : Members) → of_json j ≡ Some d → (o : Option (json.Members × List Token))
    → converted (λ ms. of_members ms old) (parse_map (json.member k j) o) ≡ converted (λ ms. of_members ms (put k d old)) o
with_member k j d old e None = refl
with_member k j d old e (Some p) = rw e

without_member : (k : List ℕ) (j : json.Json) (old : Members) → of_json j ≡ None → (o : Option (json.Members × List Token)) → converted (λ ms. of_members ms old) (parse_map (json.member k j) o) ≡ None
without_member k j old e None = refl
without_member k j old e (Some p) = rw e

-- ---- more turns than there are tokens change nothing

pub decide : {A : Type 0} (o : Option A) → (o ≡ None) ⊎ ((a : A) × (o ≡ Some a))
decide None = inl refl
decide (Some a) = inr (a, refl)

module _ (p : Parse json.Json) (takes : Takes p) where
  items_turn : (n m : ℕ) (ts : List Token) → length ts ≤ n → length ts ≤ m → ((r : List Token) → length r < length ts → items p (n - 1) r ≡ items p (m - 1) r)
      → (o : (after_end_array ts ≡ None) ⊎ ((r : List Token) × (after_end_array ts ≡ Some r))) → (v : (p ts ≡ None) ⊎ ((q : json.Json × List Token) × (p ts ≡ Some q))) → items p n ts ≡ items p m ts
  items_turn n m ts f g again (inr r) v = items_end p n ts r.0 f r.1 ∙ sym (items_end p m ts r.0 g r.1)
  items_turn n m ts f g again (inl going) (inl bad) = items_fail p n ts going bad ∙ sym (items_fail p m ts going bad)
  items_turn n m ts f g again (inl going) (inr q) =
      let less : length q.0.1 < length ts = takes ts q.0.1 (ap left q.1) in
      items_more p n ts q.0.1 q.0.0 (omega arith) going q.1 ∙ ap (parse_map (json.item q.0.0)) (again q.0.1 less) ∙ sym (items_more p m ts q.0.1 q.0.0 (omega arith) going q.1)

  items_same : (b n m : ℕ) (ts : List Token) → length ts ≤ b → length ts ≤ n → length ts ≤ m → items p n ts ≡ items p m ts
  items_same zero n m ts h f g = items_turn n m ts f g (λ r less. absurd (omega arith)) (decide _) (decide _)
  items_same (suc b) n m ts h f g = items_turn n m ts f g (λ r less. items_same b (n - 1) (m - 1) r (omega arith) (omega arith) (omega arith)) (decide _) (decide _)

  members_turn : (n m : ℕ) (ts : List Token) → length ts ≤ n → length ts ≤ m → ((r : List Token) → length r < length ts → members p (n - 1) r ≡ members p (m - 1) r)
      → (o : (read_key ts ≡ None) ⊎ ((k : Option (List ℕ) × List Token) × (read_key ts ≡ Some k))) → members p n ts ≡ members p m ts
  members_turn n m ts f g again (inl bad) = members_no_key p n ts bad ∙ sym (members_no_key p m ts bad)
  members_turn n m ts f g again (inr ((None, r), e)) = members_end p n ts r f e ∙ sym (members_end p m ts r g e)
  members_turn n m ts f g again (inr ((Some k, s), e)) = member_turn (decide (p s))
    where
      member_turn : (v : (p s ≡ None) ⊎ ((q : json.Json × List Token) × (p s ≡ Some q))) → members p n ts ≡ members p m ts
      member_turn (inl bad) = members_fail p n k ts s e bad ∙ sym (members_fail p m k ts s e bad)
      member_turn (inr q) =
          let less : length q.0.1 < length s = takes s q.0.1 (ap left q.1) in
          let lesser : length s < length ts = read_key-shorter ts (Some k) s e in
          members_more p n k ts s q.0.1 q.0.0 (omega arith) e q.1 ∙ ap (parse_map (json.member k q.0.0)) (again q.0.1 (omega arith)) ∙ sym (members_more p m k ts s q.0.1 q.0.0 (omega arith) e q.1)

  members_same : (b n m : ℕ) (ts : List Token) → length ts ≤ b → length ts ≤ n → length ts ≤ m → members p n ts ≡ members p m ts
  members_same zero n m ts h f g = members_turn n m ts f g (λ r less. absurd (omega arith)) (decide _)
  members_same (suc b) n m ts h f g = members_turn n m ts f g (λ r less. members_same b (n - 1) (m - 1) r (omega arith) (omega arith) (omega arith)) (decide _)

-- ---- a value, by its first token

module _ (d : ℕ) where
  pub no_token : data_at d [] ≡ None
  unfolding data_at items_at members_at
  no_token = ap (converted of_json) (value_is d [])

  pub data_array : (ts : List Token) → 0 < d → data_at d (Token.begin_array ∷ ts) ≡ parse_map array (items_at (d - 1) ts)
  unfolding data_at items_at members_at
  data_array ts deep = ap (converted of_json) (value-begin_array d ts deep) ∙ converted-array (items (value (d - 1)) (length ts) ts)

  pub data_object : (ts : List Token) → 0 < d → data_at d (Token.begin_object ∷ ts) ≡ parse_map object (members_at (d - 1) no_members ts)
  unfolding data_at items_at members_at
  data_object ts deep = ap (converted of_json) (value-begin_object d ts deep) ∙ converted-object (members (value (d - 1)) (length ts) ts)

  pub data_number : (s : List ℕ) (ts : List Token) → data_at d (Token.number s ∷ ts) ≡ option_map (λ x. (number x, ts)) (number_of s)
  unfolding data_at items_at members_at
  data_number s ts = ap (converted of_json) (value_is d (Token.number s ∷ ts)) ∙ numbered (number_of s)
    where
      numbered : (o : Option _) → option_map {U = Data × List Token} (λ b. (b, ts)) (option_map number o) ≡ option_map (λ x. (number x, ts)) o
      numbered None = refl
      numbered (Some x) = refl

  pub data_string : (s : List ℕ) (ts : List Token) → data_at d (Token.string s ∷ ts) ≡ Some (string s, ts)
  unfolding data_at items_at members_at
  data_string s ts = ap (converted of_json) (value_is d (Token.string s ∷ ts))

  pub data_boolean : (b : Bool) (ts : List Token) → data_at d (Token.boolean b ∷ ts) ≡ Some (boolean b, ts)
  unfolding data_at items_at members_at
  data_boolean b ts = ap (converted of_json) (value_is d (Token.boolean b ∷ ts))

  pub data_null : (ts : List Token) → data_at d (Token.null ∷ ts) ≡ Some (null, ts)
  unfolding data_at items_at members_at
  data_null ts = ap (converted of_json) (value_is d (Token.null ∷ ts))

  pub no_data_end_object : (ts : List Token) → data_at d (Token.end_object ∷ ts) ≡ None
  unfolding data_at items_at members_at
  no_data_end_object ts = ap (converted of_json) (value_is d (Token.end_object ∷ ts))

  pub no_data_end_array : (ts : List Token) → data_at d (Token.end_array ∷ ts) ≡ None
  unfolding data_at items_at members_at
  no_data_end_array ts = ap (converted of_json) (value_is d (Token.end_array ∷ ts))

  pub no_data_key : (s : List ℕ) (ts : List Token) → data_at d (Token.key s ∷ ts) ≡ None
  unfolding data_at items_at members_at
  no_data_key s ts = ap (converted of_json) (value_is d (Token.key s ∷ ts))

  pub no_data_bad : (ts : List Token) → data_at d (Token.bad ∷ ts) ≡ None
  unfolding data_at items_at members_at
  no_data_bad ts = ap (converted of_json) (value_is d (Token.bad ∷ ts))

pub too_deep_array : (ts : List Token) → data_at 0 (Token.begin_array ∷ ts) ≡ None
unfolding data_at
too_deep_array ts = ap (converted of_json) (value_is 0 (Token.begin_array ∷ ts))

pub too_deep_object : (ts : List Token) → data_at 0 (Token.begin_object ∷ ts) ≡ None
unfolding data_at
too_deep_object ts = ap (converted of_json) (value_is 0 (Token.begin_object ∷ ts))

-- ---- arrays and objects, a turn at a time

module _ (d : ℕ) where
  pub data_shorter : (ts r : List Token) (v : Data) → data_at d ts ≡ Some (v, r) → length r < length ts
  unfolding data_at items_at members_at
  data_shorter ts r v e = skip_value-shorter d ts r (ap left (converted_some of_json (value d ts) v r e).1)

  pub items_over : (ts r : List Token) → after_end_array ts ≡ Some r → items_at d ts ≡ Some (no_items, r)
  unfolding data_at items_at members_at
  items_over ts r e = ap (converted of_items) (items_end (value d) (length ts) ts r (omega arith) e)

  pub item_read : (ts r : List Token) (v : Data) → after_end_array ts ≡ None → data_at d ts ≡ Some (v, r) → items_at d ts ≡ parse_map (item v) (items_at d r)
  unfolding data_at items_at members_at
  item_read ts r v going e =
      let j = converted_some of_json (value d ts) v r e in
      let less : length r < length ts = data_shorter ts r v e in
      ap (converted of_items)
      (items_more (value d) (length ts) ts r j.0 (omega arith) going j.1 ∙ ap (parse_map (json.item j.0)) (items_same (value d) (skip_value-shorter d) (length r) (length ts - 1) (length r) r (omega arith) (omega arith) (omega arith)))
      ∙ with_item j.0 v j.2 (items (value d) (length r) r)

  no_item : (more : Parse json.Items) (o : Option (json.Json × List Token)) → converted of_json o ≡ None → converted of_items (option_and_then (λ q. parse_map (json.item q.0) (more q.1)) o) ≡ None
  no_item more None e = refl
  no_item more (Some q) e = without_item q.0 (refused q.1 (of_json q.0) e) (more q.1)

  no_items_read : (n : ℕ) (ts : List Token) → after_end_array ts ≡ None → converted of_json (value d ts) ≡ None → converted of_items (items (value d) n ts) ≡ None
  unfolding data_at items_at members_at items
  no_items_read zero ts going e = refl
  no_items_read (suc n) ts going e = ap (λ o. converted of_items (json.items_step (value d) (items (value d) n) ts o)) going ∙ no_item (items (value d) n) (value d ts) e

  pub item_refused : (ts : List Token) → after_end_array ts ≡ None → data_at d ts ≡ None → items_at d ts ≡ None
  unfolding data_at items_at members_at
  item_refused ts going e = no_items_read (length ts) ts going e

  pub members_over : (old : Members) (ts r : List Token) → read_key ts ≡ Some (None, r) → members_at d old ts ≡ Some (old, r)
  unfolding data_at items_at members_at
  members_over old ts r e = ap (converted (λ ms. of_members ms old)) (members_end (value d) (length ts) ts r (omega arith) e)

  pub key_refused : (old : Members) (ts : List Token) → read_key ts ≡ None → members_at d old ts ≡ None
  unfolding data_at items_at members_at
  key_refused old ts e = ap (converted (λ ms. of_members ms old)) (members_no_key (value d) (length ts) ts e)

  pub member_read : (old : Members) (k : List ℕ) (ts s r : List Token) (v : Data) → read_key ts ≡ Some (Some k, s) → data_at d s ≡ Some (v, r) → members_at d old ts ≡ members_at d (put k v old) r
  unfolding data_at items_at members_at
  member_read old k ts s r v key e =
      let j = converted_some of_json (value d s) v r e in
      let less : length r < length s = data_shorter s r v e in
      let lesser : length s < length ts = read_key-shorter ts (Some k) s key in
      ap (converted (λ ms. of_members ms old))
      (members_more (value d) (length ts) k ts s r j.0 (omega arith) key j.1 ∙ ap (parse_map (json.member k j.0)) (members_same (value d) (skip_value-shorter d) (length r) (length ts - 1) (length r) r (omega arith) (omega arith) (omega arith)))
      ∙ with_member k j.0 v old j.2 (members (value d) (length r) r)

  no_member : (old : Members) (k : List ℕ) (more : Parse json.Members) (o : Option (json.Json × List Token)) → converted of_json o ≡ None
      → converted (λ ms. of_members ms old) (option_and_then (λ q. parse_map (json.member k q.0) (more q.1)) o) ≡ None
  no_member old k more None e = refl
  no_member old k more (Some q) e = without_member k q.0 old (refused q.1 (of_json q.0) e) (more q.1)

  no_members_read : (old : Members) (n : ℕ) (k : List ℕ) (ts s : List Token) → read_key ts ≡ Some (Some k, s) → converted of_json (value d s) ≡ None → converted (λ ms. of_members ms old) (members (value d) n ts) ≡ None
  unfolding data_at items_at members_at members
  no_members_read old zero k ts s key e = refl
  no_members_read old (suc n) k ts s key e = rw key (no_member old k (members (value d) n) (value d s) e)

  pub member_refused : (old : Members) (k : List ℕ) (ts s : List Token) → read_key ts ≡ Some (Some k, s) → data_at d s ≡ None → members_at d old ts ≡ None
  unfolding data_at items_at members_at
  member_refused old k ts s key e = no_members_read old (length ts) k ts s key e

-- ---- the whole text

abbrev whole : Option (json.Json × List Token) → Option Data
whole o = option_and_then of_json (option_and_then (λ p. if_last p.0 p.1) o)

whole_read : (o : Option (json.Json × List Token)) (d : Data) → converted of_json o ≡ Some (d, []) → whole o ≡ Some d
whole_read o d e = let j = converted_some of_json o d [] e in ap whole j.1 ∙ j.2

whole_back : (o : Option (json.Json × List Token)) (d : Data) → whole o ≡ Some d → converted of_json o ≡ Some (d, [])
whole_back None d e = absurd (cc)
whole_back (Some (j, [])) d e = ap (option_map (λ x. (x, []))) e
whole_back (Some (j, t ∷ r)) d e = absurd (cc)

pub text_read : (text : List ℕ) (d : Data) → data_at 127 (tokens text) ≡ Some (d, []) → read text ≡ Some d
unfolding data_at
text_read text d e = whole_read (value 127 (tokens text)) d e

pub text_back : (text : List ℕ) (d : Data) → read text ≡ Some d → data_at 127 (tokens text) ≡ Some (d, [])
unfolding data_at
text_back text d e = whole_back (value 127 (tokens text)) d e
