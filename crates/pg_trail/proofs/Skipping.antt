-- What is left after values that nobody keeps.
use Rattle.std.proofs.Common.{◌≡◌, ℕ, ◌-◌, ◌<◌, List, [], ◌∷◌, length, Option, Some, None, Bool, option_map, Result, Ok, Err, refl, ap, ◌∙◌}
use Rattle.json.specs.Token.{Token}
use Rattle.json.specs.Json.{after_end_array, read_key}
use Rattle.json.proofs.Grammar.{left-parse_map, left_none, left_some}
use Rattle.serde_json.specs.Data.{Data, Num, number, array, object, item, Members, no_members, put}
use Rattle.serde_json.specs.Read.{number_of}
use Rattle.pg_trail.specs.declared.trail_fault.TrailFault.{TrailFault}
use Rattle.pg_trail.specs.declared.trail_fault.TrailFault.TheVariants.{NotATrail, Memory}
use Rattle.pg_trail.specs.Ahead.{data_at, items_at, members_at, after}
use Rattle.pg_trail.specs.Readings.{Skips}
use Rattle.pg_trail.proofs.Ahead.{data_array, data_object, data_number, data_string, data_boolean, data_null, no_data_end_object, no_data_end_array, no_data_key, no_data_bad, data_shorter, items_over, item_read, item_refused, members_over, key_refused, member_read, member_refused}

-- ---- the first token

module _ (d : ℕ) where
  pub left_array : (ts : List Token) → 0 < d → after (data_at d (Token.begin_array ∷ ts)) ≡ after (items_at (d - 1) ts)
  left_array ts deep = ap after (data_array d ts deep) ∙ left-parse_map array (items_at (d - 1) ts)

  pub left_object : (ts : List Token) → 0 < d → after (data_at d (Token.begin_object ∷ ts)) ≡ after (members_at (d - 1) no_members ts)
  left_object ts deep = ap after (data_object d ts deep) ∙ left-parse_map object (members_at (d - 1) no_members ts)

  pub left_number : (s : List ℕ) (ts : List Token) → after (data_at d (Token.number s ∷ ts)) ≡ option_map (λ x. ts) (number_of s)
  left_number s ts = ap after (data_number d s ts) ∙ only_left (number_of s)
    where
      only_left : (o : Option Num) → after {B = Data} (option_map (λ x. (number x, ts)) o) ≡ option_map (λ x. ts) o
      only_left None = refl
      only_left (Some x) = refl

  pub left_string : (s : List ℕ) (ts : List Token) → after (data_at d (Token.string s ∷ ts)) ≡ Some ts
  left_string s ts = ap after (data_string d s ts)

  pub left_boolean : (b : Bool) (ts : List Token) → after (data_at d (Token.boolean b ∷ ts)) ≡ Some ts
  left_boolean b ts = ap after (data_boolean d b ts)

  pub left_null : (ts : List Token) → after (data_at d (Token.null ∷ ts)) ≡ Some ts
  left_null ts = ap after (data_null d ts)

  pub none_end_object : (ts : List Token) → after (data_at d (Token.end_object ∷ ts)) ≡ None
  none_end_object ts = ap after (no_data_end_object d ts)

  pub none_end_array : (ts : List Token) → after (data_at d (Token.end_array ∷ ts)) ≡ None
  none_end_array ts = ap after (no_data_end_array d ts)

  pub none_key : (s : List ℕ) (ts : List Token) → after (data_at d (Token.key s ∷ ts)) ≡ None
  none_key s ts = ap after (no_data_key d s ts)

  pub none_bad : (ts : List Token) → after (data_at d (Token.bad ∷ ts)) ≡ None
  none_bad ts = ap after (no_data_bad d ts)

  -- ---- a turn

  pub left_item : (ts r : List Token) → after_end_array ts ≡ None → after (data_at d ts) ≡ Some r → after (items_at d ts) ≡ after (items_at d r)
  left_item ts r going e = let v = left_some (data_at d ts) r e in ap after (item_read d ts r v.0 going v.1) ∙ left-parse_map (item v.0) (items_at d r)

  pub left_shorter : (ts r : List Token) → after (data_at d ts) ≡ Some r → length r < length ts
  left_shorter ts r e = let v = left_some (data_at d ts) r e in data_shorter d ts r v.0 v.1

  pub left_no_item : (ts : List Token) → after_end_array ts ≡ None → after (data_at d ts) ≡ None → after (items_at d ts) ≡ None
  left_no_item ts going e = ap after (item_refused d ts going (left_none _ e))

  pub left_items_over : (ts r : List Token) → after_end_array ts ≡ Some r → after (items_at d ts) ≡ Some r
  left_items_over ts r e = ap after (items_over d ts r e)

  pub left_member : (old : Members) (k : List ℕ) (ts s r : List Token) → read_key ts ≡ Some (Some k, s) → after (data_at d s) ≡ Some r
      → (next : Members) × (after (members_at d old ts) ≡ after (members_at d next r))
  left_member old k ts s r key e = let v = left_some (data_at d s) r e in (put k v.0 old, ap after (member_read d old k ts s r v.0 key v.1))

-- where a value opens nothing
pub ruleset first_tokens = (left_string, left_boolean, left_null, none_end_object, none_end_array, none_key, none_bad)

pub number_skipped : (o : Option Num) (ts : List Token) (r : Result (Unit {0}) TrailFault) → Skips (option_map (λ x. []) o) [] r → Skips (option_map (λ x. ts) o) ts r
number_skipped None ts (Ok u) h = absurd (cc)
number_skipped (Some x) ts (Ok u) h = refl
number_skipped None ts (Err NotATrail) h = refl
number_skipped (Some x) ts (Err NotATrail) h = absurd (cc)
number_skipped o ts (Err Memory) h = tt

pub item_fault : (d : ℕ) (first ts left other : List Token) (e : TrailFault) → after (items_at d first) ≡ after (items_at d ts) → after_end_array ts ≡ None
    → Skips {U = Unit {0}} (after (data_at d ts)) left (Err e) → Skips {U = Unit {0}} (after (items_at d first)) other (Err e)
item_fault d first ts left other NotATrail same going bad = same ∙ left_no_item d ts going bad
item_fault d first ts left other Memory same going bad = tt

pub no_members_left : (d : ℕ) (old : Members) (ts : List Token) → read_key ts ≡ None → after (members_at d old ts) ≡ None
no_members_left d old ts bad = ap after (key_refused d old ts bad)

pub member_fault : (d : ℕ) (before old : Members) (first : List Token) (k : List ℕ) (ts s left other : List Token) (e : TrailFault) → after (members_at d before first) ≡ after (members_at d old ts)
    → read_key ts ≡ Some (Some k, s) → Skips {U = Unit {0}} (after (data_at d s)) left (Err e) → Skips {U = Unit {0}} (after (members_at d before first)) other (Err e)
member_fault d before old first k ts s left other NotATrail same key bad = same ∙ ap after (member_refused d old k ts s key (left_none _ bad))
member_fault d before old first k ts s left other Memory same key bad = tt

pub members_left : (d : ℕ) (old : Members) (ts r : List Token) → read_key ts ≡ Some (None, r) → after (members_at d old ts) ≡ Some r
members_left d old ts r over = ap after (members_over d old ts r over)
