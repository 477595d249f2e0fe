-- The starts of a map, as a list in their order.
use Rattle.std.proofs.Common.{◌≡◌, ℕ, zero, suc, Bool, true, false, cond, inl, inr, List, [], ◌∷◌, Option, Some, None, slice_get, length, unwrap_or, is_some, refl, sym, ap, ◌∙◌, arith, Less}
use Rattle.std.specs.BTreeMap.{get, keys, values}
use Rattle.std.specs.Map.{lookup, keys_of, values_of}
use Rattle.std.specs.List.Sorted.{IsStrictlySortedBy}
use Rattle.std.specs.Ordering.{is_eq}
use Rattle.std.proofs.lemmas.Bool.{true≢false, cases_Bool}
use Rattle.std.proofs.lemmas.Cmp.{tied_itself}
use Rattle.std.proofs.lemmas.List.{length-map}
use Rattle.std.proofs.lemmas.Map.Keys.{sorted_head, sorted_tail}
use Rattle.std.proofs.lemmas.Option.{slice_get_within}
use Rattle.pg_class.specs.Ranges.{Range}
use Rattle.pg_grammar_value.specs.Grammar.{Grammar}
use Rattle.pg_grammar_form.specs.Forms.{Node}
use Rattle.pg_start.specs.declared.kind.StartKind.{StartKind}
use Rattle.pg_graph.specs.Graphs.{has, numbers_at}
use Rattle.pg_sets_own.specs.Listed.{IsListed, IsNumbered, IsFirstReader, start_order, start_order_total}
use Rattle.pg_sets.specs.Origins.{Origins, sets_of, AreOrigins, AreListed}
use Rattle.pg_sets_own.specs.OwnStarts.{OwnStart, IsOperatorStart, ReservedAs, SameTexts}
use Rattle.pg_sets_own.specs.OwnStarts as own
use Rattle.pg_sets.specs.Sources.{IsSource}
use Rattle.pg_sets.specs.Sources as source
use Rattle.pg_sets_own.specs.declared.listed.ListedStart.{ListedStart}
use Rattle.pg_sets.proofs.Adding.{same_if_tied, tied_if_same}
use Rattle.pg_grammar_form.proofs.Each.{all-get}
use Rattle.pg_sets_own.proofs.Owned.{reads_like}
use Rattle.pg_sets_own.proofs.Ordered.{less-equal}

abbrev pub Entries : Type 0
Entries = List (ListedStart × List ℕ)

-- where a start stands that is there
pub place_of : (es : Entries) (q : ListedStart) → is_some (lookup (λ x. is_eq (start_order q x)) es) ≡ true → (k : ℕ) × (slice_get (keys_of es) k ≡ Some q)
place_of [] q is = absurd (true≢false (sym is))
place_of (e ∷ es) q is = go (is_eq (start_order q e.0)) refl is (λ later. place_of es q later)
  where
    go : (b : Bool) → is_eq (start_order q e.0) ≡ b → is_some (cond b (Some e.1) (lookup (λ x. is_eq (start_order q x)) es)) ≡ true
        → (is_some (lookup (λ x. is_eq (start_order q x)) es) ≡ true → (k : ℕ) × (slice_get (keys_of es) k ≡ Some q)) → (k : ℕ) × (slice_get (keys_of (e ∷ es)) k ≡ Some q)
    go true tied is ih = (zero, ap Some (sym (same_if_tied q e.0 tied)))
    go false apart is ih = let rest = ih is in (suc rest.0, rest.1)

-- what a start has that stands there
pub value_at : (es : Entries) (k : ℕ) (q : ListedStart) → IsStrictlySortedBy start_order (keys_of es) → slice_get (keys_of es) k ≡ Some q
    → lookup (λ x. is_eq (start_order q x)) es ≡ Some (numbers_at (values_of es) k)
value_at [] zero q sorted at = absurd cc
value_at [] (suc k) q sorted at = absurd cc
value_at (e ∷ es) zero q sorted at =
    let same : e.0 ≡ q = cc in
    ap (λ b. cond b (Some e.1) (lookup (λ x. is_eq (start_order q x)) es)) (tied_if_same q e.0 (sym same))
value_at (e ∷ es) (suc k) q sorted at =
    let below = all-get (λ y. start_order e.0 y ≡ Less) (keys_of es) k q (sorted_head start_order e.0 (keys_of es) sorted) at in
    elim (cases_Bool (is_eq (start_order q e.0))) [
      | inl tied ↦
          let same : q ≡ e.0 = same_if_tied q e.0 tied in
          absurd (less-equal (sym below ∙ (ap (start_order e.0) same ∙ tied_itself start_order_total e.0)))
      | inr apart ↦
          ap (λ b. cond b (Some e.1) (lookup (λ x. is_eq (start_order q x)) es)) apart
          ∙ value_at es k q (sorted_tail start_order e.0 (keys_of es) sorted) at
    ]

pub some_if_held : (found : Option (List ℕ)) (v : ℕ) → has (unwrap_or found []) v ≡ true → is_some found ≡ true
some_if_held None v h = absurd (true≢false (sym h))
some_if_held (Some ns) v h = refl

-- ---- numbers of starts

word_numbered : {g : Grammar} {heads rest : List Range} {texts reserved : List (List ℕ)} → ReservedAs g heads rest texts reserved → (w : ℕ) × IsFirstReader g heads rest reserved w
word_numbered {g} {texts = texts} (own.as_item {w = w} reads first) =
    let inside = slice_get_within g.words w reads.item reads.there in
    let back : SameTexts texts reads.item.reserved = λ text. sym (reads.texts text) in
    (w, record { none_before = λ v below other. first v below (reads_like reads.texts other); bound = omega arith; reads = λ below. reads_like back reads })
word_numbered {g} (own.as_written none) = (length g.words, record { none_before = λ v below. none v; bound = omega arith; reads = λ below. absurd (omega arith) })

pub operator_numbered : {g : Grammar} {s : StartKind} → IsOperatorStart g s → (w : ℕ) × IsNumbered g s w
operator_numbered (own.operator at class reserved) = word_numbered reserved

pub own_numbered : {g : Grammar} {n : Node} {s : StartKind} → OwnStart g n s → (w : ℕ) × IsNumbered g s w
own_numbered (own.satisfy is) = (0, refl)
own_numbered own.string = (0, refl)
own_numbered (own.word at heads rest reserved) = word_numbered reserved
own_numbered (own.key at) = (0, refl)
own_numbered (own.key_that_ends keyed is) = (0, refl)
own_numbered (own.expression is) = operator_numbered is
own_numbered (own.declare role is) = (0, refl)

numbered : {g : Grammar} {s : StartKind} {v : ℕ} → IsSource g s v → (w : ℕ) × IsNumbered g s w
numbered (source.own at is) = own_numbered is
numbered (source.at_end at e) = (0, refl)
numbered (source.operator p at is e) = operator_numbered is

pub are_listed : (g : Grammar) (origins : Origins) → AreOrigins g origins → IsStrictlySortedBy start_order (keys origins) → AreListed g (keys origins) (values origins)
are_listed g origins are sorted = record {
  ordered = sorted;
  long = length-map origins.entries (λ (e : ListedStart × List ℕ). e.1) ∙ sym (length-map origins.entries (λ (e : ListedStart × List ℕ). e.0));
  listed = named;
  sources = λ k v listed at. (
    λ h. ((are.held listed v).0 (sets k v listed at ∙ h)).0,
    λ is. sym (sets k v listed at) ∙ (are.held listed v).1 (is, named k listed at),
  );
  all = λ start v is.
      let number = numbered is in
      let listed : ListedStart = record { start = start; word = number.0 } in
      let held = (are.held listed v).1 (is, number.1) in
      let place = place_of origins.entries listed (some_if_held (get start_order origins listed) v held) in
      record { place = place.0; listed = listed; there = place.1; same = refl };
  plain = are.plain;
}
  where
    named : (k : ℕ) (listed : ListedStart) → slice_get (keys origins) k ≡ Some listed → IsListed g listed
    named k listed at = are.listed listed (ap is_some (value_at origins.entries k listed sorted at))

    sets : (k v : ℕ) (listed : ListedStart) → slice_get (keys origins) k ≡ Some listed → has (sets_of origins listed) v ≡ has (numbers_at (values origins) k) v
    sets k v listed at = ap (λ found. has (unwrap_or found []) v) (value_at origins.entries k listed sorted at)
