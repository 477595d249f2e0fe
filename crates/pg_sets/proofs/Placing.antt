-- A node is a part of one other at one place, or the body of a rule: so what follows a part comes from its place.
use Rattle.std.proofs.Common.{◌≡◌, ℕ, zero, suc, ◌+◌, ◌<◌, ◌≤◌, true, false, inl, inr, ◌⊎◌, List, [], ◌∷◌, Some, slice_get, length, map, take, drop, refl, sym, ap, subst, ◌∙◌, arith}
use Rattle.std.specs.Option.{option_map}
use Rattle.std.proofs.lemmas.Bool.{cases_Bool, true≢false}
use Rattle.std.proofs.lemmas.Option.{same_Some, slice_get-map}
use Rattle.pg_grammar_form.specs.Forms.{Node, parts_of, node_part_count, InPreorder}
use Rattle.pg_grammar_value.specs.Grammar.{Grammar, IsGrammar, rule_body}
use Rattle.pg_grammar_form.specs.Preorder.{roots}
use Rattle.pg_grammar_form.specs.declared.form.Form.TheVariants as form
use Rattle.pg_grammar_value.specs.declared.grammar.Rule as declared
use Rattle.pg_grammar_value.proofs.Numbers.{parts_follow}
use Rattle.pg_grammar_form.proofs.Preorder.{roots_within}
use Rattle.pg_start.specs.declared.kind.StartKind.{StartKind}
use Rattle.pg_sets.specs.First.{IsFirstOf}
use Rattle.pg_sets.specs.Follow.{StandsBefore, here, further, IsChain, HasOnly, IsFollow}
use Rattle.pg_sets.specs.Follow as follow
use Rattle.pg_graph.specs.Graphs.{has, AreOnce}
use Rattle.pg_sets_nullable.specs.Nullable.{AllNullable}
use Rattle.pg_graph.proofs.Lists.{has_at, has_after, has_cases, has_first, stands}
use Rattle.pg_grammar_form.proofs.Each.{all-get}

-- ---- numbers that stand once

has_take : (n : ℕ) (xs : List ℕ) (j : ℕ) → has (take n xs) j ≡ true → has xs j ≡ true
has_take zero xs j h = absurd (true≢false (sym h))
has_take (suc n) [] j h = absurd (true≢false (sym h))
has_take (suc n) (x ∷ xs) j h =
    elim (has_cases (take n xs) x j h) [ inl e ↦ subst (λ k. has (x ∷ xs) k ≡ true) e (has_first xs x) | inr later ↦ has_after xs x j (has_take n xs j later) ]

has_drop : (n : ℕ) (xs : List ℕ) (j : ℕ) → has (drop n xs) j ≡ true → has xs j ≡ true
has_drop zero xs j h = h
has_drop (suc n) [] j h = absurd (true≢false (sym h))
has_drop (suc n) (x ∷ xs) j h = has_after xs x j (has_drop n xs j h)

out_of : (xs ys : List ℕ) (j : ℕ) → (has ys j ≡ true → has xs j ≡ true) → has xs j ≡ false → has ys j ≡ false
out_of xs ys j within out = elim (cases_Bool (has ys j)) [ inl is ↦ absurd (true≢false (sym (within is) ∙ out)) | inr none ↦ none ]

once_take : (n : ℕ) (xs : List ℕ) → AreOnce xs → AreOnce (take n xs)
once_take zero xs once = tt
once_take (suc n) [] once = tt
once_take (suc n) (x ∷ xs) once = (out_of xs (take n xs) x (has_take n xs x) once.0, once_take n xs once.1)

once_drop : (n : ℕ) (xs : List ℕ) → AreOnce xs → AreOnce (drop n xs)
once_drop zero xs once = once
once_drop (suc n) [] once = tt
once_drop (suc n) (x ∷ xs) once = once_drop n xs once.1

-- what is taken isn't left
taken_or_left : (n : ℕ) (xs : List ℕ) (j : ℕ) → AreOnce xs → has (take n xs) j ≡ true → has (drop n xs) j ≡ true → ⊥
taken_or_left zero xs j once taken remains = true≢false (sym taken)
taken_or_left (suc n) [] j once taken remains = true≢false (sym taken)
taken_or_left (suc n) (x ∷ xs) j once taken remains =
    elim (has_cases (take n xs) x j taken) [
      | inl e ↦ true≢false (sym (has_drop n xs j remains) ∙ subst (λ k. has xs k ≡ false) e once.0)
      | inr later ↦ taken_or_left n xs j once.1 later remains
    ]

-- a number that stands once stands at one place
once_at : (xs : List ℕ) (k m x : ℕ) → AreOnce xs → slice_get xs k ≡ Some x → slice_get xs m ≡ Some x → k ≡ m
once_at [] zero m x once at also = absurd cc
once_at [] (suc k) m x once at also = absurd cc
once_at (y ∷ ys) zero zero x once at also = refl
once_at (y ∷ ys) zero (suc m) x once at also = let same : y ≡ x = cc in absurd (true≢false (sym (has_at ys m x also) ∙ subst (λ z. has ys z ≡ false) same once.0))
once_at (y ∷ ys) (suc k) zero x once at also = let same : y ≡ x = cc in absurd (true≢false (sym (has_at ys k x at) ∙ subst (λ z. has ys z ≡ false) same once.0))
once_at (y ∷ ys) (suc k) (suc m) x once at also = ap suc (once_at ys k m x once.1 at also)

-- ---- roots and parts

root_after : (i j : ℕ) (counts : List ℕ) → has (roots i counts) j ≡ true → i ≤ j
root_after i j counts h =
    let at = stands (roots i counts) j h in
    (all-get (λ q. (i ≤ q) × (q < i + length counts)) (roots i counts) at.place j (roots_within i counts) at.there).0

roots_once : (i : ℕ) (counts : List ℕ) → AreOnce (roots i counts)
roots_once i [] = tt
roots_once i (n ∷ counts) = (
  out_of [] (drop n (roots (suc i) counts)) i (λ h. let low = root_after (suc i) i counts (has_drop n (roots (suc i) counts) i h) in absurd (omega arith)) refl,
  once_drop n (roots (suc i) counts) (roots_once (suc i) counts),
)

-- the first node's parts are roots after it
first_parts : (i : ℕ) (m : Node) (nodes : List Node) (j : ℕ) → InPreorder i (m ∷ nodes) → has (parts_of m) j ≡ true
    → has (take (node_part_count m) (roots (suc i) (map node_part_count nodes))) j ≡ true
first_parts i m nodes j h is = ap (λ xs. has xs j) (sym h.0) ∙ is

-- a part is no root
part_no_root : (i : ℕ) (nodes : List Node) (k : ℕ) (n : Node) (j : ℕ) → InPreorder i nodes → slice_get nodes k ≡ Some n → has (parts_of n) j ≡ true
    → has (roots i (map node_part_count nodes)) j ≡ true → ⊥
part_no_root i [] zero n j h at is root = absurd cc
part_no_root i [] (suc k) n j h at is root = absurd cc
part_no_root i (m ∷ nodes) zero n j h at is root =
    let same : ◌≡◌ {A = Node} n m = cc in
    let taken = first_parts i m nodes j h (subst (λ x. has (parts_of x) j ≡ true) same is) in
    let all = roots (suc i) (map node_part_count nodes) in
    elim (has_cases (drop (node_part_count m) all) i j root) [
      | inl e ↦ let low = root_after (suc i) j (map node_part_count nodes) (has_take (node_part_count m) all j taken) in absurd (omega arith)
      | inr remains ↦ taken_or_left (node_part_count m) all j (roots_once (suc i) (map node_part_count nodes)) taken remains
    ]
part_no_root i (m ∷ nodes) (suc k) n j h at is root =
    let all = roots (suc i) (map node_part_count nodes) in
    elim (has_cases (drop (node_part_count m) all) i j root) [
      | inl e ↦
          let place = stands (parts_of n) j is in
          let after = all-get (λ q. (suc i + k < q) × (q < suc i + length nodes)) (parts_of n) place.place j (parts_follow (suc i) nodes k n h.1 at) place.there in
          let low = after.0 in
          absurd (omega arith)
      | inr remains ↦ part_no_root (suc i) nodes k n j h.1 at is (has_drop (node_part_count m) all j remains)
    ]

-- a part is one node's
one_whole : (i : ℕ) (nodes : List Node) (k : ℕ) (n : Node) (l : ℕ) (o : Node) (j : ℕ) → InPreorder i nodes → slice_get nodes k ≡ Some n → slice_get nodes l ≡ Some o
    → has (parts_of n) j ≡ true → has (parts_of o) j ≡ true → k ≡ l
one_whole i [] zero n l o j h at also is too = absurd cc
one_whole i [] (suc k) n l o j h at also is too = absurd cc
one_whole i (m ∷ nodes) zero n zero o j h at also is too = refl
one_whole i (m ∷ nodes) zero n (suc l) o j h at also is too =
    let same : ◌≡◌ {A = Node} n m = cc in
    let taken = first_parts i m nodes j h (subst (λ x. has (parts_of x) j ≡ true) same is) in
    absurd (part_no_root (suc i) nodes l o j h.1 also too (has_take (node_part_count m) (roots (suc i) (map node_part_count nodes)) j taken))
one_whole i (m ∷ nodes) (suc k) n zero o j h at also is too =
    let same : ◌≡◌ {A = Node} o m = cc in
    let taken = first_parts i m nodes j h (subst (λ x. has (parts_of x) j ≡ true) same too) in
    absurd (part_no_root (suc i) nodes k n j h.1 at is (has_take (node_part_count m) (roots (suc i) (map node_part_count nodes)) j taken))
one_whole i (m ∷ nodes) (suc k) n (suc l) o j h at also is too = ap suc (one_whole (suc i) nodes k n l o j h.1 at also is too)

-- and stands among its parts once
parts_once : (i : ℕ) (nodes : List Node) (k : ℕ) (n : Node) → InPreorder i nodes → slice_get nodes k ≡ Some n → AreOnce (parts_of n)
parts_once i [] zero n h at = absurd cc
parts_once i [] (suc k) n h at = absurd cc
parts_once i (m ∷ nodes) zero n h at =
    let same : m ≡ n = cc in
    let all = roots (suc i) (map node_part_count nodes) in
    subst (λ x. AreOnce (parts_of x)) same (subst AreOnce (sym h.0) (once_take (node_part_count m) all (roots_once (suc i) (map node_part_count nodes))))
parts_once i (m ∷ nodes) (suc k) n h at = parts_once (suc i) nodes k n h.1 at

-- ---- places in a sequence

record Place (parts : List ℕ) (q : ℕ) (rest : List ℕ) : Type 0 where
  place : ℕ
  there : slice_get parts place ≡ Some q
  after : rest ≡ drop (suc place) parts

place_of : {q : ℕ} {rest parts : List ℕ} → StandsBefore q rest parts → Place parts q rest
place_of here = record { place = zero; there = refl; after = refl }
place_of (further stands) = let later = place_of stands in record { place = suc later.place; there = later.there; after = later.after }

stands_once : {q : ℕ} {rest others parts : List ℕ} → AreOnce parts → StandsBefore q rest parts → StandsBefore q others parts → rest ≡ others
stands_once {q} {rest} {others} {parts} once one other =
    let first = place_of one in
    let second = place_of other in
    first.after ∙ (ap (λ k. drop (suc k) parts) (once_at parts first.place second.place q once first.there second.there) ∙ sym second.after)

has_standing : {q : ℕ} {rest parts : List ℕ} → StandsBefore q rest parts → has parts q ≡ true
has_standing {q} {rest} {parts} stands = let at = place_of stands in has_at parts at.place q at.there

-- the next part
pub stands_next : {q r : ℕ} {rest parts : List ℕ} → StandsBefore q (r ∷ rest) parts → StandsBefore r rest parts
stands_next here = further here
stands_next (further stands) = further (stands_next stands)

-- ---- what follows a part of a sequence

chain_parts : {o s : ℕ} {n : Node} → IsChain o s n → (has (parts_of n) o ≡ true) × (has (parts_of n) s ≡ true)
chain_parts {o} {s} follow.chain = (has_first (s ∷ []) o, has_after (s ∷ []) o s (has_first [] s))

chain_no_seq : {o s : ℕ} {parts : List ℕ} → IsChain o s (form.Seq parts) → ⊥
chain_no_seq is = elim is [ ]

only_part : {q : ℕ} {n : Node} → HasOnly q n → has (parts_of n) q ≡ true
only_part {q} follow.around = has_first [] q

only_no_seq : {q : ℕ} {parts : List ℕ} → HasOnly q (form.Seq parts) → ⊥
only_no_seq is = elim is [ ]

module _ (g : Grammar) (grammar : IsGrammar g) (p : ℕ) (parts : List ℕ) (at : slice_get g.nodes p ≡ Some (form.Seq parts)) where
  same_place : (q l : ℕ) (o : Node) → has parts q ≡ true → slice_get g.nodes l ≡ Some o → has (parts_of o) q ≡ true → p ≡ l
  same_place q l o is also too = one_whole 0 g.nodes p (form.Seq parts) l o q grammar.preorder at also is too

  same_node : (q l : ℕ) (o : Node) → has parts q ≡ true → slice_get g.nodes l ≡ Some o → has (parts_of o) q ≡ true → o ≡ form.Seq parts
  same_node q l o is also too = same_Some o (form.Seq parts) (sym also ∙ (ap (slice_get g.nodes) (sym (same_place q l o is also too)) ∙ at))

  no_body : (r : ℕ) (named : declared.Rule) → slice_get g.rules r ≡ Some named → has parts (rule_body named) ≡ true → ⊥
  no_body r named is body =
      part_no_root 0 g.nodes p (form.Seq parts) (rule_body named) grammar.preorder at body
      (ap (λ xs. has xs (rule_body named)) (sym grammar.bodies) ∙ has_at (map rule_body g.rules) r (rule_body named) (slice_get-map rule_body g.rules r ∙ ap (option_map rule_body) is))

  -- it begins what stands after the part, or follows the sequence if all of that is nullable
  pub follow_comes : {start : StartKind} {q : ℕ} {rest : List ℕ} → StandsBefore q rest parts → IsFollow g start q → IsFirstOf g start rest ⊎ (AllNullable g rest × IsFollow g start p)
  follow_comes stands (follow.at_end {named} e) = absurd (no_body g.start named e (has_standing stands))
  follow_comes stands (follow.used {named = named} also e f) = absurd (no_body _ named e (has_standing stands))
  follow_comes {start} {q} stands (follow.next l {parts = others} {rest = after} also standing f) =
      let node = same_node q l (form.Seq others) (has_standing stands) also (has_standing standing) in
      let same : others ≡ parts = cc in
      inl (subst (IsFirstOf g start) (stands_once (parts_once 0 g.nodes p (form.Seq parts) grammar.preorder at) (subst (StandsBefore q after) same standing) stands) f)
  follow_comes {start} {q} stands (follow.last {p = l} {parts = others} {rest = after} also standing all f) =
      let node = same_node q l (form.Seq others) (has_standing stands) also (has_standing standing) in
      let same : others ≡ parts = cc in
      let rests = stands_once (parts_once 0 g.nodes p (form.Seq parts) grammar.preorder at) (subst (StandsBefore q after) same standing) stands in
      inr (subst (AllNullable g) rests all, subst (IsFollow g start) (sym (same_place q l (form.Seq others) (has_standing stands) also (has_standing standing))) f)
  follow_comes {start} {q} stands (follow.alternative {p = l} {parts = others} k also e f) =
      let node = same_node q l (form.Choice others) (has_standing stands) also (has_at others k q e) in absurd cc
  follow_comes {start} {q} stands (follow.next_round l also f) =
      let node = same_node q l (form.Many q) (has_standing stands) also (has_first [] q) in absurd cc
  follow_comes {start} {q} stands (follow.last_round {p = l} also f) =
      let node = same_node q l (form.Many q) (has_standing stands) also (has_first [] q) in absurd cc
  follow_comes {start} {q} stands (follow.next_link l {s = s} {n = n} also chain f) =
      absurd (chain_no_seq (subst (IsChain q s) (same_node q l n (has_standing stands) also (chain_parts chain).0) chain))
  follow_comes {start} {q} stands (follow.last_link {p = l} {s = s} {n = n} also chain f) =
      absurd (chain_no_seq (subst (IsChain q s) (same_node q l n (has_standing stands) also (chain_parts chain).0) chain))
  follow_comes {start} {q} stands (follow.operand l {o = o} {n = n} also chain f) =
      absurd (chain_no_seq (subst (IsChain o q) (same_node q l n (has_standing stands) also (chain_parts chain).1) chain))
  follow_comes {start} {q} stands (follow.over_operand l {o = o} {n = n} also chain null f) =
      absurd (chain_no_seq (subst (IsChain o q) (same_node q l n (has_standing stands) also (chain_parts chain).1) chain))
  follow_comes {start} {q} stands (follow.last_operand {p = l} {o = o} {n = n} also chain null f) =
      absurd (chain_no_seq (subst (IsChain o q) (same_node q l n (has_standing stands) also (chain_parts chain).1) chain))
  follow_comes {start} {q} stands (follow.operator l {builders = builders} also is) =
      let node = same_node q l (form.Expression builders q) (has_standing stands) also (has_first [] q) in absurd cc
  follow_comes {start} {q} stands (follow.last_term {p = l} {builders = builders} also f) =
      let node = same_node q l (form.Expression builders q) (has_standing stands) also (has_first [] q) in absurd cc
  follow_comes {start} {q} stands (follow.only {p = l} {n = n} also only f) =
      absurd (only_no_seq (subst (HasOnly q) (same_node q l n (has_standing stands) also (only_part only)) only))
