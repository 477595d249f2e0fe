-- Each edge leads to a set that contains the one that it comes from.
use Rattle.std.proofs.Common.{◌≡◌, ℕ, zero, suc, ◌+◌, ◌<◌, Bool, true, false, cond, inl, inr, List, [], ◌∷◌, ◌++◌, Option, Some, None, slice_get, length, replicate, refl, sym, ap, subst, ◌∙◌, arith}
use Rattle.std.specs.List.{AllByRecursion}
use Rattle.std.specs.Option.{option_map_or}
use Rattle.std.proofs.lemmas.Bool.{cases_lt, true≢false, lt-ltb, le-ltb}
use Rattle.std.proofs.lemmas.Option.{slice_get_within}
use Rattle.pg_grammar_form.specs.Forms.{Node, parts_of}
use Rattle.pg_grammar_value.specs.Grammar.{Grammar, IsGrammar, rule_body}
use Rattle.pg_grammar_form.specs.declared.form.Form.TheVariants as form
use Rattle.pg_grammar_form.specs.declared.form.Around.{Around}
use Rattle.pg_grammar_form.specs.declared.form.Around.TheVariants as kind
use Rattle.pg_grammar_value.specs.declared.grammar.Rule as declared
use Rattle.pg_start.specs.declared.kind.StartKind.{StartKind}
use Rattle.pg_sets.specs.First.{IsFirst, IsFirstOf}
use Rattle.pg_sets.specs.First as first_of
use Rattle.pg_sets.specs.Flows.{Flow, follow_of, flows_of_all, flows_of_some, flows_of_next, flows_after_parts, flows_of_alternatives, flows_of_chain, flows_of_only, around_flows, node_flows, with_flows, all_flows}
use Rattle.pg_sets.specs.Follow.{StandsBefore, IsChain, IsFollow}
use Rattle.pg_sets.specs.Follow as follow
use Rattle.pg_graph.specs.Marks.{is_marked}
use Rattle.pg_sets_nullable.specs.Nullable.{Nullable, AllNullable}
use Rattle.pg_sets_nullable.specs.Nullable as nullable_of
use Rattle.pg_sets_own.specs.OwnStarts.{IsKeyTry, MarksKeys}
use Rattle.pg_sets_nullable.specs.Reached.{ReachedIn, ReachedPart}
use Rattle.pg_sets_nullable.specs.Reached as reached
use Rattle.pg_graph.specs.Graphs.{has, numbers_at, IsReached}
use Rattle.pg_graph.specs.Graphs as walk
use Rattle.pg_sets.proofs.Flowing.{IsIn, here, further, in_cases, edge_cases, all_told}
use Rattle.pg_graph.proofs.Joining.{none_at}
use Rattle.pg_sets.proofs.Placing.{follow_comes, stands_next}
use Rattle.pg_grammar_form.proofs.Each.{all-get, all-weaker}
use Rattle.pg_grammar_value.proofs.Numbers.{parts_are_after, bodies_are_nodes}
use Rattle.pg_sets_nullable.proofs.Heading.{MarksNullable, again_shown}

-- the start is in the set with this number
pub record Holds (g : Grammar) (start : StartKind) (v : ℕ) : Type 0 where
  pub first : v < length g.nodes → IsFirst g start v
  pub follow : (q : ℕ) → q < length g.nodes → v ≡ length g.nodes + q → IsFollow g start q

-- the number of the follow set of a node that is there
pub follow_is : (count p : ℕ) → p < count → follow_of count p ≡ count + p
follow_is count p below = ap (λ b. cond b (count + p) (count + count)) (lt-ltb p count below)

-- ---- to and from sets

pub to_first : (g : Grammar) (start : StartKind) (p : ℕ) → p < length g.nodes → IsFirst g start p → Holds g start p
to_first g start p below is = record { first = λ inside. is; follow = λ q few e. absurd (omega arith) }

pub to_follow : (g : Grammar) (start : StartKind) (p : ℕ) → (p < length g.nodes → IsFollow g start p) → Holds g start (follow_of (length g.nodes) p)
to_follow g start p is =
    elim (cases_lt p (length g.nodes)) [
      | inl below ↦
          let e = follow_is (length g.nodes) p below in
          record {
            first = λ inside. absurd (omega arith);
            follow = λ q few same. let one : p ≡ q = omega arith in subst (IsFollow g start) one (is below);
          }
      | inr past ↦
          let e : follow_of (length g.nodes) p ≡ length g.nodes + length g.nodes = ap (λ b. cond b (length g.nodes + p) (length g.nodes + length g.nodes)) (le-ltb p (length g.nodes) past) in
          record { first = λ inside. absurd (omega arith); follow = λ q few same. absurd (omega arith) }
    ]

pub from_follow : (g : Grammar) (start : StartKind) (p : ℕ) → p < length g.nodes → Holds g start (follow_of (length g.nodes) p) → IsFollow g start p
from_follow g start p below holds = holds.follow p below (follow_is (length g.nodes) p below)

-- ---- the parts of sequences

abbrev Below : Grammar → List ℕ → Type 0
Below g parts = AllByRecursion (λ q. q < length g.nodes) parts

-- where a number stands among the parts
record HasPart (parts : List ℕ) (q : ℕ) : Type 0 where
  place : ℕ
  there : slice_get parts place ≡ Some q

module _ (g : Grammar) (start : StartKind) (nullable : List Bool) (on : MarksNullable g nullable) where
  -- from the first of some nodes
  some_sound : (parts : List ℕ) (to u x : ℕ) → Below g parts → (IsFirstOf g start parts → Holds g start to) → IsIn u x (flows_of_some nullable parts to)
      → Holds g start u → Holds g start x
  some_sound [] to u x below lead is from = elim is [ ]
  some_sound (q ∷ qs) to u x below lead here from = lead (first_of.here (from.first below.0))
  some_sound (q ∷ qs) to u x below lead (further is) from =
      go (is_marked nullable q) refl is (λ e i. some_sound qs to u x below.1 (λ f. lead (first_of.after ((on q).0 e) f)) i from)
    where
      go : (b : Bool) → is_marked nullable q ≡ b → IsIn u x (cond b (flows_of_some nullable qs to) [])
          → (is_marked nullable q ≡ true → IsIn u x (flows_of_some nullable qs to) → Holds g start x) → Holds g start x
      go true e i ih = ih e i
      go false e i ih = elim i [ ]

  -- and from another set after them
  all_sound : (parts : List ℕ) (after to u x : ℕ) → Below g parts → (IsFirstOf g start parts → Holds g start to)
      → (AllNullable g parts → Holds g start after → Holds g start to) → IsIn u x (flows_of_all nullable parts after to) → Holds g start u → Holds g start x
  all_sound [] after to u x below lead over here from = over nullable_of.none from
  all_sound [] after to u x below lead over (further is) from = elim is [ ]
  all_sound (q ∷ qs) after to u x below lead over here from = lead (first_of.here (from.first below.0))
  all_sound (q ∷ qs) after to u x below lead over (further is) from =
      go (is_marked nullable q) refl is
      (λ e i. all_sound qs after to u x below.1 (λ f. lead (first_of.after ((on q).0 e) f)) (λ all h. over (nullable_of.first ((on q).0 e) all) h) i from)
    where
      go : (b : Bool) → is_marked nullable q ≡ b → IsIn u x (cond b (flows_of_all nullable qs after to) [])
          → (is_marked nullable q ≡ true → IsIn u x (flows_of_all nullable qs after to) → Holds g start x) → Holds g start x
      go true e i ih = ih e i
      go false e i ih = elim i [ ]

  -- the first of a sequence's parts are those of the parts that are reached in it
  first_in : {parts : List ℕ} {R : Type 0} → IsFirstOf g start parts → ((q : ℕ) → ReachedIn g parts q → IsFirst g start q → R) → R
  first_in (first_of.here {part = q} is) then_so = then_so q reached.first is
  first_in (first_of.after null later) then_so = first_in later (λ q in_rest is. then_so q (reached.later null in_rest) is)

  -- from what stands next in a sequence
  next_sound : IsGrammar g → (p : ℕ) (whole : List ℕ) (q : ℕ) (qs : List ℕ) → slice_get g.nodes p ≡ Some (form.Seq whole) → StandsBefore q qs whole → Below g qs → p < length g.nodes
      → (u x : ℕ) → IsIn u x (flows_of_next nullable (length g.nodes) qs (follow_of (length g.nodes) p) (follow_of (length g.nodes) q)) → Holds g start u → Holds g start x
  next_sound grammar p whole q [] at stands below inside u x here from = to_follow g start q (λ few. follow.last at stands nullable_of.none (from_follow g start p inside from))
  next_sound grammar p whole q [] at stands below inside u x (further none) from = elim none [ ]
  next_sound grammar p whole q (r ∷ rs) at stands below inside u x here from = to_follow g start q (λ few. follow.next p at stands (first_of.here (from.first below.0)))
  next_sound grammar p whole q (r ∷ rs) at stands below inside u x (further is) from = go (is_marked nullable r) refl is
    where
      over : {u x : ℕ} → Nullable g r → IsIn u x ((follow_of (length g.nodes) r, follow_of (length g.nodes) q) ∷ []) → Holds g start u → Holds g start x
      over null here h =
          to_follow g start q
          (λ few.
          elim (follow_comes g grammar p whole at (stands_next stands) (from_follow g start r below.0 h)) [
            | inl first ↦ follow.next p at stands (first_of.after null first)
            | inr last ↦ follow.last at stands (nullable_of.first null last.0) last.1
          ])
      over null (further none) h = elim none [ ]

      go : (b : Bool) → is_marked nullable r ≡ b → IsIn u x (cond b ((follow_of (length g.nodes) r, follow_of (length g.nodes) q) ∷ []) []) → Holds g start x
      go true e i = over ((on r).0 e) i from
      go false e i = elim i [ ]

  -- after the parts of a sequence
  past_sound : IsGrammar g → (p : ℕ) (whole parts : List ℕ) → slice_get g.nodes p ≡ Some (form.Seq whole)
      → ((q : ℕ) (rest : List ℕ) → StandsBefore q rest parts → StandsBefore q rest whole) → Below g parts → p < length g.nodes → (u x : ℕ)
      → IsIn u x (flows_after_parts nullable (length g.nodes) p parts) → Holds g start u → Holds g start x
  past_sound grammar p whole [] at tail below inside u x is from = elim is [ ]
  past_sound grammar p whole (q ∷ qs) at tail below inside u x is from =
      elim (in_cases u x (flows_of_next nullable (length g.nodes) qs (follow_of (length g.nodes) p) (follow_of (length g.nodes) q)) (flows_after_parts nullable (length g.nodes) p qs) is) [
        | inl one ↦ next_sound grammar p whole q qs at (tail q qs follow.here) below.1 inside u x one from
        | inr later ↦ past_sound grammar p whole qs at (λ r rest s. tail r rest (follow.further s)) below.1 inside u x later from
      ]

  -- of alternatives
  alternatives_sound : (p : ℕ) (whole parts : List ℕ) → slice_get g.nodes p ≡ Some (form.Choice whole)
      → ((k q : ℕ) → slice_get parts k ≡ Some q → HasPart whole q) → Below g parts → p < length g.nodes → (u x : ℕ)
      → IsIn u x (flows_of_alternatives (length g.nodes) p parts) → Holds g start u → Holds g start x
  alternatives_sound p whole [] at tail below inside u x is from = elim is [ ]
  alternatives_sound p whole (q ∷ qs) at tail below inside u x here from =
      let has_part = tail zero q refl in
      to_first g start p inside (first_of.part at no_key_choice (reached.choice has_part.place has_part.there) (from.first below.0))
    where
      no_key_choice : {parts : List ℕ} → IsKeyTry g (form.Choice parts) → ⊥
      no_key_choice is = elim is [ ]
  alternatives_sound p whole (q ∷ qs) at tail below inside u x (further here) from =
      let has_part = tail zero q refl in
      to_follow g start q (λ few. follow.alternative has_part.place at has_part.there (from_follow g start p inside from))
  alternatives_sound p whole (q ∷ qs) at tail below inside u x (further (further is)) from =
      alternatives_sound p whole qs at (λ k r e. tail (suc k) r e) below.1 inside u x is from

  -- of the one part of a form
  only_sound : (p q u x : ℕ) → (IsFirst g start q → IsFirst g start p) → (IsFollow g start p → IsFollow g start q) → q < length g.nodes → p < length g.nodes
      → IsIn u x (flows_of_only (length g.nodes) p q) → Holds g start u → Holds g start x
  only_sound p q u x lead back below inside here from = to_first g start p inside (lead (from.first below))
  only_sound p q u x lead back below inside (further here) from = to_follow g start q (λ few. back (from_follow g start p inside from))
  only_sound p q u x lead back below inside (further (further is)) from = elim is [ ]

  -- of a chain
  chain_key : {o s : ℕ} {n : Node} → IsChain o s n → IsKeyTry g n → ⊥
  chain_key follow.chain is = elim is [ ]

  chain_part : {o s q : ℕ} {n : Node} → IsChain o s n → ReachedIn g (o ∷ s ∷ []) q → ReachedPart g n q
  chain_part follow.chain r = reached.chain (again_shown r)

  only_first : {o : ℕ} → IsFirstOf g start (o ∷ []) → IsFirst g start o
  only_first (first_of.here is) = is
  only_first (first_of.after null none) = elim none [ ]

  chain_sound : (p o s : ℕ) (n : Node) → slice_get g.nodes p ≡ Some n → IsChain o s n → o < length g.nodes → s < length g.nodes → p < length g.nodes → (u x : ℕ)
      → IsIn u x (flows_of_chain nullable (length g.nodes) p o s) → Holds g start u → Holds g start x
  chain_sound p o s n at chain operand separator inside u x is from =
      let count = length g.nodes in
      let after = follow_of count p in
      let after_operand = follow_of count o in
      let after_separator = follow_of count s in
      let a = flows_of_some nullable (o ∷ s ∷ []) p in
      let b = flows_of_some nullable (s ∷ o ∷ []) after_operand in
      let c = flows_of_all nullable (o ∷ []) after after_separator in
      let d : List Flow = (after, after_operand) ∷ [] in
      let e = cond (is_marked nullable o) (flows_of_some nullable (s ∷ []) after_separator) [] in
      elim (in_cases u x (a ++ b ++ c ++ d) e is) [
        | inr last ↦
            again (is_marked nullable o) refl last
        | inl four ↦
            elim (in_cases u x (a ++ b ++ c) d four) [
              | inr link ↦ linked link
              | inl three ↦
                  elim (in_cases u x (a ++ b) c three) [
                    | inr third ↦
                        all_sound (o ∷ []) after after_separator u x (operand, tt) (λ f. to_follow g start s (λ few. follow.operand p at chain (only_first f)))
                        (λ all h. to_follow g start s (λ few. follow.last_operand at chain (head_nullable all) (from_follow g start p inside h))) third from
                    | inl two ↦
                        elim (in_cases u x a b two) [
                          | inl first ↦
                              some_sound (o ∷ s ∷ []) p u x (operand, (separator, tt))
                              (λ f. to_first g start p inside (first_in f (λ q r i. first_of.part at (chain_key chain) (chain_part chain r) i))) first from
                          | inr second ↦
                              some_sound (s ∷ o ∷ []) after_operand u x (separator, (operand, tt)) (λ f. to_follow g start o (λ few. follow.next_link p at chain f)) second from
                        ]
                  ]
            ]
      ]
    where
      head_nullable : {q : ℕ} {qs : List ℕ} → AllNullable g (q ∷ qs) → Nullable g q
      head_nullable (nullable_of.first null all) = null

      linked : IsIn u x ((follow_of (length g.nodes) p, follow_of (length g.nodes) o) ∷ []) → Holds g start x
      linked link = one link from
        where
          one : {u x : ℕ} → IsIn u x ((follow_of (length g.nodes) p, follow_of (length g.nodes) o) ∷ []) → Holds g start u → Holds g start x
          one here h = to_follow g start o (λ few. follow.last_link at chain (from_follow g start p inside h))
          one (further none) h = elim none [ ]

      again : (b : Bool) → is_marked nullable o ≡ b → IsIn u x (cond b (flows_of_some nullable (s ∷ []) (follow_of (length g.nodes) s)) []) → Holds g start x
      again true e i =
          some_sound (s ∷ []) (follow_of (length g.nodes) s) u x (separator, tt)
          (λ f. to_follow g start s (λ few. follow.over_operand p at chain ((on o).0 e) (first_of.here (only_first f)))) i from
      again false e i = elim i [ ]

-- ---- the edges of a node

module _ (g : Grammar) (start : StartKind) (nullable keys : List Bool) (on : MarksNullable g nullable) (tries : MarksKeys g keys) (grammar : IsGrammar g) where
  pub parts_below : (p : ℕ) (n : Node) → slice_get g.nodes p ≡ Some n → Below g (parts_of n)
  parts_below p n at = all-weaker (λ q. (p < q) × (q < length g.nodes)) (λ q. q < length g.nodes) (λ q h. h.1) (parts_of n) (parts_are_after g.nodes p n grammar.preorder at)

  only_at : (p q : ℕ) (n : Node) → slice_get g.nodes p ≡ Some n → (IsKeyTry g n → ⊥) → ReachedPart g n q → (IsFollow g start p → IsFollow g start q) → q < length g.nodes
      → (u x : ℕ) → IsIn u x (flows_of_only (length g.nodes) p q) → Holds g start u → Holds g start x
  only_at p q n at no_key reaches back below u x is from =
      only_sound g start nullable on p q u x (λ i. first_of.part at no_key reaches i) back below (slice_get_within g.nodes p n at) is from

  try_sound : (p q : ℕ) → slice_get g.nodes p ≡ Some (form.Around kind.Try q) → q < length g.nodes → (b : Bool) → is_marked keys p ≡ b → (u x : ℕ)
      → IsIn u x (cond b ((follow_of (length g.nodes) p, follow_of (length g.nodes) q) ∷ []) (flows_of_only (length g.nodes) p q)) → Holds g start u → Holds g start x
  try_sound p q at below true e u x here from =
      to_follow g start q (λ few. follow.only at follow.around (from_follow g start p (slice_get_within g.nodes p (form.Around kind.Try q) at) from))
  try_sound p q at below true e u x (further none) from = elim none [ ]
  try_sound p q at below false e u x is from =
      only_at p q (form.Around kind.Try q) at (λ k. true≢false (sym ((tries p (form.Around kind.Try q) at).1 k) ∙ e)) reached.around (λ f. follow.only at follow.around f) below u x is from

  around_sound : (around : Around) (p q : ℕ) → slice_get g.nodes p ≡ Some (form.Around around q) → q < length g.nodes → (u x : ℕ)
      → IsIn u x (around_flows keys (length g.nodes) p around q) → Holds g start u → Holds g start x
  around_sound kind.Try p q at below u x is from = try_sound p q at below (is_marked keys p) refl u x is from
  around_sound k p q at below u x is from = only_at p q (form.Around k q) at (λ k. elim k [ ]) reached.around (λ f. follow.only at follow.around f) below u x is from

  use_sound : (p r : ℕ) → slice_get g.nodes p ≡ Some (form.Rule r) → (found : Option declared.Rule) → slice_get g.rules r ≡ found → (u x : ℕ)
      → IsIn u x (option_map_or (λ rule. flows_of_only (length g.nodes) p (rule_body rule)) found []) → Holds g start u → Holds g start x
  use_sound p r at None e u x is from = elim is [ ]
  use_sound p r at (Some named) e u x is from =
      let below : rule_body named < length g.nodes = all-get (λ rule. rule_body rule < length g.nodes) g.rules r named (bodies_are_nodes g.rules g.nodes grammar.bodies) e in
      only_sound g start nullable on p (rule_body named) u x (λ i. first_of.rule at e i) (λ f. follow.used at e f) below (slice_get_within g.nodes p (form.Rule r) at) is from

  -- each edge that a node gives leads to a set that contains the edge's source
  pub node_sound : (p : ℕ) (n : Node) → slice_get g.nodes p ≡ Some n → (u x : ℕ) → IsIn u x (node_flows g.rules nullable keys (length g.nodes) p n)
      → Holds g start u → Holds g start x
  node_sound p (form.Leaf leaf) at u x is from = elim is [ ]
  node_sound p (form.Seq parts) at u x is from =
      let inside = slice_get_within g.nodes p (form.Seq parts) at in
      let below = parts_below p (form.Seq parts) at in
      elim (in_cases u x (flows_of_some nullable parts p) (flows_after_parts nullable (length g.nodes) p parts) is) [
        | inl first ↦
            some_sound g start nullable on parts p u x below
            (λ f. to_first g start p inside (first_in g start nullable on f (λ q r i. first_of.part at (λ k. elim k [ ]) (reached.seq r) i))) first from
        | inr after ↦ past_sound g start nullable on grammar p parts parts at (λ q rest s. s) below inside u x after from
      ]
  node_sound p (form.Choice parts) at u x is from =
      alternatives_sound g start nullable on p parts parts at (λ k q e. record { place = k; there = e }) (parts_below p (form.Choice parts) at)
      (slice_get_within g.nodes p (form.Choice parts) at) u x is from
  node_sound p (form.Many q) at u x here from =
      to_follow g start q (λ few. follow.next_round p at (from.first (parts_below p (form.Many q) at).0))
  node_sound p (form.Many q) at u x (further is) from =
      only_at p q (form.Many q) at (λ k. elim k [ ]) reached.many (λ f. follow.last_round at f) (parts_below p (form.Many q) at).0 u x is from
  node_sound p (form.Chain side used o s) at u x is from =
      let below = parts_below p (form.Chain side used o s) at in
      chain_sound g start nullable on p o s (form.Chain side used o s) at follow.chain below.0 below.1.0 (slice_get_within g.nodes p (form.Chain side used o s) at) u x is from
  node_sound p (form.Rule r) at u x is from = use_sound p r at (slice_get g.rules r) refl u x is from
  node_sound p (form.Expression builders q) at u x is from =
      only_at p q (form.Expression builders q) at (λ k. elim k [ ]) reached.expression (λ f. follow.last_term at f) (parts_below p (form.Expression builders q) at).0 u x is from
  node_sound p (form.Around around q) at u x is from = around_sound around p q at (parts_below p (form.Around around q) at).0 u x is from

  -- what is reached from sets that hold the start holds it
  pub flow_sound : (graph : List (List ℕ)) (roots : List ℕ)
      → graph ≡ with_flows (replicate (length g.nodes + length g.nodes) []) (all_flows g.rules nullable keys (length g.nodes) 0 g.nodes)
      → ((v : ℕ) → has roots v ≡ true → Holds g start v) → {v : ℕ} → IsReached graph roots v → Holds g start v
  flow_sound graph roots is hold (walk.root {v} among below) = hold v among
  flow_sound graph roots is hold (walk.onward {w} {v} from edge below) =
      let before = flow_sound graph roots is hold from in
      let flows = all_flows g.rules nullable keys (length g.nodes) 0 g.nodes in
      let empty : List (List ℕ) = replicate (length g.nodes + length g.nodes) [] in
      elim (edge_cases empty flows w v (ap (λ gr. has (numbers_at gr w) v) (sym is) ∙ edge)) [
        | inl none ↦ absurd (true≢false (sym none ∙ ap (λ xs. has xs v) (none_at (length g.nodes + length g.nodes) w)))
        | inr told ↦
            let tells = all_told g.rules nullable keys (length g.nodes) 0 g.nodes w v told in
            let zeroth : 0 + tells.place ≡ tells.place = omega arith in
            node_sound tells.place tells.node tells.there w v
            (subst (λ q. IsIn w v (node_flows g.rules nullable keys (length g.nodes) q tells.node)) zeroth tells.told) before
      ]
