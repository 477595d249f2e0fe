-- Claims that hold are no less than what is so.
use Rattle.std.proofs.Common.{◌≡◌, ◌≤◌, ◌<◌, ℕ, zero, suc, max, Bool, true, false, if◌then◌else◌, List, [], ◌∷◌, Option, Some, None, slice_get, refl, ap, ◌∙◌, subst, arith}
use Rattle.std.specs.Option.{option_map_or}
use Rattle.pg_certificate.specs.declared.certificate.RuleClaim.{RuleClaim}
use Rattle.pg_predict_costs.specs.Steps.{number_at}
use Rattle.pg_grammar_form.specs.Forms.{Node}
use Rattle.pg_grammar_form.specs.declared.form.Form.TheVariants as form
use Rattle.pg_graph.specs.Marks.{is_marked}
use Rattle.pg_sets_nullable.specs.NodeMarks.{looks_nullable}
use Rattle.pg_sets_nullable.specs.Nullable.{Nullable}
use Rattle.pg_sets_nullable.specs.Parts.{up_to_unmarked}
use Rattle.pg_sets_nullable.specs.Ranks.{Chain, head, heads, ReachesCycle, on_cycle, leads_to}
use Rattle.pg_sets_nullable.specs.Reached as reached_by
use Rattle.pg_sets_nullable.specs.Reached.{ReachedIn, first, later, ReachedPart, seq, choice, many, expression, ReachesUse, here, through, Heads}
use Rattle.pg_sets_nullable.proofs.Heading.{again_left}
use Rattle.pg_sets_nullable.proofs.NullableMarks.{ShowNoMore, marked}
use Rattle.pg_grammar_value.specs.Grammar.{Grammar}
use Rattle.pg_grammar_value.specs.declared.grammar.Rule.{Rule}
use Rattle.pg_certificate_verify.specs.Claimed.{claimed_nullable, claimed_rank}
use Rattle.pg_certificate_verify.specs.Holding.{NullableHolds, RankHolds}
use Rattle.pg_certificate_verify.specs.Nullable.{nullable_by, AreNullableBy}
use Rattle.pg_certificate_verify.specs.Rank.{greatest_of, rank_by, AreRanksBy}

-- ---- nullable

body_claimed : (marks : List Bool) (found : Option Rule) (claimed : Bool) → ((rule : Rule) → found ≡ Some rule → is_marked marks rule.body ≡ true → claimed ≡ true)
    → option_map_or (λ rule. is_marked marks rule.body) found false ≡ true → claimed ≡ true
body_claimed marks None claimed holds e = cc
body_claimed marks (Some rule) claimed holds e = holds rule refl e

says_so : (g : Grammar) (claims : List RuleClaim) (marks : List Bool) → NullableHolds g claims marks → (n : Node) → looks_nullable g.rules marks n ≡ true
    → nullable_by claims (is_marked marks) n ≡ true
says_so g claims marks holds (form.Leaf leaf) e = e
says_so g claims marks holds (form.Seq parts) e = e
says_so g claims marks holds (form.Choice parts) e = e
says_so g claims marks holds (form.Many part) e = e
says_so g claims marks holds (form.Chain side used operand separator) e = e
says_so g claims marks holds (form.Rule r) e = body_claimed marks (slice_get g.rules r) (claimed_nullable claims r) (holds r) e
says_so g claims marks holds (form.Expression builders term) e = e
says_so g claims marks holds (form.Around around part) e = e

-- each nullable node is marked
pub nullable_enough : (g : Grammar) (claims : List RuleClaim) (marks : List Bool) → AreNullableBy g claims marks → NullableHolds g claims marks
    → (p : ℕ) → Nullable g p → is_marked marks p ≡ true
nullable_enough g claims marks are holds p nullable =
    let closed : ShowNoMore g marks = λ q n at looks. are.each q n at ∙ says_so g claims marks holds n looks in
    marked marks closed nullable

-- ---- ranks

-- marks that are on all nullable nodes
abbrev OnAll : Grammar → List Bool → Type 0
OnAll g marks = (p : ℕ) → Nullable g p → is_marked marks p ≡ true

in_greatest : {g : Grammar} (marks : List Bool) (f : ℕ → ℕ) {parts : List ℕ} {q : ℕ} → OnAll g marks → ReachedIn g parts q → f q ≤ greatest_of f (up_to_unmarked marks parts)
in_greatest marks f on (first {part} {parts}) = omega arith
in_greatest marks f on (later {part} {reached} {parts} nullable is) =
    let further : greatest_of f (up_to_unmarked marks (part ∷ parts)) ≡ max (f part) (greatest_of f (up_to_unmarked marks parts)) =
    ap (λ b. max (f part) (greatest_of f (if b then up_to_unmarked marks parts else []))) (on part nullable) in
    let rest = in_greatest marks f on is in
    omega (arith, further, rest)

among_greatest : (f : ℕ → ℕ) (parts : List ℕ) (k q : ℕ) → slice_get parts k ≡ Some q → f q ≤ greatest_of f parts
among_greatest f [] k q at = cc
among_greatest f (p ∷ ps) zero q at = let same : p ≡ q = cc in subst (λ x. f x ≤ greatest_of f (p ∷ ps)) same (omega arith)
among_greatest f (p ∷ ps) (suc k) q at = let rest = among_greatest f ps k q at in omega (arith, rest)

part_asks : {g : Grammar} (claims : List RuleClaim) (marks : List Bool) (f : ℕ → ℕ) {n : Node} {q : ℕ} → OnAll g marks → ReachedPart g n q → f q ≤ rank_by claims marks f n
part_asks claims marks f on (seq reached) = in_greatest marks f on reached
part_asks claims marks f on (choice {parts} k {part} at) = among_greatest f parts k part at
part_asks claims marks f on (reached_by.chain r) = in_greatest marks f on (again_left r)
part_asks claims marks f on many = omega arith
part_asks claims marks f on expression = omega arith
part_asks claims marks f on reached_by.around = omega arith

use_asks : {g : Grammar} (claims : List RuleClaim) (marks : List Bool) (ranks : List ℕ) {p r : ℕ} → OnAll g marks → AreRanksBy g claims marks ranks → ReachesUse g p r
    → claimed_rank claims r < number_at ranks p
use_asks claims marks ranks on are (here {p} {r} at) = let is = are.each p (form.Rule r) at in omega (arith, is)
use_asks claims marks ranks on are (through {p} {part} {r} {n} at reached reaches) =
    let is = are.each p n at in
    let up = part_asks claims marks (number_at ranks) on reached in
    let inner = use_asks claims marks ranks on are reaches in
    omega (arith, is, up, inner)

-- the rank falls from a rule to each of its heads
pub ranks_fall : (g : Grammar) (claims : List RuleClaim) (marks : List Bool) (ranks : List ℕ) → AreNullableBy g claims marks → NullableHolds g claims marks
    → AreRanksBy g claims marks ranks → RankHolds g claims ranks → (a b : ℕ) → Heads g a b → claimed_rank claims b < claimed_rank claims a
ranks_fall g claims marks ranks are holds ranked high a b h =
    let on = nullable_enough g claims marks are holds in
    let asks = use_asks claims marks ranks on ranked h.reached in
    let enough = high a h.rule h.is_rule in
    omega (arith, asks, enough)

-- so no chain of heads leads back
chain_falls : {g : Grammar} (claims : List RuleClaim) {a b : ℕ} → ((c d : ℕ) → Heads g c d → claimed_rank claims d < claimed_rank claims c) → Chain g a b
    → claimed_rank claims b < claimed_rank claims a
chain_falls claims {a} {b} falls (head h) = falls a b h
chain_falls claims {a} falls (heads {b = b} h rest) = let one = falls a b h in let more = chain_falls claims falls rest in omega (arith, one, more)

pub no_cycle : {g : Grammar} (claims : List RuleClaim) {a : ℕ} → ((c d : ℕ) → Heads g c d → claimed_rank claims d < claimed_rank claims c) → ReachesCycle g a → ⊥
no_cycle claims falls (on_cycle chain) = let less = chain_falls claims falls chain in absurd (omega (arith, less))
no_cycle claims falls (leads_to h rest) = no_cycle claims falls rest
