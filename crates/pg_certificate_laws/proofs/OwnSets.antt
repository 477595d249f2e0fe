-- The sets of nodes by a grammar's own claims are the grammar's.
use Rattle.std.proofs.Common.{◌≡◌, ◌<◌, ℕ, Bool, List, [], Some, slice_get, length, refl, sym, ap, ◌∙◌, subst}
use Rattle.std.specs.Prelude.{◌↔◌}
use Rattle.std.specs.List.{AllByRecursion}
use Rattle.pg_graph_bits.specs.Numbers.{set_at}
use Rattle.pg_certificate.specs.Fitting.{FitsClaim}
use Rattle.pg_certificate.specs.declared.certificate.RuleClaim.{RuleClaim}
use Rattle.pg_sets_own.specs.Listed.{IsListed}
use Rattle.pg_sets_own.specs.declared.listed.ListedStart.{ListedStart}
use Rattle.pg_predict.proofs.Numbered.{listed_once}
use Rattle.pg_sets.specs.Sets.{HasStart}
use Rattle.pg_grammar_value.specs.Grammar.{Grammar, IsGrammar}
use Rattle.pg_certificate_verify.specs.First.{IsFirstBy}
use Rattle.pg_certificate_verify.specs.Follow.{IsFollowBy}
use Rattle.pg_certificate_verify.specs.Nullable.{AreNullableBy}
use Rattle.pg_certificate_verify.specs.NodeSets.{HasListed, NodeSets, AreNodeSets}
use Rattle.pg_certificate_laws.specs.Own.{AreOwnClaims}
use Rattle.pg_certificate_laws.proofs.Making.{listed_from, listed_long, listed_at}
use Rattle.pg_certificate_laws.proofs.OwnBack.{first_back, follow_back}
use Rattle.pg_certificate_laws.proofs.OwnClaims.{AreExact, first_so, follow_so}
use Rattle.pg_certificate_laws.proofs.OwnClosed.{first_named, follow_named}
use Rattle.pg_certificate_laws.proofs.OwnFaultless.{fits}
use Rattle.pg_certificate_laws.proofs.OwnHolds.{exact}

module _ (g : Grammar) (claims : List RuleClaim) (grammar : IsGrammar g) (own : AreOwnClaims g claims) (marks : List Bool) (are : AreNullableBy g claims marks) where
  all : AreExact g claims
  all = exact g claims grammar own

  fit : AllByRecursion (FitsClaim g) claims
  fit = fits g claims grammar own

  abbrev starts : List ListedStart
  starts = own.sets.starts

  abbrev firsts : ℕ → List Bool
  firsts p = set_at own.sets.firsts p

  abbrev follows : ℕ → List Bool
  follows p = set_at own.sets.follows p

  named : (k : ℕ) (x : ListedStart) → slice_get starts k ≡ Some x → IsListed g x
  named = own.are_sets.start_sets.listed

  -- ---- listed starts of the grammar's sets

  has_start : (set : List Bool) (listed : ListedStart) → HasListed starts set listed → HasStart starts set listed.start
  has_start set listed h = record { number = h.number; listed = listed; member = h.member; there = h.there; same = refl }

  has_listed : (set : List Bool) (listed : ListedStart) → IsListed g listed → HasStart starts set listed.start → HasListed starts set listed
  has_listed set listed is h =
      let same : h.listed ≡ listed = listed_once g h.listed listed (named h.number h.listed h.there) is h.same in
      record { number = h.number; there = h.there ∙ ap Some same; member = h.member }

  is_named : (set : List Bool) (listed : ListedStart) → HasListed starts set listed → IsListed g listed
  is_named set listed h = named h.number listed h.there

  -- ---- nodes

  first_same : (p : ℕ) (listed : ListedStart) → p < length g.nodes → HasListed starts (firsts p) listed ↔ IsFirstBy g claims marks listed p
  first_same p listed inside = (
    λ h. first_back g grammar claims all fit marks are listed (is_named (firsts p) listed h) ((own.are_sets.start_sets.first p listed.start inside).0 (has_start (firsts p) listed h)),
    λ is. has_listed (firsts p) listed (first_named is) ((own.are_sets.start_sets.first p listed.start inside).1 (first_so g grammar claims all marks are is)),
  )

  follow_same : (p : ℕ) (listed : ListedStart) → p < length g.nodes → HasListed starts (follows p) listed ↔ IsFollowBy g claims marks listed p
  follow_same p listed inside = (
    λ h. follow_back g grammar claims all fit marks are listed (is_named (follows p) listed h) ((own.are_sets.start_sets.follow p listed.start inside).0 (has_start (follows p) listed h)) refl,
    λ is. has_listed (follows p) listed (follow_named is) ((own.are_sets.start_sets.follow p listed.start inside).1 (follow_so g grammar claims all marks are is)),
  )

  -- ---- all of them

  abbrev node_sets : NodeSets
  node_sets = record { starts = starts; firsts = listed_from firsts (length g.nodes); follows = listed_from follows (length g.nodes) }

  -- the same of another set that is this one
  of_same : {Is : Type 0} (set other : List Bool) (listed : ListedStart) → other ≡ set → HasListed starts set listed ↔ Is → HasListed starts other listed ↔ Is
  of_same set other listed same holds = (λ h. holds.0 (subst (λ s. HasListed starts s listed) same h), λ h. subst (λ s. HasListed starts s listed) (sym same) (holds.1 h))

  are_node_sets : AreNodeSets g claims marks node_sets
  are_node_sets = record {
    ordered = own.are_sets.start_sets.ordered;
    named = named;
    long = listed_long firsts (length g.nodes);
    follow_long = listed_long follows (length g.nodes);
    first = λ p listed inside. of_same (firsts p) (set_at node_sets.firsts p) listed (listed_at firsts (length g.nodes) p [] inside) (first_same p listed inside);
    follow = λ p listed inside. of_same (follows p) (set_at node_sets.follows p) listed (listed_at follows (length g.nodes) p [] inside) (follow_same p listed inside);
    first_limit = λ p inside. ap length (listed_at firsts (length g.nodes) p [] inside) ∙ own.are_sets.start_sets.first_limit p inside;
    follow_limit = λ p inside. ap length (listed_at follows (length g.nodes) p [] inside) ∙ own.are_sets.start_sets.follow_limit p inside;
  }

  pub sets_there : (sets : NodeSets) × AreNodeSets g claims marks sets
  sets_there = (node_sets, are_node_sets)
