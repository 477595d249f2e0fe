-- A grammar that is predictive, `a = choice(seq(satisfy('0' - '9'), a), seq())`: what the laws take for granted can be met, and by
-- sets wider than the least ones, since only the leaf is claimed to begin with a digit, and all above it with U+0030 to U+003A.
use Rattle.std.proofs.Common.{◌≡◌, inl, inr, ℕ, zero, suc, List, [], ◌∷◌, Bool, true, false, refl, subst, get_or, Some, None, slice_get, arith}
use Rattle.std.specs.Prelude.{codes}
use Rattle.std.specs.List.{Contains}
use Rattle.std.proofs.lemmas.Bool.Decides.{nat_tests}
use Rattle.pg_class.specs.Ranges.{has}
use Rattle.pg_grammar_value.specs.Grammar.{Grammar}
use Rattle.pg_grammar_form.specs.Forms.{Node}
use Rattle.pg_grammar_form.specs.declared.class.ClassPart.{ClassPart}
use Rattle.pg_grammar_form.specs.declared.class.ClassPart.TheVariants as written
use Rattle.pg_grammar_form.specs.declared.form.Form.TheVariants as form
use Rattle.pg_grammar_form.specs.declared.form.Leaf.TheVariants as leaf
use Rattle.pg_grammar_value.specs.declared.grammar.Rule as declared
use Rattle.pg_start.specs.Apart.{Apart}
use Rattle.pg_start.specs.declared.kind.StartKind.{StartKind}
use Rattle.pg_start.specs.declared.kind.StartKind.TheVariants.{Class, End}
use Rattle.pg_derive.specs.ClosedSets.{NodeSets, Covers, Within, BeginsParts}
use Rattle.pg_derive.specs.Predictive.{LeafIsPredictive, PartIsPredictive, ComesBefore, SeqIsPredictive, RuleIsPredictive, IsPredictiveAt, IsPredictive}
use Rattle.pg_derive.proofs.Begins.{contained_covers}

-- ---- the grammar

abbrev digits : List ClassPart
digits = written.Range 48 57 ∷ []

abbrev nodes : List Node
nodes = form.Choice (1 ∷ 4 ∷ []) ∷ form.Seq (2 ∷ 3 ∷ []) ∷ form.Leaf (leaf.Satisfy digits) ∷ form.Rule 0 ∷ (form.Seq []) ∷ []

abbrev a : declared.Rule
a = record { name = codes "a"; body = 0 }

abbrev g : Grammar
g = record { classes = []; words = []; operators = None; initials = []; nodes = nodes; rules = a ∷ []; start = 0 }

-- ---- the sets

abbrev digit : StartKind
digit = Class ((48, 57) ∷ [])

abbrev wider : StartKind
wider = Class ((48, 58) ∷ [])

abbrev is_nullable : ℕ → Bool
is_nullable p = get_or (true ∷ false ∷ false ∷ true ∷ true ∷ []) p false

abbrev first_of : ℕ → List StartKind
first_of p = get_or ((wider ∷ []) ∷ (wider ∷ []) ∷ (digit ∷ []) ∷ (wider ∷ []) ∷ [] ∷ []) p []

abbrev follow_of : ℕ → List StartKind
follow_of p = get_or ((End ∷ []) ∷ (End ∷ []) ∷ (wider ∷ End ∷ []) ∷ (End ∷ []) ∷ (End ∷ []) ∷ []) p []

abbrev level_of : ℕ → ℕ
level_of p = get_or (2 ∷ 1 ∷ 0 ∷ 3 ∷ 0 ∷ []) p 0

abbrev sets : NodeSets
sets = record { nullable = is_nullable; first = first_of; follow = follow_of; level = level_of }

-- ---- lists of starts

only : (s t : StartKind) → Contains (s ∷ []) t → s ≡ t
only s t (zero, l, e) = e
only s t (suc k, l, e) = absurd (omega arith)

nothing : (t : StartKind) → Contains [] t → ⊥
nothing t (k, l, e) = absurd (omega arith)

first_there : (t : StartKind) (ts : List StartKind) → Contains (t ∷ ts) t
first_there t ts = (zero, omega arith, refl)

second_there : (s t : StartKind) → Contains (s ∷ t ∷ []) t
second_there s t = (suc zero, omega arith, refl)

within_itself : (starts : List StartKind) → Within starts starts
within_itself starts s h = contained_covers starts s h

covers_only : (starts : List StartKind) (s t : StartKind) → Covers starts s → Contains (s ∷ []) t → Covers starts t
covers_only starts s t h k = subst (Covers starts) (only s t k) h

-- the wider class covers the digits
in_wider : (c : ℕ) → has ((48, 57) ∷ []) c ≡ true → has ((48, 58) ∷ []) c ≡ true
in_wider c h = grind (arith, nat_tests)

digit_covered : (starts : List StartKind) → Contains starts wider → Covers starts digit
digit_covered starts h text scalars place there = record { start = wider; among = h; there = record { character = there.character; there = there.there; member = in_wider there.character there.member } }

-- ---- the nodes

choice_fits : IsPredictiveAt g sets 0 (form.Choice (1 ∷ 4 ∷ []))
choice_fits = (
  record { empty = λ e. refl; first = within_itself (wider ∷ []); follow = within_itself (End ∷ []); falls = omega arith },
  (λ other h. before other h),
  (record { empty = λ e. refl; first = λ s h. absurd (nothing s h); follow = within_itself (End ∷ []); falls = omega arith }, (λ other h. absurd (none other h)), tt),
)
  where
    none : (n : ℕ) → Contains [] n → ⊥
    none n (k, l, e) = absurd (omega arith)

    before : (other : ℕ) → Contains (4 ∷ []) other → ComesBefore sets 0 1 other
    before other (zero, l, e) = subst (ComesBefore sets 0 1) e (record {
      full = refl;
      first = λ s t h k. absurd (nothing t k);
      follow = λ n s t h k. subst (λ z. Apart z t) (only wider s h) (subst (λ z. Apart wider z) (only End t k) tt);
    })
    before other (suc k, l, e) = absurd (omega arith)

seq_fits : SeqIsPredictive sets 1 (2 ∷ 3 ∷ [])
seq_fits = record {
  empty = λ h. let e : false ≡ true = h.0 in absurd (cc);
  first = λ s h. begun s h;
  follow = (
    (λ s h. after s h),
    (λ n s h. covers_only (wider ∷ End ∷ []) End s (contained_covers (wider ∷ End ∷ []) End (second_there wider End)) h),
    ((λ s h. absurd h), (λ n. within_itself (End ∷ [])), tt),
  );
  falls = (omega arith, λ e. absurd (cc));
}
  where
    after : (s : StartKind) → BeginsParts sets (3 ∷ []) s → Covers (wider ∷ End ∷ []) s
    after s (inl h) = covers_only (wider ∷ End ∷ []) wider s (contained_covers (wider ∷ End ∷ []) wider (first_there wider (End ∷ []))) h
    after s (inr h) = absurd h.1

    begun : (s : StartKind) → BeginsParts sets (2 ∷ 3 ∷ []) s → Covers (wider ∷ []) s
    begun s (inl h) = covers_only (wider ∷ []) digit s (digit_covered (wider ∷ []) (first_there wider [])) h
    begun s (inr h) = let e : false ≡ true = h.0 in absurd (cc)

digit_fits : LeafIsPredictive g sets 2 (leaf.Satisfy digits)
digit_fits text scalars place h = record { start = digit; among = first_there digit []; there = record { character = h.character; there = h.there; member = h.member } }

rule_fits : RuleIsPredictive g sets 3 0
rule_fits = record { body = λ named e. fits named e }
  where
    fits : (named : declared.Rule) → slice_get (a ∷ []) 0 ≡ Some named → PartIsPredictive sets 3 named.body
    fits named e =
        let same : a ≡ named = cc in
        subst (λ (z : declared.Rule). PartIsPredictive sets 3 z.body) same
        (record { empty = λ n. refl; first = within_itself (wider ∷ []); follow = within_itself (End ∷ []); falls = omega arith })

nothing_fits : SeqIsPredictive sets 4 []
nothing_fits = record { empty = λ h. refl; first = λ s h. absurd h; follow = tt; falls = tt }

fits_at : (p : ℕ) (n : Node) → slice_get nodes p ≡ Some n → IsPredictiveAt g sets p n
fits_at zero n e = let same : form.Choice (1 ∷ 4 ∷ []) ≡ n = cc in subst (IsPredictiveAt g sets 0) same choice_fits
fits_at (suc zero) n e = let same : form.Seq (2 ∷ 3 ∷ []) ≡ n = cc in subst (IsPredictiveAt g sets 1) same seq_fits
fits_at (suc (suc zero)) n e = let same : form.Leaf (leaf.Satisfy digits) ≡ n = cc in subst (IsPredictiveAt g sets 2) same digit_fits
fits_at (suc (suc (suc zero))) n e = let same : form.Rule 0 ≡ n = cc in subst (IsPredictiveAt g sets 3) same rule_fits
fits_at (suc (suc (suc (suc zero)))) n e = let same : (form.Seq []) ≡ n = cc in subst (IsPredictiveAt g sets 4) same nothing_fits
fits_at (suc (suc (suc (suc (suc k))))) n e = absurd (cc)

is_predictive : IsPredictive g sets
is_predictive = record {
  nodes = fits_at;
  end = λ start e.
      let same : a ≡ start = cc in subst (λ (z : declared.Rule). Covers (follow_of z.body) End) same (contained_covers (End ∷ []) End (first_there End []));
}
