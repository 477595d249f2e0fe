-- For which starts claimed ones stand.
use Rattle.std.proofs.Common.{◌≡◌, ◌<◌, ◌⊎◌, ℕ, List, [], ◌∷◌, ◌++◌, None, length, inl, inr, refl, sym, subst, arith}
use Rattle.std.specs.Prelude.{◌↔◌, IsSome}
use Rattle.std.proofs.lemmas.Option.{slice_get_within}
use Rattle.std.proofs.lemmas.Bool.{true≢false}
use Rattle.pg_certificate.specs.declared.certificate.ClaimedStart.{ClaimedStart}
use Rattle.pg_certificate.specs.declared.certificate.ClaimedStart.TheVariants as claimed
use Rattle.pg_class.specs.Ranges.{Range}
use Rattle.pg_grammar_form.specs.declared.form.Form.TheVariants as form
use Rattle.pg_grammar_form.specs.declared.form.Leaf.TheVariants as leaf
use Rattle.pg_sets_own.specs.Listed.{IsNumbered}
use Rattle.pg_sets_own.specs.OperatorStarts.{AreBothStarts}
use Rattle.pg_sets_own.specs.Own.{IsAmong, AreOwn}
use Rattle.pg_sets_own.specs.OwnStarts as own
use Rattle.pg_sets_own.specs.OwnStarts.{OwnStart}
use Rattle.pg_sets_own.specs.declared.listed.ListedStart.{ListedStart}
use Rattle.pg_sets_own.specs.declared.operators.OperatorStarts.{OperatorStarts}
use Rattle.pg_sets_own.proofs.Owned.{listed_path}
use Rattle.pg_start.specs.declared.kind.StartKind.{StartKind}
use Rattle.pg_start.specs.declared.kind.StartKind.TheVariants.{Class, Key, End}
use Rattle.pg_grammar_value.specs.Grammar.{Grammar}
use Rattle.pg_certificate_verify.specs.Standing.{StandsAs, IsClaimedAs}
use Rattle.pg_predict_conditions.proofs.Numbered.{numbered_once}
use Rattle.pg_certificate_own.proofs.Origin.{operators_there}

-- ---- lists

pub among_append : (xs ys : List ListedStart) (listed : ListedStart) → IsAmong (xs ++ ys) listed ↔ (IsAmong xs listed ⊎ IsAmong ys listed)
among_append [] ys listed = (λ h. inr h, λ h. elim h [ inl none ↦ absurd none | inr there ↦ there ])
among_append (x ∷ xs) ys listed =
    let rest = among_append xs ys listed in (
      λ h. elim h [ inl first ↦ inl (inl first) | inr later ↦ elim (rest.0 later) [ inl one ↦ inl (inr one) | inr other ↦ inr other ] ],
      λ h. elim h [ inl one ↦ elim one [ inl first ↦ inl first | inr later ↦ inr (rest.1 (inl later)) ] | inr other ↦ inr (rest.1 (inr other)) ],
    )

pub claimed_last : (g : Grammar) (claims : List ClaimedStart) (one : ClaimedStart) (listed : ListedStart)
    → IsClaimedAs g (claims ++ one ∷ []) listed ↔ (IsClaimedAs g claims listed ⊎ StandsAs g one listed)
claimed_last g [] one listed = (λ h. elim h [ inl this ↦ inr this | inr none ↦ absurd none ], λ h. elim h [ inl none ↦ absurd none | inr this ↦ inl this ])
claimed_last g (x ∷ xs) one listed =
    let rest = claimed_last g xs one listed in (
      λ h. elim h [ inl first ↦ inl (inl first) | inr later ↦ elim (rest.0 later) [ inl old ↦ inl (inr old) | inr new ↦ inr new ] ],
      λ h. elim h [ inl old ↦ elim old [ inl first ↦ inl first | inr later ↦ inr (rest.1 (inl later)) ] | inr new ↦ inr (rest.1 (inr new)) ],
    )

-- starts and claims grow alike
pub both_grow : (g : Grammar) (claims : List ClaimedStart) (one : ClaimedStart) (starts more : List ListedStart) (listed : ListedStart)
    → IsAmong starts listed ↔ IsClaimedAs g claims listed → IsAmong more listed ↔ StandsAs g one listed
    → IsAmong (starts ++ more) listed ↔ IsClaimedAs g (claims ++ one ∷ []) listed
both_grow g claims one starts more listed old new =
    let among = among_append starts more listed in
    let last = claimed_last g claims one listed in (
      λ h. last.1 (elim (among.0 h) [ inl there ↦ inl (old.0 there) | inr there ↦ inr (new.0 there) ]),
      λ h. among.1 (elim (last.0 h) [ inl there ↦ inl (old.1 there) | inr there ↦ inr (new.1 there) ]),
    )

-- ---- one start

only_one : (x listed : ListedStart) → IsAmong (x ∷ []) listed → x ≡ listed
only_one x listed (inl same) = same
only_one x listed (inr none) = elim none [ ]

abbrev pub Plain : StartKind → ListedStart
Plain start = record { start = start; word = 0 }

pub class_stands : (g : Grammar) (ranges : List Range) (listed : ListedStart) → IsAmong (Plain (Class ranges) ∷ []) listed ↔ StandsAs g (claimed.Class ranges) listed
class_stands g ranges listed = (
  λ h. subst (StandsAs g (claimed.Class ranges)) (only_one (Plain (Class ranges)) listed h) (record { fits = tt; stands = refl; named = refl }),
  λ s. inl (listed_path s.stands (sym (subst (λ k. IsNumbered g k listed.word) (sym s.stands) s.named))),
)

pub key_stands : (g : Grammar) (text : List ℕ) (excluded : List Range) (listed : ListedStart) → 0 < length text
    → IsAmong (Plain (Key text excluded) ∷ []) listed ↔ StandsAs g (claimed.Key text excluded) listed
key_stands g text excluded listed long = (
  λ h. subst (StandsAs g (claimed.Key text excluded)) (only_one (Plain (Key text excluded)) listed h) (record { fits = long; stands = refl; named = refl }),
  λ s. inl (listed_path s.stands (sym (subst (λ k. IsNumbered g k listed.word) (sym s.stands) s.named))),
)

pub no_key_stands : (g : Grammar) (text : List ℕ) (excluded : List Range) (listed : ListedStart) → length text ≡ 0 → IsAmong [] listed ↔ StandsAs g (claimed.Key text excluded) listed
no_key_stands g text excluded listed none = (λ h. absurd h, λ s. absurd (omega (arith, none, s.fits)))

pub end_stands : (g : Grammar) (listed : ListedStart) → IsAmong (Plain End ∷ []) listed ↔ StandsAs g claimed.End listed
end_stands g listed = (
  λ h. subst (StandsAs g claimed.End) (only_one (Plain End) listed h) (record { fits = tt; stands = refl; named = refl }),
  λ s. inl (listed_path s.stands (sym (subst (λ k. IsNumbered g k listed.word) (sym s.stands) s.named))),
)

word_there : {g : Grammar} {w : ℕ} {start : StartKind} → OwnStart g (form.Leaf (leaf.Word w)) start → w < length g.words
word_there {g} {w} (own.word {item = item} there heads rest reserved) = slice_get_within g.words w item there

pub word_stands : (g : Grammar) (w : ℕ) (starts : List ListedStart) → AreOwn g (form.Leaf (leaf.Word w)) starts
    → (listed : ListedStart) → IsAmong starts listed ↔ StandsAs g (claimed.Word w) listed
word_stands g w starts are listed = (
  λ h. let is = (are.members listed).0 h in record { fits = word_there is.own; stands = is.own; named = is.named },
  λ s. (are.members listed).1 (record { own = s.stands; named = s.named }),
)

-- ---- the operators

pub operator_stands : (g : Grammar) (both : OperatorStarts) → AreBothStarts g both → (listed : ListedStart)
    → IsAmong (both.operator ∷ []) listed ↔ StandsAs g claimed.Operator listed
operator_stands g both are listed =
    let is = (are.operator both.operator.start).1 refl in (
      λ h. subst (StandsAs g claimed.Operator) (only_one both.operator listed h) (record { fits = operators_there is; stands = is; named = are.named }),
      λ s.
          let same = (are.operator listed.start).0 s.stands in
          inl (listed_path same (numbered_once g listed.start both.operator.word listed.word (subst (λ k. IsNumbered g k both.operator.word) same are.named) s.named)),
    )

pub no_operator_stands : (g : Grammar) → g.operators ≡ None → (listed : ListedStart) → IsAmong [] listed ↔ StandsAs g claimed.Operator listed
no_operator_stands g none listed = (λ h. absurd h, λ s. absurd (true≢false (sym (subst IsSome none s.fits))))
