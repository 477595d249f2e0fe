use Rattle.std.proofs.Common.{rules, ◌≡◌, ◌≤◌, ◌∙◌, ℕ, ap, List, All, subst, sym}
use Rattle.std.proofs.lemmas.List.Sorted.{All-permutation, IsNonDecreasingBy-from_sort_by_key, list_any-IsPermutation}
use Rattle.std.proofs.lemmas.Result.{IfOk-weaker}
use Rattle.std.specs.List.Sorted.{IsNonDecreasingBy}
use Rattle.std.specs.Char.{IsScalar}
use Rattle.pg_class.specs.Ranges.{Range, has, in_range}
use Rattle.pg_class.proofs.ranges.joined.Goals as goal

pub joined_in_order-requires-clause-ascend : goal.joined_in_order-requires-clause-ascend
joined_in_order-requires-clause-ascend c =
    subst (λ (xs : List Range). All (λ r. r.0 ≤ r.1) xs) (sym c.as_slice.ensures.value)
    (All-permutation (λ (r : Range). r.0 ≤ r.1) _ _ c.sort_unstable_by_key.ensures.permutation c.requires)

pub joined_in_order-requires-clause-rise : goal.joined_in_order-requires-clause-rise
joined_in_order-requires-clause-rise c =
    subst (λ (xs : List Range). IsNonDecreasingBy (λ r. r.0) xs) (sym c.as_slice.ensures.value)
    (IsNonDecreasingBy-from_sort_by_key (λ (r : Range). r.0) _ c.sort_unstable_by_key.ensures.sorted (λ a r q k. search rules))

pub returns-clause-members : goal.returns-clause-members
returns-clause-members c =
    let ranges : List Range = c.args.ranges.items in
    let same = λ (k : ℕ). ap (λ (xs : List Range). has xs k) c.as_slice.ensures.value
    ∙ sym (list_any-IsPermutation (in_range k) _ _ c.sort_unstable_by_key.ensures.permutation) in
    IfOk-weaker c.joined_in_order.result _ (λ v. (k : ℕ) → IsScalar k → has v.items k ≡ has ranges k)
    (λ v members k scalar. members k scalar ∙ same k) c.joined_in_order.ensures.members
