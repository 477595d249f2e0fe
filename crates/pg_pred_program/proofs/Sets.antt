-- The ranges of a set of code points have its characters.
use Rattle.std.proofs.Common.{◌≡◌, ◌≤◌, ℕ, ◌||◌, List, [], ◌∷◌, refl, ap, ◌∙◌, arith}
use Rattle.std.proofs.Math.Bool.{or-false}
use Rattle.std.proofs.lemmas.Bool.Decides.{leb_tells}
use Rattle.std.specs.Char.{IsScalar}
use Rattle.pg_class.specs.Ranges.{Range, in_range, has}
use Rattle.unicode.specs.Rows.{in_ranges, HasExactly}
use Rattle.unicode.specs.Sets.{in_set}
use Rattle.unicode.specs.GeneralCategory.{general_category, general_category_eq}
use Rattle.unicode.specs.GeneralCategoryGroup.{in_group}
use Rattle.unicode.specs.declared.properties.GeneralCategory.{GeneralCategory}
use Rattle.unicode.specs.declared.properties.GeneralCategoryGroup.{GeneralCategoryGroup}
use Rattle.unicode.specs.declared.sets.Set.{Set}
use Rattle.unicode.specs.declared.sets.Set.TheVariants.{Category, CategoryGroup}
use Rattle.pg_pred_program.specs.Categories.{HasJust}

has-in_ranges : (rs : List Range) (c : ℕ) → has rs c ≡ in_ranges rs c
unfolding in_ranges
has-in_ranges [] c = refl
has-in_ranges (r ∷ rs) c = ap (λ b. in_range c r || b) (has-in_ranges rs c)

scalar_top : (c : ℕ) → IsScalar c → c ≤ 0x10_FFFF
scalar_top c h = grind (arith, leb_tells)

-- the ranges of a set have its characters
pub has-set : (rs : List Range) (set : Set) → HasExactly rs (in_set set) → HasJust rs (in_set set)
has-set rs set exactly c scalar = has-in_ranges rs c ∙ exactly c (scalar_top c scalar)

-- the code points of a group of categories, and of one category
pub in_set-group : (group : GeneralCategoryGroup) (c : ℕ) → in_set (CategoryGroup group) c ≡ in_group group (general_category c)
unfolding in_set
in_set-group group c = refl

pub in_set-category : (category : GeneralCategory) (c : ℕ) → in_set (Category category) c ≡ general_category_eq (general_category c) category
unfolding in_set
in_set-category category c = refl

-- one range has its characters
pub has-one : (r : Range) (c : ℕ) → has (r ∷ []) c ≡ in_range c r
has-one r c = or-false (in_range c r)
