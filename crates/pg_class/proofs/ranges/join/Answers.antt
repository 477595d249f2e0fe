use Rattle.std.proofs.Common.{rules, ◌≡◌, ◌-◌, List, length, max, Some, None, slice_get, slice_set, ap, refl, subst, sym, ◌∙◌}
use Rattle.std.specs.Char.{IsScalar}
use Rattle.pg_class.specs.Ranges.{Range, IsRange, with_range}
use Rattle.pg_class.proofs.Joins.{class-more, has-more, joins_at_end, joins_none, with_range-last}
use Rattle.pg_class.proofs.ranges.join.Goals.{in_default-via-in-Some+else-not-is_apart, in_default-via-in_default}
use Rattle.pg_class.proofs.ranges.join.Goals as goal

pub returns-in-Some : goal.returns-in-Some
returns-in-Some c =
    let items = c.args.class.now.items in
    let range : Range = (c.args.first, c.args.last) in
    let highest = c.in-Some.highest.now in
    let got : slice_get items (length items - 1) ≡ Some highest =
    subst (λ (xs : List Range). slice_get xs (length xs - 1) ≡ Some highest) c.deref.ensures.value (sym c.in-Some.ensures.value) in
    let higher : c.max.result ≡ max highest.1 c.args.last = search rules in
    let end : c.len-end.result ≡ length items = search rules in
    let joins = joins_at_end items highest range c.requires.class c.requires.begins c.requires.ascends got
    (sym c.if-not-is_apart.ensures) in
    let joined = ap (λ i. slice_set items (i - 1) (highest.0, c.max.result)) end
    ∙ ap (λ high. slice_set items (length items - 1) (highest.0, high)) higher ∙ joins in
    let first : IsScalar c.args.first = search rules in
    let last : IsScalar c.args.last = search rules in
    let is : IsRange range = record { ascends = c.requires.ascends; first = first; last = last } in
    record {
      joined = joined;
      class = class-more items items _ range is c.requires.class refl joined;
      members = has-more items items _ range is c.requires.class refl joined;
    }

pub returns-in_ok-push-in_default : goal.returns-in_ok-push-in_default
returns-in_ok-push-in_default c =
    let items = c.args.class.now.items in
    let range : Range = (c.args.first, c.args.last) in
    let pushed = c.in_ok-push-in_default.ensures.items in
    let joined : c.push.new.self.items ≡ with_range range items = elim c.in_default.branch [
      | in_default-via-in-Some+else-not-is_apart w ↦
          let got : slice_get items (length items - 1) ≡ Some w.in-Some.highest.now =
          subst (λ (xs : List Range). slice_get xs (length xs - 1) ≡ Some w.in-Some.highest.now) c.deref.ensures.value (sym w.in-Some.ensures.value) in
          pushed ∙ sym (with_range-last items w.in-Some.highest.now range c.requires.class got (sym w.if-not-is_apart.ensures))
      | in_default-via-in_default w ↦
          let none : slice_get items (length items - 1) ≡ None =
          subst (λ (xs : List Range). slice_get xs (length xs - 1) ≡ None) c.deref.ensures.value (sym w.in_default.ensures.value) in
          pushed ∙ sym (joins_none items range none)
    ] in
    let first : IsScalar c.args.first = search rules in
    let last : IsScalar c.args.last = search rules in
    let is : IsRange range = record { ascends = c.requires.ascends; first = first; last = last } in
    record {
      joined = joined;
      class = class-more items items _ range is c.requires.class refl joined;
      members = has-more items items _ range is c.requires.class refl joined;
    }
