use Rattle.std.proofs.Common.{◌≡◌, ◌||◌, ◌-◌, ◌+◌, ◌<◌, suc, ◌∷◌, Some, slice_get, length, ap, sym, subst, ◌∙◌, arith}
use Rattle.pg_pred.specs.Offer.{offer_of}
use Rattle.pg_grammar_form.specs.Classes.{memberships, answer_at}
use Rattle.pg_grammar_form.specs.ClassItems.{item_answers, item_class}
use Rattle.pg_grammar_value.specs.Fits.{ClassFits}
use Rattle.pg_grammar_value.specs.Membership.{Knows}
use Rattle.pg_grammar_form.specs.declared.class.ClassPart.TheVariants.{Class}
use Rattle.pg_grammar_form.proofs.Each.{all-get, get-known}
use Rattle.pg_grammar_value.proofs.Items.{noted_is, asked_is, item_is_below, none_after, names_before, weight-item, knows-next}
use Rattle.pg_grammar_value.proofs.Members.{one_holds-next, drop-next}
use Rattle.pg_grammar_value.proofs.Negated.{negated-first}
use Rattle.pg_grammar_value.proofs.membership.+first_membership.Goals as goal
use Rattle.pg_grammar_value.proofs.membership.+first_membership.Goals.{then-any, else-any, in-Some-answers, in-None}

pub prove-unreachable-requires : goal.prove-unreachable-requires
prove-unreachable-requires g t c =
    let below : c.index-number.result < c.args.below =
    item_is_below c.args.below c.index-number.result c.args.parts.now c.after_complements-negated.result.1.now c.in-Some.after.now c.in-Some.first.now (c.after_complements-negated.ensures.named c.args.below) c.requires.named c.in-Some.ensures.cases.0 (c.in-Class.is ∙ ap Class (sym c.index-number.ensures)) in
    omega arith

pub loop-preserved : goal.loop-preserved
loop-preserved g t c =
    let left : c.in-Union.count - c.loop.counter ≡ suc (c.in-Union.count - (c.loop.counter + 1)) = omega arith in
    let any : c.if-any.any ≡ (c.loop.any || c.first_membership-has.result.0) = elim c.if-any.branch [ then-any w ↦ w.any-is ∙ (w.if-any.true ∙ ap (λ b. b || c.first_membership-has.result.0) (sym w.if-any.true)) | else-any w ↦ w.any-is ∙ ap (λ b. b || c.first_membership-has.result.0) (sym w.if-any.false) ] in
    let bs = memberships (item_answers c.args.items.now c.args.c) c.loop.rest.now c.args.c in
    let k = c.in-Union.count - (c.loop.counter + 1) in
    let first = c.first_membership-has.ensures.first in
    let rest = c.first_membership-has.ensures.rest in
    let before = rw left at c.loop.invariant.any in
    let following = rw left at c.loop.invariant.rest in
    record {
      any = rw (any, first, rest) (one_holds-next c.loop.any k bs ∙ before);
      rest = rw rest (drop-next k bs ∙ following);
      fewer = omega arith;
      named = c.first_membership-has.ensures.named;
      parts = c.first_membership-has.ensures.parts;
      answers = c.first_membership-has.ensures.answers;
    }

pub returns-after-answers-number-clause-named : goal.returns-after-answers-number-clause-named
returns-after-answers-number-clause-named g t c =
    none_after c.args.below c.args.parts.now c.after_complements-negated.result.1.now c.in-Some.after.now c.in-Some.first.now (c.after_complements-negated.ensures.named c.args.below) c.requires.named c.in-Some.ensures.cases.0

pub returns-after-answers-number-clause-parts : goal.returns-after-answers-number-clause-parts
returns-after-answers-number-clause-parts g t c =
    λ r is. (subst (ClassFits (offer_of r.now)) c.in-Some.ensures.cases.0 (c.after_complements-negated.ensures.fit (offer_of r.now) (c.requires.parts r is))).1

pub returns-in-Literal-clause-named : goal.returns-in-Literal-clause-named
returns-in-Literal-clause-named g t c =
    none_after c.args.below c.args.parts.now c.after_complements-negated.result.1.now c.in-Some.after.now c.in-Some.first.now (c.after_complements-negated.ensures.named c.args.below) c.requires.named c.in-Some.ensures.cases.0

pub returns-in-Literal-clause-parts : goal.returns-in-Literal-clause-parts
returns-in-Literal-clause-parts g t c =
    λ r is. (subst (ClassFits (offer_of r.now)) c.in-Some.ensures.cases.0 (c.after_complements-negated.ensures.fit (offer_of r.now) (c.requires.parts r is))).1

pub atom_has-requires-clause-fits : goal.atom_has-requires-clause-fits
atom_has-requires-clause-fits g t c =
    λ r is. (subst (ClassFits (offer_of r.now)) c.in-Some.ensures.cases.0 (c.after_complements-negated.ensures.fit (offer_of r.now) (c.requires.parts r is))).0

pub first_membership-requires : goal.first_membership-requires
first_membership-requires g t c =
    let items = c.args.items.now in
    let number = c.index-number.result in
    let item = c.index-items-number.result in
    let within : number < length items = omega arith in
    let at : slice_get items number ≡ Some item = get-known items number item within c.index-items-number.is in
    let own : c.parts-parts.result.now ≡ item.class = c.parts-parts.ensures.same ∙ ap item_class (sym c.index-items-number.is) in
    let lower : number < c.args.below = omega arith in
    let lighter = weight-item items c.args.below number item at lower in
    let long = ap length own in (
      omega (arith, lighter, long, c.in-Some.ensures.cases.1, c.after_complements-negated.ensures.fewer),
      (
        c.requires.classes,
        (
          omega arith,
          (
            c.requires.fit,
            (
              rw own (names_before items number item c.requires.classes.earlier at),
              (
                (λ r is. rw own (all-get (λ i. ClassFits (offer_of r.now) (item_class i)) items number item (c.requires.fit r is) at)),
                c.requires.answers,
              ),
            ),
          ),
        ),
      ),
    )

pub loop-init : goal.loop-init
loop-init g t c =
    let whole : c.in-Union.count - 0 ≡ c.in-Union.count = omega arith in
    record {
      any = rw whole;
      rest = rw whole;
      fewer = omega arith;
      named = none_after c.args.below c.args.parts.now c.after_complements-negated.result.1.now c.in-Some.after.now c.in-Some.first.now (c.after_complements-negated.ensures.named c.args.below) c.requires.named c.in-Some.ensures.cases.0;
      parts = λ r is. (subst (ClassFits (offer_of r.now)) c.in-Some.ensures.cases.0 (c.after_complements-negated.ensures.fit (offer_of r.now) (c.requires.parts r is))).1;
      answers = c.requires.answers;
    }

pub returns-after-answers-number-clause-answers : goal.returns-after-answers-number-clause-answers
returns-after-answers-number-clause-answers g t c =
    let items = c.args.items.now in
    let number = c.index-number.result in
    let within : number < length items = omega arith in
    let is : c.match-answers-number.has ≡ answer_at (item_answers items c.args.c) number =
    elim c.match-answers-number.branch [
      | in-Some-answers w ↦ w.has-is ∙ noted_is items c.args.c c.args.answers.now number w.in-Some-answers.has c.requires.answers w.in-Some-answers.is
      | in-None w ↦
          w.has-is
          ∙ asked_is items c.args.c number w.index-items-number.result w.parts-parts.result.now w.first_membership.result.0 c.requires.classes.earlier (get-known items number w.index-items-number.result within w.index-items-number.is) (w.parts-parts.ensures.same ∙ ap item_class (sym w.index-items-number.is)) w.first_membership.ensures.first
    ] in
    let knows : Knows items c.args.c c.match-answers-number.answers =
    elim c.match-answers-number.branch [
      | in-Some-answers w ↦ subst (Knows items c.args.c) (sym w.answers-is) c.requires.answers
      | in-None w ↦ subst (Knows items c.args.c) (sym w.answers-is) w.first_membership.ensures.answers
    ] in
    knows-next items c.args.c c.match-answers-number.answers number c.match-answers-number.has knows is

pub returns-after-answers-number-clause-first : goal.returns-after-answers-number-clause-first
returns-after-answers-number-clause-first g t c =
    let items = c.args.items.now in
    let number = c.index-number.result in
    let within : number < length items = omega arith in
    let is : c.match-answers-number.has ≡ answer_at (item_answers items c.args.c) number =
    elim c.match-answers-number.branch [
      | in-Some-answers w ↦ w.has-is ∙ noted_is items c.args.c c.args.answers.now number w.in-Some-answers.has c.requires.answers w.in-Some-answers.is
      | in-None w ↦
          w.has-is
          ∙ asked_is items c.args.c number w.index-items-number.result w.parts-parts.result.now w.first_membership.result.0 c.requires.classes.earlier (get-known items number w.index-items-number.result within w.index-items-number.is) (w.parts-parts.ensures.same ∙ ap item_class (sym w.index-items-number.is)) w.first_membership.ensures.first
    ] in
    let all = item_answers items c.args.c in
    let first : c.in-Some.first.now ≡ Class number = c.in-Class.is ∙ ap Class (sym c.index-number.ensures) in
    let spelled : c.after_complements-negated.result.1.now ≡ Class number ∷ c.in-Some.after.now = c.in-Some.ensures.cases.0 ∙ ap (λ part. part ∷ c.in-Some.after.now) first in
    let meaning = rw spelled at (c.after_complements-negated.ensures.meaning all c.args.c) in
    rw (meaning, is) (negated-first c.after_complements-negated.result.0 (answer_at all number) (memberships all c.in-Some.after.now c.args.c))
