use Rattle.std.proofs.Common.{length, drop, ap, ◌∙◌}
use Rattle.std.proofs.lemmas.Result.{err_from_is_err_and}
use Rattle.pg_pred.specs.Offer.{offer_of}
use Rattle.pg_file_meaning.specs.Names.{FormIsKnown}
use Rattle.pg_file_items.specs.Entries.{forms_of}
use Rattle.pg_file_meaning.specs.Bodies.{all_bases_of}
use Rattle.pg_file_meaning.specs.Spans.{all_spans_of}
use Rattle.pg_file_meaning.proofs.MeaningLemmas.Lookup.{same_err}
use Rattle.pg_file_items.proofs.ItemLemmas.Backwards.{one_back}
use Rattle.pg_file_meaning.proofs.MeaningLemmas.Placed.{bases_step, spans_step, form_back}
use Rattle.pg_file_meaning.proofs.replacing.body_meant.Goals as goal

pub returns-in_err-body-clause-refused : goal.returns-in_err-body-clause-refused
returns-in_err-body-clause-refused g c e known =
    let forms = c.args.forms.now in
    let back = one_back c.in-Some.before.now c.in-Some.form.now c.loop-form.rest.now forms c.in-Some.ensures.cases.0 c.loop-form.invariant.front in
    let p = err_from_is_err_and c.from_residual.result c.from_residual.ensures.1 in
    let q = rw (p.1, p.2) at e in
    c.in_err-body.ensures.refused (same_err _ _ q)
    (form_back (FormIsKnown (offer_of c.args.registry.now) c.args.classes.now) c.in-Some.before.now c.in-Some.form.now c.loop-form.rest.now forms back known)

pub loop-form-preserved : goal.loop-form-preserved
loop-form-preserved g c =
    let forms = c.args.forms.now in
    let back = one_back c.in-Some.before.now c.in-Some.form.now c.loop-form.rest.now forms c.in-Some.ensures.cases.0 c.loop-form.invariant.front in
    record {
      within = back.within;
      front = back.front;
      bodies = ap all_bases_of c.in_ok-push_front.ensures.items ∙ rw (back.back, c.in_ok-body.ensures.rest)
          (bases_step (offer_of c.args.registry.now) c.args.classes.now c.in-Some.form.now.form (forms_of (drop (length c.loop-form.rest.now) forms))
          c.loop-form.waiting.items c.in_ok-body.body c.loop-form.invariant.bodies c.in_ok-body.ensures.meant);
      spans = ap all_spans_of c.in_ok-push_front.ensures.items ∙ rw (back.back, c.in_ok-body.ensures.rest)
          (spans_step c.in-Some.form.now (drop (length c.loop-form.rest.now) forms) c.loop-form.waiting.items c.in_ok-body.body c.loop-form.invariant.spans c.in_ok-body.ensures.spans);
      known = rw back.back (c.in_ok-body.ensures.known, c.loop-form.invariant.known);
    }
