use Rattle.std.proofs.Common.{length, drop, ◌∙◌}
use Rattle.pg_file_items.specs.Entries.{forms_of}
use Rattle.pg_file_items.specs.Sizes.{sizes}
use Rattle.pg_file_items.proofs.ItemLemmas.Counted.{step_counted, first_counted}
use Rattle.pg_file_items.proofs.ItemLemmas.Backwards.{one_back, none_left}
use Rattle.pg_file_items.proofs.size.body_size.Goals as goal

pub loop-form-preserved : goal.loop-form-preserved
loop-form-preserved c =
    let forms = c.args.forms.now in
    let back = one_back c.in-Some.before.now c.in-Some.form.now c.loop-form.rest.now forms c.in-Some.ensures.cases.0 c.loop-form.invariant.front in
    record {
      within = back.within;
      front = back.front;
      sizes = c.in_ok-push_front.ensures.items ∙ rw (back.back, c.size_of_form-size.ensures.rest)
          (step_counted c.in-Some.form.now.form (forms_of (drop (length c.loop-form.rest.now) forms)) c.loop-form.waiting.items c.size_of_form-size.result c.loop-form.invariant.sizes c.size_of_form-size.ensures.size);
    }

pub returns : goal.returns
returns c =
    let all = none_left c.loop-form.rest.now c.args.forms.now c.in_default.ensures.cases in
    c.next_size.ensures.first ∙ rw (c.loop-form.invariant.sizes, all) (first_counted (sizes (forms_of c.args.forms.now)))
