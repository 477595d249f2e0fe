use Rattle.std.proofs.Common.{rules, ◌≡◌, ◌≤◌, length, ◌<◌, refl, sym, ap, ◌∙◌}
use Rattle.pg_class.specs.Ranges.{has}
use Rattle.std.proofs.lemmas.Result.{IfOk-weaker}
use Rattle.pg_grammar_classes.proofs.ClassStack.{answer_there, answer_past}
use Rattle.std.proofs.lemmas.Option.{slice_get_read}
use Rattle.pg_grammar_classes.proofs.classes.class_at.Goals as goal

pub returns-in-Some : goal.returns-in-Some
returns-in-Some c =
    let items = c.args.items.now in
    let class = c.in-Some.class.now in
    let within : c.args.item < length items = search rules in
    let at = slice_get_read items (length items) c.args.item class refl within (c.in-Some.ensures.lookup.1) in
    IfOk-weaker c.share.result (λ shared. shared ≡ class) _ (λ shared same x is. ap (λ y. has y x) same ∙ sym (answer_there items c.args.item x class at)) c.share.ensures

pub returns-in-None : goal.returns-in-None
returns-in-None c =
    let past : length c.args.items.now ≤ c.args.item = search rules in
    IfOk-weaker c.class_in.result _ _ (λ class none x is. none x is ∙ sym (answer_past c.args.items.now c.args.item x past)) c.class_in.ensures
