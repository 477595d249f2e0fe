use Rattle.std.proofs.Common.{◌≡◌, ℕ, Bool, List, ◌-◌, ◌+◌, ◌<◌, length, refl, sym, ap, ◌∙◌, arith}
use Rattle.std.specs.Prelude.{◌||◌, is_some, true}
use Rattle.std.proofs.lemmas.Option.{slice_get_read, get_or_from_slice_get}
use Rattle.pg_graph_bits.specs.Numbers.{contains, set_at}
use Rattle.pg_graph.specs.Marks.{is_marked}
use Rattle.pg_predict_conditions.specs.Judged.{part_at}
use Rattle.pg_predict_conditions.specs.Meetings.{first_meeting}
use Rattle.pg_predict_conditions.proofs.Unsuspected.{look_more}
use Rattle.pg_predict_conditions.proofs.suspects.mark_suspects.Goals as goal

pub loop-next-preserved : goal.loop-next-preserved
loop-next-preserved c =
    let sets = c.args.sets.now in
    let meetings = c.args.meetings.now in
    let parts = c.args.parts.now in
    let next : ℕ = c.loop-next.next - 1 in
    let after = c.loop-next.after in
    let part = c.index-parts-next.result in
    let all = c.loop-next.invariant.inside in
    let test = c.loop-next-test.true in
    let inside : next < length parts = omega arith in
    let one : c.loop-next.next ≡ next + 1 = omega arith in
    let is : part_at parts next ≡ part = get_or_from_slice_get parts next part 0 (slice_get_read parts (length parts) next part refl inside c.index-parts-next.is) in
    let first : c.first-first.result.now ≡ set_at sets.firsts (part_at parts next) = c.first-first.ensures ∙ ap (set_at sets.firsts) (sym is) in
    let meets = c.is_some.ensures ∙ ap (λ o. is_some o) c.first_meeting.ensures ∙ ap (λ (set : List Bool). is_some (first_meeting meetings set after)) first in
    let marked = λ (e : c.is_some.result ≡ true). ap (is_marked c.mark_where.new.marks.items) (is ∙ sym c.index.ensures) ∙ c.mark_where.ensures.marked e in
    look_more sets meetings parts next c.loop-next.next c.args.marks.now.items c.loop-next.marks.items after c.unite.new.self c.mark_where.new.marks.items c.is_some.result one c.loop-next.invariant
    meets c.mark_where.ensures.long c.mark_where.ensures.more marked c.unite.ensures.limit
    (λ n. c.unite.ensures.united n ∙ ap (λ (set : List Bool). contains after n || contains set n) first)
