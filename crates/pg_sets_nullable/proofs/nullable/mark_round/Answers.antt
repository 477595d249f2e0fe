use Rattle.std.proofs.Common.{◌≡◌, ◌-◌, ◌<◌, true, false, length, slice_get, get_or, refl, sym, ap, subst, inl, inr, ◌∙◌, arith}
use Rattle.std.proofs.lemmas.Bool.{cases_eq, true≢false}
use Rattle.std.proofs.lemmas.Option.{slice_get_read, same_Some}
use Rattle.pg_graph.specs.Marks.{is_marked}
use Rattle.pg_sets_nullable.specs.NodeMarks.{looks_nullable}
use Rattle.pg_sets_nullable.specs.Nullable.{Nullable, at_node}
use Rattle.pg_graph.proofs.Marking.{marked_others, one_fewer}
use Rattle.pg_sets_nullable.proofs.NullableMarks.{shown}
use Rattle.pg_sets_nullable.proofs.nullable.mark_round.Goals as goal
use Rattle.pg_sets_nullable.proofs.nullable.mark_round.Goals.{else-not-marks-p-via-then-not-marks-p+else-looks_nullable, else-not-marks-p-via-else-not-marks-p}

pub loop-p-preserved-then-looks_nullable : goal.loop-p-preserved-then-looks_nullable
loop-p-preserved-then-looks_nullable c =
    let g = c.args.grammar.now in
    let i = c.loop-p.p - 1 in
    let marks = c.loop-p.marks in
    let node = c.index-nodes-p.result in
    let nodes = c.nodes-nodes.ensures.all in
    let same = ap length nodes in
    let inside : i < length g.nodes = omega arith in
    let below : i < length marks = omega arith in
    let read : node ≡ get_or g.nodes i node = c.index-nodes-p.is ∙ ap (λ ns. get_or ns i node) nodes in
    let at = slice_get_read g.nodes (length g.nodes) i node refl inside read in
    let is : looks_nullable g.rules marks node ≡ true =
    ap (λ rs. looks_nullable rs marks node) (sym c.rules-rules.ensures.all) ∙ (sym c.looks_nullable.ensures ∙ c.if-looks_nullable.true) in
    let before = c.loop-p.invariant.nullable in
    let here : Nullable g i = at_node at (shown g marks before node is) in
    let out : is_marked marks i ≡ false = c.if-not-marks-p.true in
    let one = one_fewer marks i below out in
    let few = c.loop-p.invariant.no_more in
    record {
      nullable = λ p h. elim (cases_eq p i) [ inl e ↦ subst (Nullable g) (sym e) here | inr ne ↦ before p (sym (marked_others marks i p ne) ∙ h) ];
      no_more = omega arith;
      fewer = omega arith;
      closed = λ e p n least known looks. absurd (true≢false e);
    }

pub loop-p-preserved : goal.loop-p-preserved
loop-p-preserved c =
    let g = c.args.grammar.now in
    let i = c.loop-p.p - 1 in
    let marks = c.loop-p.marks in
    let nodes = c.nodes-nodes.ensures.all in
    let long = ap length nodes in
    record {
      nullable = c.loop-p.invariant.nullable;
      no_more = c.loop-p.invariant.no_more;
      fewer = c.loop-p.invariant.fewer;
      closed = λ e p n least known looks.
          elim (cases_eq p i) [
            | inr ne ↦ c.loop-p.invariant.closed e p n (omega arith) known looks
            | inl same ↦
                elim c.else-not-marks-p.branch [
                  | else-not-marks-p-via-then-not-marks-p+else-looks_nullable w ↦
                      let node = w.index-nodes-p.result in
                      let inside : i < length g.nodes = omega arith in
                      let read : node ≡ get_or g.nodes i node = w.index-nodes-p.is ∙ ap (λ ns. get_or ns i node) nodes in
                      let at = slice_get_read g.nodes (length g.nodes) i node refl inside read in
                      let is : looks_nullable g.rules marks node ≡ false =
                      ap (λ rs. looks_nullable rs marks node) (sym c.rules-rules.ensures.all) ∙ (sym w.looks_nullable.ensures ∙ w.if-looks_nullable.false) in
                      let one = same_Some n node (sym known ∙ (ap (slice_get g.nodes) same ∙ at)) in
                      absurd (true≢false (sym looks ∙ (ap (looks_nullable g.rules marks) one ∙ is)))
                  | else-not-marks-p-via-else-not-marks-p w ↦ ap (is_marked marks) same ∙ w.if-not-marks-p.false
                ]
          ];
    }
